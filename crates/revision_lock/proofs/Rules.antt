-- What the rule says of one seat, and how it goes on where the course does.
use Rattle.std.proofs.Common.{◌≡◌, ◌≢◌, ℕ, ◌+◌, ◌^◌, ◌<◌, ◌≤◌, true, false, List, [], ◌∷◌, ◌++◌, length, set, sum_by, refl, sym, ap, subst, ◌∙◌, ⊎_elim, arith}
use mathlib.Core.Option.{some}
use lib.ListN.{get_elem?}
use Rattle.atomic_table.specs.Table.{State}
use Rattle.atomic_table.proofs.Lists.{at_set, set_else}
use Rattle.revision_lock.specs.declared.view.Stage.{Stage}
use Rattle.revision_lock.specs.declared.view.Stage.TheVariants.{Idle, Waits, Works}
use Rattle.revision_lock.specs.declared.view.View.{View}
use Rattle.revision_lock.specs.declared.view.Slot.{Slot}
use Rattle.revision_lock.specs.Order.{Course, Stands, Ruled, tickets_at, tickets_in, share_in}
use Rattle.revision_lock.proofs.Lists.{with_at, with_at_else, given_over, at_one, sum_le}

module _ {E : Type 0} where
  -- the course after each step
  abbrev pub after_draw : ℕ → Course E → Course E
  after_draw me c = record { log = c.log; next = c.next + 1; serving = c.serving; holder = with_at c.next me c.holder; owner = c.owner; busy = c.busy }

  abbrev pub after_look : Course E → Course E
  after_look c = record { log = c.log; next = c.next; serving = c.serving; holder = c.holder; owner = c.owner; busy = true }

  abbrev pub after_count : ℕ → E → Course E → Course E
  after_count me e c = record { log = c.log ++ e ∷ []; next = c.next; serving = c.serving; holder = c.holder; owner = with_at (length c.log) me c.owner; busy = c.busy }

  abbrev pub after_pass : Course E → Course E
  after_pass c = record { log = c.log; next = c.next; serving = c.serving + 1; holder = c.holder; owner = c.owner; busy = false }

  abbrev pub after_join : ℕ → ℕ → Course E → Course E
  after_join me other c = record { log = c.log; next = c.next; serving = c.serving; holder = c.holder; owner = given_over other me c.owner; busy = c.busy }

module _ {V E : Type 0} where
  pub stands_draw : (me : ℕ) (c : Course E) (j : ℕ) (u : View V E) (st : Stage) → Stands c j u st → Stands (after_draw me c) j u st
  stands_draw me c j u Idle h = tt
  stands_draw me c j u (Waits t) h = let a = h.2 in (h.0, h.1, omega arith, with_at_else c.next me c.holder t (λ e. omega arith) ∙ h.3)
  stands_draw me c j u (Works t) h = let a = h.2 in (h.0, h.1, omega arith, with_at_else c.next me c.holder t (λ e. omega arith) ∙ h.3, h.4, h.5)

  pub stands_look : (c : Course E) (j : ℕ) (u : View V E) (st : Stage) → Stands c j u st → Stands (after_look c) j u st
  stands_look c j u Idle h = tt
  stands_look c j u (Waits t) h = h
  stands_look c j u (Works t) h = (h.0, h.1, h.2, h.3, refl, h.5)

  pub stands_count : (me : ℕ) (e : E) (c : Course E) (j : ℕ) (u : View V E) (st : Stage) → j ≢ me → c.holder c.serving ≡ me → Stands c j u st → Stands (after_count me e c) j u st
  stands_count me e c j u Idle apart mine h = tt
  stands_count me e c j u (Waits t) apart mine h = h
  stands_count me e c j u (Works t) apart mine h = absurd (apart (sym h.3 ∙ (ap c.holder h.1 ∙ mine)))

  pub stands_pass : (me : ℕ) (c : Course E) (j : ℕ) (u : View V E) (st : Stage) → j ≢ me → c.holder c.serving ≡ me → Stands c j u st → Stands (after_pass c) j u st
  stands_pass me c j u Idle apart mine h = tt
  stands_pass me c j u (Waits t) apart mine h =
      let low : c.serving ≤ t = h.1 in
      let other : t ≢ c.serving = λ e. apart (sym h.3 ∙ (ap c.holder e ∙ mine)) in
      (h.0, omega arith, h.2, h.3)
  stands_pass me c j u (Works t) apart mine h = absurd (apart (sym h.3 ∙ (ap c.holder h.1 ∙ mine)))

  pub stands_join : (me other : ℕ) (c : Course E) (j : ℕ) (u : View V E) (st : Stage) → Stands c j u st → Stands (after_join me other c) j u st
  stands_join me other c j u Idle h = tt
  stands_join me other c j u (Waits t) h = h
  stands_join me other c j u (Works t) h = h

  -- a seat with a ticket has some share
  pub one_share : (c : Course E) (j : ℕ) (u : View V E) (st : Stage) → Stands c j u st → tickets_at st ≤ u.share
  one_share c j u Idle h = omega arith
  one_share c j u (Waits t) h = let a : 0 < u.share = h.0 in omega arith
  one_share c j u (Works t) h = let a : 0 < u.share = h.0 in omega arith

  -- what holds of the view put in, and of the other views before, holds of each view after
  pub each_set : (P : ℕ → View V E → Type 0) (vs : List (View V E)) (me : ℕ) (w : View V E) → P me w → ((j : ℕ) (u : View V E) → j ≢ me → get_elem? vs j ≡ some u → P j u)
      → (j : ℕ) (u : View V E) → get_elem? (set vs me w) j ≡ some u → P j u
  each_set P vs me w mine others j u e = ⊎_elim
      (λ (t : (j ≡ me) × (w ≡ u)). subst (λ (x : ℕ × View V E). P x.0 x.1) (λ i. (sym t.0 i, t.1 i)) mine)
      (λ (t : (j ≢ me) × (get_elem? vs j ≡ some u)). others j u t.0 t.1)
      (at_set vs me j w u e)

module _ {V B E : Type 0} (start_of : V → B) (list_of : V → List E) (first : V) (seats : ℕ) (s : State (Slot V) (View V E)) (r : Ruled start_of list_of first seats s) where
  abbrev c : Course E
  c = r.course

  pub each_share : (j : ℕ) (u : View V E) → get_elem? s.views j ≡ some u → tickets_in u ≤ share_in u
  each_share j u at = one_share c j u u.stage (r.each j u at).stands

  -- fewer tickets are out than 2 ^ 64
  pub few_out : c.next < c.serving + 2 ^ 64
  few_out =
      let all : sum_by tickets_in s.views ≤ sum_by share_in s.views = sum_le tickets_in share_in s.views each_share in
      let t = r.tickets in let h = r.shares in let f = r.few in omega arith

  -- the ticket that is served was drawn
  pub served : c.busy ≡ true → c.serving < c.next
  served busy =
      let k = r.worker busy in
      let h : Stands c (c.holder c.serving) k.0 (Works c.serving) = subst (λ (st : Stage). Stands c (c.holder c.serving) k.0 st) k.2 (r.each (c.holder c.serving) k.0 k.1).stands in
      h.2

  -- a seat that does not work is not the one that does
  pub worker_apart : (me : ℕ) (v : View V E) → get_elem? s.views me ≡ some v → ((k : ℕ) → v.stage ≢ Works k) → c.busy ≡ true → c.holder c.serving ≢ me
  worker_apart me v at none_works busy same =
      let k = r.worker busy in
      let is : k.0 ≡ v = at_one s.views me k.0 v (ap (λ (j : ℕ). get_elem? s.views j) (sym same) ∙ k.1) at in
      none_works c.serving (ap (λ (u : View V E). u.stage) (sym is) ∙ k.2)

  -- it still works where another view changes
  pub worker_kept : (me : ℕ) (v w : View V E) → get_elem? s.views me ≡ some v → ((k : ℕ) → v.stage ≢ Works k) → c.busy ≡ true
      → (u : View V E) × (get_elem? (set s.views me w) (c.holder c.serving) ≡ some u) × (u.stage ≡ Works c.serving)
  worker_kept me v w at none_works busy =
      let k = r.worker busy in
      (k.0, set_else s.views me (c.holder c.serving) w (worker_apart me v at none_works busy) ∙ k.1, k.2)

-- an idle seat, and one that waits, do not work
pub idle_rests : (st : Stage) → st ≡ Idle → (k : ℕ) → st ≢ Works k
idle_rests st is k e = cc

pub waits_rests : (st : Stage) (t : ℕ) → st ≡ Waits t → (k : ℕ) → st ≢ Works k
waits_rests st t is k e = cc
