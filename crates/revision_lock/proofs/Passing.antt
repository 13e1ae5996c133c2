-- The lock's start, a split, a join and a close, under the rule.
use Rattle.std.proofs.Common.{◌≡◌, ◌≢◌, ℕ, zero, suc, ◌+◌, ◌-◌, ◌^◌, ◌<◌, ◌≤◌, Bool, true, false, List, [], ◌∷◌, ◌++◌, length, set, sum_by, refl, sym, ap, subst, ◌∙◌, ⊎_elim, arith, length-set, length-append}
use Rattle.std.proofs.lemmas.List.Sums.{sum_by-append}
use mathlib.Core.Option.{some, some-ne-none, some-injective}
use mathlib.Core.Logic.{dite}
use mathlib.Core.List.{IsPrefix}
use native.Mathlib.Decide.{ℕ_discrete}
use lib.ListN.{get_elem?}
use Rattle.atomic_table.specs.Table.{State, Splits, Joins, opening, Seen, Final}
use Rattle.atomic_table.proofs.Lists.{at_longer, set_else}
use Rattle.revision_lock.specs.declared.view.Stage.{Stage}
use Rattle.revision_lock.specs.declared.view.Stage.TheVariants.{Idle, Works}
use Rattle.revision_lock.specs.declared.view.View.{View}
use Rattle.revision_lock.specs.declared.view.Slot.{Slot}
use Rattle.revision_lock.specs.declared.view.Slot.TheVariants.{Home}
use Rattle.revision_lock.specs.Histories.{owned, numbered, merged}
use Rattle.revision_lock.specs.Order.{Course, Stands, Fits, Keeps, Ruled, tickets_at, tickets_in, share_in, first_view, spent_view, left_part, new_part, both}
use Rattle.revision_lock.proofs.Lists.{sum_set, two_le, at_inside, at_exists, at_one, at_grown, prefix_nil, prefix_longer, prefix_shorter, given_over, given_over_here, given_over_else}
use Rattle.revision_lock.proofs.Parts.{owned_same, owned_none, owned_all, no_owner, merged_owned}
use Rattle.revision_lock.proofs.Rules.{after_join, stands_join, each_set, worker_apart, worker_kept, idle_rests}

module _ {V B E : Type 0} (start_of : V → B) (list_of : V → List E) (first : V) (seats : ℕ) where
  abbrev S : Type 0
  S = State (Slot V) (View V E)

  abbrev Rule : S → Type 0
  Rule = Ruled start_of list_of first seats

  abbrev first_course : Course E
  first_course = record { log = []; next = 0; serving = 0; holder = λ _. 0; owner = λ _. 0; busy = false }

  pub opens : list_of first ≡ [] → 0 < seats → seats < 2 ^ 32 → Rule (opening (0 ∷ 0 ∷ 0 ∷ []) (Home first ∷ []) (first_view first seats))
  opens empty some_seats few = record {
    course = first_course;
    words = refl;
    homes = (first, refl, refl, empty);
    worker = λ busy. absurd (cc busy);
    tickets = refl;
    shares = omega arith;
    few = few;
    owners = λ place inside. absurd (omega arith);
    each = one;
  }
    where
      one : (j : ℕ) (v : View V E) → get_elem? (first_view first seats ∷ []) j ≡ some v → Fits first_course first j v
      one zero v at = subst (Fits first_course first 0) (some-injective (first_view first seats) v at) record { knows = λ _. refl; seen = prefix_nil []; met = prefix_nil []; own = refl; spent = λ _. refl; stands = tt }
      one (suc j) v at = absurd (some-ne-none v (sym at))

  pub splits : (me : ℕ) (v : View V E) → v.stage ≡ Idle → 2 ≤ v.share → Splits Rule me v (left_part v) (new_part v)
  splits me v idle two s r at =
      let c = r.course in
      let f = r.each me v at in
      let w = left_part v in
      let n = new_part v in
      let views = set s.views me w ++ n ∷ [] in
      let wide : length views ≡ length s.views + 1 = length-append (set s.views me w) (n ∷ []) ∙ ap (λ (k : ℕ). k + 1) (length-set s.views me w) in
      let shares' : sum_by share_in (set s.views me w) + v.share ≡ sum_by share_in s.views + (v.share - 1) = sum_set share_in s.views me v w at in
      let tickets' : sum_by tickets_in (set s.views me w) + tickets_at v.stage ≡ sum_by tickets_in s.views + tickets_at v.stage = sum_set tickets_in s.views me v w at in
      let all_shares : sum_by share_in views ≡ sum_by share_in (set s.views me w) + 1 = sum_by-append share_in (set s.views me w) (n ∷ []) in
      let all_tickets : sum_by tickets_in views ≡ sum_by tickets_in (set s.views me w) + 0 = sum_by-append tickets_in (set s.views me w) (n ∷ []) in
      let out = r.tickets in
      let whole = r.shares in
      record {
        course = c;
        words = r.words;
        homes = r.homes;
        worker = λ busy.
            let k = worker_kept start_of list_of first seats s r me v w at (idle_rests v.stage idle) busy in
            (k.0, at_longer (set s.views me w) (n ∷ []) (c.holder c.serving) k.0 k.1, k.2);
        tickets = omega arith;
        shares = omega arith;
        few = r.few;
        owners = λ place inside. let o = r.owners place inside in omega arith;
        each = λ j u e. ⊎_elim
            (λ (old : get_elem? (set s.views me w) j ≡ some u). each_set (Fits c first) s.views me w
            record { knows = λ _. f.knows (omega arith); seen = f.seen; met = f.met; own = f.own; spent = λ gone. absurd (omega arith); stands = subst (λ (st : Stage). Stands c me w st) (sym idle) tt }
            (λ i y apart a. r.each i y a) j u old)
            (λ (new : (j ≡ length (set s.views me w)) × (n ≡ u)). subst (λ (y : View V E). Fits c first j y) new.1
            record {
              knows = λ _. f.knows (omega arith);
              seen = f.seen;
              met = prefix_nil v.seen;
              own = sym (owned_none c.owner j 0 c.log (λ p low high is.
                  let o = r.owners p (omega arith) in
                  let at_end : j ≡ length s.views = new.0 ∙ length-set s.views me w in omega arith));
              spent = λ _. refl;
              stands = tt;
            })
            (at_grown (set s.views me w) n u j e);
      }

  pub joins : (me : ℕ) (v : View V E) (other : ℕ) (u : View V E) → v.stage ≡ Idle → 0 < v.share → u.stage ≡ Idle → Joins Rule me v other u (both v u) spent_view
  joins me v other u idle some_share idle' s r at apart at_u =
      let c = r.course in
      let f = r.each me v at in
      let w = both v u in
      let was : get_elem? s.views other ≡ some u = sym (set_else s.views me other w apart) ∙ at_u in
      let g = r.each other u was in
      let views = set s.views me w in
      let owner' = given_over other me c.owner in
      let shares' : sum_by share_in views + v.share ≡ sum_by share_in s.views + (v.share + u.share) = sum_set share_in s.views me v w at in
      let shares'' : sum_by share_in (set views other spent_view) + u.share ≡ sum_by share_in views + 0 = sum_set share_in views other u spent_view at_u in
      let tickets' : sum_by tickets_in views + tickets_at v.stage ≡ sum_by tickets_in s.views + tickets_at v.stage = sum_set tickets_in s.views me v w at in
      let tickets'' : sum_by tickets_in (set views other spent_view) + tickets_at u.stage ≡ sum_by tickets_in views + 0 = sum_set tickets_in views other u spent_view at_u in
      let none' : tickets_at u.stage ≡ 0 = ap tickets_at idle' in
      let out = r.tickets in
      let whole = r.shares in
      let wide : length (set views other spent_view) ≡ length s.views = length-set views other spent_view ∙ length-set s.views me w in
      record {
        course = after_join me other c;
        words = r.words;
        homes = r.homes;
        worker = λ busy.
            let k = worker_kept start_of list_of first seats s r me v w at (idle_rests v.stage idle) busy in
            let not_other = worker_apart start_of list_of first seats s r other u was (idle_rests u.stage idle') busy in
            (k.0, set_else views other (c.holder c.serving) spent_view not_other ∙ k.1, k.2);
        tickets = omega arith;
        shares = omega arith;
        few = r.few;
        owners = λ place inside. dite (ℕ_discrete (c.owner place) other)
            (λ theirs. subst (λ (n : ℕ). n < length (set views other spent_view)) (sym (given_over_here other me c.owner place theirs)) (subst (λ (n : ℕ). me < n) (sym wide) (at_inside s.views me v at)))
            (λ else. subst (λ (n : ℕ). n < length (set views other spent_view)) (sym (given_over_else other me c.owner place else)) (subst (λ (n : ℕ). c.owner place < n) (sym wide) (r.owners place inside)));
        each = each_set (Fits (after_join me other c) first) views other spent_view
            record {
              knows = λ share. absurd (omega arith);
              seen = prefix_nil c.log;
              met = prefix_nil [];
              own = sym (owned_none owner' other 0 c.log (λ p low high. gone me other c p apart));
              spent = λ _. refl;
              stands = tt;
            }
            (λ j y not_other e. each_set (λ i z. i ≢ other → Fits (after_join me other c) first i z) s.views me w
            (λ _. record {
              knows = λ _. f.knows some_share;
              seen = prefix_longer v.seen u.seen c.log f.seen g.seen;
              met = prefix_shorter v.seen u.seen c.log f.seen g.seen;
              own = (λ i. merged (f.own i) (g.own i)) ∙ merged_owned c.owner me other 0 c.log (λ same. apart (sym same));
              spent = λ nothing. absurd (omega arith);
              stands = subst (λ (st : Stage). Stands (after_join me other c) me w st) (sym idle) tt;
            })
            (λ i z not_me a not_that. let h = r.each i z a in record {
              knows = h.knows;
              seen = h.seen;
              met = h.met;
              own = h.own ∙ owned_same c.owner owner' i 0 c.log (λ p low high. stays me other c i p not_me not_that);
              spent = h.spent;
              stands = stands_join me other c i z z.stage h.stands;
            })
            j y e not_other);
      }
    where
      -- nothing is the other's any more
      gone : (me other : ℕ) (c : Course E) (p : ℕ) → ¬ (other ≡ me) → given_over other me c.owner p ≢ other
      gone me other c p apart is = dite (ℕ_discrete (c.owner p) other)
          (λ theirs. apart (sym is ∙ given_over_here other me c.owner p theirs))
          (λ else. else (sym (given_over_else other me c.owner p else) ∙ is))

      stays : (me other : ℕ) (c : Course E) (i p : ℕ) → i ≢ me → i ≢ other → (c.owner p ≡ i → given_over other me c.owner p ≡ i) × (given_over other me c.owner p ≡ i → c.owner p ≡ i)
      stays me other c i p not_me not_other = dite (ℕ_discrete (c.owner p) other)
          (λ theirs. ((λ is. absurd (not_other (sym is ∙ theirs))), (λ is. absurd (not_me (sym is ∙ given_over_here other me c.owner p theirs)))))
          (λ else. let same = given_over_else other me c.owner p else in ((λ is. same ∙ is), (λ is. sym same ∙ is)))

  -- what the one pass with the whole share knows of the value
  pub closes : (s : S) (me : ℕ) (v : View V E) → Seen Rule me v s → v.stage ≡ Idle → v.share ≡ seats → 0 < v.share
      → (x : V) × (get_elem? s.homes 0 ≡ some (some (Home x))) × (start_of x ≡ start_of first) × IsPrefix v.seen (list_of x) × (v.own ≡ numbered (list_of x))
  closes s me v held idle all some_share =
      let r = held.0 in
      let at = held.1 in
      let c = r.course in
      let f = r.each me v at in
      let k = home s me v held idle all some_share in (
        k.0,
        ap (λ l. get_elem? l 0) k.1,
        k.2,
        subst (λ l. IsPrefix v.seen l) (sym k.3) f.seen,
        f.own ∙ (owned_all c.owner me 0 c.log (λ p low high. mine s me v held all p (omega arith)) ∙ ap numbered (sym k.3)),
      )
    where
      -- no other seat has a share
      none_else : (s : S) (me : ℕ) (v : View V E) → Seen Rule me v s → v.share ≡ seats → (j : ℕ) (u : View V E) → j ≢ me → get_elem? s.views j ≡ some u → u.share ≡ 0
      none_else s me v held all j u apart at_u =
          let most : u.share + v.share ≤ sum_by share_in s.views = two_le share_in s.views j me u v apart at_u held.1 in
          let whole = held.0.shares in omega arith

      mine : (s : S) (me : ℕ) (v : View V E) (held : Seen Rule me v s) → v.share ≡ seats → (p : ℕ) → p < length held.0.course.log → held.0.course.owner p ≡ me
      mine s me v held all p inside =
          let r = held.0 in
          let c = r.course in
          dite (ℕ_discrete (c.owner p) me) (λ is. is) (λ else.
          let u = at_exists s.views (c.owner p) (r.owners p inside) in
          let g = r.each (c.owner p) u.0 u.1 in
          let nothing : owned c.owner (c.owner p) c.log ≡ [] = sym g.own ∙ g.spent (none_else s me v held all (c.owner p) u.0 else u.1) in
          absurd (no_owner c.owner (c.owner p) 0 c.log nothing p (omega arith) (omega arith) refl))

      home : (s : S) (me : ℕ) (v : View V E) (held : Seen Rule me v s) → v.stage ≡ Idle → v.share ≡ seats → 0 < v.share → Keeps start_of list_of first held.0.course.log false s.homes
      home s me v held idle all some_share = by held.0.course.busy refl
        where
          by : (b : Bool) → held.0.course.busy ≡ b → Keeps start_of list_of first held.0.course.log false s.homes
          by true busy =
              let r = held.0 in
              let c = r.course in
              let k = r.worker busy in
              let not_me = worker_apart start_of list_of first seats s r me v held.1 (idle_rests v.stage idle) busy in
              let h : Stands c (c.holder c.serving) k.0 (Works c.serving) = subst (λ (st : Stage). Stands c (c.holder c.serving) k.0 st) k.2 (r.each (c.holder c.serving) k.0 k.1).stands in
              let share = h.0 in
              let nothing : k.0.share ≡ 0 = none_else s me v held all (c.holder c.serving) k.0 not_me k.1 in
              absurd (omega arith)
          by false rests = subst (λ (b : Bool). Keeps start_of list_of first held.0.course.log b s.homes) rests held.0.homes

  -- what the value in the slot is then
  pub closed : (me : ℕ) (v : View V E) (words : List ℕ) (slots : List (Slot V)) (y : Slot V) → Final (Seen Rule me v) words slots → v.stage ≡ Idle → v.share ≡ seats → 0 < v.share
      → get_elem? slots 0 ≡ some y → (x : V) × (y ≡ Home x) × (start_of x ≡ start_of first) × IsPrefix v.seen (list_of x) × (v.own ≡ numbered (list_of x))
  closed me v words slots y final idle all some_share at =
      let k = closes final.0 me v final.1 idle all some_share in
      (k.0, at_one slots 0 y (Home k.0) at (final.4 0 (Home k.0) k.1), k.2, k.3, k.4)

  home_as : (y : Slot V) (x z : V) → y ≡ Home x → y ≡ Home z → x ≡ z
  home_as y x z is is' = cc

  -- the same of a value that is known to be the one in the slot
  pub closed_with : (me : ℕ) (v : View V E) (words : List ℕ) (slots : List (Slot V)) (y : Slot V) (z : V) → Final (Seen Rule me v) words slots → v.stage ≡ Idle → v.share ≡ seats → 0 < v.share
      → get_elem? slots 0 ≡ some y → y ≡ Home z → (start_of z ≡ start_of first) × IsPrefix v.seen (list_of z) × (v.own ≡ numbered (list_of z))
  closed_with me v words slots y z final idle all some_share at is =
      let k = closed me v words slots y final idle all some_share at in
      subst (λ (x : V). (start_of x ≡ start_of first) × IsPrefix v.seen (list_of x) × (v.own ≡ numbered (list_of x))) (home_as y k.0 z k.1 is) (k.2, k.3, k.4)
