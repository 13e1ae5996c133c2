-- The four steps of a turn keep the rule.
use Rattle.std.proofs.Common.{◌≡◌, ◌≢◌, ℕ, zero, suc, ◌+◌, ◌-◌, ◌%◌, ◌^◌, ◌<◌, ◌≤◌, Bool, true, false, List, [], ◌∷◌, ◌++◌, length, set, get_or, eqb, eq-eqb, slice_index, sum_by, Some, refl, sym, ap, subst, ◌∙◌, ⊎_elim, arith, length-set, length-append}
use Rattle.std.proofs.lemmas.List.{append-nil}
use Rattle.std.proofs.Math.Nat.{mod-add-mod}
use mathlib.Core.Option.{Option, some, none}
use mathlib.Core.Logic.{dite}
use mathlib.Core.List.{IsPrefix}
use native.Mathlib.Decide.{ℕ_discrete}
use lib.ListN.{get_elem?}
use lib.Seq.{set-get_or}
use prog.Atomic.{either}
use Rattle.std.specs.declared.snapshot.Snapshot.{Snapshot}
use Rattle.atomic_table.specs.Table.{State, Me, step, keeps, takes, gives, stepped, Allows}
use Rattle.atomic_table.proofs.Lists.{set_here, set_again, one_turn}
use Rattle.revision_lock.specs.declared.view.Stage.{Stage}
use Rattle.revision_lock.specs.declared.view.Stage.TheVariants.{Idle, Waits, Works}
use Rattle.revision_lock.specs.declared.view.View.{View}
use Rattle.revision_lock.specs.declared.view.Slot.{Slot}
use Rattle.revision_lock.specs.declared.view.Slot.TheVariants.{Home, Shown}
use Rattle.revision_lock.specs.Histories.{owned, owned_from, IsInOrder}
use Rattle.revision_lock.specs.Order.{Course, Stands, Fits, Keeps, Ruled, tickets_at, tickets_in, share_in, at_stage, works, noted, draws, looks, counts, passes, reads}
use Rattle.revision_lock.proofs.Lists.{sum_set, at_inside, prefix_self, prefix_nil, prefix_grown, last_same, with_at, with_at_here, with_at_else}
use Rattle.revision_lock.proofs.Parts.{owned_yes, owned_no, owned_same, owned-append, owned_in_order}
use Rattle.revision_lock.proofs.Rules.{after_draw, after_look, after_count, after_pass, stands_draw, stands_look, stands_count, stands_pass, each_set, few_out, served, worker_apart, worker_kept, idle_rests, waits_rests}

module _ {V B E : Type 0} (start_of : V → B) (list_of : V → List E) (first : V) (seats : ℕ) where
  abbrev S : Type 0
  S = State (Slot V) (View V E)

  abbrev Rule : S → Type 0
  Rule = Ruled start_of list_of first seats

  abbrev Held : Type 0
  Held = List (ℕ × Slot V)

  -- the shares stay where the view's does
  shares_stay : (s : S) → Rule s → (me : ℕ) (v w : View V E) → get_elem? s.views me ≡ some v → w.share ≡ v.share → sum_by share_in (set s.views me w) ≡ seats
  shares_stay s r me v w at same =
      let t : sum_by share_in (set s.views me w) + v.share ≡ sum_by share_in s.views + w.share = sum_set share_in s.views me v w at in
      let h = r.shares in omega arith

  owners_stay : (s : S) (r : Rule s) (me : ℕ) (w : View V E) (place : ℕ) → place < length r.course.log → r.course.owner place < length (set s.views me w)
  owners_stay s r me w place inside = subst (λ (n : ℕ). r.course.owner place < n) (sym (length-set s.views me w)) (r.owners place inside)

  -- a ticket is drawn
  pub draws_allowed : (slots me : ℕ) (v : View V E) (cs : Held) → v.stage ≡ Idle → 0 < v.share
      → Allows Rule slots me (v, cs) 0 (λ n. (n + 1) % 2 ^ 64) (draws (step slots 0 1 0 none) (v, cs))
  draws_allowed slots me v cs idle some_share s r deep at fits =
      let c = r.course in
      let w = at_stage (Waits c.next) v in
      let f = r.each me v at in
      let t : sum_by tickets_in (set s.views me w) + tickets_at v.stage ≡ sum_by tickets_in s.views + 1 = sum_set tickets_in s.views me v w at in
      let z : tickets_at v.stage ≡ 0 = ap tickets_at idle in
      let out = r.tickets in (
        w,
        keeps,
        tt,
        record {
          course = after_draw me c;
          words = (λ i. set (r.words i) 0 ((slice_index (r.words i) 0 + 1) % 2 ^ 64)) ∙ ap (λ (n : ℕ). n ∷ c.serving % 2 ^ 64 ∷ length c.log ∷ []) (mod-add-mod c.next (2 ^ 64) 1);
          homes = r.homes;
          worker = λ busy.
              let k = worker_kept start_of list_of first seats s r me v w at (idle_rests v.stage idle) busy in
              let out : c.serving < c.next = served start_of list_of first seats s r busy in
              let same : with_at c.next me c.holder c.serving ≡ c.holder c.serving = with_at_else c.next me c.holder c.serving (λ e. omega arith) in
              (k.0, ap (λ (j : ℕ). get_elem? (set s.views me w) j) same ∙ k.1, k.2);
          tickets = omega arith;
          shares = shares_stay s r me v w at refl;
          few = r.few;
          owners = owners_stay s r me w;
          each = each_set (Fits (after_draw me c) first) s.views me w
              record { knows = f.knows; seen = f.seen; met = f.met; own = f.own; spent = f.spent; stands = (some_share, omega arith, omega arith, with_at_here c.next me c.holder c.next refl) }
              (λ j u apart e. let g = r.each j u e in record { knows = g.knows; seen = g.seen; met = g.met; own = g.own; spent = g.spent; stands = stands_draw me c j u u.stage g.stands });
        },
        (c.next, sym (ap (λ l. slice_index l 0) r.words), refl),
      )

  -- a step that changes nothing
  unmoved : (s : S) (i me : ℕ) (v : View V E) (cs : Held) → Rule s → get_elem? s.views me ≡ some v → Rule (stepped s i (get_or s.words i 0) me cs v keeps)
  unmoved s i me v cs r at = subst Rule (λ k. record { words = sym (set-get_or s.words i 0) k; homes = s.homes; views = sym (set_again s.views me v at) k }) r

  waits_as : (st : Stage) (t t' : ℕ) → st ≡ Waits t → st ≡ Waits t' → t ≡ t'
  waits_as st t t' is is' = cc

  some_as : {A : Type 0} (o : Rattle.std.proofs.Common.Option A) (a b : A) → o ≡ Some a → o ≡ Some b → a ≡ b
  some_as o a b is is' = cc

  -- the value is at home where the ticket of a seat that waits is served
  home : (s : S) (r : Rule s) (me : ℕ) (v : View V E) (t : ℕ) → get_elem? s.views me ≡ some v → v.stage ≡ Waits t → r.course.holder t ≡ me → t ≡ r.course.serving
      → Keeps start_of list_of first r.course.log false s.homes
  home s r me v t at waits mine now = by r.course.busy refl
    where
      by : (b : Bool) → r.course.busy ≡ b → Keeps start_of list_of first r.course.log false s.homes
      by true busy = absurd (worker_apart start_of list_of first seats s r me v at (waits_rests v.stage t waits) busy (ap r.course.holder (sym now) ∙ mine))
      by false rests = subst (λ (b : Bool). Keeps start_of list_of first r.course.log b s.homes) rests r.homes

  -- the turn of a seat has come
  enters : (s : S) (r : Rule s) (me : ℕ) (v : View V E) (cs : Held) (t : ℕ) → get_elem? s.views me ≡ some v → v.stage ≡ Waits t → t ≡ r.course.serving
      → (x : V) × (get_elem? s.homes 0 ≡ some (some (Home x))) × Rule (stepped s 1 (get_or s.words 1 0) me cs (works t (list_of x) v) (takes 0 (Home x)))
      × IsPrefix v.seen (list_of x) × (start_of x ≡ start_of first) × (v.first ≡ Some first)
  enters s r me v cs t at waits now =
      let c = r.course in
      let f = r.each me v at in
      let h : Stands c me v (Waits t) = subst (λ (st : Stage). Stands c me v st) waits f.stands in
      let k = home s r me v t at waits h.3 now in
      let x = k.0 in
      let w = works t (list_of x) v in
      let z : tickets_at v.stage ≡ 1 = ap tickets_at waits in
      let out = r.tickets in
      let same : sum_by tickets_in (set s.views me w) + tickets_at v.stage ≡ sum_by tickets_in s.views + 1 = sum_set tickets_in s.views me v w at in (
        x,
        ap (λ l. get_elem? l 0) k.1,
        record {
          course = after_look c;
          words = set-get_or s.words 1 0 ∙ r.words;
          homes = ap (λ l. set l 0 none) k.1;
          worker = λ _. (w, ap (λ (j : ℕ). get_elem? (set s.views me w) j) (ap c.holder (sym now) ∙ h.3) ∙ set_here s.views me w (at_inside s.views me v at), ap Works now);
          tickets = omega arith;
          shares = shares_stay s r me v w at refl;
          few = r.few;
          owners = owners_stay s r me w;
          each = each_set (Fits (after_look c) first) s.views me w
              record { knows = f.knows; seen = subst (λ l. IsPrefix l c.log) (sym k.3) (prefix_self c.log); met = prefix_nil (list_of x); own = f.own; spent = f.spent; stands = (h.0, now, h.2, h.3, refl, k.3) }
              (λ j u apart e. let g = r.each j u e in record { knows = g.knows; seen = g.seen; met = g.met; own = g.own; spent = g.spent; stands = stands_look c j u u.stage g.stands });
        },
        subst (λ l. IsPrefix v.seen l) (sym k.3) f.seen,
        k.2,
        f.knows h.0,
      )

  -- a look at the ticket that is served
  pub looks_allowed : (slots me : ℕ) (v : View V E) (cs : Held) (t : ℕ) → v.stage ≡ Waits t
      → Allows Rule slots me (v, cs) 1 (λ n. n) (looks start_of list_of (step slots 1 0 0 none) (v, cs))
  looks_allowed slots me v cs t waits s r deep at fits =
      let c = r.course in
      let f = r.each me v at in
      let h : Stands c me v (Waits t) = subst (λ (st : Stage). Stands c me v st) waits f.stands in
      let found : get_or s.words 1 0 ≡ c.serving % 2 ^ 64 = ap (λ l. get_or l 1 0) r.words in
      let few = few_out start_of list_of first seats s r in
      let low : c.serving ≤ t = h.1 in
      let high : t < c.next = h.2 in
      dite (ℕ_discrete (get_or s.words 1 0) (t % 2 ^ 64))
      (λ come.
      let now : c.serving ≡ t = one_turn c.serving t (2 ^ 64) low (omega arith) (sym found ∙ come) in
      let k = enters s r me v cs t at waits (sym now) in (
        works t (list_of k.0) v,
        takes 0 (Home k.0),
        k.1,
        k.2,
        λ t' is. let same : t ≡ t' = waits_as v.stage t t' waits is in (
          (λ _. (k.0, ap (λ (i : ℕ). (works i (list_of k.0) v, (0, Home k.0) ∷ cs)) same, k.3, λ f' known. k.4 ∙ ap start_of (some_as v.first first f' k.5 known))),
          (λ not_yet. absurd (not_yet (come ∙ ap (λ (i : ℕ). i % 2 ^ 64) same))),
        ),
      ))
      (λ not_yet. (
        v,
        keeps,
        tt,
        unmoved s 1 me v cs r at,
        λ t' is. let same : t ≡ t' = waits_as v.stage t t' waits is in (
          (λ come. absurd (not_yet (come ∙ ap (λ (i : ℕ). i % 2 ^ 64) (sym same)))),
          (λ _. refl),
        ),
      ))

  keeps_on : (b : Bool) (log log' : List E) (homes : List (Option (Slot V))) → b ≡ true → Keeps start_of list_of first log b homes → Keeps start_of list_of first log' b homes
  keeps_on true log log' homes busy h = h
  keeps_on false log log' homes busy h = absurd (cc busy)

  shown_as : (o : Option (Slot V)) (x y : Snapshot V) → o ≡ some (Shown x) → o ≡ some (Shown y) → x ≡ y
  shown_as o x y is is' = cc

  -- one entry is counted
  pub counts_allowed : (slots me : ℕ) (v : View V E) (cs : Held) (t old new : ℕ) (said : Option (Slot V)) (x : Snapshot V) (e : E)
      → v.stage ≡ Works t → said ≡ some (Shown x) → list_of x.value ≡ v.seen ++ e ∷ [] → old ≡ length v.seen → new ≡ length (v.seen ++ e ∷ [])
      → Allows Rule slots me (v, cs) 2 (λ n. either (eqb n old) new n) (counts list_of (step slots 2 old new said) (v, cs))
  counts_allowed slots me v cs t old new said x e works_t shows grown old_is new_is s r deep at fits =
      let c = r.course in
      let f = r.each me v at in
      let h : Stands c me v (Works t) = subst (λ (st : Stage). Stands c me v st) works_t f.stands in
      let w = noted e v in
      let mine : c.holder c.serving ≡ me = ap c.holder (sym h.1) ∙ h.3 in
      let here : length c.log ≡ old = sym (old_is ∙ ap length h.5) in
      let found : get_or s.words 2 0 ≡ old = ap (λ l. get_or l 2 0) r.words ∙ here in
      let counted : either (eqb (get_or s.words 2 0) old) new (get_or s.words 2 0) ≡ length (c.log ++ e ∷ []) =
      ap (λ (b : Bool). either b new (get_or s.words 2 0)) (eq-eqb (get_or s.words 2 0) old found) ∙ (new_is ∙ ap (λ l. length (l ++ e ∷ [])) h.5) in
      let owner' = with_at (length c.log) me c.owner in
      let out = r.tickets in
      let same : sum_by tickets_in (set s.views me w) + tickets_at v.stage ≡ sum_by tickets_in s.views + tickets_at v.stage = sum_set tickets_in s.views me v w at in
      let longer : length (c.log ++ e ∷ []) ≡ length c.log + 1 = length-append c.log (e ∷ []) in (
        w,
        keeps,
        tt,
        record {
          course = after_count me e c;
          words = (λ i. set (r.words i) 2 (counted i));
          homes = keeps_on c.busy c.log (c.log ++ e ∷ []) s.homes h.4 r.homes;
          worker = λ busy. (w, ap (λ (j : ℕ). get_elem? (set s.views me w) j) mine ∙ set_here s.views me w (at_inside s.views me v at), works_t ∙ ap Works h.1);
          tickets = omega arith;
          shares = shares_stay s r me v w at refl;
          few = r.few;
          owners = λ place inside. dite (ℕ_discrete place (length c.log))
              (λ last. subst (λ (n : ℕ). n < length (set s.views me w)) (sym (with_at_here (length c.log) me c.owner place last))
              (subst (λ (n : ℕ). me < n) (sym (length-set s.views me w)) (at_inside s.views me v at)))
              (λ before. subst (λ (n : ℕ). n < length (set s.views me w)) (sym (with_at_else (length c.log) me c.owner place before)) (owners_stay s r me w place (omega arith)));
          each = each_set (Fits (after_count me e c) first) s.views me w
              record {
                knows = f.knows;
                seen = subst (λ l. IsPrefix (l ++ e ∷ []) (c.log ++ e ∷ [])) (sym h.5) (prefix_self (c.log ++ e ∷ []));
                met = prefix_nil (v.seen ++ e ∷ []);
                own = ap (λ l. l ++ (length v.seen, e) ∷ []) f.own
                    ∙ (ap (λ (n : ℕ). owned c.owner me c.log ++ (n, e) ∷ []) (ap length h.5)
                    ∙ ((λ i. owns_less me me c e i ++ (length c.log, e) ∷ [])
                    ∙ ap (λ l. owned owner' me c.log ++ l) (sym (owned_yes owner' me (length c.log) e [] (with_at_here (length c.log) me c.owner (length c.log) refl)))
                    ∙ sym (owned_grown owner' me c.log e)));
                spent = λ none. absurd (none_spent h.0 none);
                stands = subst (λ (st : Stage). Stands (after_count me e c) me w st) (sym works_t) (h.0, h.1, h.2, h.3, h.4, ap (λ l. l ++ e ∷ []) h.5);
              }
              (λ j u apart a. let g = r.each j u a in record {
                knows = g.knows;
                seen = prefix_grown u.seen c.log (e ∷ []) g.seen;
                met = g.met;
                own = g.own ∙ (owns_less me j c e
                    ∙ (sym (append-nil (owned owner' j c.log))
                    ∙ ap (λ l. owned owner' j c.log ++ l) (sym (owned_no owner' j (length c.log) e [] (λ is. apart (sym is ∙ with_at_here (length c.log) me c.owner (length c.log) refl))))
                    ∙ sym (owned_grown owner' j c.log e)));
                spent = g.spent;
                stands = stands_count me e c j u u.stage apart mine g.stands;
              });
        },
        λ y e' said_is longer_is.
            let snap : x ≡ y = shown_as said x y shows said_is in
            let entry : e ≡ e' = last_same v.seen e e' (sym grown ∙ (ap (λ (z : Snapshot V). list_of z.value) snap ∙ longer_is)) in
            ap (λ (z : E). (noted z v, cs)) entry,
      )
    where
      none_spent : {n : ℕ} → 0 < n → n ≡ 0 → ⊥
      none_spent more less = omega arith

      owned_grown : (f : ℕ → ℕ) (j : ℕ) (log : List E) (y : E) → owned f j (log ++ y ∷ []) ≡ owned f j log ++ owned_from f j (length log) (y ∷ [])
      owned_grown f j log y = owned-append f j 0 log (y ∷ []) ∙ ap (λ (n : ℕ). owned f j log ++ owned_from f j n (y ∷ [])) (omega arith)

      -- on the places before, the owners are as they were
      owns_less : (me j : ℕ) (c : Course E) (y : E) → owned c.owner j c.log ≡ owned (with_at (length c.log) me c.owner) j c.log
      owns_less me j c y = owned_same c.owner (with_at (length c.log) me c.owner) j 0 c.log (λ p low high.
          let is : with_at (length c.log) me c.owner p ≡ c.owner p = with_at_else (length c.log) me c.owner p (λ e. omega arith) in
          ((λ e. is ∙ e), (λ e. sym is ∙ e)))

  -- the turn is passed on, with the value in the slot
  pub passes_allowed : (slots me : ℕ) (v : View V E) (x : V) (t : ℕ) (cs : Held) → cs ≡ (0, Home x) ∷ [] → v.stage ≡ Works t → start_of x ≡ start_of first → list_of x ≡ v.seen
      → Allows Rule slots me (v, cs) 1 (λ n. (n + 1) % 2 ^ 64) (passes (step slots 1 1 0 none) (v, cs))
  passes_allowed slots me v x t cs holds works_t starts lists s r deep at fits =
      let c = r.course in
      let f = r.each me v at in
      let h : Stands c me v (Works t) = subst (λ (st : Stage). Stands c me v st) works_t f.stands in
      let w = at_stage Idle v in
      let mine : c.holder c.serving ≡ me = ap c.holder (sym h.1) ∙ h.3 in
      let out = r.tickets in
      let z : tickets_at v.stage ≡ 1 = ap tickets_at works_t in
      let same : sum_by tickets_in (set s.views me w) + tickets_at v.stage ≡ sum_by tickets_in s.views + 0 = sum_set tickets_in s.views me v w at in
      let away : s.homes ≡ none ∷ [] = subst (λ (b : Bool). Keeps start_of list_of first c.log b s.homes) h.4 r.homes in (
        w,
        gives,
        tt,
        record {
          course = after_pass c;
          words = (λ i. set (r.words i) 1 ((get_or (r.words i) 1 0 + 1) % 2 ^ 64)) ∙ ap (λ (n : ℕ). c.next % 2 ^ 64 ∷ n ∷ length c.log ∷ []) (mod-add-mod c.serving (2 ^ 64) 1);
          homes = (x, (λ i. Rattle.atomic_table.specs.Table.put_back (away i) (holds i)), starts, lists ∙ h.5);
          worker = λ busy. absurd (cc busy);
          tickets = omega arith;
          shares = shares_stay s r me v w at refl;
          few = r.few;
          owners = owners_stay s r me w;
          each = each_set (Fits (after_pass c) first) s.views me w
              record { knows = f.knows; seen = f.seen; met = f.met; own = f.own; spent = f.spent; stands = tt }
              (λ j u apart e. let g = r.each j u e in record { knows = g.knows; seen = g.seen; met = g.met; own = g.own; spent = g.spent; stands = stands_pass me c j u u.stage apart mine g.stands });
        },
        refl,
      )

  -- a look at the own entries, and at what was met
  pub reads_allowed : (slots me : ℕ) (v : View V E) (cs : Held) → Allows Rule slots me (v, cs) 0 (λ n. n) (reads (step slots 0 0 0 none) (v, cs))
  reads_allowed slots me v cs s r deep at fits =
      let f = r.each me v at in
      (v, keeps, tt, unmoved s 0 me v cs r at, (refl, subst IsInOrder (sym f.own) (owned_in_order r.course.owner me 0 r.course.log), f.met))
