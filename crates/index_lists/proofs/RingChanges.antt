-- Sound links stay sound where a place is put at the end of a list, where one is taken out, and where
-- places and lists are added.
use Rattle.std.proofs.Common.{◌≡◌, ℕ, ◌+◌, ◌<◌, ◌≤◌, cond, eqb, List, [], ◌∷◌, ◌++◌, Option, Some, None, ◌⊎◌, inl, inr, refl, sym, ap, ◌∙◌, subst, le_trans, arith}
use Rattle.std.proofs.lemmas.Bool.{cases_eq, cases_lt, eq-eqb, ne_eqb}
use Rattle.index_lists.specs.Lists.{times, without}
use Rattle.index_lists.specs.Rings.{Spot, edge, inner, spot, SetsAt, IsOnRing, Leads, IsLinked}
use Rattle.index_lists.proofs.Times.{times_push_same, times_push_other, times-without_same, times-without_other}
use Rattle.index_lists.proofs.RingLemmas.{due, due_own, due_other, spots_apart, not_free, inner-inner, leads_same, leads_push, leads_without, Around, all_of, at_most_once, none_free, own_within, around_of, next_on, back_of, last_of, before_of}

-- the lists with list l replaced
abbrev pub put : (ℕ → List ℕ) → ℕ → List ℕ → ℕ → List ℕ
put xs l ys k = cond (eqb k l) ys (xs k)

pub put_same : (xs : ℕ → List ℕ) (l : ℕ) (ys : List ℕ) → put xs l ys l ≡ ys
put_same xs l ys = rw (eq-eqb l l refl)

pub put_other : (xs : ℕ → List ℕ) (l : ℕ) (ys : List ℕ) (k : ℕ) → (k ≡ l → ⊥) → put xs l ys k ≡ xs k
put_other xs l ys k ne = rw (ne_eqb k l ne)

-- a fact at l and at each other list is a fact at every list
each_list : (P : ℕ → Type 0) (l k : ℕ) → P l → ((k ≡ l → ⊥) → P k) → P k
each_list P l k same other = elim (cases_eq k l) [ inl e ↦ subst P (sym e) same | inr ne ↦ other ne ]

some_cases : (y : Option ℕ) (p : ℕ) → (y ≡ Some p) ⊎ (y ≡ Some p → ⊥)
some_cases None p = inr (λ e. cc)
some_cases (Some q) p = elim (cases_eq q p) [ inl e ↦ inl (ap Some e) | inr ne ↦ inr (λ e. ne (cc)) ]

-- the lists may be named otherwise
pub linked_as : (f g : Spot → Option ℕ) (o : ℕ → Option ℕ) (xs ys : ℕ → List ℕ) (n : ℕ) → IsLinked f g o xs n → ((l : ℕ) → ys l ≡ xs l) → IsLinked f g o ys n
linked_as f g o xs ys n sound same = record {
  leads = λ l within. subst (λ ps. Leads f l None ps) (sym (same l)) (sound.leads l within);
  back = sound.back;
  once = λ l p. ap (times p) (same l) ∙ sound.once l p;
  past = λ l out. same l ∙ sound.past l out;
}

-- ---- a place at the end of a list

module _ (f g : Spot → Option ℕ) (o : ℕ → Option ℕ) (xs : ℕ → List ℕ) (n : ℕ) (sound : IsLinked f g o xs n)
    (l p : ℕ) (within : l < n) (free : o p ≡ None)
    (f1 g1 f2 g2 : Spot → Option ℕ) (o' : ℕ → Option ℕ)
    (f_first : SetsAt f f1 (spot l (g (edge l))) (Some p)) (f_second : SetsAt f1 f2 (inner p) None)
    (g_first : SetsAt g g1 (inner p) (g (edge l))) (g_second : SetsAt g1 g2 (edge l) (Some p))
    (own : o' p ≡ Some l) (others : (q : ℕ) → (q ≡ p → ⊥) → o' q ≡ o q) where
  push_last_on : IsOnRing o l (g (edge l))
  push_last_on = (last_of f g o xs n sound l within).0

  push_f_last : f2 (spot l (g (edge l))) ≡ Some p
  push_f_last = f_second.others (spot l (g (edge l))) (not_free o l p (g (edge l)) push_last_on free) ∙ f_first.at

  push_f_kept : (t : Spot) → (t ≡ inner p → ⊥) → (t ≡ spot l (g (edge l)) → ⊥) → f2 t ≡ f t
  push_f_kept t a b = f_second.others t a ∙ f_first.others t b

  push_g_place : g2 (inner p) ≡ g (edge l)
  push_g_place = g_second.others (inner p) (λ e. cc) ∙ g_first.at

  push_g_kept : (t : Spot) → (t ≡ inner p → ⊥) → (t ≡ edge l → ⊥) → g2 t ≡ g t
  push_g_kept t a b = g_second.others t b ∙ g_first.others t a

  -- the old end now leads to the new place
  push_f_end : (y : Option ℕ) → IsOnRing o l y → f (spot l y) ≡ None → f2 (spot l y) ≡ Some p
  push_f_end y on e =
      let is : g (edge l) ≡ y = back_of f g o xs n sound l y None within on e in
      subst (λ w. f2 (spot l w) ≡ Some p) is push_f_last

  push_f_inside : (y : Option ℕ) (q : ℕ) → IsOnRing o l y → f (spot l y) ≡ Some q → f2 (spot l y) ≡ Some q
  push_f_inside y q on e =
      push_f_kept (spot l y) (not_free o l p y on free) (λ same.
      let bad : Some q ≡ None = sym e ∙ ap f same ∙ (last_of f g o xs n sound l within).1 in cc) ∙ e

  push_leads : (k : ℕ) → k < n → Leads f2 k None (put xs l (xs l ++ p ∷ []) k)
  push_leads k inside = each_list (λ m. Leads f2 m None (put xs l (xs l ++ p ∷ []) m)) l k
      (subst (λ ps. Leads f2 l None ps) (sym (put_same xs l (xs l ++ p ∷ [])))
      (leads_push f f2 o l p (xs l) None tt (all_of f g o xs n sound l) push_f_end push_f_inside f_second.at (sound.leads l within)))
      (λ ne. subst (λ ps. Leads f2 k None ps) (sym (put_other xs l (xs l ++ p ∷ []) k ne))
      (leads_same f f2 o k (xs k) None tt (all_of f g o xs n sound k)
      (λ y on. push_f_kept (spot k y) (not_free o k p y on free) (spots_apart o k l y (g (edge l)) on push_last_on ne))
      (sound.leads k inside)))

  push_back_old : (x y : Option ℕ) → IsOnRing o l x → f (spot l x) ≡ y → g2 (spot l (f2 (spot l x))) ≡ x
  push_back_old x None on e =
      ap (λ w. g2 (spot l w)) (push_f_end x on e) ∙ push_g_place ∙ back_of f g o xs n sound l x None within on e
  push_back_old x (Some q) on e =
      let on_q : o q ≡ Some l = subst (λ w. IsOnRing o l w) e (next_on f g o xs n sound l within x on) in
      ap (λ w. g2 (spot l w)) (push_f_inside x q on e)
      ∙ push_g_kept (inner q) (not_free o l p (Some q) on_q free) (λ same. cc)
      ∙ back_of f g o xs n sound l x (Some q) within on e

  push_back_at : (x : Option ℕ) → IsOnRing o' l x → g2 (spot l (f2 (spot l x))) ≡ x
  push_back_at None on = push_back_old None (f (edge l)) tt refl
  push_back_at (Some q) on = elim (cases_eq q p) [
    | inl e ↦
        subst (λ r. g2 (spot l (f2 (inner r))) ≡ Some r) (sym e) (ap (λ w. g2 (spot l w)) f_second.at ∙ g_second.at)
    | inr ne ↦ push_back_old (Some q) (f (inner q)) (sym (others q ne) ∙ on) refl
  ]

  push_on_old : (k : ℕ) (x : Option ℕ) → (k ≡ l → ⊥) → IsOnRing o' k x → IsOnRing o k x
  push_on_old k None ne on = tt
  push_on_old k (Some q) ne on =
      sym (others q (λ e. let same : Some k ≡ Some l = sym on ∙ ap o' e ∙ own in ne (cc))) ∙ on

  push_back_other : (k : ℕ) (x : Option ℕ) → k < n → (k ≡ l → ⊥) → IsOnRing o k x → g2 (spot k (f2 (spot k x))) ≡ x
  push_back_other k x inside ne on =
      let next : IsOnRing o k (f (spot k x)) = next_on f g o xs n sound k inside x on in
      ap (λ w. g2 (spot k w)) (push_f_kept (spot k x) (not_free o k p x on free) (spots_apart o k l x (g (edge l)) on push_last_on ne))
      ∙ push_g_kept (spot k (f (spot k x))) (not_free o k p (f (spot k x)) next free) (spots_apart o k l (f (spot k x)) None next tt ne)
      ∙ sound.back k x inside on

  push_once : (k q : ℕ) → times q (put xs l (xs l ++ p ∷ []) k) ≡ due (o' q) k
  push_once k q = each_list (λ m. times q (put xs l (xs l ++ p ∷ []) m) ≡ due (o' q) m) l k
      (ap (times q) (put_same xs l (xs l ++ p ∷ [])) ∙ elim (cases_eq q p) [
        | inl e ↦
            subst (λ r. times r (xs l ++ p ∷ []) ≡ due (o' r) l) (sym e) (
            times_push_same p (xs l) ∙ ap (λ c. c + 1) (none_free f g o xs n sound l p free) ∙ sym (due_own l) ∙ ap (λ w. due w l) (sym own))
        | inr ne ↦ times_push_other p q (xs l) (λ e. ne (sym e)) ∙ sound.once l q ∙ ap (λ w. due w l) (sym (others q ne))
      ])
      (λ apart. ap (times q) (put_other xs l (xs l ++ p ∷ []) k apart) ∙ sound.once k q ∙ elim (cases_eq q p) [
        | inl e ↦
            subst (λ r. due (o r) k ≡ due (o' r) k) (sym e) (
            ap (λ w. due w k) free ∙ sym (due_other l k (λ i. apart (sym i))) ∙ ap (λ w. due w k) (sym own))
        | inr ne ↦ ap (λ w. due w k) (sym (others q ne))
      ])

  pub linked_push : IsLinked f2 g2 o' (put xs l (xs l ++ p ∷ [])) n
  linked_push = record {
    leads = push_leads;
    back = λ k x inside on. each_list (λ m. IsOnRing o' m x → g2 (spot m (f2 (spot m x))) ≡ x) l k
        (push_back_at x)
        (λ ne on'. push_back_other k x inside ne (push_on_old k x ne on'))
        on;
    once = push_once;
    past = λ k out. put_other xs l (xs l ++ p ∷ []) k (λ e. absurd (let h : n ≤ l = subst (λ m. n ≤ m) e out in omega (arith, h, within))) ∙ sound.past k out;
  }

-- ---- a place taken out of its list

module _ (f g : Spot → Option ℕ) (o : ℕ → Option ℕ) (xs : ℕ → List ℕ) (n : ℕ) (sound : IsLinked f g o xs n)
    (l p : ℕ) (own : o p ≡ Some l)
    (f1 g1 f2 g2 : Spot → Option ℕ) (o' : ℕ → Option ℕ)
    (f_first : SetsAt f f1 (spot l (g (inner p))) (f (inner p))) (f_kept : (t : Spot) → (t ≡ inner p → ⊥) → f2 t ≡ f1 t)
    (g_first : SetsAt g g1 (spot l (f (inner p))) (g (inner p))) (g_kept : (t : Spot) → (t ≡ inner p → ⊥) → g2 t ≡ g1 t)
    (free : o' p ≡ None) (others : (q : ℕ) → (q ≡ p → ⊥) → o' q ≡ o q) where
  out_within : l < n
  out_within = own_within f g o xs n sound l p own

  out_around : Around f o l p
  out_around = around_of f g o xs n sound l p own

  out_before : IsOnRing o l (g (inner p)) × (f (spot l (g (inner p))) ≡ Some p) × (g (inner p) ≡ Some p → ⊥)
  out_before = before_of f g o xs n sound l p own

  -- a spot of any list that is not the place
  out_apart : (k : ℕ) (y : Option ℕ) → (y ≡ Some p → ⊥) → spot k y ≡ inner p → ⊥
  out_apart k None ne e = cc
  out_apart k (Some q) ne e = ne (ap Some (inner-inner q p e))

  -- what led to the place leads past it, and the rest leads as before
  out_f_jump : (y : Option ℕ) → IsOnRing o l y → (y ≡ Some p → ⊥) → f (spot l y) ≡ Some p → f2 (spot l y) ≡ f (inner p)
  out_f_jump y on ne e =
      let is : g (inner p) ≡ y = back_of f g o xs n sound l y (Some p) out_within on e in
      f_kept (spot l y) (out_apart l y ne) ∙ subst (λ w. f1 (spot l w) ≡ f (inner p)) is f_first.at

  out_f_same : (y : Option ℕ) → IsOnRing o l y → (y ≡ Some p → ⊥) → (f (spot l y) ≡ Some p → ⊥) → f2 (spot l y) ≡ f (spot l y)
  out_f_same y on ne past =
      f_kept (spot l y) (out_apart l y ne) ∙ f_first.others (spot l y) (λ same. past (ap f same ∙ out_before.1))

  out_f_other : (k : ℕ) (y : Option ℕ) → (k ≡ l → ⊥) → IsOnRing o k y → f2 (spot k y) ≡ f (spot k y)
  out_f_other k y apart on =
      f_kept (spot k y) (spots_apart o k l y (Some p) on own apart)
      ∙ f_first.others (spot k y) (spots_apart o k l y (g (inner p)) on out_before.0 apart)

  out_g_other : (k : ℕ) (y : Option ℕ) → (k ≡ l → ⊥) → IsOnRing o k y → g2 (spot k y) ≡ g (spot k y)
  out_g_other k y apart on =
      g_kept (spot k y) (spots_apart o k l y (Some p) on own apart)
      ∙ g_first.others (spot k y) (spots_apart o k l y (f (inner p)) on out_around.next_on apart)

  out_leads : (k : ℕ) → k < n → Leads f2 k None (put xs l (without p (xs l)) k)
  out_leads k inside = each_list (λ m. Leads f2 m None (put xs l (without p (xs l)) m)) l k
      (subst (λ ps. Leads f2 l None ps) (sym (put_same xs l (without p (xs l))))
      (leads_without f f2 o l p (xs l) None tt (all_of f g o xs n sound l) (λ e. cc) (at_most_once f g o xs n sound l p) out_f_same out_f_jump (sound.leads l out_within)))
      (λ ne. subst (λ ps. Leads f2 k None ps) (sym (put_other xs l (without p (xs l)) k ne))
      (leads_same f f2 o k (xs k) None tt (all_of f g o xs n sound k) (λ y on. out_f_other k y ne on) (sound.leads k inside)))

  -- a place of the new list is an old one, and not the one taken out
  out_on : (k : ℕ) (x : Option ℕ) → IsOnRing o' k x → IsOnRing o k x × (x ≡ Some p → ⊥)
  out_on k None on = (tt, λ e. cc)
  out_on k (Some q) on =
      let ne : q ≡ p → ⊥ = λ e. let bad : Some k ≡ None = sym on ∙ ap o' e ∙ free in cc in
      (sym (others q ne) ∙ on, λ e. ne (cc))

  out_back_at : (x : Option ℕ) → IsOnRing o l x → (x ≡ Some p → ⊥) → g2 (spot l (f2 (spot l x))) ≡ x
  out_back_at x on ne = elim (some_cases (f (spot l x)) p) [
    | inl e ↦
        ap (λ w. g2 (spot l w)) (out_f_jump x on ne e)
        ∙ g_kept (spot l (f (inner p))) (out_apart l (f (inner p)) out_around.onward)
        ∙ g_first.at
        ∙ back_of f g o xs n sound l x (Some p) out_within on e
    | inr past ↦
        ap (λ w. g2 (spot l w)) (out_f_same x on ne past)
        ∙ g_kept (spot l (f (spot l x))) (out_apart l (f (spot l x)) past)
        ∙ g_first.others (spot l (f (spot l x))) (λ same. ne (sym (sound.back l x out_within on) ∙ ap g same ∙ sound.back l (Some p) out_within own))
        ∙ sound.back l x out_within on
  ]

  out_back_other : (k : ℕ) (x : Option ℕ) → k < n → (k ≡ l → ⊥) → IsOnRing o k x → g2 (spot k (f2 (spot k x))) ≡ x
  out_back_other k x inside apart on =
      ap (λ w. g2 (spot k w)) (out_f_other k x apart on)
      ∙ out_g_other k (f (spot k x)) apart (next_on f g o xs n sound k inside x on)
      ∙ sound.back k x inside on

  out_once : (k q : ℕ) → times q (put xs l (without p (xs l)) k) ≡ due (o' q) k
  out_once k q = each_list (λ m. times q (put xs l (without p (xs l)) m) ≡ due (o' q) m) l k
      (ap (times q) (put_same xs l (without p (xs l))) ∙ elim (cases_eq q p) [
        | inl e ↦
            subst (λ r. times r (without p (xs l)) ≡ due (o' r) l) (sym e) (times-without_same p (xs l) ∙ ap (λ w. due w l) (sym free))
        | inr ne ↦ times-without_other p q (xs l) (λ e. ne (sym e)) ∙ sound.once l q ∙ ap (λ w. due w l) (sym (others q ne))
      ])
      (λ apart. ap (times q) (put_other xs l (without p (xs l)) k apart) ∙ sound.once k q ∙ elim (cases_eq q p) [
        | inl e ↦
            subst (λ r. due (o r) k ≡ due (o' r) k) (sym e) (
            ap (λ w. due w k) own ∙ due_other l k (λ i. apart (sym i)) ∙ ap (λ w. due w k) (sym free))
        | inr ne ↦ ap (λ w. due w k) (sym (others q ne))
      ])

  pub linked_without : IsLinked f2 g2 o' (put xs l (without p (xs l))) n
  linked_without = record {
    leads = out_leads;
    back = λ k x inside on. let old : IsOnRing o k x × (x ≡ Some p → ⊥) = out_on k x on in
        each_list (λ m. IsOnRing o m x → g2 (spot m (f2 (spot m x))) ≡ x) l k
        (λ on'. out_back_at x on' old.1)
        (λ ne on'. out_back_other k x inside ne on')
        old.0;
    once = out_once;
    past = λ k out. put_other xs l (without p (xs l)) k (λ e. absurd (let h : n ≤ l = subst (λ m. n ≤ m) e out in omega (arith, h, out_within))) ∙ sound.past k out;
  }

-- ---- more places and more lists

module _ (f g : Spot → Option ℕ) (o : ℕ → Option ℕ) (xs : ℕ → List ℕ) (n : ℕ) (sound : IsLinked f g o xs n)
    (f' g' : Spot → Option ℕ) (o' : ℕ → Option ℕ) (m : ℕ) (more : n ≤ m)
    (same_f : (t : Spot) → f' t ≡ f t) (same_g : (t : Spot) → g' t ≡ g t) (same_o : (p : ℕ) → o' p ≡ o p)
    (f_past : (l : ℕ) → n ≤ l → f (edge l) ≡ None) (g_past : (l : ℕ) → n ≤ l → g (edge l) ≡ None) where
  more_on : (l : ℕ) (x : Option ℕ) → IsOnRing o' l x → IsOnRing o l x
  more_on l None on = tt
  more_on l (Some p) on = sym (same_o p) ∙ on

  more_back : (l : ℕ) (x : Option ℕ) → IsOnRing o l x → g' (spot l (f' (spot l x))) ≡ x
  more_back l x on = elim (cases_lt l n) [
    | inl within ↦ ap (λ w. g' (spot l w)) (same_f (spot l x)) ∙ same_g (spot l (f (spot l x))) ∙ sound.back l x within on
    | inr past ↦ more_back_past l x on past
  ] where
    more_back_past : (l : ℕ) (x : Option ℕ) → IsOnRing o l x → n ≤ l → g' (spot l (f' (spot l x))) ≡ x
    more_back_past l None on past = ap (λ w. g' (spot l w)) (same_f (edge l) ∙ f_past l past) ∙ same_g (edge l) ∙ g_past l past
    more_back_past l (Some p) on past = absurd (let within : l < n = own_within f g o xs n sound l p on in omega (arith, within, past))

  pub linked_more : IsLinked f' g' o' xs m
  linked_more = record {
    leads = λ l inside. elim (cases_lt l n) [
      | inl within ↦ leads_same f f' o l (xs l) None tt (all_of f g o xs n sound l) (λ y on. same_f (spot l y)) (sound.leads l within)
      | inr past ↦ subst (λ ps. Leads f' l None ps) (sym (sound.past l past)) (same_f (edge l) ∙ f_past l past)
    ];
    back = λ l x inside on. more_back l x (more_on l x on);
    once = λ l p. sound.once l p ∙ ap (λ w. due w l) (sym (same_o p));
    past = λ l out. sound.past l (le_trans more out);
  }
