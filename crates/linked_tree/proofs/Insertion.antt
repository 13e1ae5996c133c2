-- Sound links stay sound where a node is put behind a spot of a list.
use Rattle.std.proofs.Common.{◌≡◌, ℕ, ◌+◌, ◌<◌, ◌≤◌, cond, eqb, List, [], ◌∷◌, Option, Some, None, ◌⊎◌, inl, inr, refl, sym, ap, ◌∙◌, subst, arith}
use Rattle.std.proofs.lemmas.Bool.{cases_eq, eq-eqb, ne_eqb}
use Rattle.std.proofs.lemmas.List.Sums.{sum_by-cons}
use Rattle.index_lists.specs.Lists.{times}
use Rattle.index_lists.specs.Rings.{Spot, inner, spot, SetsAt, IsOnRing, Leads, IsLinked}
use Rattle.index_lists.proofs.Times.{times_here, times_there, ne_from_times}
use Rattle.index_lists.proofs.RingLemmas.{AllOn, due, due_own, due_other, spots_apart, not_free, inner-inner, leads_same, all_of, none_free, once_own, next_on}
use Rattle.index_lists.proofs.RingChanges.{put, put_same, put_other}
use Rattle.linked_tree.specs.Forest.{insert_behind}
use Rattle.linked_tree.specs.Links.{behind}

-- ---- lists with a node more

insert_behind_here : (q n : ℕ) (xs : List ℕ) → insert_behind q n (q ∷ xs) ≡ q ∷ n ∷ xs
insert_behind_here q n xs = rw (eq-eqb q q refl)

insert_behind_there : (q n x : ℕ) (xs : List ℕ) → (x ≡ q → ⊥) → insert_behind q n (x ∷ xs) ≡ x ∷ insert_behind q n xs
insert_behind_there q n x xs ne = rw (ne_eqb x q ne)

-- what one node counts for
abbrev one_if : ℕ → ℕ → ℕ
one_if m x = cond (eqb x m) 1 0

times_cons : (m x : ℕ) (xs : List ℕ) → times m (x ∷ xs) ≡ one_if m x + times m xs
times_cons m x xs = sum_by-cons (one_if m) x xs

-- a list with n behind a node has n once more
times_inserted : (q n m : ℕ) (xs : List ℕ) → 1 ≤ times q xs → times m (insert_behind q n xs) ≡ times m (n ∷ xs)
times_inserted q n m [] some = absurd (omega (arith, some))
times_inserted q n m (x ∷ xs) some = elim (cases_eq x q) [
  | inl e ↦ subst (λ r. times m (insert_behind r n (x ∷ xs)) ≡ times m (n ∷ x ∷ xs)) e
      (ap (times m) (insert_behind_here x n xs) ∙ swapped m x n xs)
  | inr ne ↦
      ap (times m) (insert_behind_there q n x xs ne)
      ∙ below m x (insert_behind q n xs) (n ∷ xs) (times_inserted q n m xs (subst (λ k. 1 ≤ k) (times_there q x xs ne) some))
      ∙ swapped m x n xs
] where
  below : (m x : ℕ) (xs ys : List ℕ) → times m xs ≡ times m ys → times m (x ∷ xs) ≡ times m (x ∷ ys)
  below m x xs ys same = elim (cases_eq x m) [
    | inl e ↦ subst (λ r. times r xs ≡ times r ys → times r (x ∷ xs) ≡ times r (x ∷ ys)) e (λ s. times_here x xs ∙ ap (λ k. k + 1) s ∙ sym (times_here x ys)) same
    | inr ne ↦ times_there m x xs ne ∙ same ∙ sym (times_there m x ys ne)
  ]

  swapped : (m x n : ℕ) (xs : List ℕ) → times m (x ∷ n ∷ xs) ≡ times m (n ∷ x ∷ xs)
  swapped m x n xs =
      let a : times m (x ∷ n ∷ xs) ≡ one_if m x + times m (n ∷ xs) = times_cons m x (n ∷ xs) in
      let b : times m (n ∷ xs) ≡ one_if m n + times m xs = times_cons m n xs in
      let d : times m (n ∷ x ∷ xs) ≡ one_if m n + times m (x ∷ xs) = times_cons m n (x ∷ xs) in
      let e : times m (x ∷ xs) ≡ one_if m x + times m xs = times_cons m x xs in
      omega (arith, a, b, d, e)

-- the places of a list are told by `behind` as by `insert_behind`
times_behind : (x : Option ℕ) (n m : ℕ) (xs : List ℕ) → ((q : ℕ) → x ≡ Some q → 1 ≤ times q xs) → times m (behind x n xs) ≡ times m (n ∷ xs)
times_behind None n m xs some = refl
times_behind (Some q) n m xs some = times_inserted q n m xs (some q refl)

-- ---- the links forward

-- no node of the list is this spot
abbrev Avoids : Option ℕ → List ℕ → Type 0
Avoids x [] = Unit {0}
Avoids x (q ∷ ps) = (Some q ≡ x → ⊥) × Avoids x ps

avoids_edge : (ps : List ℕ) → Avoids None ps
avoids_edge [] = tt
avoids_edge (p ∷ ps) = (λ e. cc, avoids_edge ps)

avoids_none : (q : ℕ) (ps : List ℕ) → times q ps ≡ 0 → Avoids (Some q) ps
avoids_none q [] none = tt
avoids_none q (p ∷ ps) none =
    let apart : p ≡ q → ⊥ = ne_from_times q p ps none in
    (λ e. apart (cc), avoids_none q ps (sym (times_there q p ps apart) ∙ none))

module _ (f g : Spot → Option ℕ) (o : ℕ → Option ℕ) (l p : ℕ) (x : Option ℕ)
    (kept : (y : Option ℕ) → IsOnRing o l y → (y ≡ x → ⊥) → g (spot l y) ≡ f (spot l y))
    (to : g (spot l x) ≡ Some p) (on_from : g (inner p) ≡ f (spot l x)) where
  leads_kept : (ps : List ℕ) (z : Option ℕ) → IsOnRing o l z → AllOn o l ps → (z ≡ x → ⊥) → Avoids x ps → Leads f l z ps → Leads g l z ps
  leads_kept [] z on all ne free h = kept z on ne ∙ h
  leads_kept (q ∷ ps) z on all ne free h = (kept z on ne ∙ h.0, leads_kept ps (Some q) all.0 all.1 free.0 free.1 h.1)

  -- behind the spot itself
  leads_here : (ps : List ℕ) → AllOn o l ps → Avoids x ps → Leads f l x ps → Leads g l x (p ∷ ps)
  leads_here [] all free h = (to, on_from ∙ h)
  leads_here (q ∷ ps) all free h = (to, (on_from ∙ h.0, leads_kept ps (Some q) all.0 all.1 free.0 free.1 h.1))

  leads_later : (r : ℕ) → x ≡ Some r → (ps : List ℕ) (z : Option ℕ) → IsOnRing o l z → AllOn o l ps → (z ≡ x → ⊥) → times r ps ≡ 1 → Leads f l z ps → Leads g l z (insert_behind r p ps)
  leads_later r is [] z on all ne one h = absurd (omega (arith, one))
  leads_later r is (q ∷ ps) z on all ne one h = elim (cases_eq q r) [
    | inl e ↦
        let none : times q ps ≡ 0 = let here : times q (q ∷ ps) ≡ times q ps + 1 = times_here q ps in let one' : times q (q ∷ ps) ≡ 1 = subst (λ s. times s (q ∷ ps) ≡ 1) (sym e) one in omega (arith, here, one') in
        let at : x ≡ Some q = is ∙ ap Some (sym e) in
        subst (λ s. Leads g l z (insert_behind s p (q ∷ ps))) e
        (subst (λ qs. Leads g l z qs) (sym (insert_behind_here q p ps)) (
          kept z on ne ∙ h.0,
          subst (λ y. Leads g l y (p ∷ ps)) at
              (leads_here ps all.1 (subst (λ y. Avoids y ps) (sym at) (avoids_none q ps none)) (subst (λ y. Leads f l y ps) (sym at) h.1)),
        ))
    | inr apart ↦
        subst (λ qs. Leads g l z qs) (sym (insert_behind_there r p q ps apart))
        (kept z on ne ∙ h.0, leads_later r is ps (Some q) all.0 all.1 (λ e. apart (let s : Some q ≡ Some r = e ∙ is in cc)) (sym (times_there r q ps apart) ∙ one) h.1)
  ]

-- a node put behind a spot of the list
leads_behind : (f g : Spot → Option ℕ) (o : ℕ → Option ℕ) (l p : ℕ) (x : Option ℕ) →
    ((y : Option ℕ) → IsOnRing o l y → (y ≡ x → ⊥) → g (spot l y) ≡ f (spot l y)) →
    g (spot l x) ≡ Some p → g (inner p) ≡ f (spot l x) →
    (ps : List ℕ) → AllOn o l ps → ((q : ℕ) → x ≡ Some q → times q ps ≡ 1) → Leads f l None ps → Leads g l None (behind x p ps)
leads_behind f g o l p None kept to on_from ps all one h = leads_here f g o l p None kept to on_from ps all (avoids_edge ps) h
leads_behind f g o l p (Some r) kept to on_from ps all one h =
    leads_later f g o l p (Some r) kept to on_from r refl ps None tt all (λ e. cc) (one r refl) h

-- ---- sound links

-- a fact at l and at each other list is a fact at every list
each_list : (P : ℕ → Type 0) (l k : ℕ) → P l → ((k ≡ l → ⊥) → P k) → P k
each_list P l k same other = elim (cases_eq k l) [ inl e ↦ subst P (sym e) same | inr ne ↦ other ne ]

spot-spot : (l : ℕ) (x y : Option ℕ) → spot l x ≡ spot l y → x ≡ y
spot-spot l None None e = refl
spot-spot l None (Some q) e = cc
spot-spot l (Some p) None e = cc
spot-spot l (Some p) (Some q) e = ap Some (inner-inner p q e)

option_cases : (x y : Option ℕ) → (x ≡ y) ⊎ (x ≡ y → ⊥)
option_cases None None = inl refl
option_cases None (Some q) = inr (λ e. cc)
option_cases (Some p) None = inr (λ e. cc)
option_cases (Some p) (Some q) = elim (cases_eq p q) [ inl e ↦ inl (ap Some e) | inr ne ↦ inr (λ e. ne (cc)) ]

module _ (f g : Spot → Option ℕ) (o : ℕ → Option ℕ) (xs : ℕ → List ℕ) (n : ℕ) (sound : IsLinked f g o xs n)
    (l p : ℕ) (x : Option ℕ) (within : l < n) (free : o p ≡ None) (on : IsOnRing o l x)
    (f1 g1 f2 g2 : Spot → Option ℕ) (o' : ℕ → Option ℕ)
    (f_first : SetsAt f f1 (spot l x) (Some p)) (f_second : SetsAt f1 f2 (inner p) (f (spot l x)))
    (g_first : SetsAt g g1 (inner p) x) (g_second : SetsAt g1 g2 (spot l (f (spot l x))) (Some p))
    (own : o' p ≡ Some l) (others : (q : ℕ) → (q ≡ p → ⊥) → o' q ≡ o q) where
  put_next_on : IsOnRing o l (f (spot l x))
  put_next_on = next_on f g o xs n sound l within x on

  put_f_to : f2 (spot l x) ≡ Some p
  put_f_to = f_second.others (spot l x) (not_free o l p x on free) ∙ f_first.at

  put_f_kept : (t : Spot) → (t ≡ inner p → ⊥) → (t ≡ spot l x → ⊥) → f2 t ≡ f t
  put_f_kept t a b = f_second.others t a ∙ f_first.others t b

  put_g_place : g2 (inner p) ≡ x
  put_g_place = g_second.others (inner p) (λ e. not_free o l p (f (spot l x)) put_next_on free (sym e)) ∙ g_first.at

  put_g_kept : (t : Spot) → (t ≡ inner p → ⊥) → (t ≡ spot l (f (spot l x)) → ⊥) → g2 t ≡ g t
  put_g_kept t a b = g_second.others t b ∙ g_first.others t a

  put_f_on : (y : Option ℕ) → IsOnRing o l y → (y ≡ x → ⊥) → f2 (spot l y) ≡ f (spot l y)
  put_f_on y at ne = put_f_kept (spot l y) (not_free o l p y at free) (λ e. ne (spot-spot l y x e))

  put_once_in : (q : ℕ) → x ≡ Some q → times q (xs l) ≡ 1
  put_once_in q is = once_own f g o xs n sound l q (subst (λ y. IsOnRing o l y) is on)

  put_leads : (k : ℕ) → k < n → Leads f2 k None (put xs l (behind x p (xs l)) k)
  put_leads k inside = each_list (λ m. Leads f2 m None (put xs l (behind x p (xs l)) m)) l k
      (subst (λ ps. Leads f2 l None ps) (sym (put_same xs l (behind x p (xs l))))
      (leads_behind f f2 o l p x put_f_on put_f_to f_second.at (xs l) (all_of f g o xs n sound l) put_once_in (sound.leads l within)))
      (λ ne. subst (λ ps. Leads f2 k None ps) (sym (put_other xs l (behind x p (xs l)) k ne))
      (leads_same f f2 o k (xs k) None tt (all_of f g o xs n sound k)
      (λ y at. put_f_kept (spot k y) (not_free o k p y at free) (spots_apart o k l y x at on ne))
      (sound.leads k inside)))

  put_back_old : (y : Option ℕ) → IsOnRing o l y → g2 (spot l (f2 (spot l y))) ≡ y
  put_back_old y at = elim (option_cases y x) [
    | inl e ↦ subst (λ z. g2 (spot l (f2 (spot l z))) ≡ z) (sym e) (ap (λ w. g2 (spot l w)) put_f_to ∙ put_g_place)
    | inr ne ↦
        let next : IsOnRing o l (f (spot l y)) = next_on f g o xs n sound l within y at in
        ap (λ w. g2 (spot l w)) (put_f_on y at ne)
        ∙ put_g_kept (spot l (f (spot l y))) (not_free o l p (f (spot l y)) next free)
        (λ e. ne (sym (sound.back l y within at) ∙ ap g e ∙ sound.back l x within on))
        ∙ sound.back l y within at
  ]

  put_back_at : (y : Option ℕ) → IsOnRing o' l y → g2 (spot l (f2 (spot l y))) ≡ y
  put_back_at None at = put_back_old None tt
  put_back_at (Some q) at = elim (cases_eq q p) [
    | inl e ↦ subst (λ r. g2 (spot l (f2 (inner r))) ≡ Some r) (sym e) (ap (λ w. g2 (spot l w)) f_second.at ∙ g_second.at)
    | inr ne ↦ put_back_old (Some q) (sym (others q ne) ∙ at)
  ]

  put_on_old : (k : ℕ) (y : Option ℕ) → (k ≡ l → ⊥) → IsOnRing o' k y → IsOnRing o k y
  put_on_old k None ne at = tt
  put_on_old k (Some q) ne at =
      sym (others q (λ e. let same : Some k ≡ Some l = sym at ∙ ap o' e ∙ own in ne (cc))) ∙ at

  put_back_other : (k : ℕ) (y : Option ℕ) → k < n → (k ≡ l → ⊥) → IsOnRing o k y → g2 (spot k (f2 (spot k y))) ≡ y
  put_back_other k y inside ne at =
      let next : IsOnRing o k (f (spot k y)) = next_on f g o xs n sound k inside y at in
      ap (λ w. g2 (spot k w)) (put_f_kept (spot k y) (not_free o k p y at free) (spots_apart o k l y x at on ne))
      ∙ put_g_kept (spot k (f (spot k y))) (not_free o k p (f (spot k y)) next free) (spots_apart o k l (f (spot k y)) (f (spot l x)) next put_next_on ne)
      ∙ sound.back k y inside at

  put_once : (k q : ℕ) → times q (put xs l (behind x p (xs l)) k) ≡ due (o' q) k
  put_once k q = each_list (λ m. times q (put xs l (behind x p (xs l)) m) ≡ due (o' q) m) l k
      (ap (times q) (put_same xs l (behind x p (xs l)))
      ∙ times_behind x p q (xs l) (λ r is. subst (λ c. 1 ≤ c) (sym (put_once_in r is)) (omega arith))
      ∙ elim (cases_eq p q) [
        | inl e ↦
            subst (λ r. times r (p ∷ xs l) ≡ due (o' r) l) e (
            times_here p (xs l) ∙ ap (λ c. c + 1) (none_free f g o xs n sound l p free) ∙ sym (due_own l) ∙ ap (λ w. due w l) (sym own))
        | inr ne ↦ times_there q p (xs l) ne ∙ sound.once l q ∙ ap (λ w. due w l) (sym (others q (λ e. ne (sym e))))
      ])
      (λ apart. ap (times q) (put_other xs l (behind x p (xs l)) k apart) ∙ sound.once k q ∙ elim (cases_eq q p) [
        | inl e ↦
            subst (λ r. due (o r) k ≡ due (o' r) k) (sym e) (
            ap (λ w. due w k) free ∙ sym (due_other l k (λ i. apart (sym i))) ∙ ap (λ w. due w k) (sym own))
        | inr ne ↦ ap (λ w. due w k) (sym (others q ne))
      ])

  pub linked_behind : IsLinked f2 g2 o' (put xs l (behind x p (xs l))) n
  linked_behind = record {
    leads = put_leads;
    back = λ k y inside at. each_list (λ m. IsOnRing o' m y → g2 (spot m (f2 (spot m y))) ≡ y) l k
        (put_back_at y)
        (λ ne at'. put_back_other k y inside ne (put_on_old k y ne at'))
        at;
    once = put_once;
    past = λ k out. put_other xs l (behind x p (xs l)) k (λ e. absurd (let h : n ≤ l = subst (λ m. n ≤ m) e out in omega (arith, h, within))) ∙ sound.past k out;
  }
