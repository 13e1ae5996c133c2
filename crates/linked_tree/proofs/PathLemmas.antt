-- Paths down and ways up: that each node has one path, and which of two paths stands before the other.
use Rattle.std.proofs.Common.{◌≡◌, ℕ, zero, suc, ◌+◌, ◌<◌, ◌≤◌, true, false, eqb, ltb, Bool, ◌||◌, List, [], ◌∷◌, ◌++◌, length, Option, Some, None, inl, inr, refl, sym, ap, ◌∙◌, subst, length-append, arith}
use Rattle.std.specs.Prelude.{slice_get}
use Rattle.std.specs.List.{list_any, position_or_len}
use Rattle.std.proofs.lemmas.Bool.{cases_eq, eq-eqb, ne_eqb, eqb-true, or_cases}
use Rattle.index_lists.specs.Lists.{times, from_first}
use Rattle.index_lists.proofs.Times.{times_here, times_rest}
use Rattle.linked_tree.specs.Forest.{Node, parent_of, kids_of, climb, above, IsForest}
use Rattle.linked_tree.specs.Paths.{follow, IsPath, is_path_before, IsBefore}
use Rattle.linked_tree.proofs.Climbs.{climb-none, climb-climb, climb_some}
use Rattle.linked_tree.proofs.KidLemmas.{stands_once, kid_at, kid_once, times_at, position-at}

-- ---- paths put together

follow-none : (t : List Node) (q : List ℕ) → follow t None q ≡ None
follow-none t [] = refl
follow-none t (i ∷ q) = refl

pub follow-append : (t : List Node) (p q : List ℕ) (x : Option ℕ) → follow t x (p ++ q) ≡ follow t (follow t x p) q
follow-append t [] q x = refl
follow-append t (i ∷ p) q None = sym (follow-none t q)
follow-append t (i ∷ p) q (Some n) = follow-append t p q (slice_get (kids_of t n) i)

-- a path leads down to each node from each one above it, by as many places as there are levels between
pub path_down : (t : List Node) (forest : IsForest t) (k n m : ℕ) → climb (parent_of t) k (Some n) ≡ Some m → (p : List ℕ) × (length p ≡ k) × (follow t (Some m) p ≡ Some n)
path_down t forest zero n m e = ([], refl, sym e)
path_down t forest (suc k) n m e =
    let last : (q : ℕ) × (climb (parent_of t) 1 (Some n) ≡ Some q) = climb_some (parent_of t) 1 k (Some n) m (ap (λ j. climb (parent_of t) j (Some n)) (let s : 1 + k ≡ suc k = omega arith in s) ∙ e) in
    let own : parent_of t n ≡ Some last.0 = last.1 in
    let upper : (p : List ℕ) × (length p ≡ k) × (follow t (Some m) p ≡ Some last.0) = path_down t forest k last.0 m (ap (climb (parent_of t) k) (sym own) ∙ e) in
    let one : times n (kids_of t last.0) ≡ 1 = stands_once t n last.0 forest own in
    let at = position-at n (kids_of t last.0) (omega (arith, one)) in
    let place : ℕ = position_or_len (λ y. eqb y n) (kids_of t last.0) in (
      upper.0 ++ place ∷ [],
      length-append upper.0 (place ∷ []) ∙ ap (λ j. j + 1) upper.1 ∙ omega arith,
      follow-append t upper.0 (place ∷ []) (Some m) ∙ ap (λ x. follow t x (place ∷ [])) upper.2 ∙ at.1,
    )

-- and what a path leads down to is as many levels below
pub climb_path : (t : List Node) (forest : IsForest t) (p : List ℕ) (m n : ℕ) → follow t (Some m) p ≡ Some n → climb (parent_of t) (length p) (Some n) ≡ Some m
climb_path t forest [] m n e = sym e
climb_path t forest (i ∷ p) m n e = on (slice_get (kids_of t m) i) refl e (λ q. climb_path t forest p q n)
  where
    on : (y : Option ℕ) → slice_get (kids_of t m) i ≡ y → follow t y p ≡ Some n → ((q : ℕ) → follow t (Some q) p ≡ Some n → climb (parent_of t) (length p) (Some n) ≡ Some q) → climb (parent_of t) (length (i ∷ p)) (Some n) ≡ Some m
    on None is e rest = absurd (let bad : None ≡ Some n = sym (follow-none t p) ∙ e in cc)
    on (Some q) is e rest =
        ap (λ j. climb (parent_of t) j (Some n)) (let s : suc (length p) ≡ length p + 1 = omega arith in s)
        ∙ sym (climb-climb (parent_of t) (length p) 1 (Some n))
        ∙ ap (climb (parent_of t) 1) (rest q e)
        ∙ kid_at t m i q forest is

-- ---- one path for each node

-- two ways up that end, end at one level
pub one_top : (o : ℕ → Option ℕ) (a b : ℕ) (x : Option ℕ) (r s : ℕ) → climb o a x ≡ Some r → o r ≡ None → climb o b x ≡ Some s → o s ≡ None → a ≡ b
one_top o zero zero x r s e top e' top' = refl
one_top o zero (suc b) None r s e top e' top' = absurd (cc)
one_top o zero (suc b) (Some n) r s e top e' top' = absurd (
    let same : n ≡ r = cc in
    let bad : None ≡ Some s = sym (ap (climb o b) (ap o same ∙ top) ∙ climb-none o b) ∙ e' in cc)
one_top o (suc a) zero None r s e top e' top' = absurd (cc)
one_top o (suc a) zero (Some n) r s e top e' top' = absurd (
    let same : n ≡ s = cc in
    let bad : None ≡ Some r = sym (ap (climb o a) (ap o same ∙ top') ∙ climb-none o a) ∙ e in cc)
one_top o (suc a) (suc b) None r s e top e' top' = absurd (cc)
one_top o (suc a) (suc b) (Some n) r s e top e' top' = ap suc (one_top o a b (o n) r s e top e' top')

-- a node that stands once in a list has one place
one_place : (xs : List ℕ) (i j n : ℕ) → times n xs ≤ 1 → slice_get xs i ≡ Some n → slice_get xs j ≡ Some n → i ≡ j
one_place [] i j n once e e' = absurd (cc)
one_place (x ∷ xs) zero zero n once e e' = refl
one_place (x ∷ xs) zero (suc j) n once e e' = absurd (twice x xs j n once e e')
  where
    twice : (x : ℕ) (xs : List ℕ) (j n : ℕ) → times n (x ∷ xs) ≤ 1 → Some x ≡ Some n → slice_get xs j ≡ Some n → ⊥
    twice x xs j n once e e' =
        let same : x ≡ n = cc in
        let later : 1 ≤ times n xs = times_at xs j n e' in
        let here : times n (n ∷ xs) ≡ times n xs + 1 = times_here n xs in
        let once' : times n (n ∷ xs) ≤ 1 = subst (λ y. times n (y ∷ xs) ≤ 1) same once in
        omega (arith, later, here, once')
one_place (x ∷ xs) (suc i) zero n once e e' = absurd (twice x xs i n once e' e)
  where
    twice : (x : ℕ) (xs : List ℕ) (j n : ℕ) → times n (x ∷ xs) ≤ 1 → Some x ≡ Some n → slice_get xs j ≡ Some n → ⊥
    twice x xs j n once e e' =
        let same : x ≡ n = cc in
        let later : 1 ≤ times n xs = times_at xs j n e' in
        let here : times n (n ∷ xs) ≡ times n xs + 1 = times_here n xs in
        let once' : times n (n ∷ xs) ≤ 1 = subst (λ y. times n (y ∷ xs) ≤ 1) same once in
        omega (arith, later, here, once')
one_place (x ∷ xs) (suc i) (suc j) n once e e' = ap suc (one_place xs i j n (omega (arith, once, times_rest n x xs)) e e')

-- a path's first step
record FirstStep (t : List Node) (i : ℕ) (p : List ℕ) (m n : ℕ) : Type 0 where
  to : ℕ
  at : slice_get (kids_of t m) i ≡ Some to
  rest : follow t (Some to) p ≡ Some n

first_step : (t : List Node) (i : ℕ) (p : List ℕ) (m n : ℕ) → follow t (Some m) (i ∷ p) ≡ Some n → FirstStep t i p m n
first_step t i p m n e = on (slice_get (kids_of t m) i) refl e
  where
    on : (y : Option ℕ) → slice_get (kids_of t m) i ≡ y → follow t y p ≡ Some n → FirstStep t i p m n
    on None is e = absurd (let bad : None ≡ Some n = sym (follow-none t p) ∙ e in cc)
    on (Some q) is e = record { to = q; at = is; rest = e }

same_path : (t : List Node) (forest : IsForest t) (p q : List ℕ) (m n : ℕ) → length p ≡ length q → follow t (Some m) p ≡ Some n → follow t (Some m) q ≡ Some n → p ≡ q
same_path t forest [] [] m n len e e' = refl
same_path t forest [] (j ∷ q) m n len e e' = absurd (omega (arith, len))
same_path t forest (i ∷ p) [] m n len e e' = absurd (omega (arith, len))
same_path t forest (i ∷ p) (j ∷ q) m n len e e' =
    let a : FirstStep t i p m n = first_step t i p m n e in
    let b : FirstStep t j q m n = first_step t j q m n e' in
    let len' : length p ≡ length q = omega (arith, len) in
    let over_a : climb (parent_of t) (length p) (Some n) ≡ Some a.to = climb_path t forest p a.to n a.rest in
    let over_b : climb (parent_of t) (length p) (Some n) ≡ Some b.to = ap (λ k. climb (parent_of t) k (Some n)) len' ∙ climb_path t forest q b.to n b.rest in
    let both : Some a.to ≡ Some b.to = sym over_a ∙ over_b in
    let same : a.to ≡ b.to = cc in
    let place : i ≡ j = one_place (kids_of t m) i j b.to (kid_once t b.to m forest) (a.at ∙ ap Some same) b.at in
    let rest : p ≡ q = same_path t forest p q b.to n len' (subst (λ r. follow t (Some r) p ≡ Some n) same a.rest) b.rest in
    λ k. place k ∷ rest k

-- each node has one root and one path
pub one_path : (t : List Node) → IsForest t → (r s n : ℕ) (p q : List ℕ) → IsPath t r p n → IsPath t s q n → (r ≡ s) × (p ≡ q)
one_path t forest r s n p q a b =
    let up_a : climb (parent_of t) (length p) (Some n) ≡ Some r = climb_path t forest p r n a.leads in
    let up_b : climb (parent_of t) (length q) (Some n) ≡ Some s = climb_path t forest q s n b.leads in
    let len : length p ≡ length q = one_top (parent_of t) (length p) (length q) (Some n) r s up_a a.top up_b b.top in
    let both : Some r ≡ Some s = sym up_a ∙ ap (λ k. climb (parent_of t) k (Some n)) len ∙ up_b in
    let same : r ≡ s = cc in
    (same, same_path t forest p q s n len (subst (λ u. follow t (Some u) p ≡ Some n) same a.leads) b.leads)

-- ---- the order of paths

before_common : (c a b : List ℕ) → is_path_before (c ++ a) (c ++ b) ≡ is_path_before a b
before_common [] a b = refl
before_common (x ∷ c) a b = rw (eq-eqb x x refl) (before_common c a b)

before_none : (a : List ℕ) → is_path_before a [] ≡ false
before_none [] = refl
before_none (x ∷ a) = refl

before_at : (i j : ℕ) (a b : List ℕ) → (i ≡ j → ⊥) → is_path_before (i ∷ a) (j ∷ b) ≡ ltb i j
before_at i j a b ne = rw (ne_eqb i j ne) refl

-- with these paths, a stands before b exactly where the paths say so
pub order_told : (t : List Node) → IsForest t → (r a b : ℕ) (p q : List ℕ) → IsPath t r p a → IsPath t r q b → is_path_before p q ≡ false → IsBefore t a b → ⊥
order_told t forest r a b p q to_a to_b no_order h =
    let same_p : (r ≡ h.root) × (p ≡ h.path) = one_path t forest r h.root a p h.path to_a h.to_a in
    let same_q : (r ≡ h.root) × (q ≡ h.other) = one_path t forest r h.root b q h.other to_b h.to_b in
    let both : is_path_before p q ≡ true = ap (λ x. is_path_before x q) same_p.1 ∙ ap (is_path_before h.path) same_q.1 ∙ h.order in
    let bad : false ≡ true = sym no_order ∙ both in cc

-- two nodes below x, one of which is x: the one with fewer levels is before
module _ (t : List Node) (forest : IsForest t) (a b x : ℕ) (d over_a over_b : ℕ) (root : ℕ) (top : parent_of t root ≡ None)
    (to_root : climb (parent_of t) d (Some x) ≡ Some root) (to_a : above t over_a a ≡ Some x) (to_b : above t over_b b ≡ Some x) where
  path_x : (p : List ℕ) × (length p ≡ d) × (follow t (Some root) p ≡ Some x)
  path_x = path_down t forest d x root to_root

  path_a : (p : List ℕ) × (length p ≡ over_a) × (follow t (Some x) p ≡ Some a)
  path_a = path_down t forest over_a a x to_a

  path_b : (p : List ℕ) × (length p ≡ over_b) × (follow t (Some x) p ≡ Some b)
  path_b = path_down t forest over_b b x to_b

  whole_a : IsPath t root (path_x.0 ++ path_a.0) a
  whole_a = record { top = top; leads = follow-append t path_x.0 path_a.0 (Some root) ∙ ap (λ y. follow t y path_a.0) path_x.2 ∙ path_a.2 }

  whole_b : IsPath t root (path_x.0 ++ path_b.0) b
  whole_b = record { top = top; leads = follow-append t path_x.0 path_b.0 (Some root) ∙ ap (λ y. follow t y path_b.0) path_x.2 ∙ path_b.2 }

  pub ancestor_before : over_a ≡ 0 → 0 < over_b → IsBefore t a b
  ancestor_before here lower = record {
    root = root;
    path = path_x.0 ++ path_a.0;
    other = path_x.0 ++ path_b.0;
    to_a = whole_a;
    to_b = whole_b;
    order = before_common path_x.0 path_a.0 path_b.0 ∙ shorter path_a.0 path_b.0 (path_a.1 ∙ here) (subst (λ n. 0 < n) (sym path_b.1) lower);
  } where
    shorter : (p q : List ℕ) → length p ≡ 0 → 0 < length q → is_path_before p q ≡ true
    shorter [] [] e lt = absurd (omega (arith, lt))
    shorter [] (j ∷ q) e lt = refl
    shorter (i ∷ p) q e lt = absurd (omega (arith, e))

  pub not_ancestor_before : over_b ≡ 0 → IsBefore t a b → ⊥
  not_ancestor_before here =
      order_told t forest root a b (path_x.0 ++ path_a.0) (path_x.0 ++ path_b.0) whole_a whole_b
      (before_common path_x.0 path_a.0 path_b.0 ∙ longer path_b.0 (path_b.1 ∙ here))
    where
      longer : (q : List ℕ) → length q ≡ 0 → is_path_before path_a.0 q ≡ false
      longer [] e = before_none path_a.0
      longer (j ∷ q) e = absurd (omega (arith, e))

-- two nodes below different children x and y of one node
module _ (t : List Node) (forest : IsForest t) (a b x y over_a over_b : ℕ) (to_a : above t over_a a ≡ Some x) (to_b : above t over_b b ≡ Some y) where
  module _ (root top_levels parent i j : ℕ) (top : parent_of t root ≡ None) (to_root : climb (parent_of t) top_levels (Some parent) ≡ Some root)
      (at_x : slice_get (kids_of t parent) i ≡ Some x) (at_y : slice_get (kids_of t parent) j ≡ Some y) (apart : i ≡ j → ⊥) where
    path_parent : (p : List ℕ) × (length p ≡ top_levels) × (follow t (Some root) p ≡ Some parent)
    path_parent = path_down t forest top_levels parent root to_root

    down_a : (p : List ℕ) × (length p ≡ over_a) × (follow t (Some x) p ≡ Some a)
    down_a = path_down t forest over_a a x to_a

    down_b : (p : List ℕ) × (length p ≡ over_b) × (follow t (Some y) p ≡ Some b)
    down_b = path_down t forest over_b b y to_b

    by_a : IsPath t root (path_parent.0 ++ i ∷ down_a.0) a
    by_a = record { top = top; leads = follow-append t path_parent.0 (i ∷ down_a.0) (Some root) ∙ ap (λ z. follow t z (i ∷ down_a.0)) path_parent.2 ∙ ap (λ z. follow t z down_a.0) at_x ∙ down_a.2 }

    by_b : IsPath t root (path_parent.0 ++ j ∷ down_b.0) b
    by_b = record { top = top; leads = follow-append t path_parent.0 (j ∷ down_b.0) (Some root) ∙ ap (λ z. follow t z (j ∷ down_b.0)) path_parent.2 ∙ ap (λ z. follow t z down_b.0) at_y ∙ down_b.2 }

    order_is : is_path_before (path_parent.0 ++ i ∷ down_a.0) (path_parent.0 ++ j ∷ down_b.0) ≡ ltb i j
    order_is = before_common path_parent.0 (i ∷ down_a.0) (j ∷ down_b.0) ∙ before_at i j down_a.0 down_b.0 apart

    pub parted_before : ltb i j ≡ true → IsBefore t a b
    parted_before less = record {
      root = root;
      path = path_parent.0 ++ i ∷ down_a.0;
      other = path_parent.0 ++ j ∷ down_b.0;
      to_a = by_a;
      to_b = by_b;
      order = order_is ∙ less;
    }

    pub not_parted_before : ltb i j ≡ false → IsBefore t a b → ⊥
    not_parted_before less =
        order_told t forest root a b (path_parent.0 ++ i ∷ down_a.0) (path_parent.0 ++ j ∷ down_b.0) by_a by_b (order_is ∙ less)

  -- under different roots neither is before the other
  pub apart_not_before : parent_of t x ≡ None → parent_of t y ≡ None → (x ≡ y → ⊥) → IsBefore t a b → ⊥
  apart_not_before top_x top_y ne h =
      let up_a : climb (parent_of t) (length h.path) (Some a) ≡ Some h.root = climb_path t forest h.path h.root a h.to_a.leads in
      let up_b : climb (parent_of t) (length h.other) (Some b) ≡ Some h.root = climb_path t forest h.other h.root b h.to_b.leads in
      let len_a : over_a ≡ length h.path = one_top (parent_of t) over_a (length h.path) (Some a) x h.root to_a top_x up_a h.to_a.top in
      let len_b : over_b ≡ length h.other = one_top (parent_of t) over_b (length h.other) (Some b) y h.root to_b top_y up_b h.to_b.top in
      let is_x : Some x ≡ Some h.root = sym to_a ∙ ap (λ k. climb (parent_of t) k (Some a)) len_a ∙ up_a in
      let is_y : Some y ≡ Some h.root = sym to_b ∙ ap (λ k. climb (parent_of t) k (Some b)) len_b ∙ up_b in
      ne (cc)

-- ---- which of two siblings is the earlier

any_at : (n : ℕ) (xs : List ℕ) → list_any (λ x. eqb x n) xs ≡ true → (j : ℕ) × (slice_get xs j ≡ Some n)
any_at n [] any = absurd (cc)
any_at n (x ∷ xs) any = elim (or_cases (eqb x n) (list_any (λ y. eqb y n) xs) any) [
  | inl e ↦ (0, ap Some (eqb-true x n e))
  | inr later ↦ let at : (j : ℕ) × (slice_get xs j ≡ Some n) = any_at n xs later in (suc at.0, at.1)
]

any_from : (n j : ℕ) (xs : List ℕ) → slice_get xs j ≡ Some n → list_any (λ x. eqb x n) xs ≡ true
any_from n j [] at = absurd (cc)
any_from n zero (x ∷ xs) at = let same : x ≡ n = cc in rw (eq-eqb x n same) refl
any_from n (suc j) (x ∷ xs) at = elim (cases_eq x n) [
  | inl e ↦ rw (eq-eqb x n e) refl
  | inr ne ↦ rw (ne_eqb x n ne) (any_from n j xs at)
]

-- two places in order
pub record InOrder (x y : ℕ) (xs : List ℕ) : Type 0 where
  pub place : ℕ
  pub later : ℕ
  pub at : slice_get xs place ≡ Some x
  pub behind : slice_get xs later ≡ Some y
  pub order : place < later

pub in_order : (x y : ℕ) (xs : List ℕ) → (x ≡ y → ⊥) → list_any (λ z. eqb z y) (from_first x xs) ≡ true → InOrder x y xs
in_order x y [] ne any = absurd (cc)
in_order x y (z ∷ zs) ne any = elim (cases_eq z x) [
  | inl e ↦
      let all : list_any (λ w. eqb w y) (z ∷ zs) ≡ true = subst (λ ws. list_any (λ w. eqb w y) ws ≡ true) (let s : from_first x (z ∷ zs) ≡ z ∷ zs = rw (eq-eqb z x e) refl in s) any in
      let at : (j : ℕ) × (slice_get zs j ≡ Some y) = any_at y zs (subst (λ (c : Bool). c || list_any (λ w. eqb w y) zs ≡ true) (ne_eqb z y (λ i. ne (sym e ∙ i))) all) in
      record { place = 0; later = suc at.0; at = ap Some e; behind = at.1; order = omega arith }
  | inr apart ↦
      let rest : InOrder x y zs = in_order x y zs ne (subst (λ ws. list_any (λ w. eqb w y) ws ≡ true) (let s : from_first x (z ∷ zs) ≡ from_first x zs = rw (ne_eqb z x apart) refl in s) any) in
      record { place = suc rest.place; later = suc rest.later; at = rest.at; behind = rest.behind; order = omega (arith, rest.order) }
]

pub from_order : (x y i j : ℕ) (xs : List ℕ) → slice_get xs i ≡ Some x → slice_get xs j ≡ Some y → i < j → list_any (λ z. eqb z y) (from_first x xs) ≡ true
from_order x y i j [] at behind lt = absurd (cc)
from_order x y i zero (z ∷ zs) at behind lt = absurd (omega (arith, lt))
from_order x y zero (suc j) (z ∷ zs) at behind lt =
    let same : z ≡ x = cc in
    let s : from_first x (z ∷ zs) ≡ z ∷ zs = rw (eq-eqb z x same) refl in
    subst (λ ws. list_any (λ w. eqb w y) ws ≡ true) (sym s) (any_from y (suc j) (z ∷ zs) behind)
from_order x y (suc i) (suc j) (z ∷ zs) at behind lt = elim (cases_eq z x) [
  | inl e ↦
      let s : from_first x (z ∷ zs) ≡ z ∷ zs = rw (eq-eqb z x e) refl in
      subst (λ ws. list_any (λ w. eqb w y) ws ≡ true) (sym s) (any_from y (suc j) (z ∷ zs) behind)
  | inr apart ↦
      let s : from_first x (z ∷ zs) ≡ from_first x zs = rw (ne_eqb z x apart) refl in
      subst (λ ws. list_any (λ w. eqb w y) ws ≡ true) (sym s) (from_order x y i j zs at behind (omega (arith, lt)))
]
