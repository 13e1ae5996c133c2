-- What each turn of the walks up keeps.
use Rattle.std.proofs.Common.{◌≡◌, ◌≢◌, ℕ, zero, suc, ◌+◌, ◌-◌, ◌<◌, ◌≤◌, true, false, eqb, ltb, Bool, List, [], ◌∷◌, ◌++◌, reverse, Option, Some, None, ◌⊎◌, min, inl, inr, refl, sym, ap, ◌∙◌, subst, arith}
use Rattle.std.specs.Prelude.{slice_get, IsTrue, IsSome, is_some, ◌↔◌}
use Rattle.std.specs.List.{list_any, position_or_len}
use Rattle.std.proofs.lemmas.List.{reverse-append}
use Rattle.index_lists.specs.Lists.{times, from_first}
use Rattle.std.proofs.lemmas.Bool.{cases_lt, lt-ltb, ltb-true}
use Rattle.linked_tree.specs.Forest.{Node, count, parent_of, kids_of, kids_from, kids_of_from, climb, above, IsForest, IsApart}
use Rattle.linked_tree.specs.Paths.{follow, IsBefore}
use Rattle.linked_tree.specs.Ways.{IsDepth, IsParting, IsEarlier}
use Rattle.linked_tree.proofs.Climbs.{climb-climb, climb-none, climb_some, climb_back, climb_within}
use Rattle.linked_tree.proofs.KidLemmas.{parent_within, stands_once, position-at}
use Rattle.linked_tree.proofs.PathLemmas.{ancestor_before, not_ancestor_before, parted_before, not_parted_before, apart_not_before, in_order, from_order}

-- one level more
pub up_one : (t : List Node) (k n m : ℕ) (o : Option ℕ) → above t k n ≡ Some m → parent_of t m ≡ o → above t (k + 1) n ≡ o
up_one t k n m o at own = sym (climb-climb (parent_of t) k 1 (Some n)) ∙ ap (climb (parent_of t) 1) at ∙ own

-- there are fewer levels above a node than there are nodes
pub level_within : (t : List Node) (k n m : ℕ) → IsForest t → n < count t → above t k n ≡ Some m → k < count t
level_within t k n m forest made at =
    climb_within (parent_of t) forest.no_ring (count t) (λ p q own. parent_within t p q forest own) k n m made at

-- where a higher level has a node, so has the next one
pub parent_some : (t : List Node) (k d n m top : ℕ) → above t k n ≡ Some m → k < d → above t d n ≡ Some top → (p : ℕ) × (parent_of t m ≡ Some p)
parent_some t k d n m top at lt high =
    let rest : suc k + (d - suc k) ≡ d = omega (arith, lt) in
    let next : (p : ℕ) × (climb (parent_of t) (suc k) (Some n) ≡ Some p) = climb_some (parent_of t) (suc k) (d - suc k) (Some n) top (ap (λ j. climb (parent_of t) j (Some n)) rest ∙ high) in
    let s : suc k ≡ k + 1 = omega arith in
    (next.0, sym (up_one t k n m (parent_of t m) at refl) ∙ ap (λ j. above t j n) (sym s) ∙ next.1)

pub parent_high : (t : List Node) (k d n m : ℕ) (o : Option ℕ) → above t k n ≡ Some m → k < d → IsSome (above t d n) → o ≡ parent_of t m → IsSome o
parent_high t k d n m o at lt high is =
    let top : (r : ℕ) × (above t d n ≡ Some r) = some_of (above t d n) high in
    let own : (p : ℕ) × (parent_of t m ≡ Some p) = parent_some t k d n m top.0 at lt top.1 in
    subst (λ y. IsSome y) (sym (is ∙ own.1)) refl
  where
    some_of : (y : Option ℕ) → IsSome y → (r : ℕ) × (y ≡ Some r)
    some_of None h = absurd (cc)
    some_of (Some r) h = (r, refl)

-- a turn of the walk that gathers places
pub path_more : (t : List Node) (m n p i : ℕ) (xs : List ℕ) → follow t (Some m) (reverse xs) ≡ Some n → slice_get (kids_of t p) i ≡ Some m → follow t (Some p) (reverse (xs ++ i ∷ [])) ≡ Some n
path_more t m n p i xs leads at =
    ap (follow t (Some p)) (reverse-append xs (i ∷ [])) ∙ ap (λ x. follow t x (reverse xs)) at ∙ leads

-- ---- siblings

kids_from_own : (t : List Node) (x p : ℕ) → parent_of t x ≡ Some p → kids_from t (Some x) ≡ from_first x (kids_of t p)
kids_from_own t x p own = ap (kids_of_from t x) own

pub earlier_told : (t : List Node) (x y p : ℕ) (r : Bool) → parent_of t x ≡ Some p → x ≢ y → r ≡ list_any (λ z. eqb z y) (kids_from t (Some x)) → IsTrue r ↔ IsEarlier t x y
earlier_told t x y p r own ne is = (
  (λ h. let o = in_order x y (kids_of t p) ne (ap (list_any (λ z. eqb z y)) (sym (kids_from_own t x p own)) ∙ sym is ∙ h) in
      record { parent = p; place = o.place; later = o.later; own = own; at = o.at; behind = o.behind; order = o.order }),
  (λ e.
      let both : Some e.parent ≡ Some p = sym e.own ∙ own in
      let same : e.parent ≡ p = cc in
      is ∙ ap (list_any (λ z. eqb z y)) (kids_from_own t x p own)
      ∙ from_order x y e.place e.later (kids_of t p)
      (subst (λ q. slice_get (kids_of t q) e.place ≡ Some x) same e.at)
      (subst (λ q. slice_get (kids_of t q) e.later ≡ Some y) same e.behind) e.order),
)

le-ltb : (i j : ℕ) → j ≤ i → ltb i j ≡ false
le-ltb i j ge = elim (bool_cases (ltb i j)) [
  | inl on ↦ absurd (let lt : i < j = ltb-true i j on in omega (arith, lt, ge))
  | inr off ↦ off
] where
  bool_cases : (b : Bool) → (b ≡ true) ⊎ (b ≡ false)
  bool_cases true = inl refl
  bool_cases false = inr refl

-- ---- document order

-- from a node on a way up, the way leads on to its top
top_above : (o : ℕ → Option ℕ) (a b : ℕ) (x : Option ℕ) (r m : ℕ) → climb o a x ≡ Some r → o r ≡ None → climb o b x ≡ Some m → (k : ℕ) × (climb o k (Some m) ≡ Some r)
top_above o a zero x r m e top e' = (a, ap (climb o a) (sym e') ∙ e)
top_above o a (suc b) None r m e top e' = absurd (cc)
top_above o zero (suc b) (Some n) r m e top e' = absurd (
    let same : n ≡ r = cc in
    let bad : None ≡ Some m = sym (ap (climb o b) (ap o same ∙ top) ∙ climb-none o b) ∙ e' in cc)
top_above o (suc a) (suc b) (Some n) r m e top e' = top_above o a b (o n) r m e top e'

-- the ways up meet in one of the two nodes
pub same_told : (t : List Node) → IsForest t → (a b x da db d : ℕ) → IsDepth t a da → IsDepth t b db → above t (da - d) a ≡ Some x → above t (db - d) b ≡ Some x → d ≡ min da db → IsTrue (ltb da db) ↔ IsBefore t a b
same_told t forest a b x da db d depth_a depth_b to_a to_b is =
    let up : (k : ℕ) × (climb (parent_of t) k (Some x) ≡ Some depth_a.root) = top_above (parent_of t) da (da - d) (Some a) depth_a.root x depth_a.top depth_a.ends to_a in
    elim (cases_lt da db) [
      | inl lt ↦ (
        (λ _. ancestor_before t forest a b x up.0 (da - d) (db - d) depth_a.root depth_a.ends up.1 to_a to_b (omega (arith, lt, is)) (omega (arith, lt, is))),
        (λ _. lt-ltb da db lt),
      )
      | inr ge ↦ (
        (λ h. absurd (let lt : da < db = ltb-true da db h in omega (arith, lt, ge))),
        (λ h. absurd (not_ancestor_before t forest a b x up.0 (da - d) (db - d) depth_a.root depth_a.ends up.1 to_a to_b (omega (arith, ge, is)) h)),
      )
    ]

-- the ways up part at p and q
module _ (t : List Node) (forest : IsForest t) (a b p q over_a over_b : ℕ) (to_a : above t over_a a ≡ Some p) (to_b : above t over_b b ≡ Some q) (ne : p ≢ q) (parents : parent_of t p ≡ parent_of t q)
    (da : ℕ) (depth_a : IsDepth t a da) (r : Bool) (told : IsTrue r ↔ IsEarlier t p q) where
  root_of_parent : (m : ℕ) → parent_of t p ≡ Some m → (k : ℕ) × (climb (parent_of t) k (Some m) ≡ Some depth_a.root)
  root_of_parent m own = top_above (parent_of t) da (over_a + 1) (Some a) depth_a.root m depth_a.top depth_a.ends (up_one t over_a a p (Some m) to_a own)

  places_apart : (m i j : ℕ) → slice_get (kids_of t m) i ≡ Some p → slice_get (kids_of t m) j ≡ Some q → i ≡ j → ⊥
  places_apart m i j at at' e =
      let both : Some p ≡ Some q = sym at ∙ ap (slice_get (kids_of t m)) e ∙ at' in
      let same : p ≡ q = cc in
      ne same

  from_earlier : IsEarlier t p q → IsBefore t a b
  from_earlier e =
      let up = root_of_parent e.parent e.own in
      parted_before t forest a b p q over_a over_b to_a to_b depth_a.root up.0 e.parent e.place e.later depth_a.ends up.1 e.at e.behind
      (places_apart e.parent e.place e.later e.at e.behind) (lt-ltb e.place e.later e.order)

  not_false : (y : Option ℕ) → parent_of t p ≡ y → IsBefore t a b → IsTrue r
  not_false None top h = absurd (apart_not_before t forest a b p q over_a over_b to_a to_b top (sym parents ∙ top) ne h)
  not_false (Some m) own h =
      let up = root_of_parent m own in
      let one_p : times p (kids_of t m) ≡ 1 = stands_once t p m forest own in
      let one_q : times q (kids_of t m) ≡ 1 = stands_once t q m forest (sym parents ∙ own) in
      let at_p = position-at p (kids_of t m) (omega (arith, one_p)) in
      let at_q = position-at q (kids_of t m) (omega (arith, one_q)) in
      elim (cases_lt (position_or_len (λ y. eqb y p) (kids_of t m)) (position_or_len (λ y. eqb y q) (kids_of t m))) [
        | inl lt ↦ told.1 (record { parent = m; place = position_or_len (λ y. eqb y p) (kids_of t m); later = position_or_len (λ y. eqb y q) (kids_of t m); own = own; at = at_p.1; behind = at_q.1; order = lt })
        | inr ge ↦ absurd (not_parted_before t forest a b p q over_a over_b to_a to_b depth_a.root up.0 m
            (position_or_len (λ y. eqb y p) (kids_of t m)) (position_or_len (λ y. eqb y q) (kids_of t m)) depth_a.ends up.1 at_p.1 at_q.1
            (places_apart m (position_or_len (λ y. eqb y p) (kids_of t m)) (position_or_len (λ y. eqb y q) (kids_of t m)) at_p.1 at_q.1)
            (le-ltb (position_or_len (λ y. eqb y p) (kids_of t m)) (position_or_len (λ y. eqb y q) (kids_of t m)) ge) h)
      ]

  parted : IsTrue r ↔ IsBefore t a b
  parted = ((λ h. from_earlier (told.0 h)), not_false (parent_of t p) refl)

pub parted_told : (t : List Node) → IsForest t → (a b x y da over_a over_b p q : ℕ) (r : Bool) → IsDepth t a da → above t over_a a ≡ Some x → above t over_b b ≡ Some y → IsParting t x y p q → (IsTrue r ↔ IsEarlier t p q) → IsTrue r ↔ IsBefore t a b
parted_told t forest a b x y da over_a over_b p q r depth_a to_a to_b parting told =
    parted t forest a b p q (over_a + parting.levels) (over_b + parting.levels)
    (sym (climb-climb (parent_of t) over_a parting.levels (Some a)) ∙ ap (climb (parent_of t) parting.levels) to_a ∙ parting.above_x)
    (sym (climb-climb (parent_of t) over_b parting.levels (Some b)) ∙ ap (climb (parent_of t) parting.levels) to_b ∙ parting.above_y)
    parting.apart parting.parents da depth_a r told

-- the node at which a way is cut
pub high_told : (t : List Node) (n da d : ℕ) → IsDepth t n da → d ≤ da → IsSome (above t (da - d) n)
high_told t n da d depth le =
    let whole : (da - d) + d ≡ da = omega (arith, le) in
    let at : (m : ℕ) × (climb (parent_of t) (da - d) (Some n) ≡ Some m) =
    climb_some (parent_of t) (da - d) d (Some n) depth.root (ap (λ k. climb (parent_of t) k (Some n)) whole ∙ depth.top) in
    subst (λ y. IsSome y) (sym at.1) refl

pub depth_told : (t : List Node) (n da d x : ℕ) → IsDepth t n da → d ≤ da → above t (da - d) n ≡ Some x → IsDepth t x d
depth_told t n da d x depth le at =
    let whole : (da - d) + d ≡ da = omega (arith, le) in
    record {
      root = depth.root;
      top = ap (climb (parent_of t) d) (sym at) ∙ climb-climb (parent_of t) (da - d) d (Some n) ∙ ap (λ k. climb (parent_of t) k (Some n)) whole ∙ depth.top;
      ends = depth.ends;
    }

pub earlier_if : (t : List Node) (x y : ℕ) (o : Option ℕ) (r : Bool) → o ≡ parent_of t x → true ≡ is_some o → x ≢ y → r ≡ list_any (λ z. eqb z y) (kids_from t (Some x)) → IsTrue r ↔ IsEarlier t x y
earlier_if t x y None r is some ne told = absurd (cc)
earlier_if t x y (Some p) r is some ne told = earlier_told t x y p r (sym is) ne told

-- a node without children is above no other
pub leaf_apart : (t : List Node) (n p : ℕ) → IsForest t → kids_of t n ≡ [] → n ≢ p → IsApart t n p
leaf_apart t n p forest leaf ne = λ k. at k
  where
    at : (k : ℕ) → above t k p ≡ Some n → ⊥
    at zero e = ne (let same : p ≡ n = cc in sym same)
    at (suc k) e =
        let below : (m : ℕ) × (climb (parent_of t) k (Some p) ≡ Some m) × (parent_of t m ≡ Some n) = climb_back (parent_of t) k (Some p) n e in
        let one : times below.0 (kids_of t n) ≡ 1 = stands_once t below.0 n forest below.2 in
        let none : times below.0 (kids_of t n) ≡ 0 = ap (times below.0) leaf in
        omega (arith, one, none)
