-- What a caller may conclude of children and siblings, from the forest alone.
use Rattle.std.proofs.Common.{◌≡◌, ℕ, zero, suc, ◌+◌, ◌-◌, ◌<◌, ◌≤◌, ◌^◌, eqb, ltb, cond, List, [], ◌∷◌, ◌++◌, length, Option, Some, None, inl, inr, refl, sym, ap, ◌∙◌, subst, le_trans, arith}
use Rattle.std.specs.Prelude.{IsSome, IsSomeAnd, IfSome, slice_get, insert}
use Rattle.std.specs.List.{position_or_len}
use Rattle.std.specs.Option.{option_map}
use Rattle.std.proofs.lemmas.Bool.{cases_eq, cases_lt, eq-eqb, ne_eqb, lt-ltb}
use Rattle.std.proofs.lemmas.List.{get_or_past}
use Rattle.index_lists.specs.Lists.{times, first_of, place_after, from_first}
use Rattle.index_lists.proofs.Times.{times_here, times_there, times_rest, length_within}
use Rattle.index_lists.proofs.FromFirst.{from_first_here, from_first_step, list_from}
use Rattle.index_lists.proofs.RingLemmas.{due, due_own, owner_from_due}
use Rattle.linked_tree.specs.Forest.{Node, alone, count, parent_of, kids_of, IsForest, kids_of_from, kids_from, insert_behind, IsLinkedKid, IsApart, above, climb, last_of}
use Rattle.linked_tree.specs.Links.{behind}

-- a child is a node
pub kid_within : (t : List Node) (n p : ℕ) → parent_of t n ≡ Some p → n < count t
kid_within t n p own = elim (cases_lt n (count t)) [
  | inl within ↦ within
  | inr past ↦ absurd (let bad : None ≡ Some p = sym (ap (λ (m : Node). m.parent) (get_or_past t n alone past)) ∙ own in cc)
]

pub stands_once : (t : List Node) (n p : ℕ) → IsForest t → parent_of t n ≡ Some p → times n (kids_of t p) ≡ 1
stands_once t n p forest own = forest.once p n ∙ ap (λ o. due o p) own ∙ due_own p

pub owned_by : (t : List Node) (n p : ℕ) → IsForest t → 1 ≤ times n (kids_of t p) → parent_of t n ≡ Some p
owned_by t n p forest stands = owner_from_due (parent_of t n) p (subst (λ c. 1 ≤ c) (forest.once p n) stands)

pub parent_within : (t : List Node) (n p : ℕ) → IsForest t → parent_of t n ≡ Some p → p < count t
parent_within t n p forest own = elim (cases_lt p (count t)) [
  | inl within ↦ within
  | inr past ↦ absurd (
      let one : times n (kids_of t p) ≡ 1 = stands_once t n p forest own in
      let none : times n (kids_of t p) ≡ 0 = ap (λ (m : Node). times n m.kids) (get_or_past t p alone past) in
      omega (arith, one, none))
]

pub times_at : (xs : List ℕ) (i n : ℕ) → slice_get xs i ≡ Some n → 1 ≤ times n xs
times_at [] i n e = absurd (cc)
times_at (x ∷ xs) zero n e = subst (λ m. 1 ≤ times m (x ∷ xs)) (let same : x ≡ n = cc in same) (rw (times_here x xs) (omega arith))
times_at (x ∷ xs) (suc i) n e = le_trans (times_at xs i n e) (times_rest n x xs)

pub kid_at : (t : List Node) (p i n : ℕ) → IsForest t → slice_get (kids_of t p) i ≡ Some n → parent_of t n ≡ Some p
kid_at t p i n forest e = owned_by t n p forest (times_at (kids_of t p) i n e)

pub kid_once : (t : List Node) (n p : ℕ) → IsForest t → times n (kids_of t p) ≤ 1
kid_once t n p forest = subst (λ c. c ≤ 1) (sym (forest.once p n)) (due_le (parent_of t n) p)
  where
    due_le : (o : Option ℕ) (l : ℕ) → due o l ≤ 1
    due_le None l = omega arith
    due_le (Some k) l = elim (cases_eq k l) [
      | inl e ↦ subst (λ m. due (Some k) m ≤ 1) e (rw (due_own k) (omega arith))
      | inr ne ↦ rw (ne_eqb k l ne) (omega arith)
    ]

-- a node has fewer children than there are nodes
pub few_kids : (t : List Node) (p : ℕ) → IsForest t → length (kids_of t p) ≤ count t
few_kids t p forest =
    length_within (kids_of t p) (count t) (λ n. kid_once t n p forest) (λ n some. kid_within t n p (owned_by t n p forest some))

-- ---- the list from a node on

-- what is to come from a child on: the child, and what is to come from the next one on
pub kids_from_step : (t : List Node) (n p : ℕ) (next : Option ℕ) → IsForest t → parent_of t n ≡ Some p → next ≡ place_after n (kids_of t p) → ((m : ℕ) → next ≡ Some m → parent_of t m ≡ Some p) → kids_from t (Some n) ≡ n ∷ kids_from t next
kids_from_step t n p next forest own is owns =
    ap (kids_of_from t n) own
    ∙ from_first_step n (kids_of t p) (λ m. kid_once t m p forest) (let one : times n (kids_of t p) ≡ 1 = stands_once t n p forest own in omega (arith, one))
    ∙ ap (λ ys. n ∷ ys) (ap (λ y. list_from y (kids_of t p)) (sym is) ∙ to_come next owns)
  where
    to_come : (y : Option ℕ) → ((m : ℕ) → y ≡ Some m → parent_of t m ≡ Some p) → list_from y (kids_of t p) ≡ kids_from t y
    to_come None owns = refl
    to_come (Some m) owns = sym (ap (kids_of_from t m) (owns m refl))

-- from the first child on, all are to come
pub kids_from_first : (t : List Node) (p : ℕ) → IsForest t → kids_from t (first_of (kids_of t p)) ≡ kids_of t p
kids_from_first t p forest = all (kids_of t p) refl
  where
    all : (xs : List ℕ) → kids_of t p ≡ xs → kids_from t (first_of xs) ≡ xs
    all [] e = refl
    all (x ∷ xs) e =
        let own : parent_of t x ≡ Some p = owned_by t x p forest (subst (λ ys. 1 ≤ times x ys) (sym e) (rw (times_here x xs) (omega arith))) in
        ap (kids_of_from t x) own ∙ ap (from_first x) e ∙ from_first_here x xs

-- ---- a node behind the one at a place

pub insert_behind-at : (xs : List ℕ) (i q n : ℕ) → ((m : ℕ) → times m xs ≤ 1) → slice_get xs i ≡ Some q → insert_behind q n xs ≡ insert xs (suc i) n
insert_behind-at [] i q n once e = absurd (cc)
insert_behind-at (x ∷ xs) zero q n once e =
    let same : x ≡ q = cc in
    rw (eq-eqb x q same) refl
insert_behind-at (x ∷ xs) (suc i) q n once e =
    let ne : x ≡ q → ⊥ = λ same. absurd (
    let some : 1 ≤ times x xs = subst (λ r. 1 ≤ times r xs) (sym same) (times_at xs i q e) in
    let most : times x (x ∷ xs) ≤ 1 = once x in
    let here : times x (x ∷ xs) ≡ times x xs + 1 = times_here x xs in
    omega (arith, some, most, here)) in
    rw (ne_eqb x q ne) (ap (λ ys. x ∷ ys) (insert_behind-at xs i q n (λ m. le_trans (times_rest m x xs) (once m)) e))

some_of : (y : Option ℕ) → IsSome y → (p : ℕ) × (y ≡ Some p)
some_of None h = absurd (cc)
some_of (Some p) h = (p, refl)

if_at : (P : ℕ → Type 0) (y : Option ℕ) (p : ℕ) → y ≡ Some p → IfSome y P → P p
if_at P None p e h = absurd (cc)
if_at P (Some q) p e h = subst P (let same : q ≡ p = cc in same) h

-- a step of the iterator over children
pub kids_next : (t : List Node) (at next : Option ℕ) (left : List ℕ) (n : ℕ) → IsForest t → IsLinkedKid t at → kids_from t at ≡ left → at ≡ Some n →
    IfSome (parent_of t n) (λ p. next ≡ place_after n (kids_of t p)) → IfSome next (λ m. parent_of t m ≡ parent_of t n) → left ≡ n ∷ kids_from t next
kids_next t at next left n forest linked is here to owns =
    let own : (p : ℕ) × (parent_of t n ≡ Some p) = some_of (parent_of t n) (linked n here) in
    sym is ∙ ap (kids_from t) here
    ∙ kids_from_step t n own.0 next forest own.1
    (if_at (λ p. next ≡ place_after n (kids_of t p)) (parent_of t n) own.0 own.1 to)
    (λ m e. if_at (λ m. parent_of t m ≡ parent_of t n) next m e owns ∙ own.1)

-- fewer than a number of four bytes can say
pub few_to_come : (t : List Node) (p : ℕ) (first : Option ℕ) (left : List ℕ) → IsForest t → first ≡ first_of (kids_of t p) → left ≡ kids_from t first → length left < 2 ^ 32
few_to_come t p first left forest is_first is =
    let all : left ≡ kids_of t p = is ∙ ap (kids_from t) is_first ∙ kids_from_first t p forest in
    let few : length (kids_of t p) ≤ count t = few_kids t p forest in
    rw all (omega (arith, few, forest.few))

-- ---- the place of a child

test_at : (n x : ℕ) (xs : List ℕ) → x ≡ n → position_or_len (λ y. eqb y n) (x ∷ xs) ≡ 0
test_at n x xs e = rw (eq-eqb x n e) refl

test_past : (n x : ℕ) (xs : List ℕ) → (x ≡ n → ⊥) → position_or_len (λ y. eqb y n) (x ∷ xs) ≡ suc (position_or_len (λ y. eqb y n) xs)
test_past n x xs ne = rw (ne_eqb x n ne) (omega arith)

pub position-at : (n : ℕ) (xs : List ℕ) → 1 ≤ times n xs → (position_or_len (λ y. eqb y n) xs < length xs) × (slice_get xs (position_or_len (λ y. eqb y n) xs) ≡ Some n)
position-at n [] some = absurd (omega (arith, some))
position-at n (x ∷ xs) some = elim (cases_eq x n) [
  | inl e ↦ (rw (test_at n x xs e) (omega arith), rw (test_at n x xs e) (ap Some e))
  | inr ne ↦
      let rest : (position_or_len (λ y. eqb y n) xs < length xs) × (slice_get xs (position_or_len (λ y. eqb y n) xs) ≡ Some n) =
      position-at n xs (subst (λ c. 1 ≤ c) (times_there n x xs ne) some) in
      (rw (test_past n x xs ne) (omega (arith, rest.0)), rw (test_past n x xs ne) rest.1)
]

pub option_itself : (y : Option ℕ) → option_map (λ n. n) y ≡ y
option_itself None = refl
option_itself (Some n) = refl

-- where a child stands, as a call of `position` gives it
pub place_told : (t : List Node) (p n : ℕ) (r : Option ℕ) → IsForest t → parent_of t n ≡ Some p →
    r ≡ cond (ltb (position_or_len (λ y. eqb y n) (kids_of t p)) (length (kids_of t p))) (Some (position_or_len (λ y. eqb y n) (kids_of t p))) None →
    IsSomeAnd r (λ place. (place < 2 ^ 32) × (slice_get (kids_of t p) place ≡ Some n))
place_told t p n r forest own is =
    let one : times n (kids_of t p) ≡ 1 = stands_once t n p forest own in
    let at = position-at n (kids_of t p) (omega (arith, one)) in
    let place : ℕ = position_or_len (λ y. eqb y n) (kids_of t p) in
    let few : length (kids_of t p) ≤ count t = few_kids t p forest in
    let some : r ≡ Some place = is ∙ ap (λ b. cond b (Some place) None) (lt-ltb place (length (kids_of t p)) at.0) in
    subst (λ o. IsSomeAnd o (λ place. (place < 2 ^ 32) × (slice_get (kids_of t p) place ≡ Some n))) (sym some)
    (omega (arith, at.0, few, forest.few), at.1)

-- ---- a node at the end of a list

last_some : (y : ℕ) (xs : List ℕ) → (q : ℕ) × (last_of (y ∷ xs) ≡ Some q) × (1 ≤ times q (y ∷ xs))
last_some y [] = (y, refl, rw (times_here y []) (omega arith))
last_some y (x ∷ xs) =
    let rest : (q : ℕ) × (last_of (x ∷ xs) ≡ Some q) × (1 ≤ times q (x ∷ xs)) = last_some x xs in
    (rest.0, rest.1, le_trans rest.2 (times_rest rest.0 y (x ∷ xs)))

-- behind the last node is at the end
pub behind-last : (n : ℕ) (xs : List ℕ) → ((m : ℕ) → times m xs ≤ 1) → behind (last_of xs) n xs ≡ xs ++ n ∷ []
behind-last n [] once = refl
behind-last n (x ∷ []) once = rw (eq-eqb x x refl) refl
behind-last n (x ∷ (y ∷ xs)) once =
    let last : (q : ℕ) × (last_of (y ∷ xs) ≡ Some q) × (1 ≤ times q (y ∷ xs)) = last_some y xs in
    let ne : x ≡ last.0 → ⊥ = λ e. absurd (
    let here : times x (x ∷ (y ∷ xs)) ≡ times x (y ∷ xs) + 1 = times_here x (y ∷ xs) in
    let most : times x (x ∷ (y ∷ xs)) ≤ 1 = once x in
    let some : 1 ≤ times x (y ∷ xs) = subst (λ r. 1 ≤ times r (y ∷ xs)) (sym e) last.2 in
    omega (arith, here, most, some)) in
    let later : insert_behind last.0 n (x ∷ (y ∷ xs)) ≡ x ∷ insert_behind last.0 n (y ∷ xs) = rw (ne_eqb x last.0 ne) refl in
    let rest : behind (last_of (y ∷ xs)) n (y ∷ xs) ≡ (y ∷ xs) ++ n ∷ [] = behind-last n (y ∷ xs) (λ m. le_trans (times_rest m x (y ∷ xs)) (once m)) in
    ap (λ o. behind o n (x ∷ (y ∷ xs))) last.1 ∙ later ∙ ap (λ ys. x ∷ ys) (ap (λ o. behind o n (y ∷ xs)) (sym last.1) ∙ rest)

-- what is apart from a parent is apart from its children, but for being one, and the other way round
pub apart_from_kid : (t : List Node) (n kid p : ℕ) → parent_of t kid ≡ Some p → IsApart t n kid → IsApart t n p
apart_from_kid t n kid p own apart = λ k e. apart (suc k) (ap (climb (parent_of t) k) own ∙ e)

pub apart_kid : (t : List Node) (n kid p : ℕ) → parent_of t kid ≡ Some p → parent_of t n ≡ None → IsApart t n p → IsApart t n kid
apart_kid t n kid p own free apart = λ k. at k
  where
    at : (k : ℕ) → above t k kid ≡ Some n → ⊥
    at zero e =
        let same : kid ≡ n = cc in
        let bad : None ≡ Some p = sym free ∙ ap (parent_of t) (sym same) ∙ own in
        cc
    at (suc k) e = apart k (ap (climb (parent_of t) k) (sym own) ∙ e)

-- a node put behind the child at a place stands at the next place
pub kids_at : (t : List Node) (p q i n : ℕ) → IsForest t → slice_get (kids_of t p) i ≡ Some q → insert_behind q n (kids_of t p) ≡ insert (kids_of t p) (suc i) n
kids_at t p q i n forest at = insert_behind-at (kids_of t p) i q n (λ m. kid_once t m p forest) at

-- the same, from what `link_after` ensures
module _ (t t' : List Node) (p q r i place n : ℕ) (forest : IsForest t) (at : slice_get (kids_of t p) i ≡ Some q) (found : parent_of t q ≡ Some r) where
  pub same_parent : r ≡ p
  same_parent = let both : Some r ≡ Some p = sym found ∙ kid_at t p i q forest at in cc

  pub linked_at : kids_of t' r ≡ insert_behind q n (kids_of t r) → (1 ≤ place) × (i ≡ place - 1) → kids_of t' p ≡ insert (kids_of t p) place n
  linked_at kids step =
      let next : suc i ≡ place = omega (arith, step.0, step.1) in
      subst (λ s. kids_of t' s ≡ insert_behind q n (kids_of t s)) same_parent kids
      ∙ kids_at t p q i n forest at ∙ ap (λ j. insert (kids_of t p) j n) next
