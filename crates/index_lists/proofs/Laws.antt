-- What a caller may conclude from the words of the contracts: where an item stands, what is next, and
-- what a removal leaves.
use Rattle.std.proofs.Common.{◌≡◌, ℕ, true, ◌+◌, ◌<◌, ◌≤◌, List, [], ◌∷◌, ◌++◌, length, Option, Some, None, inl, inr, refl, sym, ap, ◌∙◌, subst, arith}
use Rattle.std.specs.Prelude.{is_some}
use Rattle.std.proofs.lemmas.Bool.{cases_lt, eq-eqb, ne_eqb}
use Rattle.std.proofs.lemmas.List.{get_or_past}
use Rattle.std.proofs.lemmas.Option.{some_pair_parts}
use Rattle.index_lists.specs.Lists.{times, without, first_of, place_after}
use Rattle.index_lists.specs.Side.{Side, list_at, owner_at, IsSound}
use Rattle.index_lists.specs.Threads.{Woven, left_count, right_count, left_list, right_list, both, item_at, IsWoven}
use Rattle.index_lists.proofs.Times.{times_here, times_there, times_rest, without_here, without_there, without_absent}
use Rattle.index_lists.proofs.RingLemmas.{due, due_own, owner_from_due}

times_behind : (p : ℕ) (front rest : List ℕ) → 1 ≤ times p (front ++ p ∷ rest)
times_behind p [] rest = rw (times_here p rest) (omega arith)
times_behind p (x ∷ front) rest =
    let later : 1 ≤ times p (front ++ p ∷ rest) = times_behind p front rest in
    let more : times p (front ++ p ∷ rest) ≤ times p (x ∷ (front ++ p ∷ rest)) = times_rest p x (front ++ p ∷ rest) in
    omega (arith, later, more)

-- a place that stands once, and not in front, is not the first
not_first : (p x : ℕ) (front rest : List ℕ) → times p (x ∷ (front ++ p ∷ rest)) ≡ 1 → x ≡ p → ⊥
not_first p x front rest once e =
    let here : times x (x ∷ (front ++ p ∷ rest)) ≡ times x (front ++ p ∷ rest) + 1 = times_here x (front ++ p ∷ rest) in
    let here' : times p (x ∷ (front ++ p ∷ rest)) ≡ times p (front ++ p ∷ rest) + 1 = subst (λ q. times q (x ∷ (front ++ p ∷ rest)) ≡ times q (front ++ p ∷ rest) + 1) e here in
    let later : 1 ≤ times p (front ++ p ∷ rest) = times_behind p front rest in
    absurd (omega (arith, here', later, once))

-- wherever a list is cut behind a place that stands once, the place after it is the first of the rest
pub place_after-split : (p : ℕ) (front rest : List ℕ) → times p (front ++ p ∷ rest) ≡ 1 → place_after p (front ++ p ∷ rest) ≡ first_of rest
place_after-split p [] rest once = rw (eq-eqb p p refl)
place_after-split p (x ∷ front) rest once =
    let ne : x ≡ p → ⊥ = not_first p x front rest once in
    rw (ne_eqb x p ne) (place_after-split p front rest (sym (times_there p x (front ++ p ∷ rest) ne) ∙ once))

-- taking out a place that stands once leaves what was before it and what was behind it
pub without-split : (p : ℕ) (front rest : List ℕ) → times p (front ++ p ∷ rest) ≡ 1 → without p (front ++ p ∷ rest) ≡ front ++ rest
without-split p [] rest once =
    let here : times p (p ∷ rest) ≡ times p rest + 1 = times_here p rest in
    without_here p rest ∙ without_absent p rest (omega (arith, here, once))
without-split p (x ∷ front) rest once =
    let ne : x ≡ p → ⊥ = not_first p x front rest once in
    without_there p x (front ++ p ∷ rest) ne ∙ ap (λ ys. x ∷ ys) (without-split p front rest (sym (times_there p x (front ++ p ∷ rest) ne) ∙ once))

-- a place stands once in the list that owns it
pub stands_once : (s : Side) (l p : ℕ) → IsSound s → owner_at s p ≡ Some l → times p (list_at s l) ≡ 1
stands_once s l p sound own = sound.once l p ∙ ap (λ k. due k l) own ∙ due_own l

-- a place that stands in a list is owned by it
pub owned_by : (s : Side) (l p : ℕ) → IsSound s → 1 ≤ times p (list_at s l) → owner_at s p ≡ Some l
owned_by s l p sound stands = owner_from_due (owner_at s p) l (subst (λ n. 1 ≤ n) (sound.once l p) stands)

-- the list that owns a place is one of the lists
pub owner_reserved : (s : Side) (l p : ℕ) → IsSound s → owner_at s p ≡ Some l → l < length s.lists
owner_reserved s l p sound own = elim (cases_lt l (length s.lists)) [
  | inl within ↦ within
  | inr past ↦ absurd (
      let one : times p (list_at s l) ≡ 1 = stands_once s l p sound own in
      let none : times p (list_at s l) ≡ 0 = ap (times p) (get_or_past s.lists l [] past) in
      omega (arith, one, none))
]

pub both_parts : (x y : Option ℕ) (l r : ℕ) → both x y ≡ Some (l, r) → (x ≡ Some l) × (y ≡ Some r)
both_parts None y l r e = absurd (cc)
both_parts (Some k) None l r e = absurd (cc)
both_parts (Some k) (Some m) l r e =
    let parts : (k ≡ l) × (m ≡ r) = some_pair_parts k l m r e in
    (ap Some parts.0, ap Some parts.1)

-- a live item stands once in its left list and once in its right list, and both are reserved
pub record Stands (t : Woven) (p l r : ℕ) : Type 0 where
  pub left_once : times p (left_list t l) ≡ 1
  pub right_once : times p (right_list t r) ≡ 1
  pub left_reserved : l < left_count t
  pub right_reserved : r < right_count t

pub item_stands : (t : Woven) (p l r : ℕ) → IsWoven t → item_at t p ≡ Some (l, r) → Stands t p l r
item_stands t p l r woven item =
    let parts : (owner_at t.left p ≡ Some l) × (owner_at t.right p ≡ Some r) = both_parts (owner_at t.left p) (owner_at t.right p) l r item in
    record {
      left_once = stands_once t.left l p woven.left_sound parts.0;
      right_once = stands_once t.right r p woven.right_sound parts.1;
      left_reserved = owner_reserved t.left l p woven.left_sound parts.0;
      right_reserved = owner_reserved t.right r p woven.right_sound parts.1;
    }

some_of : (o : Option ℕ) → is_some o ≡ true → (l : ℕ) × (o ≡ Some l)
some_of None h = absurd (cc)
some_of (Some l) h = (l, refl)

-- what stands in a left list is a live item of that list, and so on the right
pub left_item : (t : Woven) (p l : ℕ) → IsWoven t → 1 ≤ times p (left_list t l) → (r : ℕ) × (item_at t p ≡ Some (l, r))
left_item t p l woven stands =
    let own : owner_at t.left p ≡ Some l = owned_by t.left l p woven.left_sound stands in
    let other : (r : ℕ) × (owner_at t.right p ≡ Some r) = some_of (owner_at t.right p) (sym (woven.paired p) ∙ ap is_some own) in
    (other.0, ap (λ o. both o (owner_at t.right p)) own ∙ ap (λ o. both (Some l) o) other.1)

pub right_item : (t : Woven) (p r : ℕ) → IsWoven t → 1 ≤ times p (right_list t r) → (l : ℕ) × (item_at t p ≡ Some (l, r))
right_item t p r woven stands =
    let own : owner_at t.right p ≡ Some r = owned_by t.right r p woven.right_sound stands in
    let other : (l : ℕ) × (owner_at t.left p ≡ Some l) = some_of (owner_at t.left p) (woven.paired p ∙ ap is_some own) in
    (other.0, ap (λ o. both o (owner_at t.right p)) other.1 ∙ ap (λ o. both (Some other.0) o) own)
