-- A right list is emptied item by item.
use Rattle.std.proofs.Common.{◌≡◌, ◌≢◌, ℕ, ◌+◌, ◌≤◌, Bool, true, false, cond, List, [], ◌∷◌, length, Option, Some, None, inl, inr, refl, sym, ap, ◌∙◌, subst, arith}
use Rattle.std.specs.Prelude.{not, if◌then◌else◌}
use Rattle.std.specs.List.{filter}
use Rattle.std.proofs.lemmas.Bool.{cases_eq, eq-eqb, eqb-true}
use Rattle.index_lists.specs.Lists.{times, without, first_of}
use Rattle.index_lists.specs.Side.{is_in, owner_at}
use Rattle.index_lists.specs.Threads.{Woven, left_list, right_list, left_count, right_count, item_at, right_of, is_right, outside_right, IsWoven}
use Rattle.index_lists.proofs.Times.{times_here, times_rest, without_here, without_there, without_absent}
use Rattle.index_lists.proofs.Laws.{both_parts, left_item, item_stands}

-- ---- on lists

filter_all : (f : ℕ → Bool) (xs : List ℕ) → ((p : ℕ) → 1 ≤ times p xs → f p ≡ true) → filter f xs ≡ xs
filter_all f [] all = refl
filter_all f (x ∷ xs) all =
    let here : f x ≡ true = all x (rw (times_here x xs) (omega arith)) in
    let rest : filter f xs ≡ xs = filter_all f xs (λ p stands. all p (let more : times p xs ≤ times p (x ∷ xs) = times_rest p x xs in omega (arith, stands, more))) in
    rw here (ap (λ ys. x ∷ ys) rest)

-- a place that a test refuses makes no difference
filter-without : (f : ℕ → Bool) (p : ℕ) (xs : List ℕ) → f p ≡ false → filter f (without p xs) ≡ filter f xs
filter-without f p [] out = refl
filter-without f p (x ∷ xs) out = elim (cases_eq x p) [
  | inl e ↦
      let refused : f x ≡ false = ap f e ∙ out in
      let gone : without p (x ∷ xs) ≡ without p xs = subst (λ q. without q (x ∷ xs) ≡ without q xs) e (without_here x xs) in
      ap (filter f) gone ∙ filter-without f p xs out ∙ rw refused refl
  | inr ne ↦ ap (filter f) (without_there p x xs ne) ∙ ap (λ ys. cond (f x) (x ∷ ys) ys) (filter-without f p xs out)
]

pub first_none : (xs : List ℕ) → first_of xs ≡ None → xs ≡ []
first_none [] none = refl
first_none (x ∷ xs) none = absurd (cc)

-- a list without its first place, which stands in it once, is one shorter
shorter : (p : ℕ) (xs : List ℕ) → first_of xs ≡ Some p → times p xs ≡ 1 → length (without p xs) + 1 ≡ length xs
shorter p [] first once = absurd (cc)
shorter p (x ∷ xs) first once =
    let is : x ≡ p = cc in
    let once' : times x (x ∷ xs) ≡ 1 = subst (λ q. times q (x ∷ xs) ≡ 1) (sym is) once in
    let here : times x (x ∷ xs) ≡ times x xs + 1 = times_here x xs in
    let stays : without x (x ∷ xs) ≡ xs = without_here x xs ∙ without_absent x xs (omega (arith, here, once')) in
    let stays' : without p (x ∷ xs) ≡ xs = subst (λ q. without q (x ∷ xs) ≡ xs) is stays in
    omega (arith, ap length stays')

-- ---- a step

-- what a removal leaves
pub record Removed (old new : Woven) (p : ℕ) (pair : ℕ × ℕ) : Type 0 where
  pub item : item_at old p ≡ Some pair
  pub gone : item_at new p ≡ None
  pub left_out : left_list new pair.0 ≡ without p (left_list old pair.0)
  pub right_out : right_list new pair.1 ≡ without p (right_list old pair.1)
  pub spare : new.spare ≡ old.spare + 1
  pub other_left_lists : (l : ℕ) → l ≢ pair.0 → left_list new l ≡ left_list old l
  pub other_right_lists : (l : ℕ) → l ≢ pair.1 → right_list new l ≡ right_list old l
  pub other_items : (q : ℕ) → q ≢ p → item_at new q ≡ item_at old q
  pub same_lefts : left_count new ≡ left_count old
  pub same_rights : right_count new ≡ right_count old

-- a store on the way from the old one to that without the items of right list r
pub record IsClearing (old t : Woven) (r : ℕ) : Type 0 where
  pub others : (l : ℕ) → l ≢ r → right_list t l ≡ right_list old l
  pub outside : (p : ℕ) → is_right old r p ≡ false → item_at t p ≡ item_at old p
  pub was : (p : ℕ) (item : ℕ × ℕ) → item_at t p ≡ Some item → item_at old p ≡ Some item
  pub left_lists : (l : ℕ) → outside_right old r (left_list t l) ≡ outside_right old r (left_list old l)
  pub spare : t.spare + length (right_list t r) ≡ old.spare + length (right_list old r)
  pub same_lefts : left_count t ≡ left_count old
  pub same_rights : right_count t ≡ right_count old

pub clearing_none : (t : Woven) (r : ℕ) → IsClearing t t r
clearing_none t r = record {
  others = λ l ne. refl;
  outside = λ p h. refl;
  was = λ p item h. h;
  left_lists = λ l. refl;
  spare = refl;
  same_lefts = refl;
  same_rights = refl;
}

-- the item of a place that is in right list r
is_right-of : (t : Woven) (p l r : ℕ) → item_at t p ≡ Some (l, r) → is_right t r p ≡ true
is_right-of t p l r item = rw ((both_parts (owner_at t.left p) (owner_at t.right p) l r item).1) (eq-eqb r r refl)

right_of-item : (t : Woven) (p l r : ℕ) → item_at t p ≡ Some (l, r) → right_of t p ≡ r
right_of-item t p l r item = rw ((both_parts (owner_at t.left p) (owner_at t.right p) l r item).1) refl

module _ (old t u : Woven) (r p l r' : ℕ) (clearing : IsClearing old t r) (woven : IsWoven t)
    (first : first_of (right_list t r) ≡ Some p) (same : right_of t p ≡ r) (removed : Removed t u p (l, r')) where
  is_r : r' ≡ r
  is_r = sym (right_of-item t p l r' removed.item) ∙ same

  mine : item_at t p ≡ Some (l, r)
  mine = subst (λ m. item_at t p ≡ Some (l, m)) is_r removed.item

  was_right : is_right old r p ≡ true
  was_right = is_right-of old p l r (clearing.was p (l, r) mine)

  apart : (q : ℕ) → is_right old r q ≡ false → q ≡ p → ⊥
  apart q out e = let bad : true ≡ false = sym was_right ∙ ap (is_right old r) (sym e) ∙ out in cc

  right_out : right_list u r ≡ without p (right_list t r)
  right_out = subst (λ m. right_list u m ≡ without p (right_list t m)) is_r removed.right_out

  pub clear_shorter : length (right_list u r) + 1 ≡ length (right_list t r)
  clear_shorter = ap (λ xs. length xs + 1) right_out ∙ shorter p (right_list t r) first (item_stands t p l r woven mine).right_once

  pub clear_step : IsClearing old u r
  clear_step = record {
    others = λ m ne. removed.other_right_lists m (λ e. ne (e ∙ is_r)) ∙ clearing.others m ne;
    outside = λ q out. removed.other_items q (apart q out) ∙ clearing.outside q out;
    was = λ q item stands. elim (cases_eq q p) [
      | inl e ↦ absurd (let bad : None ≡ Some item = sym removed.gone ∙ subst (λ m. item_at u m ≡ Some item) e stands in cc)
      | inr ne ↦ clearing.was q item (sym (removed.other_items q ne) ∙ stands)
    ];
    left_lists = λ m. elim (cases_eq m l) [
      | inl e ↦
          let out : left_list u m ≡ without p (left_list t m) = subst (λ k. left_list u k ≡ without p (left_list t k)) (sym e) removed.left_out in
          ap (outside_right old r) out
          ∙ filter-without (λ q. not (is_right old r q)) p (left_list t m) (ap not was_right)
          ∙ clearing.left_lists m
      | inr ne ↦ ap (outside_right old r) (removed.other_left_lists m ne) ∙ clearing.left_lists m
    ];
    spare = omega (arith, clear_shorter, removed.spare, clearing.spare);
    same_lefts = removed.same_lefts ∙ clearing.same_lefts;
    same_rights = removed.same_rights ∙ clearing.same_rights;
  }

-- ---- the end

module _ (old t : Woven) (r : ℕ) (clearing : IsClearing old t r) (woven : IsWoven t) (none : first_of (right_list t r) ≡ None) where
  pub cleared_empty : right_list t r ≡ []
  cleared_empty = first_none (right_list t r) none

  -- no item is left in the list
  none_left : (p l : ℕ) → item_at t p ≡ Some (l, r) → ⊥
  none_left p l item =
      let one : times p (right_list t r) ≡ 1 = (item_stands t p l r woven item).right_once in
      let zero : times p (right_list t r) ≡ 0 = ap (times p) cleared_empty in
      absurd (omega (arith, one, zero))

  right_from : (o : Option ℕ) → is_in o r ≡ true → o ≡ Some r
  right_from None h = absurd (cc)
  right_from (Some m) h = ap Some (eqb-true m r h)

  gone_at : (p : ℕ) → is_right old r p ≡ true → item_at t p ≡ None
  gone_at p right = gone (item_at t p) refl where
    gone : (item : Option (ℕ × ℕ)) → item_at t p ≡ item → item ≡ None
    gone None e = refl
    gone (Some (l, m)) e =
        let before : item_at old p ≡ Some (l, m) = clearing.was p (l, m) e in
        let owner : owner_at old.right p ≡ Some m = (both_parts (owner_at old.left p) (owner_at old.right p) l m before).1 in
        let is : Some m ≡ Some r = sym owner ∙ right_from (owner_at old.right p) right in
        let same : m ≡ r = cc in
        absurd (none_left p l (subst (λ k. item_at t p ≡ Some (l, k)) same e))

  pub cleared_item : (p : ℕ) → item_at t p ≡ (if is_right old r p then None else item_at old p)
  cleared_item p = by_right (is_right old r p) refl where
    by_right : (b : Bool) → is_right old r p ≡ b → item_at t p ≡ (if b then None else item_at old p)
    by_right true right = gone_at p right
    by_right false out = clearing.outside p out

  pub cleared_left : (l : ℕ) → left_list t l ≡ outside_right old r (left_list old l)
  cleared_left l =
      sym (filter_all (λ q. not (is_right old r q)) (left_list t l) outside) ∙ clearing.left_lists l where
        not_true : (p m : ℕ) (b : Bool) → is_right old r p ≡ b → item_at t p ≡ Some (l, m) → not b ≡ true
        not_true p m false e item = refl
        not_true p m true e item = absurd (let bad : None ≡ Some (l, m) = sym (gone_at p e) ∙ item in cc)

        outside : (p : ℕ) → 1 ≤ times p (left_list t l) → not (is_right old r p) ≡ true
        outside p stands =
            let item = left_item t p l woven stands in
            not_true p item.0 (is_right old r p) refl item.1

  pub cleared_spare : t.spare ≡ old.spare + length (right_list old r)
  cleared_spare = omega (arith, clearing.spare, ap length cleared_empty)
