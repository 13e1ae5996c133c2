-- Parts with their holes filled, level by level.
use Rattle.std.proofs.Common.{◌≡◌, ℕ, zero, suc, ◌-◌, ◌≤◌, List, [], ◌∷◌, ◌++◌, Option, Some, None, Bor, refl, sym, ap, ◌∙◌, subst, arith, append_assoc}
use Rattle.std.specs.List.{AllByRecursion}
use Rattle.std.specs.Option.{IsSome, option_copied}
use Rattle.result_origin.specs.Parts.{Mark, Run, Begin, Attr, AttrEnd, Finish, ResultPart, Says, Hole, filled, said, marks_in}
use Rattle.result_origin.specs.Items.{part_of}
use Rattle.result_origin.specs.declared.items.Item.{Item}
use Rattle.result_origin.specs.declared.items.Item.TheVariants as item
use Rattle.result_origin.specs.Assembled.{resolved, HoleEnds, Ends}

abbrev pub Kept : Type 0
Kept = ℕ → Option (List (ResultPart ℕ))

pub filled-append : {H : Type 0} (fill : H → List Mark) (xs ys : List (ResultPart H)) → filled fill (xs ++ ys) ≡ filled fill xs ++ filled fill ys
filled-append fill [] ys = refl
filled-append fill (Says m ∷ xs) ys = ap (λ ms. m ∷ ms) (filled-append fill xs ys)
filled-append fill (Hole h ∷ xs) ys = ap (λ ms. fill h ++ ms) (filled-append fill xs ys) ∙ sym (append_assoc (fill h) (filled fill xs) (filled fill ys))

pub said-append : (xs ys : List Mark) → said (xs ++ ys) ≡ said xs ++ said ys
said-append [] ys = refl
said-append (m ∷ xs) ys = ap (λ ps. Says m ∷ ps) (said-append xs ys)

-- what was added and is left, past a hole
pub past_hole : (fill : ℕ → List Mark) (id : ℕ) (added all rest : List (ResultPart ℕ)) → added ++ said (filled fill (Hole id ∷ rest)) ≡ all →
    (added ++ said (fill id)) ++ said (filled fill rest) ≡ all
past_hole fill id added all rest so_far =
    append_assoc added (said (fill id)) (said (filled fill rest)) ∙ (ap (λ ps. added ++ ps) (sym (said-append (fill id) (filled fill rest))) ∙ so_far)

-- and past a mark
pub past_mark : (fill : ℕ → List Mark) (one : Item) (added all rest : List (ResultPart ℕ)) → ((id : ℕ) → one ≡ item.Hole id → ⊥) →
    added ++ said (filled fill (part_of one ∷ rest)) ≡ all → (added ++ part_of one ∷ []) ++ said (filled fill rest) ≡ all
past_mark fill (item.Run text origin) added all rest no_hole so_far = append_assoc added (Says (Run text origin) ∷ []) (said (filled fill rest)) ∙ so_far
past_mark fill (item.Begin name rule) added all rest no_hole so_far = append_assoc added (Says (Begin name rule) ∷ []) (said (filled fill rest)) ∙ so_far
past_mark fill (item.Attr name) added all rest no_hole so_far = append_assoc added (Says (Attr name) ∷ []) (said (filled fill rest)) ∙ so_far
past_mark fill item.AttrEnd added all rest no_hole so_far = append_assoc added (Says AttrEnd ∷ []) (said (filled fill rest)) ∙ so_far
past_mark fill item.Finish added all rest no_hole so_far = append_assoc added (Says Finish ∷ []) (said (filled fill rest)) ∙ so_far
past_mark fill (item.Hole id) added all rest no_hole so_far = absurd (no_hole id refl)

-- where a value stands behind what may be a reference, there is a reference
pub some_behind : {T : Type 0} (found : Option (Bor T)) (x : T) → option_copied found ≡ Some x → IsSome found
some_behind None x is = cc
some_behind (Some r) x is = refl

pub a_level : (kept : Kept) (levels id : ℕ) → Ends kept levels id → 1 ≤ levels
unfolding Ends
a_level kept zero id ends = absurd ends
a_level kept (suc below) id ends = omega arith

pub is_kept : (kept : Kept) (levels id : ℕ) → Ends kept levels id → (parts : List (ResultPart ℕ)) × (kept id ≡ Some parts)
unfolding Ends
is_kept kept zero id ends = absurd ends
is_kept kept (suc below) id ends = (ends.0, ends.1)

-- what is so of the parts of which a number's result is made, its holes ending within so many levels
pub record Entered (kept : Kept) (levels below id : ℕ) (parts : List (ResultPart ℕ)) : Type 0 where
  pub ends : AllByRecursion (HoleEnds (Ends kept below)) parts
  pub is : resolved kept levels id ≡ filled (resolved kept below) parts

entered_level : (kept : Kept) (below id : ℕ) (parts : List (ResultPart ℕ)) → Ends kept (suc below) id → kept id ≡ Some parts → Entered kept (suc below) below id parts
unfolding Ends resolved
entered_level kept below id parts ends there = record {
  ends = let same : ends.0 ≡ parts = cc (ends.1, there) in subst (AllByRecursion (HoleEnds (Ends kept below))) same ends.2;
  is = ap (λ (found : Option (List (ResultPart ℕ))). elim found as (λ _. List Mark) [ None ↦ [] | Some ps ↦ filled (resolved kept below) ps ]) there;
}

pub entered : (kept : Kept) (levels id : ℕ) (parts : List (ResultPart ℕ)) → Ends kept levels id → kept id ≡ Some parts → Entered kept levels (levels - 1) id parts
entered kept levels id parts ends there =
    let n : levels ≡ suc (levels - 1) = omega (arith, a_level kept levels id ends) in
    subst (λ m. Entered kept m (levels - 1) id parts) (sym n) (entered_level kept (levels - 1) id parts (subst (λ m. Ends kept m id) n ends) there)

-- Parts without holes

pub marks_in-said : (marks : List Mark) → marks_in (said marks) ≡ marks
marks_in-said [] = refl
marks_in-said (mark ∷ marks) = ap (λ ms. mark ∷ ms) (marks_in-said marks)
