-- What items say, one by one.
use Rattle.std.proofs.Common.{◌≡◌, ℕ, ◌+◌, ◌-◌, ◌<◌, ◌≤◌, List, [], ◌∷◌, length, take, drop, map, get_or, sym, ap, ◌∙◌, arith}
use Rattle.std.proofs.lemmas.List.{take_rest, drop_more}
use Rattle.result_origin.specs.Items.{part_of}
use Rattle.result_origin.specs.declared.items.Item.{Item}

-- what is left at an item is the item and what is left behind it
pub left_parts : (items : List Item) (i : ℕ) (one : Item) → i < length items → one ≡ get_or items i one →
    map part_of (drop i items) ≡ part_of one ∷ map part_of (drop (i + 1) items)
left_parts items i one within is = ap (map part_of) (drop_more items i one within) ∙ ap (λ (it : Item). part_of it ∷ map part_of (drop (i + 1) items)) (sym is)

-- the first item and those behind it
pub first_part : (items : List Item) (first : Item) → 1 ≤ length items → first ≡ get_or items 0 first →
    map part_of items ≡ part_of first ∷ map part_of (take (length items - 1) (drop 1 items))
first_part [] first some is = absurd (omega arith)
first_part (one ∷ rest) first some is =
    ap (λ (it : Item). part_of it ∷ map part_of rest) (sym is) ∙ ap (λ (items : List Item). part_of first ∷ map part_of items) (sym (take_rest (one ∷ rest) 1))
