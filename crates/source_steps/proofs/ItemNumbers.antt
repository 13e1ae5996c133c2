-- The greatest number of the items of neighbours is the greatest of the neighbours.
use Rattle.std.proofs.Common.{◌≡◌, List, [], ◌∷◌, ◌++◌, refl, ap, arith}
use Rattle.std.specs.Prelude.{max}
use Rattle.source_model.specs.Source.{Root, Element, Text, Comment, Forest, none, node}
use Rattle.source_model.specs.Changes.{greatest}
use Rattle.source_model.specs.Consistent.{AreLeaves}
use Rattle.source_primitives.specs.declared.primitive.SubItem.{SubItem}
use Rattle.source_primitives.specs.declared.primitive.SubItem.TheVariants as item
use Rattle.source_primitives.specs.Primitives.{items_of}
use Rattle.source_steps.specs.Putting.{greatest_among}

greatest-append : (a b : List SubItem) → greatest_among (a ++ b) ≡ max (greatest_among a) (greatest_among b)
greatest-append [] b = omega arith
greatest-append (x ∷ a) b = let h = greatest-append a b in omega (arith, h)

pub greatest_of_items : (f : Forest) → AreLeaves f → greatest_among (items_of f) ≡ greatest f
greatest_of_items none leaves = refl
greatest_of_items (node n Root kids rest) leaves = absurd leaves
greatest_of_items (node n (Element name pairs) kids rest) leaves =
    let whole = greatest-append (items_of kids) (item.Finish ∷ items_of rest) in
    let inner = greatest_of_items kids leaves.0 in
    let later = greatest_of_items rest leaves.1 in
    omega (arith, whole, inner, later)
greatest_of_items (node n (Text text) kids rest) leaves =
    let bare : greatest kids ≡ 0 = ap greatest leaves.0 in
    let later = greatest_of_items rest leaves.1 in
    omega (arith, bare, later)
greatest_of_items (node n (Comment text) kids rest) leaves =
    let bare : greatest kids ≡ 0 = ap greatest leaves.0 in
    let later = greatest_of_items rest leaves.1 in
    omega (arith, bare, later)
