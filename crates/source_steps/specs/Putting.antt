-- How the changes that put a subtree in grow along its items (this project's own).
use Rattle.std.specs.Prelude.{◌≡◌, ℕ, ◌+◌, List, [], ◌∷◌, ◌++◌, map, drop, length, max, Some}
use Rattle.serna_kinds.specs.declared.cells.NodeName.{NodeName}
use Rattle.source_model.specs.Source.{Forest, none, node, numbers}
use Rattle.source_model.specs.Cells.{named}
use Rattle.source_model.specs.Consistent.{AreLeaves}
use Rattle.frozen_tree.specs.declared.kept.CellChange.{CellChange}
use Rattle.source_primitives.specs.declared.primitive.SubItem.{SubItem}
use Rattle.source_primitives.specs.declared.primitive.SubItem.TheVariants as item
use Rattle.source_primitives.specs.Primitives.{items_of}
use Rattle.source_steps.specs.CellChanges.{puts}

-- the neighbours end here: with the items, or with the end of the element around them
abbrev pub EndHere : List SubItem → Type 0
EndHere [] = Unit {0}
EndHere (item.Begin number name attributes ∷ items) = ⊥
EndHere (item.Text number text ∷ items) = ⊥
EndHere (item.Comment number text ∷ items) = ⊥
EndHere (item.Finish ∷ items) = Unit {0}

abbrev pub IsSomeForest : Forest → Type 0
IsSomeForest none = ⊥
IsSomeForest (node n body kids rest) = Unit {0}

-- the items from a place on are those of these neighbours and what follows them
pub record StandAt (items : List SubItem) (at : ℕ) (neighbours : Forest) (more : List SubItem) : Type 0 where
  pub leaves : AreLeaves neighbours
  pub left : drop at items ≡ items_of neighbours ++ more

-- so many of the neighbours are put in that these changes and numbers, with those of what is left, are as before
pub record GoesOn (items : List SubItem) (up : NodeName) (at : ℕ) (changes : List CellChange) (kids : List NodeName) (more : List SubItem) (old : Forest)
    (to : ℕ) (new_changes : List CellChange) (new_kids : List NodeName) : Type 0 where
  pub new : Forest
  pub stand : StandAt items to new more
  pub changed : new_changes ++ puts (Some up.0) new ≡ changes ++ puts (Some up.0) old
  pub numbered : new_kids ++ map named (numbers new) ≡ kids ++ map named (numbers old)
  pub place : to + length (items_of new) ≡ at + length (items_of old)

abbrev pub PutsOne : List SubItem → NodeName → ℕ → List CellChange → List NodeName → ℕ → List CellChange → List NodeName → Type 0
PutsOne items up at changes kids to new_changes new_kids =
    (old : Forest) (more : List SubItem) → IsSomeForest old → EndHere more → StandAt items at old more → GoesOn items up at changes kids more old to new_changes new_kids

-- all neighbours are put in
pub record IsPut (up : NodeName) (at : ℕ) (changes : List CellChange) (old : Forest) (to : ℕ) (new_changes : List CellChange) (kids : List NodeName) : Type 0 where
  pub changed : new_changes ≡ changes ++ puts (Some up.0) old
  pub numbered : kids ≡ map named (numbers old)
  pub place : to ≡ at + length (items_of old)

abbrev pub PutsAll : List SubItem → NodeName → ℕ → List CellChange → ℕ → List CellChange → List NodeName → Type 0
PutsAll items up at changes to new_changes kids =
    (old : Forest) (more : List SubItem) → EndHere more → StandAt items at old more → IsPut up at changes old to new_changes kids

-- the number of the node of an item, and the greatest of items
abbrev pub number_in : SubItem → ℕ
number_in (item.Begin number name attributes) = number.0
number_in (item.Text number text) = number.0
number_in (item.Comment number text) = number.0
number_in item.Finish = 0

abbrev pub greatest_among : List SubItem → ℕ
greatest_among [] = 0
greatest_among (one ∷ items) = max (number_in one) (greatest_among items)
