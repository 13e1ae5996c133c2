-- How the items of nodes are read off their cells (this project's own).
use Rattle.std.specs.Prelude.{◌≡◌, ℕ, ◌≤◌, List, ◌++◌, map, drop, Option}
use Rattle.serna_kinds.specs.declared.cells.NameId.{NameId}
use Rattle.serna_kinds.specs.declared.cells.AttrPair.{AttrPair}
use Rattle.serna_kinds.specs.declared.cells.NodeName.{NodeName}
use Rattle.serna_kinds.specs.declared.cells.Cell.{Cell}
use Rattle.serna_kinds.specs.Content.{Content}
use Rattle.source_model.specs.Source.{Body, Element, Forest, node, numbers}
use Rattle.source_model.specs.Cells.{named}
use Rattle.source_model.specs.Proper.{depth_of}
use Rattle.source_model.specs.Consistent.{AreLeaves}
use Rattle.source_model.specs.Told.{AreTold}
use Rattle.source_primitives.specs.declared.primitive.SubItem.{SubItem}
use Rattle.source_primitives.specs.Primitives.{items_of}

-- the cells have these neighbours below `up`, whose elements stand at most so deep in one another
pub record AreWithin (view : Cell → Option Content) (up : Option ℕ) (left : ℕ) (forest : Forest) : Type 0 where
  pub told : AreTold view up forest
  pub leaves : AreLeaves forest
  pub shallow : depth_of forest ≤ left

-- the items of the neighbours of these numbers stand behind what was there
abbrev pub ReadsAll : (Cell → Option Content) → List NodeName → ℕ → List SubItem → List SubItem → Type 0
ReadsAll view kids left old new =
    (up : Option ℕ) (forest : Forest) → AreWithin view up left forest → kids ≡ map named (numbers forest) → new ≡ old ++ items_of forest

-- those of the node of a number: with the items of whatever follows it, what was read is as if both are still to read
abbrev pub ReadsNode : (Cell → Option Content) → NodeName → ℕ → List SubItem → List SubItem → Type 0
ReadsNode view number left old new =
    (up : Option ℕ) (body : Body) (kids rest : Forest) → AreWithin view up left (node number.0 body kids rest) →
    new ++ items_of rest ≡ old ++ items_of (node number.0 body kids rest)

-- those of an element of this name and these attributes
abbrev pub ReadsElement : (Cell → Option Content) → NodeName → NameId → List AttrPair → ℕ → List SubItem → List SubItem → Type 0
ReadsElement view number name pairs left old new =
    (up : Option ℕ) (kids rest : Forest) → AreWithin view up left (node number.0 (Element name pairs) kids rest) →
    new ++ items_of rest ≡ old ++ items_of (node number.0 (Element name pairs) kids rest)

-- some neighbours are read, and the rest, whose numbers begin at a place, is still to read
pub record StillToRead (view : Cell → Option Content) (up : Option ℕ) (left : ℕ) (kids : List NodeName) (at : ℕ) (old new : List SubItem) (forest : Forest) : Type 0 where
  pub rest : Forest
  pub within : AreWithin view up left rest
  pub next : drop at kids ≡ map named (numbers rest)
  pub read : new ++ items_of rest ≡ old ++ items_of forest
