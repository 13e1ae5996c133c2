-- What a keystroke changes, by the cells of the source (this project's own): what can be asked of its nodes one by one.
use Rattle.std.specs.Prelude.{◌≡◌, ℕ, ◌+◌, List, ◌∷◌, Some, None}
use Rattle.serna_kinds.specs.declared.cells.NodeName.{NodeName}
use Rattle.serna_kinds.specs.declared.cells.Cell.{Cell}
use Rattle.serna_kinds.specs.declared.cells.Facet.{Facet}
use Rattle.serna_kinds.specs.declared.cells.Facet.TheVariants as facet
use Rattle.serna_kinds.specs.declared.cells.Kind.TheVariants as kind
use Rattle.serna_kinds.specs.Content as content
use Rattle.source_model.specs.Source.{Source}
use Rattle.source_model.specs.Cells.{cell_of}

abbrev pub cell : NodeName → Facet → Cell
cell node facet = record { node = node; facet = facet }

-- the two sources differ in the characters of one node alone, which are these in the new one; each other cell is as before, and so are
-- the declarations and the count of numbers
pub record HasOtherText (node : NodeName) (text : List ℕ) (old new : Source) : Type 0 where
  pub there : cell_of new (cell node facet.Text) ≡ Some (content.Text text)
  pub elsewhere : (other : Cell) → (other.node.0 ≡ node.0 → other.facet ≡ facet.Text → ⊥) → cell_of new other ≡ cell_of old other
  pub declared : new.spaces ≡ old.spaces
  pub made : new.made ≡ old.made

-- the new source has one node more, a text with these characters as the first child of an element: of its cells those of a text are there
-- and no others. Each cell of another node but the list of that element's children is as before, and so are the declarations.
pub record HasNewFirstText (parent node : NodeName) (text : List ℕ) (old new : Source) : Type 0 where
  pub was : (facet : Facet) → cell_of old (cell node facet) ≡ None
  pub label : cell_of new (cell node facet.Label) ≡ Some (content.Label kind.Text None)
  pub up : cell_of new (cell node facet.Up) ≡ Some (content.Up (Some parent))
  pub characters : cell_of new (cell node facet.Text) ≡ Some (content.Text text)
  pub no_kids : cell_of new (cell node facet.Kids) ≡ None
  pub no_attributes : cell_of new (cell node facet.Attrs) ≡ None
  pub first : (kids : List NodeName) → cell_of old (cell parent facet.Kids) ≡ Some (content.Kids kids) → cell_of new (cell parent facet.Kids) ≡ Some (content.Kids (node ∷ kids))
  pub elsewhere : (other : Cell) → (other.node.0 ≡ node.0 → ⊥) → (other.node.0 ≡ parent.0 → other.facet ≡ facet.Kids → ⊥) → cell_of new other ≡ cell_of old other
  pub declared : new.spaces ≡ old.spaces
  pub made : new.made ≡ old.made + 1
