-- What changes of cells make of the cells of a source (this project's own).
use Rattle.std.specs.Prelude.{ℕ, List, [], ◌∷◌, ◌++◌, map, Option, Some, None, if◌then◌else◌}
use Rattle.std.specs.Option.{option_map}
use Rattle.serna_kinds.specs.declared.cells.Cell.{Cell}
use Rattle.serna_kinds.specs.declared.cells.Facet.{Facet}
use Rattle.serna_kinds.specs.declared.cells.Facet.TheVariants as facet
use Rattle.serna_kinds.specs.declared.cells.Kind.TheVariants as kind
use Rattle.serna_kinds.specs.Content.{Content}
use Rattle.serna_kinds.specs.Tape.{is_cell}
use Rattle.source_model.specs.Source.{Root, Element, Text, Comment, Forest, none, node, numbers}
use Rattle.source_model.specs.Cells.{named}
use Rattle.source_model.specs.Logged.{cell_at}
use Rattle.frozen_tree.specs.declared.kept.CellChange.{CellChange}
use Rattle.frozen_tree.specs.declared.kept.KeptValue.{KeptValue}
use Rattle.frozen_tree.specs.declared.kept.KeptValue.TheVariants as kept
use Rattle.source_primitives.specs.declared.primitive.SubItem.{SubItem}
use Rattle.source_primitives.specs.declared.primitive.SubItem.TheVariants as item

-- one cell with another content
abbrev pub with_content : Cell → Content → (Cell → Option Content) → Cell → Option Content
with_content own what view cell = if is_cell own cell then Some what else view cell

-- a cell of a node gets a value, or is taken out
abbrev pub put : Facet → ℕ → KeptValue → CellChange
put facet n value = record { cell = cell_at facet (named n); value = Some value }

abbrev pub taken : Facet → ℕ → CellChange
taken facet n = record { cell = cell_at facet (named n); value = None }

-- the changes that put in neighbours below a node, with all below them
abbrev pub puts : Option ℕ → Forest → List CellChange
puts up none = []
puts up (node n Root kids rest) = puts (Some n) kids ++ puts up rest
puts up (node n (Element name pairs) kids rest) =
    put facet.Label n (kept.Label kind.Element (Some name)) ∷ put facet.Up n (kept.Up (option_map named up)) ∷ put facet.Attrs n (kept.Attrs pairs)
    ∷ (puts (Some n) kids ++ (put facet.Kids n (kept.Kids (map named (numbers kids))) ∷ puts up rest))
puts up (node n (Text text) kids rest) =
    put facet.Label n (kept.Label kind.Text None) ∷ put facet.Up n (kept.Up (option_map named up)) ∷ put facet.Text n (kept.Text text) ∷ puts up rest
puts up (node n (Comment text) kids rest) =
    put facet.Label n (kept.Label kind.Comment None) ∷ put facet.Up n (kept.Up (option_map named up)) ∷ put facet.Text n (kept.Text text) ∷ puts up rest

-- the changes that take out a node, and all nodes of a subtree
abbrev pub gone : ℕ → List CellChange
gone n = taken facet.Label n ∷ taken facet.Kids n ∷ taken facet.Up n ∷ taken facet.Attrs n ∷ taken facet.Text n ∷ []

abbrev pub takes : List SubItem → List CellChange
takes [] = []
takes (item.Begin n name pairs ∷ items) = gone n.0 ++ takes items
takes (item.Text n text ∷ items) = gone n.0 ++ takes items
takes (item.Comment n text ∷ items) = gone n.0 ++ takes items
takes (item.Finish ∷ items) = takes items
