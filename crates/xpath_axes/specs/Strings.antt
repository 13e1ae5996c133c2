-- What a string-value is joined of, told by what the cells of a source say, and which cells it may read (XPath 1.0, section 5; the
-- bound is this project's own).
use Rattle.std.specs.Prelude.{ℕ, zero, suc, ◌++◌, Bool, IsTrue, List, [], ◌∷◌, Option, Some, None}
use Rattle.std.specs.List.{flat_map, AllByRecursion}
use Rattle.serna_kinds.specs.declared.cells.NodeName.{NodeName}
use Rattle.serna_kinds.specs.declared.cells.NodeRef.{NodeRef}
use Rattle.serna_kinds.specs.declared.cells.Kind.{Kind}
use Rattle.serna_kinds.specs.declared.cells.Cell.{Cell}
use Rattle.serna_kinds.specs.declared.cells.Facet.TheVariants as facet
use Rattle.serna_kinds.specs.declared.expressions.Axis.TheVariants as axis
use Rattle.source_model.specs.Source.{Source}
use Rattle.source_model.specs.Cells.{Spot, spot_of, kind_of}
use Rattle.source_model.specs.Axes.{own_characters}
use Rattle.source_model.specs.Logged.{cell_at, refs_cells, every}
use Rattle.xpath_axes.specs.Nodes.{children_of, kids_at}

-- the cells that a string-value may log
abbrev pub string_cells : Source → NodeRef → List Cell
string_cells source from = refs_cells (facet.Label ∷ facet.Kids ∷ facet.Text ∷ []) (from ∷ every axis.Descendant source from)

abbrev pub kind_at : Spot → Kind
kind_at spot = kind_of spot.body

-- a node's own text and then what its children give
abbrev pub joined : (NodeName → List ℕ) → Option Spot → List ℕ
joined give None = []
joined give (Some spot) = own_characters spot.body ++ flat_map give (children_of spot)

-- the texts at and below a node, so many levels at most
unfoldable pub texts_at : Source → ℕ → NodeName → List ℕ
texts_at source zero n = []
texts_at source (suc left) n = joined (texts_at source left) (spot_of source n.0)

-- a node's own cells may be read, and those of what is below it, so many levels at most
unfoldable pub MayJoin : (Cell → Bool) → Source → ℕ → NodeName → Type 0
MayJoin allowed source zero n = Unit {0}
MayJoin allowed source (suc left) n =
    IsTrue (allowed (cell_at facet.Label n)) × IsTrue (allowed (cell_at facet.Kids n)) × IsTrue (allowed (cell_at facet.Text n))
    × AllByRecursion (MayJoin allowed source left) (kids_at source n)
