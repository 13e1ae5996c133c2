-- What a path is read from, told by what the cells of a source say, and which cells document order may read (XPath 1.0, section 5; the
-- bound is this project's own).
use Rattle.std.specs.Prelude.{ℕ, zero, suc, ◌==◌, ◌++◌, Bool, IsTrue, List, [], ◌∷◌, Option, Some, None}
use Rattle.std.specs.Option.{option_map, option_and_then}
use Rattle.std.specs.List.{flat_map, position}
use Rattle.serna_kinds.specs.declared.cells.NodeName.{NodeName}
use Rattle.serna_kinds.specs.declared.cells.NameId.{NameId}
use Rattle.serna_kinds.specs.declared.cells.NodeRef.{NodeRef}
use Rattle.serna_kinds.specs.declared.cells.Cell.{Cell}
use Rattle.serna_kinds.specs.declared.cells.Facet.TheVariants as facet
use Rattle.serna_kinds.specs.declared.expressions.Axis.TheVariants as axis
use Rattle.source_model.specs.Source.{Source}
use Rattle.source_model.specs.Cells.{Spot, spot_of}
use Rattle.source_model.specs.Paths.{Path, attribute_place}
use Rattle.source_model.specs.Logged.{cell_at, refs_cells, every}
use Rattle.xpath_axes.specs.Nodes.{parent_at, kids_at, attributes_at}

-- the cells that the order of one node or attribute may log
abbrev pub order_cells_of : Source → NodeRef → List Cell
order_cells_of source r =
    refs_cells (facet.Label ∷ facet.Up ∷ []) (r ∷ every axis.Ancestor source r) ++ refs_cells (facet.Kids ∷ []) (every axis.Ancestor source r)

-- the cells that document order may log
abbrev pub order_cells : Source → List NodeRef → List Cell
order_cells source refs = flat_map (order_cells_of source) refs

-- the document node's path, where it is there; and a path one step on, to a child
abbrev pub path_along : Source → NodeName → (NodeName → Option Path) → Option NodeName → Option Path
path_along source n above None = option_map (λ (spot : Spot). (1, 0) ∷ []) (spot_of source n.0)
path_along source n above (Some p) = option_and_then (λ (path : Path). option_map (λ i. path ++ (1, i) ∷ []) (position (λ (k : NodeName). n.0 == k.0) (kids_at source p))) (above p)

-- a node's path by its parents, so many at most
unfoldable pub path_by : Source → ℕ → NodeName → Option Path
path_by source zero n = None
path_by source (suc left) n = path_along source n (path_by source left) (parent_at source n)

abbrev pub attribute_path_by : Source → ℕ → NodeName → NameId → Option Path
attribute_path_by source left n name =
    option_and_then (λ i. option_map (λ (path : Path). path ++ (0, i) ∷ []) (path_by source left n)) (attribute_place name 0 (attributes_at source n))

-- a node's own cells and those of so many parents may be read
unfoldable pub MayClimb : (Cell → Bool) → Source → ℕ → NodeName → Type 0
MayClimb allowed source zero n = Unit {0}
MayClimb allowed source (suc left) n =
    IsTrue (allowed (cell_at facet.Label n)) × IsTrue (allowed (cell_at facet.Up n))
    × elim (parent_at source n) [ None ↦ Unit {0} | Some p ↦ IsTrue (allowed (cell_at facet.Kids p)) × MayClimb allowed source left p ]
