-- Which cells an instance may read (this project's own).
use Rattle.std.specs.Prelude.{◌≡◌, ℕ, List, [], ◌∷◌, Bool, Some, Contains}
use Rattle.std.specs.List.{flat_map}
use Rattle.serna_kinds.specs.declared.cells.Cell.{Cell}
use Rattle.serna_kinds.specs.declared.cells.NodeName.{NodeName}
use Rattle.serna_kinds.specs.declared.cells.NodeRef.{NodeRef}
use Rattle.serna_kinds.specs.declared.cells.NodeRef.TheVariants as ref
use Rattle.serna_kinds.specs.declared.cells.Facet.{Facet}
use Rattle.serna_kinds.specs.declared.cells.Facet.TheVariants as facet
use Rattle.serna_kinds.specs.Tape.{Within}
use Rattle.source_model.specs.Source.{Source}
use Rattle.source_model.specs.Cells.{Spot, spot_of, named}
use Rattle.instance_store.specs.declared.request.Request.{Request}
use Rattle.template_run.specs.Nodes.{children_of}
use Rattle.template_run.specs.Batch.{passed_nodes}

abbrev pub cell_at : Facet → NodeName → Cell
cell_at facet n = record { node = n; facet = facet }

-- whether a node is in the source: what it is, and for an attribute its element's attributes
abbrev pub presence_cells : NodeRef → List Cell
presence_cells (ref.Node n) = cell_at facet.Label n ∷ []
presence_cells (ref.Attr n name) = cell_at facet.Attrs n ∷ []

-- a node's own cells: what it is, its children, and its characters; and for an attribute its element's attributes
abbrev pub own_cells : NodeRef → List Cell
own_cells (ref.Node n) = cell_at facet.Label n ∷ cell_at facet.Kids n ∷ cell_at facet.Text n ∷ []
own_cells (ref.Attr n name) = cell_at facet.Attrs n ∷ []

-- an instance reads the cells of its own node, and whether the nodes that are passed to it are there
abbrev pub MayRead : (Cell → Bool) → Request → Type 0
MayRead allowed request = Within allowed (own_cells request.node) × Within allowed (flat_map presence_cells (passed_nodes request.passed))

-- the cells of the document node, and of each child of a node of the source
pub record AreAllowed (allowed : Cell → Bool) (source : Source) : Type 0 where
  pub root : Within allowed (own_cells (ref.Node (named 0)))
  pub kids : (n : ℕ) (spot : Spot) (kid : NodeName) → spot_of source n ≡ Some spot → Contains (children_of spot) kid → Within allowed (own_cells (ref.Node kid))
