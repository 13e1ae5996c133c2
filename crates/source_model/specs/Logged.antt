-- Which cells a step along an axis may log (this project's own): those of the node that it goes from, whether it is there or not,
-- and of the nodes that it looks at.
use Rattle.std.specs.Prelude.{◌++◌, List, [], ◌∷◌, map}
use Rattle.serna_kinds.specs.declared.cells.NodeName.{NodeName}
use Rattle.serna_kinds.specs.declared.cells.NodeRef.{NodeRef}
use Rattle.serna_kinds.specs.declared.cells.NodeRef.TheVariants as ref
use Rattle.serna_kinds.specs.declared.cells.Cell.{Cell}
use Rattle.serna_kinds.specs.declared.cells.Facet.{Facet}
use Rattle.serna_kinds.specs.declared.cells.Facet.TheVariants as facet
use Rattle.serna_kinds.specs.declared.expressions.Axis.{Axis}
use Rattle.serna_kinds.specs.declared.expressions.Axis.TheVariants as axis
use Rattle.serna_kinds.specs.declared.expressions.NodeTest.TheVariants as test
use Rattle.source_model.specs.Source.{Source}
use Rattle.source_model.specs.Axes.{axis_of}

abbrev pub cell_at : Facet → NodeName → Cell
cell_at facet n = record { node = n; facet = facet }

-- these facets of a node; of an attribute its element's attributes
abbrev pub ref_cells : List Facet → NodeRef → List Cell
ref_cells facets (ref.Node n) = map (λ facet. cell_at facet n) facets
ref_cells facets (ref.Attr n name) = cell_at facet.Attrs n ∷ []

abbrev pub refs_cells : List Facet → List NodeRef → List Cell
refs_cells facets [] = []
refs_cells facets (r ∷ rs) = ref_cells facets r ++ refs_cells facets rs

abbrev pub every : Axis → Source → NodeRef → List NodeRef
every along source from = axis_of [] along test.AnyNode source from

abbrev pub sibling_cells : Source → NodeRef → List Cell
sibling_cells source from =
    ref_cells (facet.Label ∷ facet.Up ∷ []) from ++ refs_cells (facet.Kids ∷ []) (every axis.Parent source from)
    ++ refs_cells (facet.Label ∷ []) (every axis.PrecedingSibling source from ++ every axis.FollowingSibling source from)

abbrev pub outward_cells : Axis → Source → NodeRef → List Cell
outward_cells along source from =
    refs_cells (facet.Label ∷ facet.Up ∷ facet.Kids ∷ []) (from ∷ (every axis.Ancestor source from ++ every along source from))

-- the cells that a step along an axis may log
abbrev pub axis_cells : Axis → Source → NodeRef → List Cell
axis_cells axis.Itself source from = ref_cells (facet.Label ∷ []) from
axis_cells axis.Child source from = ref_cells (facet.Label ∷ facet.Kids ∷ []) from ++ refs_cells (facet.Label ∷ []) (every axis.Child source from)
axis_cells axis.Attribute source from = ref_cells (facet.Label ∷ facet.Attrs ∷ []) from
axis_cells axis.Descendant source from = refs_cells (facet.Label ∷ facet.Kids ∷ []) (from ∷ every axis.Descendant source from)
axis_cells axis.DescendantOrSelf source from = refs_cells (facet.Label ∷ facet.Kids ∷ []) (from ∷ every axis.Descendant source from)
axis_cells axis.Parent source from = ref_cells (facet.Up ∷ []) from ++ refs_cells (facet.Label ∷ []) (every axis.Parent source from)
axis_cells axis.Ancestor source from = refs_cells (facet.Label ∷ facet.Up ∷ []) (from ∷ every axis.Ancestor source from)
axis_cells axis.AncestorOrSelf source from = refs_cells (facet.Label ∷ facet.Up ∷ []) (from ∷ every axis.Ancestor source from)
axis_cells axis.FollowingSibling source from = sibling_cells source from
axis_cells axis.PrecedingSibling source from = sibling_cells source from
axis_cells axis.Following source from = outward_cells axis.Following source from
axis_cells axis.Preceding source from = outward_cells axis.Preceding source from
