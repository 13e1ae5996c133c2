-- The nodes that a walk along an axis comes to, in axis order, told by what the cells of a source say (XPath 1.0, section 2.2).
use Rattle.std.specs.Prelude.{ℕ, zero, suc, ◌==◌, ◌++◌, List, [], ◌∷◌, reverse, Some, None, if◌then◌else◌}
use Rattle.std.specs.List.{flat_map}
use Rattle.serna_kinds.specs.declared.cells.NodeName.{NodeName}
use Rattle.serna_kinds.specs.declared.expressions.Axis.{Axis}
use Rattle.serna_kinds.specs.declared.expressions.Axis.TheVariants as axis
use Rattle.source_model.specs.Source.{Source}
use Rattle.xpath_axes.specs.Nodes.{parent_at, kids_at}

-- how deep nodes stand in one another at most: the document node, the elements, and what the innermost one has
abbrev pub levels : ℕ
levels = 122

-- a node followed by all that is below it, so many levels at most; and the same of nodes one after another
abbrev pub below_one : Source → ℕ → NodeName → List NodeName
below_one source zero n = []
below_one source (suc left) n = n ∷ flat_map (below_one source left) (kids_at source n)

abbrev pub below : Source → ℕ → List NodeName → List NodeName
below source left nodes = flat_map (below_one source left) nodes

-- the part of a list behind a node, and the part before it
abbrev pub after : NodeName → List NodeName → List NodeName
after n [] = []
after n (k ∷ ks) = if k.0 == n.0 then ks else after n ks

abbrev pub before : NodeName → List NodeName → List NodeName
before n [] = []
before n (k ∷ ks) = if k.0 == n.0 then [] else k ∷ before n ks

-- what a step out from a node to its parent p comes to
abbrev pub step : Axis → Source → NodeName → NodeName → List NodeName
step axis.Parent source n p = p ∷ []
step axis.Ancestor source n p = p ∷ []
step axis.AncestorOrSelf source n p = p ∷ []
step axis.FollowingSibling source n p = after n (kids_at source p)
step axis.PrecedingSibling source n p = reverse (before n (kids_at source p))
step axis.Following source n p = below source levels (after n (kids_at source p))
step axis.Preceding source n p = reverse (below source levels (before n (kids_at source p)))
step axis.Child source n p = []
step axis.Attribute source n p = []
step axis.Descendant source n p = []
step axis.Itself source n p = []
step axis.DescendantOrSelf source n p = []

-- how many steps out an axis goes at most
abbrev pub reach : Axis → ℕ
reach axis.Parent = 1
reach axis.FollowingSibling = 1
reach axis.PrecedingSibling = 1
reach axis.Ancestor = levels
reach axis.AncestorOrSelf = levels
reach axis.Following = levels
reach axis.Preceding = levels
reach axis.Child = 0
reach axis.Attribute = 0
reach axis.Descendant = 0
reach axis.Itself = 0
reach axis.DescendantOrSelf = 0

-- what so many steps out come to, the nearest first
abbrev pub outward : Axis → Source → ℕ → NodeName → List NodeName
outward along source zero n = []
outward along source (suc left) n = elim (parent_at source n) [ None ↦ [] | Some p ↦ step along source n p ++ outward along source left p ]

-- what is on an axis from a node
abbrev pub nodes_on : Axis → Source → NodeName → List NodeName
nodes_on axis.Child source n = kids_at source n
nodes_on axis.Attribute source n = []
nodes_on axis.Descendant source n = below source levels (kids_at source n)
nodes_on axis.Itself source n = n ∷ []
nodes_on axis.DescendantOrSelf source n = n ∷ below source levels (kids_at source n)
nodes_on axis.AncestorOrSelf source n = n ∷ outward axis.AncestorOrSelf source levels n
nodes_on axis.Parent source n = outward axis.Parent source 1 n
nodes_on axis.Ancestor source n = outward axis.Ancestor source levels n
nodes_on axis.FollowingSibling source n = outward axis.FollowingSibling source 1 n
nodes_on axis.PrecedingSibling source n = outward axis.PrecedingSibling source 1 n
nodes_on axis.Following source n = outward axis.Following source levels n
nodes_on axis.Preceding source n = outward axis.Preceding source levels n

-- what is on an axis from an attribute of an element n, without the attribute itself
abbrev pub nodes_from : Axis → Source → NodeName → List NodeName
nodes_from axis.Parent source n = n ∷ []
nodes_from axis.Ancestor source n = n ∷ outward axis.Ancestor source levels n
nodes_from axis.AncestorOrSelf source n = n ∷ outward axis.AncestorOrSelf source levels n
nodes_from axis.Following source n = below source levels (kids_at source n) ++ outward axis.Following source levels n
nodes_from axis.Preceding source n = outward axis.Preceding source levels n
nodes_from axis.Child source n = []
nodes_from axis.Attribute source n = []
nodes_from axis.Descendant source n = []
nodes_from axis.Itself source n = []
nodes_from axis.DescendantOrSelf source n = []
nodes_from axis.FollowingSibling source n = []
nodes_from axis.PrecedingSibling source n = []
