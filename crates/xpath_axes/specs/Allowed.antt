-- What a walk along an axis reads (this project's own).
use Rattle.std.specs.Prelude.{ℕ, zero, suc, Bool, IsTrue, List, [], ◌∷◌, Option, Some, None}
use Rattle.std.specs.List.{AllByRecursion}
use Rattle.serna_kinds.specs.declared.cells.NodeName.{NodeName}
use Rattle.serna_kinds.specs.declared.cells.Cell.{Cell}
use Rattle.serna_kinds.specs.declared.cells.Facet.{Facet}
use Rattle.serna_kinds.specs.declared.cells.Facet.TheVariants as facet
use Rattle.serna_kinds.specs.declared.expressions.Axis.{Axis}
use Rattle.serna_kinds.specs.declared.expressions.Axis.TheVariants as axis
use Rattle.source_model.specs.Source.{Source}
use Rattle.source_model.specs.Logged.{cell_at}
use Rattle.xpath_axes.specs.Nodes.{parent_at, kids_at}
use Rattle.xpath_axes.specs.Walks.{levels, below, before, after}

-- a facet of each of these nodes may be read
abbrev pub MayRead : (Cell → Bool) → Facet → List NodeName → Type 0
MayRead allowed facet nodes = AllByRecursion (λ (n : NodeName). IsTrue (allowed (cell_at facet n))) nodes

-- a step out from a node to its parent p
abbrev pub MayStep : (Cell → Bool) → Axis → Source → NodeName → NodeName → Type 0
MayStep allowed axis.Parent source n p = Unit {0}
MayStep allowed axis.Ancestor source n p = Unit {0}
MayStep allowed axis.AncestorOrSelf source n p = Unit {0}
MayStep allowed axis.FollowingSibling source n p = MayRead allowed facet.Kids (p ∷ [])
MayStep allowed axis.PrecedingSibling source n p = MayRead allowed facet.Kids (p ∷ [])
MayStep allowed axis.Following source n p = MayRead allowed facet.Kids (p ∷ below source levels (after n (kids_at source p)))
MayStep allowed axis.Preceding source n p = MayRead allowed facet.Kids (p ∷ below source levels (before n (kids_at source p)))
MayStep allowed axis.Child source n p = Unit {0}
MayStep allowed axis.Attribute source n p = Unit {0}
MayStep allowed axis.Descendant source n p = Unit {0}
MayStep allowed axis.Itself source n p = Unit {0}
MayStep allowed axis.DescendantOrSelf source n p = Unit {0}

-- where there is a parent
abbrev pub AtParent : (NodeName → Type 0) → Option NodeName → Type 0
AtParent may None = Unit {0}
AtParent may (Some p) = may p

-- so many steps out
abbrev pub MayWalk : (Cell → Bool) → Axis → Source → ℕ → NodeName → Type 0
MayWalk allowed along source zero n = Unit {0}
MayWalk allowed along source (suc left) n =
    IsTrue (allowed (cell_at facet.Up n)) × AtParent (λ p. MayStep allowed along source n p × MayWalk allowed along source left p) (parent_at source n)

-- a walk along an axis from a node
abbrev pub MayGo : (Cell → Bool) → Axis → Source → NodeName → Type 0
MayGo allowed axis.Child source n = MayRead allowed facet.Kids (n ∷ [])
MayGo allowed axis.Attribute source n = Unit {0}
MayGo allowed axis.Descendant source n = MayRead allowed facet.Kids (n ∷ below source levels (kids_at source n))
MayGo allowed axis.Itself source n = Unit {0}
MayGo allowed axis.DescendantOrSelf source n = MayRead allowed facet.Kids (n ∷ below source levels (kids_at source n))
MayGo allowed axis.AncestorOrSelf source n = MayWalk allowed axis.AncestorOrSelf source levels n
MayGo allowed axis.Parent source n = MayWalk allowed axis.Parent source 1 n
MayGo allowed axis.Ancestor source n = MayWalk allowed axis.Ancestor source levels n
MayGo allowed axis.FollowingSibling source n = MayWalk allowed axis.FollowingSibling source 1 n
MayGo allowed axis.PrecedingSibling source n = MayWalk allowed axis.PrecedingSibling source 1 n
MayGo allowed axis.Following source n = MayWalk allowed axis.Following source levels n
MayGo allowed axis.Preceding source n = MayWalk allowed axis.Preceding source levels n

-- a walk along an axis from an attribute of an element n
abbrev pub MayLeave : (Cell → Bool) → Axis → Source → NodeName → Type 0
MayLeave allowed axis.Ancestor source n = MayWalk allowed axis.Ancestor source levels n
MayLeave allowed axis.AncestorOrSelf source n = MayWalk allowed axis.AncestorOrSelf source levels n
MayLeave allowed axis.Following source n = MayRead allowed facet.Kids (n ∷ below source levels (kids_at source n)) × MayWalk allowed axis.Following source levels n
MayLeave allowed axis.Preceding source n = MayWalk allowed axis.Preceding source levels n
MayLeave allowed axis.Parent source n = Unit {0}
MayLeave allowed axis.Child source n = Unit {0}
MayLeave allowed axis.Attribute source n = Unit {0}
MayLeave allowed axis.Descendant source n = Unit {0}
MayLeave allowed axis.Itself source n = Unit {0}
MayLeave allowed axis.DescendantOrSelf source n = Unit {0}
MayLeave allowed axis.FollowingSibling source n = Unit {0}
MayLeave allowed axis.PrecedingSibling source n = Unit {0}

-- an element's attributes, on the axis `attribute`
abbrev pub MayOwn : (Cell → Bool) → Axis → NodeName → Type 0
MayOwn allowed axis.Attribute n = MayRead allowed facet.Attrs (n ∷ [])
MayOwn allowed axis.Child n = Unit {0}
MayOwn allowed axis.Descendant n = Unit {0}
MayOwn allowed axis.Itself n = Unit {0}
MayOwn allowed axis.DescendantOrSelf n = Unit {0}
MayOwn allowed axis.AncestorOrSelf n = Unit {0}
MayOwn allowed axis.Parent n = Unit {0}
MayOwn allowed axis.Ancestor n = Unit {0}
MayOwn allowed axis.FollowingSibling n = Unit {0}
MayOwn allowed axis.PrecedingSibling n = Unit {0}
MayOwn allowed axis.Following n = Unit {0}
MayOwn allowed axis.Preceding n = Unit {0}
