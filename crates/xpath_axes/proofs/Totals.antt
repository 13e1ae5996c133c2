-- What a test takes of the nodes that a walk came to is what the axis has.
use Rattle.std.proofs.Common.{◌≡◌, ℕ, ◌++◌, List, [], ◌∷◌, map, Option, Some, None, if◌then◌else◌, refl, sym, ap, ◌∙◌}
use Rattle.serna_kinds.specs.declared.cells.NodeName.{NodeName}
use Rattle.serna_kinds.specs.declared.cells.NodeRef.{NodeRef}
use Rattle.serna_kinds.specs.declared.cells.NodeRef.TheVariants as ref
use Rattle.serna_kinds.specs.declared.expressions.Axis.{Axis}
use Rattle.serna_kinds.specs.declared.expressions.NodeTest.{NodeTest}
use Rattle.serna_kinds.specs.declared.expressions.NodeTest.TheVariants as test
use Rattle.serna_kinds.specs.Names.{NameParts}
use Rattle.source_model.specs.Source.{Body, Source}
use Rattle.source_model.specs.Cells.{Spot, named}
use Rattle.source_model.specs.Paths.{node_thing}
use Rattle.source_model.specs.Axes.{axis_of, tested}
use Rattle.source_model.specs.Logged.{every}
use Rattle.source_model.proofs.Children.{IsGone}
use Rattle.xpath_axes.specs.Nodes.{label_of}
use Rattle.xpath_axes.specs.Taken.{taken, taken_at, taken_along}
use Rattle.xpath_axes.proofs.Ways.{took, took_one}
use Rattle.xpath_axes.proofs.Placed.{node_name, node_names, IsThere, AreThere}
use Rattle.xpath_axes.proofs.NodeAxes.{OnAxis, axis_gone}

taken_one : (table : List NameParts) (along : Axis) (t : NodeTest) (source : Source) (w : ℕ × Body) → IsThere source w → taken_at table along t source (node_name w) ≡ took_one (tested table along t) w
taken_one table along t source w there =
    ap (λ (o : Option Spot). elim o [ None ↦ [] | Some s ↦ taken table along t (node_name w) (Some (label_of s)) ]) there.1
    ∙ ap (λ (body : Body). if tested table along t (node_thing w.0 body) then ref.Node (node_name w) ∷ [] else []) there.2

pub taken_took : (table : List NameParts) (along : Axis) (t : NodeTest) (source : Source) (ws : List (ℕ × Body)) → AreThere source ws → taken_along table along t source (node_names ws) ≡ took (tested table along t) ws
taken_took table along t source [] there = refl
taken_took table along t source (w ∷ ws) there =
    let one = taken_one table along t source w there.0 in
    let more = taken_took table along t source ws there.1 in
    λ i. one i ++ more i

pub taken_on : (table : List NameParts) (along : Axis) (t : NodeTest) (source : Source) (n : ℕ) (nodes : List NodeName) → OnAxis along source n nodes →
    taken_along table along t source nodes ≡ axis_of table along t source (ref.Node (named n))
taken_on table along t source n nodes at =
    ap (taken_along table along t source) at.names_are ∙ taken_took table along t source at.listed at.there ∙ sym (at.axis_is table t)

pub took_all : (along : Axis) (ws : List (ℕ × Body)) → took (tested [] along test.AnyNode) ws ≡ map ref.Node (node_names ws)
took_all along [] = refl
took_all along (w ∷ ws) = ap (λ (l : List NodeRef). ref.Node (node_name w) ∷ l) (took_all along ws)

-- with no test, these are the nodes
pub every_on : (along : Axis) (source : Source) (n : ℕ) (nodes : List NodeName) → OnAxis along source n nodes → every along source (ref.Node (named n)) ≡ map ref.Node nodes
every_on along source n nodes at = at.axis_is [] test.AnyNode ∙ took_all along at.listed ∙ sym (ap (map ref.Node) at.names_are)

-- a node that is not there gives nothing
pub gone_self : (table : List NameParts) (along : Axis) (t : NodeTest) (source : Source) (n : ℕ) (more : List NodeName) → IsGone None n 0 source.tree → more ≡ [] →
    taken_along table along t source (named n ∷ more) ≡ axis_of table along t source (ref.Node (named n))
gone_self table along t source n more gone none =
    let first : taken_at table along t source (named n) ≡ [] = ap (λ (o : Option Spot). elim o [ None ↦ [] | Some s ↦ taken table along t (named n) (Some (label_of s)) ]) gone.spot_is in
    (λ i. first i ++ taken_along table along t source (none i)) ∙ sym (axis_gone table along t source n gone)
