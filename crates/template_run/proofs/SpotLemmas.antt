-- What a node gives, by what it is.
use Rattle.std.proofs.Common.{◌≡◌, ◌⊎◌, inl, inr, List, [], ◌∷◌, Option, Some, None, length, refl, sym, ap, ◌∙◌, arith}
use Rattle.std.specs.Option.{option_map}
use Rattle.serna_kinds.specs.declared.cells.NodeName.{NodeName}
use Rattle.serna_kinds.specs.declared.cells.NameId.{NameId}
use Rattle.serna_kinds.specs.declared.cells.NodeRef.TheVariants as ref
use Rattle.serna_kinds.specs.declared.cells.Kind.{Kind}
use Rattle.serna_kinds.specs.declared.cells.Kind.TheVariants as kind
use Rattle.source_model.specs.Source.{Body, Root, Element, Text, Comment, Forest, none, node, Source}
use Rattle.source_model.specs.Cells.{Spot, spot_of, kind_of}
use Rattle.result_origin.specs.declared.origin.Origin.TheVariants as origin
use Rattle.result_origin.specs.Parts.{ResultPart, Says, Run}
use Rattle.instance_store.specs.declared.request.Asked.{Asked}
use Rattle.template_run.specs.Requests.{applied_to}
use Rattle.template_run.specs.Labels.{IsLabelIfKnown}
use Rattle.template_run.specs.Nodes.{label_of, children_in, characters_in}
use Rattle.template_run.specs.Instances.{children_parts, applied_in, built_in_parts, built_in_of}

-- what templates give that are applied to all children, but where there are none in an element
pub kids_parts : (mode : Option NameId) (n : NodeName) (body : Body) (kids : Forest) → (kind_of body ≡ kind.Element → length (children_in body kids) ≡ 0 → ⊥) →
    applied_to mode (children_in body kids) ≡ children_parts mode n body kids
kids_parts mode n Root kids some = refl
kids_parts mode n (Element name attributes) none some = absurd (some refl refl)
kids_parts mode n (Element name attributes) (node k body below rest) some = refl
kids_parts mode n (Text text) kids some = refl
kids_parts mode n (Comment text) kids some = refl

-- and what they give there
pub into_parts : (mode : Option NameId) (n : NodeName) (body : Body) (kids : Forest) → kind_of body ≡ kind.Element → length (children_in body kids) ≡ 0 →
    Says (Run [] (origin.Into n)) ∷ [] ≡ children_parts mode n body kids
into_parts mode n Root kids is childless = cc
into_parts mode n (Element name attributes) none is childless = refl
into_parts mode n (Element name attributes) (node k body below rest) is childless = absurd (omega (arith, childless))
into_parts mode n (Text text) kids is childless = cc
into_parts mode n (Comment text) kids is childless = cc

-- the built-in rules apply templates to the children of the document node and of elements
pub parent_parts : (mode : Option NameId) (n : NodeName) (spot : Spot) (k : Kind) (body : Body) → (k ≡ kind.Root) ⊎ (k ≡ kind.Element) → kind_of body ≡ k →
    children_parts mode n spot.body spot.kids ≡ built_in_parts mode n spot body
parent_parts mode n spot k Root parent is = refl
parent_parts mode n spot k (Element name attributes) parent is = refl
parent_parts mode n spot k (Text text) (inl parent) is = cc
parent_parts mode n spot k (Text text) (inr parent) is = cc
parent_parts mode n spot k (Comment text) (inl parent) is = cc
parent_parts mode n spot k (Comment text) (inr parent) is = cc

pub text_parts : (mode : Option NameId) (n : NodeName) (spot : Spot) (body : Body) → kind_of body ≡ kind.Text →
    Says (Run (characters_in body) (origin.Text n 0)) ∷ [] ≡ built_in_parts mode n spot body
text_parts mode n spot Root is = cc
text_parts mode n spot (Element name attributes) is = cc
text_parts mode n spot (Text text) is = refl
text_parts mode n spot (Comment text) is = cc

-- where a node has a label, it stands somewhere

same_label : (a b : Kind × Option NameId) → Some a ≡ Some b → a ≡ b
same_label a b e = cc

pub spot_there : (found : Option Spot) (label : Kind × Option NameId) → Some label ≡ option_map label_of found →
    (spot : Spot) × (found ≡ Some spot) × (label_of spot ≡ label)
spot_there None label e = cc
spot_there (Some spot) label e = (spot, refl, sym (same_label label (label_of spot) e))

pub nothing_there : (found : Option Spot) → None ≡ option_map label_of found → found ≡ None
nothing_there None e = refl
nothing_there (Some spot) e = cc

-- and the label of a node that stands somewhere is that of what stands there
pub label_there : (source : Source) (n : NodeName) (known : Option (Option (Kind × Option NameId))) (label : Option (Kind × Option NameId)) → known ≡ Some label →
    IsLabelIfKnown source (ref.Node n) known → label ≡ option_map label_of (spot_of source n.0)
label_there source n None label is knows = cc
label_there source n (Some other) label is knows = same is ∙ knows.2 ∙ sym (ap (option_map label_of) knows.1)
  where
    same : Some other ≡ Some label → label ≡ other
    same e = cc

pub applied_at : (source : Source) (mode : Option NameId) (n : NodeName) (spot : Spot) → spot_of source n.0 ≡ Some spot → children_parts mode n spot.body spot.kids ≡ applied_in source mode (ref.Node n)
applied_at source mode n spot at =
    sym (ap (λ (found : Option Spot). elim found as (λ _. List (ResultPart Asked)) [ None ↦ [] | Some s ↦ children_parts mode n s.body s.kids ]) at)

pub built_in_at : (source : Source) (mode : Option NameId) (n : NodeName) (spot : Spot) → spot_of source n.0 ≡ Some spot → built_in_parts mode n spot spot.body ≡ built_in_of source mode (ref.Node n)
built_in_at source mode n spot at =
    sym (ap (λ (found : Option Spot). elim found as (λ _. List (ResultPart Asked)) [ None ↦ [] | Some s ↦ built_in_parts mode n s s.body ]) at)
