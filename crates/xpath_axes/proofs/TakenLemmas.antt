-- What a node's label tells is what the definition takes, under every table that grows from the call's.
use Rattle.std.proofs.Common.{◌≡◌, ℕ, ◌+◌, ◌<◌, ◌++◌, Bool, List, [], ◌∷◌, take, length, get_or, Option, Some, None, if◌then◌else◌, refl, sym, ap, subst, ◌∙◌}
use Rattle.std.proofs.lemmas.Option.{none-some}
use Rattle.std.proofs.lemmas.List.{take_more, flat_map_more}
use Rattle.std.specs.Option.{option_map}
use Rattle.serna_kinds.specs.declared.cells.NameId.{NameId}
use Rattle.serna_kinds.specs.declared.cells.NodeName.{NodeName}
use Rattle.serna_kinds.specs.declared.cells.NodeRef.{NodeRef}
use Rattle.serna_kinds.specs.declared.cells.NodeRef.TheVariants as ref
use Rattle.serna_kinds.specs.declared.cells.Kind.{Kind}
use Rattle.serna_kinds.specs.declared.cells.Cell.{Cell}
use Rattle.serna_kinds.specs.declared.cells.Facet.TheVariants as facet
use Rattle.serna_kinds.specs.declared.expressions.Axis.{Axis}
use Rattle.serna_kinds.specs.declared.expressions.NodeTest.{NodeTest}
use Rattle.serna_kinds.specs.Content.{Content}
use Rattle.serna_kinds.specs.Names.{NameParts}
use Rattle.serna_kinds.specs.Tape.{Agrees, SeenBefore}
use Rattle.source_model.specs.Source.{Source}
use Rattle.source_model.specs.Cells.{Spot, spot_of, cell_of, name_of}
use Rattle.source_model.specs.Axes.{takes, HasTest}
use Rattle.source_model.specs.Named.{HasName}
use Rattle.source_model.specs.Sees.{Sees}
use Rattle.source_model.proofs.Below.{name_known}
use Rattle.xpath_axes.specs.Allowed.{MayRead}
use Rattle.xpath_axes.specs.Nodes.{label_of}
use Rattle.xpath_axes.specs.Taken.{taken, taken_at, taken_along}
use Rattle.xpath_axes.proofs.TestLemmas.{takes-grown}

label_known : (names : List NameParts) (o : Option Spot) (kind : Kind) (name : Option NameId) → Some (kind, name) ≡ option_map label_of o →
    ((spot : Spot) → o ≡ Some spot → HasName names (name_of spot.body)) → HasName names name
label_known names None kind name e known = absurd (none-some (kind, name) (sym e))
label_known names (Some spot) kind name e known = subst (HasName names) (ap (λ (p : Option (Kind × Option NameId)). elim p [ None ↦ name | Some q ↦ q.1 ]) (sym e)) (known spot refl)

taken_label : (table : List NameParts) (along : Axis) (t : NodeTest) (n : NodeName) (o : Option Spot) (label : Option (Kind × Option NameId)) → label ≡ option_map label_of o →
    elim o [ None ↦ [] | Some spot ↦ taken table along t n (Some (label_of spot)) ] ≡ taken table along t n label
taken_label table along t n None label e = ap (taken table along t n) (sym e)
taken_label table along t n (Some spot) label e = ap (taken table along t n) (sym e)

pub taken_one : (names : List NameParts) (log : List Cell) (view : Cell → Option Content) (table : List NameParts) (source : Source) (along : Axis) (t : NodeTest) (n : NodeName) (kind : Kind) (name : Option NameId) (b : Bool) →
    Sees names log view table source → HasTest names t → ((s : Source) → Agrees log view (cell_of s) → Some (kind, name) ≡ option_map label_of (spot_of s n.0)) →
    b ≡ takes names along t (Some kind) name → taken_at table along t source n ≡ (if b then ref.Node n ∷ [] else [])
taken_one names log view table source along t n kind name b sees has label is =
    taken_label table along t n (spot_of source n.0) (Some (kind, name)) (label source sees.agrees)
    ∙ ap (λ (c : Bool). if c then ref.Node n ∷ [] else [])
    (takes-grown names table along t (Some kind) name sees.grows has
    (label_known names (spot_of sees.home n.0) kind name (label sees.home sees.home_agrees) (λ spot e. name_known names sees.home n.0 spot sees.home_proper e))
    ∙ sym is)

pub taken_none : (table : List NameParts) (along : Axis) (t : NodeTest) (source : Source) (n : NodeName) → None ≡ option_map label_of (spot_of source n.0) → taken_at table along t source n ≡ []
taken_none table along t source n is = taken_label table along t n (spot_of source n.0) None is

-- what sees a later log sees an earlier one
pub sees_earlier : (names : List NameParts) (old new : List Cell) (view : Cell → Option Content) (table : List NameParts) (source : Source) → SeenBefore old new view → Sees names new view table source → Sees names old view table source
sees_earlier names old new view table source before sees = record {
  grows = sees.grows;
  proper = sees.proper;
  agrees = before (cell_of source) sees.agrees;
  home = sees.home;
  home_proper = sees.home_proper;
  home_agrees = before (cell_of sees.home) sees.home_agrees;
}

-- one node more
pub taken_more : (table : List NameParts) (along : Axis) (t : NodeTest) (source : Source) (nodes : List NodeName) (i : ℕ) (d : NodeName) (old : List NodeRef) → i < length nodes →
    (old ++ taken_along table along t source (take i nodes)) ++ taken_at table along t source (get_or nodes i d) ≡ old ++ taken_along table along t source (take (i + 1) nodes)
taken_more table along t source nodes i d old less =
    flat_map_more (taken_at table along t source) old (take i nodes) (get_or nodes i d) ∙ sym (ap (λ (l : List NodeName). old ++ taken_along table along t source l) (take_more nodes i d less))

-- what was added to nothing
pub found_nodes : (start out nodes : List NodeName) → start ≡ [] → out ≡ start ++ nodes → out ≡ nodes
found_nodes start out nodes none is = is ∙ ap (λ (l : List NodeName). l ++ nodes) none

pub nodes_may : (allowed : Cell → Bool) (slice out nodes : List NodeName) → slice ≡ out → out ≡ nodes → MayRead allowed facet.Label nodes → MayRead allowed facet.Label slice
nodes_may allowed slice out nodes one other may = subst (MayRead allowed facet.Label) (sym (one ∙ other)) may
