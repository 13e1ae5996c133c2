-- The instance of a request, by what its node is.
use Rattle.std.proofs.Common.{◌≡◌, ℕ, suc, List, [], ◌&&◌, Bool, true, false, Option, Some, None, IsSome, slice_get, if◌then◌else◌, refl, sym, ap, ◌∙◌, subst}
use Rattle.std.specs.List.{flat_map, list_all}
use Rattle.serna_kinds.specs.declared.cells.Cell.{Cell}
use Rattle.serna_kinds.specs.declared.cells.Kind.{Kind}
use Rattle.serna_kinds.specs.declared.cells.NameId.{NameId}
use Rattle.serna_kinds.specs.declared.cells.NodeName.{NodeName}
use Rattle.serna_kinds.specs.declared.cells.NodeRef.{NodeRef}
use Rattle.serna_kinds.specs.declared.cells.NodeRef.TheVariants as ref
use Rattle.serna_kinds.specs.Content.{Content}
use Rattle.serna_kinds.specs.Names.{NameParts, are_same}
use Rattle.serna_kinds.specs.Tape.{Agrees, Within}
use Rattle.source_model.specs.Source.{Body, Root, Element, Text, Comment, Source}
use Rattle.source_model.specs.Cells.{Spot, spot_of, kind_of, name_of, cell_of}
use Rattle.source_model.specs.Proper.{IsProper}
use Rattle.source_model.specs.Sees.{Sees}
use Rattle.style_sheet.specs.declared.style.Pattern.{Pattern}
use Rattle.style_sheet.specs.declared.style.Pattern.TheVariants as pattern
use Rattle.style_sheet.specs.declared.style.Rule.{Rule}
use Rattle.style_sheet.specs.declared.style.Choice.{Choice}
use Rattle.style_sheet.specs.Sheet.{StyleValue}
use Rattle.instance_store.specs.declared.request.Request.{Request}
use Rattle.instance_store.specs.declared.request.Place.{Place}
use Rattle.xpath_values.specs.declared.value.Binding.{Binding}
use Rattle.template_choice.specs.Chosen.{chosen}
use Rattle.template_run.specs.Nodes.{label_of, is_here}
use Rattle.template_run.specs.Matching.{is_for, has_match, fits}
use Rattle.template_run.specs.Labels.{is_named, is_for_label, has_match as has_label_match, fits_label, IsLabelOf, IsFound, KeepsNames}
use Rattle.template_run.specs.Instances.{choice_parts}
use Rattle.template_run.specs.Batch.{passed_nodes, is_live, answer_parts, frag}
use Rattle.template_run.specs.Allowed.{presence_cells, MayRead}
use Rattle.template_run.proofs.Known.{HasName, name_known}

abbrev Label : Type 0
Label = Option (Kind × Option NameId)

-- the cells of what is passed
pub reads_passed : (allowed : Cell → Bool) (request : Request) (passed : List Binding) → passed ≡ request.passed → MayRead allowed request →
    Within allowed (flat_map presence_cells (passed_nodes passed))
reads_passed allowed request passed is may = subst (λ (ps : List Binding). Within allowed (flat_map presence_cells (passed_nodes ps))) (sym is) may.1

-- what a pattern asks of a node is told by what it is
for_label : (names : List NameParts) (p : Pattern) (spot : Spot) → is_for names p spot.body ≡ is_for_label names p (Some (label_of spot))
for_label names p spot = by_body p spot.body
  where
    by_body : (p : Pattern) (body : Body) → is_for names p body ≡ is_for_label names p (Some (kind_of body, name_of body))
    by_body pattern.Root Root = refl
    by_body pattern.Root (Element name attributes) = refl
    by_body pattern.Root (Text text) = refl
    by_body pattern.Root (Comment text) = refl
    by_body (pattern.Named id) Root = refl
    by_body (pattern.Named id) (Element name attributes) = refl
    by_body (pattern.Named id) (Text text) = refl
    by_body (pattern.Named id) (Comment text) = refl

named_same : (names table : List NameParts) (id : NameId) (name : Option NameId) → HasName names name →
    ((other : NameId) → IsSome (slice_get names other.0) → are_same table id other ≡ are_same names id other) → is_named table id name ≡ is_named names id name
named_same names table id None known same = refl
named_same names table id (Some name) known same = same name known

match_same : (names table : List NameParts) (style : StyleValue) (source : Source) (n : NodeName) (spot : Spot) (number : ℕ) (rule : Rule) → spot_of source n.0 ≡ Some spot →
    slice_get style.rules number ≡ Some rule → KeepsNames names table style → HasName names (name_of spot.body) → (p : Option Pattern) → rule.pattern ≡ p →
    has_match table source (ref.Node n) p ≡ has_label_match names (Some (label_of spot)) p
match_same names table style source n spot number rule at there keeps known None is = refl
match_same names table style source n spot number rule at there keeps known (Some pattern.Root) is =
    ap (λ (found : Option Spot). elim found as (λ _. Bool) [ None ↦ false | Some s ↦ is_for table pattern.Root s.body ]) at ∙ for_label table pattern.Root spot
match_same names table style source n spot number rule at there keeps known (Some (pattern.Named id)) is =
    ap (λ (found : Option Spot). elim found as (λ _. Bool) [ None ↦ false | Some s ↦ is_for table (pattern.Named id) s.body ]) at
    ∙ for_label table (pattern.Named id) spot
    ∙ named_same names table id (name_of spot.body) known (λ other has. keeps number rule id other there is has)

no_match : (names table : List NameParts) (source : Source) (n : NodeName) (name : NameId) (p : Option Pattern) →
    has_match table source (ref.Attr n name) p ≡ has_label_match names None p
no_match names table source n name None = refl
no_match names table source n name (Some pattern.Root) = refl
no_match names table source n name (Some (pattern.Named id)) = refl

-- whether a rule matches a node of a source under a later table is told by what the node is
node_fits : (names table : List NameParts) (style : StyleValue) (source : Source) (n : NodeName) (spot : Spot) (number : ℕ) (found : Option Rule) → slice_get style.rules number ≡ found →
    spot_of source n.0 ≡ Some spot → KeepsNames names table style → HasName names (name_of spot.body) →
    (elim found as (λ _. Bool) [ None ↦ false | Some rule ↦ has_match table source (ref.Node n) rule.pattern ])
    ≡ (elim found as (λ _. Bool) [ None ↦ false | Some rule ↦ has_label_match names (Some (label_of spot)) rule.pattern ])
node_fits names table style source n spot number None there at keeps known = refl
node_fits names table style source n spot number (Some rule) there at keeps known = match_same names table style source n spot number rule at there keeps known rule.pattern refl

attribute_fits : (names table : List NameParts) (source : Source) (n : NodeName) (name : NameId) (found : Option Rule) →
    (elim found as (λ _. Bool) [ None ↦ false | Some rule ↦ has_match table source (ref.Attr n name) rule.pattern ])
    ≡ (elim found as (λ _. Bool) [ None ↦ false | Some rule ↦ has_label_match names None rule.pattern ])
attribute_fits names table source n name None = refl
attribute_fits names table source n name (Some rule) = no_match names table source n name rule.pattern

-- the label of a node of a proper source has a known name
label_known : (names : List NameParts) (home : Source) (n : NodeName) (label : Label) → IsProper names home → IsLabelOf home (ref.Node n) label →
    (spot : Spot) → label ≡ Some (label_of spot) → HasName names (name_of spot.body)
label_known names home n label proper is spot e =
    subst (HasName names) (same_names (label_of is.0) (label_of spot) (sym is.2 ∙ e)) (name_known names home n.0 is.0 proper is.1)
  where
    same_names : (a b : Kind × Option NameId) → Some a ≡ Some b → a.1 ≡ b.1
    same_names a b e = cc

fits_same : (names table : List NameParts) (style : StyleValue) (source home : Source) (node : NodeRef) (label : Label) → IsProper names home → KeepsNames names table style →
    IsLabelOf source node label → IsLabelOf home node label → (number : ℕ) → fits table style source number node ≡ fits_label names style label number
fits_same names table style source home (ref.Node n) label proper keeps here there number =
    node_fits names table style source n here.0 number (slice_get style.rules number) refl here.1 keeps (label_known names home n label proper there here.0 here.2)
    ∙ sym (ap (λ (l : Label). fits_label names style l number) here.2)
fits_same names table style source home (ref.Attr n name) label proper keeps here there number =
    attribute_fits names table source n name (slice_get style.rules number) ∙ sym (ap (λ (l : Label). fits_label names style l number) here)

-- The instance

pub is_answer : (names table : List NameParts) (log : List Cell) (view : Cell → Option Content) (style : StyleValue) (source : Source) (request : Request) (other : Place) (label : Label)
    (choice : Choice) (passed : List Binding) (left : ℕ) → Sees names log view table source → KeepsNames names table style →
    ((s : Source) → Agrees log view (cell_of s) → IsFound s request.node (Some label)) → choice ≡ chosen style (fits_label names style label) request → passed ≡ request.passed →
    list_all (is_here source) (passed_nodes passed) ≡ true → choice_parts table style choice request other source ≡ frag table style (suc left) request other source
is_answer names table log view style source request other label choice passed left sees keeps found is are here =
    let same : (number : ℕ) → fits table style source number request.node ≡ fits_label names style label number =
    fits_same names table style source sees.home request.node label sees.home_proper keeps (found source sees.agrees).1 (found sees.home sees.home_agrees).1 in
    let live : is_live source request ≡ true =
    ap (λ b. b && list_all (is_here source) (passed_nodes request.passed)) (found source sees.agrees).0
    ∙ ap (λ (ps : List Binding). list_all (is_here source) (passed_nodes ps)) (sym are) ∙ here in
    ap (λ ch. choice_parts table style ch request other source) (is ∙ ap (λ f. chosen style f request) (λ i number. sym (same number) i))
    ∙ sym (ap (λ b. if b then answer_parts table style request other source else []) live)
