-- Where the texts of a result come from: each run is the text of a text node, or the empty one into an element without children, or none
-- of the source's.
use Rattle.std.proofs.Common.{◌≡◌, ℕ, zero, suc, ◌+◌, List, [], ◌∷◌, ◌++◌, map, filter, Bool, true, false, if◌then◌else◌, Option, Some, None, refl, sym, ap, ◌∙◌, subst}
use Rattle.std.specs.List.{flat_map, onto_first, AllByRecursion}
use Rattle.std.specs.Option.{option_map, option_and_then}
use Rattle.serna_kinds.specs.Names.{NameParts}
use Rattle.serna_kinds.specs.declared.cells.AttrPair.{AttrPair}
use Rattle.serna_kinds.specs.declared.cells.NameId.{NameId}
use Rattle.serna_kinds.specs.declared.cells.NodeName.{NodeName}
use Rattle.serna_kinds.specs.declared.cells.NodeRef.{NodeRef}
use Rattle.serna_kinds.specs.declared.cells.NodeRef.TheVariants as node_ref
use Rattle.source_model.specs.Source.{Body, Forest, Source, numbers}
use Rattle.source_model.specs.Source as source
use Rattle.source_model.specs.Cells.{Spot, spot_of, named}
use Rattle.source_model.specs.Changes.{characters, text_at}
use Rattle.source_model.specs.Proper.{BeginsNoText}
use Rattle.source_primitives.specs.declared.primitive.CaretPlace.TheVariants as place
use Rattle.source_primitives.specs.Primitives.{IsElement}
use Rattle.source_primitives.specs.Places.{IsPlaceOf}
use Rattle.result_origin.specs.declared.origin.Origin.{Origin}
use Rattle.result_origin.specs.declared.origin.Origin.TheVariants as origin
use Rattle.result_origin.specs.Parts.{Mark, Run, Begin, Attr, AttrEnd, Finish, ResultPart, Says, Hole, filled}
use Rattle.style_sheet.specs.declared.style.Choice.{Choice}
use Rattle.style_sheet.specs.declared.style.Choice.TheVariants as choice
use Rattle.style_sheet.specs.Instructions.{Instructions}
use Rattle.style_sheet.specs.Instructions as instruction
use Rattle.style_sheet.specs.Sheet.{StyleValue}
use Rattle.instance_store.specs.declared.request.Request.{Request}
use Rattle.instance_store.specs.declared.request.Place.{Place}
use Rattle.instance_store.specs.declared.request.Asked.{Asked}
use Rattle.instance_store.specs.Requests.{place_at}
use Rattle.template_choice.specs.Chosen.{chosen}
use Rattle.template_run.specs.Requests.{holes_for, root_request}
use Rattle.template_run.specs.Nodes.{value_of}
use Rattle.template_run.specs.Matching.{fits}
use Rattle.template_run.specs.Instances.{Context, context_of, fixed_text, attribute_parts, element_parts, children_parts, applied_in, joined, body_parts, or_fault, built_in_parts, value_parts, built_in_of, body_at, rule_parts, choice_parts}
use Rattle.template_run.specs.Batch.{is_live, answer_parts, frag, whole, batch}
use Rattle.simple_pages.specs.Groups.{ShownRun, groups_in, runs_in, is_line, up_to_end, within_first, lines_in}

pub all_both : {A : Type 0} (P : A → Type 0) (xs ys : List A) → AllByRecursion P xs → AllByRecursion P ys → AllByRecursion P (xs ++ ys)
all_both P [] ys f g = g
all_both P (x ∷ xs) ys f g = (f.0, all_both P xs ys f.1 g)

kept : {A : Type 0} (P : A → Type 0) (test : A → Bool) (x : A) (xs : List A) (b : Bool) → P x → AllByRecursion P (filter test xs) → AllByRecursion P (if b then x ∷ filter test xs else filter test xs)
kept P test x xs true p all = (p, all)
kept P test x xs false p all = all

pub all_filter : {A : Type 0} (P : A → Type 0) (test : A → Bool) (xs : List A) → AllByRecursion P xs → AllByRecursion P (filter test xs)
all_filter P test [] all = tt
all_filter P test (x ∷ xs) all = kept P test x xs (test x) all.0 (all_filter P test xs all.1)

-- the run of a text; one of an attribute's value shows it from its start
abbrev pub IsFrom : Source → List ℕ → Origin → Type 0
IsFrom s text (origin.Text n at) = (at ≡ 0) × (text_at s n.0 ≡ Some text)
IsFrom s text (origin.Attr n name at) = at ≡ 0
IsFrom s text (origin.Into n) = (text ≡ []) × IsPlaceOf s (place.Into n)
IsFrom s text (origin.Fixed rule) = Unit {0}
IsFrom s text (origin.Computed rule n) = Unit {0}

abbrev IsFromMark : Source → Mark → Type 0
IsFromMark s (Run text origin) = IsFrom s text origin
IsFromMark s (Begin name rule) = Unit {0}
IsFromMark s (Attr name) = Unit {0}
IsFromMark s AttrEnd = Unit {0}
IsFromMark s Finish = Unit {0}

abbrev pub AreFrom : Source → List Mark → Type 0
AreFrom s marks = AllByRecursion (IsFromMark s) marks

abbrev IsFromPart : Source → ResultPart Asked → Type 0
IsFromPart s (Says mark) = IsFromMark s mark
IsFromPart s (Hole asked) = Unit {0}

abbrev ArePartsFrom : Source → List (ResultPart Asked) → Type 0
ArePartsFrom s parts = AllByRecursion (IsFromPart s) parts

filled_from : (s : Source) (fill : Asked → List Mark) → ((asked : Asked) → AreFrom s (fill asked)) →
    (parts : List (ResultPart Asked)) → ArePartsFrom s parts → AreFrom s (filled fill parts)
filled_from s fill each [] all = tt
filled_from s fill each (Says mark ∷ parts) all = (all.0, filled_from s fill each parts all.1)
filled_from s fill each (Hole asked ∷ parts) all =
    all_both (IsFromMark s) (fill asked) (filled fill parts) (each asked) (filled_from s fill each parts all.1)

-- the parts of an instance
holes_from : (s : Source) (mode : Option NameId) (position size : ℕ) (ns : List NodeName) → ArePartsFrom s (holes_for mode position size ns)
holes_from s mode position size [] = tt
holes_from s mode position size (n ∷ ns) = (tt, holes_from s mode (position + 1) size ns)

fixed_from : (s : Source) (rule : ℕ) (text : List ℕ) → ArePartsFrom s (fixed_text rule text)
fixed_from s rule [] = tt
fixed_from s rule (c ∷ cs) = (tt, tt)

children_from : (s : Source) (mode : Option NameId) (n : NodeName) (spot : Spot) (body : Body) (kids : Forest) →
    spot_of s n.0 ≡ Some spot → spot.body ≡ body → spot.kids ≡ kids →
    ArePartsFrom s (children_parts mode n body kids)
children_from s mode n spot source.Root kids found e f = holes_from s mode 1 _ (map named (numbers kids))
children_from s mode n spot (source.Element name attributes) source.none found e f =
    ((refl, (spot, found, subst IsElement (sym e) tt, subst BeginsNoText (sym f) tt)), tt)
children_from s mode n spot (source.Element name attributes) (source.node k body below rest) found e f =
    holes_from s mode 1 _ (map named (numbers (source.node k body below rest)))
children_from s mode n spot (source.Text t) kids found e f = tt
children_from s mode n spot (source.Comment t) kids found e f = tt

spot_children_from : (s : Source) (mode : Option NameId) (n : NodeName) (spot : Option Spot) → spot_of s n.0 ≡ spot →
    ArePartsFrom s (elim spot [ None ↦ [] | Some here ↦ children_parts mode n here.body here.kids ])
spot_children_from s mode n None found = tt
spot_children_from s mode n (Some spot) found = children_from s mode n spot spot.body spot.kids found refl refl

applied_from : (s : Source) (mode : Option NameId) (node : NodeRef) → ArePartsFrom s (applied_in s mode node)
applied_from s mode (node_ref.Node n) = spot_children_from s mode n (spot_of s n.0) refl
applied_from s mode (node_ref.Attr n name) = tt

attributes_from : (s : Source) (rule : ℕ) (pairs : List AttrPair) → ArePartsFrom s (flat_map (attribute_parts rule) pairs)
attributes_from s rule [] = tt
attributes_from s rule (pair ∷ pairs) =
    let one : ArePartsFrom s (attribute_parts rule pair) =
    (tt, all_both (IsFromPart s) (fixed_text rule pair.value) (Says AttrEnd ∷ []) (fixed_from s rule pair.value) (tt, tt)) in
    all_both (IsFromPart s) (attribute_parts rule pair) (flat_map (attribute_parts rule) pairs) one (attributes_from s rule pairs)

-- what instructions give, if none has a type fault
abbrev ArePiecesFrom : Source → Option (List (ResultPart Asked)) → Type 0
ArePiecesFrom s None = Unit {0}
ArePiecesFrom s (Some parts) = ArePartsFrom s parts

pieces_from : (s : Source) (a b : Option (List (ResultPart Asked))) → ArePiecesFrom s a → ArePiecesFrom s b → ArePiecesFrom s (joined a b)
pieces_from s None b f g = tt
pieces_from s (Some parts) None f g = tt
pieces_from s (Some parts) (Some more) f g = all_both (IsFromPart s) parts more f g

element_from : (s : Source) (rule : ℕ) (name : NameId) (attributes : List AttrPair) (content : Option (List (ResultPart Asked))) →
    ArePiecesFrom s content →
    ArePiecesFrom s (option_map (element_parts rule name attributes) content)
element_from s rule name attributes None all = tt
element_from s rule name attributes (Some content) all = (
  tt,
  all_both (IsFromPart s) (flat_map (attribute_parts rule) attributes) (content ++ Says Finish ∷ []) (attributes_from s rule attributes)
      (all_both (IsFromPart s) content (Says Finish ∷ []) all (tt, tt)),
)

body_from : (names : List NameParts) (s : Source) (rule : ℕ) (context : Context) (body : Instructions) →
    ArePiecesFrom s (body_parts names s rule context body)
body_from names s rule context instruction.nothing = tt
body_from names s rule context (instruction.text t more) =
    pieces_from s (Some (fixed_text rule t)) (body_parts names s rule context more) (fixed_from s rule t)
    (body_from names s rule context more)
body_from names s rule context (instruction.element name attributes content more) =
    pieces_from s (option_map (element_parts rule name attributes) (body_parts names s rule context content))
    (body_parts names s rule context more)
    (element_from s rule name attributes (body_parts names s rule context content) (body_from names s rule context content))
    (body_from names s rule context more)
body_from names s rule context (instruction.apply_templates more) =
    pieces_from s (Some (applied_in s None context.current)) (body_parts names s rule context more) (applied_from s None context.current)
    (body_from names s rule context more)

fault_from : (s : Source) (rule : ℕ) (pieces : Option (List (ResultPart Asked))) → ArePiecesFrom s pieces →
    ArePartsFrom s (or_fault rule pieces)
fault_from s rule None all = (tt, tt)
fault_from s rule (Some parts) all = all

built_in_from : (s : Source) (mode : Option NameId) (n : NodeName) (spot : Spot) (body : Body) → spot_of s n.0 ≡ Some spot →
    spot.body ≡ body → ArePartsFrom s (built_in_parts mode n spot body)
built_in_from s mode n spot source.Root found e = children_from s mode n spot spot.body spot.kids found refl refl
built_in_from s mode n spot (source.Element name attributes) found e = children_from s mode n spot spot.body spot.kids found refl refl
built_in_from s mode n spot (source.Text t) found e =
    ((refl, ap (option_and_then (λ (p : Spot). characters p.body)) found ∙ ap characters e), tt)
built_in_from s mode n spot (source.Comment t) found e = tt

spot_built_in_from : (s : Source) (mode : Option NameId) (n : NodeName) (spot : Option Spot) → spot_of s n.0 ≡ spot →
    ArePartsFrom s (elim spot [ None ↦ [] | Some here ↦ built_in_parts mode n here here.body ])
spot_built_in_from s mode n None found = tt
spot_built_in_from s mode n (Some spot) found = built_in_from s mode n spot spot.body found refl

value_from : (s : Source) (n : NodeName) (name : NameId) (value : Option (List ℕ)) → ArePartsFrom s (value_parts n name value)
value_from s n name None = tt
value_from s n name (Some []) = tt
value_from s n name (Some (c ∷ cs)) = (refl, tt)

node_from : (s : Source) (mode : Option NameId) (node : NodeRef) → ArePartsFrom s (built_in_of s mode node)
node_from s mode (node_ref.Node n) = spot_built_in_from s mode n (spot_of s n.0) refl
node_from s mode (node_ref.Attr n name) = value_from s n name (value_of s n name)

rule_from : (names : List NameParts) (s : Source) (number : ℕ) (request : Request) (place : Place) (body : Option Instructions) →
    ArePartsFrom s (rule_parts names s number request place body)
rule_from names s number request place None = tt
rule_from names s number request place (Some body) =
    fault_from s number (body_parts names s number (context_of number request place) body)
    (body_from names s number (context_of number request place) body)

choice_from : (names : List NameParts) (style : StyleValue) (s : Source) (request : Request) (place : Place) (made : Choice) →
    ArePartsFrom s (choice_parts names style made request place s)
choice_from names style s request place (choice.Rule number) = rule_from names s number request place (body_at style number)
choice_from names style s request place choice.BuiltIn = node_from s request.mode request.node

live_from : (s : Source) (b : Bool) (parts : List (ResultPart Asked)) → ArePartsFrom s parts → ArePartsFrom s (if b then parts else [])
live_from s true parts all = all
live_from s false parts all = tt

frag_from : (names : List NameParts) (style : StyleValue) (left : ℕ) (s : Source) (request : Request) (place : Place) →
    ArePartsFrom s (frag names style left request place s)
frag_from names style zero s request place = (tt, tt)
frag_from names style (suc left) s request place =
    live_from s (is_live s request) (answer_parts names style request place s)
    (choice_from names style s request place (chosen style (λ number. fits names style s number request.node) request))

whole_from : (names : List NameParts) (style : StyleValue) (left : ℕ) (s : Source) (request : Request) (place : Place) →
    AreFrom s (whole names style left request place s)
unfolding whole
whole_from names style zero s request place =
    filled_from s (λ (asked : Asked). []) (λ asked. tt) (frag names style zero request place s)
    (frag_from names style zero s request place)
whole_from names style (suc left) s request place =
    filled_from s (λ (asked : Asked). whole names style left asked.request asked.place s)
    (λ asked. whole_from names style left s asked.request asked.place)
    (frag names style (suc left) request place s) (frag_from names style (suc left) s request place)

pub batch_from : (names : List NameParts) (style : StyleValue) (s : Source) → AreFrom s (batch names style s)
unfolding batch
batch_from names style s = whole_from names style 200 s root_request (place_at 1 1)

-- the groups of a result
abbrev IsFromRun : Source → ShownRun → Type 0
IsFromRun s run = IsFrom s run.text run.origin

abbrev pub AreRunsFrom : Source → List ShownRun → Type 0
AreRunsFrom s runs = AllByRecursion (IsFromRun s) runs

abbrev pub AreGroupsFrom : Source → List (List ShownRun) → Type 0
AreGroupsFrom s groups = AllByRecursion (AreRunsFrom s) groups

onto_from : (s : Source) (run : ShownRun) (groups : List (List ShownRun)) → IsFrom s run.text run.origin → AreGroupsFrom s groups → AreGroupsFrom s (onto_first run groups)
onto_from s run [] is all = ((is, tt), tt)
onto_from s run (group ∷ groups) is all = ((is, all.0), all.1)

groups_from : (s : Source) (n : ℕ) (marks : List Mark) → AreFrom s marks → AreGroupsFrom s (groups_in n marks)
groups_from s n [] all = (tt, tt)
groups_from s zero (Run text from ∷ marks) all = onto_from s (record { text = text; origin = from }) (groups_in zero marks) all.0 (groups_from s zero marks all.1)
groups_from s (suc n) (Run text from ∷ marks) all = groups_from s (suc n) marks all.1
groups_from s n (Begin name rule ∷ marks) all = (tt, groups_from s n marks all.1)
groups_from s n (Attr name ∷ marks) all = (tt, groups_from s (suc n) marks all.1)
groups_from s zero (AttrEnd ∷ marks) all = (tt, groups_from s zero marks all.1)
groups_from s (suc n) (AttrEnd ∷ marks) all = (tt, groups_from s n marks all.1)
groups_from s n (Finish ∷ marks) all = (tt, groups_from s n marks all.1)

joined_from : (s : Source) (groups : List (List ShownRun)) → AreGroupsFrom s groups → AreRunsFrom s (flat_map (λ (group : List ShownRun). group) groups)
joined_from s [] all = tt
joined_from s (group ∷ groups) all = all_both (IsFromRun s) group (flat_map (λ (group : List ShownRun). group) groups) all.0 (joined_from s groups all.1)

pub runs_from : (s : Source) (marks : List Mark) → AreFrom s marks → AreRunsFrom s (runs_in marks)
runs_from s marks all = joined_from s (groups_in 0 marks) (groups_from s 0 marks all)

up_to_end_from : (s : Source) (n : ℕ) (marks : List Mark) → AreFrom s marks → AreFrom s (up_to_end n marks)
up_to_end_from s n [] all = tt
up_to_end_from s n (Run text from ∷ marks) all = (all.0, up_to_end_from s n marks all.1)
up_to_end_from s n (Begin name rule ∷ marks) all = (tt, up_to_end_from s (suc n) marks all.1)
up_to_end_from s n (Attr name ∷ marks) all = (tt, up_to_end_from s n marks all.1)
up_to_end_from s n (AttrEnd ∷ marks) all = (tt, up_to_end_from s n marks all.1)
up_to_end_from s zero (Finish ∷ marks) all = tt
up_to_end_from s (suc n) (Finish ∷ marks) all = (tt, up_to_end_from s n marks all.1)

within_from : (s : Source) (marks : List Mark) → AreFrom s marks → AreFrom s (within_first marks)
within_from s [] all = tt
within_from s (mark ∷ marks) all = up_to_end_from s 0 marks all.1

pub lines_from_marks : (s : Source) (marks : List Mark) → AreFrom s marks → AreGroupsFrom s (lines_in marks)
lines_from_marks s marks all = all_filter (AreRunsFrom s) is_line (groups_in 0 (within_first marks)) (groups_from s 0 (within_first marks) (within_from s marks all))

pub ruleset all = batch_from
