-- What one instance gives (XSLT 1.0, sections 5.1, 5.4, 5.8, 7.1.1 and 7.2; where its texts come from is this project's own): marks, and
-- holes for the instances that it asks for.
use Rattle.std.specs.Prelude.{ℕ, List, [], ◌∷◌, ◌++◌, map, slice_get, Option, Some, None, codes}
use Rattle.std.specs.List.{flat_map}
use Rattle.std.specs.Option.{option_map}
use Rattle.serna_kinds.specs.declared.cells.AttrPair.{AttrPair}
use Rattle.serna_kinds.specs.declared.cells.NodeName.{NodeName}
use Rattle.serna_kinds.specs.declared.cells.NameId.{NameId}
use Rattle.serna_kinds.specs.declared.cells.NodeRef.{NodeRef}
use Rattle.serna_kinds.specs.declared.cells.NodeRef.TheVariants as ref
use Rattle.serna_kinds.specs.Names.{NameParts}
use Rattle.source_model.specs.Source.{Body, Root, Element, Text, Comment, Forest, none, node, Source, numbers}
use Rattle.source_model.specs.Cells.{Spot, spot_of, named}
use Rattle.result_origin.specs.declared.origin.Origin.TheVariants as origin
use Rattle.result_origin.specs.Parts.{Run, Begin, Attr, AttrEnd, Finish, ResultPart, Says}
use Rattle.style_sheet.specs.declared.style.Choice.{Choice}
use Rattle.style_sheet.specs.declared.style.Choice.TheVariants as choice
use Rattle.style_sheet.specs.Instructions.{Instructions}
use Rattle.style_sheet.specs.Instructions as instruction
use Rattle.style_sheet.specs.Sheet.{StyleValue}
use Rattle.instance_store.specs.declared.request.Call.{Call}
use Rattle.instance_store.specs.declared.request.Call.TheVariants as call
use Rattle.instance_store.specs.declared.request.Request.{Request}
use Rattle.instance_store.specs.declared.request.Place.{Place}
use Rattle.instance_store.specs.declared.request.Asked.{Asked}
use Rattle.xpath_values.specs.declared.value.Binding.{Binding}
use Rattle.template_run.specs.Requests.{applied_to}
use Rattle.template_run.specs.Nodes.{value_of}

-- where an instruction stands (section 4; XPath 1.0, section 1): the context node with its position and the context size, the current
-- node (section 12.4), the current rule (section 5.6), the mode, the parameters that were passed, and the variables in scope
pub record Context : Type 0 where
  pub node : NodeRef
  pub position : ℕ
  pub size : ℕ
  pub current : NodeRef
  pub rule : Option ℕ
  pub mode : Option NameId
  pub passed : List Binding
  pub bindings : List Binding

-- the current rule in a body: the one that was chosen, and in a template that is called by its name the one around the call
abbrev pub current_rule : Call → ℕ → Option ℕ → Option ℕ
current_rule call.Apply number around = Some number
current_rule (call.Named named) number around = around
current_rule call.Imports number around = Some number

-- where the body of the rule of a number begins
abbrev pub context_of : ℕ → Request → Place → Context
context_of number request place = record {
  node = request.node;
  position = place.position;
  size = place.size;
  current = request.node;
  rule = current_rule request.call number request.rule;
  mode = request.mode;
  passed = request.passed;
  bindings = [];
}

-- a text, if it is not empty
abbrev pub fixed_text : {H : Type 0} → ℕ → List ℕ → List (ResultPart H)
fixed_text rule [] = []
fixed_text rule (c ∷ cs) = Says (Run (c ∷ cs) (origin.Fixed rule)) ∷ []

abbrev pub attribute_parts : {H : Type 0} → ℕ → AttrPair → List (ResultPart H)
attribute_parts rule pair = Says (Attr pair.name) ∷ (fixed_text rule pair.value ++ Says AttrEnd ∷ [])

-- an element around what its content gives
abbrev pub element_parts : {H : Type 0} → ℕ → NameId → List AttrPair → List (ResultPart H) → List (ResultPart H)
element_parts rule name attributes content = Says (Begin name rule) ∷ (flat_map (attribute_parts rule) attributes ++ (content ++ Says Finish ∷ []))

-- templates applied to all children in a mode (sections 5.4 and 5.8): an element that has none gives an empty run, into which text can be
-- typed
abbrev pub children_parts : Option NameId → NodeName → Body → Forest → List (ResultPart Asked)
children_parts mode n Root kids = applied_to mode (map named (numbers kids))
children_parts mode n (Element name attributes) none = Says (Run [] (origin.Into n)) ∷ []
children_parts mode n (Element name attributes) (node k body below rest) = applied_to mode (map named (numbers (node k body below rest)))
children_parts mode n (Text text) kids = []
children_parts mode n (Comment text) kids = []

-- the same of a node of a source; an attribute has no children
abbrev pub applied_in : Source → Option NameId → NodeRef → List (ResultPart Asked)
applied_in source mode (ref.Node n) = elim (spot_of source n.0) [ None ↦ [] | Some spot ↦ children_parts mode n spot.body spot.kids ]
applied_in source mode (ref.Attr n name) = []

-- two pieces, one after the other; where one has a type fault both have
abbrev pub joined : {H : Type 0} → Option (List (ResultPart H)) → Option (List (ResultPart H)) → Option (List (ResultPart H))
joined None more = None
joined (Some parts) None = None
joined (Some parts) (Some more) = Some (parts ++ more)

-- what instructions of the rule of a number give; None where one has a type fault, as none of these has
abbrev pub body_parts : List NameParts → Source → ℕ → Context → Instructions → Option (List (ResultPart Asked))
body_parts names source rule context instruction.nothing = Some []
body_parts names source rule context (instruction.text t more) = joined (Some (fixed_text rule t)) (body_parts names source rule context more)
body_parts names source rule context (instruction.element name attributes content more) =
    joined (option_map (element_parts rule name attributes) (body_parts names source rule context content)) (body_parts names source rule context more)
body_parts names source rule context (instruction.apply_templates more) =
    joined (Some (applied_in source None context.current)) (body_parts names source rule context more)

-- an instance whose body has a type fault is this text alone
abbrev pub or_fault : {H : Type 0} → ℕ → Option (List (ResultPart H)) → List (ResultPart H)
or_fault rule None = Says (Run (codes "[fault]") (origin.Fixed rule)) ∷ []
or_fault rule (Some parts) = parts

-- the built-in rules (section 5.8): of a text and an attribute their text, of a comment nothing, else what the children give in the same
-- mode
abbrev pub built_in_parts : Option NameId → NodeName → Spot → Body → List (ResultPart Asked)
built_in_parts mode n spot Root = children_parts mode n spot.body spot.kids
built_in_parts mode n spot (Element name attributes) = children_parts mode n spot.body spot.kids
built_in_parts mode n spot (Text text) = Says (Run text (origin.Text n 0)) ∷ []
built_in_parts mode n spot (Comment text) = []

-- the text of an attribute, if it is not empty
abbrev pub value_parts : NodeName → NameId → Option (List ℕ) → List (ResultPart Asked)
value_parts n name None = []
value_parts n name (Some []) = []
value_parts n name (Some (c ∷ cs)) = Says (Run (c ∷ cs) (origin.Attr n name 0)) ∷ []

abbrev pub built_in_of : Source → Option NameId → NodeRef → List (ResultPart Asked)
built_in_of source mode (ref.Node n) = elim (spot_of source n.0) [ None ↦ [] | Some spot ↦ built_in_parts mode n spot spot.body ]
built_in_of source mode (ref.Attr n name) = value_parts n name (value_of source n name)

-- the body of a rule
abbrev pub body_at : StyleValue → ℕ → Option Instructions
body_at style number = elim (slice_get style.rules number) [ None ↦ None | Some rule ↦ slice_get style.bodies rule.body ]

abbrev pub rule_parts : List NameParts → Source → ℕ → Request → Place → Option Instructions → List (ResultPart Asked)
rule_parts names source number request place None = []
rule_parts names source number request place (Some body) = or_fault number (body_parts names source number (context_of number request place) body)

-- what a choice gives for a request, at a place
abbrev pub choice_parts : List NameParts → StyleValue → Choice → Request → Place → Source → List (ResultPart Asked)
choice_parts names style (choice.Rule number) request place source = rule_parts names source number request place (body_at style number)
choice_parts names style choice.BuiltIn request place source = built_in_of source request.mode request.node
