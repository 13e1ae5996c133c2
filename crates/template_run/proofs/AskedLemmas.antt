-- What an instance asks for stands at children of its node.
use Rattle.std.proofs.Common.{◌≡◌, ℕ, zero, suc, ◌+◌, ◌++◌, Bool, true, false, List, [], ◌∷◌, Option, Some, None, Contains, if◌then◌else◌, refl, sym, subst, length, map}
use Rattle.std.specs.List.{flat_map, All}
use Rattle.std.specs.Option.{option_map}
use Rattle.std.proofs.lemmas.List.Elements.{All-nil, All-cons, All-append, All-head, All-tail, All-weaker, All-contains, All-contains_itself}
use Rattle.serna_kinds.specs.declared.cells.AttrPair.{AttrPair}
use Rattle.serna_kinds.specs.declared.cells.Cell.{Cell}
use Rattle.serna_kinds.specs.declared.cells.NameId.{NameId}
use Rattle.serna_kinds.specs.declared.cells.NodeName.{NodeName}
use Rattle.serna_kinds.specs.declared.cells.NodeRef.{NodeRef}
use Rattle.serna_kinds.specs.declared.cells.NodeRef.TheVariants as ref
use Rattle.serna_kinds.specs.Names.{NameParts}
use Rattle.serna_kinds.specs.Tape.{Within}
use Rattle.source_model.specs.Source.{Body, Root, Element, Text, Comment, Forest, none, node, Source, numbers}
use Rattle.source_model.specs.Cells.{Spot, spot_of, named}
use Rattle.result_origin.specs.Parts.{ResultPart, Says, AttrEnd, Finish, holes}
use Rattle.style_sheet.specs.declared.style.Choice.{Choice}
use Rattle.style_sheet.specs.declared.style.Choice.TheVariants as choice
use Rattle.style_sheet.specs.Instructions.{Instructions}
use Rattle.style_sheet.specs.Instructions as instruction
use Rattle.style_sheet.specs.Sheet.{StyleValue}
use Rattle.instance_store.specs.declared.request.Request.{Request}
use Rattle.instance_store.specs.declared.request.Place.{Place}
use Rattle.instance_store.specs.declared.request.Asked.{Asked}
use Rattle.template_choice.specs.Chosen.{chosen}
use Rattle.template_run.specs.Requests.{holes_for, root_request}
use Rattle.template_run.specs.Nodes.{children_in, children_of, value_of}
use Rattle.template_run.specs.Matching.{fits}
use Rattle.template_run.specs.Instances.{Context, context_of, fixed_text, attribute_parts, element_parts, children_parts, applied_in, joined, body_parts, or_fault, built_in_parts, value_parts, built_in_of, body_at, rule_parts, choice_parts}
use Rattle.template_run.specs.Batch.{is_live, answer_parts, frag}
use Rattle.template_run.specs.Allowed.{own_cells, MayRead, AreAllowed}
use Rattle.template_run.proofs.AskingLemmas.{holes-append}

module _ (allowed : Cell → Bool) (source : Source) (are : AreAllowed allowed source) where
  abbrev May : Asked → Type 0
  May asked = MayRead allowed asked.request

  abbrev Asks : List (ResultPart Asked) → Type 0
  Asks parts = All May (holes parts)

  abbrev MayAsk : Option (List (ResultPart Asked)) → Type 0
  MayAsk None = Unit {0}
  MayAsk (Some parts) = Asks parts

  abbrev Own : NodeName → Type 0
  Own kid = Within allowed (own_cells (ref.Node kid))

  asks-append : (xs ys : List (ResultPart Asked)) → Asks xs → Asks ys → Asks (xs ++ ys)
  asks-append xs ys f h = subst (All May) (sym (holes-append xs ys)) (All-append May (holes xs) (holes ys) f h)

  asks_for : (mode : Option NameId) (p size : ℕ) (nodes : List NodeName) → All Own nodes → Asks (holes_for mode p size nodes)
  asks_for mode p size [] own = All-nil May
  asks_for mode p size (n ∷ nodes) own = All-cons May _ (holes (holes_for mode (p + 1) size nodes)) (All-head Own n nodes own, All-nil (λ c. _)) (asks_for mode (p + 1) size nodes (All-tail Own n nodes own))

  own_kids : (n : ℕ) (spot : Spot) → spot_of source n ≡ Some spot → All Own (children_of spot)
  own_kids n spot at = All-weaker (Contains (children_of spot)) Own (λ kid inside. are.kids n spot kid at inside) (children_of spot) (All-contains_itself (children_of spot))

  asks_kids : (mode : Option NameId) (n : NodeName) (body : Body) (kids : Forest) → All Own (children_in body kids) → Asks (children_parts mode n body kids)
  asks_kids mode n Root kids own = asks_for mode 1 (length (map named (numbers kids))) (map named (numbers kids)) own
  asks_kids mode n (Element name attributes) none own = All-nil May
  asks_kids mode n (Element name attributes) (node k body below rest) own =
      asks_for mode 1 (length (map named (numbers (node k body below rest)))) (map named (numbers (node k body below rest))) own
  asks_kids mode n (Text text) kids own = All-nil May
  asks_kids mode n (Comment text) kids own = All-nil May

  asks_applied : (mode : Option NameId) (r : NodeRef) → Asks (applied_in source mode r)
  asks_applied mode (ref.Node n) = at (spot_of source n.0) refl
    where
      at : (found : Option Spot) → spot_of source n.0 ≡ found → Asks (elim found as (λ _. List (ResultPart Asked)) [ None ↦ [] | Some spot ↦ children_parts mode n spot.body spot.kids ])
      at None e = All-nil May
      at (Some spot) e = asks_kids mode n spot.body spot.kids (own_kids n.0 spot e)
  asks_applied mode (ref.Attr n name) = All-nil May

  asks_fixed : (rule : ℕ) (t : List ℕ) → Asks (fixed_text rule t)
  asks_fixed rule [] = All-nil May
  asks_fixed rule (c ∷ cs) = All-nil May

  asks_attributes : (rule : ℕ) (pairs : List AttrPair) → Asks (flat_map (attribute_parts rule) pairs)
  asks_attributes rule [] = All-nil May
  asks_attributes rule (pair ∷ pairs) =
      asks-append (attribute_parts rule pair) (flat_map (attribute_parts rule) pairs)
      (asks-append (fixed_text rule pair.value) (Says AttrEnd ∷ []) (asks_fixed rule pair.value) (All-nil May)) (asks_attributes rule pairs)

  asks_joined : (a b : Option (List (ResultPart Asked))) → MayAsk a → MayAsk b → MayAsk (joined a b)
  asks_joined None b f h = tt
  asks_joined (Some xs) None f h = tt
  asks_joined (Some xs) (Some ys) f h = asks-append xs ys f h

  asks_element : (rule : ℕ) (name : NameId) (attributes : List AttrPair) (content : Option (List (ResultPart Asked))) → MayAsk content → MayAsk (option_map (element_parts rule name attributes) content)
  asks_element rule name attributes None f = tt
  asks_element rule name attributes (Some ps) f =
      asks-append (flat_map (attribute_parts rule) attributes) (ps ++ Says Finish ∷ []) (asks_attributes rule attributes) (asks-append ps (Says Finish ∷ []) f (All-nil May))

  asks_body : (names : List NameParts) (rule : ℕ) (context : Context) (body : Instructions) → MayAsk (body_parts names source rule context body)
  asks_body names rule context instruction.nothing = All-nil May
  asks_body names rule context (instruction.text t more) =
      asks_joined (Some (fixed_text rule t)) (body_parts names source rule context more) (asks_fixed rule t) (asks_body names rule context more)
  asks_body names rule context (instruction.element name attributes content more) =
      asks_joined (option_map (element_parts rule name attributes) (body_parts names source rule context content)) (body_parts names source rule context more)
      (asks_element rule name attributes (body_parts names source rule context content) (asks_body names rule context content)) (asks_body names rule context more)
  asks_body names rule context (instruction.apply_templates more) =
      asks_joined (Some (applied_in source None context.current)) (body_parts names source rule context more) (asks_applied None context.current) (asks_body names rule context more)

  asks_or_fault : (rule : ℕ) (a : Option (List (ResultPart Asked))) → MayAsk a → Asks (or_fault rule a)
  asks_or_fault rule None f = All-nil May
  asks_or_fault rule (Some ps) f = f

  asks_rule : (names : List NameParts) (number : ℕ) (request : Request) (place : Place) (body : Option Instructions) → Asks (rule_parts names source number request place body)
  asks_rule names number request place None = All-nil May
  asks_rule names number request place (Some body) =
      asks_or_fault number (body_parts names source number (context_of number request place) body) (asks_body names number (context_of number request place) body)

  asks_built_in : (mode : Option NameId) (n : NodeName) (spot : Spot) (body : Body) → Asks (children_parts mode n spot.body spot.kids) → Asks (built_in_parts mode n spot body)
  asks_built_in mode n spot Root f = f
  asks_built_in mode n spot (Element name attributes) f = f
  asks_built_in mode n spot (Text text) f = All-nil May
  asks_built_in mode n spot (Comment text) f = All-nil May

  asks_value : (n : NodeName) (name : NameId) (value : Option (List ℕ)) → Asks (value_parts n name value)
  asks_value n name None = All-nil May
  asks_value n name (Some []) = All-nil May
  asks_value n name (Some (c ∷ cs)) = All-nil May

  asks_built_in_of : (mode : Option NameId) (r : NodeRef) → Asks (built_in_of source mode r)
  asks_built_in_of mode (ref.Node n) = at (spot_of source n.0) refl
    where
      at : (found : Option Spot) → spot_of source n.0 ≡ found → Asks (elim found as (λ _. List (ResultPart Asked)) [ None ↦ [] | Some spot ↦ built_in_parts mode n spot spot.body ])
      at None e = All-nil May
      at (Some spot) e = asks_built_in mode n spot spot.body (asks_kids mode n spot.body spot.kids (own_kids n.0 spot e))
  asks_built_in_of mode (ref.Attr n name) = asks_value n name (value_of source n name)

  asks_choice : (names : List NameParts) (style : StyleValue) (c : Choice) (request : Request) (place : Place) → Asks (choice_parts names style c request place source)
  asks_choice names style (choice.Rule number) request place = asks_rule names number request place (body_at style number)
  asks_choice names style choice.BuiltIn request place = asks_built_in_of request.mode request.node

  asks_if_live : (live : Bool) (parts : List (ResultPart Asked)) → Asks parts → Asks (if live then parts else [])
  asks_if_live true parts f = f
  asks_if_live false parts f = All-nil May

  pub asks_frag : (names : List NameParts) (style : StyleValue) (left : ℕ) (request : Request) (place : Place) (asked : Asked) →
      Contains (holes (frag names style left request place source)) asked → MayRead allowed asked.request
  asks_frag names style left request place asked inside = All-contains May (holes (frag names style left request place source)) asked (all left) inside
    where
      all : (left : ℕ) → Asks (frag names style left request place source)
      all zero = All-nil May
      all (suc left) =
          asks_if_live (is_live source request) (answer_parts names style request place source)
          (asks_choice names style (chosen style (λ number. fits names style source number request.node) request) request place)

  pub root_may : MayRead allowed root_request
  root_may = (are.root, All-nil (λ c. _))
