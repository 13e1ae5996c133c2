-- An instance, and the whole result of a source: the instance of the document node with each hole replaced by the instance that it asks
-- for, a level deeper, down to none (XSLT 1.0, section 5.1; the limit on depth is this project's own).
use Rattle.std.specs.Prelude.{ℕ, zero, suc, Bool, List, [], ◌∷◌, ◌&&◌, codes, if◌then◌else◌}
use Rattle.std.specs.List.{flat_map, list_all}
use Rattle.serna_kinds.specs.declared.cells.NodeRef.{NodeRef}
use Rattle.serna_kinds.specs.Names.{NameParts}
use Rattle.source_model.specs.Source.{Source}
use Rattle.result_origin.specs.declared.origin.Origin.TheVariants as origin
use Rattle.result_origin.specs.Parts.{Mark, Run, ResultPart, Says, filled}
use Rattle.style_sheet.specs.Sheet.{StyleValue}
use Rattle.instance_store.specs.declared.request.Request.{Request}
use Rattle.instance_store.specs.declared.request.Place.{Place}
use Rattle.instance_store.specs.declared.request.Asked.{Asked}
use Rattle.instance_store.specs.Requests.{place_at}
use Rattle.xpath_values.specs.declared.value.Binding.{Binding}
use Rattle.xpath_values.specs.declared.value.Value.{Value}
use Rattle.xpath_values.specs.declared.value.Value.TheVariants as value
use Rattle.template_choice.specs.Chosen.{chosen}
use Rattle.template_run.specs.Nodes.{is_here}
use Rattle.template_run.specs.Matching.{fits}
use Rattle.template_run.specs.Instances.{choice_parts}
use Rattle.template_run.specs.Requests.{root_request}

abbrev pub nodes_in : Value → List NodeRef
nodes_in (value.Nodes nodes) = nodes
nodes_in (value.Text text) = []
nodes_in (value.Number number) = []
nodes_in (value.Truth holds) = []

-- the nodes that are passed as parameters
abbrev pub passed_nodes : List Binding → List NodeRef
passed_nodes bindings = flat_map (λ (binding : Binding). nodes_in binding.value) bindings

-- the node of a request and each that it passes are in the source
abbrev pub is_live : Source → Request → Bool
is_live source request = is_here source request.node && list_all (is_here source) (passed_nodes request.passed)

-- what the rule that is chosen for a request gives
abbrev pub answer_parts : List NameParts → StyleValue → Request → Place → Source → List (ResultPart Asked)
answer_parts names style request place source =
    choice_parts names style (chosen style (λ number. fits names style source number request.node) request) request place source

-- the text in place of an instance that is too deep
abbrev pub deep : List ℕ
deep = codes "[deep]"

-- The instance of a request at a place, where so many levels are left: it is too deep, or a node of it is not there, or else it is what
-- the chosen rule gives. That of a body with a type fault is the text of the fault.
abbrev pub frag : List NameParts → StyleValue → ℕ → Request → Place → Source → List (ResultPart Asked)
frag names style zero request place source = Says (Run deep (origin.Fixed 0)) ∷ []
frag names style (suc left) request place source = if is_live source request then answer_parts names style request place source else []

-- the result of a request, each instance that it asks for filled in a level deeper
unfoldable pub whole : List NameParts → StyleValue → ℕ → Request → Place → Source → List Mark
whole names style zero request place source = filled (λ (asked : Asked). []) (frag names style zero request place source)
whole names style (suc left) request place source =
    filled (λ (asked : Asked). whole names style left asked.request asked.place source) (frag names style (suc left) request place source)

-- the result of a source under a stylesheet: instances stand at most 200 deep, that of the document node being the first
unfoldable pub batch : List NameParts → StyleValue → Source → List Mark
batch names style source = whole names style 200 root_request (place_at 1 1) source
