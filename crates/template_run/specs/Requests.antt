-- What instances ask for (XSLT 1.0, sections 5.1 and 5.4).
use Rattle.std.specs.Prelude.{ℕ, ◌+◌, List, [], ◌∷◌, length, Option, None}
use Rattle.serna_kinds.specs.declared.cells.NameId.{NameId}
use Rattle.serna_kinds.specs.declared.cells.NodeName.{NodeName}
use Rattle.serna_kinds.specs.declared.cells.NodeRef.TheVariants as ref
use Rattle.source_model.specs.Cells.{named}
use Rattle.result_origin.specs.Parts.{ResultPart, Hole}
use Rattle.instance_store.specs.declared.request.Request.{Request}
use Rattle.instance_store.specs.declared.request.Asked.{Asked}
use Rattle.instance_store.specs.Requests.{apply_to, place_at, asked_at}

-- a hole for each of these nodes, to which templates are to be applied in a mode, the first at this position of so many
abbrev pub holes_for : Option NameId → ℕ → ℕ → List NodeName → List (ResultPart Asked)
holes_for mode position size [] = []
holes_for mode position size (n ∷ nodes) = Hole (asked_at (apply_to mode (ref.Node n)) (place_at position size)) ∷ holes_for mode (position + 1) size nodes

abbrev pub applied_to : Option NameId → List NodeName → List (ResultPart Asked)
applied_to mode nodes = holes_for mode 1 (length nodes) nodes

-- what the whole is asked for: templates are applied to the document node, without a mode
abbrev pub root_request : Request
root_request = apply_to None (ref.Node (named 0))
