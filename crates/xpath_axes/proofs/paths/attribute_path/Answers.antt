use Rattle.std.proofs.Common.{◌≡◌, ◌++◌, ◌∷◌, [], ℕ, Some, sym, ap, ◌∙◌}
use Rattle.std.specs.Option.{option_map, option_and_then}
use Rattle.std.proofs.lemmas.Result.{IfOk-weaker}
use Rattle.serna_kinds.specs.Tape.{Agrees}
use Rattle.source_model.specs.Source.{Source}
use Rattle.source_model.specs.Cells.{cell_of}
use Rattle.source_model.specs.Paths.{Path, attribute_place}
use Rattle.xpath_axes.specs.Nodes.{attributes_at}
use Rattle.xpath_axes.specs.Order.{path_by, attribute_path_by}
use Rattle.xpath_axes.proofs.paths.attribute_path.Goals as goal

pub returns-in_err-attributes_of-clause-within : goal.returns-in_err-attributes_of-clause-within
returns-in_err-attributes_of-clause-within g c allowed source agrees may climbs old = c.attributes_of.ensures.within allowed may old

pub returns-in-None-clause-within : goal.returns-in-None-clause-within
returns-in-None-clause-within g c allowed source agrees may climbs old = c.attributes_of.ensures.within allowed may old

pub returns-in_err-node_path-in-Some-clause-before : goal.returns-in_err-node_path-in-Some-clause-before
returns-in_err-node_path-in-Some-clause-before g c other agrees = c.attributes_of.ensures.before other (c.node_path.ensures.before other agrees)

pub returns-in_err-node_path-in-Some-clause-within : goal.returns-in_err-node_path-in-Some-clause-within
returns-in_err-node_path-in-Some-clause-within g c allowed source agrees may climbs old =
    let earlier = c.node_path.ensures.before (cell_of source) agrees in
    let at : attribute_place c.args.name 0 (attributes_at source c.args.node) ≡ Some c.in-Some.place =
    sym (c.place_of.ensures ∙ ap (attribute_place c.args.name 0) (c.in_ok-attributes_of.ensures.value source earlier)) ∙ c.in-Some.is in
    c.node_path.ensures.within allowed source agrees (climbs c.in-Some.place at) (c.attributes_of.ensures.within allowed may old)

pub returns-in-None-2-clause-before : goal.returns-in-None-2-clause-before
returns-in-None-2-clause-before g c other agrees = c.attributes_of.ensures.before other (c.node_path.ensures.before other agrees)

pub returns-in-None-2-clause-within : goal.returns-in-None-2-clause-within
returns-in-None-2-clause-within g c allowed source agrees may climbs old =
    let earlier = c.node_path.ensures.before (cell_of source) agrees in
    let at : attribute_place c.args.name 0 (attributes_at source c.args.node) ≡ Some c.in-Some.place =
    sym (c.place_of.ensures ∙ ap (attribute_place c.args.name 0) (c.in_ok-attributes_of.ensures.value source earlier)) ∙ c.in-Some.is in
    c.node_path.ensures.within allowed source agrees (climbs c.in-Some.place at) (c.attributes_of.ensures.within allowed may old)

pub returns-in-Some-2-clause-before : goal.returns-in-Some-2-clause-before
returns-in-Some-2-clause-before g c other agrees = c.attributes_of.ensures.before other (c.node_path.ensures.before other agrees)

pub returns-in-Some-2-clause-within : goal.returns-in-Some-2-clause-within
returns-in-Some-2-clause-within g c allowed source agrees may climbs old =
    let earlier = c.node_path.ensures.before (cell_of source) agrees in
    let at : attribute_place c.args.name 0 (attributes_at source c.args.node) ≡ Some c.in-Some.place =
    sym (c.place_of.ensures ∙ ap (attribute_place c.args.name 0) (c.in_ok-attributes_of.ensures.value source earlier)) ∙ c.in-Some.is in
    c.node_path.ensures.within allowed source agrees (climbs c.in-Some.place at) (c.attributes_of.ensures.within allowed may old)

pub returns-in-Some-2-clause-value : goal.returns-in-Some-2-clause-value
returns-in-Some-2-clause-value g c =
    IfOk-weaker c.longer_by.result
    (λ longer. longer ≡ Some (c.in-Some-2.path ++ (0, c.in-Some.place) ∷ []))
    (λ longer. (source : Source) → Agrees c.node_path.new.tape.cells (g.V.SourceView.cells c.args.view.now) (cell_of source) → longer ≡ attribute_path_by source c.args.left c.args.node c.args.name)
    (λ longer is source agrees.
    let earlier = c.node_path.ensures.before (cell_of source) agrees in
    let at : attribute_place c.args.name 0 (attributes_at source c.args.node) ≡ Some c.in-Some.place =
    sym (c.place_of.ensures ∙ ap (attribute_place c.args.name 0) (c.in_ok-attributes_of.ensures.value source earlier)) ∙ c.in-Some.is in
    let path : path_by source c.args.left c.args.node ≡ Some c.in-Some-2.path = sym (c.in_ok-node_path-in-Some.ensures.value source agrees) ∙ c.in-Some-2.is in
    is
    ∙ sym (ap (option_and_then (λ (i : ℕ). option_map (λ (p : Path). p ++ (0, i) ∷ []) (path_by source c.args.left c.args.node))) at
    ∙ ap (option_map (λ (p : Path). p ++ (0, c.in-Some.place) ∷ [])) path))
    c.longer_by.ensures
