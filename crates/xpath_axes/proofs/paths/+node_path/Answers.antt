use Rattle.std.proofs.Common.{◌≡◌, ◌++◌, ◌∷◌, [], ◌-◌, ◌==◌, Some, None, sym, ap, ◌∙◌, arith}
use Rattle.std.specs.Option.{option_map, option_and_then}
use Rattle.std.specs.List.{position}
use Rattle.std.proofs.lemmas.Result.{IfOk-weaker}
use Rattle.serna_kinds.specs.declared.cells.NodeName.{NodeName}
use Rattle.serna_kinds.specs.Tape.{Agrees}
use Rattle.source_model.specs.Source.{Source}
use Rattle.source_model.specs.Cells.{Spot, spot_of, cell_of}
use Rattle.source_model.specs.Paths.{Path}
use Rattle.xpath_axes.specs.Nodes.{parent_at, kids_at}
use Rattle.xpath_axes.specs.Order.{path_by, path_along}
use Rattle.xpath_axes.proofs.PathSteps.{path_step, path_none}
use Rattle.xpath_axes.proofs.PathLemmas.{climb_step, climb_above}
use Rattle.xpath_axes.proofs.paths.+node_path.Goals as goal

pub returns-then-left-eq0-clause-value : goal.returns-then-left-eq0-clause-value
returns-then-left-eq0-clause-value g t c source agrees = sym (path_none source c.args.left c.args.node c.if-left-eq0.true)

pub returns-in_err-parent_of-clause-within : goal.returns-in_err-parent_of-clause-within
returns-in_err-parent_of-clause-within g t c allowed source agrees may old =
    let steps = climb_step allowed source c.args.left (c.args.left - 1) c.args.node (omega arith) may in
    c.parent_of.ensures.within allowed steps.1 old

pub returns-in_err-node_path-in-Some-clause-before : goal.returns-in_err-node_path-in-Some-clause-before
returns-in_err-node_path-in-Some-clause-before g t c other agrees = c.parent_of.ensures.before other (c.node_path.ensures.before other agrees)

pub returns-in_err-node_path-in-Some-clause-within : goal.returns-in_err-node_path-in-Some-clause-within
returns-in_err-node_path-in-Some-clause-within g t c allowed source agrees may old =
    let earlier = c.node_path.ensures.before (cell_of source) agrees in
    let steps = climb_step allowed source c.args.left (c.args.left - 1) c.args.node (omega arith) may in
    let above = climb_above allowed source c.args.left (c.args.left - 1) c.args.node c.in-Some.parent (omega arith) (sym c.in-Some.is ∙ c.in_ok-parent_of.ensures.value source earlier) may in
    c.node_path.ensures.within allowed source agrees above.1 (c.parent_of.ensures.within allowed steps.1 old)

pub returns-in-None-2-clause-before : goal.returns-in-None-2-clause-before
returns-in-None-2-clause-before g t c other agrees = c.parent_of.ensures.before other (c.node_path.ensures.before other agrees)

pub returns-in-None-2-clause-within : goal.returns-in-None-2-clause-within
returns-in-None-2-clause-within g t c allowed source agrees may old =
    let earlier = c.node_path.ensures.before (cell_of source) agrees in
    let steps = climb_step allowed source c.args.left (c.args.left - 1) c.args.node (omega arith) may in
    let above = climb_above allowed source c.args.left (c.args.left - 1) c.args.node c.in-Some.parent (omega arith) (sym c.in-Some.is ∙ c.in_ok-parent_of.ensures.value source earlier) may in
    c.node_path.ensures.within allowed source agrees above.1 (c.parent_of.ensures.within allowed steps.1 old)

pub returns-in-None-clause-before : goal.returns-in-None-clause-before
returns-in-None-clause-before g t c other agrees = c.parent_of.ensures.before other (c.outermost_path.ensures.before other agrees)

pub returns-in-None-clause-value : goal.returns-in-None-clause-value
returns-in-None-clause-value g t c =
    IfOk-weaker c.outermost_path.result
    (λ path. (source : Source) → Agrees c.outermost_path.new.tape.cells (g.V.SourceView.cells c.args.view.now) (cell_of source) → path ≡ option_map (λ (spot : Spot). (1, 0) ∷ []) (spot_of source c.args.node.0))
    (λ path. (source : Source) → Agrees c.outermost_path.new.tape.cells (g.V.SourceView.cells c.args.view.now) (cell_of source) → path ≡ path_by source c.args.left c.args.node)
    (λ path is source agrees.
    is source agrees
    ∙ sym (path_step source c.args.left (c.args.left - 1) c.args.node (omega arith)
    ∙ ap (path_along source c.args.node (path_by source (c.args.left - 1))) (sym (c.in_ok-parent_of.ensures.value source (c.outermost_path.ensures.before (cell_of source) agrees)) ∙ c.in-None.is)))
    c.outermost_path.ensures.value

pub returns-in-None-clause-within : goal.returns-in-None-clause-within
returns-in-None-clause-within g t c allowed source agrees may old =
    let steps = climb_step allowed source c.args.left (c.args.left - 1) c.args.node (omega arith) may in
    c.outermost_path.ensures.within allowed steps.0 (c.parent_of.ensures.within allowed steps.1 old)

pub returns-in-None-2-clause-value : goal.returns-in-None-2-clause-value
returns-in-None-2-clause-value g t c source agrees =
    let earlier = c.node_path.ensures.before (cell_of source) agrees in
    let parent : parent_at source c.args.node ≡ Some c.in-Some.parent = sym (c.in_ok-parent_of.ensures.value source earlier) ∙ c.in-Some.is in
    let above : path_by source (c.args.left - 1) c.in-Some.parent ≡ None = sym (c.in_ok-node_path-in-Some.ensures.value source agrees) ∙ c.in-None-2.is in
    sym (path_step source c.args.left (c.args.left - 1) c.args.node (omega arith)
    ∙ ap (path_along source c.args.node (path_by source (c.args.left - 1))) parent
    ∙ ap (option_and_then (λ (path : Path). option_map (λ i. path ++ (1, i) ∷ []) (position (λ (k : NodeName). c.args.node.0 == k.0) (kids_at source c.in-Some.parent)))) above)

pub returns-in-Some-2-clause-before : goal.returns-in-Some-2-clause-before
returns-in-Some-2-clause-before g t c other agrees = c.parent_of.ensures.before other (c.node_path.ensures.before other (c.child_path.ensures.before other agrees))

pub returns-in-Some-2-clause-value : goal.returns-in-Some-2-clause-value
returns-in-Some-2-clause-value g t c =
    IfOk-weaker c.child_path.result
    (λ longer. (source : Source) → Agrees c.child_path.new.tape.cells (g.V.SourceView.cells c.args.view.now) (cell_of source) →
    longer ≡ option_map (λ i. c.in-Some-2.path ++ (1, i) ∷ []) (position (λ (k : NodeName). c.args.node.0 == k.0) (kids_at source c.in-Some.parent)))
    (λ longer. (source : Source) → Agrees c.child_path.new.tape.cells (g.V.SourceView.cells c.args.view.now) (cell_of source) → longer ≡ path_by source c.args.left c.args.node)
    (λ longer is source agrees.
    let at_node = c.child_path.ensures.before (cell_of source) agrees in
    let earlier = c.node_path.ensures.before (cell_of source) at_node in
    let parent : parent_at source c.args.node ≡ Some c.in-Some.parent = sym (c.in_ok-parent_of.ensures.value source earlier) ∙ c.in-Some.is in
    let above : path_by source (c.args.left - 1) c.in-Some.parent ≡ Some c.in-Some-2.path = sym (c.in_ok-node_path-in-Some.ensures.value source at_node) ∙ c.in-Some-2.is in
    is source agrees
    ∙ sym (path_step source c.args.left (c.args.left - 1) c.args.node (omega arith)
    ∙ ap (path_along source c.args.node (path_by source (c.args.left - 1))) parent
    ∙ ap (option_and_then (λ (path : Path). option_map (λ i. path ++ (1, i) ∷ []) (position (λ (k : NodeName). c.args.node.0 == k.0) (kids_at source c.in-Some.parent)))) above))
    c.child_path.ensures.value

pub returns-in-Some-2-clause-within : goal.returns-in-Some-2-clause-within
returns-in-Some-2-clause-within g t c allowed source agrees may old =
    let at_node = c.child_path.ensures.before (cell_of source) agrees in
    let earlier = c.node_path.ensures.before (cell_of source) at_node in
    let steps = climb_step allowed source c.args.left (c.args.left - 1) c.args.node (omega arith) may in
    let above = climb_above allowed source c.args.left (c.args.left - 1) c.args.node c.in-Some.parent (omega arith) (sym c.in-Some.is ∙ c.in_ok-parent_of.ensures.value source earlier) may in
    c.child_path.ensures.within allowed above.0 (c.node_path.ensures.within allowed source at_node above.1 (c.parent_of.ensures.within allowed steps.1 old))
