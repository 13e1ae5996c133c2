use Rattle.std.proofs.Common.{◌∙◌, refl, sym}
use Rattle.std.proofs.lemmas.Result.{IfOk-weaker}
use Rattle.serna_kinds.specs.Tape.{Agrees}
use Rattle.source_model.specs.Source.{Source}
use Rattle.source_model.specs.Cells.{cell_of}
use Rattle.template_run.proofs.AnswerLemmas.{is_answer, reads_passed}
use Rattle.template_run.proofs.batch.Transformation.answer.Goals as goal

pub returns-in_err-passed_here-clause-within : goal.returns-in_err-passed_here-clause-within
returns-in_err-passed_here-clause-within g c allowed may = c.passed_here.ensures.within allowed (reads_passed allowed c.args.request.now c.as_slice.result.now c.as_slice.ensures may)

pub returns-then-not-branch-clause-within : goal.returns-then-not-branch-clause-within
returns-then-not-branch-clause-within g c allowed may = c.passed_here.ensures.within allowed (reads_passed allowed c.args.request.now c.as_slice.result.now c.as_slice.ensures may)

pub returns-in_err-choice-clause-within : goal.returns-in_err-choice-clause-within
returns-in_err-choice-clause-within g c allowed may = c.passed_here.ensures.within allowed (reads_passed allowed c.args.request.now c.as_slice.result.now c.as_slice.ensures may)

pub returns-clause-before : goal.returns-clause-before
returns-clause-before g c other agrees = c.passed_here.ensures.before other (c.run.ensures.before other agrees)

pub returns-clause-within : goal.returns-clause-within
returns-clause-within g c allowed may old =
    c.run.ensures.within allowed may.0
    (c.passed_here.ensures.within allowed (reads_passed allowed c.args.request.now c.as_slice.result.now c.as_slice.ensures may) old)

pub returns-clause-value : goal.returns-clause-value
returns-clause-value g c =
    IfOk-weaker c.run.result _ _
    (λ value gives table source other sees keeps stands found left.
    let earlier = λ (s : Source) (agrees : Agrees c.run.new.tape.cells (g.V.SourceView.cells c.args.self.now.view.now) (cell_of s)). c.run.ensures.before (cell_of s) agrees in
    gives table source c.args.request.now other sees.agrees (found source (sees.agrees)).1 refl refl
    ∙ is_answer c.args.self.now.names.now table c.run.new.tape.cells (g.V.SourceView.cells c.args.self.now.view.now) c.args.self.now.style.now source c.args.request.now other c.args.label
    c.in_ok-choice.choice c.as_slice.result.now left sees keeps found c.in_ok-choice.ensures c.as_slice.ensures
    (sym (c.in_ok-passed_here.ensures.value source (earlier source sees.agrees)) ∙ c.if-not-branch.false))
    c.run.ensures.value
