use Rattle.std.proofs.Common.{◌≡◌, suc, ◌-◌, ◌∙◌, sym, ap, subst, arith, ℕ}
use Rattle.std.proofs.lemmas.Result.{IfOk-weaker}
use Rattle.source_model.specs.Cells.{cell_of}
use Rattle.template_run.specs.Labels.{IsFound}
use Rattle.template_run.specs.Batch.{frag}
use Rattle.template_run.proofs.LogLemmas.{presence_in_own}
use Rattle.template_run.proofs.batch.Transformation.instance.Goals as goal

pub returns-then-left-eq0-clause-value : goal.returns-then-left-eq0-clause-value
returns-then-left-eq0-clause-value g c =
    IfOk-weaker c.too_deep.result _ _
    (λ value deep table source other sees keeps stands.
    deep table other source c.args.request.now ∙ sym (ap (λ (n : ℕ). frag table c.args.self.now.style.now n c.args.request.now other source) c.if-left-eq0.true))
    c.too_deep.ensures

pub returns-in_err-label-clause-within : goal.returns-in_err-label-clause-within
returns-in_err-label-clause-within g c allowed may = c.find.ensures.within allowed (presence_in_own allowed c.args.request.now.node may.0)

pub returns-in-Some-clause-before : goal.returns-in-Some-clause-before
returns-in-Some-clause-before g c other agrees = c.find.ensures.before other (c.answer.ensures.before other agrees)

pub returns-in-Some-clause-value : goal.returns-in-Some-clause-value
returns-in-Some-clause-value g c =
    let more : c.args.left ≡ suc (c.args.left - 1) = omega arith in
    IfOk-weaker c.answer.result _ _
    (λ value gives table source other sees keeps stands.
    gives table source other sees keeps stands
    (λ s agrees. subst (IsFound s c.args.request.now.node) c.in-Some.is (c.in_ok-label.ensures.value s (c.answer.ensures.before (cell_of s) agrees))) (c.args.left - 1)
    ∙ sym (ap (λ (n : ℕ). frag table c.args.self.now.style.now n c.args.request.now other source) more))
    c.answer.ensures.value

pub returns-in-Some-clause-within : goal.returns-in-Some-clause-within
returns-in-Some-clause-within g c allowed may old =
    c.answer.ensures.within allowed may (c.find.ensures.within allowed (presence_in_own allowed c.args.request.now.node may.0) old)

pub returns-in-None-clause-within : goal.returns-in-None-clause-within
returns-in-None-clause-within g c allowed may = c.find.ensures.within allowed (presence_in_own allowed c.args.request.now.node may.0)
