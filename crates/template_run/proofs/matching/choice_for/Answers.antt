use Rattle.std.proofs.Common.{List, sym, ap, ◌∙◌}
use Rattle.std.proofs.lemmas.Result.{IfOk-weaker}
use Rattle.style_sheet.specs.declared.style.Rule.{Rule}
use Rattle.template_run.specs.Labels.{KnownNode, fits_among}
use Rattle.template_run.proofs.matching.choice_for.Goals as goal

pub returns : goal.returns
returns c =
    IfOk-weaker c.choose.result _ _
    (λ choice answers.
    answers (λ number node. fits_among c.args.names.now c.args.style.now.rules c.args.label number)
    (λ number.
    ap (λ (rs : List Rule). fits_among c.args.names.now rs c.args.label number) (sym c.rules.ensures.rules)
    ∙ ap (λ (p : KnownNode). fits_among p.names p.rules p.label number) (sym c.choose.ensures.part)))
    c.choose.ensures.value
