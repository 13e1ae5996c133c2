use Rattle.std.proofs.Common.{ℕ, List, [], ◌∷◌, ◌++◌, ap, ◌∙◌}
use Rattle.std.specs.Str.{chars}
use Rattle.result_origin.specs.declared.origin.Origin.TheVariants as origin
use Rattle.result_origin.specs.Parts.{Says, Run}
use Rattle.template_run.specs.Batch.{deep}
use Rattle.template_run.proofs.batch.Transformation.too_deep.Goals as goal

pub returns : goal.returns
unfolding chars
returns g c table place source request =
    c.in_ok-say_run.ensures
    ∙ ap (λ (t : List ℕ). c.new-result.result ++ Says (Run t (origin.Fixed 0)) ∷ []) c.in_ok-deep.ensures
    ∙ ap (λ ps. ps ++ Says (Run deep (origin.Fixed 0)) ∷ []) c.new-result.ensures
