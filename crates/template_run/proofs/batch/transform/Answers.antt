use Rattle.std.proofs.Common.{ℕ, List, ◌++◌, sym, ap, ◌∙◌, subst}
use Rattle.result_origin.specs.Parts.{ResultPart, said}
use Rattle.instance_store.specs.declared.request.Request.{Request}
use Rattle.instance_store.specs.Requests.{place_at}
use Rattle.template_run.specs.Batch.{whole}
use Rattle.template_run.specs.Allowed.{MayRead}
use Rattle.template_run.proofs.SeenLemmas.{keeps_itself, keeps_while_it_grows}
use Rattle.template_run.proofs.FillLemmas.{batch_whole}
use Rattle.template_run.proofs.AskedLemmas.{root_may}
use Rattle.template_run.proofs.batch.transform.Goals as goal

pub returns-in_err-add_instance-clause-within : goal.returns-in_err-add_instance-clause-within
returns-in_err-add_instance-clause-within g c allowed source sees are =
    c.add_instance.ensures.within allowed c.args.names.now source sees (keeps_itself c.args.names.now c.args.style.now) are
    (subst (MayRead allowed) (sym c.apply-root.ensures) (root_may allowed source are))

pub returns-clause-value : goal.returns-clause-value
returns-clause-value g c source sees =
    c.in_ok-add_instance.ensures.value c.args.names.now source sees (keeps_itself c.args.names.now c.args.style.now)
    ∙ ap (λ (ps : List (ResultPart ℕ)). ps ++ said (whole c.args.names.now c.args.style.now 200 c.apply-root.result (place_at 1 1) source)) c.new-result.ensures
    ∙ ap (λ (r : Request). said (whole c.args.names.now c.args.style.now 200 r (place_at 1 1) source)) c.apply-root.ensures
    ∙ ap said (batch_whole c.args.names.now c.args.style.now source)

pub returns-clause-lasts : goal.returns-clause-lasts
returns-clause-lasts g c table source named sees =
    c.in_ok-add_instance.ensures.value table source sees (keeps_while_it_grows c.args.names.now table c.args.style.now sees.grows named)
    ∙ ap (λ (ps : List (ResultPart ℕ)). ps ++ said (whole table c.args.style.now 200 c.apply-root.result (place_at 1 1) source)) c.new-result.ensures
    ∙ ap (λ (r : Request). said (whole table c.args.style.now 200 r (place_at 1 1) source)) c.apply-root.ensures
    ∙ ap said (batch_whole table c.args.style.now source)

pub returns-clause-within : goal.returns-clause-within
returns-clause-within g c allowed source sees are =
    c.add_instance.ensures.within allowed c.args.names.now source sees (keeps_itself c.args.names.now c.args.style.now) are
    (subst (MayRead allowed) (sym c.apply-root.ensures) (root_may allowed source are))
