use Rattle.std.proofs.Common.{ℕ, ◌++◌, ◌∷◌, [], ap, ◌∙◌}
use Rattle.result_origin.specs.Parts.{Hole}
use Rattle.instance_store.specs.Requests.{asked_at}
use Rattle.template_run.proofs.AskingLemmas.{longer_asked}
use Rattle.template_run.proofs.result.RunResult.ask.Goals as goal

pub invariant_of-self-in-Ok : goal.invariant_of-self-in-Ok
invariant_of-self-in-Ok c =
    (longer_asked c.self.inside.fragment c.push_hole.new.self c.self.inside.asked c.push.new.self (asked_at c.args.request c.args.place) c.self.invariant (c.in-Ok.ensures.ok ∙ ap (λ (n : ℕ). c.self.inside.fragment ++ Hole n ∷ []) c.len-number.ensures) c.in_ok-push.ensures.ok).asks

pub returns-in-Ok : goal.returns-in-Ok
returns-in-Ok c =
    (longer_asked c.self.inside.fragment c.push_hole.new.self c.self.inside.asked c.push.new.self (asked_at c.args.request c.args.place) c.self.invariant (c.in-Ok.ensures.ok ∙ ap (λ (n : ℕ). c.self.inside.fragment ++ Hole n ∷ []) c.len-number.ensures) c.in_ok-push.ensures.ok).is
    ∙ ap (λ ps. ps ++ Hole (asked_at c.args.request c.args.place) ∷ []) c.self.view_is
