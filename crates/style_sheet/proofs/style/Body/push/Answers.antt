-- The instruction stands behind the others.
use Rattle.std.proofs.Common.{[], ◌∷◌, ap, ◌∙◌}
use Rattle.style_sheet.specs.Instructions.{Instructions, followed_by}
use Rattle.style_sheet.specs.Bodies.{body_of}
use Rattle.style_sheet.proofs.Behind.{body_of-append}
use Rattle.style_sheet.proofs.style.Body.push.Goals as goal

pub returns-clause-ok : goal.returns-clause-ok
returns-clause-ok c =
    ap body_of c.in_ok-push.ensures.ok ∙ body_of-append c.self.inside.instructions (c.args.instruction ∷ [])
    ∙ ap (λ (b : Instructions). followed_by b (body_of (c.args.instruction ∷ []))) c.self.view_is
