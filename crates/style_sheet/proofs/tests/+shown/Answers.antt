-- An instruction is no larger than its body.
use Rattle.std.proofs.Common.{◌≡◌, ◌≤◌, arith, ap, subst}
use Rattle.style_sheet.specs.declared.style.Body.TheDeep.{deep-Instruction}
use Rattle.style_sheet.specs.Instructions.{Instructions}
use Rattle.style_sheet.specs.Bodies.{size_of}
use Rattle.style_sheet.specs.BodiesFall.{at_le-size}
use Rattle.style_sheet.proofs.tests.+shown.Goals as goal

pub push_body-push_short-requires : goal.push_body-push_short-requires
push_body-push_short-requires t c =
    let small : deep-Instruction c.instruction-item.result ≤ size_of c.args.body.now =
    subst (λ (body : Instructions). deep-Instruction c.instruction-item.result ≤ size_of body) c.instructions-instruction-items.ensures
    (at_le-size c.instructions-instruction-items.result.now c.loop-instruction.instruction-index c.instruction-item.result c.loop-instruction-test.true c.instruction-item.is) in
    (omega (arith, c.decreases, small), tt)
