-- Twice the instructions that are left, and one more before the first of a body.
use Rattle.std.proofs.Common.{◌+◌, ◌*◌}
use Rattle.style_sheet.specs.declared.style.Body.TheDeep.{deep-Instruction}
use Rattle.style_sheet.specs.Bodies.{size_of}
use Rattle.style_sheet.proofs.tests.+shown.Given as goal

abbrev pub decreases-push_body : goal.decreases-push_body
decreases-push_body l = 2 * size_of l.body.now + 1

abbrev pub decreases-push_short : goal.decreases-push_short
decreases-push_short l = 2 * deep-Instruction l.instruction.now
