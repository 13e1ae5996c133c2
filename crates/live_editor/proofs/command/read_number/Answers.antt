-- Fewer than nine digits say less than a hundred million, so that one more fits 32 bits.
use Rattle.std.proofs.Common.{arith}
use Rattle.live_editor.proofs.CommandLines.{below_billion}
use Rattle.live_editor.proofs.command.read_number.Goals as goal

pub overflow_mul-number : goal.overflow_mul-number
overflow_mul-number c =
    omega (arith, below_billion c.loop-digit.digit-index c.loop-digit.number (omega arith) c.loop-digit.invariant.below)

pub overflow_add-number : goal.overflow_add-number
overflow_add-number c =
    omega (arith, below_billion c.loop-digit.digit-index c.loop-digit.number (omega arith) c.loop-digit.invariant.below)
