use Rattle.std.proofs.Common.{refl, arith}
use Rattle.live_editor.specs.Shown.{IsFromStart}
use Rattle.live_editor.proofs.Loops.{all_at}
use Rattle.live_editor.proofs.LineLoops.{part_done, parts_done}
use Rattle.live_editor.proofs.view.push_parts.Goals as goal

pub loop-part-init : goal.loop-part-init
loop-part-init c = (omega arith, refl)

pub push_part-requires-clause-start : goal.push_part-requires-clause-start
push_part-requires-clause-start c = all_at IsFromStart c.args.parts.now c.loop-part.part-index c.part-item.result c.loop-part-test.true c.part-item.is c.requires

pub push_part-requires-clause-within : goal.push_part-requires-clause-within
push_part-requires-clause-within c = c.loop-part.invariant.0

pub loop-part-preserved : goal.loop-part-preserved
loop-part-preserved c = (
  c.in_ok-column.ensures.within,
  part_done c.args.page c.args.line c.loop-part.column _ c.loop-part.part-index c.args.parts.now c.part-item.result _ _ _ c.loop-part-test.true c.part-item.is c.loop-part.invariant.1 c.in_ok-column.ensures.boundaries
      c.in_ok-column.ensures.column,
)

pub returns : goal.returns
returns c = parts_done c.args.page c.args.line c.loop-part.column c.loop-part.part-index c.args.parts.now _ _ c.loop-part-test.false c.loop-part.invariant.1
