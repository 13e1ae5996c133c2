use Rattle.std.proofs.Common.{refl, sym, subst, ap, ◌+◌}
use Rattle.result_origin.specs.declared.pages.Line.{Line}
use Rattle.live_editor.specs.Shown.{AreAtStart}
use Rattle.live_editor.proofs.Loops.{all_at}
use Rattle.live_editor.proofs.LineLoops.{line_done, lines_done}
use Rattle.live_editor.proofs.view.push_lines.Goals as goal

pub loop-line-init : goal.loop-line-init
loop-line-init c = (refl, refl)

pub push_parts-requires : goal.push_parts-requires
push_parts-requires c = subst AreAtStart (sym c.as_slice.ensures) (all_at (λ (line : Line). AreAtStart line.parts) c.args.lines.now c.loop-line.line-index c.line-item.result c.loop-line-test.true c.line-item.is c.requires)

pub loop-line-preserved : goal.loop-line-preserved
loop-line-preserved c = (
  ap (λ n. n + 1) c.loop-line.invariant.0,
  line_done c.args.page (c.loop-line.number + 1) c.loop-line.line-index c.args.lines.now c.line-item.result _ _ _ _ c.loop-line-test.true c.line-item.is c.loop-line.invariant.1 c.as_slice.ensures c.in_ok-push_parts.ensures,
)

pub returns : goal.returns
returns c = lines_done c.args.page (c.loop-line.number + 1) c.loop-line.line-index c.args.lines.now _ _ c.loop-line-test.false c.loop-line.invariant.1
