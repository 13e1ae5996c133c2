-- The first boundary there says why.
use Rattle.std.proofs.Common.{refl, sym, ap, ◌∙◌}
use Rattle.live_editor.specs.Held.{is_at, refused_at}
use Rattle.live_editor.proofs.Looking.{find_here, find_past, find_none}
use Rattle.live_editor.proofs.editor.refusal_at.Goals as goal

pub loop-here-init : goal.loop-here-init
loop-here-init c = refl

pub returns-then-is_at : goal.returns-then-is_at
returns-then-is_at c =
    c.refused_by.ensures
    ∙ sym (ap refused_at (find_here (is_at c.args.page c.args.line c.args.column) c.args.boundaries.now c.loop-here.here-index _ c.is_at.result c.loop-here-test.true c.is_at.ensures c.if-is_at.true c.loop-here.invariant))

pub loop-here-preserved : goal.loop-here-preserved
loop-here-preserved c = find_past (is_at c.args.page c.args.line c.args.column) c.args.boundaries.now c.loop-here.here-index _ c.is_at.result c.loop-here-test.true c.is_at.ensures c.if-is_at.false c.loop-here.invariant

pub returns : goal.returns
returns c = sym (ap refused_at (find_none (is_at c.args.page c.args.line c.args.column) c.args.boundaries.now c.loop-here.here-index c.loop-here-test.false c.loop-here.invariant))
