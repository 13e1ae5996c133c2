-- The elements are gone through one by one.
use Rattle.std.proofs.Common.{refl}
use Rattle.live_editor.proofs.Moving.{begun_found, begun_past, begun_end}
use Rattle.live_editor.proofs.place.inside_since.Goals as goal

pub loop-one-init : goal.loop-one-init
loop-one-init c = refl

pub returns-then-node-one : goal.returns-then-node-one
returns-then-node-one c = begun_found c.args.begun.now c.loop-one.one-index _ c.args.node c.loop-one-test.true c.loop-one.invariant c.if-node-one.true

pub loop-one-preserved : goal.loop-one-preserved
loop-one-preserved c = begun_past c.args.begun.now c.loop-one.one-index _ c.args.node c.loop-one-test.true c.loop-one.invariant c.if-node-one.false

pub returns : goal.returns
returns c = begun_end c.args.begun.now c.loop-one.one-index c.args.node c.loop-one-test.false c.loop-one.invariant
