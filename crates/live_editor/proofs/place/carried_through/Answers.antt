-- A place goes through the prims one by one.
use Rattle.std.proofs.Common.{refl}
use Rattle.live_editor.proofs.Moving.{way_near, way_on, way_end}
use Rattle.live_editor.proofs.place.carried_through.Goals as goal

pub loop-prim-init : goal.loop-prim-init
loop-prim-init c = record { ends = refl; near = c.requires }

pub carried-place-requires : goal.carried-place-requires
carried-place-requires c = way_near c.args.prims.now c.loop-prim.prim-index c.prim-item.result c.args.place c.loop-prim.place c.loop-prim-test.true c.prim-item.is c.loop-prim.invariant

pub loop-prim-preserved : goal.loop-prim-preserved
loop-prim-preserved c = way_on c.args.prims.now c.loop-prim.prim-index c.prim-item.result c.args.place c.loop-prim.place c.carried-place.result c.loop-prim-test.true c.prim-item.is c.carried-place.ensures c.loop-prim.invariant

pub returns : goal.returns
returns c = way_end c.args.prims.now c.loop-prim.prim-index c.args.place c.loop-prim.place c.loop-prim-test.false c.loop-prim.invariant
