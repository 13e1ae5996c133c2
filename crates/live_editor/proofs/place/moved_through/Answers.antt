-- A place goes through the changes one by one.
use Rattle.std.proofs.Common.{refl}
use Rattle.live_editor.proofs.Moving.{tour_near, tour_on, tour_end}
use Rattle.live_editor.proofs.place.moved_through.Goals as goal

pub loop-moves-init : goal.loop-moves-init
loop-moves-init c = record { ends = refl; near = c.requires }

pub moved-place-requires : goal.moved-place-requires
moved-place-requires c = tour_near c.args.since.now c.loop-moves.moves-index c.moves-item.result c.args.place c.loop-moves.place c.loop-moves-test.true c.moves-item.is c.loop-moves.invariant

pub loop-moves-preserved : goal.loop-moves-preserved
loop-moves-preserved c = tour_on c.args.since.now c.loop-moves.moves-index c.moves-item.result c.args.place c.loop-moves.place c.moved-place.result c.loop-moves-test.true c.moves-item.is c.moved-place.ensures c.loop-moves.invariant

pub returns : goal.returns
returns c = tour_end c.args.since.now c.loop-moves.moves-index c.args.place c.loop-moves.place c.loop-moves-test.false c.loop-moves.invariant
