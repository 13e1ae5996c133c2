use Rattle.std.proofs.Common.{length, ◌-◌, ◌+◌, ◌*◌, ◌≤◌, List}
use Rattle.source_model.specs.Source.{Forest}
use Rattle.source_primitives.specs.declared.primitive.SubItem.{SubItem}
use Rattle.source_steps.specs.Putting.{EndHere, StandAt, GoesOn}
use Rattle.source_steps.proofs.putting.+putting.Given as goal

abbrev pub decreases-put_one : goal.decreases-put_one
decreases-put_one l = 2 * (length l.items.now - l.at)

abbrev pub decreases-put_all : goal.decreases-put_all
decreases-put_all l = 2 * (length l.items.now - l.at) + 1

-- the neighbours that were put in, and those that are left
abbrev pub invariant-put_all-neighbours : goal.invariant-put_all-neighbours
invariant-put_all-neighbours l =
    (l.at ≤ l.to) × (l.to ≤ length l.items)
    × ((old : Forest) (more : List SubItem) → EndHere more → StandAt l.items l.at old more → GoesOn l.items l.up l.at l.initial.changes l.initial.kids.items more old l.to l.changes l.kids.items)

abbrev pub decreases-put_all-neighbours : goal.decreases-put_all-neighbours
decreases-put_all-neighbours l = length l.items - l.to
