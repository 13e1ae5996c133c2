use Rattle.std.proofs.Common.{refl}
use Rattle.line_fill.proofs.laws.examples_of_parts.Goals as goal

pub returns : goal.returns
returns c = record { inside = refl; behind = refl; hanging = refl; last = refl; before = refl; at_start = refl; empty = refl; at_end = refl; at_beginning = refl }
