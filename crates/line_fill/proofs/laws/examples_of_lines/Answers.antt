use Rattle.std.proofs.Common.{refl}
use Rattle.line_fill.proofs.laws.examples_of_lines.Goals as goal

pub returns : goal.returns
returns c = record { parted = refl; hangs = refl; words = refl; wide = refl; narrow = refl; behind = refl; end = refl; none = refl; indented = refl }
