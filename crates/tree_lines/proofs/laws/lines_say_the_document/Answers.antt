use Rattle.tree_lines.proofs.Said.{lines_said}
use Rattle.tree_lines.proofs.laws.lines_say_the_document.Goals as goal

pub returns : goal.returns
returns c = record { items = lines_said }
