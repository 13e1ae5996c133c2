-- Lines of two lists one after another.
use Rattle.tree_lines.proofs.Canonical.{text_of-element}
use Rattle.tree_lines.proofs.laws.elements_are_written_in_parts.Goals as goal

pub returns : goal.returns
returns c = text_of-element
