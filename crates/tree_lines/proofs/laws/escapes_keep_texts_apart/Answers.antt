-- The escapes can be undone.
use Rattle.tree_lines.proofs.Escapes.{escaped-apart, escaped-one_line}
use Rattle.tree_lines.proofs.laws.escapes_keep_texts_apart.Goals as goal

pub returns-clause-apart : goal.returns-clause-apart
returns-clause-apart c = escaped-apart

pub returns-clause-one_line : goal.returns-clause-one_line
returns-clause-one_line c = escaped-one_line
