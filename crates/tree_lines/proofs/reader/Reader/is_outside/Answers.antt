use Rattle.std.proofs.Common.{◌∙◌, ap}
use Rattle.tree_lines.specs.Faults.{is_nothing}
use Rattle.tree_lines.specs.Reading.{Reading}
use Rattle.tree_lines.proofs.StepLemmas.{is_nothing-opened}
use Rattle.tree_lines.proofs.reader.Reader.is_outside.Goals as goal

pub returns : goal.returns
returns c = is_nothing-opened _ c.self.inside.opened _ c.is_empty.ensures ∙ ap (λ (r : Reading). is_nothing r.opened) c.self.view_is
