use Rattle.std.proofs.Common.{sym, ◌∙◌, ap}
use Rattle.tree_lines.specs.Texts.{size_of}
use Rattle.tree_lines.specs.Reading.{Reading}
use Rattle.tree_lines.proofs.StepLemmas.{ended_text-nothing}
use Rattle.tree_lines.proofs.reader.Reader.end_text.Goals as goal

pub returns-then-len-eq0 : goal.returns-then-len-eq0
returns-then-len-eq0 c = ended_text-nothing c.args.self.now (ap (λ (r : Reading). size_of r.text) (sym c.self.view_is) ∙ sym c.len.ensures ∙ c.if-len-eq0.true)
