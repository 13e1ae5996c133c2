-- A line that cannot be cut behind its first byte says nothing.
use Rattle.std.proofs.Common.{sym, ◌∙◌, ap}
use Rattle.std.specs.Option.{option_map}
use Rattle.std.proofs.lemmas.Bool.{false≢true}
use Rattle.tree_lines.specs.Kinds.{said}
use Rattle.tree_lines.proofs.TagLemmas.{tag_of-uncut}
use Rattle.tree_lines.proofs.tags.tag_of.Goals as goal

pub returns-in_err-mark : goal.returns-in_err-mark
returns-in_err-mark c =
    ap (option_map said) c.from_residual.ensures ∙ sym (tag_of-uncut _ c.utf8.line (λ b. false≢true (c.in_err-mark.ensures.variant.1 b)))
