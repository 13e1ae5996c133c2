use Rattle.std.proofs.Common.{◌∙◌}
use Rattle.tree_lines.proofs.Characters.{is_line-text, is_line-no_text}
use Rattle.tree_lines.proofs.texts.line_text.Goals as goal

pub returns : goal.returns
returns c =
    (is_line-text _ _ _ c.in-Ok.ensures.cases.0 c.in-Ok.ensures.cases.1 c.are_allowed.ensures ∙ c.if-not-are_allowed.false, c.in-Ok.ensures.cases.0)

pub returns-in_default : goal.returns-in_default
returns-in_default c = is_line-no_text _ c.in_default.ensures.cases.0
