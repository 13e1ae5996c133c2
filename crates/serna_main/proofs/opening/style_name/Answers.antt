-- A name in printable ASCII is UTF-8.
use Rattle.std.proofs.Common.{sym, ◌∙◌}
use Rattle.plain_editor.proofs.Plain.{IsUtf8-plain}
use Rattle.serna_main.proofs.Openings.{plain_name}
use Rattle.serna_main.proofs.opening.style_name.Goals as goal

pub returns-in_default-from_utf8-clause-none : goal.returns-in_default-from_utf8-clause-none
returns-in_default-from_utf8-clause-none c =
    absurd (c.in_default-from_utf8.ensures.cases.0 (IsUtf8-plain c.in-Some.name.now (plain_name c.in-Some.name.now (sym c.is_style_name.ensures ∙ c.if-not-is_style_name.false))))
