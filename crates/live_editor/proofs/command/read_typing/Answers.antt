-- Printable ASCII is UTF-8, and what its escapes mean is typed.
use Rattle.std.proofs.Common.{sym, ap, ◌∙◌}
use Rattle.plain_editor.proofs.Plain.{IsUtf8-plain}
use Rattle.live_editor.proofs.CommandLines.{typed_as, typing_is}
use Rattle.live_editor.proofs.command.read_typing.Goals as goal

pub returns-in_default : goal.returns-in_default
returns-in_default c = absurd (c.in_default.ensures.cases.0 (IsUtf8-plain c.args.text.now (sym c.is_plain.ensures ∙ c.if-not-is_plain.false)))

pub returns-in-Some : goal.returns-in-Some
returns-in-Some c =
    sym (ap typed_as c.in-Some.is)
    ∙ typing_is c.args.text.now c.in-Ok.text.now c.in_ok-characters.field-0 c.if-is_empty.ensures (sym c.is_plain.ensures ∙ c.if-not-is_plain.false) c.in-Ok.ensures.cases.0 c.in_ok-characters.ensures

pub returns-in-None : goal.returns-in-None
returns-in-None c =
    sym (ap typed_as c.in-None.is)
    ∙ typing_is c.args.text.now c.in-Ok.text.now c.in_ok-characters.field-0 c.if-is_empty.ensures (sym c.is_plain.ensures ∙ c.if-not-is_plain.false) c.in-Ok.ensures.cases.0 c.in_ok-characters.ensures
