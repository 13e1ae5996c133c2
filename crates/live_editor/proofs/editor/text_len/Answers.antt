-- The length of a text in bytes, by what its cell says.
use Rattle.std.proofs.Common.{Some, sym, ap, ◌∙◌}
use Rattle.std.specs.Str.{chars}
use Rattle.serna_kinds.specs.Content.{content_of}
use Rattle.plain_editor.specs.Editor.{bytes_of}
use Rattle.live_editor.proofs.Typing.{same_text}
use Rattle.live_editor.proofs.editor.text_len.Goals as goal

pub returns-in-Some-Text : goal.returns-in-Some-Text
returns-in-Some-Text c = λ text is.
    c.byte_len.ensures ∙ ap bytes_of (same_text c.args.source.now.source c.args.node text (chars c.in-Some-Text.text.now) is (ap (λ v. Some (content_of v)) (sym c.in-Some-Text.field-0-is) ∙ c.in-Some-Text.ensures))
