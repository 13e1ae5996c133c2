-- The bytes of a text are the encoding of its characters.
use Rattle.std.proofs.Common.{sym, ◌∙◌, ap, encode_utf8_all}
use Rattle.std.specs.Str.{chars}
use Rattle.std.proofs.lemmas.Str.{encodes-chars}
use Rattle.serna_kinds.proofs.chars.Chars.as_text.Goals as goal

pub returns-clause-bytes : goal.returns-clause-bytes
returns-clause-bytes c =
    sym (encodes-chars _ c.as_str.utf8) ∙ ap encode_utf8_all (ap chars c.as_str.ensures.value ∙ c.self.view_is)
