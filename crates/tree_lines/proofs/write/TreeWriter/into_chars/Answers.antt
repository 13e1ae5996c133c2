-- The bytes of a text are the encoding of its characters.
use Rattle.std.proofs.Common.{◌≡◌, ap, ◌∙◌, encode_utf8_all}
use Rattle.std.specs.Str.{chars}
use Rattle.std.specs.String.{string_bytes}
use Rattle.std.proofs.lemmas.Result.{IfOk-weaker}
use Rattle.std.proofs.lemmas.Str.{encodes-chars, IsUtf8-string_bytes}
use Rattle.tree_lines.proofs.write.TreeWriter.into_chars.Goals as goal

pub returns-clause-bytes : goal.returns-clause-bytes
returns-clause-bytes c =
    let text = c.self.inside.text in
    IfOk-weaker c.from_string.result (λ x. x ≡ chars (string_bytes text)) (λ x. encode_utf8_all x ≡ c.args.self)
    (λ x e. ap encode_utf8_all e ∙ encodes-chars _ (IsUtf8-string_bytes text) ∙ c.self.view_is) c.from_string.ensures
