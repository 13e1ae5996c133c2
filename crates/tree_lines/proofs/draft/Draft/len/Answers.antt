use Rattle.std.proofs.Common.{◌∙◌, ap, sym, length}
use Rattle.std.proofs.lemmas.Str.{IsUtf8-string_bytes, encodes-chars}
use Rattle.tree_lines.specs.Texts.{size_of}
use Rattle.tree_lines.proofs.draft.Draft.len.Goals as goal

pub returns : goal.returns
returns c =
    let text = c.self.inside.text in
    c.len.ensures ∙ (text.bytes.ok.0 ∙ (sym (ap length (encodes-chars _ (IsUtf8-string_bytes text))) ∙ ap size_of c.self.view_is))
