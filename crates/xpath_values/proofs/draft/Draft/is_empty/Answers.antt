use Rattle.std.proofs.Common.{◌==◌, sym, ◌∙◌, ap}
use Rattle.std.proofs.lemmas.Str.{IsUtf8-string_bytes}
use Rattle.xpath_values.specs.Values.{is_empty}
use Rattle.xpath_values.proofs.Characters.{empty_text}
use Rattle.xpath_values.proofs.draft.Draft.is_empty.Goals as goal

pub returns : goal.returns
returns c = c.is_empty.ensures ∙ (ap (λ n. n == 0) c.self.inside.text.bytes.ok.0 ∙ (sym (empty_text _ (IsUtf8-string_bytes c.self.inside.text)) ∙ ap is_empty c.self.view_is))
