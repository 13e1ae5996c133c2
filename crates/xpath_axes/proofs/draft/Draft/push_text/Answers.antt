use Rattle.std.proofs.Common.{refl}
use Rattle.std.proofs.lemmas.Str.{IsUtf8-string_bytes}
use Rattle.xpath_axes.proofs.StringLemmas.{shown_written}
use Rattle.xpath_axes.proofs.draft.Draft.push_text.Goals as goal

pub returns : goal.returns
returns c = shown_written c.push_str.result _ _ _ _ _ (IsUtf8-string_bytes c.self.inside.text) c.self.view_is refl c.push_str.ensures.bytes
