use Rattle.std.proofs.Common.{◌≡◌, ℕ, Option, None, Some, option_map, ◌∙◌, refl}
use Rattle.std.proofs.lemmas.Iterator.{YieldsList-from_chars}
use Rattle.std.proofs.lemmas.Iterator.Consumers.{nth_from_yields_List}
use Rattle.xpath_values.proofs.texts.character_at.Goals as goal

same_map : (r : Option ℕ) → r ≡ option_map (λ c. c) r
same_map None = refl
same_map (Some c) = refl

pub returns : goal.returns
returns c = same_map c.nth.result ∙ nth_from_yields_List c.nth.result _ c.args.place c.nth.ensures.ran (YieldsList-from_chars c.args.text.now c.utf8.text cc)
