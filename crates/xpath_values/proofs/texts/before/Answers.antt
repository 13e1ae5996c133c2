use Rattle.std.proofs.Common.{List, ℕ, [], ◌∙◌, ap}
use Rattle.std.specs.Option.{option_map_or}
use Rattle.std.proofs.lemmas.Str.{chars-nil}
use Rattle.xpath_values.proofs.texts.before.Goals as goal

pub returns-in-Some : goal.returns-in-Some
returns-in-Some c = ap (λ cut. option_map_or {T = List ℕ × List ℕ} {U = List ℕ} (λ parts. parts.0) cut []) c.in-Some.ensures

pub returns-in-None : goal.returns-in-None
returns-in-None c = chars-nil ∙ ap (λ cut. option_map_or {T = List ℕ × List ℕ} {U = List ℕ} (λ parts. parts.0) cut []) c.in-None.ensures
