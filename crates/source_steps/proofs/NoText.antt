-- The empty text has no characters.
use Rattle.std.proofs.Common.{◌≡◌, [], List, ℕ, ◌∙◌}
use Rattle.std.specs.Str.{chars}
use Rattle.std.proofs.lemmas.Str.{chars-nil}

pub no_characters : (text : List ℕ) → [] ≡ text → chars [] ≡ text
no_characters text e = chars-nil ∙ e
