-- The empty text has no characters.
use Rattle.std.proofs.Common.{◌≡◌, ℕ, List, IfOk, subst}
use Rattle.std.proofs.lemmas.Str.{chars-nil}
use Rattle.serna_kinds.proofs.chars.Chars.new.Goals as goal

pub returns : goal.returns
returns c = let P : List ℕ → Type 0 = λ t. IfOk c.from_text.result (λ x. x ≡ t) in subst P chars-nil c.from_text.ensures
