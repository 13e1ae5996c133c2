-- Where a value stands in the text of an attribute. This project's own rule: spaces at the ends do not
-- count, and a space is U+0020 alone. A text is its UTF-8 bytes; each character of the grammars of this
-- crate is below 128, and so one byte.
use Rattle.std.specs.Prelude.{◌≡◌, ◌≢◌, ℕ, List, [], ◌∷◌, ◌++◌}
use Rattle.std.specs.List.{AllByRecursion}

-- nothing but spaces; it may be empty
abbrev pub AreSpaces : List ℕ → Type 0
AreSpaces bytes = AllByRecursion (λ byte. byte ≡ 32) bytes

-- the text is the value, with spaces before it and after it
pub record IsPadded (text value : List ℕ) : Type 0 where
  pub before : List ℕ
  pub after : List ℕ
  pub spaces_before : AreSpaces before
  pub spaces_after : AreSpaces after
  pub whole : text ≡ before ++ (value ++ after)

-- the value is the text without the spaces at its ends, all of them
pub record IsTrimmed (text value : List ℕ) : Type 0 where
  pub padded : IsPadded text value
  pub start : (rest : List ℕ) → value ≢ 32 ∷ rest
  pub end : (front : List ℕ) → value ≢ front ++ (32 ∷ [])
