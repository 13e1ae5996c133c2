-- Texts as lists of characters that are changed at places, a place being a number of bytes of the text's UTF-8.
use Rattle.std.specs.Prelude.{◌≡◌, ℕ, zero, suc, ◌-◌, List, [], ◌∷◌, ◌++◌, length, encode_utf8_all}
use Rattle.std.specs.Char.{encode_utf8}

-- a place between two characters of a text, or its start or end
pub record IsPlaceIn (text : List ℕ) (at : ℕ) : Type 0 where
  pub before : List ℕ
  pub behind : List ℕ
  pub whole : text ≡ before ++ behind
  pub place : length (encode_utf8_all before) ≡ at

-- the characters before a place, and those behind it
abbrev pub upto : ℕ → List ℕ → List ℕ
upto zero text = []
upto (suc n) [] = []
upto (suc n) (c ∷ cs) = c ∷ upto (suc n - length (encode_utf8 c)) cs

abbrev pub past : ℕ → List ℕ → List ℕ
past zero text = text
past (suc n) [] = []
past (suc n) (c ∷ cs) = past (suc n - length (encode_utf8 c)) cs

-- the text with a piece put in at a place
abbrev pub inserted : ℕ → List ℕ → List ℕ → List ℕ
inserted at piece text = upto at text ++ (piece ++ past at text)

-- the text without what stands from one place to another
abbrev pub removed : ℕ → ℕ → List ℕ → List ℕ
removed from to text = upto from text ++ past to text
