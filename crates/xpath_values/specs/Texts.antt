-- The string functions (XPath 1.0, 4.2), on texts as lists of characters.
use Rattle.std.specs.Prelude.{◌≡◌, ℕ, ◌+◌, ◌≤◌, ◌==◌, nat_eq, Bool, false, not, ◌&&◌, pos, ◌+ℤ◌, int_lt, int_le, List, [], ◌∷◌, ◌++◌, map, length, take, drop, Option, Some, filter, position, slice_get, find, option_map, option_to_list, if◌then◌else◌}
use Rattle.std.specs.Option.{option_map_or}
use Rattle.std.specs.List.{AllByRecursion, starts_with, range_with_len, enumerate_from, filter_map, slice_split, join_with_byte}
use Rattle.xpath_values.specs.declared.number.Num.{Num}
use Rattle.xpath_values.specs.declared.number.Num.TheVariants.{NaN, Whole}
use Rattle.serna_kinds.specs.Blanks.{is_space}
use Rattle.xpath_values.specs.Values.{is_empty}

-- the first place at which the other text begins, the front being 0
abbrev pub first_place : List ℕ → List ℕ → Option ℕ
first_place text other = find (λ place. starts_with nat_eq (drop place text) other) (range_with_len 0 (length text + 1))

-- what stands before and after that place, if there is one
abbrev pub first_cut : List ℕ → List ℕ → Option (List ℕ × List ℕ)
first_cut text other = option_map (λ place. (take place text, drop (place + length other) text)) (first_place text other)

-- substring-before and substring-after: nothing where the other begins nowhere
abbrev pub text_before : List ℕ → List ℕ → List ℕ
text_before text other = option_map_or (λ cut. cut.0) (first_cut text other) []

abbrev pub text_after : List ℕ → List ℕ → List ℕ
text_after text other = option_map_or (λ cut. cut.1) (first_cut text other) []

-- the same in other words: the text is cut around the other, and no cut is nearer to the front
pub record IsFirstCut (text other before after : List ℕ) : Type 0 where
  pub written : text ≡ before ++ (other ++ after)
  pub first : (front back : List ℕ) → text ≡ front ++ (other ++ back) → length before ≤ length front

-- the characters at the places that pass, the first place being 1
abbrev pub characters_at : (ℕ → Bool) → List ℕ → List ℕ
characters_at passes text = map (λ c. c.1) (filter (λ c. passes c.0) (enumerate_from 1 text))

-- the places from a start on, and those before the end that start + count is, which is exact; a NaN leaves none
abbrev pub is_from : Num → ℕ → Bool
is_from NaN place = false
is_from (Whole start) place = int_le start (pos place)

abbrev pub is_before_end : Num → Num → ℕ → Bool
is_before_end NaN count place = false
is_before_end (Whole start) NaN place = false
is_before_end (Whole start) (Whole count) place = int_lt (pos place) (start +ℤ count)

-- substring: from a place on, or so many characters from a place on
abbrev pub substring : List ℕ → List Num → List ℕ
substring text [] = text
substring text (start ∷ []) = characters_at (is_from start) text
substring text (start ∷ count ∷ rest) = characters_at (λ place. is_from start place && is_before_end start count place) text

-- the number arguments behind the start
abbrev pub counts : Option Num → List Num
counts count = option_to_list count

-- the words: what stands between white space
abbrev pub words : List ℕ → List (List ℕ)
words text = filter (λ word. not (is_empty word)) (slice_split is_space text)

-- a character at least, and no white space
pub record IsWord (word : List ℕ) : Type 0 where
  pub some : 1 ≤ length word
  pub ink : AllByRecursion (λ c. is_space c ≡ false) word

-- normalize-space: the words, with one space between each two
abbrev pub normalized : List ℕ → List ℕ
normalized text = join_with_byte 32 (words text)

-- a character of a word, behind a space where it begins one that is not the first of its text
abbrev pub of_word : List ℕ → Bool → ℕ → List ℕ
of_word text begins c = if begins && not (is_empty text) then 32 ∷ c ∷ [] else c ∷ []

-- what becomes of a character: by its first place in `from` the one at that place in `to`, nothing where `to` has none
-- there, and itself where `from` has it not
abbrev pub translation : List ℕ → List ℕ → ℕ → Option ℕ
translation from to c = option_map_or (λ place. slice_get to place) (position (λ other. other == c) from) (Some c)

abbrev pub translated : List ℕ → List ℕ → List ℕ → List ℕ
translated text from to = filter_map (translation from to) text
