-- The characters of lines, and the escapes in texts (this project's own): `\\` means a backslash, `\n` LF and `\t` a tab.
use Rattle.std.specs.Prelude.{ℕ, ◌==◌, ◌&&◌, ◌||◌, not, nat_le, Bool, true, false, List, [], ◌∷◌, ◌++◌, length, encode_utf8_all, if◌then◌else◌}
use Rattle.std.specs.List.{list_all}
use Rattle.std.specs.Str.{chars, is_utf8}

-- every character but those below U+0020, U+FFFE and U+FFFF (after XML 1.0, section 2.2, Char)
abbrev pub is_allowed : ℕ → Bool
is_allowed c = nat_le 32 c && not (c == 65534) && not (c == 65535)

-- a line may have these bytes: UTF-8, of allowed characters
abbrev pub is_line : List ℕ → Bool
is_line bytes = is_utf8 bytes && list_all is_allowed (chars bytes)

abbrev pub is_backslash : ℕ → Bool
is_backslash c = c == 92

-- what may stand behind a backslash
abbrev pub is_escape : ℕ → Bool
is_escape c = c == 92 || c == 110 || c == 116

-- each backslash has its escape, where the text stands behind a backslash or not
abbrev pub are_escaped : Bool → List ℕ → Bool
are_escaped false [] = true
are_escaped true [] = false
are_escaped false (c ∷ cs) = are_escaped (is_backslash c) cs
are_escaped true (c ∷ cs) = is_escape c && are_escaped false cs

-- the character that an escape means; what is no escape stays as it is
abbrev pub unescaped : ℕ → List ℕ
unescaped c = if c == 92 then 92 ∷ [] else (if c == 110 then 10 ∷ [] else (if c == 116 then 9 ∷ [] else 92 ∷ c ∷ []))

abbrev pub unescaped_behind : Bool → List ℕ → List ℕ
unescaped_behind false [] = []
unescaped_behind true [] = 92 ∷ []
unescaped_behind false (c ∷ cs) = if is_backslash c then unescaped_behind true cs else c ∷ unescaped_behind false cs
unescaped_behind true (c ∷ cs) = unescaped c ++ unescaped_behind false cs

-- the escapes of a text's bytes are right
abbrev pub has_escapes : List ℕ → Bool
has_escapes bytes = are_escaped false (chars bytes)

-- the characters that a text's bytes mean
abbrev pub meant : List ℕ → List ℕ
meant bytes = unescaped_behind false (chars bytes)

-- how many bytes characters take
abbrev pub size_of : List ℕ → ℕ
size_of text = length (encode_utf8_all text)
