-- Colours, as numbers 0xRRGGBB. The forms are those of XSL 1.1, 5.11 and 5.9.9, which are those of CSS 2,
-- 4.3.6; the sixteen names are those of HTML 4.01, 6.5, in lower case.
use Rattle.std.specs.Prelude.{◌≡◌, ℕ, ◌+◌, ◌*◌, ◌≤◌, ◌⊎◌, List, [], ◌∷◌, ◌++◌, length, Option, Some}
use Rattle.std.specs.Str.{bytes_eq}
use Rattle.std.specs.Str.Parse.{AllDigits, digits_value}
use Rattle.std.specs.Map.{lookup}
use lib.Chars.{codes}
use Rattle.fo_lengths.specs.Padding.{IsPadded}
use Rattle.fo_lengths.specs.WholeNumber.{IsWholeNumber}

-- six hexadecimal digits of either letter case: two for red, two for green, two for blue
pub record IsSixDigits (digits : List ℕ) (color : ℕ) : Type 0 where
  pub hexadecimal : AllDigits 16 digits
  pub six : length digits ≡ 6
  pub value : color ≡ digits_value 16 digits

-- the digits of #rrggbb, or those of #rgb, each of which stands for two of it
abbrev pub IsHexDigits : List ℕ → ℕ → Type 0
IsHexDigits digits color = IsSixDigits digits color
    ⊎ ((r : ℕ) × (g : ℕ) × (b : ℕ) × (digits ≡ r ∷ g ∷ b ∷ []) × IsSixDigits (r ∷ r ∷ g ∷ g ∷ b ∷ b ∷ []) color)

-- # and hexadecimal digits
pub record IsHex (value : List ℕ) (color : ℕ) : Type 0 where
  pub digits : List ℕ
  pub written : value ≡ codes "#" ++ digits
  pub hexadecimal : IsHexDigits digits color

-- a part of rgb( ): a whole number, at most 255
pub record IsChannel (digits : List ℕ) (channel : ℕ) : Type 0 where
  pub number : IsWholeNumber digits channel
  pub byte : channel ≤ 255

-- rgb(red,green,blue), with no space in it
pub record IsRgb (value : List ℕ) (color : ℕ) : Type 0 where
  pub red_digits : List ℕ
  pub green_digits : List ℕ
  pub blue_digits : List ℕ
  pub written : value ≡ codes "rgb(" ++ (red_digits ++ (codes "," ++ (green_digits ++ (codes "," ++ (blue_digits ++ codes ")")))))
  pub red : ℕ
  pub green : ℕ
  pub blue : ℕ
  pub is_red : IsChannel red_digits red
  pub is_green : IsChannel green_digits green
  pub is_blue : IsChannel blue_digits blue
  pub mixed : color ≡ red * 0x1_0000 + green * 0x100 + blue

-- the sixteen names, with their colours
abbrev pub color_names : List (List ℕ × ℕ)
color_names = (codes "black", 0x00_0000) ∷ (codes "silver", 0xc0_c0c0) ∷ (codes "gray", 0x80_8080) ∷ (codes "white", 0xff_ffff)
    ∷ (codes "maroon", 0x80_0000) ∷ (codes "red", 0xff_0000) ∷ (codes "purple", 0x80_0080) ∷ (codes "fuchsia", 0xff_00ff)
    ∷ (codes "green", 0x00_8000) ∷ (codes "lime", 0x00_ff00) ∷ (codes "olive", 0x80_8000) ∷ (codes "yellow", 0xff_ff00)
    ∷ (codes "navy", 0x00_0080) ∷ (codes "blue", 0x00_00ff) ∷ (codes "teal", 0x00_8080) ∷ (codes "aqua", 0x00_ffff) ∷ []

-- the colour of that name, if there is one
abbrev pub color_named : List ℕ → Option ℕ
color_named name = lookup (bytes_eq name) color_names

-- one of the forms
abbrev pub IsColorValue : List ℕ → ℕ → Type 0
IsColorValue value color = IsHex value color ⊎ (IsRgb value color ⊎ (color_named value ≡ Some color))

-- the text is a colour, spaces at its ends aside
abbrev pub IsColor : List ℕ → ℕ → Type 0
IsColor text color = (value : List ℕ) × IsPadded text value × IsColorValue value color
