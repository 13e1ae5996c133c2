-- What a text with escapes means while it is read, character by character (this project's own).
use Rattle.std.specs.Prelude.{ℕ, ◌&&◌, Bool, List, ◌++◌}
use Rattle.tree_lines.specs.Texts.{are_escaped, unescaped_behind}

-- the characters so far, whether a backslash waits for its escape, and whether each escape so far is right
pub record Decoding : Type 0 where
  pub text : List ℕ
  pub is_behind : Bool
  pub is_right : Bool

-- what the text means, and whether its escapes are right, with the characters that are left
abbrev pub text_with : Decoding → List ℕ → List ℕ
text_with d rest = d.text ++ unescaped_behind d.is_behind rest

abbrev pub right_with : Decoding → List ℕ → Bool
right_with d rest = d.is_right && are_escaped d.is_behind rest
