-- The command lines of a script (this project's own): `show`, `where` and `source`; `at P L C`, each a number of one to nine digits; `type TEXT`, the text
-- not empty, in printable ASCII, with the escapes of a document's text lines. Every other line is of a form that is not built.
use Rattle.std.specs.Prelude.{ℕ, ◌+◌, ◌*◌, ◌-◌, ◌==◌, ◌&&◌, nat_le, List, [], ◌∷◌, fold, length, Option, Some, None, codes, bytes_eq, if◌then◌else◌}
use Rattle.std.specs.List.{onto_first, list_all}
use Rattle.serna_kinds.specs.Qualified.{is_digit}
use Rattle.tree_lines.specs.Texts.{has_escapes, meant}
use Rattle.plain_editor.specs.Plain.{is_plain}

pub data Command : Type 0 where
  Show : Command
  At : ℕ → ℕ → ℕ → Command
  Typing : List ℕ → Command
  Where : Command
  Tree : Command
  NotBuilt : Command

abbrev pub show_word : List ℕ
show_word = codes "show"

abbrev pub where_word : List ℕ
where_word = codes "where"

abbrev pub source_word : List ℕ
source_word = codes "source"

abbrev pub at_word : List ℕ
at_word = codes "at "

abbrev pub type_word : List ℕ
type_word = codes "type "

-- what follows a front of a line; None where the line does not begin so
abbrev pub behind_front : List ℕ → List ℕ → Option (List ℕ)
behind_front [] line = Some line
behind_front (c ∷ front) [] = None
behind_front (c ∷ front) (d ∷ line) = if c == d then behind_front front line else None

-- the parts of a line between its spaces
abbrev pub parts_of : List ℕ → List (List ℕ)
parts_of [] = [] ∷ []
parts_of (c ∷ cs) = if c == 32 then [] ∷ parts_of cs else onto_first c (parts_of cs)

-- the number that digits say
abbrev pub number_of : List ℕ → ℕ
number_of digits = fold (λ number digit. number * 10 + (digit - 48)) 0 digits

-- one to nine digits
abbrev pub read_number : List ℕ → Option ℕ
read_number digits = if nat_le 1 (length digits) && nat_le (length digits) 9 && list_all is_digit digits then Some (number_of digits) else None

abbrev pub at_place : Option ℕ → Option ℕ → Option ℕ → Command
at_place None line column = NotBuilt
at_place (Some page) None column = NotBuilt
at_place (Some page) (Some line) None = NotBuilt
at_place (Some page) (Some line) (Some column) = At page line column

abbrev pub at_parts : List (List ℕ) → Command
at_parts [] = NotBuilt
at_parts (page ∷ []) = NotBuilt
at_parts (page ∷ line ∷ []) = NotBuilt
at_parts (page ∷ line ∷ column ∷ []) = at_place (read_number page) (read_number line) (read_number column)
at_parts (page ∷ line ∷ column ∷ more ∷ parts) = NotBuilt

abbrev pub typing : List ℕ → Command
typing [] = NotBuilt
typing (c ∷ cs) = if is_plain (c ∷ cs) && has_escapes (c ∷ cs) then Typing (meant (c ∷ cs)) else NotBuilt

-- the command that a line says
abbrev pub command_of : List ℕ → Command
command_of line =
    if bytes_eq line show_word then Show
    else if bytes_eq line where_word then Where
    else if bytes_eq line source_word then Tree
    else elim (behind_front at_word line) [
      | Some rest ↦ at_parts (parts_of rest)
      | None ↦ elim (behind_front type_word line) [ Some text ↦ typing text | None ↦ NotBuilt ]
    ]
