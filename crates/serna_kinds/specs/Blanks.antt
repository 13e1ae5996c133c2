-- White space (XML 1.0, section 2.3).
use Rattle.std.specs.Prelude.{ℕ, ◌==◌, ◌||◌, Bool, List}
use Rattle.std.specs.List.{list_all}

-- a space, a tab, CR or LF
abbrev pub is_space : ℕ → Bool
is_space c = c == 32 || c == 9 || c == 13 || c == 10

-- white space alone, or nothing
abbrev pub is_blank : List ℕ → Bool
is_blank text = list_all is_space text
