-- Groups that become lines one by one (this project's own).
use Rattle.std.specs.Prelude.{ℕ, ◌==◌, List, [], ◌∷◌, ◌++◌, length, filter, if◌then◌else◌}
use Rattle.std.specs.List.{flat_map}
use Rattle.result_origin.specs.Parts.{Mark}
use Rattle.result_origin.specs.declared.pages.Line.{Line}
use Rattle.simple_pages.specs.Groups.{ShownRun, groups_in, up_to_end, is_line}
use Rattle.simple_pages.specs.Pages.{line_at, lines_from}

-- the lines so far, the runs of the group that is not closed yet, and how many elements and attributes are open
pub record LayingValue : Type 0 where
  pub lines : List Line
  pub group : List ShownRun
  pub elements : ℕ
  pub attributes : ℕ

-- with a run more, outside attributes
abbrev pub with_run : LayingValue → ShownRun → LayingValue
with_run old run = if old.attributes == 0 then record old { group = old.group ++ run ∷ [] } else old

-- the lines with that of a group, where it is one
abbrev pub with_group : List Line → List ShownRun → List Line
with_group lines group = if is_line group then lines ++ line_at (length lines) group ∷ [] else lines

-- the group is closed
abbrev pub closed : LayingValue → LayingValue
closed old = record old { lines = with_group old.lines old.group; group = [] }

-- groups the first of which goes on what is there
abbrev pub behind_group : List ShownRun → List (List ShownRun) → List (List ShownRun)
behind_group group [] = group ∷ []
behind_group group (first ∷ groups) = (group ++ first) ∷ groups

-- the lines so far, with those of what follows
abbrev pub finished : List Line → List ShownRun → List (List ShownRun) → List Line
finished lines group groups = lines ++ lines_from (length lines) (filter is_line (behind_group group groups))

abbrev pub finished_with : LayingValue → List Mark → List Line
finished_with so_far marks = finished so_far.lines so_far.group (groups_in so_far.attributes (up_to_end so_far.elements marks))

-- the runs of groups, one after another
abbrev pub joined : List (List ShownRun) → List ShownRun
joined groups = flat_map (λ (group : List ShownRun). group) groups
