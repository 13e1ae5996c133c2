use Rattle.std.proofs.Common.{◌≡◌, ◌++◌, map, drop}
use Rattle.result_origin.specs.Parts.{marks_in}
use Rattle.result_origin.specs.Items.{part_of}
use Rattle.simple_pages.specs.Groups.{groups_in, runs_in}
use Rattle.simple_pages.specs.Shown.{shown_of}
use Rattle.simple_pages.specs.Laying.{joined}
use Rattle.simple_pages.proofs.groups.one_line.Given as goal

-- the runs so far, with those of what is left, are all
abbrev pub invariant-loop-item : goal.invariant-loop-item
invariant-loop-item l = map shown_of l.runs ++ joined (groups_in l.attributes (marks_in (map part_of (drop l.item-index l.items)))) ≡ runs_in (marks_in (map part_of l.items))
