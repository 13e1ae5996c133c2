use Rattle.std.proofs.Common.{◌≡◌, map, drop}
use Rattle.result_origin.specs.Parts.{marks_in}
use Rattle.result_origin.specs.Items.{part_of}
use Rattle.simple_pages.specs.Laying.{finished_with}
use Rattle.simple_pages.proofs.groups.lay.Given as goal

-- the lines so far, with those of what is left, are those of all
abbrev pub invariant-loop-item : goal.invariant-loop-item
invariant-loop-item l = finished_with l.laying (marks_in (map part_of (drop l.item-index l.items))) ≡ finished_with l.fn.laying (marks_in (map part_of l.items))
