use Rattle.std.proofs.Common.{◌≡◌, map, pos}
use Rattle.fo_tables.specs.Heights.{tall_cells, heights_of}
use Rattle.fo_tables.proofs.heights.row_heights.Given as goal

-- the heights of the rows so far
abbrev pub invariant-loop-needs : goal.invariant-loop-needs
invariant-loop-needs l = record {
  earlier : l.earlier ≡ heights_of (tall_cells l.fn.cells l.fn.heights) l.needs-index;
  found : l.found ≡ map pos l.earlier;
}
