use Rattle.std.proofs.Common.{◌≡◌, ◌&&◌, ◌≤◌, take}
use Rattle.line_fill.specs.Cuts.{greatest, used, fits, may_end}
use Rattle.line_fill.proofs.cuts.reach_of.Given as goal

-- the clusters so far fit, and the last place among them is known at which the line may end
abbrev pub invariant-loop-place : goal.invariant-loop-place
invariant-loop-place l = record {
  width : l.width ≡ used (take l.place l.clusters);
  words : l.words ≡ greatest (λ count. may_end l.clusters count && fits l.room l.clusters count) l.place;
  reached : l.words ≤ l.place;
  fitting : greatest (fits l.room l.clusters) l.place ≡ l.place;
}
