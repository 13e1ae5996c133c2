use Rattle.std.proofs.Common.{◌≡◌, ◌++◌, drop}
use Rattle.xpath_axes.specs.Ordered.{each_once}
use Rattle.xpath_axes.proofs.order.of_each_path.Given as goal

-- what is kept so far, with what is kept of the rest
abbrev pub invariant-loop-place : goal.invariant-loop-place
invariant-loop-place l = l.found ++ each_once (drop l.place l.placed) ≡ each_once l.placed
