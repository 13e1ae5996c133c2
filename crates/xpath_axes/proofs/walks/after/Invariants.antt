use Rattle.std.proofs.Common.{◌≡◌, drop}
use Rattle.xpath_axes.specs.Walks.{after}
use Rattle.xpath_axes.proofs.walks.after.Given as goal

-- the node is none of those so far
abbrev pub invariant-loop-place : goal.invariant-loop-place
invariant-loop-place l = after l.node (drop l.place l.kids) ≡ after l.node l.kids
