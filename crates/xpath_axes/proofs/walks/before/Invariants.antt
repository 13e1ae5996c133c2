use Rattle.std.proofs.Common.{◌≡◌, ◌++◌, drop, take}
use Rattle.xpath_axes.specs.Walks.{before}
use Rattle.xpath_axes.proofs.walks.before.Given as goal

-- the node is none of those so far
abbrev pub invariant-loop-place : goal.invariant-loop-place
invariant-loop-place l = take l.place l.kids ++ before l.node (drop l.place l.kids) ≡ before l.node l.kids
