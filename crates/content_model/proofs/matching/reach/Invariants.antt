use Rattle.std.proofs.Common.{◌≡◌, fold, map, Bor}
use Rattle.content_model.specs.declared.particle.Node.{Node}
use Rattle.content_model.specs.Passes.{reach_node}
use Rattle.content_model.proofs.matching.reach.Given as goal

abbrev pub invariant-loop-node : goal.invariant-loop-node
invariant-loop-node l = l.stacks ≡ fold (reach_node l.symbol) l.fn.stacks (map (λ (b : Bor Node). b.now) l.yielded)
