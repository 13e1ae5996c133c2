use Rattle.std.proofs.Common.{◌≡◌, fold, take}
use Rattle.content_model.specs.Passes.{settle_node}
use Rattle.content_model.proofs.matching.settle.Given as goal

abbrev pub invariant-loop-node : goal.invariant-loop-node
invariant-loop-node l = l.stacks ≡ fold settle_node l.fn.stacks (take l.node-index l.nodes)
