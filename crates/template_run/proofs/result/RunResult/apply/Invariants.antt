use Rattle.std.proofs.Common.{◌≡◌, ◌++◌, length, take}
use Rattle.template_run.specs.Requests.{holes_for}
use Rattle.template_run.proofs.result.RunResult.apply.Given as goal

-- the nodes so far are asked for
abbrev pub invariant-loop-before : goal.invariant-loop-before
invariant-loop-before l = l.self ≡ l.initial.self ++ holes_for l.mode 1 (length l.nodes) (take l.before l.nodes)
