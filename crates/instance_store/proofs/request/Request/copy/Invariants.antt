use Rattle.std.proofs.Common.{◌≡◌, take}
use Rattle.instance_store.proofs.request.Request.copy.Given as goal

-- the parameters so far are copied
abbrev pub invariant-loop-binding : goal.invariant-loop-binding
invariant-loop-binding l = l.passed ≡ take l.binding-index l.binding-items
