use Rattle.std.proofs.Common.{◌≡◌, ◌++◌, take}
use Rattle.std.specs.List.{flat_map}
use Rattle.template_run.specs.Instances.{attribute_parts}
use Rattle.template_run.proofs.result.RunResult.say_attributes.Given as goal

-- the attributes so far are added
abbrev pub invariant-loop-pair : goal.invariant-loop-pair
invariant-loop-pair l = l.self ≡ l.initial.self ++ flat_map (attribute_parts l.rule) (take l.pair-index l.pairs)
