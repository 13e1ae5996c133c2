-- The numbers are those of the rules so far.
use Rattle.std.proofs.Common.{◌≡◌, map, take}
use Rattle.style_sheet.specs.declared.style.Rule.{Rule}
use Rattle.style_sheet.proofs.order.greatest_first.Given as goal

abbrev pub invariant-loop-rule : goal.invariant-loop-rule
invariant-loop-rule l = l.order ≡ map (λ (r : Rule). r.place) (take l.rule-index l.rule-items)
