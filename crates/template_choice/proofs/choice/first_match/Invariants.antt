use Rattle.std.proofs.Common.{◌≡◌, ℕ, Bool, Bor}
use Rattle.std.specs.Option.{option_map}
use Rattle.serna_kinds.specs.declared.cells.NodeRef.{NodeRef}
use Rattle.style_sheet.specs.declared.style.Rule.{Rule}
use Rattle.template_choice.proofs.Choosing.{NoneBefore, passes}
use Rattle.template_choice.proofs.choice.first_match.Given as goal

-- the matcher keeps its part, what agrees with it has agreed before, and under what agrees none of the rules passes that were gone through
abbrev pub invariant-loop-number : goal.invariant-loop-number
invariant-loop-number g l =
    (g.M.Matcher.part l.matcher ≡ g.M.Matcher.part l.fn.matcher)
    × ((relation : ℕ → NodeRef → Bool) → g.M.Matcher.agrees l.matcher relation → g.M.Matcher.agrees l.fn.matcher relation)
    × ((relation : ℕ → NodeRef → Bool) → g.M.Matcher.agrees l.matcher relation →
    NoneBefore l.style.rules l.number-items (passes l.wanted.mode (option_map (λ (rule : Bor Rule). rule.now) l.wanted.asking) (λ n. relation n l.request.node)) l.number-index)
