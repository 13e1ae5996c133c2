use Rattle.text_units.proofs.BoundaryLemmas.{IsBoundary-from_break, break_from-IsBoundary}
use Rattle.text_units.proofs.laws.boundaries_follow_the_rules.Goals as goal

pub returns : goal.returns
returns c = λ text at u place. (break_from-IsBoundary text at u, IsBoundary-from_break text at u place)
