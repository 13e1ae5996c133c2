use Rattle.std.proofs.Common.{ℕ, List}
use Rattle.xpath_values.proofs.Fronts.{IsParted}
use Rattle.xpath_values.proofs.texts.split_behind.Given as goal

abbrev pub invariant-loop : goal.invariant-loop
invariant-loop l = (front : List ℕ) × IsParted l.text front l.rest.rest.now l.counter
