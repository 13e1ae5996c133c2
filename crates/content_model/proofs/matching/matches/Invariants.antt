use Rattle.std.proofs.Common.{◌≡◌, ℕ, reverse, drop}
use Rattle.content_model.specs.Particle.{Particle}
use Rattle.content_model.specs.Passes.{nodes_of}
use Rattle.content_model.proofs.Moment.{Moment}
use Rattle.content_model.proofs.matching.matches.Given as goal

abbrev pub invariant-loop-symbol : goal.invariant-loop-symbol
invariant-loop-symbol l = (p : Particle ℕ) → reverse l.nodes ≡ nodes_of (λ n. n) p → Moment p l.word (drop l.symbol-index l.word) l.stacks l.begins l.ends
