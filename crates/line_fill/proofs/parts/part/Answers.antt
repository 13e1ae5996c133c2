use Rattle.std.proofs.Common.{◌≡◌, ◌-◌, ◌≤◌, ap, sym, ◌∙◌, subst}
use Rattle.line_fill.specs.Clusters.{place_behind}
use Rattle.line_fill.proofs.Places.{in_order}
use Rattle.line_fill.proofs.parts.part.Goals as goal

pub new-requires-clause-ordered : goal.new-requires-clause-ordered
new-requires-clause-ordered c =
    let start : c.place_behind-start.result ≡ place_behind c.args.run.now (c.args.span.from - c.args.low)
    = c.place_behind-start.ensures.value ∙ ap (place_behind c.args.run.now) c.saturating_sub.ensures in
    let finish : c.place_behind-finish.result ≡ place_behind c.args.run.now (c.args.span.to - c.args.low)
    = c.place_behind-finish.ensures.value ∙ ap (place_behind c.args.run.now) c.saturating_sub-2.ensures in
    subst (λ a. a ≤ c.place_behind-finish.result) (sym start)
    (subst (λ b. place_behind c.args.run.now (c.args.span.from - c.args.low) ≤ b) (sym finish) (in_order c.args.run.now c.args.span.from c.args.span.to c.args.low c.requires.ordered))
