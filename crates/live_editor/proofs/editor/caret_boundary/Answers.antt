-- Boundary by boundary.
use Rattle.std.proofs.Common.{◌≡◌, ◌+◌, ℕ, if◌then◌else◌, refl, ap, arith}
use Rattle.live_editor.proofs.Looking.{count_more}
use Rattle.live_editor.proofs.StandingLaws.{looks_first, looks_found, looks_further}
use Rattle.live_editor.proofs.editor.caret_boundary.Goals as goal

pub loop-here-init : goal.loop-here-init
loop-here-init c = (looks_first c.args.caret.place c.args.caret.occurrence c.args.boundaries.now, refl, omega arith)

pub returns-then-count-caret : goal.returns-then-count-caret
returns-then-count-caret c =
    let inv = c.loop-here.invariant in
    looks_found c.args.caret.place c.args.caret.occurrence c.args.boundaries.now c.loop-here.here-index c.loop-here.last _ c.comes_from.result (c.loop-here.count + 1) c.loop-here-test.true c.comes_from.ensures
    c.if-not-comes_from.false (let n = inv.1 in omega (arith, n)) c.if-count-caret.true inv.0

pub loop-here-preserved : goal.loop-here-preserved
loop-here-preserved c =
    let inv = c.loop-here.invariant in
    let more = count_more c.args.caret.place c.args.boundaries.now c.loop-here.here-index _ c.comes_from.result c.loop-here-test.true c.comes_from.ensures in
    let one : ◌≡◌ {A = ℕ} (if c.comes_from.result then 1 else 0) 1 = ap (λ t. if t then 1 else 0) c.if-not-comes_from.false in
    let n = inv.1 in
    let few = inv.2 in (
      looks_further c.args.caret.place c.args.caret.occurrence c.args.boundaries.now c.loop-here.here-index c.loop-here.last _ c.comes_from.result (c.loop-here.count + 1) c.loop-here-test.true c.comes_from.ensures
          c.if-not-comes_from.false (omega (arith, n)) c.if-count-caret.false inv.0,
      omega (arith, n, more, one),
      omega (arith, few),
    )
