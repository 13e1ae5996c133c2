-- One boundary more.
use Rattle.std.proofs.Common.{◌≡◌, ℕ, Bool, if◌then◌else◌, ap, arith}
use Rattle.live_editor.proofs.Looking.{count_more}
use Rattle.live_editor.proofs.editor.count_of.Goals as goal
use Rattle.live_editor.proofs.editor.count_of.Goals.{then-comes_from, else-comes_from}

pub loop-here-preserved : goal.loop-here-preserved
loop-here-preserved c =
    let more = count_more c.args.place c.args.boundaries.now c.loop-here.here-index _ c.comes_from.result c.loop-here-test.true c.comes_from.ensures in
    let inv = c.loop-here.invariant in
    elim c.if-comes_from.branch [
      | then-comes_from w ↦
          let one : ◌≡◌ {A = ℕ} (if c.comes_from.result then 1 else 0) 1 = ap (λ (t : Bool). if t then 1 else 0) w.if-comes_from.true in
          (omega (arith, more, inv.0, one, w.count-is), omega (arith, inv.1, w.count-is))
      | else-comes_from w ↦
          let none : ◌≡◌ {A = ℕ} (if c.comes_from.result then 1 else 0) 0 = ap (λ (t : Bool). if t then 1 else 0) w.if-comes_from.false in
          (omega (arith, more, inv.0, none, w.count-is), omega (arith, inv.1, w.count-is))
    ]
