use Rattle.std.proofs.Common.{◌≡◌, ◌++◌, ◌∷◌, [], ◌+◌, ◌-◌, ◌<◌, length, take, arith, ap, ◌∙◌, sym}
use Rattle.std.proofs.lemmas.Bool.{eqb-false}
use Rattle.std.proofs.lemmas.List.{length-drop}
use Rattle.plain_editor.specs.Input.{lines_of}
use Rattle.serna_main.specs.Lines.{numbered_lines}
use Rattle.serna_main.proofs.Splitting.{next_line}
use Rattle.serna_main.proofs.sections.split_lines.Goals as goal

pub lines-preserved : goal.lines-preserved
lines-preserved c =
    let not_empty = eqb-false (length c.lines.rest.now) 0 (sym c.lines-test.ensures) in
    let some : 0 < length c.lines.rest.now = omega (arith, not_empty) in
    let long : length c.behind-rest.result.now ≡ length c.lines.rest.now - (c.line_len-len.result + 1) =
    ap length c.behind-rest.ensures ∙ length-drop (c.line_len-len.result + 1) c.lines.rest.now in
    let inv = c.lines.invariant in
    let line : c.in_ok-from_slice.field-0 ≡ take c.line_len-len.result c.lines.rest.now = c.in_ok-from_slice.ensures in (
      ap (λ ls. ls ++ numbered_lines (c.lines.number + 1) (lines_of c.behind-rest.result.now)) c.in_ok-push.ensures.items
          ∙ ap (λ r. (c.lines.lines.items ++ record { number = c.lines.number; bytes = c.in_ok-from_slice.field-0 } ∷ []) ++ numbered_lines (c.lines.number + 1) (lines_of r)) c.behind-rest.ensures
          ∙ next_line c.lines.lines.items c.lines.rest.now c.line_len-len.result c.lines.number (record { number = c.lines.number; bytes = c.in_ok-from_slice.field-0 })
          (numbered_lines 1 (lines_of c.args.bytes.now)) some c.line_len-len.ensures (ap (λ b. record { number = c.lines.number; bytes = b }) line) inv.0,
      omega (arith, inv.1, long, some),
    )
