use Rattle.std.proofs.Common.{◌≡◌, ◌<◌, ◌-◌, pos, ap, ◌∙◌, arith, rules, w64}
use mir.Val.{SFits}
use Rattle.std.proofs.lemmas.Int.{to_z-of_z, to_z_pos}
use Rattle.line_fill.specs.Sums.{plus}
use Rattle.line_fill.specs.Lines.{indent_at, moved, free_in}
use Rattle.line_fill.proofs.filling.x_of.Goals as goal

pub returns : goal.returns
returns c =
    let near : c.moved.result < 9_223_372_036_854_775_808 = omega (arith, c.moved.ensures.within, c.saturating_sub-free.ensures, c.room_at.ensures.small) in
    let all_fits : SFits w64 c.plus.result = search rules in
    let some_fits : SFits w64 c.plus-indented.result = search rules in
    let left_fits : SFits w64 c.args.para.now.left = search rules in
    let indent_fits : SFits w64 c.indent_at.result = search rules in
    let some : c.plus-indented.result ≡ plus c.args.para.now.left (indent_at c.args.para.now c.args.span.from)
    = c.plus-indented.ensures
    ∙ ((λ i. plus (to_z-of_z w64 c.args.para.now.left left_fits i) (to_z-of_z w64 c.indent_at.result indent_fits i)) ∙ ap (plus c.args.para.now.left) c.indent_at.ensures) in
    let shift : c.moved.result ≡ moved c.args.para.now.align (free_in c.args.para.now c.args.clusters.now c.args.span)
    = c.moved.ensures.value ∙ ap (moved c.args.para.now.align) (c.saturating_sub-free.ensures ∙ (λ i. c.room_at.ensures.value i - c.used.ensures i)) in
    to_z-of_z w64 c.plus.result all_fits
    ∙ (c.plus.ensures
    ∙ ((λ i. plus (to_z-of_z w64 c.plus-indented.result some_fits i) (to_z_pos w64 c.moved.result near i)) ∙ (λ i. plus (some i) (pos (shift i)))))
