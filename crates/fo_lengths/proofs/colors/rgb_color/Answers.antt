use Rattle.std.proofs.Common.{Some, length, sym, ◌∙◌, ap, arith}
use Rattle.std.proofs.lemmas.Bool.{eqb-false}
use Rattle.fo_lengths.proofs.ColorForms.{red_split, green_split, blue_split}
use Rattle.fo_lengths.proofs.colors.rgb_color.Goals as goal

pub returns-in_err-red-clause-only : goal.returns-in_err-red-clause-only
returns-in_err-red-clause-only c color is = absurd (c.in_err-red.ensures.only is.red _ (red_split c.args.rest.now color is))

pub returns-in_err-green-clause-only : goal.returns-in_err-green-clause-only
returns-in_err-green-clause-only c color is =
    let red = c.in_ok-red.ensures.only is.red _ (red_split c.args.rest.now color is) in
    absurd (c.in_err-green.ensures.only is.green _ (green_split _ c.in_ok-red.rest.now color is red.1))

pub returns-in_err-blue-clause-only : goal.returns-in_err-blue-clause-only
returns-in_err-blue-clause-only c color is =
    let red = c.in_ok-red.ensures.only is.red _ (red_split c.args.rest.now color is) in
    let green = c.in_ok-green.ensures.only is.green _ (green_split _ c.in_ok-red.rest.now color is red.1) in
    absurd (c.in_err-blue.ensures.only is.blue _ (blue_split _ c.in_ok-green.rest.now color is green.1))

pub returns-then-is_empty-clause-only : goal.returns-then-is_empty-clause-only
returns-then-is_empty-clause-only c color is =
    let red = c.in_ok-red.ensures.only is.red _ (red_split c.args.rest.now color is) in
    let green = c.in_ok-green.ensures.only is.green _ (green_split _ c.in_ok-red.rest.now color is red.1) in
    let blue = c.in_ok-blue.ensures.only is.blue _ (blue_split _ c.in_ok-green.rest.now color is green.1) in
    ap Some (omega (arith, c.color_of.ensures, is.mixed, red.0, green.0, blue.0))

pub returns-else-is_empty-clause-only : goal.returns-else-is_empty-clause-only
returns-else-is_empty-clause-only c color is =
    let red = c.in_ok-red.ensures.only is.red _ (red_split c.args.rest.now color is) in
    let green = c.in_ok-green.ensures.only is.green _ (green_split _ c.in_ok-red.rest.now color is red.1) in
    let blue = c.in_ok-blue.ensures.only is.blue _ (blue_split _ c.in_ok-green.rest.now color is green.1) in
    absurd (eqb-false (length c.in_ok-blue.rest.now) 0 (sym c.is_empty.ensures ∙ c.if-is_empty.false) (ap length blue.1))
