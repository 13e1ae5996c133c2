use Rattle.std.proofs.Common.{ℤ, w64, sym, ◌∙◌, ap, rules}
use mir.Val.{SFits}
use Rattle.xpath_values.specs.declared.number.Num.TheVariants.{Whole}
use Rattle.xpath_values.specs.Numbers.{number_of, modulo}
use Rattle.xpath_values.proofs.Division.{modulo_whole, wide_rem}
use Rattle.xpath_values.proofs.number.NumRem.rem.Goals as goal

pub returns-else-right-eq0 : goal.returns-else-right-eq0
returns-else-right-eq0 c =
    let l : ℤ = c.in-Whole-Whole.left in
    let r : ℤ = c.in-Whole-Whole.right in
    let fits_l : SFits w64 l = search rules in
    let fits_r : SFits w64 r = search rules in
    let a = c.in-Whole-Whole.is-0 in
    let b = c.in-Whole-Whole.is-1 in
    c.new.ensures ∙ (ap number_of (wide_rem l r _ _ fits_l fits_r c.from.ensures c.from-in-Whole-Whole.ensures) ∙ (modulo_whole l r c.if-right-eq0.false ∙ (ap (λ n. modulo n (Whole r)) (sym a) ∙ ap (λ n. modulo c.args.self n) (sym b))))
