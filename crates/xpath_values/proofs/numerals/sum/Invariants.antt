use Rattle.std.proofs.Common.{◌≡◌, ◌*◌, ◌^◌, pos, neg_ℤ, ◌≤ℤ◌, map, drop}
use Rattle.xpath_values.specs.Numbers.{exact_sum}
use Rattle.xpath_values.specs.Numerals.{text_number}
use Rattle.xpath_values.proofs.Sums.{goes_on}
use Rattle.xpath_values.proofs.numerals.sum.Given as goal

abbrev pub invariant-loop-text : goal.invariant-loop-text
invariant-loop-text l =
    (goes_on l.total (map text_number (drop l.text-index l.texts)) ≡ exact_sum (map text_number l.texts))
    × (neg_ℤ (pos (10 ^ 15 * l.text-index)) ≤ℤ l.total) × (l.total ≤ℤ pos (10 ^ 15 * l.text-index))
