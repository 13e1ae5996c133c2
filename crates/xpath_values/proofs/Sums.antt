-- The sum of numbers, added up from the front.
use Rattle.std.proofs.Common.{◌≡◌, ℕ, zero, suc, ◌+◌, ◌^◌, ◌<◌, ℤ, pos, negsuc, neg_ℤ, ◌+ℤ◌, Bool, true, false, List, [], ◌∷◌, map, length, get_or, drop, subst, ◌≤ℤ◌, Option, Some, None, option_map, refl, sym, ◌∙◌, ap, arith}
use Rattle.std.specs.Int.RustNames.{unsigned_abs}
use Rattle.std.specs.Option.{option_map_or}
use Rattle.std.specs.Str.Parse.{digits_value}
use Rattle.std.proofs.lemmas.Int.{ints}
use Rattle.std.proofs.lemmas.List.{at_drop_more}
use Rattle.xpath_values.specs.declared.number.Num.{Num}
use Rattle.xpath_values.specs.declared.number.Num.TheVariants.{NaN, Whole}
use Rattle.xpath_values.specs.Numbers.{exact_sum, sum_of, number_of}
use Rattle.xpath_values.specs.Numerals.{signed, text_number}
use Rattle.xpath_values.proofs.Digits.{digits_room}
use Rattle.xpath_values.proofs.Spelling.{spells_from_whole}

-- the total so far and the sum of the rest are the sum of all
abbrev pub goes_on : ℤ → List Num → Option ℤ
goes_on total rest = option_map (λ z. total +ℤ z) (exact_sum rest)

plus_zero : (total : ℤ) → total +ℤ pos 0 ≡ total
plus_zero total = omega (arith, ints)

zero_plus : (o : Option ℤ) → option_map (λ z. pos 0 +ℤ z) o ≡ o
zero_plus None = refl
zero_plus (Some z) = ap Some (omega (arith, ints))

plus_more : (total x : ℤ) (o : Option ℤ) → option_map (λ z. total +ℤ z) (option_map (λ z. x +ℤ z) o) ≡ option_map (λ z. (total +ℤ x) +ℤ z) o
plus_more total x None = refl
plus_more total x (Some z) = ap Some (omega (arith, ints))

pub goes_on_first : (all : List Num) → goes_on (pos 0) all ≡ exact_sum all
goes_on_first all = zero_plus (exact_sum all)

pub goes_on_whole : (total x : ℤ) (rest : List Num) → goes_on total (Whole x ∷ rest) ≡ goes_on (total +ℤ x) rest
goes_on_whole total x rest = plus_more total x (exact_sum rest)

pub sum_at_nan : (total : ℤ) (rest all : List Num) → goes_on total (NaN ∷ rest) ≡ exact_sum all → sum_of all ≡ NaN
sum_at_nan total rest all e = ap (λ o. option_map_or number_of o NaN) (sym e)

pub sum_at_end : (total : ℤ) (all : List Num) → goes_on total [] ≡ exact_sum all → sum_of all ≡ number_of total
sum_at_end total all e = ap (λ o. option_map_or number_of o NaN) (sym e) ∙ ap number_of (plus_zero total)

-- a number that a text spells has at most 15 digits
small_signed : (negative : Bool) (n : ℕ) → n < 10 ^ 15 → unsigned_abs (signed negative n) < 10 ^ 15
small_signed true zero lt = lt
small_signed true (suc n) lt = lt
small_signed false n lt = lt

pub text_number_small : (text : List ℕ) (z : ℤ) → text_number text ≡ Whole z → unsigned_abs z < 10 ^ 15
text_number_small text z h =
    let spelt = (spells_from_whole text z h).spelt in
    subst (λ w. unsigned_abs w < 10 ^ 15) (sym spelt.amount) (small_signed spelt.negative (digits_value 10 spelt.digits) (digits_room spelt.digits spelt.decimal spelt.few))

bounds : (z : ℤ) → unsigned_abs z < 10 ^ 15 → (neg_ℤ (pos (10 ^ 15)) ≤ℤ z) × (z ≤ℤ pos (10 ^ 15))
bounds (pos n) lt = (omega (arith, ints), omega (arith, ints))
bounds (negsuc n) lt = (omega (arith, ints), omega (arith, ints))

pub text_number_bounds : (text : List ℕ) (z : ℤ) → text_number text ≡ Whole z → (neg_ℤ (pos (10 ^ 15)) ≤ℤ z) × (z ≤ℤ pos (10 ^ 15))
text_number_bounds text z h = bounds z (text_number_small text z h)

-- one text more
pub goes_on_more : (total x next : ℤ) (texts : List (List ℕ)) (i : ℕ) (text : List ℕ) (all : Option ℤ) → i < length texts → text ≡ get_or texts i text → text_number text ≡ Whole x → next ≡ total +ℤ x →
    goes_on total (map text_number (drop i texts)) ≡ all → goes_on next (map text_number (drop (i + 1) texts)) ≡ all
goes_on_more total x next texts i text all lt here number sum_is so_far =
    let rest : List Num = map text_number (drop (i + 1) texts) in
    let first : goes_on total (map text_number (drop i texts)) ≡ goes_on total (text_number (get_or texts i text) ∷ rest) = at_drop_more (λ ts. goes_on total (map text_number ts)) texts i text lt in
    ap (λ z. goes_on z rest) sum_is ∙ (sym (goes_on_whole total x rest)
    ∙ (ap (λ n. goes_on total (n ∷ rest)) (sym number ∙ ap text_number here) ∙ (sym first ∙ so_far)))
