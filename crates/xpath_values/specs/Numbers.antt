-- Numbers and their operations (XPath 1.0, 3.5 and 4.4). That numbers are whole and have at most 15 digits,
-- and that a result past them is NaN, is this project's own.
use Rattle.std.specs.Prelude.{◌^◌, Bool, true, false, ◌&&◌, not, nat_lt, if◌then◌else◌, IsTrue, ℤ, pos, neg_ℤ, ◌+ℤ◌, ◌-ℤ◌, ◌*ℤ◌, unsigned_abs, int_rem, int_lt, int_le, List, [], ◌∷◌, Option, None, Some, option_map}
use Rattle.std.specs.Option.{option_map_or}
use Rattle.xpath_values.specs.declared.number.Num.{Num}
use Rattle.xpath_values.specs.declared.number.Num.TheVariants.{NaN, Whole}

-- at most 15 digits, the sign aside
abbrev pub is_short : ℤ → Bool
is_short value = nat_lt (unsigned_abs value) (10 ^ 15)

-- a number as this crate makes it: NaN, or a whole number of at most 15 digits
abbrev pub IsNumber : Num → Type 0
IsNumber NaN = Unit {0}
IsNumber (Whole value) = IsTrue (is_short value)

-- the number of that value, and NaN past 15 digits
abbrev pub number_of : ℤ → Num
number_of value = if is_short value then Whole value else NaN

-- what f makes of a value, and NaN of NaN
abbrev pub of_one : (ℤ → Num) → Num → Num
of_one f NaN = NaN
of_one f (Whole x) = f x

-- what f makes of two values, and NaN where either is NaN
abbrev pub of_both : (ℤ → ℤ → Num) → Num → Num → Num
of_both f NaN y = NaN
of_both f (Whole x) y = of_one (f x) y

abbrev pub plus : Num → Num → Num
plus x y = of_both (λ a b. number_of (a +ℤ b)) x y

abbrev pub minus : Num → Num → Num
minus x y = of_both (λ a b. number_of (a -ℤ b)) x y

abbrev pub times : Num → Num → Num
times x y = of_both (λ a b. number_of (a *ℤ b)) x y

abbrev pub is_zero : ℤ → Bool
is_zero z = nat_lt (unsigned_abs z) 1

-- the remainder of a truncating division, which has the sign of the dividend (3.5); NaN for the divisor 0
abbrev pub modulo : Num → Num → Num
modulo x y = of_both (λ a b. if is_zero b then NaN else number_of (int_rem a b)) x y

abbrev pub negated : Num → Num
negated x = of_one (λ a. number_of (neg_ℤ a)) x

-- floor, ceiling and round (4.4): a whole number is the nearest whole number below, above and on either side
abbrev pub rounded : Num → Num
rounded x = of_one number_of x

-- the exact sum, where all are numbers
abbrev pub exact_sum : List Num → Option ℤ
exact_sum [] = Some (pos 0)
exact_sum (NaN ∷ rest) = None
exact_sum (Whole x ∷ rest) = option_map (λ total. x +ℤ total) (exact_sum rest)

-- the sum, judged on its total alone (4.4)
abbrev pub sum_of : List Num → Num
sum_of numbers = option_map_or number_of (exact_sum numbers) NaN

-- true is 1 and false 0 (4.4)
abbrev pub truth_number : Bool → Num
truth_number true = Whole (pos 1)
truth_number false = Whole (pos 0)

-- NaN and 0 are false, and every other number is true (4.3)
abbrev pub number_truth : Num → Bool
number_truth NaN = false
number_truth (Whole x) = not (is_zero x)

-- x = y, x < y and x <= y (3.4): none holds of NaN
abbrev pub are_equal : Num → Num → Bool
are_equal NaN y = false
are_equal (Whole a) NaN = false
are_equal (Whole a) (Whole b) = int_le a b && int_le b a

abbrev pub is_below : Num → Num → Bool
is_below NaN y = false
is_below (Whole a) NaN = false
is_below (Whole a) (Whole b) = int_lt a b

abbrev pub is_up_to : Num → Num → Bool
is_up_to NaN y = false
is_up_to (Whole a) NaN = false
is_up_to (Whole a) (Whole b) = int_le a b
