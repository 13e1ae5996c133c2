-- The number so far is that of the digits so far.
use Rattle.std.proofs.Common.{◌≡◌, take}
use Rattle.std.specs.Str.Parse.{AllDigits, digits_value}
use Rattle.fo_lengths.proofs.colors.hex_number.Given as goal

abbrev pub invariant-loop-digit : goal.invariant-loop-digit
invariant-loop-digit l = AllDigits 16 (take l.digit-index l.digits) × (l.number ≡ digits_value 16 (take l.digit-index l.digits))
