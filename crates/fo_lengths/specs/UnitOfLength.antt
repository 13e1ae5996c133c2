-- Units of length, and what so many of a unit are. The names are those of XSL 1.1, 5.9.6 and 5.9.7, the
-- ratios those of 5.9.13: 1in is 72pt, 1pc is 12pt, 1in is 2.54cm, 1cm is 10mm.
use Rattle.std.specs.Prelude.{ℕ, ◌*◌, ◌/◌, Bool, List}
use lib.Chars.{codes}
use Rattle.fo_lengths.specs.DecimalNumber.{signed}
use Rattle.fo_lengths.specs.declared.unit.LengthUnit.{LengthUnit}
use Rattle.fo_lengths.specs.declared.unit.LengthUnit.TheVariants.{Point, Pica, Inch, Centimetre, Millimetre, Em, Percent}
use Rattle.fo_lengths.specs.declared.lengths.Length.{Length}
use Rattle.fo_lengths.specs.declared.lengths.Length.TheVariants as lengths

abbrev pub unit_name : LengthUnit → List ℕ
unit_name Point = codes "pt"
unit_name Pica = codes "pc"
unit_name Inch = codes "in"
unit_name Centimetre = codes "cm"
unit_name Millimetre = codes "mm"
unit_name Em = codes "em"
unit_name Percent = codes "%"

-- So many millionths of a unit. Points are in whole millipoints, the exact product truncated toward zero;
-- Em and Percent stay in millionths. A centimetre is 72 / 2.54 pt, a millimetre 72 / 25.4 pt.
abbrev pub length_in : LengthUnit → Bool → ℕ → Length
length_in Point negative n = lengths.Points (signed negative (n / 1000))
length_in Pica negative n = lengths.Points (signed negative (n * 12 / 1000))
length_in Inch negative n = lengths.Points (signed negative (n * 72 / 1000))
length_in Centimetre negative n = lengths.Points (signed negative (n * 7200 / (254 * 1000)))
length_in Millimetre negative n = lengths.Points (signed negative (n * 720 / (254 * 1000)))
length_in Em negative n = lengths.Em (signed negative n)
length_in Percent negative n = lengths.Percent (signed negative n)
