-- The attributes are apart, and say what those that are left say.
use Rattle.std.proofs.Common.{◌≡◌, List, drop}
use Rattle.serna_kinds.specs.Names.{NameParts, Grows}
use Rattle.serna_kinds.specs.Apart.{AreApart}
use Rattle.style_sheet.specs.Styles.{keeps}
use Rattle.style_sheet.proofs.names.keeps.Given as goal

abbrev pub invariant-loop-pair : goal.invariant-loop-pair
invariant-loop-pair l = record {
  apart : AreApart l.names (drop l.pair-index l.attributes);
  same : (table : List NameParts) → Grows l.names table →
      keeps table l.around l.attributes ≡ keeps table l.around (drop l.pair-index l.attributes);
}
