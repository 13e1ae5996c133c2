-- The attributes are apart, and all of them pass where those that are left do.
use Rattle.std.proofs.Common.{◌≡◌, List, drop}
use Rattle.std.specs.List.{list_all}
use Rattle.serna_kinds.specs.Names.{NameParts, Grows}
use Rattle.serna_kinds.specs.Apart.{AreApart}
use Rattle.style_sheet.specs.Built.{is_plain_attribute}
use Rattle.style_sheet.proofs.names.are_plain_attributes.Given as goal

abbrev pub invariant-loop-pair : goal.invariant-loop-pair
invariant-loop-pair l = record {
  apart : AreApart l.names (drop l.pair-index l.attributes);
  same : (table : List NameParts) → Grows l.names table →
      list_all (is_plain_attribute table) l.attributes ≡ list_all (is_plain_attribute table) (drop l.pair-index l.attributes);
}
