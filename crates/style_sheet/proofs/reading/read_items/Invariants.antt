-- What is left is read as all is.
use Rattle.std.proofs.Common.{◌≡◌, ◌≤◌, List, drop, length}
use Rattle.serna_kinds.specs.Names.{NameParts, Grows}
use Rattle.tree_lines.specs.Tokens.{AreNamed}
use Rattle.style_sheet.specs.Steps.{run, progress, no_reading}
use Rattle.style_sheet.proofs.reading.read_items.Given as goal

abbrev pub invariant-loop-item : goal.invariant-loop-item
invariant-loop-item l = record {
  grown : Grows l.fn.names l.names;
  named : AreNamed l.names (drop l.item-index l.items);
  few : length l.reader.rules ≤ l.item-index;
  same : (table : List NameParts) → Grows l.names table →
      run table l.spaces (progress no_reading l.fn.names) l.items
      ≡ run table l.spaces (progress l.reader l.names) (drop l.item-index l.items);
}
