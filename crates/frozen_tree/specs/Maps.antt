-- Maps of cells with stamps, and what changes make of them (this project's own).
-- A map gives each cell its content, or none. Stamps give each cell the revision of the last change that named it.
use Rattle.std.specs.Prelude.{◌≡◌, ℕ, ◌<◌, ◌≤◌, Bool, List, [], ◌∷◌, Option, Some, None, All, option_map, if◌then◌else◌}
use Rattle.std.specs.List.{list_any}
use Rattle.serna_kinds.specs.declared.cells.Cell.{Cell}
use Rattle.serna_kinds.specs.Content.{Content, Label, Kids, Up, Attrs, Text}
use Rattle.serna_kinds.specs.Tape.{is_cell}
use Rattle.frozen_tree.specs.declared.kept.CellChange.{CellChange}
use Rattle.frozen_tree.specs.declared.kept.KeptValue.{KeptValue}
use Rattle.frozen_tree.specs.declared.kept.KeptValue.TheVariants as kept

abbrev pub CellMap : Type 0
CellMap = Cell → Option Content

abbrev pub Stamps : Type 0
Stamps = Cell → ℕ

abbrev pub nothing : CellMap
nothing cell = None

abbrev pub no_stamps : Stamps
no_stamps cell = 0

-- what a value says that owns its lists
abbrev pub kept_content : KeptValue → Content
kept_content (kept.Label kind name) = Label kind name
kept_content (kept.Kids kids) = Kids kids
kept_content (kept.Up parent) = Up parent
kept_content (kept.Attrs pairs) = Attrs pairs
kept_content (kept.Text text) = Text text

-- what a change leaves at its cell; none where it takes the cell out
abbrev pub left_by : CellChange → Option Content
left_by change = option_map kept_content change.value

-- the map with one cell put or taken out
abbrev pub with_change : CellChange → CellMap → CellMap
with_change change map cell = if is_cell change.cell cell then left_by change else map cell

-- the map with those cells put or taken out, one after another
abbrev pub changed_by : List CellChange → CellMap → CellMap
changed_by [] map = map
changed_by (change ∷ rest) map = changed_by rest (with_change change map)

-- whether one of the changes names the cell
abbrev pub names : List CellChange → Cell → Bool
names changes cell = list_any (λ change. is_cell change.cell cell) changes

-- the stamps after changes at a revision: a cell that one of them names has that revision, every other its stamp of before
abbrev pub stamped_by : ℕ → List CellChange → Stamps → Stamps
stamped_by revision changes stamps cell = if names changes cell then revision else stamps cell

-- the same where there is a revision; else the stamps stay
abbrev pub stamped_if : Option ℕ → List CellChange → Stamps → Stamps
stamped_if None changes stamps = stamps
stamped_if (Some revision) changes stamps = stamped_by revision changes stamps

-- changes that were made at one revision
pub record Revision : Type 0 where
  pub number : ℕ
  pub changes : List CellChange

-- the map after revisions, the first one first
abbrev pub map_after : List Revision → CellMap → CellMap
map_after [] map = map
map_after (r ∷ rest) map = map_after rest (changed_by r.changes map)

-- the stamps after them
abbrev pub stamps_after : List Revision → Stamps → Stamps
stamps_after [] stamps = stamps
stamps_after (r ∷ rest) stamps = stamps_after rest (stamped_by r.number r.changes stamps)

-- whether a change of one of the revisions names the cell
abbrev pub named_in : List Revision → Cell → Bool
named_in revisions cell = list_any (λ r. names r.changes cell) revisions

-- each of the revisions is later than the number
abbrev pub AreLater : ℕ → List Revision → Type 0
AreLater number revisions = All (λ r. number < r.number) revisions

-- each revision is later than all before it
abbrev pub AreRising : List Revision → Type 0
AreRising [] = Unit {0}
AreRising (r ∷ rest) = AreLater r.number rest × AreRising rest

-- what present stamps tell of a map that was kept at a revision: each cell that was not stamped later has the value that it had there
abbrev pub Tells : ℕ → CellMap → Stamps → CellMap → Type 0
Tells number then_was stamps now = (cell : Cell) → stamps cell ≤ number → now cell ≡ then_was cell
