-- The cells that are put in for a tree are those of the source that the tree begins.
use Rattle.std.proofs.Common.{◌≡◌, ℕ, List, Option, refl, sym, ap, ◌∙◌, subst}
use Rattle.std.specs.List.{AllByRecursion}
use Rattle.serna_kinds.specs.declared.cells.Cell.{Cell}
use Rattle.serna_kinds.specs.Content.{Content}
use Rattle.serna_kinds.specs.Names.{NameParts, Space}
use Rattle.tree_lines.specs.declared.tree.TreeItem.{TreeItem}
use Rattle.tree_lines.specs.Given.{Given, items_of}
use Rattle.tree_lines.specs.Tokens.{IsNamed, AreNamed}
use Rattle.tree_lines.specs.Whole.{IsTree}
use Rattle.source_model.specs.Source.{Source}
use Rattle.source_model.specs.Cells.{cell_of}
use Rattle.source_model.specs.Proper.{IsProper}
use Rattle.source_model.specs.Consistent.{IsLinked}
use Rattle.source_model.specs.Told.{AreSameCells}
use Rattle.frozen_tree.specs.declared.kept.CellChange.{CellChange}
use Rattle.frozen_tree.specs.Maps.{nothing, changed_by}
use Rattle.source_primitives.specs.declared.primitive.SubItem.{SubItem}
use Rattle.source_primitives.specs.Primitives.{items_of as sub_items_of}
use Rattle.source_tree.specs.Begun.{begun, numbering, nodes_in}
use Rattle.source_tree.specs.Kept.{source_told, IsKept}
use Rattle.source_tree.proofs.KeptBack.{kept_of, told_source}
use Rattle.source_tree.proofs.BegunSource.{IsProper-begun, IsLinked-begun, top-begun, whole_numbered, nodes_counted, made-begun, spaces-begun, items_tell}

-- the cells of the source that the items of a tree begin
pub record Begins (new : Cell → Option Content) (made : ℕ) (spaces : List Space) (items : List TreeItem) : Type 0 where
  pub kept : IsKept new made
  pub source : (given : Given) → items ≡ items_of given → source_told new made spaces ≡ begun spaces given
  pub proper : (names : List NameParts) → AreNamed names items → IsProper names (source_told new made spaces)

pub begins : (new : Cell → Option Content) (made : ℕ) (spaces : List Space) (items : List TreeItem) (tree : IsTree items) (numbered : List SubItem) (changes : List CellChange) → numbered ≡ numbering 1 items →
    made ≡ nodes_in items → ((source : Source) (linked : IsLinked source) → numbered ≡ sub_items_of linked.top → AreSameCells (changed_by changes nothing) (cell_of source)) →
    new ≡ changed_by changes nothing → Begins new made spaces items
begins new made spaces items tree numbered changes are counted whole is =
    let g : Given = tree.given in
    let s : Source = begun spaces g in
    let linked : IsLinked s = IsLinked-begun spaces g tree.whole in
    let top : numbered ≡ sub_items_of linked.top = are ∙ ap (numbering 1) tree.same ∙ whole_numbered g ∙ ap sub_items_of (sym (top-begun spaces g tree.whole)) in
    let same : AreSameCells new (cell_of s) = λ cell. ap (λ (m : Cell → Option Content). m cell) is ∙ whole s linked top cell in
    let count : made ≡ s.made = counted ∙ ap nodes_in tree.same ∙ nodes_counted g ∙ sym (made-begun spaces g) in
    let told : source_told new made spaces ≡ s = told_source s new made spaces linked same count (sym (spaces-begun spaces g)) in
    record {
      kept = kept_of s new made linked same count;
      source = λ given e. told ∙ ap (begun spaces) (items_tell g given (sym tree.same ∙ e));
      proper = λ names named. subst (IsProper names) (sym told) (IsProper-begun names spaces g tree.whole (subst (AllByRecursion (IsNamed names)) tree.same named));
    }
