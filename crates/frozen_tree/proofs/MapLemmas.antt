-- One change more, for maps and for stamps.
use Rattle.std.proofs.Common.{◌≡◌, ◌||◌, ℕ, List, [], ◌∷◌, ◌++◌, Bool, true, false, refl, sym, ap, ◌∙◌, if◌then◌else◌}
use Rattle.std.specs.Prelude.{Option, Some, None, option_map, unwrap_or}
use Rattle.std.proofs.lemmas.List.Folds.{list_any-append}
use Rattle.serna_kinds.specs.declared.cells.Cell.{Cell}
use Rattle.serna_kinds.specs.Tape.{is_cell}
use Rattle.frozen_tree.specs.declared.kept.CellChange.{CellChange}
use Rattle.frozen_tree.specs.declared.node.CellState.{CellState}
use Rattle.frozen_tree.specs.Nodes.{next_state}
use Rattle.frozen_tree.specs.Maps.{CellMap, Stamps, kept_content, left_by, with_change, changed_by, names, stamped_if}

pub changed_by-append : (xs ys : List CellChange) (map : CellMap) → changed_by (xs ++ ys) map ≡ changed_by ys (changed_by xs map)
changed_by-append [] ys map = refl
changed_by-append (x ∷ xs) ys map = changed_by-append xs ys (with_change x map)

-- no change leaves each stamp as it is
pub stamped_by_none : (revision : Option ℕ) (stamps : Stamps) (cell : Cell) → stamps cell ≡ stamped_if revision [] stamps cell
stamped_by_none None stamps cell = refl
stamped_by_none (Some r) stamps cell = refl

if_of : {X Y : Type 0} (f : X → Y) (b : Bool) (x y : X) → f (if b then x else y) ≡ if b then f x else f y
if_of f true x y = refl
if_of f false x y = refl

module _ (change : CellChange) (revision : Option ℕ) (cell : Cell) (before after : CellState)
    (changed : after ≡ if is_cell change.cell cell then next_state revision change before else before) where
  -- the content of a cell whose state one change more has changed
  pub content_more : (xs : List CellChange) (map : CellMap) → option_map kept_content before.value ≡ changed_by xs map cell
      → option_map kept_content after.value ≡ changed_by (xs ++ change ∷ []) map cell
  content_more xs map so_far =
      ap (λ (s : CellState). option_map kept_content s.value) changed
      ∙ if_of (λ (s : CellState). option_map kept_content s.value) (is_cell change.cell cell) (next_state revision change before) before
      ∙ ap (λ x. if is_cell change.cell cell then left_by change else x) so_far
      ∙ sym (ap (λ (m : CellMap). m cell) (changed_by-append xs (change ∷ []) map))

  -- its stamp
  pub stamp_more : (xs : List CellChange) (stamps : Stamps) → before.stamp ≡ stamped_if revision xs stamps cell
      → after.stamp ≡ stamped_if revision (xs ++ change ∷ []) stamps cell
  stamp_more xs stamps so_far =
      ap (λ (s : CellState). s.stamp) changed
      ∙ if_of (λ (s : CellState). s.stamp) (is_cell change.cell cell) (next_state revision change before) before
      ∙ ap (λ x. if is_cell change.cell cell then unwrap_or revision x else x) so_far
      ∙ stamped_more revision xs
    where
      either : (a b : Bool) (r s : ℕ) → (if b then r else if a then r else s) ≡ if a || (b || false) then r else s
      either true true r s = refl
      either true false r s = refl
      either false true r s = refl
      either false false r s = refl

      same_both : (b : Bool) (s : ℕ) → (if b then s else s) ≡ s
      same_both true s = refl
      same_both false s = refl

      stamped_more : (r : Option ℕ) (ys : List CellChange) →
          (if is_cell change.cell cell then unwrap_or r (stamped_if r ys stamps cell) else stamped_if r ys stamps cell) ≡ stamped_if r (ys ++ change ∷ []) stamps cell
      stamped_more None ys = same_both (is_cell change.cell cell) (stamps cell)
      stamped_more (Some r) ys =
          either (names ys cell) (is_cell change.cell cell) r (stamps cell)
          ∙ sym (ap (λ t. if t then r else stamps cell) (list_any-append (λ (x : CellChange). is_cell x.cell cell) ys (change ∷ [])))
