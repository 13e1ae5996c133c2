-- The steps that change children leave the cells of what their primitives leave.
use Rattle.std.proofs.Common.{◌≡◌, ℕ, ◌<◌, ◌≤◌, inl, inr, List, [], ◌∷◌, ◌++◌, map, take, drop, length, Option, Some, None, if◌then◌else◌, sym, ap, ◌∙◌, arith}
use Rattle.std.proofs.lemmas.Bool.{cases_eq}
use Rattle.std.proofs.lemmas.List.{length-map}
use Rattle.std.specs.Prelude.{max, remove}
use Rattle.std.specs.Option.{option_and_then}
use Rattle.serna_kinds.specs.declared.cells.NodeName.{NodeName}
use Rattle.serna_kinds.specs.declared.cells.Cell.{Cell}
use Rattle.serna_kinds.specs.declared.cells.Facet.{Facet}
use Rattle.serna_kinds.specs.declared.cells.Facet.TheVariants as facet
use Rattle.serna_kinds.specs.Content.{Content}
use Rattle.serna_kinds.specs.Content as content
use Rattle.serna_kinds.specs.Limits.{depth_limit}
use Rattle.serna_kinds.specs.Tape.{is_cell}
use Rattle.source_model.specs.Source.{Element, Forest, Source, numbers}
use Rattle.source_model.specs.Cells.{named, facet_of, cell_of}
use Rattle.source_model.specs.Changes.{inserted_at, removed_at, alone_at, greatest}
use Rattle.source_model.specs.Proper.{uses}
use Rattle.source_model.specs.Consistent.{AreLeaves, IsLinked}
use Rattle.source_model.specs.Logged.{cell_at}
use Rattle.source_model.specs.Told.{told_kids, kids_at, AreSameCells}
use Rattle.source_model.proofs.Spots.{spot_in-unused, spot-from_used, used-from_spot}
use Rattle.frozen_tree.specs.declared.kept.CellChange.{CellChange}
use Rattle.frozen_tree.specs.declared.kept.KeptValue.TheVariants as kept
use Rattle.frozen_tree.specs.Maps.{left_by, changed_by}
use Rattle.source_primitives.specs.declared.primitive.SubItem.{SubItem}
use Rattle.source_primitives.specs.declared.primitive.Primitive.TheVariants.{InsertChild, RemoveChild}
use Rattle.source_primitives.specs.Primitives.{with_nodes, applied, items_of, HasPlace, IsSubtree, HasChild}
use Rattle.source_primitives.proofs.Inside.{ElementAt, element_spot}
use Rattle.source_primitives.proofs.Subtrees.{leaves_alone}
use Rattle.source_primitives.proofs.Undone.{subtree_one, leaves_under, out_items}
use Rattle.source_steps.specs.CellChanges.{with_content, put, puts, takes}
use Rattle.source_steps.specs.Putting.{greatest_among}
use Rattle.source_steps.specs.Taking.{AreWithin}
use Rattle.source_steps.specs.declared.step.Step.{Step}
use Rattle.source_steps.specs.Steps.{MayStep, Steps}
use Rattle.source_steps.proofs.Stepped.{one_put}
use Rattle.source_steps.proofs.CellsAfter.{new_cells, old_cells}
use Rattle.source_steps.proofs.CellsPut.{changed-append, elsewhere, puts_elsewhere, puts_own, takes_elsewhere, takes_own}
use Rattle.source_steps.proofs.ItemNumbers.{greatest_of_items}
use Rattle.source_steps.proofs.ChildTaken.{ns-inserted, ns-removed, kids_within, kept_cells, gone_cells, parent_outside}

-- the numbers of an element's children, by its cells
kids_told : (view : Cell → Option Content) (s : Source) (n : NodeName) (kids : Forest) (at : ElementAt s n.0 kids) → AreSameCells view (cell_of s) → kids_at view n ≡ map named (numbers kids)
kids_told view s n kids at same = ap told_kids (same (cell_at facet.Kids n) ∙ ap (option_and_then (facet_of facet.Kids)) at.there)

-- changes that show nothing at a cell, and then the numbers of the children
then_kids : (view other : Cell → Option Content) (changes first : List CellChange) (n : NodeName) (new : List NodeName) (cell : Cell) → AreSameCells view other →
    changes ≡ first ++ put facet.Kids n.0 (kept.Kids new) ∷ [] → changed_by first view cell ≡ view cell → changed_by changes view cell ≡ with_content (cell_at facet.Kids n) (content.Kids new) other cell
then_kids view other changes first n new cell same is unseen =
    let last : CellChange = put facet.Kids n.0 (kept.Kids new) in
    ap (λ cs. changed_by cs view cell) is
    ∙ ap (λ (m : Cell → Option Content). m cell) (changed-append first (last ∷ []) view)
    ∙ ap (λ o. if is_cell last.cell cell then left_by last else o) unseen
    ∙ one_put view other (cell_at facet.Kids n) (content.Kids new) cell same

-- and where it is another node's cell
before_kids : (view : Cell → Option Content) (changes first : List CellChange) (n : NodeName) (new : List NodeName) (cell : Cell) → (n.0 ≡ cell.node.0 → ⊥) →
    changes ≡ first ++ put facet.Kids n.0 (kept.Kids new) ∷ [] → changed_by changes view cell ≡ changed_by first view cell
before_kids view changes first n new cell other is =
    let last : CellChange = put facet.Kids n.0 (kept.Kids new) in
    ap (λ cs. changed_by cs view cell) is
    ∙ ap (λ (m : Cell → Option Content). m cell) (changed-append first (last ∷ []) view)
    ∙ elsewhere last (changed_by first view) cell other

-- a subtree is put in
put_cells : (view : Cell → Option Content) (s : Source) (c : IsLinked s) (same : AreSameCells view (cell_of s)) (n : NodeName) (place : ℕ) (items : List SubItem) (has : HasPlace s n.0 place)
    (is : IsSubtree s n.0 place items) (changes : List CellChange) (cell : Cell) →
    changes ≡ puts (Some n.0) is.one ++ put facet.Kids n.0 (kept.Kids (map named (numbers (inserted_at place is.one has.0.kids)))) ∷ [] →
    changed_by changes view cell ≡ cell_of (with_nodes s n.0 place is.one) cell
put_cells view s c same n place items has is changes cell e =
    let at = element_spot s n.0 has.0 has.1 has.2 in
    let kids : Forest = has.0.kids in
    let one : Forest = is.one in
    let new : List NodeName = map named (numbers (inserted_at place one kids)) in
    let made : ℕ = max s.made (greatest one) in
    let parent : 0 < uses n.0 s.tree = used-from_spot None n.0 has.0 s.tree has.1 in
    elim (cases_eq (uses cell.node.0 one) 0) [
      | inl out ↦
          then_kids view (cell_of s) changes (puts (Some n.0) one) n new cell same e (puts_elsewhere (Some n.0) one view cell out)
          ∙ sym (old_cells s n.0 place made one kids at cell out (c.distinct n.0))
      | inr some ↦
          let used : 0 < uses cell.node.0 one = omega (arith, some) in
          let apart = is.distinct cell.node.0 in
          let unused : uses cell.node.0 s.tree ≡ 0 = omega (arith, used, apart) in
          let other : n.0 ≡ cell.node.0 → ⊥ = λ bad. (let here : uses n.0 s.tree ≡ 0 = ap (λ k. uses k s.tree) bad ∙ unused in absurd (omega (arith, here, parent))) in
          let found = spot-from_used (Some n.0) cell.node.0 one used in
          let fresh : (k : ℕ) (g : Facet) → 0 < uses k one → view (cell_at g (named k)) ≡ None = λ k g inside.
          (let alone = is.distinct k in same (cell_at g (named k)) ∙ ap (option_and_then (facet_of g)) (spot_in-unused None k s.tree (omega (arith, alone, inside)))) in
          before_kids view changes (puts (Some n.0) one) n new cell other e
          ∙ puts_own (Some n.0) one view cell.node.0 is.leaves (λ k. let alone = is.distinct k in omega (arith, alone)) fresh found.0 found.1 cell.facet
          ∙ sym (new_cells s n.0 place made one cell unused parent (c.distinct n.0) ∙ ap (option_and_then (facet_of cell.facet)) found.1)
    ]

pub child_put : (view : Cell → Option Content) (n : NodeName) (place : ℕ) (items : List SubItem) (step : Step) →
    ((one : Forest) → AreLeaves one → items ≡ items_of one → step.changes ≡ puts (Some n.0) one ++ put facet.Kids n.0 (kept.Kids (take place (kids_at view n) ++ (map named (numbers one) ++ drop place (kids_at view n)))) ∷ []) →
    step.undoing ≡ RemoveChild n place → step.made ≡ greatest_among items → Steps view (InsertChild n place items) step
child_put view n place items step changed back counted = record {
  left = λ s ready cell.
      (let has = ready.may.0 in
      let is = ready.may.1 in
      let at = element_spot s n.0 has.0 has.1 has.2 in
      let numbers_are : take place (kids_at view n) ++ (map named (numbers is.one) ++ drop place (kids_at view n)) ≡ map named (numbers (inserted_at place is.one has.0.kids)) =
      ap (λ ks. take place ks ++ (map named (numbers is.one) ++ drop place ks)) (kids_told view s n has.0.kids at ready.cells) ∙ sym (ns-inserted place is.one has.0.kids has.3) in
      put_cells view s ready.linked ready.cells n place items has is step.changes cell
      (changed is.one is.leaves is.is ∙ ap (λ ks. puts (Some n.0) is.one ++ put facet.Kids n.0 (kept.Kids ks) ∷ []) numbers_are)
      ∙ ap (λ one. cell_of (with_nodes s n.0 place one) cell) (sym (subtree_one s n.0 place items is)));
  takes_back = λ s ready. back;
  counts = λ s ready.
      (let is = ready.may.1 in
      ap (λ one. max s.made (greatest one)) (subtree_one s n.0 place items is)
      ∙ sym (ap (max s.made) (counted ∙ ap greatest_among is.is ∙ greatest_of_items is.one is.leaves)));
}

pub put_child_may : (view : Cell → Option Content) (n : NodeName) (place : ℕ) (items : List SubItem) → MayStep view (InsertChild n place items) → place ≤ length (kids_at view n)
put_child_may view n place items may =
    let ready = may.1 in
    let has = ready.may.0 in
    let at = element_spot may.0 n.0 has.0 has.1 has.2 in
    let e = ap length (kids_told view may.0 n has.0.kids at ready.cells) in
    let l = length-map (numbers has.0.kids) named in
    let within = has.3 in
    omega (arith, e, l, within)

-- a child is taken out
take_cells : (view : Cell → Option Content) (s : Source) (c : IsLinked s) (same : AreSameCells view (cell_of s)) (n : NodeName) (place : ℕ) (may : HasChild s n.0 place) (changes : List CellChange) (cell : Cell) →
    changes ≡ takes (items_of (alone_at place may.0.kids)) ++ put facet.Kids n.0 (kept.Kids (map named (numbers (removed_at place may.0.kids)))) ∷ [] →
    changed_by changes view cell ≡ cell_of (applied (RemoveChild n place) s) cell
take_cells view s c same n place may changes cell e =
    let at = element_spot s n.0 may.0 may.1 may.2 in
    let one : Forest = alone_at place may.0.kids in
    let new : List NodeName = map named (numbers (removed_at place may.0.kids)) in
    let leaves : AreLeaves one = leaves_alone place may.0.kids (leaves_under s c n.0 (record { up = at.up; body = Element at.name at.pairs; kids = may.0.kids }) at.there (λ bad. cc)) in
    elim (cases_eq (uses cell.node.0 one) 0) [
      | inl out ↦
          then_kids view (cell_of s) changes (takes (items_of one)) n new cell same e (takes_elsewhere one view cell leaves out)
          ∙ sym (kept_cells s c n place may cell out)
      | inr some ↦
          let used : 0 < uses cell.node.0 one = omega (arith, some) in
          let outside = parent_outside s c n place may in
          let other : n.0 ≡ cell.node.0 → ⊥ = λ bad. (let here : uses cell.node.0 one ≡ 0 = ap (λ k. uses k one) (sym bad) ∙ outside in absurd (omega (arith, here, used))) in
          before_kids view changes (takes (items_of one)) n new cell other e
          ∙ takes_own one view cell.node.0 cell.facet leaves used
          ∙ sym (gone_cells s c n place may cell used)
    ]

pub child_taken : (view : Cell → Option Content) (n : NodeName) (place : ℕ) (step : Step) →
    ((kids : Forest) → AreWithin view (Some n.0) depth_limit kids → kids_at view n ≡ map named (numbers kids) →
    step.changes ≡ takes (items_of (alone_at place kids)) ++ put facet.Kids n.0 (kept.Kids (remove (kids_at view n) place)) ∷ []) →
    ((kids : Forest) → AreWithin view (Some n.0) depth_limit kids → kids_at view n ≡ map named (numbers kids) → step.undoing ≡ InsertChild n place (items_of (alone_at place kids))) →
    step.made ≡ 0 → Steps view (RemoveChild n place) step
child_taken view n place step changed back counted = record {
  left = λ s ready cell.
      (let may = ready.may in
      let at = element_spot s n.0 may.0 may.1 may.2 in
      let told = kids_told view s n may.0.kids at ready.cells in
      take_cells view s ready.linked ready.cells n place may step.changes cell
      (changed may.0.kids (kids_within view s ready.linked n.0 may.0.kids at ready.cells) told
      ∙ ap (λ ks. takes (items_of (alone_at place may.0.kids)) ++ put facet.Kids n.0 (kept.Kids ks) ∷ []) (ap (λ ks. remove ks place) told ∙ sym (ns-removed place may.0.kids may.3))));
  takes_back = λ s ready.
      (let may = ready.may in
      let at = element_spot s n.0 may.0 may.1 may.2 in
      back may.0.kids (kids_within view s ready.linked n.0 may.0.kids at ready.cells) (kids_told view s n may.0.kids at ready.cells)
      ∙ ap (InsertChild n place) (sym (out_items s n.0 place may.0 may.1)));
  counts = λ s ready. omega (arith, counted);
}

pub take_child_may : (view : Cell → Option Content) (n : NodeName) (place : ℕ) → MayStep view (RemoveChild n place) → place < length (kids_at view n)
take_child_may view n place may =
    let ready = may.1 in
    let has = ready.may in
    let at = element_spot may.0 n.0 has.0 has.1 has.2 in
    let e = ap length (kids_told view may.0 n has.0.kids at ready.cells) in
    let l = length-map (numbers has.0.kids) named in
    let within = has.3 in
    omega (arith, e, l, within)
