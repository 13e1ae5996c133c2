-- The cells of a whole source, put in where there were none.
use Rattle.std.proofs.Common.{◌≡◌, ℕ, ◌<◌, ◌≤◌, inl, inr, List, [], ◌∷◌, ◌++◌, map, Some, None, refl, sym, ap, ◌∙◌, subst, arith, append-nil}
use Rattle.std.proofs.lemmas.Bool.{cases_eq}
use Rattle.std.specs.Option.{option_and_then}
use Rattle.serna_kinds.specs.declared.cells.NodeName.{NodeName}
use Rattle.serna_kinds.specs.declared.cells.Cell.{Cell}
use Rattle.serna_kinds.specs.declared.cells.Facet.{Facet}
use Rattle.serna_kinds.specs.declared.cells.Facet.TheVariants as facet
use Rattle.serna_kinds.specs.declared.cells.Kind.TheVariants as kind
use Rattle.source_model.specs.Source.{Root, Forest, none, node, Source, numbers}
use Rattle.source_model.specs.Cells.{Spot, named, or_else, spot_in, facet_of, cell_of}
use Rattle.source_model.specs.Proper.{uses}
use Rattle.source_model.specs.Consistent.{IsLinked}
use Rattle.source_model.specs.Logged.{cell_at}
use Rattle.source_model.specs.Told.{AreSameCells}
use Rattle.source_model.proofs.Spots.{spot_in-unused, spot-from_used}
use Rattle.frozen_tree.specs.declared.kept.CellChange.{CellChange}
use Rattle.frozen_tree.specs.declared.kept.KeptValue.TheVariants as kept
use Rattle.frozen_tree.specs.Maps.{CellMap, nothing, with_change, changed_by}
use Rattle.source_primitives.specs.declared.primitive.SubItem.{SubItem}
use Rattle.source_primitives.specs.Primitives.{items_of}
use Rattle.source_primitives.proofs.Around.{at_same, at_other, count_same, or_else-none}
use Rattle.source_steps.specs.CellChanges.{put, puts}
use Rattle.source_steps.specs.Putting.{PutsAll, IsPut}
use Rattle.source_steps.proofs.CellsPut.{changed-append, elsewhere, puts_elsewhere, puts_own}

-- the document node's own cells, its children last
abbrev pub label_put : CellChange
label_put = put facet.Label 0 (kept.Label kind.Root None)

abbrev pub up_put : CellChange
up_put = put facet.Up 0 (kept.Up None)

abbrev kids_put : Forest → CellChange
kids_put top = put facet.Kids 0 (kept.Kids (map named (numbers top)))

abbrev begun_map : CellMap
begun_map = with_change up_put (with_change label_put nothing)

document_facets : (top : Forest) (inner : CellMap) (f : Facet) → ((g : Facet) → inner (cell_at g (named 0)) ≡ begun_map (cell_at g (named 0))) →
    with_change (kids_put top) inner (cell_at f (named 0)) ≡ facet_of f (record { up = None; body = Root; kids = top })
document_facets top inner facet.Label same = same facet.Label
document_facets top inner facet.Kids same = refl
document_facets top inner facet.Up same = same facet.Up
document_facets top inner facet.Attrs same = same facet.Attrs
document_facets top inner facet.Text same = same facet.Text

-- cells of other nodes were not begun
unbegun : (cell : Cell) → (0 ≡ cell.node.0 → ⊥) → begun_map cell ≡ None
unbegun cell other = elsewhere up_put (with_change label_put nothing) cell other ∙ elsewhere label_put nothing cell other

whole_cells : (s : Source) (c : IsLinked s) (cell : Cell) → with_change (kids_put c.top) (changed_by (puts (Some 0) c.top) begun_map) cell ≡ cell_of s cell
whole_cells s c cell =
    let top : Forest = c.top in
    let document : Spot = record { up = None; body = Root; kids = top } in
    let tree : s.tree ≡ node 0 Root top none = c.rooted in
    let here = count_same 0 0 refl in
    let alone : uses 0 top ≡ 0 = let once = subst (λ t. uses 0 t ≤ 1) tree (c.distinct 0) in omega (arith, once, here) in
    let inner : CellMap = changed_by (puts (Some 0) top) begun_map in
    let is : cell_of s cell ≡ option_and_then (facet_of cell.facet) (spot_in None cell.node.0 (node 0 Root top none)) = ap (λ t. option_and_then (facet_of cell.facet) (spot_in None cell.node.0 t)) tree in
    elim (cases_eq 0 cell.node.0) [
      | inl same ↦
          ap (λ k. with_change (kids_put top) inner (cell_at cell.facet (named k))) (sym same)
          ∙ document_facets top inner cell.facet (λ g. puts_elsewhere (Some 0) top begun_map (cell_at g (named 0)) alone)
          ∙ sym (is ∙ ap (option_and_then (facet_of cell.facet)) (at_same cell.node.0 0 (Some document) (or_else (spot_in (Some 0) cell.node.0 top) None) (sym same)))
      | inr other ↦
          let below : cell_of s cell ≡ option_and_then (facet_of cell.facet) (spot_in (Some 0) cell.node.0 top) =
          is ∙ ap (option_and_then (facet_of cell.facet)) (at_other cell.node.0 0 (Some document) (or_else (spot_in (Some 0) cell.node.0 top) None) (λ e. other (sym e)) ∙ or_else-none (spot_in (Some 0) cell.node.0 top)) in
          elsewhere (kids_put top) inner cell other ∙ elim (cases_eq (uses cell.node.0 top) 0) [
            | inl out ↦ puts_elsewhere (Some 0) top begun_map cell out ∙ unbegun cell other
                ∙ sym (below ∙ ap (option_and_then (facet_of cell.facet)) (spot_in-unused (Some 0) cell.node.0 top out))
            | inr some ↦
                let found = spot-from_used (Some 0) cell.node.0 top (omega (arith, some)) in
                let fresh : (k : ℕ) (g : Facet) → 0 < uses k top → begun_map (cell_at g (named k)) ≡ None = λ k g used.
                unbegun (cell_at g (named k)) (λ e. (let bad : uses k top ≡ 0 = ap (λ j. uses j top) (sym e) ∙ alone in absurd (omega (arith, bad, used)))) in
                puts_own (Some 0) top begun_map cell.node.0 c.leaves (λ k. (let once = subst (λ t. uses k t ≤ 1) tree (c.distinct k) in omega (arith, once))) fresh found.0 found.1 cell.facet
                ∙ sym (below ∙ ap (option_and_then (facet_of cell.facet)) found.1)
          ]
    ]

-- the changes of a whole document
pub whole_put : (s : Source) (c : IsLinked s) (items : List SubItem) (changes₁ changes₂ changes₃ : List CellChange) (to : ℕ) (kids : List NodeName) → items ≡ items_of c.top →
    changes₁ ≡ label_put ∷ up_put ∷ [] → PutsAll items (named 0) 0 changes₁ to changes₂ kids → changes₃ ≡ changes₂ ++ put facet.Kids 0 (kept.Kids kids) ∷ [] →
    AreSameCells (changed_by changes₃ nothing) (cell_of s)
whole_put s c items changes₁ changes₂ changes₃ to kids is first all last cell =
    let p : IsPut (named 0) 0 changes₁ c.top to changes₂ kids = all c.top [] tt (record { leaves = c.leaves; left = is ∙ sym (append-nil (items_of c.top)) }) in
    let whole : changes₃ ≡ (label_put ∷ up_put ∷ []) ++ (puts (Some 0) c.top ++ kids_put c.top ∷ []) =
    last ∙ ap (λ ks. changes₂ ++ put facet.Kids 0 (kept.Kids ks) ∷ []) p.numbered
    ∙ ap (λ cs. cs ++ kids_put c.top ∷ []) (p.changed ∙ ap (λ cs. cs ++ puts (Some 0) c.top) first) in
    ap (λ cs. changed_by cs nothing cell) whole
    ∙ ap (λ (m : CellMap). m cell) (changed-append (puts (Some 0) c.top) (kids_put c.top ∷ []) begun_map)
    ∙ whole_cells s c cell
