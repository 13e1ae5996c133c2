-- A change of one cell shows at that cell alone: through the leaf, the branch and the top list that it is put into.
use Rattle.std.proofs.Common.{◌≡◌, ◌≢◌, ◌==◌, ◌&&◌, ℕ, ◌/◌, ◌%◌, List, [], refl, sym, ap, ◌∙◌, inl, inr, if◌then◌else◌, arith}
use Rattle.std.specs.Prelude.{Option}
use Rattle.std.proofs.lemmas.Bool.Decides.{eqb_tells}
use Rattle.serna_kinds.specs.declared.cells.Cell.{Cell}
use Rattle.serna_kinds.specs.declared.cells.Facet.{Facet}
use Rattle.serna_kinds.specs.declared.cells.Facet.TheVariants.{Label, Kids, Up, Attrs, Text}
use Rattle.serna_kinds.specs.Tape.{facet_number, is_cell}
use Rattle.frozen_tree.specs.declared.node.CellState.{CellState}
use Rattle.frozen_tree.specs.declared.node.NodeCells.{NodeCells}
use Rattle.frozen_tree.specs.Nodes.{no_cells, state_of, with_state}
use Rattle.frozen_tree.specs.Shelves.{place_in}
use Rattle.frozen_tree.specs.Frozen.{FrozenValue, node_at, state_at}
use Rattle.frozen_tree.proofs.ShelfLemmas.{by_place}

-- `new` is `old` with one value at p
abbrev pub IsPutAt : {X : Type 0} → ℕ → X → (ℕ → X) → (ℕ → X) → Type 0
IsPutAt p v old new = (k : ℕ) → new k ≡ if k == p then v else old k

module _ {X : Type 0} (p : ℕ) (v : X) (old new : ℕ → X) (put : IsPutAt p v old new) where
  at_same : (k : ℕ) → k ≡ p → new k ≡ v
  at_same k same =
      elim (eqb_tells k p) [
        | inl h ↦ put k ∙ ap (λ t. if t then v else old k) h.0
        | inr h ↦ absurd (h.1 same)
      ]

  at_other : (k : ℕ) → k ≢ p → new k ≡ old k
  at_other k other =
      elim (eqb_tells k p) [
        | inl h ↦ absurd (other h.1)
        | inr h ↦ put k ∙ ap (λ t. if t then v else old k) h.0
      ]

-- a place that was emptied and then filled
pub filled : {X : Type 0} (p : ℕ) (v : X) (old taken new : ℕ → X) → ((k : ℕ) → k ≢ p → taken k ≡ old k) → IsPutAt p v taken new → IsPutAt p v old new
filled p v old taken new others put k =
    by_place k p v (old k) (new k)
    (at_same p v taken new put k)
    (λ other. at_other p v taken new put k other ∙ others k other)

-- the same at an equal place, of equal old values
pub put_along : {X : Type 0} (p q : ℕ) (v : X) (old other new : ℕ → X) → p ≡ q → ((k : ℕ) → old k ≡ other k) → IsPutAt p v old new → IsPutAt q v other new
put_along p q v old other new e same put k = put k ∙ (λ i. if k == e i then v else same k i)

same_number : (n m : ℕ) → n / 8192 ≡ m / 8192 → n / 64 % 128 ≡ m / 64 % 128 → n % 64 ≡ m % 64 → n ≡ m
same_number n m a b c = omega arith

facet_changed : (facet other : Facet) (next : CellState → CellState) (cells : NodeCells) →
    state_of (with_state facet (next (state_of cells facet)) cells) other ≡ if facet_number facet == facet_number other then next (state_of cells other) else state_of cells other
facet_changed Label Label next cells = refl
facet_changed Kids Kids next cells = refl
facet_changed Up Up next cells = refl
facet_changed Attrs Attrs next cells = refl
facet_changed Text Text next cells = refl
facet_changed _ _ next cells = refl

-- a node with one cell changed is put into its leaf, that into its branch, and that into the top list
module _ (top new : FrozenValue) (branch : List (Option (List (Option NodeCells)))) (leaf : List (Option NodeCells)) (node : NodeCells) (change : Cell)
    (in_top : IsPutAt (change.node.0 / 8192) branch (place_in [] top) (place_in [] new))
    (in_branch : IsPutAt (change.node.0 / 64 % 128) leaf (place_in [] (place_in [] top (change.node.0 / 8192))) (place_in [] branch))
    (in_leaf : IsPutAt (change.node.0 % 64) node (place_in no_cells (place_in [] (place_in [] top (change.node.0 / 8192)) (change.node.0 / 64 % 128))) (place_in no_cells leaf)) where
  node_there : (n : ℕ) → n ≡ change.node.0 → node_at new n ≡ node
  node_there n same =
      ap (λ b. place_in no_cells (place_in [] b (n / 64 % 128)) (n % 64)) (at_same _ _ _ _ in_top (n / 8192) (ap (λ k. k / 8192) same))
      ∙ ap (λ l. place_in no_cells l (n % 64)) (at_same _ _ _ _ in_branch (n / 64 % 128) (ap (λ k. k / 64 % 128) same))
      ∙ at_same _ _ _ _ in_leaf (n % 64) (ap (λ k. k % 64) same)

  node_elsewhere : (n : ℕ) → n ≢ change.node.0 → node_at new n ≡ node_at top n
  node_elsewhere n other =
      elim (eqb_tells (n / 8192) (change.node.0 / 8192)) [
        | inr b ↦ ap (λ x. place_in no_cells (place_in [] x (n / 64 % 128)) (n % 64)) (at_other _ _ _ _ in_top (n / 8192) b.1)
        | inl b ↦
            ap (λ x. place_in no_cells (place_in [] x (n / 64 % 128)) (n % 64)) (at_same _ _ _ _ in_top (n / 8192) b.1)
            ∙ elim (eqb_tells (n / 64 % 128) (change.node.0 / 64 % 128)) [
              | inr l ↦ ap (λ x. place_in no_cells x (n % 64)) (at_other _ _ _ _ in_branch (n / 64 % 128) l.1)
              | inl l ↦
                  ap (λ x. place_in no_cells x (n % 64)) (at_same _ _ _ _ in_branch (n / 64 % 128) l.1)
                  ∙ elim (eqb_tells (n % 64) (change.node.0 % 64)) [
                    | inr s ↦ at_other _ _ _ _ in_leaf (n % 64) s.1
                    | inl s ↦ absurd (other (same_number n change.node.0 b.1 l.1 s.1))
                  ]
                  ∙ ap (λ k. place_in no_cells (place_in [] (place_in [] top (change.node.0 / 8192)) k) (n % 64)) (sym l.1)
            ]
            ∙ ap (λ k. place_in no_cells (place_in [] (place_in [] top k) (n / 64 % 128)) (n % 64)) (sym b.1)
      ]

  pub state_at-put : (next : CellState → CellState) → node ≡ with_state change.facet (next (state_at top change)) (node_at top change.node.0)
      → (cell : Cell) → state_at new cell ≡ if is_cell change cell then next (state_at top cell) else state_at top cell
  state_at-put next changed cell =
      elim (eqb_tells change.node.0 cell.node.0) [
        | inl h ↦
            ap (λ (x : NodeCells). state_of x cell.facet) (node_there cell.node.0 (sym h.1) ∙ changed)
            ∙ facet_changed change.facet cell.facet next (node_at top change.node.0)
            ∙ ap (λ k. if facet_number change.facet == facet_number cell.facet then next (state_of (node_at top k) cell.facet) else state_of (node_at top k) cell.facet) h.1
            ∙ sym (ap (λ t. if t && (facet_number change.facet == facet_number cell.facet) then next (state_at top cell) else state_at top cell) h.0)
        | inr h ↦
            ap (λ (x : NodeCells). state_of x cell.facet) (node_elsewhere cell.node.0 (λ e. h.1 (sym e)))
            ∙ sym (ap (λ t. if t && (facet_number change.facet == facet_number cell.facet) then next (state_at top cell) else state_at top cell) h.0)
      ]
