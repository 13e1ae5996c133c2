-- What contracts see of a `SourceTree`, and of a source that is staged.
use Rattle.std.specs.Prelude.{ℕ, List, Option, refl}
use Rattle.std.specs.Coded.{Coded, code_by, coded_ℕ, coded×}
use Rattle.serna_kinds.specs.declared.cells.Cell.{Cell}
use Rattle.serna_kinds.specs.Content.{Content}
use Rattle.source_model.specs.Source.{Source}
use Rattle.source_model.specs.Cells.{cell_of}
use Rattle.frozen_tree.specs.Frozen.{FrozenValue}
use Rattle.source_primitives.specs.declared.primitive.Primitive.{Primitive}

-- the present source, how many changes were taken on, and the map that has its cells, each with the number of the change that it had last
pub record SeenTree : Type 0 where
  pub source : Source
  pub taken : ℕ
  pub kept : FrozenValue

abbrev pub seen_cells : SeenTree → Cell → Option Content
seen_cells tree cell = cell_of tree.source cell

-- a code of what is seen, by which proofs tell two of them apart
abbrev pub seen_code : Coded Source → Coded FrozenValue → Coded SeenTree
seen_code source kept =
    code_by (Source × (ℕ × FrozenValue)) (coded× source (coded× coded_ℕ kept)) (λ t. (t.source, (t.taken, t.kept))) (λ p. record { source = p.0; taken = p.1.0; kept = p.1.1 }) (λ _. refl)

-- what primitives would leave, the primitives that take them back, in their order, and the cells on which both sources differ
pub record SeenStaged : Type 0 where
  pub left : SeenTree
  pub inverses : List Primitive
  pub changed : List Cell

abbrev pub staged_code : Coded SeenTree → Coded (List Primitive) → Coded (List Cell) → Coded SeenStaged
staged_code tree primitives cells =
    code_by (SeenTree × (List Primitive × List Cell)) (coded× tree (coded× primitives cells)) (λ s. (s.left, (s.inverses, s.changed))) (λ p. record { left = p.0; inverses = p.1.0; changed = p.1.1 })
    (λ _. refl)
