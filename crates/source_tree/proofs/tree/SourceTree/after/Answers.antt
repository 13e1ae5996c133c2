use Rattle.std.proofs.Common.{◌≡◌, ◌↔◌, List, Contains, refl, sym, ap, ◌∙◌, subst, rules}
use Rattle.std.specs.Arc.{arc_value}
use Rattle.serna_kinds.specs.declared.cells.Cell.{Cell}
use Rattle.source_model.specs.Source.{Source}
use Rattle.source_model.specs.Cells.{cell_of}
use Rattle.frozen_tree.specs.Frozen.{cells_of, stamps_of}
use Rattle.frozen_tree.specs.Maps.{changed_by, stamped_by}
use Rattle.source_primitives.specs.Primitives.{applied_all, inverses, MayApplyAll}
use Rattle.source_steps.specs.Differences.{IsDifference}
use Rattle.source_tree.specs.Seen.{SeenTree}
use Rattle.source_tree.specs.Kept.{source_told}
use Rattle.source_tree.proofs.Staging.{IsStaged, staged, stamped, unstamped}
use Rattle.source_tree.proofs.tree.SourceTree.after.Goals as goal

pub invariant_of-left : goal.invariant_of-left
invariant_of-left c =
    let view = cells_of c.self.inside.cells in
    let spaces = arc_value c.self.inside.spaces in
    let primitives = c.args.primitives.now in
    let run = c.in_ok-run.run' in
    let difference = c.in_ok-difference.difference in
    let new = cells_of c.in_ok-with_cells_at.field-0 in
    let is : IsDifference view (cells_of run.cells) run.touched.cells difference =
    subst (λ cs. IsDifference view (cells_of run.cells) cs difference) c.cells-2.ensures.cells c.in_ok-difference.ensures in
    let st : IsStaged view c.self.inside.made spaces primitives run difference new =
    staged view c.self.inside.made spaces primitives run difference new c.self.invariant (subst (λ (t : SeenTree). MayApplyAll primitives t.source) (sym c.self.view_is) c.requires)
    c.in_ok-run.ensures is (c.in_ok-with_cells_at.ensures.cells ∙ ap (λ cs. changed_by cs view) c.as_slice.ensures) in
    st.kept

pub returns-clause-source : goal.returns-clause-source
returns-clause-source c =
    let view = cells_of c.self.inside.cells in
    let spaces = arc_value c.self.inside.spaces in
    let primitives = c.args.primitives.now in
    let run = c.in_ok-run.run' in
    let difference = c.in_ok-difference.difference in
    let new = cells_of c.in_ok-with_cells_at.field-0 in
    let is : IsDifference view (cells_of run.cells) run.touched.cells difference =
    subst (λ cs. IsDifference view (cells_of run.cells) cs difference) c.cells-2.ensures.cells c.in_ok-difference.ensures in
    let st : IsStaged view c.self.inside.made spaces primitives run difference new =
    staged view c.self.inside.made spaces primitives run difference new c.self.invariant (subst (λ (t : SeenTree). MayApplyAll primitives t.source) (sym c.self.view_is) c.requires)
    c.in_ok-run.ensures is (c.in_ok-with_cells_at.ensures.cells ∙ ap (λ cs. changed_by cs view) c.as_slice.ensures) in
    ap (source_told new run.made) c.in_ok-clone.ensures.cases ∙ st.source ∙ ap (λ (t : SeenTree). applied_all primitives t.source) c.self.view_is

pub returns-clause-changed : goal.returns-clause-changed
returns-clause-changed c =
    let view = cells_of c.self.inside.cells in
    let spaces = arc_value c.self.inside.spaces in
    let primitives = c.args.primitives.now in
    let run = c.in_ok-run.run' in
    let difference = c.in_ok-difference.difference in
    let new = cells_of c.in_ok-with_cells_at.field-0 in
    let is : IsDifference view (cells_of run.cells) run.touched.cells difference =
    subst (λ cs. IsDifference view (cells_of run.cells) cs difference) c.cells-2.ensures.cells c.in_ok-difference.ensures in
    let st : IsStaged view c.self.inside.made spaces primitives run difference new =
    staged view c.self.inside.made spaces primitives run difference new c.self.invariant (subst (λ (t : SeenTree). MayApplyAll primitives t.source) (sym c.self.view_is) c.requires)
    c.in_ok-run.ensures is (c.in_ok-with_cells_at.ensures.cells ∙ ap (λ cs. changed_by cs view) c.as_slice.ensures) in
    subst (λ (t : SeenTree). (cell : Cell) → Contains difference.cells.cells cell ↔ (cell_of t.source cell ≡ cell_of (source_told new run.made spaces) cell → ⊥)) c.self.view_is st.exact

pub returns-clause-stamped : goal.returns-clause-stamped
returns-clause-stamped c =
    let view = cells_of c.self.inside.cells in
    let run = c.in_ok-run.run' in
    let difference = c.in_ok-difference.difference in
    let old = stamps_of c.self.inside.cells in
    let left = stamps_of c.in_ok-with_cells_at.field-0 in
    let is : IsDifference view (cells_of run.cells) run.touched.cells difference =
    subst (λ cs. IsDifference view (cells_of run.cells) cs difference) c.cells-2.ensures.cells c.in_ok-difference.ensures in
    let e : left ≡ stamped_by c.saturating_add-taken.result difference.changes old =
    c.in_ok-with_cells_at.ensures.stamps ∙ ap (λ cs. stamped_by c.saturating_add-taken.result cs old) c.as_slice.ensures in
    stamped difference view (cells_of run.cells) run.touched.cells c.saturating_add-taken.result old left is e

pub returns-clause-unstamped : goal.returns-clause-unstamped
returns-clause-unstamped c = λ cell absent.
    let view = cells_of c.self.inside.cells in
    let run = c.in_ok-run.run' in
    let difference = c.in_ok-difference.difference in
    let old = stamps_of c.self.inside.cells in
    let left = stamps_of c.in_ok-with_cells_at.field-0 in
    let is : IsDifference view (cells_of run.cells) run.touched.cells difference =
    subst (λ cs. IsDifference view (cells_of run.cells) cs difference) c.cells-2.ensures.cells c.in_ok-difference.ensures in
    let e : left ≡ stamped_by c.saturating_add-taken.result difference.changes old =
    c.in_ok-with_cells_at.ensures.stamps ∙ ap (λ cs. stamped_by c.saturating_add-taken.result cs old) c.as_slice.ensures in
    unstamped difference view (cells_of run.cells) run.touched.cells c.saturating_add-taken.result old left is e cell absent ∙ ap (λ (t : SeenTree). stamps_of t.kept cell) c.self.view_is
