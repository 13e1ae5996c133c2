-- Each turn makes one change more, and at the end all are made.
use Rattle.std.proofs.Common.{◌≡◌, ◌+◌, ◌++◌, ◌∷◌, [], length, take, ap, sym, ◌∙◌, arith}
use Rattle.std.proofs.Math.Seq.{take-length}
use Rattle.std.proofs.lemmas.List.{take_more}
use Rattle.frozen_tree.specs.Maps.{changed_by, stamped_if}
use Rattle.frozen_tree.specs.Frozen.{FrozenValue, state_at, cells_of, stamps_of}
use Rattle.frozen_tree.proofs.MapLemmas.{stamped_by_none, content_more, stamp_more}
use Rattle.frozen_tree.proofs.frozen.Frozen.changed.Goals as goal

pub loop-change-init : goal.loop-change-init
loop-change-init c = record {
  content = λ cell. ap (λ (f : FrozenValue). cells_of f cell) c.in_ok-top.ensures;
  stamps = λ cell. ap (λ (f : FrozenValue). stamps_of f cell) c.in_ok-top.ensures ∙ stamped_by_none c.args.revision (stamps_of c.args.self.now) cell;
}

pub loop-change-preserved : goal.loop-change-preserved
loop-change-preserved c =
    let changes = c.args.changes.now in
    let i = c.loop-change.change-index in
    let change = c.change-item.result in
    let more : take (i + 1) changes ≡ take i changes ++ change ∷ [] =
    take_more changes i change (omega arith) ∙ ap (λ x. take i changes ++ x ∷ []) (sym c.change-item.is) in
    record {
      content = λ cell.
          content_more change c.args.revision cell (state_at c.loop-change.top cell) (state_at c.put.new.top cell) (c.in_ok-put.ensures cell)
          (take i changes) (cells_of c.args.self.now) (c.loop-change.invariant.content cell)
          ∙ ap (λ xs. changed_by xs (cells_of c.args.self.now) cell) (sym more);
      stamps = λ cell.
          stamp_more change c.args.revision cell (state_at c.loop-change.top cell) (state_at c.put.new.top cell) (c.in_ok-put.ensures cell)
          (take i changes) (stamps_of c.args.self.now) (c.loop-change.invariant.stamps cell)
          ∙ ap (λ xs. stamped_if c.args.revision xs (stamps_of c.args.self.now) cell) (sym more);
    }

pub returns-clause-cells : goal.returns-clause-cells
returns-clause-cells c =
    let changes = c.args.changes.now in
    let end : c.loop-change.change-index ≡ length changes = omega arith in
    let all : take c.loop-change.change-index changes ≡ changes = ap (λ n. take n changes) end ∙ take-length changes in
    λ i cell.
    (ap (λ (f : FrozenValue). cells_of f cell) c.in_ok-top-2.ensures.ok
    ∙ c.loop-change.invariant.content cell
    ∙ ap (λ xs. changed_by xs (cells_of c.args.self.now) cell) all) i

pub returns-clause-stamps : goal.returns-clause-stamps
returns-clause-stamps c =
    let changes = c.args.changes.now in
    let end : c.loop-change.change-index ≡ length changes = omega arith in
    let all : take c.loop-change.change-index changes ≡ changes = ap (λ n. take n changes) end ∙ take-length changes in
    λ i cell.
    (ap (λ (f : FrozenValue). stamps_of f cell) c.in_ok-top-2.ensures.ok
    ∙ c.loop-change.invariant.stamps cell
    ∙ ap (λ xs. stamped_if c.args.revision xs (stamps_of c.args.self.now) cell) all) i
