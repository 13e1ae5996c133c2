use Rattle.std.proofs.Common.{◌≡◌, ◌+◌, ◌∷◌, drop, sym, ap, ◌∙◌}
use Rattle.std.proofs.lemmas.List.{drop_more}
use Rattle.frozen_tree.specs.Frozen.{cells_of}
use Rattle.source_steps.proofs.Applying.{one_applied, covers_more}
use Rattle.source_steps.proofs.run.Run.of.Goals as goal

pub loop-primitive-preserved : goal.loop-primitive-preserved
loop-primitive-preserved c =
    let primitives = c.args.primitives.now in
    let at = c.loop-primitive.primitive-index in
    let primitive = c.primitive-item.result in
    let run = c.loop-primitive.run in
    let next : drop at primitives ≡ primitive ∷ drop (at + 1) primitives = drop_more primitives at primitive c.loop-primitive-test.true ∙ ap (λ p. p ∷ drop (at + 1) primitives) (sym c.primitive-item.is) in (
      λ source ready. one_applied source primitives at run c.add.new.self primitive next (c.loop-primitive.invariant.0 source ready) c.in_ok-add.ensures,
      covers_more (cells_of c.args.cells.now) run c.add.new.self primitive c.loop-primitive.invariant.1 c.in_ok-add.ensures,
    )
