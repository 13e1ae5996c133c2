use Rattle.std.proofs.Common.{[], ◌∷◌, ◌++◌, ap, ◌∙◌}
use Rattle.source_primitives.specs.declared.primitive.Primitive.TheVariants.{InsertChild}
use Rattle.source_primitives.specs.declared.primitive.SubItem.TheVariants as item
use Rattle.source_primitives.proofs.Typed.{may_apply}
use Rattle.source_tree.proofs.Small.{may_add}
use Rattle.source_tree.proofs.tests.adds_a_comment.Goals as goal

pub apply-requires : goal.apply-requires
apply-requires g c =
    may_apply c.in_ok-source.source.source (InsertChild (record { 0 = 4 }) 0 c.push.new.self) c.view.ensures.linked
    (may_add c.in_ok-source.source.source c.in_ok-piece.field-0 c.push.new.self c.in_ok-source.ensures.inner c.in_ok-source.ensures.made
    (c.in_ok-push.ensures.ok ∙ ap (λ is. is ++ item.Comment (record { 0 = 6 }) c.in_ok-piece.field-0 ∷ []) c.new-items.ensures))
