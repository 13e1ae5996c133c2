use Rattle.std.proofs.Common.{sym, subst}
use Rattle.source_primitives.specs.Primitives.{MayApplyAll}
use Rattle.source_tree.proofs.Small.{has_room}
use Rattle.source_tree.proofs.tests.stages_and_takes_on.Goals as goal

pub after-requires : goal.after-requires
after-requires g c =
    subst (λ ps. MayApplyAll ps c.in_ok-source.source.source) (sym c.from_ref.ensures.value)
    (has_room c.in_ok-source.source.source c.in_ok-piece.field-0 c.in_ok-source.ensures.text c.in_ok-piece.ensures, tt)
