-- What typing does may be applied.
use Rattle.std.proofs.Common.{◌≡◌, ◌∷◌, ◌++◌, [], get_or, sym, ap, ◌∙◌, subst}
use Rattle.source_primitives.specs.Primitives.{MayType, MayApply}
use Rattle.source_primitives.proofs.PutBack.{linked_proper}
use Rattle.source_primitives.proofs.Typed.{may_apply}
use Rattle.plain_editor.specs.Editor.{Editor}
use Rattle.live_editor.proofs.editor.Editor.change.Goals as goal

pub apply-requires : goal.apply-requires
apply-requires c =
    let source = c.self.inside.source.source in
    let same : source ≡ c.args.self.now.source = ap (λ (e : Editor). e.source) c.self.view_is in
    let list : c.as_slice.result.now ≡ c.args.prim ∷ [] = c.as_slice.ensures ∙ c.in_ok-push.ensures.ok ∙ ap (λ ps. ps ++ c.args.prim ∷ []) c.new-prims.ensures in
    let is : c.index-as_slice-0.result ≡ c.args.prim = c.index-as_slice-0.is ∙ ap (λ ps. get_or ps 0 c.index-as_slice-0.result) list in
    subst (λ p. MayApply p source) (sym is)
    (may_apply source c.args.prim (linked_proper c.self.inside.names source c.self.invariant.proper) (subst (MayType c.args.prim) (sym same) c.requires.may))
