use Rattle.std.proofs.Common.{◌≡◌, sym, ap, ◌∙◌, subst}
use Rattle.source_model.specs.Proper.{IsProper}
use Rattle.source_primitives.specs.Primitives.{applied, applied_all}
use Rattle.source_primitives.proofs.ProperKept.{proper_kept}
use Rattle.source_tree.specs.Seen.{SeenStaged}
use Rattle.source_tree.proofs.tree.SourceTree.apply.Goals as goal

pub returns-clause-proper : goal.returns-clause-proper
returns-clause-proper c = λ names type proper keeps.
    let source = c.args.self.now.source in
    let is : c.staged.inside.left.source ≡ applied c.args.primitive.now source =
    ap (λ (x : SeenStaged). x.left.source) c.staged.view_is ∙ c.in_ok-staged.ensures.source ∙ ap (λ ps. applied_all ps source) c.from_ref.ensures.value in
    subst (IsProper names) (sym is) (proper_kept names source c.args.primitive.now proper type keeps)
