use Rattle.std.proofs.Common.{◌∷◌, ◌++◌, [], ap, ◌∙◌}
use Rattle.source_steps.proofs.WholePut.{label_put, up_put, whole_put}
use Rattle.source_steps.proofs.children.whole_document.Goals as goal

pub returns : goal.returns
returns c = λ source linked is cell.
    whole_put source linked c.args.items.now c.push-2.new.changes c.put_all.new.changes c.put_children.new.changes c.in_ok-below.below.to c.in_ok-below.below.kids.items is
    (c.in_ok-push-2.ensures ∙ ap (λ cs. cs ++ up_put ∷ []) (c.in_ok-push.ensures ∙ ap (λ cs. cs ++ label_put ∷ []) c.new-changes.ensures))
    c.in_ok-below.ensures.all c.in_ok-put_children.ensures cell
