use Rattle.std.proofs.Common.{◌≡◌, ◌∷◌, ◌++◌, [], Some, take, drop, map, sym, ap, ◌∙◌, append-nil}
use Rattle.serna_kinds.specs.declared.cells.Facet.TheVariants as facet
use Rattle.source_model.specs.Source.{numbers}
use Rattle.source_model.specs.Cells.{named}
use Rattle.frozen_tree.specs.declared.kept.KeptValue.TheVariants as kept
use Rattle.source_primitives.specs.Primitives.{items_of}
use Rattle.source_steps.specs.CellChanges.{put, puts}
use Rattle.source_steps.proofs.children.insert_child.Goals as goal

pub returns-clause-changes : goal.returns-clause-changes
returns-clause-changes c = λ one leaves is.
    let p = c.in_ok-below.ensures.all one [] tt (record { leaves = leaves; left = is ∙ sym (append-nil (items_of one)) }) in
    let first : c.put_all.new.changes ≡ puts (Some c.args.parent.0) one = p.changed ∙ ap (λ cs. cs ++ puts (Some c.args.parent.0) one) c.new-changes.ensures in
    let kids = c.in_ok-kids.ensures
    ∙ ap (λ ks. take c.args.place c.kids_in-old.result.now ++ (ks ++ drop c.args.place c.kids_in-old.result.now)) (c.deref.ensures.value ∙ p.numbered)
    ∙ ap (λ ks. take c.args.place ks ++ (map named (numbers one) ++ drop c.args.place ks)) c.kids_in-old.ensures in
    c.in_ok-put_children.ensures
    ∙ ap (λ cs. cs ++ put facet.Kids c.args.parent.0 (kept.Kids c.in_ok-kids.kids.items) ∷ []) first
    ∙ ap (λ ks. puts (Some c.args.parent.0) one ++ put facet.Kids c.args.parent.0 (kept.Kids ks) ∷ []) kids
