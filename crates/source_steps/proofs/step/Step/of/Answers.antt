use Rattle.std.proofs.Common.{IfOk, sym, ap, ◌∙◌, subst}
use Rattle.frozen_tree.specs.Frozen.{cells_of}
use Rattle.source_primitives.specs.declared.primitive.Primitive.TheVariants.{InsertText, RemoveText, InsertChild, RemoveChild, SetAttr, RemoveAttr, PutAttr}
use Rattle.source_steps.specs.Steps.{MayStep, Steps}
use Rattle.source_steps.proofs.Stepped.{insert_may, remove_may, put_may, insert_steps, remove_steps, set_steps, unset_steps, put_steps, three_ok}
use Rattle.source_steps.proofs.ChildStepped.{put_child_may, take_child_may, child_put, child_taken}
use Rattle.source_steps.proofs.step.Step.of.Goals as goal

pub insert_text-requires-clause-place : goal.insert_text-requires-clause-place
insert_text-requires-clause-place c = (insert_may (cells_of c.args.cells.now) c.in-InsertText.text c.in-InsertText.place c.in-InsertText.piece (subst (MayStep (cells_of c.args.cells.now)) c.in-InsertText.is c.requires)).0

pub insert_text-requires-clause-room : goal.insert_text-requires-clause-room
insert_text-requires-clause-room c = (insert_may (cells_of c.args.cells.now) c.in-InsertText.text c.in-InsertText.place c.in-InsertText.piece (subst (MayStep (cells_of c.args.cells.now)) c.in-InsertText.is c.requires)).1

pub remove_text-requires-clause-from : goal.remove_text-requires-clause-from
remove_text-requires-clause-from c = (remove_may (cells_of c.args.cells.now) c.in-RemoveText.text c.in-RemoveText.from c.in-RemoveText.to (subst (MayStep (cells_of c.args.cells.now)) c.in-RemoveText.is c.requires)).0

pub remove_text-requires-clause-to : goal.remove_text-requires-clause-to
remove_text-requires-clause-to c = (remove_may (cells_of c.args.cells.now) c.in-RemoveText.text c.in-RemoveText.from c.in-RemoveText.to (subst (MayStep (cells_of c.args.cells.now)) c.in-RemoveText.is c.requires)).1

pub insert_child-requires : goal.insert_child-requires
insert_child-requires c = (put_child_may (cells_of c.args.cells.now) c.in-InsertChild.parent c.in-InsertChild.place c.in-InsertChild.items (subst (MayStep (cells_of c.args.cells.now)) c.in-InsertChild.is c.requires))

pub remove_child-requires : goal.remove_child-requires
remove_child-requires c = (take_child_may (cells_of c.args.cells.now) c.in-RemoveChild.parent c.in-RemoveChild.place (subst (MayStep (cells_of c.args.cells.now)) c.in-RemoveChild.is c.requires))

pub put_attr-requires : goal.put_attr-requires
put_attr-requires c = (put_may (cells_of c.args.cells.now) c.in-PutAttr.element c.in-PutAttr.place c.in-PutAttr.name c.in-PutAttr.value (subst (MayStep (cells_of c.args.cells.now)) c.in-PutAttr.is c.requires))

pub returns-in-InsertText : goal.returns-in-InsertText
returns-in-InsertText c =
    subst (λ p. IfOk c.insert_text.result (λ step. Steps (cells_of c.args.cells.now) p step)) (sym c.in-InsertText.is)
    (three_ok c.insert_text.result _ _ _ (Steps (cells_of c.args.cells.now) (InsertText c.in-InsertText.text c.in-InsertText.place c.in-InsertText.piece)) (λ step changes undoing made. insert_steps (cells_of c.args.cells.now) c.in-InsertText.text c.in-InsertText.place c.in-InsertText.piece step changes undoing made)
    c.insert_text.ensures.changes c.insert_text.ensures.undoing c.insert_text.ensures.made)

pub returns-in-RemoveText : goal.returns-in-RemoveText
returns-in-RemoveText c =
    subst (λ p. IfOk c.remove_text.result (λ step. Steps (cells_of c.args.cells.now) p step)) (sym c.in-RemoveText.is)
    (three_ok c.remove_text.result _ _ _ (Steps (cells_of c.args.cells.now) (RemoveText c.in-RemoveText.text c.in-RemoveText.from c.in-RemoveText.to)) (λ step changes undoing made. remove_steps (cells_of c.args.cells.now) c.in-RemoveText.text c.in-RemoveText.from c.in-RemoveText.to step changes undoing made)
    c.remove_text.ensures.changes c.remove_text.ensures.undoing c.remove_text.ensures.made)

pub returns-in-InsertChild : goal.returns-in-InsertChild
returns-in-InsertChild c =
    subst (λ p. IfOk c.insert_child.result (λ step. Steps (cells_of c.args.cells.now) p step)) (ap (InsertChild c.in-InsertChild.parent c.in-InsertChild.place) c.as_slice.ensures ∙ sym c.in-InsertChild.is)
    (three_ok c.insert_child.result _ _ _ (Steps (cells_of c.args.cells.now) (InsertChild c.in-InsertChild.parent c.in-InsertChild.place c.as_slice.result.now))
    (λ step changes undoing made. child_put (cells_of c.args.cells.now) c.in-InsertChild.parent c.in-InsertChild.place c.as_slice.result.now step changes undoing made)
    c.insert_child.ensures.changes c.insert_child.ensures.undoing c.insert_child.ensures.made)

pub returns-in-RemoveChild : goal.returns-in-RemoveChild
returns-in-RemoveChild c =
    subst (λ p. IfOk c.remove_child.result (λ step. Steps (cells_of c.args.cells.now) p step)) (sym c.in-RemoveChild.is)
    (three_ok c.remove_child.result _ _ _ (Steps (cells_of c.args.cells.now) (RemoveChild c.in-RemoveChild.parent c.in-RemoveChild.place)) (λ step changes undoing made. child_taken (cells_of c.args.cells.now) c.in-RemoveChild.parent c.in-RemoveChild.place step changes undoing made)
    c.remove_child.ensures.changes c.remove_child.ensures.undoing c.remove_child.ensures.made)

pub returns-in-SetAttr : goal.returns-in-SetAttr
returns-in-SetAttr c =
    subst (λ p. IfOk c.set_attr.result (λ step. Steps (cells_of c.args.cells.now) p step)) (sym c.in-SetAttr.is)
    (three_ok c.set_attr.result _ _ _ (Steps (cells_of c.args.cells.now) (SetAttr c.in-SetAttr.element c.in-SetAttr.name c.in-SetAttr.value)) (λ step changes undoing made. set_steps (cells_of c.args.cells.now) c.in-SetAttr.element c.in-SetAttr.name c.in-SetAttr.value step changes undoing made)
    c.set_attr.ensures.changes c.set_attr.ensures.undoing c.set_attr.ensures.made)

pub returns-in-RemoveAttr : goal.returns-in-RemoveAttr
returns-in-RemoveAttr c =
    subst (λ p. IfOk c.remove_attr.result (λ step. Steps (cells_of c.args.cells.now) p step)) (sym c.in-RemoveAttr.is)
    (three_ok c.remove_attr.result _ _ _ (Steps (cells_of c.args.cells.now) (RemoveAttr c.in-RemoveAttr.element c.in-RemoveAttr.name)) (λ step changes undoing made. unset_steps (cells_of c.args.cells.now) c.in-RemoveAttr.element c.in-RemoveAttr.name step changes undoing made)
    c.remove_attr.ensures.changes c.remove_attr.ensures.undoing c.remove_attr.ensures.made)

pub returns-in-PutAttr : goal.returns-in-PutAttr
returns-in-PutAttr c =
    subst (λ p. IfOk c.put_attr.result (λ step. Steps (cells_of c.args.cells.now) p step)) (sym c.in-PutAttr.is)
    (three_ok c.put_attr.result _ _ _ (Steps (cells_of c.args.cells.now) (PutAttr c.in-PutAttr.element c.in-PutAttr.place c.in-PutAttr.name c.in-PutAttr.value)) (λ step changes undoing made. put_steps (cells_of c.args.cells.now) c.in-PutAttr.element c.in-PutAttr.place c.in-PutAttr.name c.in-PutAttr.value step changes undoing made)
    c.put_attr.ensures.changes c.put_attr.ensures.undoing c.put_attr.ensures.made)
