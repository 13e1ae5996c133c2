use Rattle.edit_undo.proofs.Leading.{begins, push, may_undo, undo, may_redo, redo, redo_after_undo}
use Rattle.edit_undo.proofs.laws.a_history_leads_to_the_present_source.Goals as goal

pub returns : goal.returns
returns c = record {
  begins = begins;
  push = push;
  may_undo = may_undo;
  undo = undo;
  may_redo = may_redo;
  redo = redo;
  redo_after_undo = redo_after_undo;
}
