use Rattle.source_primitives.proofs.UndoneAll.{undone_all, may_undo_all, undone_all_spaces, undone_all_made}
use Rattle.source_primitives.proofs.laws.undoing_a_change_restores.Goals as goal

pub returns : goal.returns
returns c = record {
  tree = undone_all;
  may = may_undo_all;
  spaces = undone_all_spaces;
  made = undone_all_made;
}
