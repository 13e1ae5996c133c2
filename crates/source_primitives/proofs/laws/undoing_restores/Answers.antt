use Rattle.source_primitives.proofs.Undone.{undone_tree, undone_spaces, undone_made}
use Rattle.source_primitives.proofs.MayUndo.{may_undo}
use Rattle.source_primitives.proofs.laws.undoing_restores.Goals as goal

pub returns : goal.returns
returns c = record {
  tree = undone_tree;
  may = may_undo;
  spaces = undone_spaces;
  made = undone_made;
}
