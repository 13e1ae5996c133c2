use Rattle.std.proofs.Common.{reverse, ◌∙◌}
use Rattle.source_primitives.proofs.UndoneAll.{same_spaces_all}
use Rattle.edit_undo.specs.Leads.{done_to}
use Rattle.edit_undo.proofs.Again.{again_self}
use Rattle.edit_undo.proofs.Leading.{goes_back, no_number, goes_forth}
use Rattle.edit_undo.proofs.laws.an_undo_takes_a_change_back.Goals as goal

pub returns : goal.returns
returns c = record {
  tree = λ source change consistent is. (goes_back change source (done_to change source) consistent is (again_self (done_to change source))).tree;
  spaces = λ source change. same_spaces_all (reverse change.inverses) (done_to change source) ∙ same_spaces_all change.prims source;
  made = λ source change consistent is. no_number change source (done_to change source) consistent is (again_self (done_to change source));
  redo = λ source change consistent is. goes_forth change source (done_to change source) consistent is (again_self (done_to change source));
}
