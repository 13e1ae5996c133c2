use Rattle.edit_undo.proofs.Leading.{leads_there, leads_back}
use Rattle.edit_undo.proofs.laws.what_is_done_makes_the_present_source.Goals as goal

pub returns : goal.returns
returns c = record { done = leads_there; undone = leads_back }
