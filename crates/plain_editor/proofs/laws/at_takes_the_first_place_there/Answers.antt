use Rattle.plain_editor.proofs.Choosing.{step_answered, step_done, step_gone, step_no_view, step_refused}
use Rattle.plain_editor.proofs.laws.at_takes_the_first_place_there.Goals as goal

pub returns : goal.returns
returns c = record { answered = step_answered; done = step_done; gone = step_gone; no_view = step_no_view; refused = step_refused }
