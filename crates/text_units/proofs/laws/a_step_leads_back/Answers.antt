use Rattle.text_units.proofs.StopLemmas.{IsPrevStop-from_next, IsNextStop-from_prev}
use Rattle.text_units.proofs.laws.a_step_leads_back.Goals as goal

pub returns-clause-next : goal.returns-clause-next
returns-clause-next c = IsPrevStop-from_next

pub returns-clause-prev : goal.returns-clause-prev
returns-clause-prev c = IsNextStop-from_prev
