use Rattle.text_units.proofs.StopLemmas.{IsNextStop-unique, IsPrevStop-unique, IsSnapped-unique}
use Rattle.text_units.proofs.laws.the_nearest_is_one.Goals as goal

pub returns-clause-next : goal.returns-clause-next
returns-clause-next c = IsNextStop-unique

pub returns-clause-prev : goal.returns-clause-prev
returns-clause-prev c = IsPrevStop-unique

pub returns-clause-snapped : goal.returns-clause-snapped
returns-clause-snapped c = IsSnapped-unique
