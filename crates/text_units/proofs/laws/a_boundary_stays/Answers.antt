use Rattle.text_units.proofs.StopLemmas.{IsSnapped-boundary, IsSnapped-unique}
use Rattle.text_units.proofs.laws.a_boundary_stays.Goals as goal

pub returns-clause-boundary : goal.returns-clause-boundary
returns-clause-boundary c = λ text at stop b snapped. IsSnapped-unique text at stop at snapped (IsSnapped-boundary text at b)

pub returns-clause-again : goal.returns-clause-again
returns-clause-again c = λ text at once again p q. IsSnapped-unique text once again once q (IsSnapped-boundary text once p.boundary)
