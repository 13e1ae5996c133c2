use Rattle.text_units.proofs.BoundaryLemmas.{IsPlace-boundary, cluster_boundaries-rise, IsBoundary-start, IsBoundary-end}
use Rattle.text_units.proofs.laws.boundaries_rise_from_start_to_end.Goals as goal

pub returns-clause-places : goal.returns-clause-places
returns-clause-places c = IsPlace-boundary

pub returns-clause-rise : goal.returns-clause-rise
returns-clause-rise c = cluster_boundaries-rise

pub returns-clause-start : goal.returns-clause-start
returns-clause-start c = IsBoundary-start

pub returns-clause-end : goal.returns-clause-end
returns-clause-end c = IsBoundary-end
