-- The laws by one name, for `#[tactic(auto, using(text_units::proofs::Rulesets::unit_laws))]`.
use Rattle.text_units.proofs.BoundaryLemmas.{IsPlace-boundary, IsBoundary-start, IsBoundary-end}
use Rattle.text_units.proofs.ClusterLemmas.{clusters-concat, length-clusters}
use Rattle.text_units.proofs.ColumnLemmas.{columns_of-le, clusters-columns-le}
use Rattle.text_units.proofs.StopLemmas.{IsSnapped-boundary, IsNextStop-unique, IsPrevStop-unique, IsSnapped-unique, IsPrevStop-from_next, IsNextStop-from_prev}

pub ruleset unit_laws = (IsPlace-boundary, IsBoundary-start, IsBoundary-end, clusters-concat, length-clusters, columns_of-le, clusters-columns-le, IsSnapped-boundary, IsNextStop-unique, IsPrevStop-unique, IsSnapped-unique, IsPrevStop-from_next, IsNextStop-from_prev)
