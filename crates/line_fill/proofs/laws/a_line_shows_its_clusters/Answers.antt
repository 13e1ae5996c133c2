use Rattle.line_fill.proofs.Shown.{shows_clusters}
use Rattle.line_fill.proofs.laws.a_line_shows_its_clusters.Goals as goal

pub returns : goal.returns
returns c = shows_clusters
