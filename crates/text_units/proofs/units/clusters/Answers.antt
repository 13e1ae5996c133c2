use Rattle.text_units.proofs.ClusterLemmas.{clusters-concat, length-clusters}
use Rattle.text_units.proofs.ColumnLemmas.{clusters-columns-le}
use Rattle.text_units.proofs.units.clusters.Goals as goal

pub returns-clause-joined : goal.returns-clause-joined
returns-clause-joined c = rw c.new.ensures (clusters-concat c.args.text.now c.utf8.text)

pub returns-clause-count : goal.returns-clause-count
returns-clause-count c = rw c.new.ensures (length-clusters c.args.text.now c.utf8.text)

pub returns-clause-width : goal.returns-clause-width
returns-clause-width c = rw c.new.ensures (clusters-columns-le c.args.text.now c.utf8.text)
