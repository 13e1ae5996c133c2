use Rattle.std.proofs.Common.{subst}
use Rattle.source_model.specs.Cells.{cell_of}
use Rattle.source_model.specs.Consistent.{IsLinked}
use Rattle.source_model.specs.Told.{AreSameCells}
use Rattle.frozen_tree.specs.Frozen.{cells_of}
use Rattle.std.specs.Arc.{arc_value}
use Rattle.source_tree.specs.Seen.{SeenTree}
use Rattle.source_tree.proofs.KeptBack.{kept_linked}
use Rattle.source_tree.proofs.tree.SourceTree.view.Goals as goal

pub returns-clause-cells : goal.returns-clause-cells
returns-clause-cells c = subst (λ (t : SeenTree). AreSameCells (cells_of c.self.inside.cells) (cell_of t.source)) c.self.view_is c.self.invariant.cells

pub returns-clause-linked : goal.returns-clause-linked
returns-clause-linked c = subst (λ (t : SeenTree). IsLinked t.source) c.self.view_is (kept_linked (cells_of c.self.inside.cells) c.self.inside.made (arc_value c.self.inside.spaces) c.self.invariant)
