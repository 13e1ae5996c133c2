use Rattle.source_tree.proofs.Small.{has_room}
use Rattle.source_tree.proofs.tests.writes_its_lines.Goals as goal

pub apply-requires : goal.apply-requires
apply-requires g c = has_room c.in_ok-source.source.source c.in_ok-piece.field-0 c.in_ok-source.ensures.text c.in_ok-piece.ensures
