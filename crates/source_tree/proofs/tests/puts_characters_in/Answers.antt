use Rattle.source_tree.proofs.Small.{has_room}
use Rattle.source_tree.proofs.tests.puts_characters_in.Goals as goal

pub apply-requires : goal.apply-requires
apply-requires g c = has_room c.in_ok-source.source.source c.in_ok-characters.characters c.in_ok-source.ensures.text c.in_ok-characters.ensures
