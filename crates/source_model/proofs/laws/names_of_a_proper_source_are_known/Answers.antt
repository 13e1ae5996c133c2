use Rattle.source_model.proofs.NamesGrown.{names-known}
use Rattle.source_model.proofs.laws.names_of_a_proper_source_are_known.Goals as goal

pub returns : goal.returns
returns c = names-known
