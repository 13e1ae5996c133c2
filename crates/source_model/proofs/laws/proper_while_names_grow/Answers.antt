use Rattle.source_model.proofs.NamesGrown.{IsProper-grown}
use Rattle.source_model.proofs.laws.proper_while_names_grow.Goals as goal

pub returns : goal.returns
returns c = IsProper-grown
