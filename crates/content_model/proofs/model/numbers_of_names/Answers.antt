use Rattle.content_model.proofs.Knowing.{content_names-with_names}
use Rattle.content_model.proofs.model.numbers_of_names.Goals as goal

pub returns : goal.returns
returns c = λ number written. content_names-with_names number written
