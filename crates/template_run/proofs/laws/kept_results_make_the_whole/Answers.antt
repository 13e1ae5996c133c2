use Rattle.template_run.proofs.KeptLemmas.{kept_whole}
use Rattle.template_run.proofs.laws.kept_results_make_the_whole.Goals as goal

pub returns : goal.returns
returns c = kept_whole
