use Rattle.std.proofs.Common.{refl}
use Rattle.frozen_tree.proofs.LawLemmas.{tells_step, tells_chain, tells_whole}
use Rattle.frozen_tree.proofs.laws.stamps_tell.Goals as goal

pub returns : goal.returns
returns c = record { at_first = λ number map stamps cell early. refl; step = tells_step; chain = tells_chain; whole = tells_whole }
