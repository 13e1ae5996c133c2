use Rattle.frozen_tree.proofs.LawLemmas.{named_late, late_named}
use Rattle.frozen_tree.proofs.laws.late_stamps_are_named.Goals as goal

pub returns : goal.returns
returns c number later stamps cell are early = (late_named number later stamps cell early, named_late number later stamps cell are)
