use Rattle.std.proofs.Common.{[], refl}
use Rattle.serna_kinds.proofs.tests.holds_characters.Goals as goal

pub insert-requires : goal.insert-requires
insert-requires g c = record { before = []; behind = _; whole = refl; place = refl }
