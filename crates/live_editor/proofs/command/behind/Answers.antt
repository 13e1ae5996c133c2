-- What `strip_prefix` leaves is what follows the front.
use Rattle.std.proofs.lemmas.Slice.Eq.{strip_prefix_is}
use Rattle.std.proofs.lemmas.Bool.Decides.{Decides-eqb}
use Rattle.live_editor.proofs.CommandLines.{behind_front-from}
use Rattle.live_editor.proofs.command.behind.Goals as goal

pub returns : goal.returns
returns c =
    behind_front-from c.args.front.now c.args.line.now c.strip_prefix.result (strip_prefix_is Decides-eqb c.args.line.now c.args.front.now c.strip_prefix.result c.strip_prefix.ensures.cases)
