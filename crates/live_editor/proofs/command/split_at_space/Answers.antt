-- The first space is where the first part ends.
use Rattle.std.proofs.Common.{sym, ◌∙◌}
use Rattle.live_editor.proofs.CommandLines.{parts-cut, parts-whole}
use Rattle.live_editor.proofs.command.split_at_space.Goals as goal

pub returns-in_err-place-clause-whole : goal.returns-in_err-place-clause-whole
returns-in_err-place-clause-whole c =
    rw c.from_residual.ensures (parts-whole c.args.text.now (sym c.first_space.ensures ∙ c.in_err-place.was))

pub returns-clause-cut : goal.returns-clause-cut
returns-clause-cut c = parts-cut c.args.text.now c.in_ok-place.place (sym c.first_space.ensures ∙ c.in_ok-place.was)
