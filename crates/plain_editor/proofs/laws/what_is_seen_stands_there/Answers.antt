use Rattle.plain_editor.proofs.Seen.{view_seen, view_whole}
use Rattle.plain_editor.proofs.laws.what_is_seen_stands_there.Goals as goal

pub returns : goal.returns
returns c = record { places = view_seen; whole = view_whole }
