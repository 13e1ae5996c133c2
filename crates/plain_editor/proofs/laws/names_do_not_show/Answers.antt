use Rattle.plain_editor.proofs.Renamed.{view_text-renamed}
use Rattle.plain_editor.proofs.laws.names_do_not_show.Goals as goal

pub returns : goal.returns
returns c = view_text-renamed
