use Rattle.plain_editor.proofs.Carets.{show_shown, put_seen, typed_between}
use Rattle.plain_editor.proofs.laws.a_caret_stands_where_it_is_seen.Goals as goal

pub returns : goal.returns
returns c = record { shown = show_shown; put = put_seen; typed = typed_between }
