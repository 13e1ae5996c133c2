use Rattle.plain_editor.proofs.Keystrokes.{text_typed, into_typed}
use Rattle.plain_editor.proofs.laws.typing_changes_one_place.Goals as goal

pub returns : goal.returns
returns c = record { text = text_typed; into = into_typed }
