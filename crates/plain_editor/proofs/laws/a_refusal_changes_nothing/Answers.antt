use Rattle.plain_editor.proofs.Keystrokes.{refusal_keeps}
use Rattle.plain_editor.proofs.laws.a_refusal_changes_nothing.Goals as goal

pub returns : goal.returns
returns c = refusal_keeps
