-- What is typed is not empty.
use Rattle.std.proofs.Common.{sym, ap, ◌∙◌, subst}
use Rattle.plain_editor.proofs.Steps.{IsSaid, said}
use Rattle.live_editor.specs.Said as code
use Rattle.live_editor.proofs.editor.Editor.obey.Goals as goal

pub answer_typing-requires : goal.answer_typing-requires
answer_typing-requires c = (subst IsSaid (sym c.in_ok-read_command.ensures ∙ ap code.said c.in-Typing.is) (said c.args.line.now)).0
