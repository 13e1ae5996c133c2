-- A command line that says `show` is obeyed as `show`.
use Rattle.std.proofs.Common.{◌∙◌, sym, ap}
use Rattle.plain_editor.specs.Editor.{opened, obeyed}
use Rattle.plain_editor.proofs.laws.a_show_is_fresh.Goals as goal

pub returns-clause-answer : goal.returns-clause-answer
returns-clause-answer c = λ style editor line is. ap (λ command. (obeyed style editor command).1) is ∙ sym (ap (λ command. (obeyed style (opened editor.names editor.source) command).1) is)

pub returns-clause-stops : goal.returns-clause-stops
returns-clause-stops c = λ style editor line is. ap (λ command. (obeyed style editor command).0.stops) is ∙ sym (ap (λ command. (obeyed style (opened editor.names editor.source) command).0.stops) is)
