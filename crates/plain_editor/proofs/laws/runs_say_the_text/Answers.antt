use Rattle.plain_editor.proofs.SaidTexts.{texts_of-batch}
use Rattle.plain_editor.proofs.laws.runs_say_the_text.Goals as goal

pub returns : goal.returns
returns c = texts_of-batch
