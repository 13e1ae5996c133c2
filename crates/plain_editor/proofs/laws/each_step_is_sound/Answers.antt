use Rattle.plain_editor.proofs.Steps.{step_sound}
use Rattle.plain_editor.proofs.laws.each_step_is_sound.Goals as goal

pub returns-clause-step : goal.returns-clause-step
returns-clause-step c = step_sound
