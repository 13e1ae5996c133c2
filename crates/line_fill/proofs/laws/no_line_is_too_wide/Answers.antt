use Rattle.line_fill.proofs.LineLaws.{all_narrow}
use Rattle.line_fill.proofs.laws.no_line_is_too_wide.Goals as goal

pub returns : goal.returns
returns c = all_narrow
