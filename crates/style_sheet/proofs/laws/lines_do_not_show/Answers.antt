use Rattle.style_sheet.proofs.Lineless.{is_built-lineless, style_of-lineless, matched_names-lineless}
use Rattle.style_sheet.proofs.laws.lines_do_not_show.Goals as goal

pub returns : goal.returns
returns c = record { built = is_built-lineless; style = style_of-lineless; matched = matched_names-lineless }
