use Rattle.style_sheet.proofs.Saying.{comments-built, comments-said}
use Rattle.style_sheet.proofs.laws.comments.Goals as goal

pub returns-clause-built : goal.returns-clause-built
returns-clause-built c = comments-built

pub returns-clause-style : goal.returns-clause-style
returns-clause-style c = comments-said
