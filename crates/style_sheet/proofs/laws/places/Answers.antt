use Rattle.style_sheet.proofs.Saying.{place_of}
use Rattle.style_sheet.proofs.laws.places.Goals as goal

pub returns : goal.returns
returns c = place_of
