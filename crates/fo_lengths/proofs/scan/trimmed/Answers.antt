use Rattle.fo_lengths.proofs.Trims.{trims}
use Rattle.fo_lengths.proofs.scan.trimmed.Goals as goal

pub returns : goal.returns
returns c = trims c.args.text.now c.trim_matches.result.now c.trim_matches.ensures.matches
