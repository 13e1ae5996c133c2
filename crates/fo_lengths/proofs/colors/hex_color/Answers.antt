use Rattle.fo_lengths.proofs.Hex.{three_found}
use Rattle.fo_lengths.proofs.colors.hex_color.Goals as goal

pub returns-in-len3-clause-found : goal.returns-in-len3-clause-found
returns-in-len3-clause-found c = three_found c.args.digits.now c.in-len3.len_at_least c.in-len3.len_below c.hex_number.result c.hex_number.ensures
