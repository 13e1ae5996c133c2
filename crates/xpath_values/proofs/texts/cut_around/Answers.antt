use Rattle.xpath_values.proofs.Places.{first_cut_split}
use Rattle.xpath_values.proofs.texts.cut_around.Goals as goal

pub returns : goal.returns
returns c = first_cut_split c.args.text.now c.args.other.now c.split_once.result c.utf8.text c.utf8.other c.split_once.ensures.cases
