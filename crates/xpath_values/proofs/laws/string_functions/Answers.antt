use Rattle.xpath_values.proofs.Cuts.{cut_law, no_cut_law, contains_law, begins_law}
use Rattle.xpath_values.proofs.Intervals.{substring_whole}
use Rattle.xpath_values.proofs.Normal.{words_law, normal_law}
use Rattle.xpath_values.proofs.laws.string_functions.Goals as goal

pub returns : goal.returns
returns c = record { cut = cut_law; no_cut = no_cut_law; contains = contains_law; begins = begins_law; words = words_law; normal = normal_law; whole = substring_whole }
