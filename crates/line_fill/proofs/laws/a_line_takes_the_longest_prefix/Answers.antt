use Rattle.line_fill.proofs.LineLaws.{longest_words, longest_fit, one_cluster}
use Rattle.line_fill.proofs.laws.a_line_takes_the_longest_prefix.Goals as goal

pub returns-clause-words : goal.returns-clause-words
returns-clause-words c = longest_words

pub returns-clause-parted : goal.returns-clause-parted
returns-clause-parted c = longest_fit

pub returns-clause-one : goal.returns-clause-one
returns-clause-one c = one_cluster
