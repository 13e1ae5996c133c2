use Rattle.fo_lengths.proofs.decimal.split_fraction.Goals as goal

pub returns-in-None-clause-none : goal.returns-in-None-clause-none
unfolding lib.Utf8.encode
returns-in-None-clause-none c rest e = c.in-None.ensures.cases rest e
