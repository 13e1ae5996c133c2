use Rattle.fo_lengths.proofs.decimal.split_sign.Goals as goal

pub returns-in-None-clause-none : goal.returns-in-None-clause-none
unfolding lib.Utf8.encode
returns-in-None-clause-none c _ rest e = c.in-None.ensures.cases rest e
