use Rattle.content_model.proofs.Reading.{begun_name}
use Rattle.content_model.proofs.reader.Reader.begin.Goals as goal

pub returns-in-Name-clause-goes : goal.returns-in-Name-clause-goes
returns-in-Name-clause-goes c = λ number s text none within is shows.
    begun_name number s text c.args.at c.args.byte c.begin_word.new.self c.if-byte-eq32.false c.in-None.ensures within is (c.in-Name.ensures number s shows)
