use Rattle.content_model.specs.Symbols.{number_in}
use Rattle.content_model.proofs.Reading.{number_later}
use Rattle.content_model.proofs.reader.Reader.end_name.Goals as goal

pub returns-clause-named : goal.returns-clause-named
returns-clause-named c = λ later slot g shows.
    let w = c.args.written.now in
    c.in_ok-name.ensures (number_in later) slot w (number_later c.intern_bytes.new.self later w c.in_ok-symbol.symbol c.in_ok-symbol.ensures.number g) shows
