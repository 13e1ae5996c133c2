use Rattle.std.proofs.Common.{refl, sym, ◌∙◌, subst, get_or}
use Rattle.content_model.specs.ShownReader.{BeganBy}
use Rattle.content_model.proofs.Reading.{goes_at, goes_fixed, stops_fixed, goes_in_name, stops_in_name, goes_behind_name}
use Rattle.content_model.proofs.reader.Reader.byte.Goals as goal

pub returns-in_ok-ok-in-None-clause-goes : goal.returns-in_ok-ok-in-None-clause-goes
returns-in_ok-ok-in-None-clause-goes c =
    let text = c.args.text.now in
    goes_at c.args.symbols.now text c.args.at (get_or text c.args.at 0) c.in_ok-ok-in-None.ok c.args.self.now c.begin.new.self
    c.in-None.is c.requires.in_text refl c.in_ok-ok-in-None.ensures.goes

pub returns-in-Some-clause-goes : goal.returns-in-Some-clause-goes
returns-in-Some-clause-goes c =
    let text = c.args.text.now in
    let left = c.in-Some.ensures in
    goes_fixed c.args.symbols.now text c.args.at (get_or text c.args.at 0) c.args.self.now (record { token = c.in-Some.token; builder = c.args.self.now.builder })
    c.in-Fixed.rest left.0 c.in-Fixed.is left.1 left.2 refl

pub returns-in-None-next_of_fixed-clause-goes : goal.returns-in-None-next_of_fixed-clause-goes
returns-in-None-next_of_fixed-clause-goes c =
    let text = c.args.text.now in
    stops_fixed c.args.symbols.now text c.args.at (get_or text c.args.at 0) c.args.self.now c.args.self.now c.in-Fixed.rest c.in-Fixed.is c.in-None-next_of_fixed.ensures

pub returns-in-Some-next_part-clause-goes : goal.returns-in-Some-next_part-clause-goes
returns-in-Some-next_part-clause-goes c =
    let text = c.args.text.now in
    let began = subst (BeganBy c.args.at) c.in-Name.is c.requires.began in
    goes_in_name c.args.symbols.now text c.args.at c.in-Name.start (get_or text c.args.at 0) c.in-Name.part c.in-Some-next_part.next c.args.self.now _
    c.in-Name.is c.in-Some-next_part.ensures refl began c.requires.in_text refl refl

pub returns-then-is_colon-clause-goes : goal.returns-then-is_colon-clause-goes
returns-then-is_colon-clause-goes c =
    let text = c.args.text.now in
    stops_in_name c.args.symbols.now text c.args.at c.in-Name.start (get_or text c.args.at 0) c.in-Name.part c.args.self.now c.args.self.now
    c.in-Name.is c.in-None-next_part.ensures (sym c.is_colon.ensures ∙ c.if-is_colon.true)

pub returns-in_ok-ok-in-None-next_part-clause-goes : goal.returns-in_ok-ok-in-None-next_part-clause-goes
returns-in_ok-ok-in-None-next_part-clause-goes c =
    let text = c.args.text.now in
    let named = c.in_ok-end_name-in-None-next_part.ensures in
    let begun = c.in_ok-ok-in-None-next_part.ensures in
    goes_behind_name c.args.symbols.now c.end_name.new.symbols text c.args.at c.in-Name.start (get_or text c.args.at 0) c.in-Name.part c.in_ok-ok-in-None-next_part.ok
    c.args.self.now c.end_name.new.self c.begin-else-is_colon.new.self
    c.in-Name.is c.in-None-next_part.ensures (sym c.is_colon.ensures ∙ c.if-is_colon.false) c.end_name.ensures.grows named.token named.named c.requires.in_text refl begun.goes
