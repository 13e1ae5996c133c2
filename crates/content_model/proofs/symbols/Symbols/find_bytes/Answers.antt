use Rattle.std.proofs.Common.{Some, None, ◌∙◌, ap}
use Rattle.content_model.specs.Symbols.{symbol_in}
use Rattle.content_model.proofs.Table.{found}
use Rattle.content_model.proofs.symbols.Symbols.find_bytes.Goals as goal

pub returns-in-Some : goal.returns-in-Some
returns-in-Some c =
    found (λ name. name.items) c.args.written.now c.self.inside.names.keys (Some c.in-Some.place) c.in-Some.ensures.index
    ∙ ap (λ names. symbol_in names c.args.written.now) c.self.view_is

pub returns-in-None : goal.returns-in-None
returns-in-None c =
    found (λ name. name.items) c.args.written.now c.self.inside.names.keys None c.in-None.ensures.index
    ∙ ap (λ names. symbol_in names c.args.written.now) c.self.view_is
