use Rattle.std.proofs.Common.{◌≡◌, List, ℕ, Some, sym, subst}
use Rattle.content_model.specs.Symbols.{symbol_in}
use Rattle.content_model.proofs.Table.{symbol_positive, symbols_apart, symbol_lasting}
use Rattle.content_model.proofs.Reading.{with_name_grows}
use Rattle.content_model.proofs.symbols.number_laws.Goals as goal

pub returns-clause-positive : goal.returns-clause-positive
returns-clause-positive c = symbol_positive

pub returns-clause-apart : goal.returns-clause-apart
returns-clause-apart c = symbols_apart

pub returns-clause-lasting : goal.returns-clause-lasting
returns-clause-lasting c = λ names later name n grows e.
    subst (λ (table : List (List ℕ)). symbol_in table name ≡ Some n) (sym grows.1) (symbol_lasting names grows.0 name n e)

pub returns-clause-growing : goal.returns-clause-growing
returns-clause-growing c = with_name_grows
