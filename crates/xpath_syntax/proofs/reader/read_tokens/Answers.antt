use Rattle.std.proofs.Common.{List, sym, subst, inl, inr}
use Rattle.serna_kinds.specs.Names.{NameParts}
use Rattle.xpath_tokens.specs.declared.symbol.Symbol.{Symbol}
use Rattle.xpath_machine.specs.Stops.{HasTreeBy, IsStopBy, IsParsedBy}
use Rattle.xpath_tokens.specs.Symbols.{symbols_at}
use Rattle.xpath_syntax.proofs.Answering.{stop_within, by_table}
use Rattle.xpath_syntax.proofs.reader.read_tokens.Goals as goal

pub fault_before-rule-requires-clause-within : goal.fault_before-rule-requires-clause-within
fault_before-rule-requires-clause-within g c =
    let by : List NameParts → List Symbol = λ names. symbols_at c.args.spaces.now names c.args.text.now c.args.tokens.now in
    let stop : IsStopBy g.M.Machine.grammar c.in_ok-symbols.symbols c.in-Err.count = subst (IsParsedBy g.M.Machine.grammar c.in_ok-symbols.symbols) c.in-Err.is c.in_ok-tree.ensures in
    stop_within g.M.Machine.grammar c.args.spaces.now c.symbols_at.new.names c.args.text.now c.args.tokens.now c.in-Err.count
    (by_table (λ symbols. IsStopBy g.M.Machine.grammar symbols c.in-Err.count) c.symbols_at.new.names c.in_ok-symbols.symbols by c.in_ok-symbols.ensures.symbols stop)

pub returns-in-Some-clause-read : goal.returns-in-Some-clause-read
returns-in-Some-clause-read g c =
    let by : List NameParts → List Symbol = λ names. symbols_at c.args.spaces.now names c.args.text.now c.args.tokens.now in
    let has : HasTreeBy g.M.Machine.grammar c.in_ok-symbols.symbols c.in-Ok.tree = subst (IsParsedBy g.M.Machine.grammar c.in_ok-symbols.symbols) c.in-Ok.is c.in_ok-tree.ensures in
    inr (c.in-Ok.tree, by_table (λ symbols. HasTreeBy g.M.Machine.grammar symbols c.in-Ok.tree) c.symbols_at.new.names c.in_ok-symbols.symbols by c.in_ok-symbols.ensures.symbols has, sym c.in-Some.ensures)

pub returns-in-Err-clause-read : goal.returns-in-Err-clause-read
returns-in-Err-clause-read g c =
    let by : List NameParts → List Symbol = λ names. symbols_at c.args.spaces.now names c.args.text.now c.args.tokens.now in
    let stop : IsStopBy g.M.Machine.grammar c.in_ok-symbols.symbols c.in-Err.count = subst (IsParsedBy g.M.Machine.grammar c.in_ok-symbols.symbols) c.in-Err.is c.in_ok-tree.ensures in
    inl (c.in-Err.count, by_table (λ symbols. IsStopBy g.M.Machine.grammar symbols c.in-Err.count) c.symbols_at.new.names c.in_ok-symbols.symbols by c.in_ok-symbols.ensures.symbols stop, sym c.fault_before-rule.ensures)
