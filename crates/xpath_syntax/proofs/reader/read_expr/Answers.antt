use Rattle.std.proofs.Common.{◌≡◌, ◌∙◌, List, OnOk, subst}
use Rattle.serna_kinds.specs.Names.{NameParts, Grows}
use Rattle.xpath_tokens.specs.declared.faults.ReadAs.TheVariants as how
use Rattle.xpath_tokens.specs.Faults.{fault_among, fault_before}
use Rattle.xpath_grammar.specs.Grammar.{IsExpr}
use Rattle.xpath_syntax.specs.Reading.{HasReading, HasFault, IsReadAs}
use Rattle.xpath_tokens.specs.Symbols.{symbols_of}
use Rattle.xpath_tokens.specs.Tokens.{tokens_of}
use Rattle.xpath_tokens.specs.Named.{HasNames, names_of, with_names}
use Rattle.xpath_parser.proofs.Endings.{reads_expressions}
use Rattle.xpath_syntax.proofs.Answering.{tree_read, only_reading, first_fault, only_fault}
use Rattle.xpath_parser.proofs.Completeness.{one_expr}
use Rattle.xpath_syntax.proofs.reader.read_expr.Goals as goal

pub returns-clause-tree : goal.returns-clause-tree
returns-clause-tree c =
    let spaces = c.args.spaces.now in
    let names = c.read_tokens.new.names in
    let text = c.args.text.now in
    tree_read (λ later. HasReading spaces later text (tokens_of text)) (HasFault spaces names text (tokens_of text)) names c.read_tokens.result
    (subst (λ tokens. IsReadAs IsExpr how.Expression spaces names text tokens c.read_tokens.result) (c.as_slice.ensures ∙ c.in_ok-tokens.ensures.value) c.read_tokens.ensures.read)

pub returns-clause-only : goal.returns-clause-only
returns-clause-only c =
    let spaces = c.args.spaces.now in
    let names = c.read_tokens.new.names in
    let text = c.args.text.now in
    only_reading IsExpr one_expr (fault_among how.Expression spaces text (tokens_of text)) (fault_before how.Expression spaces text (tokens_of text)) (λ (later : List NameParts). symbols_of spaces later text) names c.read_tokens.result
    (subst (λ tokens. IsReadAs IsExpr how.Expression spaces names text tokens c.read_tokens.result) (c.as_slice.ensures ∙ c.in_ok-tokens.ensures.value) c.read_tokens.ensures.read)

pub returns-clause-fault : goal.returns-clause-fault
returns-clause-fault c =
    let spaces = c.args.spaces.now in
    let names = c.read_tokens.new.names in
    let text = c.args.text.now in
    first_fault (λ later. HasReading spaces later text (tokens_of text)) (HasFault spaces names text (tokens_of text)) names c.read_tokens.result
    (subst (λ tokens. IsReadAs IsExpr how.Expression spaces names text tokens c.read_tokens.result) (c.as_slice.ensures ∙ c.in_ok-tokens.ensures.value) c.read_tokens.ensures.read)

pub returns-clause-refused : goal.returns-clause-refused
returns-clause-refused c =
    let spaces = c.args.spaces.now in
    let names = c.read_tokens.new.names in
    let text = c.args.text.now in
    only_fault IsExpr one_expr (fault_among how.Expression spaces text (tokens_of text)) (fault_before how.Expression spaces text (tokens_of text)) (λ (later : List NameParts). symbols_of spaces later text) names c.read_tokens.result
    (subst (λ tokens. IsReadAs IsExpr how.Expression spaces names text tokens c.read_tokens.result) (c.as_slice.ensures ∙ c.in_ok-tokens.ensures.value) c.read_tokens.ensures.read)

pub returns-clause-named : goal.returns-clause-named
returns-clause-named c =
    subst (λ tokens. OnOk c.read_tokens.result ((later : List NameParts) → Grows c.read_tokens.new.names later → HasNames c.args.spaces.now later c.args.text.now tokens)) (c.as_slice.ensures ∙ c.in_ok-tokens.ensures.value) c.read_tokens.ensures.named

pub returns-clause-names : goal.returns-clause-names
returns-clause-names c =
    subst (λ tokens. OnOk c.read_tokens.result (c.read_tokens.new.names ≡ with_names c.args.names.now (names_of c.args.spaces.now c.args.text.now tokens))) (c.as_slice.ensures ∙ c.in_ok-tokens.ensures.value) c.read_tokens.ensures.names

pub read_tokens-requires-clause-reads : goal.read_tokens-requires-clause-reads
read_tokens-requires-clause-reads c = reads_expressions
