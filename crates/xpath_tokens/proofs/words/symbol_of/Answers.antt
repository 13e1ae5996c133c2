use Rattle.std.proofs.Common.{◌∙◌, ap, sym, subst}
use Rattle.serna_kinds.specs.declared.cells.NameId.{NameId}
use Rattle.serna_kinds.specs.Names.{id_of}
use Rattle.serna_kinds.specs.declared.expressions.NodeTest.TheVariants as test
use Rattle.xpath_trees.specs.declared.expr.Expr.TheVariants as expr
use Rattle.xpath_tokens.specs.declared.symbol.Symbol.TheVariants as symbol
use Rattle.serna_kinds.specs.Qualified.{attribute_name}
use Rattle.xpath_tokens.specs.Symbols.{symbol_of}
use Rattle.xpath_tokens.specs.Named.{IsStored, HasName}
use Rattle.xpath_tokens.proofs.words.symbol_of.Goals as goal

pub returns-in_ok-name-in-Name-clause-symbol : goal.returns-in_ok-name-in-Name-clause-symbol
returns-in_ok-name-in-Name-clause-symbol c later grows =
    ap (λ (n : NameId). symbol.Test (test.Named n)) (c.in_ok-name-in-Name.ensures.number later grows) ∙ ap (λ k. symbol_of c.args.spaces.now later k c.args.written.now) (sym c.in-Name.is)

pub returns-in_ok-name-in-Variable-clause-symbol : goal.returns-in_ok-name-in-Variable-clause-symbol
returns-in_ok-name-in-Variable-clause-symbol c later grows =
    ap (λ (n : NameId). symbol.Atom (expr.Variable n)) (c.in_ok-name-in-Variable.ensures.number later grows ∙ ap (λ w. id_of later (attribute_name c.args.spaces.now w)) c.without_dollar.ensures)
    ∙ ap (λ k. symbol_of c.args.spaces.now later k c.args.written.now) (sym c.in-Variable.is)

pub returns-in_ok-name-in-Variable-clause-named : goal.returns-in_ok-name-in-Variable-clause-named
returns-in_ok-name-in-Variable-clause-named c later grows =
    subst (λ k. HasName c.args.spaces.now later k c.args.written.now) (sym c.in-Variable.is)
    (subst (λ w. IsStored later (attribute_name c.args.spaces.now w)) c.without_dollar.ensures (c.in_ok-name-in-Variable.ensures.stored later grows))
