-- A pattern, read as an expression.
use Rattle.std.proofs.Common.{◌≡◌, Bool, List, [], ◌∷◌, ◌++◌, map, Some, sym, refl, ap, ◌∙◌, inl, inr, append-nil, arith}
use Rattle.std.specs.List.{AllByRecursion}
use Rattle.xpath_trees.specs.declared.expr.Expr.{Expr}
use Rattle.xpath_trees.specs.declared.expr.Expr.TheVariants as expr
use Rattle.xpath_trees.specs.declared.expr.PathStart.TheVariants as start
use Rattle.xpath_trees.specs.declared.pattern.Pattern.{Pattern}
use Rattle.xpath_grammar.specs.declared.operand.Level.TheVariants as level
use Rattle.xpath_tokens.specs.declared.symbol.Operator.{Operator}
use Rattle.xpath_tokens.specs.declared.symbol.Operator.TheVariants as operator
use Rattle.xpath_tokens.specs.declared.symbol.Symbol.{Symbol}
use Rattle.xpath_grammar.specs.Trees.{level_of}
use Rattle.xpath_grammar.specs.Grammar.{Part, part, further, chain, Stepped, slash, behind_slash, widened, AreSteps, IsPath, IsUnion, IsExpr}
use Rattle.xpath_parser.specs.Machine.{beginning}
use Rattle.xpath_syntax.specs.Patterns.{IsPredicate, IsStepPattern, PathPart, IsPathPattern, bar, behind_bar, IsPattern, path_of, expression_of}
use Rattle.xpath_parser.proofs.Completeness.{Reads, reads_chain, reads_path, reads_expr_in}
use Rattle.xpath_parser.proofs.Outcomes.{outcome}
use Rattle.xpath_parser.proofs.Steps.{is_expr}

are_steps : (xs : List (Bool × Stepped)) → AllByRecursion (λ x. IsStepPattern x.1) xs → AreSteps IsPredicate xs
are_steps [] all = tt
are_steps (x ∷ xs) all = (inl all.0.written, are_steps xs all.1)

abbrev operand : PathPart → Part
operand q = part q.tokens (path_of q.tree)

-- an alternative is a path
is_path : (q : PathPart) → IsPathPattern q → IsPath IsPredicate (operand q)
is_path q (inl e) = inr (inl (ap operand e))
is_path q (inr (inl w)) = inl (record {
  first = w.steps_are.first;
  others = w.steps_are.others;
  first_is = inl w.steps_are.first_is.written;
  others_are = are_steps w.steps_are.others w.steps_are.others_are;
  whole_is = ap operand w.whole_is ∙ ap (λ l. part l (expr.Path start.Context w.steps)) w.steps_are.tokens_are
      ∙ ap (λ l. part (w.steps_are.first.tokens ++ behind_slash w.steps_are.others) (expr.Path start.Context l)) w.steps_are.steps_are;
})
is_path q (inr (inr w)) = inr (inr (inl (record {
  first = (w.double, w.steps_are.first);
  others = w.steps_are.others;
  steps_are = (inl w.steps_are.first_is.written, are_steps w.steps_are.others w.steps_are.others_are);
  whole_is = ap operand w.whole_is
      ∙ ap (λ l. part (slash w.double ∷ l) (expr.Path start.Root (widened w.double ++ w.steps))) w.steps_are.tokens_are
      ∙ ap (λ l. part (behind_slash ((w.double, w.steps_are.first) ∷ w.steps_are.others)) (expr.Path start.Root (widened w.double ++ l))) w.steps_are.steps_are;
})))

-- the further alternatives as operands of `|`
abbrev operands : List PathPart → List (Operator × Part)
operands = map (λ q. (operator.Union, operand q))

are_paths : (qs : List PathPart) → AllByRecursion IsPathPattern qs → AllByRecursion (λ (x : Operator × Part). (level_of x.0 ≡ level.Union) × IsPath IsPredicate x.1) (operands qs)
are_paths [] all = tt
are_paths (q ∷ qs) all = ((refl, is_path q all.0), are_paths qs all.1)

same_tokens : (qs : List PathPart) → behind_bar qs ≡ further (operands qs)
same_tokens [] = refl
same_tokens (q ∷ qs) = ap (λ l. bar ∷ (q.tokens ++ l)) (same_tokens qs)

same_trees : (qs : List PathPart) → map path_of (map (λ (q : PathPart). q.tree) qs) ≡ map (λ (x : Operator × Expr). x.1) (map (λ (y : Operator × Part). (y.0, y.1.tree)) (operands qs))
same_trees [] = refl
same_trees (q ∷ qs) = ap (λ l. path_of q.tree ∷ l) (same_trees qs)

-- alternatives are a chain of `|`
is_union : (tokens : List Symbol) (pattern : Pattern) → IsPattern tokens pattern → IsUnion IsPredicate (part tokens (expression_of pattern))
is_union tokens pattern is = record {
  first = operand is.first;
  others = operands is.others;
  first_is = is_path is.first is.first_is;
  others_are = are_paths is.others is.others_are;
  whole_is = ap (λ l. part l (expression_of pattern)) is.tokens_are ∙ ap (λ p. part (is.first.tokens ++ behind_bar is.others) (expression_of p)) is.pattern_is ∙ go is.others;
}
  where
    go : (qs : List PathPart) → part (is.first.tokens ++ behind_bar qs) (expression_of (record { alternatives = is.first.tree ∷ map (λ (q : PathPart). q.tree) qs })) ≡ chain level.Union (operand is.first) (operands qs)
    go [] = ap (λ l. part l (path_of is.first.tree)) (append-nil is.first.tokens)
    go (q ∷ qs) =
        ap (λ l. part (is.first.tokens ++ l) (expr.Union (path_of is.first.tree ∷ map path_of (map (λ (r : PathPart). r.tree) (q ∷ qs))))) (same_tokens (q ∷ qs))
        ∙ ap (λ l. part (is.first.tokens ++ further (operands (q ∷ qs))) (expr.Union (path_of is.first.tree ∷ l))) (same_trees (q ∷ qs))

reads_predicate : Reads 1 IsPredicate
reads_predicate p (depth, is) s fits rest f = reads_expr_in depth (part p.tokens p.tree) is s fits rest f

-- a pattern is an expression
pub pattern_expr : (tokens : List Symbol) (pattern : Pattern) → IsPattern tokens pattern → IsExpr tokens (expression_of pattern)
pattern_expr tokens pattern is =
    is_expr tokens (expression_of pattern)
    (ap (outcome (Some beginning)) (sym (append-nil tokens)) ∙ reads_chain level.Union 9 (omega arith) (IsPath IsPredicate) (reads_path IsPredicate reads_predicate) (part tokens (expression_of pattern)) (is_union tokens pattern is) [] tt [] tt)
