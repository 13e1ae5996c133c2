-- What is read as a pattern has no fault as an expression either.
use Rattle.std.proofs.Common.{◌≡◌, ℕ, Bool, true, false, cond, List, [], ◌∷◌, Option, Some, None, is_some, refl, ap, ◌∙◌, codes}
use Rattle.std.specs.Map.{lookup}
use Rattle.std.specs.Str.{bytes_eq}
use Rattle.serna_kinds.specs.Names.{NameParts, Space}
use Rattle.xpath_trees.specs.declared.pattern.Pattern.{Pattern}
use Rattle.xpath_tokens.specs.declared.tokens.Kind.{Kind}
use Rattle.xpath_tokens.specs.declared.tokens.Kind.TheVariants as kind
use Rattle.xpath_tokens.specs.declared.tokens.Token.{Token}
use Rattle.xpath_tokens.specs.declared.faults.ExprRule.{ExprRule}
use Rattle.xpath_tokens.specs.declared.faults.ReadAs.TheVariants as how
use Rattle.xpath_tokens.specs.declared.faults.ExprRule.TheVariants as rule
use Rattle.xpath_tokens.specs.Symbols.{written_at, node_types, function_named, symbols_at}
use Rattle.xpath_tokens.specs.Tokens.{tokens_of}
use Rattle.xpath_tokens.specs.Faults.{function_fault, fault_at, or_later, fault_among}
use Rattle.xpath_syntax.specs.Patterns.{expression_of}
use Rattle.xpath_syntax.specs.Reading.{IsReading, IsPatternReading}
use Rattle.xpath_syntax.proofs.Arity.{no_later}
use Rattle.xpath_syntax.proofs.PatternLawLemmas.{pattern_expr}

no_fault : (r : ExprRule) → ◌≡◌ {A = Option ExprRule} (Some r) None → ⊥
no_fault r e = cc

none_at : (spaces : List Space) (k : Kind) (written : List ℕ) (behind : List Token) → fault_at how.Pattern spaces k written behind ≡ None → fault_at how.Expression spaces k written behind ≡ None
none_at spaces kind.Callee written behind e = go (is_some (lookup (bytes_eq written) node_types)) (bytes_eq written (codes "current")) e
  where
    go : (v w : Bool) → cond v None (function_fault (cond w None (function_named written)) behind) ≡ None → cond v None (function_fault (function_named written) behind) ≡ None
    go true w f = refl
    go false true f = absurd (no_fault rule.UnknownFunction f)
    go false false f = f
none_at spaces k written behind e = e

none_among : (spaces : List Space) (text : List ℕ) (ts : List Token) → fault_among how.Pattern spaces text ts ≡ None → fault_among how.Expression spaces text ts ≡ None
none_among spaces text [] e = refl
none_among spaces text (t ∷ ts) e =
    let parts = no_later (fault_at how.Pattern spaces t.kind (written_at text t) ts) t.start (fault_among how.Pattern spaces text ts) e in
    ap (λ o. or_later o t.start (fault_among how.Expression spaces text ts)) (none_at spaces t.kind (written_at text t) ts parts.0) ∙ none_among spaces text ts parts.1

pub pattern_reading : (spaces : List Space) (names : List NameParts) (text : List ℕ) (pattern : Pattern) → IsPatternReading spaces names text pattern → IsReading spaces names text (expression_of pattern)
pattern_reading spaces names text pattern reading = record {
  has = (pattern_expr (symbols_at spaces names text (tokens_of text)) pattern reading.has.0, reading.has.1);
  faultless = none_among spaces text (tokens_of text) reading.faultless;
}
