-- A text without fault gives each call as many arguments as its function takes, as the grammar sees its tokens.
use Rattle.std.proofs.Common.{◌≡◌, ◌+◌, ◌-◌, ◌==◌, ◌&&◌, ℕ, suc, Bool, true, false, cond, List, [], ◌∷◌, ◌++◌, Option, Some, None, is_some, unwrap_or, option_map, refl, ap, ◌∙◌, subst, append_assoc}
use Rattle.std.specs.List.{AllByRecursion}
use Rattle.std.specs.Map.{lookup}
use Rattle.std.specs.Str.{bytes_eq}
use Rattle.serna_kinds.specs.Names.{NameParts, Space}
use Rattle.serna_kinds.specs.declared.expressions.Axis.{Axis}
use Rattle.serna_kinds.specs.declared.expressions.NodeTest.{NodeTest}
use Rattle.xpath_trees.specs.declared.expr.Function.{Function}
use Rattle.xpath_trees.specs.declared.expr.Function.TheVariants as function
use Rattle.xpath_tokens.specs.declared.faults.ExprRule.{ExprRule}
use Rattle.xpath_tokens.specs.declared.faults.ReadAs.TheVariants as how
use Rattle.xpath_tokens.specs.declared.faults.ExprRule.TheVariants as rule
use Rattle.xpath_tokens.specs.declared.symbol.Symbol.{Symbol}
use Rattle.xpath_tokens.specs.declared.symbol.Symbol.TheVariants as symbol
use Rattle.xpath_tokens.specs.declared.tokens.Kind.{Kind}
use Rattle.xpath_tokens.specs.declared.tokens.Kind.TheVariants as kind
use Rattle.xpath_tokens.specs.declared.tokens.Token.{Token}
use Rattle.xpath_tokens.specs.Symbols.{written_at, node_types, axes, function_named, callee_or, axis_or_wrong, symbol_of, symbols_at}
use Rattle.xpath_tokens.specs.Faults.{opens, closes, is_comma, commas, arguments_behind, arguments_of, wrong_arity, function_fault, fault_at, or_later, fault_among}
use Rattle.xpath_syntax.proofs.Balance.{opens_in, closes_in, is_comma_in, counted, given_behind, given_of}

-- a function's name has as many arguments behind it as the function takes
abbrev pub IsGiven : Symbol → List Symbol → Type 0
IsGiven (symbol.Callee f) behind = wrong_arity f (given_of behind) ≡ None
IsGiven _ behind = Unit {0}

abbrev pub AreGiven : List Symbol → Type 0
AreGiven [] = Unit {0}
AreGiven (s ∷ ss) = IsGiven s ss × AreGiven ss

pub given_past : (a b : List Symbol) → AreGiven (a ++ b) → AreGiven b
given_past [] b given = given
given_past (x ∷ a) b given = given_past a b given.1

pub regrouped : (a b rest : List Symbol) → AreGiven ((a ++ b) ++ rest) → AreGiven (a ++ (b ++ rest))
regrouped a b rest given = subst AreGiven (append_assoc a b rest) given

pub all-append : {X : Type 0} (P : X → Type 0) (a b : List X) → AllByRecursion P (a ++ b) → AllByRecursion P a × AllByRecursion P b
all-append P [] b all = (tt, all)
all-append P (x ∷ a) b all = let rest = all-append P a b all.1 in ((all.0, rest.0), rest.1)

-- Faults of tokens

pub no_later : (r : Option ExprRule) (place : ℕ) (later : Option (ExprRule × ℕ)) → or_later r place later ≡ None → (r ≡ None) × (later ≡ None)
no_later None place later e = (refl, e)
no_later (Some found) place later e = cc

same_step : (a b z m : Bool) (x p p' q q' r r' s s' : Option ℕ) → p ≡ p' → q ≡ q' → r ≡ r' → s ≡ s' → cond a p (cond b (cond z x q) (cond (m && z) r s)) ≡ cond a p' (cond b (cond z x q') (cond (m && z) r' s'))
same_step true b z m x p p' q q' r r' s s' one two three four = one
same_step false true true m x p p' q q' r r' s s' one two three four = refl
same_step false true false m x p p' q q' r r' s s' one two three four = two
same_step false false true true x p p' q q' r r' s s' one two three four = three
same_step false false false true x p p' q q' r r' s s' one two three four = four
same_step false false z false x p p' q q' r r' s s' one two three four = four

no_rule : (x : ExprRule) → Some x ≡ None → ⊥
no_rule x e = cc

module _ (spaces : List Space) (names : List NameParts) where
  opens_same : (k : Kind) (w : List ℕ) → opens k ≡ opens_in (symbol_of spaces names k w)
  opens_same kind.Callee w = go (lookup (bytes_eq w) node_types)
    where
      go : (o : Option NodeTest) → false ≡ opens_in (callee_or w o)
      go None = refl
      go (Some t) = refl
  opens_same kind.AxisName w = go (lookup (bytes_eq w) axes)
    where
      go : (o : Option Axis) → false ≡ opens_in (axis_or_wrong o)
      go None = refl
      go (Some a) = refl
  opens_same k w = refl

  closes_same : (k : Kind) (w : List ℕ) → closes k ≡ closes_in (symbol_of spaces names k w)
  closes_same kind.Callee w = go (lookup (bytes_eq w) node_types)
    where
      go : (o : Option NodeTest) → false ≡ closes_in (callee_or w o)
      go None = refl
      go (Some t) = refl
  closes_same kind.AxisName w = go (lookup (bytes_eq w) axes)
    where
      go : (o : Option Axis) → false ≡ closes_in (axis_or_wrong o)
      go None = refl
      go (Some a) = refl
  closes_same k w = refl

  comma_same : (k : Kind) (w : List ℕ) → is_comma k ≡ is_comma_in (symbol_of spaces names k w)
  comma_same kind.Callee w = go (lookup (bytes_eq w) node_types)
    where
      go : (o : Option NodeTest) → false ≡ is_comma_in (callee_or w o)
      go None = refl
      go (Some t) = refl
  comma_same kind.AxisName w = go (lookup (bytes_eq w) axes)
    where
      go : (o : Option Axis) → false ≡ is_comma_in (axis_or_wrong o)
      go None = refl
      go (Some a) = refl
  comma_same k w = refl

  module _ (text : List ℕ) where
    commas_same : (d n : ℕ) (ts : List Token) → commas d n ts ≡ counted d n (symbols_at spaces names text ts)
    commas_same d n [] = refl
    commas_same d n (t ∷ ts) =
        let w = written_at text t in
        let s = symbol_of spaces names t.kind w in
        ap (λ v. cond v (commas (d + 1) n ts) (cond (closes t.kind) (cond (d == 0) (Some n) (commas (d - 1) n ts)) (cond (is_comma t.kind && (d == 0)) (commas d (n + 1) ts) (commas d n ts)))) (opens_same t.kind w)
        ∙ ap (λ v. cond (opens_in s) (commas (d + 1) n ts) (cond v (cond (d == 0) (Some n) (commas (d - 1) n ts)) (cond (is_comma t.kind && (d == 0)) (commas d (n + 1) ts) (commas d n ts)))) (closes_same t.kind w)
        ∙ ap (λ v. cond (opens_in s) (commas (d + 1) n ts) (cond (closes_in s) (cond (d == 0) (Some n) (commas (d - 1) n ts)) (cond (v && (d == 0)) (commas d (n + 1) ts) (commas d n ts)))) (comma_same t.kind w)
        ∙ same_step (opens_in s) (closes_in s) (d == 0) (is_comma_in s) (Some n) _ _ _ _ _ _ _ _ (commas_same (d + 1) n ts) (commas_same (d - 1) n ts) (commas_same d (n + 1) ts) (commas_same d n ts)

    behind_same : (ts : List Token) → arguments_behind ts ≡ given_behind (symbols_at spaces names text ts)
    behind_same [] = refl
    behind_same (t ∷ ts) =
        ap (λ v. cond v (Some 0) (option_map suc (commas 0 0 (t ∷ ts)))) (closes_same t.kind (written_at text t))
        ∙ ap (λ o. cond (closes_in (symbol_of spaces names t.kind (written_at text t))) (Some 0) (option_map suc o)) (commas_same 0 0 (t ∷ ts))

    pub arguments_same : (ts : List Token) → arguments_of ts ≡ given_of (symbols_at spaces names text ts)
    arguments_same [] = refl
    arguments_same (t ∷ ts) = behind_same ts

    -- a token without fault
    one_given : (k : Kind) (w : List ℕ) (ts : List Token) → fault_at how.Expression spaces k w ts ≡ None → IsGiven (symbol_of spaces names k w) (symbols_at spaces names text ts)
    one_given kind.Callee w ts e = go (lookup (bytes_eq w) node_types) e
      where
        known : (o : Option Function) → function_fault o ts ≡ None → IsGiven (symbol.Callee (unwrap_or o function.Last)) (symbols_at spaces names text ts)
        known None f = absurd (no_rule rule.UnknownFunction f)
        known (Some f) h = subst (λ n. wrong_arity f n ≡ None) (arguments_same ts) h

        go : (o : Option NodeTest) → cond (is_some o) None (function_fault (function_named w) ts) ≡ None → IsGiven (callee_or w o) (symbols_at spaces names text ts)
        go None f = known (function_named w) f
        go (Some t) f = tt
    one_given kind.AxisName w ts e = go (lookup (bytes_eq w) axes)
      where
        go : (o : Option Axis) → IsGiven (axis_or_wrong o) (symbols_at spaces names text ts)
        go None = tt
        go (Some a) = tt
    one_given k w ts e = tt

    pub all_given : (ts : List Token) → fault_among how.Expression spaces text ts ≡ None → AreGiven (symbols_at spaces names text ts)
    all_given [] e = tt
    all_given (t ∷ ts) e = let parts = no_later (fault_at how.Expression spaces t.kind (written_at text t) ts) t.start (fault_among how.Expression spaces text ts) e in (one_given t.kind (written_at text t) ts parts.0, all_given ts parts.1)
