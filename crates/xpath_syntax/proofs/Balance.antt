-- Tokens of an expression count no comma besides those in their own brackets, and a call has as many arguments as its tree says.
use Rattle.std.proofs.Common.{◌≡◌, ◌≤◌, ◌+◌, ◌-◌, ◌==◌, ◌&&◌, ℕ, zero, suc, Bool, true, false, cond, List, [], ◌∷◌, ◌++◌, length, length-append, Option, Some, None, option_map, inl, inr, sym, refl, ap, ◌∙◌, subst, append_assoc, arith}
use Rattle.std.specs.List.{AllByRecursion}
use Rattle.std.proofs.lemmas.Bool.Decides.{nat_tests}
use Rattle.serna_kinds.specs.declared.expressions.NodeTest.{NodeTest}
use Rattle.serna_kinds.specs.declared.expressions.Axis.{Axis}
use Rattle.xpath_trees.specs.declared.expr.Expr.{Expr}
use Rattle.xpath_trees.specs.declared.expr.ArithOp.TheVariants as arith_op
use Rattle.xpath_tokens.specs.declared.symbol.Operator.{Operator}
use Rattle.xpath_tokens.specs.declared.symbol.Operator.TheVariants as operator
use Rattle.xpath_tokens.specs.declared.symbol.Symbol.{Symbol}
use Rattle.xpath_tokens.specs.declared.symbol.Symbol.TheVariants as symbol
use Rattle.xpath_grammar.specs.declared.operand.Level.{Level}
use Rattle.xpath_grammar.specs.declared.operand.Level.TheVariants as level
use Rattle.xpath_grammar.specs.Trees.{level_of}
use Rattle.xpath_grammar.specs.Grammar.{Part, part, further, chain, IsChain, signs, IsSigned, Stepped, IsAxis, IsTest, bracketed, IsStep, slash, behind_slash, AreSteps, arguments, IsPrimary, IsFilter, IsPath, IsUnion, IsUnary, IsMultiplicative, IsAdditive, IsRelational, IsEquality, IsAnd, IsOr, IsExprIn, IsExpr}

abbrev pub opens_in : Symbol → Bool
opens_in symbol.Open = true
opens_in symbol.OpenBracket = true
opens_in _ = false

abbrev pub closes_in : Symbol → Bool
closes_in symbol.Close = true
closes_in symbol.CloseBracket = true
closes_in _ = false

abbrev pub is_comma_in : Symbol → Bool
is_comma_in symbol.Comma = true
is_comma_in _ = false

-- the commas up to the bracket that closes, as the grammar sees the tokens
abbrev pub counted : ℕ → ℕ → List Symbol → Option ℕ
counted depth n [] = None
counted depth n (t ∷ ts) =
    cond (opens_in t) (counted (depth + 1) n ts)
    (cond (closes_in t) (cond (depth == 0) (Some n) (counted (depth - 1) n ts)) (cond (is_comma_in t && (depth == 0)) (counted depth (n + 1) ts) (counted depth n ts)))

abbrev pub given_behind : List Symbol → Option ℕ
given_behind [] = None
given_behind (t ∷ ts) = cond (closes_in t) (Some 0) (option_map suc (counted 0 0 (t ∷ ts)))

-- how many arguments stand behind a function's name
abbrev pub given_of : List Symbol → Option ℕ
given_of [] = None
given_of (t ∷ ts) = given_behind ts

-- tokens that count for nothing
abbrev pub Even : List Symbol → Type 0
Even ts = (d n : ℕ) (rest : List Symbol) → counted d n (ts ++ rest) ≡ counted d n rest

pub record Solid (ts : List Symbol) : Type 0 where
  pub even : Even ts
  pub some : 1 ≤ length ts

abbrev IsPlain : Symbol → Type 0
IsPlain s = (d n : ℕ) (ts : List Symbol) → counted d n (s ∷ ts) ≡ counted d n ts

pub seq : (a b : List Symbol) → Even a → Even b → Even (a ++ b)
seq a b one two d n rest = ap (counted d n) (append_assoc a b rest) ∙ one d n (b ++ rest) ∙ two d n rest

plain : (s : Symbol) (b : List Symbol) → IsPlain s → Even b → Even (s ∷ b)
plain s b is two d n rest = is d n (b ++ rest) ∙ two d n rest

nothing : Even []
nothing d n rest = refl

not_zero : (d : ℕ) → (d + 1 == 0) ≡ false
not_zero d = grind (arith, nat_tests)

one_less : (d : ℕ) → d + 1 - 1 ≡ d
one_less d = omega arith

closing : (d n : ℕ) (rest : List Symbol) → counted (d + 1) n (symbol.Close ∷ rest) ≡ counted d n rest
closing d n rest = ap (λ v. cond v (Some n) (counted (d + 1 - 1) n rest)) (not_zero d) ∙ ap (λ m. counted m n rest) (one_less d)

closing_bracket : (d n : ℕ) (rest : List Symbol) → counted (d + 1) n (symbol.CloseBracket ∷ rest) ≡ counted d n rest
closing_bracket d n rest = ap (λ v. cond v (Some n) (counted (d + 1 - 1) n rest)) (not_zero d) ∙ ap (λ m. counted m n rest) (one_less d)

comma : (d n : ℕ) (rest : List Symbol) → counted (d + 1) n (symbol.Comma ∷ rest) ≡ counted (d + 1) n rest
comma d n rest = ap (λ v. cond v (counted (d + 1) (n + 1) rest) (counted (d + 1) n rest)) (not_zero d)

-- what stands in parentheses, which may have commas
abbrev Inside : List Symbol → Type 0
Inside ts = (d n : ℕ) (rest : List Symbol) → counted (d + 1) n (ts ++ rest) ≡ counted (d + 1) n rest

in_parentheses : (a : List Symbol) → Inside a → Even (symbol.Open ∷ (a ++ symbol.Close ∷ []))
in_parentheses a is d n rest = ap (counted (d + 1) n) (append_assoc a (symbol.Close ∷ []) rest) ∙ is d n (symbol.Close ∷ rest) ∙ closing d n rest

in_brackets : (a b : List Symbol) → Even a → Even b → Even (symbol.OpenBracket ∷ (a ++ symbol.CloseBracket ∷ b))
in_brackets a b is other d n rest =
    ap (counted (d + 1) n) (append_assoc a (symbol.CloseBracket ∷ b) rest) ∙ is (d + 1) n (symbol.CloseBracket ∷ (b ++ rest)) ∙ closing_bracket d n (b ++ rest) ∙ other d n rest

longer : (a b : List Symbol) → 1 ≤ length a → 1 ≤ length (a ++ b)
longer a b some = omega (arith, length-append a b)

longer_behind : (a b : List Symbol) → 1 ≤ length b → 1 ≤ length (a ++ b)
longer_behind a b some = omega (arith, length-append a b)

-- the arguments of a call
inside_arguments : (ps : List Part) → AllByRecursion (λ p. Solid p.tokens) ps → Inside (arguments ps)
inside_arguments [] all d n rest = refl
inside_arguments (p ∷ []) all d n rest = all.0.even (d + 1) n rest
inside_arguments (p ∷ q ∷ ps) all d n rest =
    ap (counted (d + 1) n) (append_assoc p.tokens (symbol.Comma ∷ arguments (q ∷ ps)) rest)
    ∙ all.0.even (d + 1) n (symbol.Comma ∷ (arguments (q ∷ ps) ++ rest)) ∙ comma d n (arguments (q ∷ ps) ++ rest) ∙ inside_arguments (q ∷ ps) all.1 d n rest

counted_arguments : (p : Part) (ps : List Part) (n : ℕ) (rest : List Symbol) → AllByRecursion (λ q. Solid q.tokens) (p ∷ ps) → counted 0 n (arguments (p ∷ ps) ++ symbol.Close ∷ rest) ≡ Some (n + length ps)
counted_arguments p [] n rest all = let same : n ≡ n + 0 = omega arith in all.0.even 0 n (symbol.Close ∷ rest) ∙ ap (λ m. Some m) same
counted_arguments p (q ∷ ps) n rest all =
    let same : (n + 1) + length ps ≡ n + suc (length ps) = omega arith in
    ap (counted 0 n) (append_assoc p.tokens (symbol.Comma ∷ arguments (q ∷ ps)) (symbol.Close ∷ rest))
    ∙ all.0.even 0 n (symbol.Comma ∷ (arguments (q ∷ ps) ++ symbol.Close ∷ rest))
    ∙ counted_arguments q ps (n + 1) rest all.1
    ∙ ap (λ m. Some m) same

-- tokens that count for nothing do not begin with a bracket that closes
behind_open : (ts more : List Symbol) (m : ℕ) → 1 ≤ length ts → Even ts → counted 0 0 (ts ++ more) ≡ Some m → given_behind (ts ++ more) ≡ Some (suc m)
behind_open [] more m some even is = absurd (omega arith)
behind_open (t ∷ ts) more m some even is = go (closes_in t) refl
  where
    none_some : ◌≡◌ {A = Option ℕ} None (Some 0) → ⊥
    none_some e = cc

    close : (s : Symbol) (xs : List Symbol) → closes_in s ≡ true → counted 0 0 (s ∷ xs) ≡ Some 0
    close symbol.Close xs e = refl
    close symbol.CloseBracket xs e = refl
    close s xs e = cc

    go : (v : Bool) → closes_in t ≡ v → cond v (Some 0) (option_map suc (counted 0 0 (t ∷ (ts ++ more)))) ≡ Some (suc m)
    go true e = absurd (none_some (sym (even 0 0 []) ∙ close t (ts ++ []) e))
    go false e = ap (λ o. option_map suc o) is

first_argument : (p : Part) (ps : List Part) (more : List Symbol) → (m : ℕ) → Solid p.tokens → counted 0 0 (arguments (p ∷ ps) ++ more) ≡ Some m → given_behind (arguments (p ∷ ps) ++ more) ≡ Some (suc m)
first_argument p [] more m is e = behind_open p.tokens more m is.some is.even e
first_argument p (q ∷ ps) more m is e =
    let same = append_assoc p.tokens (symbol.Comma ∷ arguments (q ∷ ps)) more in
    ap given_behind same ∙ behind_open p.tokens (symbol.Comma ∷ (arguments (q ∷ ps) ++ more)) m is.some is.even (ap (counted 0 0) (sym same) ∙ e)

-- a call has the arguments that its tree has
pub given_are : (ps : List Part) (rest : List Symbol) → AllByRecursion (λ p. Solid p.tokens) ps → given_of (symbol.Open ∷ (arguments ps ++ symbol.Close ∷ rest)) ≡ Some (length ps)
given_are [] rest all = refl
given_are (p ∷ ps) rest all = first_argument p ps (symbol.Close ∷ rest) (0 + length ps) all.0 (counted_arguments p ps 0 rest all) ∙ ap (λ m. Some (suc m)) (zero_less (length ps))
  where
    zero_less : (m : ℕ) → 0 + m ≡ m
    zero_less m = omega arith

-- Expressions

module _ (I : Part → Type 0) (inner : (q : Part) → I q → Solid q.tokens) where
  all_solid : (ps : List Part) → AllByRecursion I ps → AllByRecursion (λ p. Solid p.tokens) ps
  all_solid [] all = tt
  all_solid (p ∷ ps) all = (inner p all.0, all_solid ps all.1)

  even_bracketed : (ps : List Part) → AllByRecursion I ps → Even (bracketed ps)
  even_bracketed [] all = nothing
  even_bracketed (p ∷ ps) all = in_brackets p.tokens (bracketed ps) (inner p all.0).even (even_bracketed ps all.1)

  even_axis : (ts : List Symbol) (on : Axis) → IsAxis ts on → Even ts
  even_axis ts on (inl e) = subst Even (sym e) (λ d n rest. refl)
  even_axis ts on (inr (inl e)) = subst Even (sym e.0) (λ d n rest. refl)
  even_axis ts on (inr (inr e)) = subst Even (sym e.0) nothing

  solid_test : (ts : List Symbol) (t : NodeTest) → IsTest ts t → Solid ts
  solid_test ts t (inl e) = subst Solid (sym e) (record { even = λ d n rest. refl; some = omega arith })
  solid_test ts t (inr e) = subst Solid (sym e) (record { even = λ d n rest. in_parentheses [] (λ d n rest. refl) d n rest; some = omega arith })

  solid_step : (s : Stepped) → IsStep I s → Solid s.tokens
  solid_step s (inl is) =
      let test = solid_test is.test_tokens is.test is.test_is in
      let behind = is.test_tokens ++ bracketed is.predicates in
      subst (λ (x : Stepped). Solid x.tokens) (sym is.whole_is)
      (record {
        even = seq is.axis_tokens behind (even_axis is.axis_tokens is.on is.axis_is) (seq is.test_tokens (bracketed is.predicates) test.even (even_bracketed is.predicates is.predicates_are));
        some = longer_behind is.axis_tokens behind (longer is.test_tokens (bracketed is.predicates) test.some);
      })
  solid_step s (inr (inl e)) = subst (λ (x : Stepped). Solid x.tokens) (sym e) (record { even = λ d n rest. refl; some = omega arith })
  solid_step s (inr (inr e)) = subst (λ (x : Stepped). Solid x.tokens) (sym e) (record { even = λ d n rest. refl; some = omega arith })

  plain_slash : (double : Bool) → IsPlain (slash double)
  plain_slash true d n ts = refl
  plain_slash false d n ts = refl

  even_slashed : (xs : List (Bool × Stepped)) → AreSteps I xs → Even (behind_slash xs)
  even_slashed [] all = nothing
  even_slashed (x ∷ xs) all = plain (slash x.0) (x.1.tokens ++ behind_slash xs) (plain_slash x.0) (seq x.1.tokens (behind_slash xs) (solid_step x.1 all.0).even (even_slashed xs all.1))

  solid_primary : (p : Part) → IsPrimary I p → Solid p.tokens
  solid_primary p (inl is) = subst (λ (q : Part). Solid q.tokens) (sym is.1) (record { even = λ d n rest. refl; some = omega arith })
  solid_primary p (inr (inl is)) =
      subst (λ (q : Part). Solid q.tokens) (sym is.whole_is) (record { even = in_parentheses is.inner.tokens (λ d n rest. (inner is.inner is.inner_is).even (d + 1) n rest); some = omega arith })
  solid_primary p (inr (inr is)) =
      subst (λ (q : Part). Solid q.tokens) (sym is.whole_is)
      (record { even = plain (symbol.Callee is.function) (symbol.Open ∷ (arguments is.given ++ symbol.Close ∷ [])) (λ d n ts. refl) (in_parentheses (arguments is.given) (inside_arguments is.given (all_solid is.given is.given_are))); some = omega arith })

  solid_filter : (p : Part) → IsFilter I p → Solid p.tokens
  solid_filter p is =
      let first = solid_primary is.plain is.plain_is in
      subst (λ (q : Part). Solid q.tokens) (sym is.whole_is)
      (record { even = seq is.plain.tokens (bracketed is.predicates) first.even (even_bracketed is.predicates is.predicates_are); some = longer is.plain.tokens (bracketed is.predicates) first.some })

  solid_path : (p : Part) → IsPath I p → Solid p.tokens
  solid_path p (inl is) =
      let first = solid_step is.first is.first_is in
      subst (λ (q : Part). Solid q.tokens) (sym is.whole_is) (record { even = seq is.first.tokens (behind_slash is.others) first.even (even_slashed is.others is.others_are); some = longer is.first.tokens (behind_slash is.others) first.some })
  solid_path p (inr (inl e)) = subst (λ (q : Part). Solid q.tokens) (sym e) (record { even = λ d n rest. refl; some = omega arith })
  solid_path p (inr (inr (inl is))) = subst (λ (q : Part). Solid q.tokens) (sym is.whole_is) (record { even = even_slashed (is.first ∷ is.others) is.steps_are; some = omega arith })
  solid_path p (inr (inr (inr (inl is)))) = solid_filter p is
  solid_path p (inr (inr (inr (inr is)))) =
      let first = solid_filter is.from is.from_is in
      let behind = behind_slash (is.first ∷ is.others) in
      subst (λ (q : Part). Solid q.tokens) (sym is.whole_is) (record { even = seq is.from.tokens behind first.even (even_slashed (is.first ∷ is.others) is.steps_are); some = longer is.from.tokens behind first.some })

  even_further : (l : Level) (Is : Part → Type 0) (solid : (q : Part) → Is q → Solid q.tokens) (xs : List (Operator × Part)) → AllByRecursion (λ x. (level_of x.0 ≡ l) × Is x.1) xs → Even (further xs)
  even_further l Is solid [] all = nothing
  even_further l Is solid (x ∷ xs) all = plain (symbol.Operator x.0) (x.1.tokens ++ further xs) (λ d n ts. refl) (seq x.1.tokens (further xs) (solid x.1 all.0.1).even (even_further l Is solid xs all.1))

  solid_chain : (l : Level) (Is : Part → Type 0) → ((q : Part) → Is q → Solid q.tokens) → (p : Part) → IsChain l Is p → Solid p.tokens
  solid_chain l Is solid p is = go is.others is.others_are is.whole_is
    where
      go : (xs : List (Operator × Part)) → AllByRecursion (λ x. (level_of x.0 ≡ l) × Is x.1) xs → p ≡ chain l is.first xs → Solid p.tokens
      go [] all whole = subst (λ (q : Part). Solid q.tokens) (sym whole) (solid is.first is.first_is)
      go (x ∷ xs) all whole =
          let first = solid is.first is.first_is in
          subst (λ (q : Part). Solid q.tokens) (sym whole) (record { even = seq is.first.tokens (further (x ∷ xs)) first.even (even_further l Is solid (x ∷ xs) all); some = longer is.first.tokens (further (x ∷ xs)) first.some })

  solid_signed : (p : Part) → IsSigned (IsUnion I) p → Solid p.tokens
  solid_signed p is =
      let first = solid_chain level.Union (IsPath I) solid_path is.plain is.plain_is in
      subst (λ (q : Part). Solid q.tokens) (sym is.whole_is) (record { even = seq (signs is.count) is.plain.tokens (even_signs is.count) first.even; some = longer_behind (signs is.count) is.plain.tokens first.some })
    where
      even_signs : (n : ℕ) → Even (signs n)
      even_signs zero = nothing
      even_signs (suc n) = plain (symbol.Operator (operator.Arith arith_op.Subtract)) (signs n) (λ d m ts. refl) (even_signs n)

  solid_or : (p : Part) → IsOr I p → Solid p.tokens
  solid_or =
      solid_chain level.Or (IsAnd I) (solid_chain level.And (IsEquality I) (solid_chain level.Equality (IsRelational I) (solid_chain level.Relational (IsAdditive I)
      (solid_chain level.Additive (IsMultiplicative I) (solid_chain level.Multiplicative (IsUnary I) solid_signed)))))

pub solid_in : (depth : ℕ) (p : Part) → IsExprIn depth p → Solid p.tokens
unfolding IsExprIn
solid_in zero p is = absurd is
solid_in (suc depth) p is = solid_or (IsExprIn depth) (solid_in depth) p is

pub solid_expr : (tokens : List Symbol) (tree : Expr) → IsExpr tokens tree → Solid tokens
solid_expr tokens tree is = solid_in is.0 (part tokens tree) is.1
