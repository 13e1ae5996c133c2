-- The tree of tokens with few brackets is not deep: in each bracket stand eleven expressions at most of which each is a part of the
-- one before, one for each level of the grammar.
use Rattle.std.proofs.Common.{◌≡◌, ◌≤◌, ◌+◌, ◌-◌, ◌*◌, ℕ, zero, suc, max, Bool, true, false, List, [], ◌∷◌, ◌++◌, map, Option, Some, None, inl, inr, sym, ap, ◌∙◌, subst, append_assoc, append-nil, arith}
use Rattle.std.proofs.Math.Nat.{max-le}
use Rattle.std.specs.List.{AllByRecursion, flat_map}
use Rattle.std.specs.Map.{lookup}
use Rattle.std.specs.Str.{bytes_eq, chars}
use Rattle.serna_kinds.specs.Names.{NameParts, Space, id_of}
use Rattle.serna_kinds.specs.Qualified.{attribute_name}
use Rattle.serna_kinds.specs.declared.cells.NameId.{NameId}
use Rattle.serna_kinds.specs.declared.expressions.Axis.{Axis}
use Rattle.serna_kinds.specs.declared.expressions.Axis.TheVariants as axis
use Rattle.serna_kinds.specs.declared.expressions.CompareOp.{CompareOp}
use Rattle.serna_kinds.specs.declared.expressions.NodeTest.{NodeTest}
use Rattle.serna_kinds.specs.declared.expressions.NodeTest.TheVariants as test
use Rattle.xpath_trees.specs.declared.expr.ArithOp.{ArithOp}
use Rattle.xpath_trees.specs.declared.expr.Expr.{Expr}
use Rattle.xpath_trees.specs.declared.expr.Expr.TheVariants as expr
use Rattle.xpath_trees.specs.declared.expr.Expr.TheVariants.{rolls-Text, rolls-Number, rolls-Variable}
use Rattle.xpath_trees.specs.declared.expr.Expr.TheOpen as opened
use Rattle.xpath_trees.specs.declared.expr.Expr.TheFolds.{fold-roll-Expr}
use Rattle.xpath_trees.specs.declared.expr.PathStart.{PathStart}
use Rattle.xpath_trees.specs.declared.expr.PathStart.TheVariants as start
use Rattle.xpath_trees.specs.declared.expr.Step.{Step}
use Rattle.xpath_tokens.specs.declared.symbol.Operator.{Operator}
use Rattle.xpath_tokens.specs.declared.symbol.Operator.TheVariants as operator
use Rattle.xpath_tokens.specs.declared.symbol.Symbol.{Symbol}
use Rattle.xpath_tokens.specs.declared.symbol.Symbol.TheVariants as symbol
use Rattle.xpath_tokens.specs.declared.tokens.Kind.{Kind}
use Rattle.xpath_tokens.specs.declared.tokens.Kind.TheVariants as kind
use Rattle.xpath_tokens.specs.declared.tokens.Token.{Token}
use Rattle.xpath_tokens.specs.Symbols.{inside, without_dollar, number_value, node_types, axes, callee_or, axis_or_wrong, symbol_of, written_at, symbols_at}
use Rattle.xpath_tokens.specs.Tokens.{tokens_of}
use Rattle.xpath_machine.specs.Stops.{next_depth, IsShallowFrom}
use Rattle.xpath_grammar.specs.declared.operand.Level.{Level}
use Rattle.xpath_grammar.specs.declared.operand.Level.TheVariants as level
use Rattle.xpath_grammar.specs.Trees.{step_of, level_of, compared, computed, chain_tree, signs_past, signed, filtered}
use Rattle.xpath_grammar.specs.Grammar.{Part, part, further, chain, IsChain, signs, IsSigned, Stepped, IsAxis, IsTest, bracketed, trees, IsStep, slash, behind_slash, widened, steps_behind, AreSteps, arguments, IsPrimary, IsFilter, IsPath, IsUnion, IsUnary, IsMultiplicative, IsAdditive, IsRelational, IsEquality, IsAnd, IsOr, IsExprIn, IsExpr}
use Rattle.xpath_syntax.specs.Depth.{deepest, of_operands, depth_in, start_depth, step_depth, depth_of, start_depth_of, step_depth_of}
use Rattle.xpath_syntax.specs.Reading.{IsReading}
use Rattle.xpath_syntax.proofs.Walks.{operand_of}
use Rattle.xpath_syntax.proofs.Depths.{depth-Or, depth-And, depth-Compare, depth-Arith, depth-Negate, depth-Union, depth-Path, depth-Filter, depth-Call, depth-Context, depth-Root, depth-From, depth-step}

-- what stands for a leaf of the tree has no parts
abbrev pub IsFlat : Symbol → Type 0
IsFlat (symbol.Atom e) = depth_of e ≤ 1
IsFlat _ = Unit {0}

-- with so many brackets open before these tokens, no more than 64 are ever open, and leaves have no parts
abbrev pub Low : ℕ → List Symbol → Type 0
Low n [] = Unit {0}
Low n (t ∷ ts) = (next_depth n t ≤ 64) × IsFlat t × Low (next_depth n t) ts

low : (n : ℕ) (ts : List Symbol) → IsShallowFrom n ts → AllByRecursion IsFlat ts → Low n ts
low n [] few flat = tt
low n (t ∷ ts) few flat = (few.0, flat.0, low (next_depth n t) ts few.1 flat.1)

regroup : (n : ℕ) (a b rest : List Symbol) → Low n ((a ++ b) ++ rest) → Low n (a ++ (b ++ rest))
regroup n a b rest l = subst (Low n) (append_assoc a b rest) l

-- with so many brackets open around it, a depth leaves room for what the brackets may still hold
abbrev Fits : ℕ → ℕ → ℕ → Type 0
Fits n t d = d + 11 * n ≤ 704 + t

abbrev AllFit : ℕ → ℕ → List ℕ → Type 0
AllFit n t = AllByRecursion (Fits n t)

none_fits : (n t : ℕ) → n ≤ 64 → Fits n t 0
none_fits n t few = omega (arith, few)

max_fits : (n t a b : ℕ) → Fits n t a → Fits n t b → Fits n t (max a b)
max_fits n t a b one two =
    let le : max a b ≤ (704 + t) - 11 * n = max-le (omega (arith, one)) (omega (arith, two)) in
    omega (arith, le, one)

deepest_fits : (n t : ℕ) (ds : List ℕ) → n ≤ 64 → AllFit n t ds → Fits n t (deepest ds)
deepest_fits n t [] few all = none_fits n t few
deepest_fits n t (d ∷ ds) few all = max_fits n t d (deepest ds) all.0 (deepest_fits n t ds few all.1)

more_fits : (n t : ℕ) (d : ℕ) → Fits n t d → Fits n (suc t) (suc d)
more_fits n t d is = omega (arith, is)

wider_fits : (n t : ℕ) (d : ℕ) → Fits n t d → Fits n (suc t) d
wider_fits n t d is = omega (arith, is)

one_fits : (n t : ℕ) → n ≤ 64 → Fits n (suc t) 1
one_fits n t few = omega (arith, few)

as_fits : (n t : ℕ) (a b : ℕ) → a ≡ b → Fits n t b → Fits n t a
as_fits n t a b e is = subst (Fits n t) (sym e) is

-- Lists of parts

abbrev AreFit : ℕ → ℕ → List Part → Type 0
AreFit n t = AllByRecursion (λ p. Fits n t (depth_of p.tree))

parts_fit : (n t : ℕ) (ps : List Part) → AreFit n t ps → AllFit n t (map depth_of (trees ps))
parts_fit n t [] all = tt
parts_fit n t (p ∷ ps) all = (all.0, parts_fit n t ps all.1)

steps_fit : (n t : ℕ) (ss : List Step) → AllByRecursion (λ s. Fits n t (step_depth_of s)) ss → AllFit n t (map step_depth_of ss)
steps_fit n t [] all = tt
steps_fit n t (s ∷ ss) all = (all.0, steps_fit n t ss all.1)

-- Chains

abbrev OthersFit : ℕ → ℕ → List (Operator × Part) → Type 0
OthersFit n t = AllByRecursion (λ x. Fits n t (depth_of x.1.tree))

operands_fit : (n t : ℕ) (xs : List (Operator × Part)) → OthersFit n t xs → AllFit n t (map depth_of (map (λ (o : Operator × Expr). o.1) (map operand_of xs)))
operands_fit n t [] all = tt
operands_fit n t (x ∷ xs) all = (all.0, operands_fit n t xs all.1)

abbrev compared_depths : List (Operator × Part) → List ℕ
compared_depths xs = of_operands (map (λ (x : CompareOp × Expr). (x.0, depth_of x.1)) (flat_map (λ (o : Operator × Expr). compared o.0 o.1) (map operand_of xs)))

abbrev computed_depths : List (Operator × Part) → List ℕ
computed_depths xs = of_operands (map (λ (x : ArithOp × Expr). (x.0, depth_of x.1)) (flat_map (λ (o : Operator × Expr). computed o.0 o.1) (map operand_of xs)))

compared_fit : (n t : ℕ) (xs : List (Operator × Part)) → OthersFit n t xs → AllFit n t (compared_depths xs)
compared_fit n t [] all = tt
compared_fit n t (x ∷ xs) all = go x.0 x.1 all.0 (compared_fit n t xs all.1)
  where
    go : (op : Operator) (p : Part) → Fits n t (depth_of p.tree) → AllFit n t (compared_depths xs) → AllFit n t (compared_depths ((op, p) ∷ xs))
    go operator.Or p is more = more
    go operator.And p is more = more
    go (operator.Compare c) p is more = (is, more)
    go (operator.Arith a) p is more = more
    go operator.Union p is more = more

computed_fit : (n t : ℕ) (xs : List (Operator × Part)) → OthersFit n t xs → AllFit n t (computed_depths xs)
computed_fit n t [] all = tt
computed_fit n t (x ∷ xs) all = go x.0 x.1 all.0 (computed_fit n t xs all.1)
  where
    go : (op : Operator) (p : Part) → Fits n t (depth_of p.tree) → AllFit n t (computed_depths xs) → AllFit n t (computed_depths ((op, p) ∷ xs))
    go operator.Or p is more = more
    go operator.And p is more = more
    go (operator.Compare c) p is more = more
    go (operator.Arith a) p is more = (is, more)
    go operator.Union p is more = more

module _ (n t : ℕ) (few : n ≤ 64) (first : Expr) (xs : List (Operator × Part)) (is : Fits n t (depth_of first)) (all : OthersFit n t xs) where
  joined_fit : Fits n (suc t) (suc (deepest (map depth_of (first ∷ map (λ (o : Operator × Expr). o.1) (map operand_of xs)))))
  joined_fit = more_fits n t _ (deepest_fits n t (map depth_of (first ∷ map (λ (o : Operator × Expr). o.1) (map operand_of xs))) few (is, operands_fit n t xs all))

  pairs_fit : (ds : List ℕ) → AllFit n t ds → Fits n (suc t) (suc (max (depth_of first) (deepest ds)))
  pairs_fit ds fit = more_fits n t (max (depth_of first) (deepest ds)) (max_fits n t (depth_of first) (deepest ds) is (deepest_fits n t ds few fit))

  compares_fit : Fits n (suc t) (depth_of (expr.Compare first (flat_map (λ (o : Operator × Expr). compared o.0 o.1) (map operand_of xs))))
  compares_fit = as_fits n (suc t) _ _ (depth-Compare first (flat_map (λ (o : Operator × Expr). compared o.0 o.1) (map operand_of xs))) (pairs_fit (compared_depths xs) (compared_fit n t xs all))

  ariths_fit : Fits n (suc t) (depth_of (expr.Arith first (flat_map (λ (o : Operator × Expr). computed o.0 o.1) (map operand_of xs))))
  ariths_fit = as_fits n (suc t) _ _ (depth-Arith first (flat_map (λ (o : Operator × Expr). computed o.0 o.1) (map operand_of xs))) (pairs_fit (computed_depths xs) (computed_fit n t xs all))

  chain_fits : (l : Level) → Fits n (suc t) (depth_of (chain_tree l first (map operand_of xs)))
  chain_fits level.Or = as_fits n (suc t) _ _ (depth-Or (first ∷ map (λ (o : Operator × Expr). o.1) (map operand_of xs))) joined_fit
  chain_fits level.And = as_fits n (suc t) _ _ (depth-And (first ∷ map (λ (o : Operator × Expr). o.1) (map operand_of xs))) joined_fit
  chain_fits level.Equality = compares_fit
  chain_fits level.Relational = compares_fit
  chain_fits level.Additive = ariths_fit
  chain_fits level.Multiplicative = ariths_fit
  chain_fits level.Union = as_fits n (suc t) _ _ (depth-Union (first ∷ map (λ (o : Operator × Expr). o.1) (map operand_of xs))) joined_fit

-- A part of this kind fits, and behind it as many brackets are open as before it.
abbrev Sound : ℕ → (Part → Type 0) → Type 0
Sound t Is = (q : Part) → Is q → (n : ℕ) → n ≤ 64 → (rest : List Symbol) → Low n (q.tokens ++ rest) → Fits n t (depth_of q.tree) × Low n rest

others_low : (t : ℕ) (l : Level) (Is : Part → Type 0) → Sound t Is → (xs : List (Operator × Part)) → AllByRecursion (λ x. (level_of x.0 ≡ l) × Is x.1) xs
    → (n : ℕ) → n ≤ 64 → (rest : List Symbol) → Low n (further xs ++ rest) → OthersFit n t xs × Low n rest
others_low t l Is sound [] all n few rest lows = (tt, lows)
others_low t l Is sound (x ∷ xs) all n few rest lows =
    let one = sound x.1 all.0.1 n few (further xs ++ rest) (regroup n x.1.tokens (further xs) rest lows.2) in
    let more = others_low t l Is sound xs all.1 n few rest one.1 in
    ((one.0, more.0), more.1)

chain_low : (t : ℕ) (l : Level) (Is : Part → Type 0) → Sound t Is → Sound (suc t) (IsChain l Is)
chain_low t l Is sound p is n few rest lows = go is.others is.others_are is.whole_is
  where
    go : (xs : List (Operator × Part)) → AllByRecursion (λ x. (level_of x.0 ≡ l) × Is x.1) xs → p ≡ chain l is.first xs → Fits n (suc t) (depth_of p.tree) × Low n rest
    go [] all whole =
        let one = sound is.first is.first_is n few rest (subst (λ (q : Part). Low n (q.tokens ++ rest)) whole lows) in
        (subst (λ (q : Part). Fits n (suc t) (depth_of q.tree)) (sym whole) (wider_fits n t (depth_of is.first.tree) one.0), one.1)
    go (x ∷ xs) all whole =
        let one = sound is.first is.first_is n few (further (x ∷ xs) ++ rest) (regroup n is.first.tokens (further (x ∷ xs)) rest (subst (λ (q : Part). Low n (q.tokens ++ rest)) whole lows)) in
        let more = others_low t l Is sound (x ∷ xs) all n few rest one.1 in
        (subst (λ (q : Part). Fits n (suc t) (depth_of q.tree)) (sym whole) (chain_fits n t few is.first.tree (x ∷ xs) one.0 more.0 l), more.1)

-- Signs

past_signs : (n m : ℕ) (ts : List Symbol) → Low n (signs m ++ ts) → Low n ts
past_signs n zero ts lows = lows
past_signs n (suc m) ts lows = past_signs n m ts lows.2

signed_fits : (n t m : ℕ) (e : Expr) → Fits n t (depth_of e) → Fits n (suc t) (depth_of (signed m e))
signed_fits n t zero e is = wider_fits n t (depth_of e) is
signed_fits n t (suc m) e is = as_fits n (suc t) _ _ (depth-Negate (signs_past m) e) (more_fits n t (depth_of e) is)

signed_low : (t : ℕ) (Is : Part → Type 0) → Sound t Is → Sound (suc t) (IsSigned Is)
signed_low t Is sound p is n few rest lows =
    let here : Low n ((signs is.count ++ is.plain.tokens) ++ rest) = subst (λ (q : Part). Low n (q.tokens ++ rest)) is.whole_is lows in
    let one = sound is.plain is.plain_is n few rest (past_signs n is.count (is.plain.tokens ++ rest) (regroup n (signs is.count) is.plain.tokens rest here)) in
    (subst (λ (q : Part). Fits n (suc t) (depth_of q.tree)) (sym is.whole_is) (signed_fits n t is.count is.plain.tree one.0), one.1)

-- Steps, paths and other operands

past_axis : (ts : List Symbol) (on : Axis) → IsAxis ts on → (n : ℕ) (rest : List Symbol) → Low n (ts ++ rest) → Low n rest
past_axis ts on (inl e) n rest lows = (subst (λ (a : List Symbol). Low n (a ++ rest)) e lows).2.2
past_axis ts on (inr (inl e)) n rest lows = (subst (λ (a : List Symbol). Low n (a ++ rest)) e.0 lows).2
past_axis ts on (inr (inr e)) n rest lows = subst (λ (a : List Symbol). Low n (a ++ rest)) e.0 lows

past_test : (ts : List Symbol) (t : NodeTest) → IsTest ts t → (n : ℕ) (rest : List Symbol) → Low n (ts ++ rest) → Low n rest
past_test ts t (inl e) n rest lows = (subst (λ (a : List Symbol). Low n (a ++ rest)) e lows).2
past_test ts t (inr e) n rest lows = (subst (λ (a : List Symbol). Low n (a ++ rest)) e lows).2.2.2

abbrev StepsFit : ℕ → List Step → Type 0
StepsFit n = AllByRecursion (λ s. Fits n 0 (step_depth_of s))

bare_fits : (n : ℕ) → n ≤ 64 → (on : Axis) → Fits n 0 (step_depth_of (step_of on test.AnyNode []))
bare_fits n few on = as_fits n 0 _ _ (depth-step on test.AnyNode []) (none_fits n 0 few)

widened_fit : (n : ℕ) → n ≤ 64 → (double : Bool) (ss : List Step) → StepsFit n ss → StepsFit n (widened double ++ ss)
widened_fit n few true ss all = (bare_fits n few axis.DescendantOrSelf, all)
widened_fit n few false ss all = all

past_slash : (double : Bool) (n : ℕ) (ts : List Symbol) → Low n (slash double ∷ ts) → Low n ts
past_slash true n ts lows = lows.2
past_slash false n ts lows = lows.2

path_fits : (n t : ℕ) → n ≤ 64 → (from : PathStart) (ss : List Step) → Fits n t (start_depth_of from) → AllFit n t (map step_depth_of ss) → Fits n (suc t) (depth_of (expr.Path from ss))
path_fits n t few from ss is all =
    as_fits n (suc t) _ _ (depth-Path from ss)
    (more_fits n t (max (start_depth_of from) (deepest (map step_depth_of ss))) (max_fits n t (start_depth_of from) (deepest (map step_depth_of ss)) is (deepest_fits n t (map step_depth_of ss) few all)))

widest : (n : ℕ) (ds : List ℕ) → AllFit n 0 ds → AllFit n 2 ds
widest n [] all = tt
widest n (d ∷ ds) all = (wider_fits n 1 d (wider_fits n 0 d all.0), widest n ds all.1)

module _ (I : Part → Type 0) (inner : Sound 11 I) where
  -- in one bracket more
  within : (q : Part) → I q → (n : ℕ) → suc n ≤ 64 → (rest : List Symbol) → Low (suc n) (q.tokens ++ rest) → Fits n 0 (depth_of q.tree) × Low (suc n) rest
  within q is n few rest lows =
      let one = inner q is (suc n) few rest lows in
      let fit : depth_of q.tree + 11 * suc n ≤ 704 + 11 = one.0 in
      (omega (arith, fit), one.1)

  bracketed_low : (ps : List Part) → AllByRecursion I ps → (n : ℕ) → n ≤ 64 → (rest : List Symbol) → Low n (bracketed ps ++ rest) → AreFit n 0 ps × Low n rest
  bracketed_low [] all n few rest lows = (tt, lows)
  bracketed_low (p ∷ ps) all n few rest lows =
      let one = within p all.0 n lows.0 ((symbol.CloseBracket ∷ bracketed ps) ++ rest) (regroup (suc n) p.tokens (symbol.CloseBracket ∷ bracketed ps) rest lows.2) in
      let more = bracketed_low ps all.1 n few rest one.1.2 in
      ((one.0, more.0), more.1)

  arguments_low : (ps : List Part) → AllByRecursion I ps → (n : ℕ) → suc n ≤ 64 → (rest : List Symbol) → Low (suc n) (arguments ps ++ rest) → AreFit n 0 ps × Low (suc n) rest
  arguments_low [] all n few rest lows = (tt, lows)
  arguments_low (p ∷ []) all n few rest lows = let one = within p all.0 n few rest lows in ((one.0, tt), one.1)
  arguments_low (p ∷ q ∷ ps) all n few rest lows =
      let one = within p all.0 n few ((symbol.Comma ∷ arguments (q ∷ ps)) ++ rest) (regroup (suc n) p.tokens (symbol.Comma ∷ arguments (q ∷ ps)) rest lows) in
      let more = arguments_low (q ∷ ps) all.1 n few rest one.1.2 in
      ((one.0, more.0), more.1)

  step_low : (s : Stepped) → IsStep I s → (n : ℕ) → n ≤ 64 → (rest : List Symbol) → Low n (s.tokens ++ rest) → Fits n 0 (step_depth_of s.step) × Low n rest
  step_low s (inl is) n few rest lows =
      let more = is.test_tokens ++ bracketed is.predicates in
      let here : Low n ((is.axis_tokens ++ more) ++ rest) = subst (λ (x : Stepped). Low n (x.tokens ++ rest)) is.whole_is lows in
      let tested = past_axis is.axis_tokens is.on is.axis_is n (more ++ rest) (regroup n is.axis_tokens more rest here) in
      let left = past_test is.test_tokens is.test is.test_is n (bracketed is.predicates ++ rest) (regroup n is.test_tokens (bracketed is.predicates) rest tested) in
      let all = bracketed_low is.predicates is.predicates_are n few rest left in
      let fit = as_fits n 0 _ _ (depth-step is.on is.test (trees is.predicates)) (deepest_fits n 0 (map depth_of (trees is.predicates)) few (parts_fit n 0 is.predicates all.0)) in
      (subst (λ (x : Stepped). Fits n 0 (step_depth_of x.step)) (sym is.whole_is) fit, all.1)
  step_low s (inr (inl e)) n few rest lows =
      (subst (λ (x : Stepped). Fits n 0 (step_depth_of x.step)) (sym e) (bare_fits n few axis.Itself), (subst (λ (x : Stepped). Low n (x.tokens ++ rest)) e lows).2)
  step_low s (inr (inr e)) n few rest lows =
      (subst (λ (x : Stepped). Fits n 0 (step_depth_of x.step)) (sym e) (bare_fits n few axis.Parent), (subst (λ (x : Stepped). Low n (x.tokens ++ rest)) e lows).2)

  steps_low : (xs : List (Bool × Stepped)) → AreSteps I xs → (n : ℕ) → n ≤ 64 → (rest : List Symbol) → Low n (behind_slash xs ++ rest) → StepsFit n (steps_behind xs) × Low n rest
  steps_low [] all n few rest lows = (tt, lows)
  steps_low (x ∷ xs) all n few rest lows =
      let one = step_low x.1 all.0 n few (behind_slash xs ++ rest) (regroup n x.1.tokens (behind_slash xs) rest (past_slash x.0 n ((x.1.tokens ++ behind_slash xs) ++ rest) lows)) in
      let more = steps_low xs all.1 n few rest one.1 in
      (widened_fit n few x.0 (x.1.step ∷ steps_behind xs) (one.0, more.0), more.1)

  primary_low : Sound 1 (IsPrimary I)
  primary_low p (inl is) n few rest lows =
      let here : Low n (symbol.Atom is.0 ∷ rest) = subst (λ (q : Part). Low n (q.tokens ++ rest)) is.1 lows in
      (subst (λ (q : Part). Fits n 1 (depth_of q.tree)) (sym is.1) (omega (arith, here.1, few)), here.2)
  primary_low p (inr (inl is)) n few rest lows =
      let here : Low n ((symbol.Open ∷ (is.inner.tokens ++ symbol.Close ∷ [])) ++ rest) = subst (λ (q : Part). Low n (q.tokens ++ rest)) is.whole_is lows in
      let one = within is.inner is.inner_is n here.0 ((symbol.Close ∷ []) ++ rest) (regroup (suc n) is.inner.tokens (symbol.Close ∷ []) rest here.2) in
      (subst (λ (q : Part). Fits n 1 (depth_of q.tree)) (sym is.whole_is) (wider_fits n 0 (depth_of is.inner.tree) one.0), one.1.2)
  primary_low p (inr (inr is)) n few rest lows =
      let here : Low n ((symbol.Callee is.function ∷ (symbol.Open ∷ (arguments is.given ++ symbol.Close ∷ []))) ++ rest) = subst (λ (q : Part). Low n (q.tokens ++ rest)) is.whole_is lows in
      let all = arguments_low is.given is.given_are n here.2.0 ((symbol.Close ∷ []) ++ rest) (regroup (suc n) (arguments is.given) (symbol.Close ∷ []) rest here.2.2) in
      let fit = as_fits n 1 _ _ (depth-Call is.function (trees is.given)) (more_fits n 0 (deepest (map depth_of (trees is.given))) (deepest_fits n 0 (map depth_of (trees is.given)) few (parts_fit n 0 is.given all.0))) in
      (subst (λ (q : Part). Fits n 1 (depth_of q.tree)) (sym is.whole_is) fit, all.1.2)

  filter_low : Sound 2 (IsFilter I)
  filter_low p is n few rest lows =
      let here : Low n ((is.plain.tokens ++ bracketed is.predicates) ++ rest) = subst (λ (q : Part). Low n (q.tokens ++ rest)) is.whole_is lows in
      let one = primary_low is.plain is.plain_is n few (bracketed is.predicates ++ rest) (regroup n is.plain.tokens (bracketed is.predicates) rest here) in
      let all = bracketed_low is.predicates is.predicates_are n few rest one.1 in
      (subst (λ (q : Part). Fits n 2 (depth_of q.tree)) (sym is.whole_is) (go n few is.plain.tree one.0 is.predicates all.0), all.1)
    where
      go : (n : ℕ) → n ≤ 64 → (e : Expr) → Fits n 1 (depth_of e) → (ps : List Part) → AreFit n 0 ps → Fits n 2 (depth_of (filtered e (trees ps)))
      go n few e is [] all = wider_fits n 1 (depth_of e) is
      go n few e is (q ∷ ps) all =
          let fit = deepest_fits n 0 (map depth_of (trees (q ∷ ps))) few (parts_fit n 0 (q ∷ ps) all) in
          as_fits n 2 _ _ (depth-Filter e (trees (q ∷ ps)))
          (more_fits n 1 (max (depth_of e) (deepest (map depth_of (trees (q ∷ ps))))) (max_fits n 1 (depth_of e) (deepest (map depth_of (trees (q ∷ ps)))) is (wider_fits n 0 (deepest (map depth_of (trees (q ∷ ps)))) fit)))

  path_low : Sound 3 (IsPath I)
  path_low p (inl is) n few rest lows =
      let here : Low n ((is.first.tokens ++ behind_slash is.others) ++ rest) = subst (λ (q : Part). Low n (q.tokens ++ rest)) is.whole_is lows in
      let one = step_low is.first is.first_is n few (behind_slash is.others ++ rest) (regroup n is.first.tokens (behind_slash is.others) rest here) in
      let more = steps_low is.others is.others_are n few rest one.1 in
      let ss = is.first.step ∷ steps_behind is.others in
      let fit = path_fits n 2 few start.Context ss (as_fits n 2 _ _ depth-Context (none_fits n 2 few)) (widest n (map step_depth_of ss) (steps_fit n 0 ss (one.0, more.0))) in
      (subst (λ (q : Part). Fits n 3 (depth_of q.tree)) (sym is.whole_is) fit, more.1)
  path_low p (inr (inl e)) n few rest lows =
      (subst (λ (q : Part). Fits n 3 (depth_of q.tree)) (sym e) (path_fits n 2 few start.Root [] (as_fits n 2 _ _ depth-Root (none_fits n 2 few)) tt), (subst (λ (q : Part). Low n (q.tokens ++ rest)) e lows).2)
  path_low p (inr (inr (inl is))) n few rest lows =
      let all = steps_low (is.first ∷ is.others) is.steps_are n few rest (subst (λ (q : Part). Low n (q.tokens ++ rest)) is.whole_is lows) in
      let ss = steps_behind (is.first ∷ is.others) in
      let fit = path_fits n 2 few start.Root ss (as_fits n 2 _ _ depth-Root (none_fits n 2 few)) (widest n (map step_depth_of ss) (steps_fit n 0 ss all.0)) in
      (subst (λ (q : Part). Fits n 3 (depth_of q.tree)) (sym is.whole_is) fit, all.1)
  path_low p (inr (inr (inr (inl is)))) n few rest lows = let one = filter_low p is n few rest lows in (wider_fits n 2 (depth_of p.tree) one.0, one.1)
  path_low p (inr (inr (inr (inr is)))) n few rest lows =
      let more = behind_slash (is.first ∷ is.others) in
      let here : Low n ((is.from.tokens ++ more) ++ rest) = subst (λ (q : Part). Low n (q.tokens ++ rest)) is.whole_is lows in
      let one = filter_low is.from is.from_is n few (more ++ rest) (regroup n is.from.tokens more rest here) in
      let all = steps_low (is.first ∷ is.others) is.steps_are n few rest one.1 in
      let ss = steps_behind (is.first ∷ is.others) in
      let fit = path_fits n 2 few (start.From is.from.tree) ss (as_fits n 2 _ _ (depth-From is.from.tree) one.0) (widest n (map step_depth_of ss) (steps_fit n 0 ss all.0)) in
      (subst (λ (q : Part). Fits n 3 (depth_of q.tree)) (sym is.whole_is) fit, all.1)

  or_low : Sound 11 (IsOr I)
  or_low =
      chain_low 10 level.Or (IsAnd I) (chain_low 9 level.And (IsEquality I) (chain_low 8 level.Equality (IsRelational I) (chain_low 7 level.Relational (IsAdditive I)
      (chain_low 6 level.Additive (IsMultiplicative I) (chain_low 5 level.Multiplicative (IsUnary I) (signed_low 4 (IsUnion I) (chain_low 3 level.Union (IsPath I) path_low)))))))

low_in : (depth : ℕ) → Sound 11 (IsExprIn depth)
unfolding IsExprIn
low_in zero p is n few rest lows = absurd is
low_in (suc depth) p is n few rest lows = or_low (IsExprIn depth) (low_in depth) p is n few rest lows

-- The tokens of a text

depth-Text : (text : List ℕ) → depth_of (expr.Text text) ≡ 1
unfolding depth_of
depth-Text text = ap depth_of (sym (rolls-Text text)) ∙ fold-roll-Expr ℕ ℕ ℕ depth_in start_depth step_depth (opened.Text text)

depth-Number : (n : ℕ) → depth_of (expr.Number n) ≡ 1
unfolding depth_of
depth-Number n = ap depth_of (sym (rolls-Number n)) ∙ fold-roll-Expr ℕ ℕ ℕ depth_in start_depth step_depth (opened.Number n)

depth-Variable : (id : NameId) → depth_of (expr.Variable id) ≡ 1
unfolding depth_of
depth-Variable id = ap depth_of (sym (rolls-Variable id)) ∙ fold-roll-Expr ℕ ℕ ℕ depth_in start_depth step_depth (opened.Variable id)

at_most_one : (d : ℕ) → d ≡ 1 → d ≤ 1
at_most_one d e = omega (arith, e)

module _ (spaces : List Space) (names : List NameParts) where
  leaf_flat : (k : Kind) (w : List ℕ) → IsFlat (symbol_of spaces names k w)
  leaf_flat kind.Literal w = at_most_one _ (depth-Text (chars (inside w)))
  leaf_flat kind.Number w = at_most_one _ (depth-Number (number_value w))
  leaf_flat kind.Fraction w = at_most_one _ (depth-Number 0)
  leaf_flat kind.Variable w = at_most_one _ (depth-Variable (id_of names (attribute_name spaces (without_dollar w))))
  leaf_flat kind.Callee w = go (lookup (bytes_eq w) node_types)
    where
      go : (o : Option NodeTest) → IsFlat (callee_or w o)
      go None = tt
      go (Some t) = tt
  leaf_flat kind.AxisName w = go (lookup (bytes_eq w) axes)
    where
      go : (o : Option Axis) → IsFlat (axis_or_wrong o)
      go None = tt
      go (Some a) = tt
  leaf_flat k w = tt

  leaves_flat : (text : List ℕ) (ts : List Token) → AllByRecursion IsFlat (symbols_at spaces names text ts)
  leaves_flat text [] = tt
  leaves_flat text (t ∷ ts) = (leaf_flat t.kind (written_at text t), leaves_flat text ts)

  pub reading_low : (text : List ℕ) (tree : Expr) → IsReading spaces names text tree → depth_of tree ≤ 715
  reading_low text tree reading =
      let tokens = symbols_at spaces names text (tokens_of text) in
      let lows : Low 0 (tokens ++ []) = subst (Low 0) (sym (append-nil tokens)) (low 0 tokens reading.has.1 (leaves_flat text (tokens_of text))) in
      let fit : depth_of tree + 11 * 0 ≤ 704 + 11 = (low_in reading.has.0.0 (part tokens tree) reading.has.0.1 0 (omega arith) [] lows).0 in
      omega (arith, fit)
