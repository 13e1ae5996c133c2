-- What each production of the grammar keeps holds of every expression: a property of trees that follows from one of the leaves
-- among their tokens, where each call has as many arguments as its function takes.
use Rattle.std.proofs.Common.{◌≡◌, ◌≤◌, ℕ, zero, suc, Bool, true, false, List, [], ◌∷◌, ◌++◌, map, length, Some, None, inl, inr, sym, ap, ◌∙◌, subst, append_assoc, arith}
use Rattle.std.specs.List.{AllByRecursion}
use Rattle.serna_kinds.specs.declared.expressions.Axis.{Axis}
use Rattle.serna_kinds.specs.declared.expressions.Axis.TheVariants as axis
use Rattle.serna_kinds.specs.declared.expressions.NodeTest.{NodeTest}
use Rattle.serna_kinds.specs.declared.expressions.NodeTest.TheVariants as test
use Rattle.xpath_trees.specs.declared.expr.Expr.{Expr}
use Rattle.xpath_trees.specs.declared.expr.Expr.TheVariants as expr
use Rattle.xpath_trees.specs.declared.expr.Function.{Function}
use Rattle.xpath_trees.specs.declared.expr.PathStart.TheVariants as start
use Rattle.xpath_trees.specs.declared.expr.Step.{Step}
use Rattle.xpath_tokens.specs.declared.symbol.Operator.{Operator}
use Rattle.xpath_tokens.specs.declared.symbol.Symbol.{Symbol}
use Rattle.xpath_tokens.specs.declared.symbol.Symbol.TheVariants as symbol
use Rattle.xpath_tokens.specs.Faults.{wrong_arity}
use Rattle.xpath_grammar.specs.declared.operand.Level.{Level}
use Rattle.xpath_grammar.specs.declared.operand.Level.TheVariants as level
use Rattle.xpath_grammar.specs.Trees.{step_of, level_of, chain_tree, signed, filtered}
use Rattle.xpath_grammar.specs.Grammar.{Part, part, further, chain, IsChain, signs, IsSigned, Stepped, IsTest, bracketed, trees, IsStep, behind_slash, widened, steps_behind, AreSteps, arguments, IsPrimary, IsFilter, IsPath, IsUnion, IsUnary, IsMultiplicative, IsAdditive, IsRelational, IsEquality, IsAnd, IsOr, IsExprIn, IsExpr}
use Rattle.xpath_syntax.proofs.Levels.{AreAt}
use Rattle.xpath_syntax.proofs.Balance.{Solid, given_of, given_are, solid_expr}
use Rattle.xpath_syntax.proofs.Arity.{AreGiven, given_past, regrouped, all-append}

-- a further operand, by its tree
abbrev pub operand_of : Operator × Part → Operator × Expr
operand_of x = (x.0, x.1.tree)

-- an argument of a call: an expression whose tokens have this of leaves, and whose tree has the property
abbrev pub IsArgument : (Symbol → Type 0) → (Expr → Type 0) → Part → Type 0
IsArgument Leaf Tree q = IsExpr q.tokens q.tree × AllByRecursion Leaf q.tokens × Tree q.tree

-- the productions keep a property of trees, with one of steps
pub record Keeps (Leaf : Symbol → Type 0) (Tree : Expr → Type 0) (Bare : Step → Type 0) : Type 0 where
  pub atoms : (e : Expr) → Leaf (symbol.Atom e) → Tree e
  pub chains : (l : Level) (first : Expr) (x : Operator × Part) (xs : List (Operator × Part)) → Tree first → AreAt l (x ∷ xs) → AllByRecursion (λ o. Tree o.1.tree) (x ∷ xs)
      → Tree (chain_tree l first (map operand_of (x ∷ xs)))
  pub minus : (n : ℕ) (e : Expr) → Tree e → Tree (signed n e)
  pub full : (on : Axis) (tokens : List Symbol) (t : NodeTest) (ps : List Part) → IsTest tokens t → AllByRecursion Leaf tokens → AllByRecursion (λ q. Tree q.tree) ps → Bare (step_of on t (trees ps))
  pub short : (on : Axis) → Bare (step_of on test.AnyNode [])
  pub calls : (f : Function) (ps : List Part) → AllByRecursion (IsArgument Leaf Tree) ps → wrong_arity f (Some (length ps)) ≡ None → Tree (expr.Call f (trees ps))
  pub filters : (e : Expr) (p : Part) (ps : List Part) → Tree e → AllByRecursion (λ q. Tree q.tree) (p ∷ ps) → Tree (filtered e (trees (p ∷ ps)))
  pub relative : (s : Step) (ss : List Step) → AllByRecursion Bare (s ∷ ss) → Tree (expr.Path start.Context (s ∷ ss))
  pub absolute : (ss : List Step) → AllByRecursion Bare ss → Tree (expr.Path start.Root ss)
  pub behind : (e : Expr) (ss : List Step) → 1 ≤ length ss → Tree e → AllByRecursion Bare ss → Tree (expr.Path (start.From e) ss)

module _ (Leaf : Symbol → Type 0) (Tree : Expr → Type 0) (Bare : Step → Type 0) (keeps : Keeps Leaf Tree Bare) where
  abbrev AreLeaves : List Symbol → Type 0
  AreLeaves = AllByRecursion Leaf

  abbrev AreTrees : List Part → Type 0
  AreTrees = AllByRecursion (λ q. Tree q.tree)

  -- the trees of parts of this kind have the property, whatever stands behind them
  abbrev Sound : (Part → Type 0) → Type 0
  Sound Is = (q : Part) → Is q → AreLeaves q.tokens → (rest : List Symbol) → AreGiven (q.tokens ++ rest) → Tree q.tree

  -- Chains and signs

  others_keep : (l : Level) (Is : Part → Type 0) → Sound Is → (xs : List (Operator × Part)) → AllByRecursion (λ x. (level_of x.0 ≡ l) × Is x.1) xs → AreLeaves (further xs) → (rest : List Symbol)
      → AreGiven (further xs ++ rest) → AreAt l xs × AllByRecursion (λ x. Tree x.1.tree) xs
  others_keep l Is sound [] all leaves rest given = (tt, tt)
  others_keep l Is sound (x ∷ xs) all leaves rest given =
      let parts = all-append Leaf x.1.tokens (further xs) leaves.1 in
      let own = regrouped x.1.tokens (further xs) rest given.1 in
      let more = others_keep l Is sound xs all.1 parts.1 rest (given_past x.1.tokens (further xs ++ rest) own) in
      ((all.0.0, more.0), (sound x.1 all.0.1 parts.0 (further xs ++ rest) own, more.1))

  chain_keeps : (l : Level) (Is : Part → Type 0) → Sound Is → Sound (IsChain l Is)
  chain_keeps l Is sound p is leaves rest given = go is.others is.others_are is.whole_is
    where
      go : (xs : List (Operator × Part)) → AllByRecursion (λ x. (level_of x.0 ≡ l) × Is x.1) xs → p ≡ chain l is.first xs → Tree p.tree
      go [] all whole =
          let own : AreLeaves is.first.tokens = subst (λ (q : Part). AreLeaves q.tokens) whole leaves in
          let has : AreGiven (is.first.tokens ++ rest) = subst (λ (q : Part). AreGiven (q.tokens ++ rest)) whole given in
          subst (λ (q : Part). Tree q.tree) (sym whole) (sound is.first is.first_is own rest has)
      go (x ∷ xs) all whole =
          let more = further (x ∷ xs) in
          let own : AreLeaves (is.first.tokens ++ more) = subst (λ (q : Part). AreLeaves q.tokens) whole leaves in
          let has : AreGiven (is.first.tokens ++ (more ++ rest)) = regrouped is.first.tokens more rest (subst (λ (q : Part). AreGiven (q.tokens ++ rest)) whole given) in
          let parts = all-append Leaf is.first.tokens more own in
          let others = others_keep l Is sound (x ∷ xs) all parts.1 rest (given_past is.first.tokens (more ++ rest) has) in
          subst (λ (q : Part). Tree q.tree) (sym whole) (keeps.chains l is.first.tree x xs (sound is.first is.first_is parts.0 (more ++ rest) has) others.0 others.1)

  signed_keeps : (Is : Part → Type 0) → Sound Is → Sound (IsSigned Is)
  signed_keeps Is sound p is leaves rest given =
      let own : AreLeaves (signs is.count ++ is.plain.tokens) = subst (λ (q : Part). AreLeaves q.tokens) is.whole_is leaves in
      let has : AreGiven (signs is.count ++ (is.plain.tokens ++ rest)) = regrouped (signs is.count) is.plain.tokens rest (subst (λ (q : Part). AreGiven (q.tokens ++ rest)) is.whole_is given) in
      subst (λ (q : Part). Tree q.tree) (sym is.whole_is)
      (keeps.minus is.count is.plain.tree (sound is.plain is.plain_is (all-append Leaf (signs is.count) is.plain.tokens own).1 rest (given_past (signs is.count) (is.plain.tokens ++ rest) has)))

  -- Steps, paths and other operands

  widened_keep : (double : Bool) (ss : List Step) → AllByRecursion Bare ss → AllByRecursion Bare (widened double ++ ss)
  widened_keep true ss all = (keeps.short axis.DescendantOrSelf, all)
  widened_keep false ss all = all

  some_steps : (x : Bool × Stepped) (xs : List (Bool × Stepped)) → 1 ≤ length (steps_behind (x ∷ xs))
  some_steps x xs = go x.0
    where
      go : (double : Bool) → 1 ≤ length (widened double ++ (x.1.step ∷ steps_behind xs))
      go true = omega arith
      go false = omega arith

  module _ (I : Part → Type 0) (inner : Sound I) (wide : (q : Part) → I q → IsExpr q.tokens q.tree) where
    bracketed_keep : (ps : List Part) → AllByRecursion I ps → AreLeaves (bracketed ps) → (rest : List Symbol) → AreGiven (bracketed ps ++ rest) → AreTrees ps
    bracketed_keep [] all leaves rest given = tt
    bracketed_keep (p ∷ ps) all leaves rest given =
        let more = symbol.CloseBracket ∷ bracketed ps in
        let parts = all-append Leaf p.tokens more leaves.1 in
        let own = regrouped p.tokens more rest given.1 in
        (inner p all.0 parts.0 (more ++ rest) own, bracketed_keep ps all.1 parts.1.1 rest (given_past p.tokens (more ++ rest) own).1)

    arguments_keep : (ps : List Part) → AllByRecursion I ps → AreLeaves (arguments ps) → (rest : List Symbol) → AreGiven (arguments ps ++ rest) → AllByRecursion (IsArgument Leaf Tree) ps
    arguments_keep [] all leaves rest given = tt
    arguments_keep (p ∷ []) all leaves rest given = ((wide p all.0, leaves, inner p all.0 leaves rest given), tt)
    arguments_keep (p ∷ q ∷ ps) all leaves rest given =
        let more = symbol.Comma ∷ arguments (q ∷ ps) in
        let parts = all-append Leaf p.tokens more leaves in
        let own = regrouped p.tokens more rest given in
        ((wide p all.0, parts.0, inner p all.0 parts.0 (more ++ rest) own), arguments_keep (q ∷ ps) all.1 parts.1.1 rest (given_past p.tokens (more ++ rest) own).1)

    all_solid : (ps : List Part) → AllByRecursion I ps → AllByRecursion (λ q. Solid q.tokens) ps
    all_solid [] all = tt
    all_solid (p ∷ ps) all = (solid_expr p.tokens p.tree (wide p all.0), all_solid ps all.1)

    step_keeps : (s : Stepped) → IsStep I s → AreLeaves s.tokens → (rest : List Symbol) → AreGiven (s.tokens ++ rest) → Bare s.step
    step_keeps s (inl is) leaves rest given =
        let more = is.test_tokens ++ bracketed is.predicates in
        let own : AreLeaves (is.axis_tokens ++ more) = subst (λ (x : Stepped). AreLeaves x.tokens) is.whole_is leaves in
        let has : AreGiven ((is.axis_tokens ++ more) ++ rest) = subst (λ (x : Stepped). AreGiven (x.tokens ++ rest)) is.whole_is given in
        let parts = all-append Leaf is.test_tokens (bracketed is.predicates) (all-append Leaf is.axis_tokens more own).1 in
        let past = given_past is.axis_tokens (more ++ rest) (regrouped is.axis_tokens more rest has) in
        let left = given_past is.test_tokens (bracketed is.predicates ++ rest) (regrouped is.test_tokens (bracketed is.predicates) rest past) in
        subst (λ (x : Stepped). Bare x.step) (sym is.whole_is)
        (keeps.full is.on is.test_tokens is.test is.predicates is.test_is parts.0 (bracketed_keep is.predicates is.predicates_are parts.1 rest left))
    step_keeps s (inr (inl e)) leaves rest given = subst (λ (x : Stepped). Bare x.step) (sym e) (keeps.short axis.Itself)
    step_keeps s (inr (inr e)) leaves rest given = subst (λ (x : Stepped). Bare x.step) (sym e) (keeps.short axis.Parent)

    steps_keep : (xs : List (Bool × Stepped)) → AreSteps I xs → AreLeaves (behind_slash xs) → (rest : List Symbol) → AreGiven (behind_slash xs ++ rest) → AllByRecursion Bare (steps_behind xs)
    steps_keep [] all leaves rest given = tt
    steps_keep (x ∷ xs) all leaves rest given =
        let parts = all-append Leaf x.1.tokens (behind_slash xs) leaves.1 in
        let own = regrouped x.1.tokens (behind_slash xs) rest given.1 in
        widened_keep x.0 (x.1.step ∷ steps_behind xs) (step_keeps x.1 all.0 parts.0 (behind_slash xs ++ rest) own, steps_keep xs all.1 parts.1 rest (given_past x.1.tokens (behind_slash xs ++ rest) own))

    primary_keeps : Sound (IsPrimary I)
    primary_keeps p (inl is) leaves rest given = subst (λ (q : Part). Tree q.tree) (sym is.1) (keeps.atoms is.0 (subst (λ (q : Part). AreLeaves q.tokens) is.1 leaves).0)
    primary_keeps p (inr (inl is)) leaves rest given =
        let own : AreLeaves (symbol.Open ∷ (is.inner.tokens ++ symbol.Close ∷ [])) = subst (λ (q : Part). AreLeaves q.tokens) is.whole_is leaves in
        let has : AreGiven ((symbol.Open ∷ (is.inner.tokens ++ symbol.Close ∷ [])) ++ rest) = subst (λ (q : Part). AreGiven (q.tokens ++ rest)) is.whole_is given in
        subst (λ (q : Part). Tree q.tree) (sym is.whole_is)
        (inner is.inner is.inner_is (all-append Leaf is.inner.tokens (symbol.Close ∷ []) own.1).0 (symbol.Close ∷ rest) (regrouped is.inner.tokens (symbol.Close ∷ []) rest has.1))
    primary_keeps p (inr (inr is)) leaves rest given =
        let more = arguments is.given ++ symbol.Close ∷ [] in
        let own : AreLeaves (symbol.Callee is.function ∷ (symbol.Open ∷ more)) = subst (λ (q : Part). AreLeaves q.tokens) is.whole_is leaves in
        let has : AreGiven ((symbol.Callee is.function ∷ (symbol.Open ∷ more)) ++ rest) = subst (λ (q : Part). AreGiven (q.tokens ++ rest)) is.whole_is given in
        let all = arguments_keep is.given is.given_are (all-append Leaf (arguments is.given) (symbol.Close ∷ []) own.1.1).0 (symbol.Close ∷ rest) (regrouped (arguments is.given) (symbol.Close ∷ []) rest has.1.1) in
        let many : given_of (symbol.Open ∷ (more ++ rest)) ≡ Some (length is.given) =
        ap (λ l. given_of (symbol.Open ∷ l)) (append_assoc (arguments is.given) (symbol.Close ∷ []) rest) ∙ given_are is.given rest (all_solid is.given is.given_are) in
        subst (λ (q : Part). Tree q.tree) (sym is.whole_is) (keeps.calls is.function is.given all (sym (ap (wrong_arity is.function) many) ∙ has.0))

    filter_keeps : Sound (IsFilter I)
    filter_keeps p is leaves rest given = subst (λ (q : Part). Tree q.tree) (sym is.whole_is) (go is.predicates predicates)
      where
        own : AreLeaves (is.plain.tokens ++ bracketed is.predicates)
        own = subst (λ (q : Part). AreLeaves q.tokens) is.whole_is leaves

        has : AreGiven (is.plain.tokens ++ (bracketed is.predicates ++ rest))
        has = regrouped is.plain.tokens (bracketed is.predicates) rest (subst (λ (q : Part). AreGiven (q.tokens ++ rest)) is.whole_is given)

        plain : Tree is.plain.tree
        plain = primary_keeps is.plain is.plain_is (all-append Leaf is.plain.tokens (bracketed is.predicates) own).0 (bracketed is.predicates ++ rest) has

        predicates : AreTrees is.predicates
        predicates = bracketed_keep is.predicates is.predicates_are (all-append Leaf is.plain.tokens (bracketed is.predicates) own).1 rest (given_past is.plain.tokens (bracketed is.predicates ++ rest) has)

        go : (ps : List Part) → AreTrees ps → Tree (filtered is.plain.tree (trees ps))
        go [] all = plain
        go (q ∷ ps) all = keeps.filters is.plain.tree q ps plain all

    path_keeps : Sound (IsPath I)
    path_keeps p (inl is) leaves rest given =
        let own : AreLeaves (is.first.tokens ++ behind_slash is.others) = subst (λ (q : Part). AreLeaves q.tokens) is.whole_is leaves in
        let has = regrouped is.first.tokens (behind_slash is.others) rest (subst (λ (q : Part). AreGiven (q.tokens ++ rest)) is.whole_is given) in
        let parts = all-append Leaf is.first.tokens (behind_slash is.others) own in
        let all : AllByRecursion Bare (is.first.step ∷ steps_behind is.others) = (step_keeps is.first is.first_is parts.0 (behind_slash is.others ++ rest) has, steps_keep is.others is.others_are parts.1 rest (given_past is.first.tokens (behind_slash is.others ++ rest) has)) in
        subst (λ (q : Part). Tree q.tree) (sym is.whole_is) (keeps.relative is.first.step (steps_behind is.others) all)
    path_keeps p (inr (inl e)) leaves rest given = subst (λ (q : Part). Tree q.tree) (sym e) (keeps.absolute [] tt)
    path_keeps p (inr (inr (inl is))) leaves rest given =
        let own : AreLeaves (behind_slash (is.first ∷ is.others)) = subst (λ (q : Part). AreLeaves q.tokens) is.whole_is leaves in
        let has : AreGiven (behind_slash (is.first ∷ is.others) ++ rest) = subst (λ (q : Part). AreGiven (q.tokens ++ rest)) is.whole_is given in
        subst (λ (q : Part). Tree q.tree) (sym is.whole_is) (keeps.absolute (steps_behind (is.first ∷ is.others)) (steps_keep (is.first ∷ is.others) is.steps_are own rest has))
    path_keeps p (inr (inr (inr (inl is)))) leaves rest given = filter_keeps p is leaves rest given
    path_keeps p (inr (inr (inr (inr is)))) leaves rest given =
        let more = behind_slash (is.first ∷ is.others) in
        let own : AreLeaves (is.from.tokens ++ more) = subst (λ (q : Part). AreLeaves q.tokens) is.whole_is leaves in
        let has = regrouped is.from.tokens more rest (subst (λ (q : Part). AreGiven (q.tokens ++ rest)) is.whole_is given) in
        let parts = all-append Leaf is.from.tokens more own in
        let from = filter_keeps is.from is.from_is parts.0 (more ++ rest) has in
        let all = steps_keep (is.first ∷ is.others) is.steps_are parts.1 rest (given_past is.from.tokens (more ++ rest) has) in
        subst (λ (q : Part). Tree q.tree) (sym is.whole_is) (keeps.behind is.from.tree (steps_behind (is.first ∷ is.others)) (some_steps is.first is.others) from all)

    or_keeps : Sound (IsOr I)
    or_keeps =
        chain_keeps level.Or (IsAnd I) (chain_keeps level.And (IsEquality I) (chain_keeps level.Equality (IsRelational I) (chain_keeps level.Relational (IsAdditive I)
        (chain_keeps level.Additive (IsMultiplicative I) (chain_keeps level.Multiplicative (IsUnary I) (signed_keeps (IsUnion I) (chain_keeps level.Union (IsPath I) path_keeps)))))))

  kept_in : (depth : ℕ) → Sound (IsExprIn depth)
  unfolding IsExprIn
  kept_in zero p is leaves rest given = absurd is
  kept_in (suc depth) p is leaves rest given = or_keeps (IsExprIn depth) (kept_in depth) (λ q q_is. (depth, q_is)) p is leaves rest given

  -- what the productions keep holds of an expression
  pub kept : (tokens : List Symbol) (tree : Expr) → IsExpr tokens tree → AreLeaves tokens → (rest : List Symbol) → AreGiven (tokens ++ rest) → Tree tree
  kept tokens tree is leaves rest given = kept_in is.0 (part tokens tree) is.1 leaves rest given
