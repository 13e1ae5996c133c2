-- The machine reads each expression of the grammar.
use Rattle.std.proofs.Common.{◌≡◌, ◌<◌, ◌+◌, ◌==◌, ℕ, zero, suc, Bool, true, false, cond, List, [], ◌∷◌, ◌++◌, map, Some, None, sym, refl, ap, ◌∙◌, inl, inr, append_assoc, append-nil, arith, option_map}
use Rattle.std.specs.List.{AllByRecursion}
use Rattle.std.proofs.lemmas.Bool.Decides.{nat_tests}
use Rattle.serna_kinds.specs.declared.expressions.Axis.{Axis}
use Rattle.serna_kinds.specs.declared.expressions.Axis.TheVariants as axis
use Rattle.serna_kinds.specs.declared.expressions.NodeTest.{NodeTest}
use Rattle.xpath_trees.specs.declared.expr.Expr.{Expr}
use Rattle.xpath_trees.specs.declared.expr.Expr.TheVariants as expr
use Rattle.xpath_trees.specs.declared.expr.PathStart.TheVariants as start
use Rattle.xpath_trees.specs.declared.expr.Signs.TheVariants as sign
use Rattle.xpath_trees.specs.declared.expr.Step.{Step}
use Rattle.xpath_trees.specs.declared.expr.Function.{Function}
use Rattle.xpath_tokens.specs.declared.symbol.Operator.{Operator}
use Rattle.xpath_tokens.specs.declared.symbol.Symbol.{Symbol}
use Rattle.xpath_tokens.specs.declared.symbol.Symbol.TheVariants as symbol
use Rattle.xpath_grammar.specs.declared.operand.Level.{Level}
use Rattle.xpath_grammar.specs.declared.operand.Level.TheVariants as level
use Rattle.xpath_grammar.specs.declared.operand.Path.{Path}
use Rattle.xpath_grammar.specs.declared.operand.Operand.{Operand}
use Rattle.xpath_grammar.specs.declared.operand.Operand.TheVariants as operand
use Rattle.xpath_grammar.specs.declared.operand.Chain.{Chain}
use Rattle.xpath_parser.specs.declared.state.Pending.{Pending}
use Rattle.xpath_parser.specs.declared.state.Pending.TheVariants as pending
use Rattle.xpath_parser.specs.declared.state.Place.TheVariants as place
use Rattle.xpath_parser.specs.declared.state.State.{State}
use Rattle.xpath_grammar.specs.Trees.{self_node, parent_node, any_descendant, level_of, rank, chain_tree, filtered, signs_past, signed}
use Rattle.xpath_grammar.specs.Grammar.{Part, part, further, chain, IsChain, signs, IsSigned, Stepped, IsAxis, IsTest, bracketed, trees, IsStep, slash, behind_slash, widened, steps_behind, AreSteps, IsRelative, IsAbsolute, arguments, IsCall, IsGroup, IsPrimary, IsFilter, IsPathFrom, IsPath, IsUnion, IsUnary, IsMultiplicative, IsAdditive, IsRelational, IsEquality, IsAnd, IsOr, IsExprIn, IsExpr}
use Rattle.xpath_grammar.specs.Parts.{here, from_root, with_step, path_tree, operand_tree, whole, path_behind, chained, longer, begun}
use Rattle.xpath_parser.specs.Machine.{at, is_level, closed, behind, after_step, after_operator, is_close, end_call, beginning, after}
use Rattle.xpath_parser.proofs.Outcomes.{outcome, rank-some, Follows, follows_more, Fits, fits_more, fits_closed, fits_operator, same_tree, chain_ends, sign_ends}
use Rattle.xpath_tokens.proofs.Comparing.{not_less, differs}

-- what binds as this number or tighter is read to its end
abbrev pub Reads : ℕ → (Part → Type 0) → Type 0
Reads k Is = (p : Part) → Is p → (s : List Pending) → Fits k s → (rest : List Symbol) → Follows k rest
    → outcome (Some (at place.Operand s)) (p.tokens ++ rest) ≡ outcome (Some (behind (whole p.tree) s)) rest

-- Chains

abbrev chain_end : Chain → Expr → List (Operator × Part) → Expr
chain_end c e [] = chained c e
chain_end c e (x ∷ xs) = chain_end (longer c e x.0) x.1.tree xs

abbrev others_of : List (Operator × Part) → List (Operator × Expr)
others_of = map (λ (y : Operator × Part). (y.0, y.1.tree))

chain_end-is : (of : Level) (c : Chain) (e : Expr) (xs : List (Operator × Part)) → level_of c.last ≡ of → AllByRecursion (λ (x : Operator × Part). level_of x.0 ≡ of) xs
    → chain_end c e xs ≡ chain_tree of c.first (c.others ++ ((c.last, e) ∷ others_of xs))
chain_end-is of c e [] same all = ap (λ l. chain_tree l c.first (c.others ++ (c.last, e) ∷ [])) same
chain_end-is of c e (x ∷ xs) same all =
    chain_end-is of (longer c e x.0) x.1.tree xs all.0 all.1 ∙ ap (chain_tree of c.first) (append_assoc c.others ((c.last, e) ∷ []) ((x.0, x.1.tree) ∷ others_of xs))

levels : (of : Level) (Is : Part → Type 0) (xs : List (Operator × Part)) → AllByRecursion (λ x. (level_of x.0 ≡ of) × Is x.1) xs → AllByRecursion (λ (x : Operator × Part). level_of x.0 ≡ of) xs
levels of Is [] all = tt
levels of Is (x ∷ xs) all = (all.0.0, levels of Is xs all.1)

same_rank : (a b : Level) → a ≡ b → is_level a b ≡ true
same_rank a b e = let f : rank a ≡ rank b = ap rank e in equal (rank a) (rank b) f
  where
    equal : (m n : ℕ) → m ≡ n → (m == n) ≡ true
    equal m n h = grind (arith, nat_tests)

module _ (of : Level) (k : ℕ) (tighter : rank of < k) (IsOperand : Part → Type 0) (reads : Reads k IsOperand) where
  -- a chain goes on with the operands that are left
  reads_others : (xs : List (Operator × Part)) → AllByRecursion (λ x. (level_of x.0 ≡ of) × IsOperand x.1) xs → (p : Part) → IsOperand p → (c : Chain) → level_of c.last ≡ of → (s : List Pending)
      → (rest : List Symbol) → Follows (rank of) rest
      → outcome (Some (at place.Operand (pending.Chain c ∷ s))) ((p.tokens ++ further xs) ++ rest) ≡ outcome (Some (behind (whole (chain_end c p.tree xs)) s)) rest
  reads_others [] all p is c same s rest f =
      let level : rank (level_of c.last) ≡ rank of = ap rank same in
      ap (λ l. outcome (Some (at place.Operand (pending.Chain c ∷ s))) (l ++ rest)) (append-nil p.tokens)
      ∙ reads p is (pending.Chain c ∷ s) (omega arith) rest (follows_more (rank of) k (omega arith) rest f)
      ∙ chain_ends (whole p.tree) c s (rank of) (omega arith) (rank-some of) rest f
  reads_others (x ∷ xs) all p is c same s rest f =
      let level : rank (level_of c.last) ≡ rank of = ap rank same in
      let next : rank (level_of x.0) ≡ rank of = ap rank all.0.0 in
      let more = (x.1.tokens ++ further xs) ++ rest in
      ap (outcome (Some (at place.Operand (pending.Chain c ∷ s)))) (append_assoc p.tokens (further (x ∷ xs)) rest)
      ∙ reads p is (pending.Chain c ∷ s) (omega arith) (symbol.Operator x.0 ∷ more) (omega arith)
      ∙ ap (λ b. outcome (Some (after_operator x.0 (cond b (closed (rank (level_of x.0)) (chained c p.tree) s) (p.tree, pending.Chain c ∷ s)))) more) (not_less (rank (level_of x.0)) (rank (level_of c.last)) (omega arith))
      ∙ ap (λ b. outcome (Some (at place.Operand (cond b (pending.Chain (longer c p.tree x.0) ∷ s) (pending.Chain (begun p.tree x.0) ∷ (pending.Chain c ∷ s))))) more) (same_rank (level_of c.last) (level_of x.0) (same ∙ sym all.0.0))
      ∙ reads_others xs all.1 x.1 all.0.1 (longer c p.tree x.0) all.0.0 s rest f

  pub reads_chain : Reads (rank of) (IsChain of IsOperand)
  reads_chain p is s fits rest f =
      ap (λ (w : Part). outcome (Some (at place.Operand s)) (w.tokens ++ rest)) is.whole_is
      ∙ go is.others is.others_are
      ∙ ap (λ (w : Part). outcome (Some (behind (whole w.tree) s)) rest) (sym is.whole_is)
    where
      go : (xs : List (Operator × Part)) → AllByRecursion (λ x. (level_of x.0 ≡ of) × IsOperand x.1) xs
          → outcome (Some (at place.Operand s)) ((chain of is.first xs).tokens ++ rest) ≡ outcome (Some (behind (whole (chain of is.first xs).tree) s)) rest
      go [] all = reads is.first is.first_is s (fits_more (rank of) k (omega arith) s fits) rest (follows_more (rank of) k (omega arith) rest f)
      go (x ∷ xs) all =
          let e = is.first.tree in
          let more = (x.1.tokens ++ further xs) ++ rest in
          let next : rank (level_of x.0) ≡ rank of = ap rank all.0.0 in
          let fit : Fits (rank (level_of x.0)) s = fits_more (rank of) (rank (level_of x.0)) (omega arith) s fits in
          ap (outcome (Some (at place.Operand s))) (append_assoc is.first.tokens (further (x ∷ xs)) rest)
          ∙ reads is.first is.first_is s (fits_more (rank of) k (omega arith) s fits) (symbol.Operator x.0 ∷ more) (omega arith)
          ∙ ap (λ c. outcome (Some (after_operator x.0 c)) more) (fits_closed (rank (level_of x.0)) e s fit)
          ∙ ap (λ t. outcome (Some (at place.Operand t)) more) (fits_operator x.0 e s fit)
          ∙ reads_others xs all.1 x.1 all.0.1 (begun e x.0) all.0.0 s rest f
          ∙ ap (λ t. outcome (Some (behind (whole t) s)) rest) (chain_end-is of (begun e x.0) x.1.tree xs all.0.0 (levels of IsOperand xs all.1))

-- Minus signs

abbrev plus : ℕ → ℕ → ℕ
plus zero n = n
plus (suc m) n = plus m (suc n)

plus-is : (m n : ℕ) → plus m n ≡ m + n
plus-is zero n = omega arith
plus-is (suc m) n = let e = plus-is m (suc n) in let f : m + suc n ≡ suc m + n = omega arith in e ∙ f

reads_signs : (m n : ℕ) (s : List Pending) (rest : List Symbol)
    → outcome (Some (at place.Operand (pending.Minus (signs_past n) ∷ s))) (signs m ++ rest) ≡ outcome (Some (at place.Operand (pending.Minus (signs_past (plus m n)) ∷ s))) rest
reads_signs zero n s rest = refl
reads_signs (suc m) n s rest = reads_signs m (suc n) s rest

-- the first minus sign
reads_sign : (s : List Pending) → Fits 7 s → (rest : List Symbol)
    → outcome (Some (at place.Operand s)) (signs 1 ++ rest) ≡ outcome (Some (at place.Operand (pending.Minus sign.Once ∷ s))) rest
reads_sign [] fits rest = refl
reads_sign (pending.Chain c ∷ s) fits rest =
    ap (λ b. outcome (cond b None (Some (at place.Operand (pending.Minus sign.Once ∷ (pending.Chain c ∷ s))))) rest) (differs (rank (level_of c.last)) 8 (omega arith))
reads_sign (pending.Minus so_far ∷ s) fits rest = absurd (omega arith)
reads_sign (pending.Group ∷ s) fits rest = refl
reads_sign (pending.Call f args ∷ s) fits rest = refl
reads_sign (pending.Predicate o ∷ s) fits rest = refl

reads_signed : (IsOperand : Part → Type 0) → Reads 8 IsOperand → Reads 7 (IsSigned IsOperand)
reads_signed IsOperand reads p is s fits rest f =
    ap (λ (w : Part). outcome (Some (at place.Operand s)) (w.tokens ++ rest)) is.whole_is
    ∙ go is.count
    ∙ ap (λ (w : Part). outcome (Some (behind (whole w.tree) s)) rest) (sym is.whole_is)
  where
    e : Expr
    e = is.plain.tree

    go : (n : ℕ) → outcome (Some (at place.Operand s)) ((signs n ++ is.plain.tokens) ++ rest) ≡ outcome (Some (behind (whole (signed n is.plain.tree)) s)) rest
    go zero = reads is.plain is.plain_is s (fits_more 7 8 (omega arith) s fits) rest (follows_more 7 8 (omega arith) rest f)
    go (suc m) =
        let sum : plus m 0 ≡ m = (let g = plus-is m 0 in omega arith) in
        let all = pending.Minus (signs_past m) ∷ s in
        reads_sign s fits ((signs m ++ is.plain.tokens) ++ rest)
        ∙ ap (outcome (Some (at place.Operand (pending.Minus sign.Once ∷ s)))) (append_assoc (signs m) is.plain.tokens rest)
        ∙ reads_signs m 0 s (is.plain.tokens ++ rest)
        ∙ ap (λ n. outcome (Some (at place.Operand (pending.Minus (signs_past n) ∷ s))) (is.plain.tokens ++ rest)) sum
        ∙ reads is.plain is.plain_is all (omega arith) rest (follows_more 7 8 (omega arith) rest f)
        ∙ sign_ends (whole is.plain.tree) (signs_past m) s 7 (omega arith) (omega arith) rest f

-- Predicates

module _ (IsInner : Part → Type 0) (reads : Reads 1 IsInner) where
  reads_step_predicates : (ps : List Part) → AllByRecursion IsInner ps → (p : Path) (a : Axis) (t : NodeTest) (so_far : List Expr) (s : List Pending) (rest : List Symbol)
      → outcome (Some (behind (operand.Step p a t so_far) s)) (bracketed ps ++ rest) ≡ outcome (Some (behind (operand.Step p a t (so_far ++ trees ps)) s)) rest
  reads_step_predicates [] all p a t so_far s rest = ap (λ l. outcome (Some (behind (operand.Step p a t l) s)) rest) (sym (append-nil so_far))
  reads_step_predicates (q ∷ qs) all p a t so_far s rest =
      let waits = pending.Predicate (operand.Step p a t so_far) ∷ s in
      ap (outcome (Some (at place.Operand waits))) (append_assoc q.tokens (symbol.CloseBracket ∷ bracketed qs) rest)
      ∙ reads q all.0 waits tt (symbol.CloseBracket ∷ (bracketed qs ++ rest)) tt
      ∙ reads_step_predicates qs all.1 p a t (so_far ++ q.tree ∷ []) s rest
      ∙ ap (λ l. outcome (Some (behind (operand.Step p a t l) s)) rest) (append_assoc so_far (q.tree ∷ []) (trees qs))

  reads_predicates : (ps : List Part) → AllByRecursion IsInner ps → (e : Expr) (so_far : List Expr) (s : List Pending) (rest : List Symbol)
      → outcome (Some (behind (operand.Primary e so_far) s)) (bracketed ps ++ rest) ≡ outcome (Some (behind (operand.Primary e (so_far ++ trees ps)) s)) rest
  reads_predicates [] all e so_far s rest = ap (λ l. outcome (Some (behind (operand.Primary e l) s)) rest) (sym (append-nil so_far))
  reads_predicates (q ∷ qs) all e so_far s rest =
      let waits = pending.Predicate (operand.Primary e so_far) ∷ s in
      ap (outcome (Some (at place.Operand waits))) (append_assoc q.tokens (symbol.CloseBracket ∷ bracketed qs) rest)
      ∙ reads q all.0 waits tt (symbol.CloseBracket ∷ (bracketed qs ++ rest)) tt
      ∙ reads_predicates qs all.1 e (so_far ++ q.tree ∷ []) s rest
      ∙ ap (λ l. outcome (Some (behind (operand.Primary e l) s)) rest) (append_assoc so_far (q.tree ∷ []) (trees qs))

-- Steps

-- a token that a step begins with
abbrev BeginsStep : Symbol → Type 0
BeginsStep (symbol.Test t) = Unit {0}
BeginsStep (symbol.NodeType t) = Unit {0}
BeginsStep (symbol.AxisName a) = Unit {0}
BeginsStep symbol.At = Unit {0}
BeginsStep symbol.Dot = Unit {0}
BeginsStep symbol.DotDot = Unit {0}
BeginsStep _ = ⊥

-- in this state a step may begin, behind this path
abbrev MayStep : State → Path → List Pending → Type 0
MayStep state p s = (t : Symbol) → BeginsStep t → after state t ≡ after_step p s t

may_here : (s : List Pending) → MayStep (at place.Operand s) here s
may_here s (symbol.Test t) b = refl
may_here s (symbol.NodeType t) b = refl
may_here s (symbol.AxisName a) b = refl
may_here s symbol.At b = refl
may_here s symbol.Dot b = refl
may_here s symbol.DotDot b = refl
may_here s _ b = absurd b

may_step : (p : Path) (s : List Pending) → MayStep (at (place.Step p) s) p s
may_step p s t b = refl

may_root : (s : List Pending) → MayStep (behind operand.Root s) from_root s
may_root s (symbol.Test t) b = refl
may_root s (symbol.NodeType t) b = refl
may_root s (symbol.AxisName a) b = refl
may_root s symbol.At b = refl
may_root s symbol.Dot b = refl
may_root s symbol.DotDot b = refl
may_root s _ b = absurd b

-- an operand whose last step was just read
record Stands (o : Operand) (p : Path) : Type 0 where
  goes_on : path_behind o ≡ Some p
  tree : operand_tree o ≡ path_tree p

-- the operand behind a step, whatever follows
record BehindStep (state : State) (tokens : List Symbol) (p : Path) (s : List Pending) : Type 0 where
  o : Operand
  stands : Stands o p
  same : (rest : List Symbol) → outcome (Some state) (tokens ++ rest) ≡ outcome (Some (behind o s)) rest

-- a step is read from the tokens that its axis leads to
reads_tested : (state : State) (p : Path) (a : Axis) (s : List Pending) (tokens : List Symbol) (t : NodeTest) → IsTest tokens t
    → after state (symbol.Test t) ≡ Some (behind (operand.Step p a t []) s) → after state (symbol.NodeType t) ≡ Some (at (place.NodeOpen p a t) s)
    → (rest : List Symbol) → outcome (Some state) (tokens ++ rest) ≡ outcome (Some (behind (operand.Step p a t []) s)) rest
reads_tested state p a s tokens t (inl e) f g rest = ap (λ l. outcome (Some state) (l ++ rest)) e ∙ ap (λ n. outcome n rest) f
reads_tested state p a s tokens t (inr e) f g rest =
    ap (λ l. outcome (Some state) (l ++ rest)) e ∙ ap (λ n. outcome n (symbol.Open ∷ (symbol.Close ∷ rest))) g

module _ (IsInner : Part → Type 0) (reads : Reads 1 IsInner) where
  reads_axis : (state : State) (p : Path) (s : List Pending) → MayStep state p s → (axis_tokens test_tokens : List Symbol) (a : Axis) (t : NodeTest) → IsAxis axis_tokens a → IsTest test_tokens t
      → (rest : List Symbol) → outcome (Some state) (axis_tokens ++ (test_tokens ++ rest)) ≡ outcome (Some (behind (operand.Step p a t []) s)) rest
  reads_axis state p s may axis_tokens test_tokens a t (inl e) is rest =
      ap (λ l. outcome (Some state) (l ++ (test_tokens ++ rest))) e
      ∙ ap (λ n. outcome n (symbol.Colons ∷ (test_tokens ++ rest))) (may (symbol.AxisName a) tt)
      ∙ reads_tested (at (place.Test p a) s) p a s test_tokens t is refl refl rest
  reads_axis state p s may axis_tokens test_tokens a t (inr (inl e)) is rest =
      ap (λ l. outcome (Some state) (l ++ (test_tokens ++ rest))) e.0
      ∙ ap (λ n. outcome n (test_tokens ++ rest)) (may symbol.At tt)
      ∙ reads_tested (at (place.Test p axis.Attribute) s) p axis.Attribute s test_tokens t is refl refl rest
      ∙ ap (λ b. outcome (Some (behind (operand.Step p b t []) s)) rest) (sym e.1)
  reads_axis state p s may axis_tokens test_tokens a t (inr (inr e)) is rest =
      ap (λ l. outcome (Some state) (l ++ (test_tokens ++ rest))) e.0
      ∙ reads_tested state p axis.Child s test_tokens t is (may (symbol.Test t) tt) (may (symbol.NodeType t) tt) rest
      ∙ ap (λ b. outcome (Some (behind (operand.Step p b t []) s)) rest) (sym e.1)

  reads_step : (state : State) (p : Path) (s : List Pending) → MayStep state p s → (x : Stepped) → IsStep IsInner x → BehindStep state x.tokens (with_step p x.step) s
  reads_step state p s may x (inl is) = record {
    o = operand.Step p is.on is.test (trees is.predicates);
    stands = record {
      goes_on = ap (λ (y : Stepped). Some (with_step p y.step)) (sym is.whole_is);
      tree = ap (λ (y : Stepped). path_tree (with_step p y.step)) (sym is.whole_is);
    };
    same = λ rest.
        ap (λ (y : Stepped). outcome (Some state) (y.tokens ++ rest)) is.whole_is
        ∙ ap (outcome (Some state)) (append_assoc is.axis_tokens (is.test_tokens ++ bracketed is.predicates) rest ∙ ap (λ l. is.axis_tokens ++ l) (append_assoc is.test_tokens (bracketed is.predicates) rest))
        ∙ reads_axis state p s may is.axis_tokens is.test_tokens is.on is.test is.axis_is is.test_is (bracketed is.predicates ++ rest)
        ∙ reads_step_predicates IsInner reads is.predicates is.predicates_are p is.on is.test [] s rest;
  }
  reads_step state p s may x (inr (inl e)) = record {
    o = operand.Abbreviated (with_step p self_node);
    stands = record {
      goes_on = ap (λ (y : Stepped). Some (with_step p y.step)) (sym e);
      tree = ap (λ (y : Stepped). path_tree (with_step p y.step)) (sym e);
    };
    same = λ rest. ap (λ (y : Stepped). outcome (Some state) (y.tokens ++ rest)) e ∙ ap (λ n. outcome n rest) (may symbol.Dot tt);
  }
  reads_step state p s may x (inr (inr e)) = record {
    o = operand.Abbreviated (with_step p parent_node);
    stands = record {
      goes_on = ap (λ (y : Stepped). Some (with_step p y.step)) (sym e);
      tree = ap (λ (y : Stepped). path_tree (with_step p y.step)) (sym e);
    };
    same = λ rest. ap (λ (y : Stepped). outcome (Some state) (y.tokens ++ rest)) e ∙ ap (λ n. outcome n rest) (may symbol.DotDot tt);
  }

  -- a path with further steps
  abbrev with_steps : Path → List Step → Path
  with_steps p steps = record { start = p.start; steps = p.steps ++ steps }

  abbrev wide : Bool → Path → Path
  wide true p = with_step p any_descendant
  wide false p = p

  wide-is : (b : Bool) (p : Path) (x : Step) (more : List Step) → with_steps (with_step (wide b p) x) more ≡ with_steps p (widened b ++ (x ∷ more))
  wide-is true p x more = ap (λ l. record { start = p.start; steps = l }) (append_assoc (p.steps ++ any_descendant ∷ []) (x ∷ []) more ∙ append_assoc p.steps (any_descendant ∷ []) (x ∷ more))
  wide-is false p x more = ap (λ l. record { start = p.start; steps = l }) (append_assoc p.steps (x ∷ []) more)

  -- a slash behind an operand
  reads_slash : (b : Bool) (o : Operand) (p : Path) (s : List Pending) → path_behind o ≡ Some p → after (behind o s) (slash b) ≡ Some (at (place.Step (wide b p)) s)
  reads_slash true o p s e = ap (λ q. option_map (λ w. at (place.Step (with_step w any_descendant)) s) q) e
  reads_slash false o p s e = ap (λ q. option_map (λ w. at (place.Step w) s) q) e

  -- further steps behind an operand that is a path
  reads_slashes : (xs : List (Bool × Stepped)) → AreSteps IsInner xs → (o : Operand) (p : Path) → Stands o p → (s : List Pending) (rest : List Symbol) → Follows 9 rest
      → outcome (Some (behind o s)) (behind_slash xs ++ rest) ≡ outcome (Some (behind (whole (path_tree (with_steps p (steps_behind xs)))) s)) rest
  reads_slashes [] all o p stands s rest f =
      same_tree o (whole (path_tree p)) s stands.tree 9 rest f ∙ ap (λ l. outcome (Some (behind (whole (path_tree (record { start = p.start; steps = l }))) s)) rest) (sym (append-nil p.steps))
  reads_slashes (x ∷ xs) all o p stands s rest f =
      let next = reads_step (at (place.Step (wide x.0 p)) s) (wide x.0 p) s (may_step (wide x.0 p) s) x.1 all.0 in
      ap (λ n. outcome n ((x.1.tokens ++ behind_slash xs) ++ rest)) (reads_slash x.0 o p s stands.goes_on)
      ∙ ap (outcome (Some (at (place.Step (wide x.0 p)) s))) (append_assoc x.1.tokens (behind_slash xs) rest)
      ∙ next.same (behind_slash xs ++ rest)
      ∙ reads_slashes xs all.1 next.o (with_step (wide x.0 p) x.1.step) next.stands s rest f
      ∙ ap (λ q. outcome (Some (behind (whole (path_tree q)) s)) rest) (wide-is x.0 p x.1.step (steps_behind xs))

  -- steps behind any operand that steps may follow
  reads_first_slash : (x : Bool × Stepped) (xs : List (Bool × Stepped)) → AreSteps IsInner (x ∷ xs) → (o : Operand) (p : Path) → path_behind o ≡ Some p → (s : List Pending) (rest : List Symbol) → Follows 9 rest
      → outcome (Some (behind o s)) (behind_slash (x ∷ xs) ++ rest) ≡ outcome (Some (behind (whole (path_tree (with_steps p (steps_behind (x ∷ xs))))) s)) rest
  reads_first_slash x xs all o p e s rest f =
      let next = reads_step (at (place.Step (wide x.0 p)) s) (wide x.0 p) s (may_step (wide x.0 p) s) x.1 all.0 in
      ap (λ n. outcome n ((x.1.tokens ++ behind_slash xs) ++ rest)) (reads_slash x.0 o p s e)
      ∙ ap (outcome (Some (at (place.Step (wide x.0 p)) s))) (append_assoc x.1.tokens (behind_slash xs) rest)
      ∙ next.same (behind_slash xs ++ rest)
      ∙ reads_slashes xs all.1 next.o (with_step (wide x.0 p) x.1.step) next.stands s rest f
      ∙ ap (λ q. outcome (Some (behind (whole (path_tree q)) s)) rest) (wide-is x.0 p x.1.step (steps_behind xs))

  reads_relative : (p : Part) → IsRelative IsInner p → (s : List Pending) (rest : List Symbol) → Follows 9 rest
      → outcome (Some (at place.Operand s)) (p.tokens ++ rest) ≡ outcome (Some (behind (whole p.tree) s)) rest
  reads_relative p is s rest f =
      let next = reads_step (at place.Operand s) here s (may_here s) is.first is.first_is in
      ap (λ (w : Part). outcome (Some (at place.Operand s)) (w.tokens ++ rest)) is.whole_is
      ∙ ap (outcome (Some (at place.Operand s))) (append_assoc is.first.tokens (behind_slash is.others) rest)
      ∙ next.same (behind_slash is.others ++ rest)
      ∙ reads_slashes is.others is.others_are next.o (with_step here is.first.step) next.stands s rest f
      ∙ ap (λ (w : Part). outcome (Some (behind (whole w.tree) s)) rest) (sym is.whole_is)

  reads_absolute : (p : Part) → IsAbsolute IsInner p → (s : List Pending) (rest : List Symbol) → Follows 9 rest
      → outcome (Some (at place.Operand s)) (p.tokens ++ rest) ≡ outcome (Some (behind (whole p.tree) s)) rest
  reads_absolute p is s rest f =
      ap (λ (w : Part). outcome (Some (at place.Operand s)) (w.tokens ++ rest)) is.whole_is
      ∙ go is.first is.steps_are
      ∙ ap (λ (w : Part). outcome (Some (behind (whole w.tree) s)) rest) (sym is.whole_is)
    where
      xs : List (Bool × Stepped)
      xs = is.others

      next_state : Bool → State
      next_state true = at (place.Step (wide true from_root)) s
      next_state false = behind operand.Root s

      go : (x : Bool × Stepped) → AreSteps IsInner (x ∷ is.others)
          → outcome (Some (at place.Operand s)) (behind_slash (x ∷ is.others) ++ rest) ≡ outcome (Some (behind (whole (expr.Path start.Root (steps_behind (x ∷ is.others)))) s)) rest
      go (true, x) all =
          let p1 = wide true from_root in
          let next = reads_step (at (place.Step p1) s) p1 s (may_step p1 s) x all.0 in
          ap (outcome (Some (at (place.Step p1) s))) (append_assoc x.tokens (behind_slash is.others) rest)
          ∙ next.same (behind_slash is.others ++ rest)
          ∙ reads_slashes is.others all.1 next.o (with_step p1 x.step) next.stands s rest f
      go (false, x) all =
          let next = reads_step (behind operand.Root s) from_root s (may_root s) x all.0 in
          ap (outcome (Some (behind operand.Root s))) (append_assoc x.tokens (behind_slash is.others) rest)
          ∙ next.same (behind_slash is.others ++ rest)
          ∙ reads_slashes is.others all.1 next.o (with_step from_root x.step) next.stands s rest f

  -- Other operands

  -- an inner expression begins with a token that is no `)`
  record First (p : Part) : Type 0 where
    token : Symbol
    others : List Symbol
    same : p.tokens ≡ token ∷ others
    begins : is_close token ≡ false

  first_token : (p : Part) → IsInner p → First p
  first_token p is = go p.tokens refl
    where
      read : outcome (Some (at place.Operand [])) (p.tokens ++ []) ≡ Some p.tree
      read = reads p is [] tt [] tt

      go : (ts : List Symbol) → p.tokens ≡ ts → First p
      go [] e = let no : None ≡ Some p.tree = ap (λ l. outcome (Some (at place.Operand [])) (l ++ [])) (sym e) ∙ read in cc
      go (t ∷ ts) e = token t (ap (λ l. outcome (Some (at place.Operand [])) (l ++ [])) (sym e) ∙ read) e
        where
          token : (u : Symbol) → outcome (after (at place.Operand []) u) (ts ++ []) ≡ Some p.tree → p.tokens ≡ u ∷ ts → First p
          token symbol.Close read_so e = cc
          token u read_so e = record { token = u; others = ts; same = e; begins = refl }

  reads_group : (p : Part) → IsGroup IsInner p → (s : List Pending) (rest : List Symbol)
      → outcome (Some (at place.Operand s)) (p.tokens ++ rest) ≡ outcome (Some (behind (whole p.tree) s)) rest
  reads_group p is s rest =
      ap (λ (w : Part). outcome (Some (at place.Operand s)) (w.tokens ++ rest)) is.whole_is
      ∙ ap (outcome (Some (at place.Operand (pending.Group ∷ s)))) (append_assoc is.inner.tokens (symbol.Close ∷ []) rest)
      ∙ reads is.inner is.inner_is (pending.Group ∷ s) tt (symbol.Close ∷ rest) tt
      ∙ ap (λ (w : Part). outcome (Some (behind (whole w.tree) s)) rest) (sym is.whole_is)

  -- arguments, of which there is one at least
  reads_arguments : (q : Part) (qs : List Part) → AllByRecursion IsInner (q ∷ qs) → (g : Function) (args : List Expr) (s : List Pending) (rest : List Symbol)
      → outcome (Some (at place.Operand (pending.Call g args ∷ s))) (arguments (q ∷ qs) ++ symbol.Close ∷ rest) ≡ outcome (Some (behind (whole (expr.Call g (args ++ trees (q ∷ qs)))) s)) rest
  reads_arguments q [] all g args s rest = reads q all.0 (pending.Call g args ∷ s) tt (symbol.Close ∷ rest) tt
  reads_arguments q (r ∷ rs) all g args s rest =
      ap (outcome (Some (at place.Operand (pending.Call g args ∷ s)))) (append_assoc q.tokens (symbol.Comma ∷ arguments (r ∷ rs)) (symbol.Close ∷ rest))
      ∙ reads q all.0 (pending.Call g args ∷ s) tt (symbol.Comma ∷ (arguments (r ∷ rs) ++ symbol.Close ∷ rest)) tt
      ∙ reads_arguments r rs all.1 g (args ++ q.tree ∷ []) s rest
      ∙ ap (λ l. outcome (Some (behind (whole (expr.Call g l)) s)) rest) (append_assoc args (q.tree ∷ []) (trees (r ∷ rs)))

  -- right behind the parenthesis of a call an argument is read as any expression
  argument_place : (q : Part) → IsInner q → (s : List Pending) (rest : List Symbol)
      → outcome (Some (at place.Argument s)) (q.tokens ++ rest) ≡ outcome (Some (at place.Operand s)) (q.tokens ++ rest)
  argument_place q is s rest =
      let one = first_token q is in
      ap (λ l. outcome (Some (at place.Argument s)) (l ++ rest)) one.same
      ∙ ap (λ b. outcome (cond b (end_call s) (after (at place.Operand s) one.token)) (one.others ++ rest)) one.begins
      ∙ ap (λ l. outcome (Some (at place.Operand s)) (l ++ rest)) (sym one.same)

  arguments_place : (q : Part) (qs : List Part) → AllByRecursion IsInner (q ∷ qs) → (s : List Pending) (rest : List Symbol)
      → outcome (Some (at place.Argument s)) (arguments (q ∷ qs) ++ rest) ≡ outcome (Some (at place.Operand s)) (arguments (q ∷ qs) ++ rest)
  arguments_place q [] all s rest = argument_place q all.0 s rest
  arguments_place q (r ∷ rs) all s rest =
      let e = append_assoc q.tokens (symbol.Comma ∷ arguments (r ∷ rs)) rest in
      ap (outcome (Some (at place.Argument s))) e ∙ argument_place q all.0 s (symbol.Comma ∷ (arguments (r ∷ rs) ++ rest)) ∙ ap (outcome (Some (at place.Operand s))) (sym e)

  reads_call : (p : Part) → IsCall IsInner p → (s : List Pending) (rest : List Symbol)
      → outcome (Some (at place.Operand s)) (p.tokens ++ rest) ≡ outcome (Some (behind (whole p.tree) s)) rest
  reads_call p is s rest =
      ap (λ (w : Part). outcome (Some (at place.Operand s)) (w.tokens ++ rest)) is.whole_is
      ∙ go is.given is.given_are
      ∙ ap (λ (w : Part). outcome (Some (behind (whole w.tree) s)) rest) (sym is.whole_is)
    where
      go : (qs : List Part) → AllByRecursion IsInner qs
          → outcome (Some (at place.Operand s)) ((symbol.Callee is.function ∷ (symbol.Open ∷ (arguments qs ++ symbol.Close ∷ []))) ++ rest) ≡ outcome (Some (behind (whole (expr.Call is.function (trees qs))) s)) rest
      go [] all = refl
      go (q ∷ qs) all =
          let waits = pending.Call is.function [] ∷ s in
          ap (outcome (Some (at place.Argument waits))) (append_assoc (arguments (q ∷ qs)) (symbol.Close ∷ []) rest)
          ∙ arguments_place q qs all waits (symbol.Close ∷ rest)
          ∙ reads_arguments q qs all is.function [] s rest

  reads_primary : (p : Part) → IsPrimary IsInner p → (s : List Pending) (rest : List Symbol)
      → outcome (Some (at place.Operand s)) (p.tokens ++ rest) ≡ outcome (Some (behind (whole p.tree) s)) rest
  reads_primary p (inl (e, is)) s rest =
      ap (λ (w : Part). outcome (Some (at place.Operand s)) (w.tokens ++ rest)) is ∙ ap (λ (w : Part). outcome (Some (behind (whole w.tree) s)) rest) (sym is)
  reads_primary p (inr (inl is)) s rest = reads_group p is s rest
  reads_primary p (inr (inr is)) s rest = reads_call p is s rest

  -- a filter expression, whatever follows
  reads_filter : (p : Part) → (is : IsFilter IsInner p) → (s : List Pending) (rest : List Symbol)
      → outcome (Some (at place.Operand s)) (p.tokens ++ rest) ≡ outcome (Some (behind (operand.Primary is.plain.tree (trees is.predicates)) s)) rest
  reads_filter p is s rest =
      ap (λ (w : Part). outcome (Some (at place.Operand s)) (w.tokens ++ rest)) is.whole_is
      ∙ ap (outcome (Some (at place.Operand s))) (append_assoc is.plain.tokens (bracketed is.predicates) rest)
      ∙ reads_primary is.plain is.plain_is s (bracketed is.predicates ++ rest)
      ∙ reads_predicates IsInner reads is.predicates is.predicates_are is.plain.tree [] s rest

  filter_tree : (p : Part) → (is : IsFilter IsInner p) → filtered is.plain.tree (trees is.predicates) ≡ p.tree
  filter_tree p is = ap (λ (w : Part). w.tree) (sym is.whole_is)

  reads_path_from : (p : Part) → IsPathFrom IsInner p → (s : List Pending) (rest : List Symbol) → Follows 9 rest
      → outcome (Some (at place.Operand s)) (p.tokens ++ rest) ≡ outcome (Some (behind (whole p.tree) s)) rest
  reads_path_from p is s rest f =
      let base = is.from_is in
      let steps = steps_behind (is.first ∷ is.others) in
      ap (λ (w : Part). outcome (Some (at place.Operand s)) (w.tokens ++ rest)) is.whole_is
      ∙ ap (outcome (Some (at place.Operand s))) (append_assoc is.from.tokens (behind_slash (is.first ∷ is.others)) rest)
      ∙ reads_filter is.from base s (behind_slash (is.first ∷ is.others) ++ rest)
      ∙ reads_first_slash is.first is.others is.steps_are (operand.Primary base.plain.tree (trees base.predicates)) _ refl s rest f
      ∙ ap (λ e. outcome (Some (behind (whole (expr.Path (start.From e) steps)) s)) rest) (filter_tree is.from base)
      ∙ ap (λ (w : Part). outcome (Some (behind (whole w.tree) s)) rest) (sym is.whole_is)

  pub reads_path : Reads 9 (IsPath IsInner)
  reads_path p (inl is) s fits rest f = reads_relative p is s rest f
  reads_path p (inr (inl is)) s fits rest f =
      ap (λ (w : Part). outcome (Some (at place.Operand s)) (w.tokens ++ rest)) is
      ∙ same_tree operand.Root (whole (expr.Path start.Root [])) s refl 9 rest f
      ∙ ap (λ (w : Part). outcome (Some (behind (whole w.tree) s)) rest) (sym is)
  reads_path p (inr (inr (inl is))) s fits rest f = reads_absolute p is s rest f
  reads_path p (inr (inr (inr (inl is)))) s fits rest f =
      reads_filter p is s rest ∙ same_tree (operand.Primary is.plain.tree (trees is.predicates)) (whole p.tree) s (filter_tree p is) 9 rest f
  reads_path p (inr (inr (inr (inr is)))) s fits rest f = reads_path_from p is s rest f

  reads_or : Reads 1 (IsOr IsInner)
  reads_or =
      reads_chain level.Or 2 (omega arith) (IsAnd IsInner)
      (reads_chain level.And 3 (omega arith) (IsEquality IsInner)
      (reads_chain level.Equality 4 (omega arith) (IsRelational IsInner)
      (reads_chain level.Relational 5 (omega arith) (IsAdditive IsInner)
      (reads_chain level.Additive 6 (omega arith) (IsMultiplicative IsInner)
      (reads_chain level.Multiplicative 7 (omega arith) (IsUnary IsInner)
      (reads_signed (IsUnion IsInner)
      (reads_chain level.Union 9 (omega arith) (IsPath IsInner) reads_path)))))))

pub reads_expr_in : (depth : ℕ) → Reads 1 (IsExprIn depth)
unfolding IsExprIn
reads_expr_in zero p is s fits rest f = absurd is
reads_expr_in (suc depth) p is s fits rest f = reads_or (IsExprIn depth) (reads_expr_in depth) p is s fits rest f

-- the tokens of an expression lead to its tree
pub reads_expr : (tokens : List Symbol) (tree : Expr) → IsExpr tokens tree → outcome (Some beginning) tokens ≡ Some tree
reads_expr tokens tree (depth, is) = ap (outcome (Some beginning)) (sym (append-nil tokens)) ∙ reads_expr_in depth (part tokens tree) is [] tt [] tt

-- a list of tokens is at most one expression
pub one_expr : (tokens : List Symbol) (one other : Expr) → IsExpr tokens one → IsExpr tokens other → one ≡ other
one_expr tokens one other first second = let same : Some one ≡ Some other = sym (reads_expr tokens one first) ∙ reads_expr tokens other second in cc
