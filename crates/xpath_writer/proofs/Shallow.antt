-- What is written opens brackets no deeper than what was read.
use Rattle.std.proofs.Common.{◌≡◌, ◌≤◌, ◌<◌, ◌+◌, ◌-◌, ◌&&◌, ℕ, zero, suc, not, Bool, true, false, cond, nat_lt, List, [], ◌∷◌, ◌++◌, map, Option, Some, None, inl, inr, sym, refl, ap, ◌∙◌, subst, append_assoc, append-nil, arith, codes}
use Rattle.std.specs.List.{AllByRecursion}
use Rattle.serna_kinds.specs.Names.{NameParts, Space}
use Rattle.serna_kinds.specs.declared.expressions.Axis.{Axis}
use Rattle.serna_kinds.specs.declared.expressions.Axis.TheVariants as axis
use Rattle.serna_kinds.specs.declared.expressions.NodeTest.{NodeTest}
use Rattle.serna_kinds.specs.declared.expressions.NodeTest.TheVariants as test
use Rattle.xpath_trees.specs.declared.expr.ArithOp.TheVariants as arith_op
use Rattle.xpath_trees.specs.declared.expr.Expr.{Expr}
use Rattle.xpath_trees.specs.declared.expr.Expr.TheVariants as expr
use Rattle.xpath_trees.specs.declared.expr.PathStart.{PathStart}
use Rattle.xpath_trees.specs.declared.expr.PathStart.TheVariants as start
use Rattle.xpath_trees.specs.declared.expr.Step.{Step}
use Rattle.xpath_trees.specs.declared.expr.Signs.{Signs}
use Rattle.xpath_trees.specs.declared.expr.Signs.TheVariants as sign
use Rattle.xpath_tokens.specs.declared.symbol.Operator.{Operator}
use Rattle.xpath_tokens.specs.declared.symbol.Operator.TheVariants as operator
use Rattle.xpath_tokens.specs.declared.symbol.Symbol.{Symbol}
use Rattle.xpath_tokens.specs.declared.symbol.Symbol.TheVariants as symbol
use Rattle.xpath_grammar.specs.declared.operand.Level.{Level}
use Rattle.xpath_grammar.specs.declared.operand.Level.TheVariants as level
use Rattle.xpath_tokens.specs.declared.tokens.Kind.{Kind}
use Rattle.xpath_tokens.specs.declared.tokens.Kind.TheVariants as kind
use Rattle.xpath_machine.specs.Stops.{next_depth, IsShallowFrom, IsShallow}
use Rattle.xpath_tokens.specs.Symbols.{symbol_of}
use Rattle.xpath_grammar.specs.Trees.{level_of, rank, step_of, self_node, parent_node, any_descendant, signs_past, signed, filtered}
use Rattle.xpath_grammar.specs.Grammar.{Part, part, further, chain, IsChain, signs, IsSigned, Stepped, IsAxis, IsTest, bracketed, trees, IsStep, slash, behind_slash, steps_behind, AreSteps, arguments, IsPrimary, IsFilter, IsPath, IsUnion, IsUnary, IsMultiplicative, IsAdditive, IsRelational, IsEquality, IsAnd, IsOr, IsExprIn, IsExpr}
use Rattle.xpath_writer.specs.Writing.{Word, Written, WrittenStep, operand, joined, grouped, mark, mark_text, is_named, operator_kind, sign_words, is_empty, is_bare, short_or, short_for, axis_words, test_words, type_words, full_step, predicate_words, argument_words, steps_words, root_words, axis_text, function_text, shown_start, IsLeaf}
use Rattle.xpath_syntax.proofs.Arity.{all-append}
use Rattle.xpath_syntax.proofs.Levels.{AreAt}
use Rattle.xpath_writer.proofs.Rewritten.{sh, syms, syms-append, written_others, chain-shown, operator-read, less_true, AreLeaves}
use Rattle.xpath_writer.proofs.RewrittenPaths.{shs, short_is, short_bare, both_true, empty_is, wide_step, callee-read}
use Rattle.xpath_writer.proofs.Shown.{shown-step_of, shown-Path, shown-Filter, shown-Call, shown-Negate, shown-Context, shown-Root, shown-From}
use Rattle.xpath_parser.proofs.Soundness.{tier_of, rank-tier}

-- No `/` stands right before an operator's name

abbrev pub is_slash_in : Symbol → Bool
is_slash_in symbol.Slash = true
is_slash_in _ = false

abbrev pub is_named_in : Symbol → Bool
is_named_in (symbol.Operator op) = is_named (operator_kind op)
is_named_in _ = false

abbrev pub begins_named : List Symbol → Bool
begins_named [] = false
begins_named (s ∷ ss) = is_named_in s

abbrev pub Apart : List Symbol → Type 0
Apart [] = Unit {0}
Apart (s ∷ ss) = ((is_slash_in s && begins_named ss) ≡ false) × Apart ss

abbrev ends_slash : List Symbol → Bool
ends_slash [] = false
ends_slash (s ∷ []) = is_slash_in s
ends_slash (s ∷ t ∷ ts) = ends_slash (t ∷ ts)

apart_past : (a b : List Symbol) → Apart (a ++ b) → Apart b
apart_past [] b all = all
apart_past (x ∷ a) b all = apart_past a b all.1

apart_regrouped : (a b rest : List Symbol) → Apart ((a ++ b) ++ rest) → Apart (a ++ (b ++ rest))
apart_regrouped a b rest all = subst Apart (append_assoc a b rest) all

no_slash : (a : List Symbol) (op : Operator) (b : List Symbol) → is_named (operator_kind op) ≡ true → Apart (a ++ symbol.Operator op ∷ b) → ends_slash a ≡ false
no_slash [] op b named all = refl
no_slash (s ∷ []) op b named all = go (is_slash_in s) (sym (ap (λ v. is_slash_in s && v) named) ∙ all.0)
  where
    go : (v : Bool) → (v && true) ≡ false → v ≡ false
    go true e = e
    go false e = refl
no_slash (s ∷ t ∷ a) op b named all = no_slash (t ∷ a) op b named all.1

ends_behind : (a : List Symbol) (s : Symbol) (b : List Symbol) → ends_slash (a ++ s ∷ b) ≡ ends_slash (s ∷ b)
ends_behind [] s b = refl
ends_behind (x ∷ []) s b = refl
ends_behind (x ∷ y ∷ a) s b = ends_behind (y ∷ a) s b

ends_operator : (op : Operator) (b : List Symbol) → ends_slash (symbol.Operator op ∷ b) ≡ ends_slash b
ends_operator op [] = refl
ends_operator op (t ∷ ts) = refl

ends_signs : (n : ℕ) (ts : List Symbol) → ends_slash (signs n ++ ts) ≡ ends_slash ts
ends_signs zero ts = refl
ends_signs (suc n) ts = ends_operator (operator.Arith arith_op.Subtract) (signs n ++ ts) ∙ ends_signs n ts

-- a root alone at the end is not in parentheses of its own where no more brackets are allowed
abbrev May : ℕ → Bool → List Symbol → Type 0
May k before ts = before ≡ true → k ≡ 0 → ends_slash ts ≡ false

may_false : (k : ℕ) (ts : List Symbol) → May k false ts
may_false k ts e = cc

may_more : (k : ℕ) (before : Bool) (ts : List Symbol) → May (suc k) before ts
may_more k before ts e f = absurd (omega (arith, f))

-- a token that opens and closes nothing
abbrev IsFlat : Symbol → Type 0
IsFlat s = (d : ℕ) → next_depth d s ≡ d

module _ (spaces : List Space) (names : List NameParts) where
  -- Where these tokens are read in so many brackets, the words can stand in fewer.
  abbrev pub Lower : ℕ → List Symbol → List Word → Type 0
  Lower k read words = (d e : ℕ) (rest other : List Symbol) → e + k ≤ d → (IsShallowFrom d rest → IsShallowFrom e other) → IsShallowFrom d (read ++ rest) → IsShallowFrom e (syms spaces names words ++ other)

  low_none : (k : ℕ) → Lower k [] []
  low_none k d e rest other le f s = f s

  low_seq : (k : ℕ) (a b : List Symbol) (v w : List Word) → Lower k a v → Lower k b w → Lower k (a ++ b) (v ++ w)
  low_seq k a b v w one two d e rest other le f s =
      subst (IsShallowFrom e) (sym (ap (λ l. l ++ other) (syms-append spaces names v w) ∙ append_assoc (syms spaces names v) (syms spaces names w) other))
      (one d e (b ++ rest) (syms spaces names w ++ other) le (two d e rest other le f) (subst (IsShallowFrom d) (append_assoc a b rest) s))

  low_flat : (k : ℕ) (s : Symbol) (w : Word) → IsFlat s → IsFlat (symbol_of spaces names w.0 w.1) → Lower k (s ∷ []) (w ∷ [])
  low_flat k s w one two d e rest other le f shallow =
      let low : d ≤ 64 = subst (λ n. n ≤ 64) (one d) shallow.0 in
      let more : IsShallowFrom d rest = subst (λ n. IsShallowFrom n rest) (one d) shallow.1 in
      let here : e ≤ 64 = omega arith in
      (subst (λ n. n ≤ 64) (sym (two e)) here, subst (λ n. IsShallowFrom n other) (sym (two e)) (f more))

  low_cons : (k : ℕ) (s : Symbol) (w : Word) (a : List Symbol) (v : List Word) → IsFlat s → IsFlat (symbol_of spaces names w.0 w.1) → Lower k a v → Lower k (s ∷ a) (w ∷ v)
  low_cons k s w a v one two rest = low_seq k (s ∷ []) a (w ∷ []) v (low_flat k s w one two) rest

  low_grouped : (k : ℕ) (a : List Symbol) (w : List Word) → Lower k a w → Lower k (symbol.Open ∷ (a ++ symbol.Close ∷ [])) (grouped w)
  low_grouped k a w is d e rest other le f s =
      let here : suc e ≤ 64 = omega (arith, s.0) in
      let less : e ≤ 64 = omega (arith, s.0) in (
        here,
        subst (IsShallowFrom (suc e)) (sym (ap (λ l. l ++ other) (syms-append spaces names w (mark kind.Close ∷ [])) ∙ append_assoc (syms spaces names w) (symbol.Close ∷ []) other))
            (is (suc d) (suc e) (symbol.Close ∷ rest) (symbol.Close ∷ other) (omega arith) (λ t. (less, f t.1)) (subst (IsShallowFrom (suc d)) (append_assoc a (symbol.Close ∷ []) rest) s.1)),
      )

  -- a pair of parentheses that is left out
  low_ungrouped : (k : ℕ) (a : List Symbol) (w : List Word) → Lower (suc k) a w → Lower k (symbol.Open ∷ (a ++ symbol.Close ∷ [])) w
  low_ungrouped k a w is d e rest other le f s = is (suc d) e (symbol.Close ∷ rest) other (omega arith) (λ t. f t.1) (subst (IsShallowFrom (suc d)) (append_assoc a (symbol.Close ∷ []) rest) s.1)

  low_bracketed : (k : ℕ) (a b : List Symbol) (v w : List Word) → Lower k a v → Lower k b w → Lower k (symbol.OpenBracket ∷ (a ++ symbol.CloseBracket ∷ b)) (mark kind.OpenBracket ∷ (v ++ mark kind.CloseBracket ∷ w))
  low_bracketed k a b v w is more d e rest other le f s =
      let here : suc e ≤ 64 = omega (arith, s.0) in
      let less : e ≤ 64 = omega (arith, s.0) in (
        here,
        subst (IsShallowFrom (suc e)) (sym (ap (λ l. l ++ other) (syms-append spaces names v (mark kind.CloseBracket ∷ w)) ∙ append_assoc (syms spaces names v) (symbol.CloseBracket ∷ syms spaces names w) other))
            (is (suc d) (suc e) (symbol.CloseBracket ∷ (b ++ rest)) (symbol.CloseBracket ∷ (syms spaces names w ++ other)) (omega arith) (λ t. (less, more d e rest other le f t.1)) (subst (IsShallowFrom (suc d)) (append_assoc a (symbol.CloseBracket ∷ b) rest) s.1)),
      )

  -- words that are these very symbols
  low_same : (k : ℕ) (ts : List Symbol) (w : List Word) → syms spaces names w ≡ ts → ((d e : ℕ) (rest other : List Symbol) → e + k ≤ d → (IsShallowFrom d rest → IsShallowFrom e other) → IsShallowFrom d (ts ++ rest) → IsShallowFrom e (ts ++ other)) → Lower k ts w
  low_same k ts w same is d e rest other le f s = subst (λ l. IsShallowFrom e (l ++ other)) (sym same) (is d e rest other le f s)

  -- Parts of expressions

  pub record Kept (m : ℕ) (p : Part) : Type 0 where
    pub low : (k : ℕ) (before : Bool) → May k before p.tokens → Lower k p.tokens ((sh spaces names p.tree).words before)
    pub group : (k : ℕ) → (sh spaces names p.tree).rank < 11 - m → Lower k p.tokens (grouped ((sh spaces names p.tree).words false))

  abbrev Keeps : ℕ → (Part → Type 0) → Type 0
  Keeps m Is = (q : Part) → Is q → AreLeaves spaces names q.tokens → (rest : List Symbol) → Apart (q.tokens ++ rest) → Kept m q

  looser_kept : (m n : ℕ) → m ≤ n → (p : Part) → Kept m p → Kept n p
  looser_kept m n le p is = record { low = is.low; group = λ k lt. is.group k (omega arith) }

  -- a part whose rank is high enough
  tight : (m : ℕ) (p : Part) → 11 - m ≤ (sh spaces names p.tree).rank → ((k : ℕ) (before : Bool) → May k before p.tokens → Lower k p.tokens ((sh spaces names p.tree).words before)) → Kept m p
  tight m p le is = record { low = is; group = λ k lt. absurd (omega arith) }

  operand_low : (m : ℕ) (p : Part) → Kept m p → (k : ℕ) (before : Bool) → May k before p.tokens → Lower k p.tokens (operand (11 - m) before (sh spaces names p.tree))
  operand_low m p is k before may = go (nat_lt (sh spaces names p.tree).rank (11 - m)) refl
    where
      go : (v : Bool) → nat_lt (sh spaces names p.tree).rank (11 - m) ≡ v → Lower k p.tokens (cond v (grouped ((sh spaces names p.tree).words false)) ((sh spaces names p.tree).words before))
      go true e = is.group k (less_true spaces names (sh spaces names p.tree).rank (11 - m) e)
      go false e = is.low k before may

  -- Chains

  operator_flat : (op : Operator) → IsFlat (symbol_of spaces names (operator_kind op) (mark_text (operator_kind op)))
  operator_flat op d = ap (next_depth d) (operator-read spaces names op)

  joined_low : (m k : ℕ) (before : Bool) (first : Part) (xs : List (Operator × Part)) → Kept m first → AllByRecursion (λ x. Kept m x.1) xs → (rest : List Symbol) → Apart ((first.tokens ++ further xs) ++ rest)
      → May k before (first.tokens ++ further xs) → Lower k (first.tokens ++ further xs) (joined (11 - m) before (sh spaces names first.tree) (written_others spaces names xs))
  joined_low m k before first [] is all rest apart may =
      low_seq k first.tokens [] (operand (11 - m) before (sh spaces names first.tree)) [] (operand_low m first is k before (subst (May k before) (append-nil first.tokens) may)) (low_none k)
  joined_low m k before first (x ∷ xs) is all rest apart may =
      let flag = is_named (operator_kind x.0) in
      let left = x.1.tokens ++ further xs in
      let words = joined (11 - m) before (sh spaces names x.1.tree) (written_others spaces names xs) in
      let here = apart_regrouped first.tokens (symbol.Operator x.0 ∷ left) rest apart in
      let past = apart_past first.tokens ((symbol.Operator x.0 ∷ left) ++ rest) here in
      let end : ends_slash (first.tokens ++ symbol.Operator x.0 ∷ left) ≡ ends_slash left = ends_behind first.tokens (symbol.Operator x.0) left ∙ ends_operator x.0 left in
      low_seq k first.tokens (symbol.Operator x.0 ∷ left) (operand (11 - m) flag (sh spaces names first.tree)) (mark (operator_kind x.0) ∷ words) (operand_low m first is k flag (λ named zero. no_slash first.tokens x.0 (left ++ rest) named here))
      (low_cons k (symbol.Operator x.0) (mark (operator_kind x.0)) left words (λ d. refl) (operator_flat x.0) (joined_low m k before x.1 xs all.0 all.1 rest past.1 (λ b z. sym end ∙ may b z)))

  others_kept : (l : Level) (m : ℕ) (Is : Part → Type 0) → Keeps m Is → (xs : List (Operator × Part)) → AllByRecursion (λ x. (level_of x.0 ≡ l) × Is x.1) xs → AreLeaves spaces names (further xs) → (rest : List Symbol)
      → Apart (further xs ++ rest) → AreAt l xs × AllByRecursion (λ x. Kept m x.1) xs
  others_kept l m Is keeps [] all leaves rest apart = (tt, tt)
  others_kept l m Is keeps (x ∷ xs) all leaves rest apart =
      let parts = all-append (IsLeaf spaces names) x.1.tokens (further xs) leaves.1 in
      let own = apart_regrouped x.1.tokens (further xs) rest apart.1 in
      let behind = others_kept l m Is keeps xs all.1 parts.1 rest (apart_past x.1.tokens (further xs ++ rest) own) in
      ((all.0.0, behind.0), (keeps x.1 all.0.1 parts.0 (further xs ++ rest) own, behind.1))

  chain_kept : (l : Level) (Is : Part → Type 0) → Keeps (suc (suc (tier_of l))) Is → Keeps (suc (suc (suc (tier_of l)))) (IsChain l Is)
  chain_kept l Is keeps p is leaves rest apart = go is.others is.others_are is.whole_is
    where
      m : ℕ
      m = suc (suc (tier_of l))

      go : (xs : List (Operator × Part)) → AllByRecursion (λ x. (level_of x.0 ≡ l) × Is x.1) xs → p ≡ chain l is.first xs → Kept (suc m) p
      go [] all whole =
          let own : AreLeaves spaces names is.first.tokens = subst (λ (q : Part). AreLeaves spaces names q.tokens) whole leaves in
          let has : Apart (is.first.tokens ++ rest) = subst (λ (q : Part). Apart (q.tokens ++ rest)) whole apart in
          subst (Kept (suc m)) (sym whole) (looser_kept m (suc m) (omega arith) is.first (keeps is.first is.first_is own rest has))
      go (x ∷ xs) all whole =
          let own : AreLeaves spaces names (is.first.tokens ++ further (x ∷ xs)) = subst (λ (q : Part). AreLeaves spaces names q.tokens) whole leaves in
          let has : Apart ((is.first.tokens ++ further (x ∷ xs)) ++ rest) = subst (λ (q : Part). Apart (q.tokens ++ rest)) whole apart in
          let parts = all-append (IsLeaf spaces names) is.first.tokens (further (x ∷ xs)) own in
          let here = apart_regrouped is.first.tokens (further (x ∷ xs)) rest has in
          let first = keeps is.first is.first_is parts.0 (further (x ∷ xs) ++ rest) here in
          let others = others_kept l m Is keeps (x ∷ xs) all parts.1 rest (apart_past is.first.tokens (further (x ∷ xs) ++ rest) here) in
          let shows = chain-shown spaces names l is.first.tree x xs others.0 in
          let ranks = ap (λ (w : Written). w.rank) shows in
          let same : 11 - m ≡ rank l + 1 = omega (arith, rank-tier l) in
          subst (Kept (suc m)) (sym whole) (tight (suc m) (chain l is.first (x ∷ xs)) (omega (arith, ranks, rank-tier l)) (λ k before may.
          subst (λ (w : Written). Lower k (is.first.tokens ++ further (x ∷ xs)) (w.words before)) (sym shows)
          (subst (λ n. Lower k (is.first.tokens ++ further (x ∷ xs)) (joined n before (sh spaces names is.first.tree) (written_others spaces names (x ∷ xs)))) same
          (joined_low m k before is.first (x ∷ xs) first others.1 rest has may))))

  -- Signs

  strip_signs : (n d : ℕ) (rest : List Symbol) → IsShallowFrom d (signs n ++ rest) → IsShallowFrom d rest
  strip_signs zero d rest s = s
  strip_signs (suc n) d rest s = strip_signs n d rest s.1

  signs_low : (n k : ℕ) (minus : Signs) → Lower k (signs (suc n)) (sign_words minus)
  signs_low n k sign.Twice d e rest other le f s = let here : e ≤ 64 = omega (arith, s.0) in (here, (here, f (strip_signs n d rest s.1)))
  signs_low n k sign.Once d e rest other le f s = let here : e ≤ 64 = omega (arith, s.0) in (here, f (strip_signs n d rest s.1))

  signed_kept : (Is : Part → Type 0) → Keeps 3 Is → Keeps 4 (IsSigned Is)
  signed_kept Is keeps p is leaves rest apart = subst (Kept 4) (sym is.whole_is) (go is.count)
    where
      own : AreLeaves spaces names (signs is.count ++ is.plain.tokens)
      own = subst (λ (q : Part). AreLeaves spaces names q.tokens) is.whole_is leaves

      has : Apart ((signs is.count ++ is.plain.tokens) ++ rest)
      has = subst (λ (q : Part). Apart (q.tokens ++ rest)) is.whole_is apart

      plain : Kept 3 is.plain
      plain =
          keeps is.plain is.plain_is (all-append (IsLeaf spaces names) (signs is.count) is.plain.tokens own).1 rest
          (apart_past (signs is.count) (is.plain.tokens ++ rest) (apart_regrouped (signs is.count) is.plain.tokens rest has))

      go : (n : ℕ) → Kept 4 (part (signs n ++ is.plain.tokens) (signed n is.plain.tree))
      go zero = looser_kept 3 4 (omega arith) is.plain plain
      go (suc n) =
          let shows = shown-Negate spaces names (signs_past n) is.plain.tree in
          tight 4 (part (signs (suc n) ++ is.plain.tokens) (signed (suc n) is.plain.tree)) (omega (arith, ap (λ (w : Written). w.rank) shows)) (λ k before may.
          subst (λ (w : Written). Lower k (signs (suc n) ++ is.plain.tokens) (w.words before)) (sym shows)
          (low_seq k (signs (suc n)) is.plain.tokens (sign_words (signs_past n)) (operand 8 before (sh spaces names is.plain.tree)) (signs_low n k (signs_past n)) (operand_low 3 is.plain plain k before (λ b z. sym (ends_signs (suc n) is.plain.tokens) ∙ may b z))))

  -- What stands in brackets

  abbrev Inside : Part → Type 0
  Inside q = (k : ℕ) → Lower k q.tokens ((sh spaces names q.tree).words false)

  predicates_low : (k : ℕ) (ps : List Part) → AllByRecursion Inside ps → Lower k (bracketed ps) (predicate_words (map (sh spaces names) (trees ps)))
  predicates_low k [] all = low_none k
  predicates_low k (p ∷ ps) all = low_bracketed k p.tokens (bracketed ps) ((sh spaces names p.tree).words false) (predicate_words (map (sh spaces names) (trees ps))) (all.0 k) (predicates_low k ps all.1)

  arguments_low : (k : ℕ) (ps : List Part) → AllByRecursion Inside ps → Lower k (arguments ps) (argument_words (map (sh spaces names) (trees ps)))
  arguments_low k [] all = low_none k
  arguments_low k (p ∷ []) all = subst (λ l. Lower k l ((sh spaces names p.tree).words false ++ [])) (append-nil p.tokens) (low_seq k p.tokens [] ((sh spaces names p.tree).words false) [] (all.0 k) (low_none k))
  arguments_low k (p ∷ q ∷ ps) all =
      low_seq k p.tokens (symbol.Comma ∷ arguments (q ∷ ps)) ((sh spaces names p.tree).words false) (mark kind.Comma ∷ argument_words (map (sh spaces names) (trees (q ∷ ps)))) (all.0 k)
      (low_cons k symbol.Comma (mark kind.Comma) (arguments (q ∷ ps)) (argument_words (map (sh spaces names) (trees (q ∷ ps)))) (λ d. refl) (λ d. refl) (arguments_low k (q ∷ ps) all.1))

  -- Steps

  abbrev StepLow : Stepped → Type 0
  StepLow x = (k : ℕ) → Lower k x.tokens (shs spaces names x.step).words

  axis_low : (k : ℕ) (ts : List Symbol) (on : Axis) → IsAxis ts on → Lower k ts (axis_words on)
  axis_low k ts on (inl e) = subst (λ l. Lower k l (axis_words on)) (sym e) (written_out on)
    where
      written_out : (a : Axis) → Lower k (symbol.AxisName a ∷ symbol.Colons ∷ []) (axis_words a)
      written_out axis.Child d e rest other le f s = f s.1.1
      written_out axis.Attribute d e rest other le f s = let here : e ≤ 64 = omega (arith, s.0) in (here, f s.1.1)
      written_out a d e rest other le f s = let here : e ≤ 64 = omega (arith, s.0) in (here, (here, f s.1.1))
  axis_low k ts on (inr (inl e)) = subst (λ a. Lower k ts (axis_words a)) (sym e.1) (subst (λ l. Lower k l (mark kind.At ∷ [])) (sym e.0) (low_flat k symbol.At (mark kind.At) (λ d. refl) (λ d. refl)))
  axis_low k ts on (inr (inr e)) = subst (λ a. Lower k ts (axis_words a)) (sym e.1) (subst (λ l. Lower k l []) (sym e.0) (low_none k))

  axis_left : (k : ℕ) (ts : List Symbol) (on : Axis) → IsAxis ts on → Lower k ts []
  axis_left k ts on (inl e) = subst (λ l. Lower k l []) (sym e) (λ d e rest other le f s. f s.1.1)
  axis_left k ts on (inr (inl e)) = subst (λ l. Lower k l []) (sym e.0) (λ d e rest other le f s. f s.1)
  axis_left k ts on (inr (inr e)) = subst (λ l. Lower k l []) (sym e.0) (low_none k)

  test_low : (k : ℕ) (ts : List Symbol) (t : NodeTest) → IsTest ts t → AreLeaves spaces names ts → Lower k ts (test_words spaces names t)
  test_low k ts t (inl e) leaves =
      subst (λ l. Lower k l (test_words spaces names t)) (sym e)
      (low_same k (symbol.Test t ∷ []) (test_words spaces names t) (subst (AreLeaves spaces names) e leaves).0.0 (λ d e rest other le f s. let here : e ≤ 64 = omega (arith, s.0) in (here, f s.1)))
  test_low k ts t (inr e) leaves =
      subst (λ l. Lower k l (test_words spaces names t)) (sym e)
      (low_same k (symbol.NodeType t ∷ symbol.Open ∷ symbol.Close ∷ []) (test_words spaces names t) (subst (AreLeaves spaces names) e leaves).0.0
      (λ d e rest other le f s. let here : e ≤ 64 = omega (arith, s.0) in let deep : suc e ≤ 64 = omega (arith, s.1.0) in (here, (deep, (here, f s.1.1.1)))))

  -- a test with nothing behind it, for which one word stands
  test_short : (k : ℕ) (ts : List Symbol) (t : NodeTest) (w : Word) → IsTest ts t → IsFlat (symbol_of spaces names w.0 w.1) → Lower k ts (w ∷ [])
  test_short k ts t w (inl e) flat = subst (λ l. Lower k l (w ∷ [])) (sym e) (low_flat k (symbol.Test t) w (λ d. refl) flat)
  test_short k ts t w (inr e) flat =
      subst (λ l. Lower k l (w ∷ [])) (sym e) (λ d e rest other le f s.
      let here : e ≤ 64 = omega (arith, s.0) in
      (subst (λ n. n ≤ 64) (sym (flat e)) here, subst (λ n. IsShallowFrom n other) (sym (flat e)) (f s.1.1.1)))

  none_left : (ps : List Part) → map (sh spaces names) (trees ps) ≡ [] → bracketed ps ≡ []
  none_left [] e = refl
  none_left (p ∷ ps) e = cc

  full_low : (k : ℕ) (axes tests : List Symbol) (on : Axis) (t : NodeTest) (ps : List Part) → IsAxis axes on → IsTest tests t → AreLeaves spaces names tests → AllByRecursion Inside ps
      → Lower k (axes ++ (tests ++ bracketed ps)) (shs spaces names (step_of on t (trees ps))).words
  full_low k axes tests on t ps axis_is test_is leaves all =
      subst (λ (w : WrittenStep). Lower k (axes ++ (tests ++ bracketed ps)) w.words) (sym (shown-step_of spaces names on t (trees ps))) (go (short_for on (is_bare t es)) refl)
    where
      es : List Written
      es = map (sh spaces names) (trees ps)

      short : (x : Kind) → IsFlat (symbol_of spaces names x (mark_text x)) → bracketed ps ≡ [] → Lower k (axes ++ (tests ++ bracketed ps)) (mark x ∷ [])
      short x flat none =
          subst (λ l. Lower k (axes ++ (tests ++ l)) (mark x ∷ [])) (sym none)
          (low_seq k axes (tests ++ []) [] (mark x ∷ []) (axis_left k axes on axis_is) (low_seq k tests [] (mark x ∷ []) [] (test_short k tests t (mark x) test_is flat) (low_none k)))

      go : (o : Option Kind) → short_for on (is_bare t es) ≡ o → Lower k (axes ++ (tests ++ bracketed ps)) (short_or (full_step spaces names on t es) o)
      go None e =
          low_seq k axes (tests ++ bracketed ps) (axis_words on) (test_words spaces names t ++ predicate_words es) (axis_low k axes on axis_is)
          (low_seq k tests (bracketed ps) (test_words spaces names t) (predicate_words es) (test_low k tests t test_is leaves) (predicates_low k ps all))
      go (Some x) e =
          let bare = short_bare on (is_bare t es) x e in
          let none = none_left ps (empty_is es (both_true _ (is_empty es) bare.0).1) in
          elim (short_is on x bare.1) [
            | inl h ↦ subst (λ y. Lower k (axes ++ (tests ++ bracketed ps)) (mark y ∷ [])) (sym h.0) (short kind.Dot (λ d. refl) none)
            | inr h ↦ subst (λ y. Lower k (axes ++ (tests ++ bracketed ps)) (mark y ∷ [])) (sym h.0) (short kind.DotDot (λ d. refl) none)
          ]

  dot_low : StepLow (record { tokens = symbol.Dot ∷ []; step = self_node })
  dot_low k = subst (λ (w : WrittenStep). Lower k (symbol.Dot ∷ []) w.words) (sym (shown-step_of spaces names axis.Itself test.AnyNode [])) (low_flat k symbol.Dot (mark kind.Dot) (λ d. refl) (λ d. refl))

  dots_low : StepLow (record { tokens = symbol.DotDot ∷ []; step = parent_node })
  dots_low k = subst (λ (w : WrittenStep). Lower k (symbol.DotDot ∷ []) w.words) (sym (shown-step_of spaces names axis.Parent test.AnyNode [])) (low_flat k symbol.DotDot (mark kind.DotDot) (λ d. refl) (λ d. refl))

  -- `descendant-or-self::node()`, written out

  abbrev any_words : List Word
  any_words = (kind.AxisName, axis_text axis.DescendantOrSelf) ∷ mark kind.Colons ∷ type_words (codes "node")

  any_shown : shs spaces names any_descendant ≡ record { words = any_words; is_wide = true }
  any_shown = shown-step_of spaces names axis.DescendantOrSelf test.AnyNode []

  any_low : (x : Stepped) → StepLow x → x.step ≡ any_descendant → (k : ℕ) → Lower k x.tokens any_words
  any_low x is e k = subst (λ (w : WrittenStep). Lower k x.tokens w.words) (ap (shs spaces names) e ∙ any_shown) (is k)

  any_left : (x : Stepped) → StepLow x → x.step ≡ any_descendant → (d : ℕ) (rest : List Symbol) → IsShallowFrom d (x.tokens ++ rest) → IsShallowFrom d rest
  any_left x is e d rest s = (any_low x is e 0 d d rest rest (omega arith) (λ t. t) s).1.1.1.1.1

  -- Steps behind slashes

  abbrev later_words : List (Bool × Stepped) → List Word
  later_words xs = steps_words (Some kind.Slash) (map (shs spaces names) (steps_behind xs))

  abbrev Later : List (Bool × Stepped) → Type 0
  Later xs = (k : ℕ) → Lower k (behind_slash xs) (later_words xs)

  -- a step behind a slash or two, where a `/` is to be written
  abbrev Next : Bool → Stepped → List (Bool × Stepped) → Type 0
  Next b x xs = (k : ℕ) → Lower k (slash b ∷ (x.tokens ++ behind_slash xs)) (steps_words (Some kind.Slash) (map (shs spaces names) (x.step ∷ steps_behind xs)))

  -- the same behind a step that is left out, where a `//` is to be written
  abbrev Skipped : Bool → Stepped → List (Bool × Stepped) → Type 0
  Skipped b x xs = (k : ℕ) → Lower k (slash b ∷ (x.tokens ++ behind_slash xs)) (steps_words (Some kind.DoubleSlash) (map (shs spaces names) (steps_behind xs)))

  slash_flat : (b : Bool) → IsFlat (slash b)
  slash_flat true d = refl
  slash_flat false d = refl

  double_later : (x : Stepped) (xs : List (Bool × Stepped)) → StepLow x → Later xs → Later ((true, x) ∷ xs)
  double_later x xs is later k =
      let rest = map (shs spaces names) (steps_behind xs) in
      let skips : later_words ((true, x) ∷ xs) ≡ mark kind.DoubleSlash ∷ ((shs spaces names x.step).words ++ later_words xs) = ap (λ (w : WrittenStep). steps_words (Some kind.Slash) (w ∷ shs spaces names x.step ∷ rest)) any_shown in
      subst (Lower k (symbol.DoubleSlash ∷ (x.tokens ++ behind_slash xs))) (sym skips)
      (low_cons k symbol.DoubleSlash (mark kind.DoubleSlash) (x.tokens ++ behind_slash xs) ((shs spaces names x.step).words ++ later_words xs) (λ d. refl) (λ d. refl)
      (low_seq k x.tokens (behind_slash xs) (shs spaces names x.step).words (later_words xs) (is k) (later k)))

  skipped_step : (b : Bool) (a x : Stepped) (xs : List (Bool × Stepped)) → StepLow a → a.step ≡ any_descendant → StepLow x → Later xs → Skipped b a ((false, x) ∷ xs)
  skipped_step b a x xs low any is later k =
      low_cons k (slash b) (mark kind.DoubleSlash) (a.tokens ++ (symbol.Slash ∷ (x.tokens ++ behind_slash xs))) ((shs spaces names x.step).words ++ later_words xs) (slash_flat b) (λ d. refl) (λ d e rest other le f s.
      let past = any_left a low any d ((symbol.Slash ∷ (x.tokens ++ behind_slash xs)) ++ rest) (subst (IsShallowFrom d) (append_assoc a.tokens (symbol.Slash ∷ (x.tokens ++ behind_slash xs)) rest) s) in
      low_seq k x.tokens (behind_slash xs) (shs spaces names x.step).words (later_words xs) (is k) (later k) d e rest other le f past.1)

  skipped_double : (b : Bool) (a x : Stepped) (xs : List (Bool × Stepped)) → StepLow a → a.step ≡ any_descendant → Next true x xs → Skipped b a ((true, x) ∷ xs)
  skipped_double b a x xs low any next k =
      let words = steps_words (Some kind.Slash) (map (shs spaces names) (x.step ∷ steps_behind xs)) in
      subst (λ (w : WrittenStep). Lower k (slash b ∷ (a.tokens ++ (symbol.DoubleSlash ∷ (x.tokens ++ behind_slash xs)))) (mark kind.DoubleSlash ∷ (w.words ++ words))) (sym any_shown)
      (low_cons k (slash b) (mark kind.DoubleSlash) (a.tokens ++ (symbol.DoubleSlash ∷ (x.tokens ++ behind_slash xs))) (any_words ++ words) (slash_flat b) (λ d. refl)
      (low_seq k a.tokens (symbol.DoubleSlash ∷ (x.tokens ++ behind_slash xs)) any_words words (any_low a low any k) (next k)))

  next_step : (b : Bool) (x : Stepped) (xs : List (Bool × Stepped)) → StepLow x → Later xs → (x.step ≡ any_descendant → not (is_empty (map (shs spaces names) (steps_behind xs))) ≡ true → Skipped b x xs) → Next b x xs
  next_step b x xs is later skipped k = go ((shs spaces names x.step).is_wide && not (is_empty (map (shs spaces names) (steps_behind xs)))) refl
    where
      go : (v : Bool) → ((shs spaces names x.step).is_wide && not (is_empty (map (shs spaces names) (steps_behind xs)))) ≡ v
          → Lower k (slash b ∷ (x.tokens ++ behind_slash xs)) (cond v (steps_words (Some kind.DoubleSlash) (map (shs spaces names) (steps_behind xs))) (mark kind.Slash ∷ ((shs spaces names x.step).words ++ later_words xs)))
      go true e = let both = both_true (shs spaces names x.step).is_wide (not (is_empty (map (shs spaces names) (steps_behind xs)))) e in skipped (wide_step spaces names x.step both.0) both.1 k
      go false e =
          low_cons k (slash b) (mark kind.Slash) (x.tokens ++ behind_slash xs) ((shs spaces names x.step).words ++ later_words xs) (slash_flat b) (λ d. refl)
          (low_seq k x.tokens (behind_slash xs) (shs spaces names x.step).words (later_words xs) (is k) (later k))

  record Followed (xs : List (Bool × Stepped)) : Type 0 where
    later : Later xs
    next : (b : Bool) (x : Stepped) → StepLow x → Next b x xs

  followed : (xs : List (Bool × Stepped)) → AllByRecursion (λ x. StepLow x.1) xs → Followed xs
  followed [] all = record { later = low_none; next = λ b x is. next_step b x [] is low_none (λ any e. absurd (nothing e)) }
    where
      nothing : false ≡ true → ⊥
      nothing e = cc
  followed ((true, y) ∷ ys) all =
      let behind = followed ys all.1 in
      let later = double_later y ys all.0 behind.later in
      record { later = later; next = λ b x is. next_step b x ((true, y) ∷ ys) is later (λ any e. skipped_double b x y ys is any (behind.next true y all.0)) }
  followed ((false, y) ∷ ys) all =
      let behind = followed ys all.1 in
      let later = behind.next false y all.0 in
      record { later = later; next = λ b x is. next_step b x ((false, y) ∷ ys) is later (λ any e. skipped_step b x y ys is any all.0 behind.later) }

  -- Paths

  path_words : (from : PathStart) (words : Bool → List WrittenStep → List Word) (steps : List Step) → shown_start spaces names from ≡ words
      → sh spaces names (expr.Path from steps) ≡ record { rank = 9; words = λ before. words before (map (shs spaces names) steps) }
  path_words from words steps e = shown-Path spaces names from steps ∙ ap (λ (f : Bool → List WrittenStep → List Word). path_of f) e
    where
      path_of : (Bool → List WrittenStep → List Word) → Written
      path_of f = record { rank = 9; words = λ before. f before (map (shs spaces names) steps) }

  path_kept : (ts : List Symbol) (from : PathStart) (words : Bool → List WrittenStep → List Word) (steps : List Step) → shown_start spaces names from ≡ words
      → ((k : ℕ) (before : Bool) → May k before ts → Lower k ts (words before (map (shs spaces names) steps))) → Kept 2 (part ts (expr.Path from steps))
  path_kept ts from words steps e is =
      let shows = path_words from words steps e in
      tight 2 (part ts (expr.Path from steps)) (omega (arith, ap (λ (w : Written). w.rank) shows)) (λ k before may. subst (λ (w : Written). Lower k ts (w.words before)) (sym shows) (is k before may))

  root_low : (k : ℕ) (before : Bool) → May k before (symbol.Slash ∷ []) → Lower k (symbol.Slash ∷ []) (root_words before)
  root_low k false may d e rest other le f s = low_flat k symbol.Slash (mark kind.Slash) (λ d. refl) (λ d. refl) d e rest other le f s
  root_low zero true may d e rest other le f s = absurd (no_end (may refl refl))
    where
      no_end : true ≡ false → ⊥
      no_end e = cc
  root_low (suc k) true may d e rest other le f s =
      let deep : suc e ≤ 64 = omega (arith, s.0, le) in
      let here : e ≤ 64 = omega (arith, s.0, le) in (deep, (deep, (here, f s.1)))

  module _ (I : Part → Type 0) (inner : Keeps 10 I) where
    bracketed_kept : (ps : List Part) → AllByRecursion I ps → AreLeaves spaces names (bracketed ps) → (rest : List Symbol) → Apart (bracketed ps ++ rest) → AllByRecursion Inside ps
    bracketed_kept [] all leaves rest apart = tt
    bracketed_kept (p ∷ ps) all leaves rest apart =
        let behind = symbol.CloseBracket ∷ bracketed ps in
        let parts = all-append (IsLeaf spaces names) p.tokens behind leaves.1 in
        let own = apart_regrouped p.tokens behind rest apart.1 in
        (λ k. (inner p all.0 parts.0 (behind ++ rest) own).low k false (may_false k p.tokens), bracketed_kept ps all.1 parts.1.1 rest (apart_past p.tokens (behind ++ rest) own).1)

    arguments_kept : (ps : List Part) → AllByRecursion I ps → AreLeaves spaces names (arguments ps) → (rest : List Symbol) → Apart (arguments ps ++ rest) → AllByRecursion Inside ps
    arguments_kept [] all leaves rest apart = tt
    arguments_kept (p ∷ []) all leaves rest apart = (λ k. (inner p all.0 leaves rest apart).low k false (may_false k p.tokens), tt)
    arguments_kept (p ∷ q ∷ ps) all leaves rest apart =
        let behind = symbol.Comma ∷ arguments (q ∷ ps) in
        let parts = all-append (IsLeaf spaces names) p.tokens behind leaves in
        let own = apart_regrouped p.tokens behind rest apart in
        (λ k. (inner p all.0 parts.0 (behind ++ rest) own).low k false (may_false k p.tokens), arguments_kept (q ∷ ps) all.1 parts.1.1 rest (apart_past p.tokens (behind ++ rest) own).1)

    step_low : (s : Stepped) → IsStep I s → AreLeaves spaces names s.tokens → (rest : List Symbol) → Apart (s.tokens ++ rest) → StepLow s
    step_low s (inl is) leaves rest apart =
        let own : AreLeaves spaces names (is.axis_tokens ++ (is.test_tokens ++ bracketed is.predicates)) = subst (λ (x : Stepped). AreLeaves spaces names x.tokens) is.whole_is leaves in
        let has : Apart ((is.axis_tokens ++ (is.test_tokens ++ bracketed is.predicates)) ++ rest) = subst (λ (x : Stepped). Apart (x.tokens ++ rest)) is.whole_is apart in
        let parts = all-append (IsLeaf spaces names) is.test_tokens (bracketed is.predicates) (all-append (IsLeaf spaces names) is.axis_tokens (is.test_tokens ++ bracketed is.predicates) own).1 in
        let past = apart_past is.axis_tokens ((is.test_tokens ++ bracketed is.predicates) ++ rest) (apart_regrouped is.axis_tokens (is.test_tokens ++ bracketed is.predicates) rest has) in
        let left = apart_past is.test_tokens (bracketed is.predicates ++ rest) (apart_regrouped is.test_tokens (bracketed is.predicates) rest past) in
        subst StepLow (sym is.whole_is) (λ k. full_low k is.axis_tokens is.test_tokens is.on is.test is.predicates is.axis_is is.test_is parts.0 (bracketed_kept is.predicates is.predicates_are parts.1 rest left))
    step_low s (inr (inl e)) leaves rest apart = subst StepLow (sym e) dot_low
    step_low s (inr (inr e)) leaves rest apart = subst StepLow (sym e) dots_low

    steps_low : (xs : List (Bool × Stepped)) → AreSteps I xs → AreLeaves spaces names (behind_slash xs) → (rest : List Symbol) → Apart (behind_slash xs ++ rest) → AllByRecursion (λ x. StepLow x.1) xs
    steps_low [] all leaves rest apart = tt
    steps_low (x ∷ xs) all leaves rest apart =
        let parts = all-append (IsLeaf spaces names) x.1.tokens (behind_slash xs) leaves.1 in
        let own = apart_regrouped x.1.tokens (behind_slash xs) rest apart.1 in
        (step_low x.1 all.0 parts.0 (behind_slash xs ++ rest) own, steps_low xs all.1 parts.1 rest (apart_past x.1.tokens (behind_slash xs ++ rest) own))

    primary_kept : Keeps 0 (IsPrimary I)
    primary_kept p (inl is) leaves rest apart =
        let leaf = (subst (λ (q : Part). AreLeaves spaces names q.tokens) is.1 leaves).0 in
        subst (Kept 0) (sym is.1) (tight 0 (part (symbol.Atom is.0 ∷ []) is.0) (omega (arith, leaf.0)) (λ k before may.
        low_same k (symbol.Atom is.0 ∷ []) ((sh spaces names is.0).words before) (leaf.1 before).0 (λ d e rest other le f s. let here : e ≤ 64 = omega (arith, s.0) in (here, f s.1))))
    primary_kept p (inr (inl is)) leaves rest apart =
        let own : AreLeaves spaces names (symbol.Open ∷ (is.inner.tokens ++ symbol.Close ∷ [])) = subst (λ (q : Part). AreLeaves spaces names q.tokens) is.whole_is leaves in
        let has : Apart ((symbol.Open ∷ (is.inner.tokens ++ symbol.Close ∷ [])) ++ rest) = subst (λ (q : Part). Apart (q.tokens ++ rest)) is.whole_is apart in
        let kept = inner is.inner is.inner_is (all-append (IsLeaf spaces names) is.inner.tokens (symbol.Close ∷ []) own.1).0 (symbol.Close ∷ rest) (apart_regrouped is.inner.tokens (symbol.Close ∷ []) rest has.1) in
        subst (Kept 0) (sym is.whole_is) (record {
          low = λ k before may. low_ungrouped k is.inner.tokens ((sh spaces names is.inner.tree).words before) (kept.low (suc k) before (may_more k before is.inner.tokens));
          group = λ k lt. low_grouped k is.inner.tokens ((sh spaces names is.inner.tree).words false) (kept.low k false (may_false k is.inner.tokens));
        })
    primary_kept p (inr (inr is)) leaves rest apart =
        let behind = arguments is.given ++ symbol.Close ∷ [] in
        let own : AreLeaves spaces names (symbol.Callee is.function ∷ (symbol.Open ∷ behind)) = subst (λ (q : Part). AreLeaves spaces names q.tokens) is.whole_is leaves in
        let has : Apart ((symbol.Callee is.function ∷ (symbol.Open ∷ behind)) ++ rest) = subst (λ (q : Part). Apart (q.tokens ++ rest)) is.whole_is apart in
        let all = arguments_kept is.given is.given_are (all-append (IsLeaf spaces names) (arguments is.given) (symbol.Close ∷ []) own.1.1).0 (symbol.Close ∷ rest) (apart_regrouped (arguments is.given) (symbol.Close ∷ []) rest has.1.1) in
        let words = argument_words (map (sh spaces names) (trees is.given)) in
        let shows = shown-Call spaces names is.function (trees is.given) in
        subst (Kept 0) (sym is.whole_is) (tight 0 (part (symbol.Callee is.function ∷ (symbol.Open ∷ behind)) (expr.Call is.function (trees is.given))) (omega (arith, ap (λ (w : Written). w.rank) shows)) (λ k before may.
        subst (λ (w : Written). Lower k (symbol.Callee is.function ∷ (symbol.Open ∷ behind)) (w.words before)) (sym shows)
        (low_cons k (symbol.Callee is.function) (kind.Callee, function_text is.function) (symbol.Open ∷ behind) (grouped words) (λ d. refl) (λ d. ap (next_depth d) (callee-read spaces names is.function)) (low_grouped k (arguments is.given) words (arguments_low k is.given all)))))

    filter_kept : Keeps 1 (IsFilter I)
    filter_kept p is leaves rest apart = subst (Kept 1) (sym is.whole_is) (go is.predicates predicates)
      where
        own : AreLeaves spaces names (is.plain.tokens ++ bracketed is.predicates)
        own = subst (λ (q : Part). AreLeaves spaces names q.tokens) is.whole_is leaves

        has : Apart (is.plain.tokens ++ (bracketed is.predicates ++ rest))
        has = apart_regrouped is.plain.tokens (bracketed is.predicates) rest (subst (λ (q : Part). Apart (q.tokens ++ rest)) is.whole_is apart)

        plain : Kept 0 is.plain
        plain = primary_kept is.plain is.plain_is (all-append (IsLeaf spaces names) is.plain.tokens (bracketed is.predicates) own).0 (bracketed is.predicates ++ rest) has

        predicates : AllByRecursion Inside is.predicates
        predicates =
            bracketed_kept is.predicates is.predicates_are (all-append (IsLeaf spaces names) is.plain.tokens (bracketed is.predicates) own).1 rest (apart_past is.plain.tokens (bracketed is.predicates ++ rest) has)

        go : (ps : List Part) → AllByRecursion Inside ps → Kept 1 (part (is.plain.tokens ++ bracketed ps) (filtered is.plain.tree (trees ps)))
        go [] all = subst (λ l. Kept 1 (part l is.plain.tree)) (sym (append-nil is.plain.tokens)) (looser_kept 0 1 (omega arith) is.plain plain)
        go (q ∷ ps) all =
            let shows = shown-Filter spaces names is.plain.tree (trees (q ∷ ps)) in
            tight 1 (part (is.plain.tokens ++ bracketed (q ∷ ps)) (expr.Filter is.plain.tree (trees (q ∷ ps)))) (omega (arith, ap (λ (w : Written). w.rank) shows)) (λ k before may.
            subst (λ (w : Written). Lower k (is.plain.tokens ++ bracketed (q ∷ ps)) (w.words before)) (sym shows)
            (low_seq k is.plain.tokens (bracketed (q ∷ ps)) (operand 11 false (sh spaces names is.plain.tree)) (predicate_words (map (sh spaces names) (trees (q ∷ ps))))
            (operand_low 0 is.plain plain k false (may_false k is.plain.tokens)) (predicates_low k (q ∷ ps) all)))

    absolute_kept : (x : Bool × Stepped) (xs : List (Bool × Stepped)) → Later (x ∷ xs) → Kept 2 (part (behind_slash (x ∷ xs)) (expr.Path start.Root (steps_behind (x ∷ xs))))
    absolute_kept (true, x) xs later = path_kept (behind_slash ((true, x) ∷ xs)) start.Root _ (steps_behind ((true, x) ∷ xs)) (shown-Root spaces names) (λ k before may. later k)
    absolute_kept (false, x) xs later = path_kept (behind_slash ((false, x) ∷ xs)) start.Root _ (steps_behind ((false, x) ∷ xs)) (shown-Root spaces names) (λ k before may. later k)

    paths_kept : Keeps 2 (IsPath I)
    paths_kept p (inl is) leaves rest apart =
        let own : AreLeaves spaces names (is.first.tokens ++ behind_slash is.others) = subst (λ (q : Part). AreLeaves spaces names q.tokens) is.whole_is leaves in
        let has = apart_regrouped is.first.tokens (behind_slash is.others) rest (subst (λ (q : Part). Apart (q.tokens ++ rest)) is.whole_is apart) in
        let parts = all-append (IsLeaf spaces names) is.first.tokens (behind_slash is.others) own in
        let first = step_low is.first is.first_is parts.0 (behind_slash is.others ++ rest) has in
        let others = (followed is.others (steps_low is.others is.others_are parts.1 rest (apart_past is.first.tokens (behind_slash is.others ++ rest) has))).later in
        subst (Kept 2) (sym is.whole_is)
        (path_kept (is.first.tokens ++ behind_slash is.others) start.Context _ (is.first.step ∷ steps_behind is.others) (shown-Context spaces names) (λ k before may.
        low_seq k is.first.tokens (behind_slash is.others) (shs spaces names is.first.step).words (later_words is.others) (first k) (others k)))
    paths_kept p (inr (inl e)) leaves rest apart = subst (Kept 2) (sym e) (path_kept (symbol.Slash ∷ []) start.Root _ [] (shown-Root spaces names) root_low)
    paths_kept p (inr (inr (inl is))) leaves rest apart =
        let own : AreLeaves spaces names (behind_slash (is.first ∷ is.others)) = subst (λ (q : Part). AreLeaves spaces names q.tokens) is.whole_is leaves in
        let has : Apart (behind_slash (is.first ∷ is.others) ++ rest) = subst (λ (q : Part). Apart (q.tokens ++ rest)) is.whole_is apart in
        subst (Kept 2) (sym is.whole_is) (absolute_kept is.first is.others (followed (is.first ∷ is.others) (steps_low (is.first ∷ is.others) is.steps_are own rest has)).later)
    paths_kept p (inr (inr (inr (inl is)))) leaves rest apart = looser_kept 1 2 (omega arith) p (filter_kept p is leaves rest apart)
    paths_kept p (inr (inr (inr (inr is)))) leaves rest apart =
        let behind = behind_slash (is.first ∷ is.others) in
        let own : AreLeaves spaces names (is.from.tokens ++ behind) = subst (λ (q : Part). AreLeaves spaces names q.tokens) is.whole_is leaves in
        let has = apart_regrouped is.from.tokens behind rest (subst (λ (q : Part). Apart (q.tokens ++ rest)) is.whole_is apart) in
        let parts = all-append (IsLeaf spaces names) is.from.tokens behind own in
        let from = filter_kept is.from is.from_is parts.0 (behind ++ rest) has in
        let later = (followed (is.first ∷ is.others) (steps_low (is.first ∷ is.others) is.steps_are parts.1 rest (apart_past is.from.tokens (behind ++ rest) has))).later in
        subst (Kept 2) (sym is.whole_is)
        (path_kept (is.from.tokens ++ behind) (start.From is.from.tree) _ (steps_behind (is.first ∷ is.others)) (shown-From spaces names is.from.tree) (λ k before may.
        low_seq k is.from.tokens behind (operand 10 false (sh spaces names is.from.tree)) (later_words (is.first ∷ is.others)) (operand_low 1 is.from from k false (may_false k is.from.tokens)) (later k)))

    or_kept : Keeps 10 (IsOr I)
    or_kept =
        chain_kept level.Or (IsAnd I) (chain_kept level.And (IsEquality I) (chain_kept level.Equality (IsRelational I) (chain_kept level.Relational (IsAdditive I)
        (chain_kept level.Additive (IsMultiplicative I) (chain_kept level.Multiplicative (IsUnary I) (signed_kept (IsUnion I) (chain_kept level.Union (IsPath I) paths_kept)))))))

  kept_in : (depth : ℕ) → Keeps 10 (IsExprIn depth)
  unfolding IsExprIn
  kept_in zero p is leaves rest apart = absurd is
  kept_in (suc depth) p is leaves rest apart = or_kept (IsExprIn depth) (kept_in depth) p is leaves rest apart

  pub shallow_words : (tokens : List Symbol) (tree : Expr) → AreLeaves spaces names tokens → Apart tokens → IsExpr tokens tree → IsShallow tokens → IsShallow (syms spaces names ((sh spaces names tree).words false))
  shallow_words tokens tree leaves apart is shallow =
      let kept = kept_in is.0 (part tokens tree) is.1 leaves [] (subst Apart (sym (append-nil tokens)) apart) in
      subst (IsShallowFrom 0) (append-nil (syms spaces names ((sh spaces names tree).words false)))
      (kept.low 0 false (may_false 0 tokens) 0 0 [] [] (omega arith) (λ t. t) (subst (IsShallowFrom 0) (sym (append-nil tokens)) shallow))
