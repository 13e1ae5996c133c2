-- The tree of tokens without fault is well formed: each call has as many arguments as its function takes, and the grammar gives
-- chains, unions, paths and filters their parts.
use Rattle.std.proofs.Common.{◌≡◌, ◌≤◌, ◌<◌, ℕ, zero, suc, Bool, true, false, cond, nat_le, nat_lt, List, [], ◌∷◌, ◌++◌, map, length, Option, Some, None, sym, refl, ap, ◌∙◌, subst, append-nil, arith}
use Rattle.std.specs.List.{AllByRecursion, flat_map, list_all}
use Rattle.std.specs.Map.{lookup}
use Rattle.std.specs.Str.{bytes_eq, chars}
use Rattle.std.proofs.lemmas.Bool.{and_from}
use Rattle.std.proofs.lemmas.Bool.Decides.{nat_tests}
use Rattle.serna_kinds.specs.Names.{NameParts, Space, id_of}
use Rattle.serna_kinds.specs.declared.expressions.Axis.{Axis}
use Rattle.serna_kinds.specs.declared.expressions.CompareOp.{CompareOp}
use Rattle.serna_kinds.specs.declared.expressions.NodeTest.{NodeTest}
use Rattle.serna_kinds.specs.declared.expressions.NodeTest.TheVariants as test
use Rattle.xpath_trees.specs.declared.expr.ArithOp.{ArithOp}
use Rattle.xpath_trees.specs.declared.expr.Expr.{Expr}
use Rattle.xpath_trees.specs.declared.expr.Expr.TheVariants as expr
use Rattle.xpath_trees.specs.declared.expr.Function.{Function}
use Rattle.xpath_trees.specs.declared.expr.PathStart.TheVariants as start
use Rattle.xpath_trees.specs.declared.expr.Step.{Step}
use Rattle.xpath_trees.specs.Functions.{takes}
use Rattle.xpath_trees.specs.WellFormed.{are_some, operands_in, is_well_formed, is_step_well_formed}
use Rattle.xpath_trees.proofs.Forms.{formed-Or, formed-And, formed-Compare, formed-Arith, formed-Negate, formed-Union, formed-Path, formed-Filter, formed-Text, formed-Number, formed-Variable, formed-Call, formed-Context, formed-Root, formed-From, formed-step}
use Rattle.xpath_tokens.specs.declared.faults.ExprRule.TheVariants as rule
use Rattle.xpath_tokens.specs.declared.symbol.Operator.{Operator}
use Rattle.xpath_tokens.specs.declared.symbol.Symbol.{Symbol}
use Rattle.xpath_tokens.specs.declared.symbol.Symbol.TheVariants as symbol
use Rattle.xpath_tokens.specs.declared.tokens.Kind.{Kind}
use Rattle.xpath_tokens.specs.declared.tokens.Kind.TheVariants as kind
use Rattle.xpath_tokens.specs.declared.tokens.Token.{Token}
use Rattle.serna_kinds.specs.Qualified.{attribute_name}
use Rattle.xpath_tokens.specs.Symbols.{inside, without_dollar, number_value, node_types, axes, callee_or, axis_or_wrong, symbol_of, written_at, symbols_at}
use Rattle.xpath_tokens.specs.Faults.{wrong_arity}
use Rattle.xpath_tokens.specs.Tokens.{tokens_of}
use Rattle.xpath_tokens.proofs.WordLemmas.{number_low}
use Rattle.xpath_grammar.specs.declared.operand.Level.{Level}
use Rattle.xpath_grammar.specs.declared.operand.Level.TheVariants as level
use Rattle.xpath_grammar.specs.Trees.{level_of, rank, compared, computed, chain_tree, signs_past, signed}
use Rattle.xpath_grammar.specs.Grammar.{Part, trees}
use Rattle.xpath_syntax.specs.Reading.{IsReading}
use Rattle.xpath_syntax.proofs.Levels.{AreAt, compare_in, arith_in}
use Rattle.xpath_syntax.proofs.Arity.{AreGiven, all_given}
use Rattle.xpath_syntax.proofs.Walks.{operand_of, IsArgument, Keeps, kept}

abbrev Formed : Expr → Type 0
Formed e = is_well_formed e ≡ true

abbrev StepFormed : Step → Type 0
StepFormed s = is_step_well_formed s ≡ true

abbrev AreFormed : List Part → Type 0
AreFormed = AllByRecursion (λ p. Formed p.tree)

-- what stands for a leaf of the tree is well formed
abbrev IsFormedLeaf : Symbol → Type 0
IsFormedLeaf (symbol.Atom e) = Formed e
IsFormedLeaf _ = Unit {0}

at_least : (least n : ℕ) → least ≤ n → nat_le least n ≡ true
at_least least n le = grind (arith, nat_tests)

many : (least : ℕ) (parts : List Bool) → least ≤ length parts → list_all (λ part. part) parts ≡ true → are_some least parts ≡ true
many least parts le all = and_from (nat_le least (length parts)) (list_all (λ part. part) parts) (at_least least (length parts) le) all

-- Lists of parts

all_formed : (ps : List Part) → AreFormed ps → list_all (λ part. part) (map is_well_formed (trees ps)) ≡ true
all_formed [] all = refl
all_formed (p ∷ ps) all = and_from _ _ all.0 (all_formed ps all.1)

as_many : (ps : List Part) → length (map is_well_formed (trees ps)) ≡ length ps
as_many [] = refl
as_many (p ∷ ps) = ap (λ n. suc n) (as_many ps)

some_formed : (least : ℕ) (ps : List Part) → least ≤ length ps → AreFormed ps → are_some least (map is_well_formed (trees ps)) ≡ true
some_formed least ps le all = let size = as_many ps in many least (map is_well_formed (trees ps)) (omega arith) (all_formed ps all)

steps_formed : (ss : List Step) → AllByRecursion StepFormed ss → list_all (λ part. part) (map is_step_well_formed ss) ≡ true
steps_formed [] all = refl
steps_formed (s ∷ ss) all = and_from _ _ all.0 (steps_formed ss all.1)

-- Chains

abbrev AreOperands : List (Operator × Part) → Type 0
AreOperands = AllByRecursion (λ x. Formed x.1.tree)

operands_formed : (xs : List (Operator × Part)) → AreOperands xs → list_all (λ part. part) (map is_well_formed (map (λ (o : Operator × Expr). o.1) (map operand_of xs))) ≡ true
operands_formed [] all = refl
operands_formed (x ∷ xs) all = and_from _ _ all.0 (operands_formed xs all.1)

two_formed : (first : Expr) (x : Operator × Part) (xs : List (Operator × Part)) → Formed first → AreOperands (x ∷ xs)
    → are_some 2 (map is_well_formed (first ∷ map (λ (o : Operator × Expr). o.1) (map operand_of (x ∷ xs)))) ≡ true
two_formed first x xs is all =
    many 2 (map is_well_formed (first ∷ map (λ (o : Operator × Expr). o.1) (map operand_of (x ∷ xs)))) (omega arith) (and_from _ _ is (operands_formed (x ∷ xs) all))

-- the forms of the operands behind the first one of a chain of comparisons, and of one of operators on numbers
abbrev compared_forms : List (Operator × Part) → List Bool
compared_forms xs = operands_in (map (λ (x : CompareOp × Expr). (x.0, is_well_formed x.1)) (flat_map (λ (o : Operator × Expr). compared o.0 o.1) (map operand_of xs)))

abbrev computed_forms : List (Operator × Part) → List Bool
computed_forms xs = operands_in (map (λ (x : ArithOp × Expr). (x.0, is_well_formed x.1)) (flat_map (λ (o : Operator × Expr). computed o.0 o.1) (map operand_of xs)))

next_compared : (l : Level) → 3 ≤ rank l → rank l ≤ 4 → (x : Operator × Part) (xs : List (Operator × Part)) → level_of x.0 ≡ l → compared_forms (x ∷ xs) ≡ is_well_formed x.1.tree ∷ compared_forms xs
next_compared l low high x xs e =
    let r = ap rank e in
    let c = compare_in x.0 (omega arith) (omega arith) in
    ap (λ (op : Operator). compared_forms ((op, x.1) ∷ xs)) c.1

next_computed : (l : Level) → 5 ≤ rank l → rank l ≤ 6 → (x : Operator × Part) (xs : List (Operator × Part)) → level_of x.0 ≡ l → computed_forms (x ∷ xs) ≡ is_well_formed x.1.tree ∷ computed_forms xs
next_computed l low high x xs e =
    let r = ap rank e in
    let a = arith_in x.0 (omega arith) (omega arith) in
    ap (λ (op : Operator). computed_forms ((op, x.1) ∷ xs)) a.1

all_compared : (l : Level) → 3 ≤ rank l → rank l ≤ 4 → (xs : List (Operator × Part)) → AreAt l xs → AreOperands xs → list_all (λ part. part) (compared_forms xs) ≡ true
all_compared l low high [] at all = refl
all_compared l low high (x ∷ xs) at all = ap (list_all (λ part. part)) (next_compared l low high x xs at.0) ∙ and_from _ _ all.0 (all_compared l low high xs at.1 all.1)

all_computed : (l : Level) → 5 ≤ rank l → rank l ≤ 6 → (xs : List (Operator × Part)) → AreAt l xs → AreOperands xs → list_all (λ part. part) (computed_forms xs) ≡ true
all_computed l low high [] at all = refl
all_computed l low high (x ∷ xs) at all = ap (list_all (λ part. part)) (next_computed l low high x xs at.0) ∙ and_from _ _ all.0 (all_computed l low high xs at.1 all.1)

some_compared : (l : Level) → 3 ≤ rank l → rank l ≤ 4 → (x : Operator × Part) (xs : List (Operator × Part)) → AreAt l (x ∷ xs) → AreOperands (x ∷ xs) → are_some 1 (compared_forms (x ∷ xs)) ≡ true
some_compared l low high x xs at all =
    let size : length (compared_forms (x ∷ xs)) ≡ suc (length (compared_forms xs)) = ap (λ (forms : List Bool). length forms) (next_compared l low high x xs at.0) in
    many 1 (compared_forms (x ∷ xs)) (omega arith) (all_compared l low high (x ∷ xs) at all)

some_computed : (l : Level) → 5 ≤ rank l → rank l ≤ 6 → (x : Operator × Part) (xs : List (Operator × Part)) → AreAt l (x ∷ xs) → AreOperands (x ∷ xs) → are_some 1 (computed_forms (x ∷ xs)) ≡ true
some_computed l low high x xs at all =
    let size : length (computed_forms (x ∷ xs)) ≡ suc (length (computed_forms xs)) = ap (λ (forms : List Bool). length forms) (next_computed l low high x xs at.0) in
    many 1 (computed_forms (x ∷ xs)) (omega arith) (all_computed l low high (x ∷ xs) at all)

chain_formed : (l : Level) (first : Expr) (x : Operator × Part) (xs : List (Operator × Part)) → Formed first → AreAt l (x ∷ xs) → AreOperands (x ∷ xs) → Formed (chain_tree l first (map operand_of (x ∷ xs)))
chain_formed level.Or first x xs is at all = formed-Or (first ∷ map (λ (o : Operator × Expr). o.1) (map operand_of (x ∷ xs))) ∙ two_formed first x xs is all
chain_formed level.And first x xs is at all = formed-And (first ∷ map (λ (o : Operator × Expr). o.1) (map operand_of (x ∷ xs))) ∙ two_formed first x xs is all
chain_formed level.Equality first x xs is at all = formed-Compare first (flat_map (λ (o : Operator × Expr). compared o.0 o.1) (map operand_of (x ∷ xs))) ∙ and_from _ _ is (some_compared level.Equality (omega arith) (omega arith) x xs at all)
chain_formed level.Relational first x xs is at all = formed-Compare first (flat_map (λ (o : Operator × Expr). compared o.0 o.1) (map operand_of (x ∷ xs))) ∙ and_from _ _ is (some_compared level.Relational (omega arith) (omega arith) x xs at all)
chain_formed level.Additive first x xs is at all = formed-Arith first (flat_map (λ (o : Operator × Expr). computed o.0 o.1) (map operand_of (x ∷ xs))) ∙ and_from _ _ is (some_computed level.Additive (omega arith) (omega arith) x xs at all)
chain_formed level.Multiplicative first x xs is at all = formed-Arith first (flat_map (λ (o : Operator × Expr). computed o.0 o.1) (map operand_of (x ∷ xs))) ∙ and_from _ _ is (some_computed level.Multiplicative (omega arith) (omega arith) x xs at all)
chain_formed level.Union first x xs is at all = formed-Union (first ∷ map (λ (o : Operator × Expr). o.1) (map operand_of (x ∷ xs))) ∙ two_formed first x xs is all

-- Signs

signed_formed : (n : ℕ) (e : Expr) → Formed e → Formed (signed n e)
signed_formed zero e is = is
signed_formed (suc n) e is = formed-Negate (signs_past n) e ∙ is

-- Paths and calls

arity_fits : (f : Function) (n : ℕ) → wrong_arity f (Some n) ≡ None → takes f n ≡ true
arity_fits f n e = go (takes f n) e
  where
    go : (v : Bool) → cond v None (Some rule.WrongArity) ≡ None → v ≡ true
    go true h = refl
    go false h = cc

as_many_steps : (ss : List Step) → length (map is_step_well_formed ss) ≡ length ss
as_many_steps [] = refl
as_many_steps (s ∷ ss) = ap (λ n. suc n) (as_many_steps ss)

some_formed_steps : (least : ℕ) (ss : List Step) → least ≤ length ss → AllByRecursion StepFormed ss → are_some least (map is_step_well_formed ss) ≡ true
some_formed_steps least ss le all = let size = as_many_steps ss in many least (map is_step_well_formed ss) (omega arith) (steps_formed ss all)

all_trees : (ps : List Part) → AllByRecursion (IsArgument IsFormedLeaf Formed) ps → AreFormed ps
all_trees [] all = tt
all_trees (p ∷ ps) all = (all.0.2, all_trees ps all.1)

call_formed : (f : Function) (ps : List Part) → AreFormed ps → wrong_arity f (Some (length ps)) ≡ None → Formed (expr.Call f (trees ps))
call_formed f ps all fits =
    formed-Call f (trees ps) ∙ and_from _ _ (ap (takes f) (as_many ps) ∙ arity_fits f (length ps) fits) (some_formed 0 ps (omega arith) all)

-- each production gives a tree that is well formed
formed : Keeps IsFormedLeaf Formed StepFormed
formed = record {
  atoms = λ e leaf. leaf;
  chains = chain_formed;
  minus = signed_formed;
  full = λ on tokens t ps is leaves all. formed-step on t (trees ps) ∙ some_formed 0 ps (omega arith) all;
  short = λ on. formed-step on test.AnyNode [];
  calls = λ f ps all fits. call_formed f ps (all_trees ps all) fits;
  filters = λ e p ps is all. formed-Filter e (trees (p ∷ ps)) ∙ and_from _ _ is (some_formed 1 (p ∷ ps) (omega arith) all);
  relative = λ s ss all. formed-Path start.Context (s ∷ ss) ∙ ap (λ (f : List Bool → Bool). f (map is_step_well_formed (s ∷ ss))) formed-Context ∙ some_formed_steps 1 (s ∷ ss) (omega arith) all;
  absolute = λ ss all. formed-Path start.Root ss ∙ ap (λ (f : List Bool → Bool). f (map is_step_well_formed ss)) formed-Root ∙ some_formed_steps 0 ss (omega arith) all;
  behind = λ e ss some is all. formed-Path (start.From e) ss ∙ ap (λ (f : List Bool → Bool). f (map is_step_well_formed ss)) (formed-From e) ∙ and_from _ _ is (some_formed_steps 1 ss some all);
}

-- The tokens of a text

module _ (spaces : List Space) (names : List NameParts) where
  leaf_formed : (k : Kind) (w : List ℕ) → IsFormedLeaf (symbol_of spaces names k w)
  leaf_formed kind.Literal w = formed-Text (chars (inside w))
  leaf_formed kind.Number w = formed-Number (number_value w) ∙ below (number_value w) (number_low w)
    where
      below : (n : ℕ) → n < 1000000000000000 → nat_lt n 1000000000000000 ≡ true
      below n lt = grind (arith, nat_tests)
  leaf_formed kind.Fraction w = formed-Number 0
  leaf_formed kind.Variable w = formed-Variable (id_of names (attribute_name spaces (without_dollar w)))
  leaf_formed kind.Callee w = go (lookup (bytes_eq w) node_types)
    where
      go : (o : Option NodeTest) → IsFormedLeaf (callee_or w o)
      go None = tt
      go (Some t) = tt
  leaf_formed kind.AxisName w = go (lookup (bytes_eq w) axes)
    where
      go : (o : Option Axis) → IsFormedLeaf (axis_or_wrong o)
      go None = tt
      go (Some a) = tt
  leaf_formed k w = tt

  leaves_formed : (text : List ℕ) (ts : List Token) → AllByRecursion IsFormedLeaf (symbols_at spaces names text ts)
  leaves_formed text [] = tt
  leaves_formed text (t ∷ ts) = (leaf_formed t.kind (written_at text t), leaves_formed text ts)

  pub reading_formed : (text : List ℕ) (tree : Expr) → IsReading spaces names text tree → is_well_formed tree ≡ true
  reading_formed text tree reading =
      let tokens = symbols_at spaces names text (tokens_of text) in
      let given : AreGiven (tokens ++ []) = subst AreGiven (sym (append-nil tokens)) (all_given spaces names text (tokens_of text) reading.faultless) in
      kept IsFormedLeaf Formed StepFormed formed tokens tree reading.has.0 (leaves_formed text (tokens_of text)) [] given
