-- What each function of the writer adds.
use Rattle.std.proofs.Common.{◌≡◌, ◌+◌, ℕ, Bool, false, Some, None, List, [], ◌∷◌, ◌++◌, map, drop, append_assoc, sym, ap, ◌∙◌, refl, arith}
use Rattle.std.specs.List.{slice_get}
use Rattle.std.specs.Option.{option_map}
use Rattle.std.specs.String.{string_bytes}
use Rattle.std.proofs.lemmas.List.{drop_all}
use Rattle.serna_kinds.specs.declared.expressions.CompareOp.{CompareOp}
use Rattle.xpath_trees.specs.declared.expr.Expr.{Expr}
use Rattle.xpath_trees.specs.declared.expr.ArithOp.{ArithOp}
use Rattle.xpath_trees.specs.declared.expr.PathStart.{PathStart}
use Rattle.xpath_trees.specs.declared.expr.Step.{Step}
use Rattle.xpath_grammar.specs.Trees.{rank}
use Rattle.xpath_tokens.specs.declared.symbol.Operator.{Operator}
use Rattle.xpath_tokens.specs.declared.symbol.Operator.TheVariants as operator
use Rattle.xpath_tokens.specs.declared.tokens.Kind.TheVariants as kind
use Rattle.xpath_writer.specs.Writing.{Word, Written, WrittenStep, spelled, mark, operator_kind, predicate_words, argument_words, further_arguments, axis_words, test_words, is_bare, short_or, short_for, steps_words, operand, joined, joined_by, before_next, quoted, function_text, sign_words, compares_rank, ariths_rank, shown, shown_start, shown_step}
use Rattle.xpath_writer.proofs.Shown.{worded, moved, all_moved, renamed, follows, both, spelled-append, shown-Or, shown-And, shown-Compare, shown-Arith, shown-Negate, shown-Union, shown-Path, shown-Filter, shown-Text, shown-Number, shown-Variable, shown-Call, shown-Context, shown-Root, shown-From}
use Rattle.xpath_writer.proofs.Writes.{item_at, map_map, others_from, further_next, chain_written, chain_ends, compares_rank-map, ariths_rank-map, is_empty-map, empty_by_test, last_at, root_then, step_words-is, full_words}
use Rattle.xpath_writer.proofs.write.+write.Goals as goal

-- Lists

pub push_predicates-loop-predicate-preserved : goal.push_predicates-loop-predicate-preserved
push_predicates-loop-predicate-preserved t c =
    let sh = shown c.args.spaces.now c.args.names.now in
    let xs = c.args.predicates.now in
    let i = c.loop-predicate.predicate-index in
    let x = c.predicate-item.result in
    let rest = predicate_words (map sh (drop (i + 1) xs)) in
    let behind : List Word = mark kind.CloseBracket ∷ rest in
    let split : predicate_words (map sh (drop i xs)) ≡ (mark kind.OpenBracket ∷ []) ++ ((sh x).words false ++ behind) = ap (λ (ys : List Expr). predicate_words (map sh ys)) (item_at xs i x (omega arith) c.predicate-item.is) in
    moved _ _ _ (mark kind.CloseBracket ∷ []) behind rest c.in_ok-push_mark-2.ensures refl
    (moved _ _ _ ((sh x).words false) ((sh x).words false ++ behind) behind c.in_ok-push_expr.ensures refl
    (moved _ _ _ (mark kind.OpenBracket ∷ []) _ ((sh x).words false ++ behind) c.in_ok-push_mark.ensures split c.loop-predicate.invariant))

pub push_predicates-returns : goal.push_predicates-returns
push_predicates-returns t c =
    let sh = shown c.args.spaces.now c.args.names.now in
    all_moved _ _ _ (ap (λ (ys : List Expr). predicate_words (map sh ys)) (drop_all c.loop-predicate.predicate-index c.args.predicates.now c.loop-predicate-test.false)) c.loop-predicate.invariant

pub push_arguments-loop-argument-preserved : goal.push_arguments-loop-argument-preserved
push_arguments-loop-argument-preserved t c =
    let sh = shown c.args.spaces.now c.args.names.now in
    let xs = c.in-Some.others.now in
    let i = c.loop-argument.argument-index in
    let x = c.argument-item.result in
    let rest = further_arguments (map sh (drop (i + 1) xs)) in
    let split : further_arguments (map sh (drop i xs)) ≡ (mark kind.Comma ∷ []) ++ ((sh x).words false ++ rest) = ap (λ (ys : List Expr). further_arguments (map sh ys)) (item_at xs i x (omega arith) c.argument-item.is) in
    moved _ _ _ ((sh x).words false) ((sh x).words false ++ rest) rest c.in_ok-push_expr-2.ensures refl
    (moved _ _ _ (mark kind.Comma ∷ []) _ ((sh x).words false ++ rest) c.in_ok-push_mark.ensures split c.loop-argument.invariant)

pub push_arguments-returns : goal.push_arguments-returns
push_arguments-returns t c =
    let sh = shown c.args.spaces.now c.args.names.now in
    let all = all_moved _ _ _ (ap (λ (ys : List Expr). further_arguments (map sh ys)) (drop_all c.loop-argument.argument-index c.in-Some.others.now c.loop-argument-test.false)) c.loop-argument.invariant in
    all
    ∙ ap (λ l. l ++ spelled (further_arguments (map sh c.in-Some.others.now))) c.in_ok-push_expr.ensures
    ∙ append_assoc (string_bytes c.args.out.now) (spelled ((sh c.in-Some.first.now).words false)) (spelled (further_arguments (map sh c.in-Some.others.now)))
    ∙ ap (λ l. string_bytes c.args.out.now ++ l) (sym (spelled-append ((sh c.in-Some.first.now).words false) (further_arguments (map sh c.in-Some.others.now)))
    ∙ ap (λ (es : List Expr). spelled (argument_words (map sh es))) (sym c.in-Some.ensures.cases.0))

pub push_steps-loop-index-preserved : goal.push_steps-loop-index-preserved
push_steps-loop-index-preserved t c =
    let sh = shown_step c.args.spaces.now c.args.names.now in
    let xs = c.args.steps.now in
    let i = c.loop-index.index in
    let x = c.index-steps-index.result in
    c.in_ok-next.ensures (map sh (drop (i + 1) xs)) (last_at sh xs i c.loop-index-test.true)
    ∙ ap (λ (ys : List Step). string_bytes c.loop-index.out ++ spelled (steps_words c.loop-index.next (map sh ys))) (sym (item_at xs i x c.loop-index-test.true c.index-steps-index.is))
    ∙ c.loop-index.invariant

pub push_steps-returns : goal.push_steps-returns
push_steps-returns t c =
    let sh = shown_step c.args.spaces.now c.args.names.now in
    all_moved _ _ _ (ap (λ (ys : List Step). steps_words c.loop-index.next (map sh ys)) (drop_all c.loop-index.index c.args.steps.now c.loop-index-test.false)) c.loop-index.invariant

pub push_further-returns : goal.push_further-returns
push_further-returns t c =
    both _ _ _ _ (mark (operator_kind c.args.op) ∷ []) _ (c.in_ok-push_mark.ensures ∙ ap (λ k. string_bytes c.args.out.now ++ spelled (mark k ∷ [])) c.operator_kind.ensures) c.push_operand.ensures

pub push_joined-loop-index-preserved : goal.push_joined-loop-index-preserved
push_joined-loop-index-preserved t c =
    let xs = c.in-Some.others.now in
    let i = c.loop-index.index in
    let x = c.index-others-index.result in
    let op : Expr → Operator = λ e. c.args.op in
    let w = shown c.args.spaces.now c.args.names.now in
    let flag = c.before_next-next-in-loop-index.result in
    let least = c.rank-least.result + 1 in
    moved _ _ _ (mark (operator_kind c.args.op) ∷ operand least flag (w x)) _ (others_from op w least c.args.before (drop (i + 1) xs)) c.in_ok-push_further.ensures
    (further_next op w least c.args.before xs i x flag c.loop-index-test.true c.index-others-index.is (c.before_next-next-in-loop-index.ensures ∙ ap (λ o. before_next o c.args.before) c.same_at-in-loop-index.ensures)) c.loop-index.invariant

pub push_joined-returns : goal.push_joined-returns
push_joined-returns t c =
    let xs = c.in-Some.others.now in
    let op : Expr → Operator = λ e. c.args.op in
    let w = shown c.args.spaces.now c.args.names.now in
    let first = w c.in-Some.first.now in
    let least = c.rank-least.result + 1 in
    let all = all_moved _ _ _ (ap (others_from op w least c.args.before) (drop_all c.loop-index.index xs c.loop-index-test.false)) c.loop-index.invariant in
    chain_written op w least c.args.before (string_bytes c.args.out.now) (string_bytes c.push_operand.new.out) (string_bytes c.loop-index.out) first xs c.before_next-next.result c.in_ok-push_operand.ensures
    (c.before_next-next.ensures ∙ ap (λ o. before_next o c.args.before) c.same_at.ensures) all
    ∙ ap (λ os. string_bytes c.args.out.now ++ spelled (joined least c.args.before first os)) (sym (map_map w (λ (e : Written). (c.args.op, e)) xs))
    ∙ ap (λ (es : List Expr). string_bytes c.args.out.now ++ spelled (joined_by c.args.op least c.args.before (map w es))) (sym c.in-Some.ensures.cases.0 ∙ c.as_slice.ensures)
    ∙ ap (λ n. string_bytes c.args.out.now ++ spelled (joined_by c.args.op (n + 1) c.args.before (map w c.args.operands.now))) (c.rank-least.ensures ∙ ap rank c.level_of.ensures)

pub push_first_compared-returns : goal.push_first_compared-returns
push_first_compared-returns t c =
    let xs = c.args.others.now in
    let first = shown c.args.spaces.now c.args.names.now c.args.first.now in
    renamed _ _ _ _ _ (ap (λ n. operand (n + 1) c.before_next-next.result first) c.compares_rank-chain_rank.ensures
    ∙ ap (λ flag. operand (compares_rank xs + 1) flag first) (c.before_next-next.ensures ∙ ap (λ o. before_next o c.args.before) c.compare_at.ensures)) c.push_operand.ensures

pub push_compared-loop-index-preserved : goal.push_compared-loop-index-preserved
push_compared-loop-index-preserved t c =
    let xs = c.args.others.now in
    let i = c.loop-index.index in
    let x = c.index-others-index.result in
    let op : (CompareOp × Expr) → Operator = λ x. operator.Compare x.0 in
    let w : (CompareOp × Expr) → Written = λ x. shown c.args.spaces.now c.args.names.now x.1 in
    let flag = c.before_next-next.result in
    let least = c.compares_rank-least.result + 1 in
    moved _ _ _ (mark (operator_kind (op x)) ∷ operand least flag (w x)) _ (others_from op w least c.args.before (drop (i + 1) xs)) c.in_ok-push_further.ensures
    (further_next op w least c.args.before xs i x flag c.loop-index-test.true c.index-others-index.is (c.before_next-next.ensures ∙ ap (λ o. before_next o c.args.before) c.compare_at.ensures)) c.loop-index.invariant

pub push_compared-returns : goal.push_compared-returns
push_compared-returns t c =
    let xs = c.args.others.now in
    let op : (CompareOp × Expr) → Operator = λ x. operator.Compare x.0 in
    let w : (CompareOp × Expr) → Written = λ x. shown c.args.spaces.now c.args.names.now x.1 in
    all_moved _ _ _ (ap (others_from op w (c.compares_rank-least.result + 1) c.args.before) (drop_all c.loop-index.index xs c.loop-index-test.false)) c.loop-index.invariant
    ∙ ap (λ n. string_bytes c.args.out.now ++ spelled (others_from op w (n + 1) c.args.before xs)) c.compares_rank-least.ensures

pub push_first_computed-returns : goal.push_first_computed-returns
push_first_computed-returns t c =
    let xs = c.args.others.now in
    let first = shown c.args.spaces.now c.args.names.now c.args.first.now in
    renamed _ _ _ _ _ (ap (λ n. operand (n + 1) c.before_next-next.result first) c.ariths_rank-chain_rank.ensures
    ∙ ap (λ flag. operand (ariths_rank xs + 1) flag first) (c.before_next-next.ensures ∙ ap (λ o. before_next o c.args.before) c.arith_at.ensures)) c.push_operand.ensures

pub push_computed-loop-index-preserved : goal.push_computed-loop-index-preserved
push_computed-loop-index-preserved t c =
    let xs = c.args.others.now in
    let i = c.loop-index.index in
    let x = c.index-others-index.result in
    let op : (ArithOp × Expr) → Operator = λ x. operator.Arith x.0 in
    let w : (ArithOp × Expr) → Written = λ x. shown c.args.spaces.now c.args.names.now x.1 in
    let flag = c.before_next-next.result in
    let least = c.ariths_rank-least.result + 1 in
    moved _ _ _ (mark (operator_kind (op x)) ∷ operand least flag (w x)) _ (others_from op w least c.args.before (drop (i + 1) xs)) c.in_ok-push_further.ensures
    (further_next op w least c.args.before xs i x flag c.loop-index-test.true c.index-others-index.is (c.before_next-next.ensures ∙ ap (λ o. before_next o c.args.before) c.arith_at.ensures)) c.loop-index.invariant

pub push_computed-returns : goal.push_computed-returns
push_computed-returns t c =
    let xs = c.args.others.now in
    let op : (ArithOp × Expr) → Operator = λ x. operator.Arith x.0 in
    let w : (ArithOp × Expr) → Written = λ x. shown c.args.spaces.now c.args.names.now x.1 in
    all_moved _ _ _ (ap (others_from op w (c.ariths_rank-least.result + 1) c.args.before) (drop_all c.loop-index.index xs c.loop-index-test.false)) c.loop-index.invariant
    ∙ ap (λ n. string_bytes c.args.out.now ++ spelled (others_from op w (n + 1) c.args.before xs)) c.ariths_rank-least.ensures

-- Steps

pub push_step-returns-in-Some : goal.push_step-returns-in-Some
push_step-returns-in-Some t c =
    let s = c.args.step.now in
    let short = c.in-Some.ensures ∙ ap (short_for s.axis) (c.is_bare-bare.ensures ∙ ap (is_bare s.test) c.as_slice.ensures) in
    renamed _ _ _ _ _ (ap (short_or (full_words c.args.spaces.now c.args.names.now s)) short ∙ sym (step_words-is c.args.spaces.now c.args.names.now s)) c.push_mark.ensures

pub push_step-returns : goal.push_step-returns
push_step-returns t c =
    let s = c.args.step.now in
    let sh = shown c.args.spaces.now c.args.names.now in
    let short = c.in_default.ensures ∙ ap (short_for s.axis) (c.is_bare-bare.ensures ∙ ap (is_bare s.test) c.as_slice.ensures) in
    renamed _ _ _ _ _ (ap (short_or (full_words c.args.spaces.now c.args.names.now s)) short ∙ sym (step_words-is c.args.spaces.now c.args.names.now s))
    (both _ _ _ _ (axis_words s.axis) _ c.in_ok-push_axis.ensures (both _ _ _ _ (test_words c.args.spaces.now c.args.names.now s.test) _ c.in_ok-push_test.ensures
    (renamed _ _ _ _ _ (ap (λ (ys : List Expr). predicate_words (map sh ys)) c.as_slice-2.ensures) c.push_predicates.ensures)))

-- Paths

pub push_start-returns-in-Context : goal.push_start-returns-in-Context
push_start-returns-in-Context t c = λ steps last.
    let begun = ap (λ (p : PathStart). shown_start c.args.spaces.now c.args.names.now p c.args.before steps) c.in-Context.is ∙ ap (λ (f : Bool → List WrittenStep → List Word). f c.args.before steps) (shown-Context c.args.spaces.now c.args.names.now) in
    ap (λ (ws : List Word). string_bytes c.args.out.now ++ spelled ws) (sym begun)

pub push_start-returns-in_ok-push_root-in-Root : goal.push_start-returns-in_ok-push_root-in-Root
push_start-returns-in_ok-push_root-in-Root t c = λ steps last.
    let begun = ap (λ (p : PathStart). shown_start c.args.spaces.now c.args.names.now p c.args.before steps) c.in-Root.is ∙ ap (λ (f : Bool → List WrittenStep → List Word). f c.args.before steps) (shown-Root c.args.spaces.now c.args.names.now) in
    moved _ _ _ _ _ (steps_words (Some kind.Slash) steps) c.in_ok-push_root-in-Root.ensures (root_then c.args.before c.args.alone steps last) (ap (λ (ws : List Word). string_bytes c.args.out.now ++ spelled ws) (sym begun))

pub push_start-returns-in_ok-push_operand-in-From : goal.push_start-returns-in_ok-push_operand-in-From
push_start-returns-in_ok-push_operand-in-From t c = λ steps last.
    let sh = shown c.args.spaces.now c.args.names.now in
    let behind = steps_words (Some kind.Slash) steps in
    let begun = ap (λ (p : PathStart). shown_start c.args.spaces.now c.args.names.now p c.args.before steps) c.in-From.is ∙ ap (λ (f : Bool → List WrittenStep → List Word). f c.args.before steps) (shown-From c.args.spaces.now c.args.names.now c.in-From.inner) in
    moved _ _ _ (operand 10 false (sh c.get.result.now)) (operand 10 false (sh c.in-From.inner) ++ behind) behind c.in_ok-push_operand-in-From.ensures (ap (λ (e : Expr). operand 10 false (sh e) ++ behind) (sym c.get.ensures))
    (ap (λ (ws : List Word). string_bytes c.args.out.now ++ spelled ws) (sym begun))

-- Expressions

pub push_expr-returns-in-Or : goal.push_expr-returns-in-Or
push_expr-returns-in-Or t c =
    renamed _ _ _ _ _ (worded c.args.spaces.now c.args.names.now c.args.before _ _ _ c.in-Or.is (shown-Or c.args.spaces.now c.args.names.now c.in-Or.operands)) c.push_joined.ensures

pub push_expr-returns-in-And : goal.push_expr-returns-in-And
push_expr-returns-in-And t c =
    renamed _ _ _ _ _ (worded c.args.spaces.now c.args.names.now c.args.before _ _ _ c.in-And.is (shown-And c.args.spaces.now c.args.names.now c.in-And.operands)) c.push_joined-in-And.ensures

pub push_expr-returns-in-Union : goal.push_expr-returns-in-Union
push_expr-returns-in-Union t c =
    renamed _ _ _ _ _ (worded c.args.spaces.now c.args.names.now c.args.before _ _ _ c.in-Union.is (shown-Union c.args.spaces.now c.args.names.now c.in-Union.operands)) c.push_joined-in-Union.ensures

pub push_expr-returns-in_ok-push_first_compared-in-Compare : goal.push_expr-returns-in_ok-push_first_compared-in-Compare
push_expr-returns-in_ok-push_first_compared-in-Compare t c =
    let sh = shown c.args.spaces.now c.args.names.now in
    let b = c.args.before in
    let others = c.in-Compare.others in
    let read = c.as_slice-others.result.now in
    let op : (CompareOp × Expr) → Operator = λ x. operator.Compare x.0 in
    let w : (CompareOp × Expr) → Written = λ x. sh x.1 in
    let words : List (CompareOp × Expr) → List (Operator × Written) = map (λ (x : CompareOp × Expr). (operator.Compare x.0, sh x.1)) in
    renamed _ _ _ _ _ (ap (λ (e : Expr). joined (compares_rank read + 1) b (sh e) (words read)) c.get.ensures
    ∙ ap (λ (xs : List (CompareOp × Expr)). joined (compares_rank xs + 1) b (sh c.in-Compare.first) (words xs)) c.as_slice-others.ensures
    ∙ ap (λ n. joined (n + 1) b (sh c.in-Compare.first) (words others)) (sym (compares_rank-map sh others))
    ∙ ap (joined (compares_rank (map (λ (x : CompareOp × Expr). (x.0, sh x.1)) others) + 1) b (sh c.in-Compare.first)) (sym (map_map (λ (x : CompareOp × Expr). (x.0, sh x.1)) (λ (x : CompareOp × Written). (operator.Compare x.0, x.1)) others))
    ∙ worded c.args.spaces.now c.args.names.now b _ _ _ c.in-Compare.is (shown-Compare c.args.spaces.now c.args.names.now c.in-Compare.first others))
    (chain_ends op w (compares_rank read + 1) b _ _ _ _ (sh c.get.result.now) read (before_next (option_map op (slice_get read 0)) b) c.in_ok-push_first_compared-in-Compare.ensures refl c.push_compared.ensures)

pub push_expr-returns-in_ok-push_first_computed-in-Arith : goal.push_expr-returns-in_ok-push_first_computed-in-Arith
push_expr-returns-in_ok-push_first_computed-in-Arith t c =
    let sh = shown c.args.spaces.now c.args.names.now in
    let b = c.args.before in
    let others = c.in-Arith.others in
    let read = c.as_slice-others-in-Arith.result.now in
    let op : (ArithOp × Expr) → Operator = λ x. operator.Arith x.0 in
    let w : (ArithOp × Expr) → Written = λ x. sh x.1 in
    let words : List (ArithOp × Expr) → List (Operator × Written) = map (λ (x : ArithOp × Expr). (operator.Arith x.0, sh x.1)) in
    renamed _ _ _ _ _ (ap (λ (e : Expr). joined (ariths_rank read + 1) b (sh e) (words read)) c.get-in-Arith.ensures
    ∙ ap (λ (xs : List (ArithOp × Expr)). joined (ariths_rank xs + 1) b (sh c.in-Arith.first) (words xs)) c.as_slice-others-in-Arith.ensures
    ∙ ap (λ n. joined (n + 1) b (sh c.in-Arith.first) (words others)) (sym (ariths_rank-map sh others))
    ∙ ap (joined (ariths_rank (map (λ (x : ArithOp × Expr). (x.0, sh x.1)) others) + 1) b (sh c.in-Arith.first)) (sym (map_map (λ (x : ArithOp × Expr). (x.0, sh x.1)) (λ (x : ArithOp × Written). (operator.Arith x.0, x.1)) others))
    ∙ worded c.args.spaces.now c.args.names.now b _ _ _ c.in-Arith.is (shown-Arith c.args.spaces.now c.args.names.now c.in-Arith.first others))
    (chain_ends op w (ariths_rank read + 1) b _ _ _ _ (sh c.get-in-Arith.result.now) read (before_next (option_map op (slice_get read 0)) b) c.in_ok-push_first_computed-in-Arith.ensures refl c.push_computed.ensures)

pub push_expr-returns-in-Negate : goal.push_expr-returns-in-Negate
push_expr-returns-in-Negate t c =
    let sh = shown c.args.spaces.now c.args.names.now in
    renamed _ _ _ _ _ (ap (λ (e : Expr). sign_words c.in-Negate.signs ++ operand 8 c.args.before (sh e)) c.get-in-Negate.ensures ∙ worded c.args.spaces.now c.args.names.now c.args.before _ _ _ c.in-Negate.is (shown-Negate c.args.spaces.now c.args.names.now c.in-Negate.signs c.in-Negate.inner))
    c.push_negated.ensures

pub push_expr-returns-in-Text : goal.push_expr-returns-in-Text
push_expr-returns-in-Text t c =
    renamed _ _ _ _ _ (ap (λ (text : List ℕ). let w : Word = (kind.Literal, quoted text) in w ∷ []) c.as_text.ensures.bytes ∙ worded c.args.spaces.now c.args.names.now c.args.before _ _ _ c.in-Text.is (shown-Text c.args.spaces.now c.args.names.now c.in-Text.text)) c.push_literal.ensures

pub push_expr-returns-in-Number : goal.push_expr-returns-in-Number
push_expr-returns-in-Number t c = renamed _ _ _ _ _ (worded c.args.spaces.now c.args.names.now c.args.before _ _ _ c.in-Number.is (shown-Number c.args.spaces.now c.args.names.now c.in-Number.number)) c.push_number.ensures

pub push_expr-returns-in-Variable : goal.push_expr-returns-in-Variable
push_expr-returns-in-Variable t c = renamed _ _ _ _ _ (worded c.args.spaces.now c.args.names.now c.args.before _ _ _ c.in-Variable.is (shown-Variable c.args.spaces.now c.args.names.now c.in-Variable.name)) c.push_variable.ensures

pub push_expr-returns-in-Call : goal.push_expr-returns-in-Call
push_expr-returns-in-Call t c =
    renamed _ _ _ _ _ (worded c.args.spaces.now c.args.names.now c.args.before _ _ _ c.in-Call.is (shown-Call c.args.spaces.now c.args.names.now c.in-Call.function c.in-Call.arguments)) c.push_call.ensures

pub push_expr-returns-in_ok-behind-in-Path : goal.push_expr-returns-in_ok-behind-in-Path
push_expr-returns-in_ok-behind-in-Path t c =
    let sh = shown_step c.args.spaces.now c.args.names.now in
    let steps = c.in-Path.steps in
    let empty = is_empty-map sh steps ∙ empty_by_test steps c.is_empty.result c.is_empty.ensures in
    renamed _ _ _ _ _ (worded c.args.spaces.now c.args.names.now c.args.before _ _ _ c.in-Path.is (shown-Path c.args.spaces.now c.args.names.now c.in-Path.start steps))
    (follows _ _ _ _ _ _ (c.in_ok-behind-in-Path.ensures (map sh steps) empty) (renamed _ _ _ _ _ (ap (λ (zs : List Step). steps_words c.in_ok-behind-in-Path.behind (map sh zs)) c.as_slice.ensures) c.push_steps.ensures))

pub push_expr-returns-in_ok-push_operand-in-Filter : goal.push_expr-returns-in_ok-push_operand-in-Filter
push_expr-returns-in_ok-push_operand-in-Filter t c =
    let sh = shown c.args.spaces.now c.args.names.now in
    let b = c.args.before in
    let predicates = c.in-Filter.predicates in
    renamed _ _ _ _ _ (ap (λ (es : List Expr). operand 11 false (sh c.get-in-Filter.result.now) ++ predicate_words (map sh es)) c.as_slice-in-Filter.ensures
    ∙ ap (λ (e : Expr). operand 11 false (sh e) ++ predicate_words (map sh predicates)) c.get-in-Filter.ensures
    ∙ worded c.args.spaces.now c.args.names.now b _ _ _ c.in-Filter.is (shown-Filter c.args.spaces.now c.args.names.now c.in-Filter.inner predicates))
    (both _ _ _ _ (operand 11 false (sh c.get-in-Filter.result.now)) _ c.in_ok-push_operand-in-Filter.ensures c.push_predicates.ensures)
