-- What is written with what is left to write is the whole.
use Rattle.std.proofs.Common.{◌≡◌, ◌++◌, map, drop}
use Rattle.std.specs.String.{string_bytes}
use Rattle.serna_kinds.specs.declared.expressions.CompareOp.{CompareOp}
use Rattle.xpath_trees.specs.declared.expr.ArithOp.{ArithOp}
use Rattle.xpath_trees.specs.declared.expr.Expr.{Expr}
use Rattle.xpath_tokens.specs.declared.symbol.Operator.TheVariants as operator
use Rattle.xpath_writer.specs.Writing.{spelled, predicate_words, further_arguments, steps_words, shown, shown_step}
use Rattle.xpath_writer.proofs.Writes.{others_from}
use Rattle.xpath_writer.proofs.write.+write.Given as goal

abbrev pub invariant-push_predicates-loop-predicate : goal.invariant-push_predicates-loop-predicate
invariant-push_predicates-loop-predicate l =
    string_bytes l.out ++ spelled (predicate_words (map (shown l.spaces l.names) (drop l.predicate-index l.predicates)))
    ≡ string_bytes l.initial.out ++ spelled (predicate_words (map (shown l.spaces l.names) l.predicates))

abbrev pub invariant-push_arguments-loop-argument : goal.invariant-push_arguments-loop-argument
invariant-push_arguments-loop-argument l =
    string_bytes l.out ++ spelled (further_arguments (map (shown l.spaces l.names) (drop l.argument-index l.others)))
    ≡ string_bytes l.initial.out ++ spelled (further_arguments (map (shown l.spaces l.names) l.others))

abbrev pub invariant-push_steps-loop-index : goal.invariant-push_steps-loop-index
invariant-push_steps-loop-index l =
    string_bytes l.out ++ spelled (steps_words l.next (map (shown_step l.spaces l.names) (drop l.index l.steps)))
    ≡ string_bytes l.initial.out ++ spelled (steps_words l.fn.behind (map (shown_step l.spaces l.names) l.steps))

abbrev pub invariant-push_joined-loop-index : goal.invariant-push_joined-loop-index
invariant-push_joined-loop-index l =
    let others_from = others_from (λ (e : Expr). l.op) (shown l.spaces l.names) l.least l.before in
    string_bytes l.out ++ spelled (others_from (drop l.index l.others)) ≡ string_bytes l.initial.out ++ spelled (others_from l.others)

abbrev pub invariant-push_compared-loop-index : goal.invariant-push_compared-loop-index
invariant-push_compared-loop-index l =
    let others_from = others_from (λ (x : CompareOp × Expr). operator.Compare x.0) (λ (x : CompareOp × Expr). shown l.spaces l.names x.1) l.least l.before in
    string_bytes l.out ++ spelled (others_from (drop l.index l.others)) ≡ string_bytes l.initial.out ++ spelled (others_from l.others)

abbrev pub invariant-push_computed-loop-index : goal.invariant-push_computed-loop-index
invariant-push_computed-loop-index l =
    let others_from = others_from (λ (x : ArithOp × Expr). operator.Arith x.0) (λ (x : ArithOp × Expr). shown l.spaces l.names x.1) l.least l.before in
    string_bytes l.out ++ spelled (others_from (drop l.index l.others)) ≡ string_bytes l.initial.out ++ spelled (others_from l.others)
