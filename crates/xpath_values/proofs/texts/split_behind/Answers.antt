use Rattle.std.proofs.Common.{ℕ, List, [], ◌++◌, sym, ◌∙◌, ap, subst, arith}
use Rattle.std.specs.Str.{chars}
use lib.Utf8.{encode}
use Rattle.xpath_values.proofs.Fronts.{IsParted, parted_none, parted_more, parted_front, parted_rest, short_front, short_rest, cut_front, cut_rest, cut_boundary, cut_fits, at_end, at_more, ended}
use Rattle.xpath_values.proofs.texts.split_behind.Goals as goal
use Rattle.xpath_values.proofs.texts.split_behind.Goals.{After-as_str, After-split_at}

pub loop-init : goal.loop-init
loop-init c = ([], subst (λ t. IsParted c.args.text.now [] t 0) (sym c.chars-rest.ensures.rest) (parted_none c.args.text.now c.utf8.text))

pub returns-then-is_none-clause-front : goal.returns-then-is_none-clause-front
returns-then-is_none-clause-front c =
    short_front c.args.text.now c.loop.invariant.0 c.loop.rest.rest.now c.loop.counter c.args.count c.loop.invariant.1 (at_end _ _ c.next.result c.if-is_none.ensures c.next.ensures.steps) (omega arith)

pub returns-then-is_none-clause-rest : goal.returns-then-is_none-clause-rest
returns-then-is_none-clause-rest c =
    short_rest c.args.text.now c.loop.invariant.0 c.loop.rest.rest.now c.loop.counter c.args.count c.loop.invariant.1 (at_end _ _ c.next.result c.if-is_none.ensures c.next.ensures.steps) (omega arith)

pub loop-preserved : goal.loop-preserved
loop-preserved c =
    let (character, past) = at_more c.loop.rest c.next.new.self c.next.result c.if-is_none.ensures c.next.ensures.steps in
    (c.loop.invariant.0 ++ encode character, parted_more c.args.text.now c.loop.invariant.0 c.loop.rest.rest.now c.next.new.self.rest.now character c.loop.counter c.loop.invariant.1 past)

parts : (c : After-as_str) → (front : List ℕ) × IsParted c.args.text.now front c.as_str.result.now c.args.count
parts c = ended c.args.text.now c.loop.rest.rest.now c.as_str.result.now c.loop.counter c.args.count c.loop.invariant (omega arith) c.as_str.ensures

pub overflow_sub-text : goal.overflow_sub-text
overflow_sub-text c = let is = parts c in cut_fits c.args.text.now is.0 c.as_str.result.now is.1.whole

pub split_at-requires : goal.split_at-requires
split_at-requires c = let is = parts c in cut_boundary c.args.text.now is.0 c.as_str.result.now is.1.whole is.1.rest_utf8

pub returns-clause-front : goal.returns-clause-front
returns-clause-front c =
    let is = ended c.args.text.now c.loop.rest.rest.now c.as_str.result.now c.loop.counter c.args.count c.loop.invariant (omega arith) c.as_str.ensures in
    ap chars (c.split_at.ensures.front ∙ cut_front c.args.text.now is.0 c.as_str.result.now is.1.whole) ∙ parted_front c.args.text.now is.0 c.as_str.result.now c.args.count is.1

pub returns-clause-rest : goal.returns-clause-rest
returns-clause-rest c =
    let is = ended c.args.text.now c.loop.rest.rest.now c.as_str.result.now c.loop.counter c.args.count c.loop.invariant (omega arith) c.as_str.ensures in
    ap chars (c.split_at.ensures.back ∙ cut_rest c.args.text.now is.0 c.as_str.result.now is.1.whole) ∙ parted_rest c.args.text.now is.0 c.as_str.result.now c.args.count is.1
