use Rattle.std.proofs.Common.{◌≡◌, ◌+◌, ◌<◌, ◌≤◌, [], ◌∷◌, drop, length, get_or, drop-cons, add-one, subst, arith, sym, ◌∙◌}
use Rattle.std.proofs.lemmas.List.{drop_all}
use Rattle.content_model.proofs.Moment.{Moment, moment_start, moment_more, moment_end}
use Rattle.content_model.proofs.matching.matches.Goals as goal

pub loop-symbol-init : goal.loop-symbol-init
loop-symbol-init c = λ p e. moment_start p c.args.word.now c.args.nodes.now e c.in_ok-stacks.stacks c.in_ok-stacks.ensures

pub loop-symbol-preserved : goal.loop-symbol-preserved
loop-symbol-preserved c = λ p e.
    let word = c.args.word.now in
    let i = c.loop-symbol.symbol-index in
    let within : i < length word = omega arith in
    let next : drop i word ≡ get_or word i 0 ∷ drop (i + 1) word = rw add-one (drop-cons word i 0 within) in
    let before = subst (λ rest. Moment p word rest c.loop-symbol.stacks c.loop-symbol.begins c.loop-symbol.ends) next (c.loop-symbol.invariant p e) in
    moment_more p word (drop (i + 1) word) (get_or word i 0) c.args.nodes.now e c.loop-symbol.stacks c.loop-symbol.begins c.loop-symbol.ends before
    c.advance.new.stacks c.in_ok-ends.ends c.in_ok-ends.ensures.ends c.in_ok-ends.ensures.stacks

pub returns : goal.returns
returns c = λ p e n.
    let word = c.args.word.now in
    let i = c.loop-symbol.symbol-index in
    let past : length word ≤ i = omega arith in
    let none : drop i word ≡ [] = drop_all i word past in
    let last = subst (λ rest. Moment p word rest c.loop-symbol.stacks c.loop-symbol.begins c.loop-symbol.ends) none (c.loop-symbol.invariant p e) in
    let both = moment_end p word c.loop-symbol.stacks c.loop-symbol.begins c.loop-symbol.ends c.args.nullable n last in
    (λ yes. both.0 (sym c.is_whole.ensures ∙ yes), λ matched. c.is_whole.ensures ∙ both.1 matched)
