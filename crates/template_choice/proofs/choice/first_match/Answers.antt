use Rattle.std.proofs.Common.{get_or, sym, ap, ◌∙◌, subst, Bor}
use Rattle.std.specs.Option.{option_map}
use Rattle.std.proofs.lemmas.Option.{slice_get-get_or}
use Rattle.style_sheet.specs.declared.style.Rule.{Rule}
use Rattle.template_choice.proofs.Choosing.{read_at, none_before-more, first_is_best, none_is_best, passes, both, first_fails, second_fails}
use Rattle.template_choice.proofs.choice.first_match.Goals.{else-can_answer-via-then-can_answer+in_ok-matches+else-branch, else-can_answer-via-else-can_answer}
use Rattle.template_choice.proofs.choice.first_match.Goals as goal

pub returns-then-branch-clause-value : goal.returns-then-branch-clause-value
returns-then-branch-clause-value g c relation agrees =
    let numbers = c.greatest_first-number-items.result.now in
    let i = c.loop-number.number-index in
    first_is_best c.args.style.now.rules numbers
    (passes c.args.wanted.mode (option_map (λ (rule : Bor Rule). rule.now) c.args.wanted.asking) (λ n. relation n c.args.request.now.node)) i (get_or numbers i 0) _ c.greatest_first-number-items.ensures (c.loop-number.invariant.2 relation (c.matches.ensures.before relation agrees))
    (slice_get-get_or numbers i 0 c.loop-number-test.true)
    (read_at c.args.style.now.rules c.rules-rules.result.now numbers i _ c.greatest_first-number-items.ensures c.loop-number-test.true c.rules-rules.ensures.rules)
    (both _ _ (sym c.can_answer.ensures ∙ c.if-can_answer.true) (sym (c.in_ok-matches.ensures.value relation agrees) ∙ c.if-branch.true))

pub loop-number-preserved : goal.loop-number-preserved
loop-number-preserved g c =
    let numbers = c.greatest_first-number-items.result.now in
    let i = c.loop-number.number-index in
    let here = slice_get-get_or numbers i 0 c.loop-number-test.true in
    let known = c.greatest_first-number-items.ensures.known i (get_or numbers i 0) here in
    elim c.else-can_answer.branch [
      | else-can_answer-via-then-can_answer+in_ok-matches+else-branch w ↦ (
        (ap g.M.Matcher.part w.matcher-is ∙ w.matches.ensures.part ∙ c.loop-number.invariant.0),
        (λ relation agrees. c.loop-number.invariant.1 relation (w.matches.ensures.before relation (subst (λ m. g.M.Matcher.agrees m relation) w.matcher-is agrees))),
        (λ relation agrees.
            let now : g.M.Matcher.agrees w.matches.new.self relation = subst (λ m. g.M.Matcher.agrees m relation) w.matcher-is agrees in
            none_before-more c.args.style.now.rules numbers
            (passes c.args.wanted.mode (option_map (λ (rule : Bor Rule). rule.now) c.args.wanted.asking) (λ n. relation n c.args.request.now.node)) i (get_or numbers i 0) known.0 here known.1
            (second_fails _ _ (sym (w.in_ok-matches.ensures.value relation now) ∙ w.if-branch.false)) (c.loop-number.invariant.2 relation (w.matches.ensures.before relation now))),
      )
      | else-can_answer-via-else-can_answer w ↦ (
        (ap g.M.Matcher.part w.matcher-is ∙ c.loop-number.invariant.0),
        (λ relation agrees. c.loop-number.invariant.1 relation (subst (λ m. g.M.Matcher.agrees m relation) w.matcher-is agrees)),
        (λ relation agrees.
            none_before-more c.args.style.now.rules numbers
            (passes c.args.wanted.mode (option_map (λ (rule : Bor Rule). rule.now) c.args.wanted.asking) (λ n. relation n c.args.request.now.node)) i (get_or numbers i 0) _ here
            (read_at c.args.style.now.rules c.rules-rules.result.now numbers i _ c.greatest_first-number-items.ensures c.loop-number-test.true c.rules-rules.ensures.rules)
            (first_fails _ _ (sym c.can_answer.ensures ∙ w.if-can_answer.false)) (c.loop-number.invariant.2 relation (subst (λ m. g.M.Matcher.agrees m relation) w.matcher-is agrees))),
      )
    ]

pub returns-clause-value : goal.returns-clause-value
returns-clause-value g c relation agrees =
    none_is_best c.args.style.now.rules c.greatest_first-number-items.result.now
    (passes c.args.wanted.mode (option_map (λ (rule : Bor Rule). rule.now) c.args.wanted.asking) (λ n. relation n c.args.request.now.node)) c.loop-number.number-index
    c.greatest_first-number-items.ensures (c.loop-number.invariant.2 relation agrees) c.loop-number-test.false
