use Rattle.std.proofs.Common.{ℕ, List, [], ◌∷◌, ◌++◌, length, ◌∙◌, refl, sym, ap, true≢false}
use Rattle.std.proofs.lemmas.Result.{on_ok_weaker}
use Rattle.result_origin.specs.declared.origin.Origin.TheVariants as origin
use Rattle.result_origin.specs.Parts.{Says, Run}
use Rattle.template_run.specs.Requests.{applied_to}
use Rattle.template_run.proofs.LogLemmas.{own_kids}
use Rattle.template_run.proofs.SpotLemmas.{into_parts, kids_parts}
use Rattle.template_run.proofs.body.Site.add_kids.Goals as goal

pub returns-in_err-kids-clause-within : goal.returns-in_err-kids-clause-within
returns-in_err-kids-clause-within g c allowed cells = c.children_of.ensures.within allowed (own_kids allowed c.args.node cells)

pub returns-in_err-nothing-clause-within : goal.returns-in_err-nothing-clause-within
returns-in_err-nothing-clause-within g c allowed cells = c.children_of.ensures.within allowed (own_kids allowed c.args.node cells)

pub returns-then-is_childless_element-clause-within : goal.returns-then-is_childless_element-clause-within
returns-then-is_childless_element-clause-within g c allowed cells = c.children_of.ensures.within allowed (own_kids allowed c.args.node cells)

pub returns-clause-within : goal.returns-clause-within
returns-clause-within g c allowed cells = c.children_of.ensures.within allowed (own_kids allowed c.args.node cells)

pub returns-then-is_childless_element-clause-value : goal.returns-then-is_childless_element-clause-value
returns-then-is_childless_element-clause-value g c =
    on_ok_weaker c.say_run.result
    (λ said source spot agrees at is.
    let empty = c.if-is_childless_element.ensures.0 refl in
    said
    ∙ ap (λ (t : List ℕ). c.args.out.now ++ Says (Run t (origin.Into c.args.node)) ∷ []) c.in_ok-nothing.ensures
    ∙ ap (λ ps. c.args.out.now ++ ps)
    (into_parts c.args.mode c.args.node spot.body spot.kids (is ∙ empty.0)
    (ap length (sym (c.in_ok-kids.ensures.value source spot agrees at)) ∙ empty.1)))
    c.say_run.ensures

pub returns-clause-value : goal.returns-clause-value
returns-clause-value g c =
    on_ok_weaker c.apply.result
    (λ asked source spot agrees at is.
    asked
    ∙ ap (λ ps. c.args.out.now ++ ps)
    (ap (applied_to c.args.mode) (c.in_ok-kids.ensures.value source spot agrees at)
    ∙ kids_parts c.args.mode c.args.node spot.body spot.kids
    (λ element childless.
    true≢false (sym (c.if-is_childless_element.ensures.1 (sym is ∙ element, ap length (c.in_ok-kids.ensures.value source spot agrees at) ∙ childless))))))
    c.apply.ensures
