use Rattle.std.proofs.Common.{ℕ, List, [], ◌∷◌, ◌++◌, ◌∙◌, ap}
use Rattle.std.proofs.lemmas.Result.{on_ok_weaker}
use Rattle.result_origin.specs.declared.origin.Origin.TheVariants as origin
use Rattle.result_origin.specs.Parts.{Says, Run}
use Rattle.template_run.proofs.LogLemmas.{own_text}
use Rattle.template_run.proofs.SpotLemmas.{text_parts}
use Rattle.template_run.proofs.body.Site.add_built_in.Goals as goal

pub returns-in_err-text-in-Text-clause-within : goal.returns-in_err-text-in-Text-clause-within
returns-in_err-text-in-Text-clause-within g c allowed cells = c.characters_of.ensures.within allowed (own_text allowed c.args.node cells)

pub returns-in_err-text-in-Text-2-clause-within : goal.returns-in_err-text-in-Text-2-clause-within
returns-in_err-text-in-Text-2-clause-within g c allowed cells = c.characters_of.ensures.within allowed (own_text allowed c.args.node cells)

pub returns-in_ok-text-in-Text-2-clause-within : goal.returns-in_ok-text-in-Text-2-clause-within
returns-in_ok-text-in-Text-2-clause-within g c allowed cells = c.characters_of.ensures.within allowed (own_text allowed c.args.node cells)

pub returns-in_ok-text-in-Text-2-clause-value : goal.returns-in_ok-text-in-Text-2-clause-value
returns-in_ok-text-in-Text-2-clause-value g c =
    on_ok_weaker c.say_run.result
    (λ said source spot agrees at is.
    said
    ∙ ap (λ (t : List ℕ). c.args.out.now ++ Says (Run t (origin.Text c.args.node 0)) ∷ [])
    (c.in_ok-text-in-Text-2.ensures ∙ c.in_ok-text-in-Text.ensures.value source spot agrees at)
    ∙ ap (λ ps. c.args.out.now ++ ps) (text_parts c.args.mode c.args.node spot spot.body (is ∙ c.in-Text.is)))
    c.say_run.ensures
