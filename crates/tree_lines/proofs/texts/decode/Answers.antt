-- A character more, and the end.
use Rattle.std.proofs.Common.{ℕ, List, sym, ◌∙◌, ap}
use Rattle.std.specs.Str.{chars}
use Rattle.std.proofs.lemmas.Str.{chars_past_char, IsUtf8-past_char}
use Rattle.tree_lines.specs.Decoding.{text_with, right_with}
use Rattle.tree_lines.proofs.Characters.{chars_none}
use Rattle.tree_lines.proofs.texts.decode.Goals as goal

pub loop-c-preserved : goal.loop-c-preserved
loop-c-preserved c =
    let rest : List ℕ = c.next.new.self.rest.now in
    let utf8 = c.loop-c.invariant.0 in
    let past = c.in-Some.ensures.steps.0 in
    let more = sym (chars_past_char _ rest c.in-Some.c utf8 past) in (
      IsUtf8-past_char _ rest c.in-Some.c utf8 past,
      c.in_ok-push.ensures.text (chars rest) ∙ ap (text_with c.loop-c.decoder) more ∙ c.loop-c.invariant.1,
      c.in_ok-push.ensures.right (chars rest) ∙ ap (right_with c.loop-c.decoder) more ∙ c.loop-c.invariant.2,
    )

pub returns-clause-text : goal.returns-clause-text
returns-clause-text c =
    let last = sym (chars_none _ c.in-None.ensures.steps.0.0) in
    c.in_ok-decoded.ensures.text ∙ (ap (text_with c.loop-c.decoder) last ∙ c.loop-c.invariant.1)

pub returns-clause-right : goal.returns-clause-right
returns-clause-right c =
    let last = sym (chars_none _ c.in-None.ensures.steps.0.0) in
    c.in_ok-decoded.ensures.right ∙ (ap (right_with c.loop-c.decoder) last ∙ c.loop-c.invariant.2)
