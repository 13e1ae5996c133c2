use Rattle.std.proofs.Common.{◌≡◌, ℕ, List, false, IfOk, sym, subst, ◌∙◌, ap}
use Rattle.std.specs.Str.{chars}
use Rattle.std.proofs.lemmas.Str.{chars_past_char, IsUtf8-past_char}
use Rattle.xpath_values.proofs.Characters.{chars_none}
use Rattle.xpath_values.proofs.WordsOf.{finished, finished_space, finished_ink, finished_end}
use Rattle.xpath_values.proofs.texts.normalize_space.Goals as goal

pub loop-character-preserved-then-is_space : goal.loop-character-preserved-then-is_space
loop-character-preserved-then-is_space c =
    let rest : List ℕ = c.next.new.self.rest.now in
    let utf8 = c.loop-character.invariant.0 in
    let past = c.in-Some.ensures.steps.0 in (
      IsUtf8-past_char _ rest c.in-Some.character utf8 past,
      sym (finished_space c.loop-character.normal c.loop-character.is_between c.in-Some.character (chars rest) (sym c.if-is_space.ensures))
          ∙ (ap (finished c.loop-character.normal c.loop-character.is_between) (sym (chars_past_char _ rest c.in-Some.character utf8 past)) ∙ c.loop-character.invariant.1),
    )

pub loop-character-preserved : goal.loop-character-preserved
loop-character-preserved c =
    let rest : List ℕ = c.next.new.self.rest.now in
    let utf8 = c.loop-character.invariant.0 in
    let past = c.in-Some.ensures.steps.0 in (
      IsUtf8-past_char _ rest c.in-Some.character utf8 past,
      ap (λ t. finished t false (chars rest)) c.in_ok-push_of_word.ensures
          ∙ (sym (finished_ink c.loop-character.normal c.loop-character.is_between c.in-Some.character (chars rest) (sym c.if-is_space.ensures))
          ∙ (ap (finished c.loop-character.normal c.loop-character.is_between) (sym (chars_past_char _ rest c.in-Some.character utf8 past)) ∙ c.loop-character.invariant.1)),
    )

pub returns : goal.returns
returns c =
    let P : List ℕ → Type 0 = λ t. IfOk c.into_chars.result (λ text. text ≡ t) in
    subst P (sym (finished_end c.loop-character.normal c.loop-character.is_between)
    ∙ (ap (finished c.loop-character.normal c.loop-character.is_between) (sym (chars_none _ c.in-None.ensures.steps.0.0)) ∙ c.loop-character.invariant.1)) c.into_chars.ensures
