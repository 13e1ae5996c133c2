use Rattle.std.proofs.Common.{◌≡◌, ℕ, List, [], ◌∷◌, ◌++◌, Option, None, Some, IfOk, subst, sym, ◌∙◌, ap, append_assoc, append-nil}
use Rattle.std.specs.List.{filter_map, cons_option}
use Rattle.std.specs.Option.{option_to_list}
use Rattle.std.specs.Str.{chars}
use Rattle.std.proofs.lemmas.Str.{chars_past_char, IsUtf8-past_char}
use Rattle.xpath_values.specs.Texts.{translation, translated}
use Rattle.xpath_values.proofs.Characters.{chars_none}
use Rattle.xpath_values.proofs.texts.translate.Goals as goal

translated_more : (g : ℕ → Option ℕ) (out rest : List ℕ) (c : ℕ) (o : Option ℕ) → o ≡ g c → (out ++ option_to_list o) ++ filter_map g rest ≡ out ++ filter_map g (c ∷ rest)
translated_more g out rest c None e = ap (λ t. t ++ filter_map g rest) (append-nil out) ∙ ap (λ o. out ++ cons_option o (filter_map g rest)) e
translated_more g out rest c (Some other) e = append_assoc out (other ∷ []) (filter_map g rest) ∙ ap (λ o. out ++ cons_option o (filter_map g rest)) e

pub loop-character-preserved : goal.loop-character-preserved
loop-character-preserved c =
    let rest : List ℕ = c.next.new.self.rest.now in
    let from : List ℕ = chars c.args.from.now in
    let to : List ℕ = chars c.args.to.now in
    let utf8 = c.loop-character.invariant.0 in
    let past = c.in-Some.ensures.steps.0 in (
      IsUtf8-past_char _ rest c.in-Some.character utf8 past,
      ap (λ t. t ++ translated (chars rest) from to) c.in_ok-push_some.ensures
          ∙ (translated_more (translation from to) c.loop-character.outcome (chars rest) c.in-Some.character c.translation.result c.translation.ensures
          ∙ (ap (λ t. c.loop-character.outcome ++ translated t from to) (sym (chars_past_char _ rest c.in-Some.character utf8 past)) ∙ c.loop-character.invariant.1)),
    )

pub returns : goal.returns
returns c =
    let from : List ℕ = chars c.args.from.now in
    let to : List ℕ = chars c.args.to.now in
    let P : List ℕ → Type 0 = λ t. IfOk c.into_chars.result (λ text. text ≡ t) in
    subst P (sym (append-nil c.loop-character.outcome)
    ∙ (ap (λ t. c.loop-character.outcome ++ translated t from to) (sym (chars_none _ c.in-None.ensures.steps.0.0)) ∙ c.loop-character.invariant.1)) c.into_chars.ensures
