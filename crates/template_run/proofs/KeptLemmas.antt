-- Kept results, put together, are the whole.
use Rattle.std.proofs.Common.{◌≡◌, ℕ, zero, suc, ◌++◌, List, [], ◌∷◌, Option, Some, refl, sym, ◌∙◌}
use Rattle.serna_kinds.specs.Names.{NameParts}
use Rattle.source_model.specs.Source.{Source}
use Rattle.result_origin.specs.Parts.{Mark, ResultPart, Says, Hole, filled}
use Rattle.result_origin.specs.Assembled.{resolved}
use Rattle.style_sheet.specs.Sheet.{StyleValue}
use Rattle.instance_store.specs.declared.request.Request.{Request}
use Rattle.instance_store.specs.declared.request.Place.{Place}
use Rattle.instance_store.specs.declared.request.Asked.{Asked}
use Rattle.template_run.specs.Batch.{frag, whole}
use Rattle.template_run.specs.Kept.{FitParts, NoneFits, Holds}

-- parts that fit, filled alike, are equal
fit_filled : (FitsAt : ℕ → Asked → Type 0) (f : ℕ → List Mark) (g : Asked → List Mark) (kept : List (ResultPart ℕ))
    (parts : List (ResultPart Asked)) → ((id : ℕ) (asked : Asked) → FitsAt id asked → f id ≡ g asked) → FitParts FitsAt kept parts →
    filled f kept ≡ filled g parts
fit_filled FitsAt f g [] [] alike fit = refl
fit_filled FitsAt f g [] (part ∷ parts) alike fit = absurd fit
fit_filled FitsAt f g (Says mark ∷ kept) [] alike fit = absurd fit
fit_filled FitsAt f g (Hole id ∷ kept) [] alike fit = absurd fit
fit_filled FitsAt f g (Says mark ∷ kept) (Says other ∷ parts) alike fit = λ i. (fit.0 i) ∷ (fit_filled FitsAt f g kept parts alike fit.1 i)
fit_filled FitsAt f g (Says mark ∷ kept) (Hole asked ∷ parts) alike fit = absurd fit
fit_filled FitsAt f g (Hole id ∷ kept) (Says other ∷ parts) alike fit = absurd fit
fit_filled FitsAt f g (Hole id ∷ kept) (Hole asked ∷ parts) alike fit =
    λ i. (alike id asked fit.0 i) ++ (fit_filled FitsAt f g kept parts alike fit.1 i)

whole-zero : (names : List NameParts) (style : StyleValue) (request : Request) (place : Place) (source : Source) →
    whole names style zero request place source ≡ filled (λ (asked : Asked). []) (frag names style zero request place source)
unfolding whole
whole-zero names style request place source = refl

whole-suc : (names : List NameParts) (style : StyleValue) (left : ℕ) (request : Request) (place : Place) (source : Source) →
    whole names style (suc left) request place source
    ≡ filled (λ (asked : Asked). whole names style left asked.request asked.place source) (frag names style (suc left) request place source)
unfolding whole
whole-suc names style left request place source = refl

-- what is kept at a number, filled
resolved-suc : (kept : ℕ → Option (List (ResultPart ℕ))) (left id : ℕ) (parts : List (ResultPart ℕ)) → kept id ≡ Some parts →
    resolved kept (suc left) id ≡ filled (resolved kept left) parts
unfolding resolved
resolved-suc kept left id parts is = rw (is, resolved)

module _ (names : List NameParts) (style : StyleValue) (source : Source) (kept : ℕ → Option (List (ResultPart ℕ))) where
  holds-zero : (id : ℕ) (asked : Asked) → Holds names style source kept zero id asked →
      (parts : List (ResultPart ℕ)) × (kept id ≡ Some parts)
      × FitParts NoneFits parts (frag names style zero asked.request asked.place source)
  unfolding Holds
  holds-zero id asked h = h

  holds-suc : (left id : ℕ) (asked : Asked) → Holds names style source kept (suc left) id asked →
      (parts : List (ResultPart ℕ)) × (kept id ≡ Some parts)
      × FitParts (Holds names style source kept left) parts (frag names style (suc left) asked.request asked.place source)
  unfolding Holds
  holds-suc left id asked h = h

  pub kept_whole : (left id : ℕ) (asked : Asked) → Holds names style source kept left id asked →
      resolved kept (suc left) id ≡ whole names style left asked.request asked.place source
  kept_whole zero id asked h =
      let there = holds-zero id asked h in
      resolved-suc kept zero id there.0 there.1
      ∙ fit_filled NoneFits (resolved kept zero) (λ (one : Asked). []) there.0 (frag names style zero asked.request asked.place source)
      (λ n one fits. absurd fits) there.2
      ∙ sym (whole-zero names style asked.request asked.place source)
  kept_whole (suc left) id asked h =
      let there = holds-suc left id asked h in
      resolved-suc kept (suc left) id there.0 there.1
      ∙ fit_filled (Holds names style source kept left) (resolved kept (suc left))
      (λ (one : Asked). whole names style left one.request one.place source) there.0
      (frag names style (suc left) asked.request asked.place source) (kept_whole left) there.2
      ∙ sym (whole-suc names style left asked.request asked.place source)
