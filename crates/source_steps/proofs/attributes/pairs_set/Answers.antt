use Rattle.std.proofs.Common.{◌≡◌, ◌+◌, ◌∷◌, ◌++◌, take, drop, refl}
use Rattle.std.proofs.lemmas.Result.{IfOk-weaker}
use Rattle.source_model.specs.Attributes.{pair_of, with_value}
use Rattle.source_steps.proofs.PairPlaces.{set_within, set_behind}
use Rattle.source_steps.proofs.attributes.pairs_set.Goals as goal

pub returns-then-place-pairs : goal.returns-then-place-pairs
returns-then-place-pairs c =
    let place = c.place_of-place.result in
    IfOk-weaker c.pairs_with.result
    (λ left. left ≡ take place c.args.pairs.now ++ pair_of c.args.name c.args.value.now ∷ drop (place + 1) c.args.pairs.now)
    (λ left. left ≡ with_value c.args.name c.args.value.now c.args.pairs.now)
    (λ left e. set_within c.args.name c.args.value.now c.args.pairs.now left place (place + 1) c.place_of-place.ensures.place c.if-place-pairs.true refl e)
    c.pairs_with.ensures

pub returns-else-place-pairs : goal.returns-else-place-pairs
returns-else-place-pairs c =
    let place = c.place_of-place.result in
    IfOk-weaker c.pairs_with-else-place-pairs.result
    (λ left. left ≡ take place c.args.pairs.now ++ pair_of c.args.name c.args.value.now ∷ drop place c.args.pairs.now)
    (λ left. left ≡ with_value c.args.name c.args.value.now c.args.pairs.now)
    (λ left e. set_behind c.args.name c.args.value.now c.args.pairs.now left place c.place_of-place.ensures.place c.if-place-pairs.false e)
    c.pairs_with-else-place-pairs.ensures
