use Rattle.std.proofs.Common.{◌≡◌, ◌+◌, ◌++◌, take, drop}
use Rattle.std.proofs.lemmas.Result.{IfOk-weaker}
use Rattle.source_model.specs.Attributes.{without_name}
use Rattle.source_steps.proofs.PairPlaces.{unset_within, unset_none}
use Rattle.source_steps.proofs.attributes.pairs_unset.Goals as goal

pub returns-then-place-pairs : goal.returns-then-place-pairs
returns-then-place-pairs c =
    let place = c.place_of-place.result in
    IfOk-weaker c.pairs_without.result
    (λ left. left ≡ take place c.args.pairs.now ++ drop (place + 1) c.args.pairs.now)
    (λ left. left ≡ without_name c.args.name c.args.pairs.now)
    (λ left e. unset_within c.args.name c.args.pairs.now left place c.place_of-place.ensures.place c.if-place-pairs.true e)
    c.pairs_without.ensures

pub returns-else-place-pairs : goal.returns-else-place-pairs
returns-else-place-pairs c =
    IfOk-weaker c.pairs_shared.result
    (λ left. left ≡ c.args.pairs.now)
    (λ left. left ≡ without_name c.args.name c.args.pairs.now)
    (λ left e. unset_none c.args.name c.args.pairs.now left c.place_of-place.result c.place_of-place.ensures.place c.if-place-pairs.false e)
    c.pairs_shared.ensures
