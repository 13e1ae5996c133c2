use Rattle.std.proofs.Common.{◌≡◌, ◌+◌, ◌∷◌, drop, sym, ap, ◌∙◌}
use Rattle.std.proofs.lemmas.Bool.{ne_eqb, eq-eqb}
use Rattle.std.proofs.lemmas.List.{drop_more}
use Rattle.source_steps.proofs.PairPlaces.{place_on, place_found}
use Rattle.source_steps.proofs.attributes.place_of.Goals as goal

pub pairs-preserved : goal.pairs-preserved
pairs-preserved c =
    let pair = c.index-pairs-place.result in
    let one : drop c.pairs.place c.args.pairs.now ≡ pair ∷ drop (c.pairs.place + 1) c.args.pairs.now =
    drop_more c.args.pairs.now c.pairs.place pair c.pairs-test.true ∙ ap (λ p. p ∷ drop (c.pairs.place + 1) c.args.pairs.now) (sym c.index-pairs-place.is) in
    place_on c.args.name c.args.pairs.now c.pairs.place pair one c.pairs.invariant (ne_eqb pair.name.0 c.args.name.0 c.if-pair-name.false)

pub returns-then-pair-name-clause-place : goal.returns-then-pair-name-clause-place
returns-then-pair-name-clause-place c =
    let pair = c.index-pairs-place.result in
    let one : drop c.pairs.place c.args.pairs.now ≡ pair ∷ drop (c.pairs.place + 1) c.args.pairs.now =
    drop_more c.args.pairs.now c.pairs.place pair c.pairs-test.true ∙ ap (λ p. p ∷ drop (c.pairs.place + 1) c.args.pairs.now) (sym c.index-pairs-place.is) in
    place_found c.args.name c.args.pairs.now c.pairs.place pair one c.pairs.invariant (eq-eqb pair.name.0 c.args.name.0 c.if-pair-name.true)
