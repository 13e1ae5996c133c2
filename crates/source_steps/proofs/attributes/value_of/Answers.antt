use Rattle.std.proofs.Common.{◌≡◌, Some, slice_get, sym, ap, ◌∙◌}
use Rattle.std.specs.Option.{option_map, option_copied}
use Rattle.serna_kinds.specs.declared.cells.AttrPair.{AttrPair}
use Rattle.source_steps.proofs.PairPlaces.{value_at, value_placed}
use Rattle.source_steps.proofs.attributes.value_of.Goals as goal

pub returns-in-Some : goal.returns-in-Some
returns-in-Some c =
    let e : Some c.in-Some.pair.now ≡ slice_get c.args.pairs.now c.place_of.result = ap option_copied (sym c.in-Some.is) ∙ c.at.ensures in
    ap (option_map (λ (p : AttrPair). p.value)) e ∙ ap (value_at c.args.pairs.now) c.place_of.ensures.place ∙ sym (value_placed c.args.name c.args.pairs.now)

pub returns-in-None : goal.returns-in-None
returns-in-None c =
    let e = ap option_copied (sym c.in-None.is) ∙ c.at.ensures in
    ap (option_map (λ (p : AttrPair). p.value)) e ∙ ap (value_at c.args.pairs.now) c.place_of.ensures.place ∙ sym (value_placed c.args.name c.args.pairs.now)
