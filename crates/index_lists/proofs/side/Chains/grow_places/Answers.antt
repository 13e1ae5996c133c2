use Rattle.std.proofs.Common.{refl, ap, subst, length, arith}
use Rattle.index_lists.specs.declared.links.Links.{Links}
use Rattle.index_lists.specs.Side.{Side, IsSound, Extends}
use Rattle.index_lists.specs.Links.{side_of}
use Rattle.index_lists.proofs.LinkLemmas.{SameLinks, same_chained, same_extends, sound_side, places_kept, places_resized}
use Rattle.index_lists.proofs.side.Chains.grow_places.Goals as goal

pub returns-then-places-gt-NUMBERS-clause-sound : goal.returns-then-places-gt-NUMBERS-clause-sound
returns-then-places-gt-NUMBERS-clause-sound c = subst IsSound c.self.view_is (sound_side c.self.inside.links c.self.invariant.0)

pub invariant_of-self : goal.invariant_of-self
invariant_of-self c =
    let k : Links = c.self.inside.links in
    let k' : Links = record { places = c.resize.new.self; ends = c.self.inside.links.ends } in
    let same : SameLinks k k' = places_kept k k' refl c.in_err-resize.ensures.items in
    (same_chained k k' c.self.invariant.0 same, (omega (arith, ap length c.in_err-resize.ensures.items, c.self.invariant.1.0), c.self.invariant.1.1))

pub returns-in_err-resize-clause-sound : goal.returns-in_err-resize-clause-sound
returns-in_err-resize-clause-sound c =
    let k : Links = c.self.inside.links in
    let k' : Links = record { places = c.resize.new.self; ends = c.self.inside.links.ends } in
    sound_side k' (invariant_of-self c).0

pub invariant_of-self-2 : goal.invariant_of-self-2
invariant_of-self-2 c =
    let k : Links = c.self.inside.links in
    let k' : Links = record { places = c.resize.new.self; ends = c.self.inside.links.ends } in
    let same : SameLinks k k' = places_resized k k' c.max-places.result _ c.none.result refl c.in_ok-resize.ensures.items c.none.ensures (omega arith) in
    (same_chained k k' c.self.invariant.0 same, (omega (arith, c.in_ok-resize.ensures.len, c.resize.new.self.ok.0, c.if-places-gt-NUMBERS.false), c.self.invariant.1.1))

pub returns-clause-extends : goal.returns-clause-extends
returns-clause-extends c =
    let k : Links = c.self.inside.links in
    let k' : Links = record { places = c.resize.new.self; ends = c.self.inside.links.ends } in
    let same : SameLinks k k' = places_resized k k' c.max-places.result _ c.none.result refl c.in_ok-resize.ensures.items c.none.ensures (omega arith) in
    subst (λ (s : Side). Extends s (side_of k')) c.self.view_is (same_extends k k' c.self.invariant.0 same)

pub returns-clause-sound : goal.returns-clause-sound
returns-clause-sound c =
    let k' : Links = record { places = c.resize.new.self; ends = c.self.inside.links.ends } in
    sound_side k' (invariant_of-self-2 c).0
