use Rattle.std.proofs.Common.{refl, ap, subst, length, arith}
use Rattle.index_lists.specs.declared.links.Links.{Links}
use Rattle.index_lists.specs.Side.{Side, IsSound, Extends}
use Rattle.index_lists.specs.Links.{side_of}
use Rattle.index_lists.proofs.LinkLemmas.{SameLinks, same_chained, same_extends, sound_side, places_kept, ends_resized}
use Rattle.index_lists.proofs.side.Chains.grow_lists.Goals as goal

pub returns-then-lists-gt-NUMBERS-clause-sound : goal.returns-then-lists-gt-NUMBERS-clause-sound
returns-then-lists-gt-NUMBERS-clause-sound c = subst IsSound c.self.view_is (sound_side c.self.inside.links c.self.invariant.0)

pub invariant_of-self : goal.invariant_of-self
invariant_of-self c =
    let k : Links = c.self.inside.links in
    let k' : Links = record { places = c.self.inside.links.places; ends = c.resize.new.self } in
    let same : SameLinks k k' = places_kept k k' c.in_err-resize.ensures.items refl in
    (same_chained k k' c.self.invariant.0 same, (c.self.invariant.1.0, omega (arith, ap length c.in_err-resize.ensures.items, c.self.invariant.1.1)))

pub returns-in_err-resize-clause-sound : goal.returns-in_err-resize-clause-sound
returns-in_err-resize-clause-sound c =
    let k : Links = c.self.inside.links in
    let k' : Links = record { places = c.self.inside.links.places; ends = c.resize.new.self } in
    sound_side k' (invariant_of-self c).0

pub invariant_of-self-2 : goal.invariant_of-self-2
invariant_of-self-2 c =
    let k : Links = c.self.inside.links in
    let k' : Links = record { places = c.self.inside.links.places; ends = c.resize.new.self } in
    let same : SameLinks k k' = ends_resized k k' c.max-lists.result _ c.none.result refl c.in_ok-resize.ensures.items c.none.ensures (omega arith) in
    (same_chained k k' c.self.invariant.0 same, (c.self.invariant.1.0, omega (arith, c.in_ok-resize.ensures.len, c.resize.new.self.ok.0, c.if-lists-gt-NUMBERS.false)))

pub returns-clause-extends : goal.returns-clause-extends
returns-clause-extends c =
    let k : Links = c.self.inside.links in
    let k' : Links = record { places = c.self.inside.links.places; ends = c.resize.new.self } in
    let same : SameLinks k k' = ends_resized k k' c.max-lists.result _ c.none.result refl c.in_ok-resize.ensures.items c.none.ensures (omega arith) in
    subst (λ (s : Side). Extends s (side_of k')) c.self.view_is (same_extends k k' c.self.invariant.0 same)

pub returns-clause-sound : goal.returns-clause-sound
returns-clause-sound c =
    let k' : Links = record { places = c.self.inside.links.places; ends = c.resize.new.self } in
    sound_side k' (invariant_of-self-2 c).0
