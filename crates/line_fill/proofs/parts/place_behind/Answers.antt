use Rattle.std.proofs.Common.{◌≡◌, ◌<◌, ◌≤◌, false, length, get_or, ap, sym, ◌∙◌, subst}
use Rattle.std.proofs.lemmas.List.{get_or_default}
use Rattle.serna_kinds.specs.Texts.{IsPlaceIn}
use Rattle.line_fill.specs.declared.clusters.Cluster.{Cluster}
use Rattle.line_fill.specs.Clusters.{place_behind}
use Rattle.line_fill.proofs.Places.{start_behind, end_behind, is_place}
use Rattle.line_fill.proofs.parts.place_behind.Goals as goal

pub returns-in-Some : goal.returns-in-Some
returns-in-Some c =
    let none : Cluster = record { start = 0; width = 0; is_space = false } in
    let lt : c.args.count < length c.args.clusters.now = c.in-Some.ensures.lookup.3.0 in
    let here : c.in-Some.cluster.now ≡ get_or c.args.clusters.now c.args.count none
    = c.in-Some.ensures.lookup.1 ∙ get_or_default c.args.clusters.now c.args.count c.in-Some.cluster.now none lt in
    let value : c.in-Some.cluster.now.start ≡ place_behind c.args.run.now c.args.count
    = ap (λ (cluster : Cluster). cluster.start) here
    ∙ (ap (λ clusters. (get_or clusters c.args.count none).start) c.requires
    ∙ start_behind c.args.run.now c.args.count none (subst (λ clusters. c.args.count < length clusters) c.requires lt)) in
    record {
      value = value;
      place = subst (IsPlaceIn c.args.run.now.text) (sym value)
          (is_place c.args.run.now c.as_text-text.result.now c.args.count c.as_text-text.ensures.characters c.as_text-text.ensures.bytes c.as_text-text.utf8);
    }

pub returns-in-None : goal.returns-in-None
returns-in-None c =
    let le : length c.args.clusters.now ≤ c.args.count = c.in-None.ensures.lookup.3 in
    let value : length c.as_text-text.result.now ≡ place_behind c.args.run.now c.args.count
    = end_behind c.args.run.now c.as_text-text.result.now c.args.count c.as_text-text.ensures.bytes c.as_text-text.utf8 (subst (λ clusters. length clusters ≤ c.args.count) c.requires le) in
    record {
      value = value;
      place = subst (IsPlaceIn c.args.run.now.text) (sym value)
          (is_place c.args.run.now c.as_text-text.result.now c.args.count c.as_text-text.ensures.characters c.as_text-text.ensures.bytes c.as_text-text.utf8);
    }
