use Rattle.std.proofs.Common.{Ok, refl, sym, ap, ◌∙◌}
use Rattle.unicode_segmentation.specs.Cursor.{IsNextBoundary}
use Rattle.unicode_segmentation.proofs.CursorLemmas.{IsChunkOf-whole}
use Rattle.text_units.specs.Boundaries.{IsPlace}
use Rattle.text_units.specs.Stops.{IsNextStop}
use Rattle.text_units.proofs.BoundaryLemmas.{IsPlace-boundary}
use Rattle.text_units.proofs.StopLemmas.{StartsAt, IsNextStop-from_cursor, IfSome-weaker, next_stop-is}
use Rattle.text_units.proofs.stops.next_stop.Goals as goal

pub unwrap-requires : goal.unwrap-requires
unwrap-requires c =
    let made = c.new-cursor.ensures in
    c.next_boundary.ensures.whole _ (made.on _ c.utf8.text refl c.requires) (IsChunkOf-whole _ c.utf8.text) refl refl made.fresh.1

pub returns-clause-nearest : goal.returns-clause-nearest
returns-clause-nearest c =
    let text = c.args.text.now in
    let made = c.new-cursor.ensures in
    let on = made.on text c.utf8.text refl c.requires in
    let chunk = IsChunkOf-whole text c.utf8.text in
    let found = rw c.unwrap.ensures at (c.next_boundary.ensures.found text on chunk) in
    let starts : StartsAt c.new-cursor.result c.args.at =
    record { offset = made.offset; is_extended = made.is_extended; is_fresh = made.fresh.0 } in
    IfSome-weaker (IsNextBoundary _ _ text) (IsNextStop text c.args.at) c.unwrap.result
    (IsNextStop-from_cursor text c.utf8.text _ _ c.args.at starts (c.next_boundary.ensures.on text on chunk)) found

pub returns-clause-value : goal.returns-clause-value
returns-clause-value c =
    let made = c.new-cursor.ensures in
    next_stop-is c.args.text.now c.args.at c.unwrap.result c.utf8.text
    (λ none. sym made.offset ∙ c.next_boundary.ensures.end.0 (c.unwrap.ensures ∙ ap Ok none) ∙ made.len) (returns-clause-nearest c)

pub returns-clause-place : goal.returns-clause-place
returns-clause-place c =
    let text = c.args.text.now in
    IfSome-weaker (IsNextStop text c.args.at) (IsPlace text) c.unwrap.result (λ stop next. IsPlace-boundary text stop c.utf8.text next.boundary)
    (returns-clause-nearest c)
