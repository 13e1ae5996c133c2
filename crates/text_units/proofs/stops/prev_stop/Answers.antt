use Rattle.std.proofs.Common.{Ok, refl, sym, ap, ◌∙◌}
use Rattle.unicode_segmentation.specs.Cursor.{IsPrevBoundary}
use Rattle.unicode_segmentation.proofs.CursorLemmas.{IsChunkOf-whole}
use Rattle.text_units.specs.Boundaries.{IsPlace}
use Rattle.text_units.specs.Stops.{IsPrevStop}
use Rattle.text_units.proofs.BoundaryLemmas.{IsPlace-boundary}
use Rattle.text_units.proofs.StopLemmas.{StartsAt, IsPrevStop-from_cursor, IfSome-weaker, prev_stop-is}
use Rattle.text_units.proofs.stops.prev_stop.Goals as goal

pub unwrap-requires : goal.unwrap-requires
unwrap-requires c =
    let made = c.new-cursor.ensures in
    c.prev_boundary.ensures.whole _ (made.on _ c.utf8.text refl c.requires) (IsChunkOf-whole _ c.utf8.text) refl refl made.fresh.1

pub returns-clause-nearest : goal.returns-clause-nearest
returns-clause-nearest c =
    let text = c.args.text.now in
    let made = c.new-cursor.ensures in
    let on = made.on text c.utf8.text refl c.requires in
    let chunk = IsChunkOf-whole text c.utf8.text in
    let found = rw c.unwrap.ensures at (c.prev_boundary.ensures.found text on chunk) in
    let starts : StartsAt c.new-cursor.result c.args.at =
    record { offset = made.offset; is_extended = made.is_extended; is_fresh = made.fresh.0 } in
    IfSome-weaker (IsPrevBoundary _ _ text) (IsPrevStop text c.args.at) c.unwrap.result
    (IsPrevStop-from_cursor text c.utf8.text _ _ c.args.at starts (c.prev_boundary.ensures.on text on chunk)) found

pub returns-clause-value : goal.returns-clause-value
returns-clause-value c =
    prev_stop-is c.args.text.now c.args.at c.unwrap.result
    (λ none. sym c.new-cursor.ensures.offset ∙ c.prev_boundary.ensures.start.0 (c.unwrap.ensures ∙ ap Ok none)) (returns-clause-nearest c)

pub returns-clause-place : goal.returns-clause-place
returns-clause-place c =
    let text = c.args.text.now in
    IfSome-weaker (IsPrevStop text c.args.at) (IsPlace text) c.unwrap.result (λ stop prev. IsPlace-boundary text stop c.utf8.text prev.boundary)
    (returns-clause-nearest c)
