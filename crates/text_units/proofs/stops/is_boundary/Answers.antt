use Rattle.std.proofs.Common.{refl, sym, ◌∙◌}
use Rattle.unicode_segmentation.proofs.CursorLemmas.{IsChunkOf-whole}
use Rattle.text_units.proofs.BoundaryLemmas.{IsBoundary-from_break, break_from-IsBoundary}
use Rattle.text_units.proofs.stops.is_boundary.Goals as goal

pub unwrap-requires : goal.unwrap-requires
unwrap-requires c =
    let made = c.new-cursor.ensures in
    c.is_boundary.ensures.whole _ (made.on _ c.utf8.text refl c.requires) (IsChunkOf-whole _ c.utf8.text) refl refl made.fresh.1

pub returns : goal.returns
returns c =
    let text = c.args.text.now in
    let made = c.new-cursor.ensures in
    let on = made.on text c.utf8.text refl c.requires in
    let told = rw (made.is_extended, made.offset) at (rw c.unwrap.ensures at (c.is_boundary.ensures.ok text on (IsChunkOf-whole text c.utf8.text))) in (
      λ yes. IsBoundary-from_break text c.args.at c.utf8.text c.requires (sym told ∙ yes),
      λ b. told ∙ break_from-IsBoundary text c.args.at c.utf8.text b,
    )
