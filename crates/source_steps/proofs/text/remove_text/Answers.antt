use Rattle.std.proofs.Common.{◌≡◌, ℕ, List, encode_utf8_all, sym, ap, ◌∙◌, subst}
use Rattle.std.specs.Str.{chars}
use Rattle.std.proofs.lemmas.Str.{chars_from_encodes}
use Rattle.source_model.specs.Changes.{between}
use Rattle.source_primitives.specs.declared.primitive.Primitive.TheVariants.{InsertText}
use Rattle.serna_kinds.specs.Texts.{IsPlaceIn}
use Rattle.source_steps.proofs.TextBytes.{boundary_of, bytes_between}
use Rattle.source_steps.proofs.text.remove_text.Goals as goal

pub range-requires-clause-start_boundary : goal.range-requires-clause-start_boundary
range-requires-clause-start_boundary c _ =
    boundary_of c.text_in-text.result.now c.args.from c.text_in-text.utf8 (subst (λ t. IsPlaceIn t c.args.from) (sym c.text_in-text.ensures) c.requires.from)

pub range-requires-clause-end_boundary : goal.range-requires-clause-end_boundary
range-requires-clause-end_boundary c =
    boundary_of c.text_in-text.result.now c.args.to c.text_in-text.utf8 (subst (λ t. IsPlaceIn t c.args.to) (sym c.text_in-text.ensures) c.requires.to)

pub returns-clause-undoing : goal.returns-clause-undoing
returns-clause-undoing c =
    let text = c.text_in-text.result.now in
    let from = subst (λ t. IsPlaceIn t c.args.from) (sym c.text_in-text.ensures) c.requires.from in
    let to = subst (λ t. IsPlaceIn t c.args.to) (sym c.text_in-text.ensures) c.requires.to in
    let piece : List ℕ = between c.args.from c.args.to (chars text) in
    let bytes : c.range.result.now ≡ encode_utf8_all piece = c.range.ensures.value ∙ bytes_between text c.args.from c.args.to c.text_in-text.utf8 from to c.requires.order in
    ap (InsertText c.args.node c.args.from)
    (c.in_ok-piece.ensures ∙ sym (chars_from_encodes piece c.range.result.now c.range.utf8 (sym bytes)) ∙ ap (between c.args.from c.args.to) c.text_in-text.ensures)
