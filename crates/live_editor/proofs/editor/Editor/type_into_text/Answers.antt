-- Characters are put into a text node that has room for them.
use Rattle.std.proofs.Common.{◌≡◌, ◌+◌, ◌∷◌, [], length, refl, sym, ap, ◌∙◌, subst, arith}
use Rattle.source_model.specs.Changes.{text_at}
use Rattle.source_primitives.specs.declared.primitive.Primitive.TheVariants.{InsertText}
use Rattle.source_primitives.specs.declared.primitive.CaretPlace.TheVariants.{Text}
use Rattle.plain_editor.specs.Editor.{Editor, Done, bytes_of, changed}
use Rattle.live_editor.specs.Held.{IsSoundEditor}
use Rattle.source_primitives.proofs.ShortTexts.{place_short}
use Rattle.live_editor.proofs.Typing.{room_there, text_revisions, text_done, text_sound, text_may}
use Rattle.live_editor.proofs.editor.Editor.type_into_text.Goals as goal

pub returns-then-self-ge-MAX_REVISIONS-clause-refused : goal.returns-then-self-ge-MAX_REVISIONS-clause-refused
returns-then-self-ge-MAX_REVISIONS-clause-refused c =
    let now : Editor = c.args.self.now in
    let sound : IsSoundEditor now = subst IsSoundEditor c.self.view_is c.self.invariant in
    let same : c.self.inside.source.source ≡ now.source = ap (λ (e : Editor). e.source) c.self.view_is in
    let revision : c.self.inside.revision ≡ now.revision = ap (λ (e : Editor). e.revision) c.self.view_is in
    let bytes : length c.as_text-more.result.now ≡ bytes_of c.args.text = ap length c.as_text-more.ensures.bytes in
    let short = room_there now c.args.node c.args.at c.text_len.result (length c.as_text-more.result.now) c.saturating_sub-room.result c.args.text sound c.requires.place
    (λ t is. c.text_len.ensures t (ap (λ s. text_at s c.args.node.0) same ∙ is)) bytes c.saturating_sub-room.ensures (omega (arith, c.if-more-room.false)) in
    (refl, text_revisions now c.args.text c.args.node c.args.at c.args.occurrence short (omega (arith, revision, c.if-self-ge-MAX_REVISIONS.true)))

pub overflow_add-place : goal.overflow_add-place
overflow_add-place c =
    let now : Editor = c.args.self.now in
    let sound : IsSoundEditor now = subst IsSoundEditor c.self.view_is c.self.invariant in
    let same : c.self.inside.source.source ≡ now.source = ap (λ (e : Editor). e.source) c.self.view_is in
    let bytes : length c.as_text-more.result.now ≡ bytes_of c.args.text = ap length c.as_text-more.ensures.bytes in
    let short = room_there now c.args.node c.args.at c.text_len.result (length c.as_text-more.result.now) c.saturating_sub-room.result c.args.text sound c.requires.place
    (λ t is. c.text_len.ensures t (ap (λ s. text_at s c.args.node.0) same ∙ is)) bytes c.saturating_sub-room.ensures (omega (arith, c.if-more-room.false)) in
    let near = place_short now.source now.names (Text c.args.node c.args.at) sound.proper c.requires.place in
    omega (arith, short, near, bytes)

pub change-requires-clause-may : goal.change-requires-clause-may
change-requires-clause-may c =
    let now : Editor = c.args.self.now in
    let sound : IsSoundEditor now = subst IsSoundEditor c.self.view_is c.self.invariant in
    let same : c.self.inside.source.source ≡ now.source = ap (λ (e : Editor). e.source) c.self.view_is in
    let bytes : length c.as_text-more.result.now ≡ bytes_of c.args.text = ap length c.as_text-more.ensures.bytes in
    let short = room_there now c.args.node c.args.at c.text_len.result (length c.as_text-more.result.now) c.saturating_sub-room.result c.args.text sound c.requires.place
    (λ t is. c.text_len.ensures t (ap (λ s. text_at s c.args.node.0) same ∙ is)) bytes c.saturating_sub-room.ensures (omega (arith, c.if-more-room.false)) in
    text_may now c.args.text c.args.node c.args.at c.requires.place short

pub change-requires-clause-sound : goal.change-requires-clause-sound
change-requires-clause-sound c =
    let now : Editor = c.args.self.now in
    let sound : IsSoundEditor now = subst IsSoundEditor c.self.view_is c.self.invariant in
    let same : c.self.inside.source.source ≡ now.source = ap (λ (e : Editor). e.source) c.self.view_is in
    let revision : c.self.inside.revision ≡ now.revision = ap (λ (e : Editor). e.revision) c.self.view_is in
    let bytes : length c.as_text-more.result.now ≡ bytes_of c.args.text = ap length c.as_text-more.ensures.bytes in
    let short = room_there now c.args.node c.args.at c.text_len.result (length c.as_text-more.result.now) c.saturating_sub-room.result c.args.text sound c.requires.place
    (λ t is. c.text_len.ensures t (ap (λ s. text_at s c.args.node.0) same ∙ is)) bytes c.saturating_sub-room.ensures (omega (arith, c.if-more-room.false)) in
    subst (λ n. IsSoundEditor (changed now (InsertText c.args.node c.args.at c.args.text ∷ []) (Text c.args.node (c.args.at + n)) c.args.occurrence)) (sym bytes)
    (text_sound now c.args.text c.args.node c.args.at c.args.occurrence sound c.requires.place short (omega (arith, revision, c.if-self-ge-MAX_REVISIONS.false)))

pub returns-clause-ok : goal.returns-clause-ok
returns-clause-ok c =
    let now : Editor = c.args.self.now in
    let sound : IsSoundEditor now = subst IsSoundEditor c.self.view_is c.self.invariant in
    let same : c.self.inside.source.source ≡ now.source = ap (λ (e : Editor). e.source) c.self.view_is in
    let revision : c.self.inside.revision ≡ now.revision = ap (λ (e : Editor). e.revision) c.self.view_is in
    let bytes : length c.as_text-more.result.now ≡ bytes_of c.args.text = ap length c.as_text-more.ensures.bytes in
    let short = room_there now c.args.node c.args.at c.text_len.result (length c.as_text-more.result.now) c.saturating_sub-room.result c.args.text sound c.requires.place
    (λ t is. c.text_len.ensures t (ap (λ s. text_at s c.args.node.0) same ∙ is)) bytes c.saturating_sub-room.ensures (omega (arith, c.if-more-room.false)) in
    text_done now c.args.text c.args.node c.args.at c.args.occurrence short (omega (arith, revision, c.if-self-ge-MAX_REVISIONS.false))
    ∙ ap (λ (e : Editor). (e, Done))
    (sym (c.in_ok-change.ensures.ok ∙ ap (λ n. changed now (InsertText c.args.node c.args.at c.args.text ∷ []) (Text c.args.node (c.args.at + n)) c.args.occurrence) bytes))
