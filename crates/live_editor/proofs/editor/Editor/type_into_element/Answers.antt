-- A new text is made the first child of an element.
use Rattle.std.proofs.Common.{◌≡◌, ◌+◌, ◌≤◌, ◌∷◌, [], ◌++◌, length, ℕ, List, sym, ap, ◌∙◌, subst, arith}
use Rattle.source_model.specs.Cells.{named}
use Rattle.source_primitives.specs.declared.primitive.SubItem.{SubItem}
use Rattle.source_primitives.specs.declared.primitive.SubItem.TheVariants as item
use Rattle.source_primitives.specs.declared.primitive.Primitive.TheVariants.{InsertChild}
use Rattle.source_primitives.specs.declared.primitive.Begun.{Begun}
use Rattle.source_primitives.specs.Primitives.{applied}
use Rattle.source_primitives.specs.Places.{begun_in}
use Rattle.source_primitives.specs.declared.primitive.CaretPlace.TheVariants.{Text}
use Rattle.plain_editor.specs.Editor.{Editor, bytes_of, changed}
use Rattle.live_editor.specs.Held.{IsSoundEditor}
use Rattle.live_editor.proofs.Typing.{into_sound, into_begun}
use Rattle.live_editor.proofs.editor.Editor.type_into_element.Goals as goal

pub change-requires-clause-sound : goal.change-requires-clause-sound
change-requires-clause-sound c =
    let now : Editor = c.args.self.now in
    let text : List ℕ = c.args.text in
    let sound : IsSoundEditor now = subst IsSoundEditor c.self.view_is c.self.invariant in
    let revision : c.self.inside.revision ≡ now.revision = ap (λ (e : Editor). e.revision) c.self.view_is in
    let made : c.made-made.result ≡ now.source.made = c.made-made.ensures ∙ ap (λ (e : Editor). e.source.made) c.self.view_is in
    let bytes : length c.as_text-more.result.now ≡ bytes_of text = ap length c.as_text-more.ensures.bytes in
    let short : bytes_of text ≤ 16384 = omega (arith, bytes, c.if-more-gt-MAX_TEXT_BYTES.false) in
    let items : c.push.new.self ≡ item.Text (named (now.source.made + 1)) text ∷ [] =
    c.in_ok-push.ensures.ok ∙ ap (λ (xs : List SubItem). xs ++ item.Text (record { 0 = c.made-made.result + 1 }) text ∷ []) c.new-items.ensures
    ∙ ap (λ n. item.Text (record { 0 = n + 1 }) text ∷ []) made in
    subst (λ xs. IsSoundEditor (changed now (InsertChild c.args.node 0 xs ∷ []) (Text (record { 0 = c.made-made.result + 1 }) (length c.as_text-more.result.now)) c.args.occurrence)) (sym items)
    (subst (λ n. IsSoundEditor (changed now (InsertChild c.args.node 0 (item.Text (named (now.source.made + 1)) text ∷ []) ∷ []) (Text (record { 0 = n + 1 }) (length c.as_text-more.result.now)) c.args.occurrence)) (sym made)
    (subst (λ n. IsSoundEditor (changed now (InsertChild c.args.node 0 (item.Text (named (now.source.made + 1)) text ∷ []) ∷ []) (Text (named (now.source.made + 1)) n) c.args.occurrence)) (sym bytes)
    (into_sound now text c.args.node c.args.occurrence sound c.requires.place c.requires.some short (omega (arith, made, c.if-made-ge-MAX_NODES.false)) (omega (arith, revision, c.if-self-ge-MAX_REVISIONS.false)))))

pub change-requires-clause-begun : goal.change-requires-clause-begun
change-requires-clause-begun c =
    let now : Editor = c.args.self.now in
    let text : List ℕ = c.args.text in
    let sound : IsSoundEditor now = subst IsSoundEditor c.self.view_is c.self.invariant in
    let made : c.made-made.result ≡ now.source.made = c.made-made.ensures ∙ ap (λ (e : Editor). e.source.made) c.self.view_is in
    let items : c.push.new.self ≡ item.Text (named (now.source.made + 1)) text ∷ [] =
    c.in_ok-push.ensures.ok ∙ ap (λ (xs : List SubItem). xs ++ item.Text (record { 0 = c.made-made.result + 1 }) text ∷ []) c.new-items.ensures
    ∙ ap (λ n. item.Text (record { 0 = n + 1 }) text ∷ []) made in
    let begun : c.push-2.new.self ≡ record { element = c.args.node; text = named (now.source.made + 1) } ∷ [] =
    c.in_ok-push-2.ensures.ok ∙ ap (λ (bs : List Begun). bs ++ record { element = c.args.node; text = record { 0 = c.made-made.result + 1 } } ∷ []) c.new-begun.ensures
    ∙ ap (λ n. record { element = c.args.node; text = record { 0 = n + 1 } } ∷ []) made in
    begun ∙ sym (into_begun now text c.args.node sound c.requires.place)
    ∙ ap (λ xs. begun_in (applied (InsertChild c.args.node 0 xs) now.source) (c.args.node ∷ [])) (sym items)
