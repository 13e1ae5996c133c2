-- What `type` makes of the editor, case by case, and that it stays sound.
use Rattle.std.proofs.Common.{◌≡◌, ◌≢◌, ℕ, ◌+◌, ◌-◌, ◌<◌, ◌≤◌, Bool, true, false, List, [], ◌∷◌, Option, Some, None, if◌then◌else◌, refl, ap, ◌∙◌, subst, arith}
use Rattle.std.proofs.lemmas.Bool.{lt-ltb, le-ltb, le-leb, lt-leb}
use Rattle.serna_kinds.specs.declared.cells.NodeName.{NodeName}
use Rattle.serna_kinds.specs.Limits.{text_limit, node_limit, change_limit}
use Rattle.source_model.specs.Source.{Source}
use Rattle.std.specs.Option.{option_and_then}
use Rattle.serna_kinds.specs.declared.cells.Facet.TheVariants as facet
use Rattle.serna_kinds.specs.Content.{Content}
use Rattle.serna_kinds.specs.Content as content
use Rattle.source_model.specs.Cells.{named, facet_of, cell_of}
use Rattle.source_primitives.proofs.Inside.{spot_text}
use Rattle.source_primitives.proofs.ShortTexts.{text_short}
use Rattle.source_model.specs.Changes.{text_at}
use Rattle.source_primitives.specs.declared.primitive.Primitive.{Primitive}
use Rattle.source_primitives.specs.declared.primitive.Primitive.TheVariants.{InsertText, InsertChild}
use Rattle.source_primitives.specs.declared.primitive.SubItem.TheVariants as item
use Rattle.source_primitives.specs.declared.primitive.CaretPlace.TheVariants.{Text, Into}
use Rattle.source_primitives.specs.Primitives.{applied, MayType}
use Rattle.source_primitives.specs.Places.{IsPlaceOf, begun_in}
use Rattle.source_primitives.proofs.PlacesKept.{begun_new}
use Rattle.plain_editor.specs.Editor.{Editor, Reply, Done, Refused, Long, Nodes, Revisions, changed, bytes_of, bytes_at, typed_at}
use Rattle.plain_editor.specs.Sound.{IsSound}
use Rattle.plain_editor.proofs.Steps.{typed_text_sound, typed_into_sound}
use Rattle.live_editor.specs.Held.{IsSoundEditor}

abbrev Answer : Type 0
Answer = Editor × Reply

if_true : (b : Bool) (x y : Answer) → b ≡ true → (if b then x else y) ≡ x
if_true b x y e = ap (λ c. if c then x else y) e

if_false : (b : Bool) (x y : Answer) → b ≡ false → (if b then x else y) ≡ y
if_false b x y e = ap (λ c. if c then x else y) e

-- how many bytes the text at a place has
pub bytes_there : (s : Source) (n : ℕ) (text : List ℕ) → text_at s n ≡ Some text → bytes_at s n ≡ bytes_of text
bytes_there s n text e = ap (λ (o : Option (List ℕ)). elim o [ None ↦ 0 | Some t ↦ bytes_of t ]) e

-- and what its cell says
pub cell_text : (s : Source) (node : NodeName) (text : List ℕ) → text_at s node.0 ≡ Some text → cell_of s (record { node = node; facet = facet.Text }) ≡ Some (content.Text text)
cell_text s node text e = ap (option_and_then (facet_of facet.Text)) (spot_text s node.0 text e).2

abbrev said_text : Option Content → List ℕ
said_text None = []
said_text (Some (content.Label kind name)) = []
said_text (Some (content.Kids kids)) = []
said_text (Some (content.Up parent)) = []
said_text (Some (content.Attrs pairs)) = []
said_text (Some (content.Text text)) = text

same_said : (a b : List ℕ) → Some (content.Text a) ≡ Some (content.Text b) → a ≡ b
same_said a b e = ap said_text e

pub same_text : (s : Source) (node : NodeName) (text said : List ℕ) → text_at s node.0 ≡ Some text → Some (content.Text said) ≡ cell_of s (record { node = node; facet = facet.Text }) → said ≡ text
same_text s node text said e is = same_said said text (is ∙ cell_text s node text e)

-- at a place in a text
abbrev pub after_text : Editor → List ℕ → NodeName → ℕ → ℕ → Editor
after_text editor text number at occurrence = changed editor (InsertText number at text ∷ []) (Text number (at + bytes_of text)) occurrence

pub text_long : (editor : Editor) (text : List ℕ) (number : NodeName) (at occurrence : ℕ) → text_limit < bytes_at editor.source number.0 + bytes_of text →
    typed_at editor text (Text number at) occurrence ≡ (editor, Refused Long)
text_long editor text number at occurrence long = if_true _ _ _ (lt-ltb text_limit (bytes_at editor.source number.0 + bytes_of text) long)

pub text_revisions : (editor : Editor) (text : List ℕ) (number : NodeName) (at occurrence : ℕ) → bytes_at editor.source number.0 + bytes_of text ≤ text_limit → change_limit ≤ editor.revision →
    typed_at editor text (Text number at) occurrence ≡ (editor, Refused Revisions)
text_revisions editor text number at occurrence short many =
    if_false _ _ _ (le-ltb text_limit (bytes_at editor.source number.0 + bytes_of text) short) ∙ if_true _ _ _ (le-leb change_limit editor.revision many)

pub text_done : (editor : Editor) (text : List ℕ) (number : NodeName) (at occurrence : ℕ) → bytes_at editor.source number.0 + bytes_of text ≤ text_limit → editor.revision < change_limit →
    typed_at editor text (Text number at) occurrence ≡ (after_text editor text number at occurrence, Done)
text_done editor text number at occurrence short few =
    if_false _ _ _ (le-ltb text_limit (bytes_at editor.source number.0 + bytes_of text) short) ∙ if_false _ _ _ (lt-leb change_limit editor.revision few)

-- in an element
abbrev pub new_text : Editor → List ℕ → NodeName → Primitive
new_text editor text number = InsertChild number 0 (item.Text (named (editor.source.made + 1)) text ∷ [])

abbrev pub after_new : Editor → List ℕ → NodeName → ℕ → Editor
after_new editor text number occurrence = changed editor (new_text editor text number ∷ []) (Text (named (editor.source.made + 1)) (bytes_of text)) occurrence

pub into_long : (editor : Editor) (text : List ℕ) (number : NodeName) (occurrence : ℕ) → text_limit < bytes_of text → typed_at editor text (Into number) occurrence ≡ (editor, Refused Long)
into_long editor text number occurrence long = if_true _ _ _ (lt-ltb text_limit (bytes_of text) long)

pub into_nodes : (editor : Editor) (text : List ℕ) (number : NodeName) (occurrence : ℕ) → bytes_of text ≤ text_limit → node_limit ≤ editor.source.made →
    typed_at editor text (Into number) occurrence ≡ (editor, Refused Nodes)
into_nodes editor text number occurrence short many = if_false _ _ _ (le-ltb text_limit (bytes_of text) short) ∙ if_true _ _ _ (le-leb node_limit editor.source.made many)

pub into_revisions : (editor : Editor) (text : List ℕ) (number : NodeName) (occurrence : ℕ) → bytes_of text ≤ text_limit → editor.source.made < node_limit → change_limit ≤ editor.revision →
    typed_at editor text (Into number) occurrence ≡ (editor, Refused Revisions)
into_revisions editor text number occurrence short room many =
    if_false _ _ _ (le-ltb text_limit (bytes_of text) short) ∙ if_false _ _ _ (lt-leb node_limit editor.source.made room) ∙ if_true _ _ _ (le-leb change_limit editor.revision many)

pub into_done : (editor : Editor) (text : List ℕ) (number : NodeName) (occurrence : ℕ) → bytes_of text ≤ text_limit → editor.source.made < node_limit → editor.revision < change_limit →
    typed_at editor text (Into number) occurrence ≡ (after_new editor text number occurrence, Done)
into_done editor text number occurrence short room few =
    if_false _ _ _ (le-ltb text_limit (bytes_of text) short) ∙ if_false _ _ _ (lt-leb node_limit editor.source.made room) ∙ if_false _ _ _ (lt-leb change_limit editor.revision few)

-- the editor that is left is sound
pub text_sound : (editor : Editor) (text : List ℕ) (number : NodeName) (at occurrence : ℕ) → IsSoundEditor editor → IsPlaceOf editor.source (Text number at) →
    bytes_at editor.source number.0 + bytes_of text ≤ text_limit → editor.revision < change_limit → IsSoundEditor (after_text editor text number at occurrence)
text_sound editor text number at occurrence sound is short few =
    subst (λ (a : Answer). IsSound editor.names a.0) (text_done editor text number at occurrence short few) (typed_text_sound editor.names editor text number at occurrence sound is)

pub into_sound : (editor : Editor) (text : List ℕ) (number : NodeName) (occurrence : ℕ) → IsSoundEditor editor → IsPlaceOf editor.source (Into number) → text ≢ [] →
    bytes_of text ≤ text_limit → editor.source.made < node_limit → editor.revision < change_limit → IsSoundEditor (after_new editor text number occurrence)
into_sound editor text number occurrence sound is some short room few =
    subst (λ (a : Answer). IsSound editor.names a.0) (into_done editor text number occurrence short room few) (typed_into_sound editor.names editor text number occurrence sound is some)

-- and the prims may be applied
pub text_may : (editor : Editor) (text : List ℕ) (number : NodeName) (at : ℕ) → IsPlaceOf editor.source (Text number at) → bytes_at editor.source number.0 + bytes_of text ≤ text_limit →
    MayType (InsertText number at text) editor.source
text_may editor text number at is short =
    let bytes : bytes_at editor.source number.0 ≡ bytes_of is.0 = bytes_there editor.source number.0 is.0 is.1 in
    (is.0, is.1, is.2, omega (arith, bytes, short))

pub into_may : (editor : Editor) (text : List ℕ) (number : NodeName) → IsPlaceOf editor.source (Into number) → bytes_of text ≤ text_limit → editor.source.made < node_limit →
    MayType (new_text editor text number) editor.source
into_may editor text number is short room = ((is.0, is.1, is.2, omega arith), (refl, short, refl), room)

-- the element begins with the new text then
pub into_begun : (editor : Editor) (text : List ℕ) (number : NodeName) → IsSoundEditor editor → IsPlaceOf editor.source (Into number) →
    begun_in (applied (new_text editor text number) editor.source) (number ∷ []) ≡ record { element = number; text = named (editor.source.made + 1) } ∷ []
into_begun editor text number sound is = begun_new editor.names editor.source number (named (editor.source.made + 1)) text sound.proper (is.0, is.1, is.2, omega arith) refl

-- there is room for the characters
pub room_there : (editor : Editor) (node : NodeName) (at len bytes room : ℕ) (text : List ℕ) → IsSoundEditor editor → IsPlaceOf editor.source (Text node at) →
    ((t : List ℕ) → text_at editor.source node.0 ≡ Some t → len ≡ bytes_of t) → bytes ≡ bytes_of text → room ≡ text_limit - len → bytes ≤ room →
    bytes_at editor.source node.0 + bytes_of text ≤ text_limit
room_there editor node at len bytes room text sound is is-len is-bytes is-room within =
    let e : len ≡ bytes_of is.0 = is-len is.0 is.1 in
    let there : bytes_at editor.source node.0 ≡ bytes_of is.0 = bytes_there editor.source node.0 is.0 is.1 in
    let short : bytes_of is.0 ≤ text_limit = text_short editor.source editor.names node.0 is.0 sound.proper is.1 in
    omega (arith, e, there, short, is-bytes, is-room, within)
