-- A keystroke changes the source at the caret's place alone, and a refusal changes nothing.
use Rattle.std.proofs.Common.{◌≡◌, ℕ, zero, suc, ◌+◌, ◌==◌, ◌⊎◌, inl, inr, nat_lt, nat_le, Bool, true, false, List, [], ◌∷◌, map, Option, Some, None, filter, filter_map, if◌then◌else◌, refl, sym, ap, ◌∙◌, subst, arith}
use Rattle.std.proofs.lemmas.Bool.{cases_eq}
use Rattle.std.proofs.lemmas.Option.{none-some}
use Rattle.std.specs.Option.{option_map, option_and_then}
use Rattle.serna_kinds.specs.declared.cells.NodeName.{NodeName}
use Rattle.serna_kinds.specs.declared.cells.Cell.{Cell}
use Rattle.serna_kinds.specs.declared.cells.Facet.{Facet}
use Rattle.serna_kinds.specs.declared.cells.Facet.TheVariants as facet
use Rattle.serna_kinds.specs.Content.{Content}
use Rattle.serna_kinds.specs.Content as content
use Rattle.serna_kinds.specs.Names.{NameParts}
use Rattle.serna_kinds.specs.Texts.{inserted}
use Rattle.source_model.specs.Source.{Body, Forest, Source, numbers}
use Rattle.source_model.specs.Source as source
use Rattle.source_model.specs.Cells.{Spot, spot_in, spot_of, named, kind_of, name_of, kids_of, attributes_of, facet_of, cell_of}
use Rattle.source_model.specs.Changes.{with_characters, text_at, with_text, with_kids, inserted_at}
use Rattle.source_model.specs.Proper.{uses, IsProper}
use Rattle.source_model.proofs.Spots.{if_same, if_other, text_spot, kids_spot, spot_in-with_text, spot_in-with_leaf, spot_in-new_leaf, spot_in-unused, used-from_spot, leaf}
use Rattle.source_primitives.specs.declared.primitive.Primitive.TheVariants.{InsertText, InsertChild}
use Rattle.source_primitives.specs.declared.primitive.SubItem.TheVariants as item
use Rattle.source_primitives.specs.declared.primitive.Caret.{Caret}
use Rattle.source_primitives.specs.declared.primitive.CaretPlace.{CaretPlace}
use Rattle.source_primitives.specs.declared.primitive.CaretPlace.TheVariants as place
use Rattle.source_primitives.specs.Primitives.{applied, with_tree, IsElement}
use Rattle.serna_kinds.specs.Limits.{text_limit, node_limit, change_limit}
use Rattle.source_primitives.specs.Places.{IsPlaceOf, is_there, moved_through}
use Rattle.source_primitives.proofs.Inside.{spot_text}
use Rattle.style_sheet.specs.Sheet.{StyleValue}
use Rattle.plain_editor.specs.Commands.{Command, command_of}
use Rattle.plain_editor.specs.Commands as command
use Rattle.plain_editor.specs.Stops.{Stop}
use Rattle.plain_editor.specs.Editor.{Editor, Reply, Done, Refused, Rule, Long, Nodes, Revisions, Gone, stands_at, caret_of, with_caret, put_there, put_first, put_at, changed, bytes_of, bytes_at, typed_at, typed, told, obeyed, step}
use Rattle.plain_editor.specs.Sound.{IsCaretOf, IsSound}
use Rattle.source_primitives.proofs.PlacesKept.{text_at-with_text}
use Rattle.plain_editor.specs.Keystrokes.{HasOtherText, HasNewFirstText}

numbers-with_text : (n : ℕ) (change : List ℕ → List ℕ) (f : Forest) → numbers (with_text n change f) ≡ numbers f
numbers-with_text n change source.none = refl
numbers-with_text n change (source.node k body kids rest) = ap (λ ns. k ∷ ns) (numbers-with_text n change rest)

numbers-with_kids : (n : ℕ) (change : Forest → Forest) (f : Forest) → numbers (with_kids n change f) ≡ numbers f
numbers-with_kids n change source.none = refl
numbers-with_kids n change (source.node k body kids rest) = ap (λ ns. k ∷ ns) (numbers-with_kids n change rest)

-- the facets of a node whose characters may have changed
kids_of-text : (change : List ℕ → List ℕ) (body : Body) (f g : Forest) → numbers f ≡ numbers g → kids_of (with_characters change body) f ≡ kids_of body g
kids_of-text change source.Root f g e = ap (λ ns. Some (content.Kids (map named ns))) e
kids_of-text change (source.Element name attributes) f g e = ap (λ ns. Some (content.Kids (map named ns))) e
kids_of-text change (source.Text t) f g e = refl
kids_of-text change (source.Comment t) f g e = refl

label-text : (change : List ℕ → List ℕ) (body : Body) → content.Label (kind_of (with_characters change body)) (name_of (with_characters change body)) ≡ content.Label (kind_of body) (name_of body)
label-text change source.Root = refl
label-text change (source.Element name attributes) = refl
label-text change (source.Text t) = refl
label-text change (source.Comment t) = refl

attributes-text : (change : List ℕ → List ℕ) (body : Body) → attributes_of (with_characters change body) ≡ attributes_of body
attributes-text change source.Root = refl
attributes-text change (source.Element name attributes) = refl
attributes-text change (source.Text t) = refl
attributes-text change (source.Comment t) = refl

other_facet : (change : List ℕ → List ℕ) (f : Facet) (up : Option ℕ) (body : Body) (kids kids₁ : Forest) → (f ≡ facet.Text → ⊥) → numbers kids₁ ≡ numbers kids →
    facet_of f (record { up = up; body = with_characters change body; kids = kids₁ }) ≡ facet_of f (record { up = up; body = body; kids = kids })
other_facet change facet.Label up body kids kids₁ no_text e = ap Some (label-text change body)
other_facet change facet.Kids up body kids kids₁ no_text e = kids_of-text change body kids₁ kids e
other_facet change facet.Up up body kids kids₁ no_text e = refl
other_facet change facet.Attrs up body kids kids₁ no_text e = attributes-text change body
other_facet change facet.Text up body kids kids₁ no_text e = absurd (no_text refl)

kids_of-same : (body : Body) (f g : Forest) → numbers f ≡ numbers g → kids_of body f ≡ kids_of body g
kids_of-same source.Root f g e = ap (λ ns. Some (content.Kids (map named ns))) e
kids_of-same (source.Element name attributes) f g e = ap (λ ns. Some (content.Kids (map named ns))) e
kids_of-same (source.Text t) f g e = refl
kids_of-same (source.Comment t) f g e = refl

same_facet : (f : Facet) (up : Option ℕ) (body : Body) (kids kids₁ : Forest) → numbers kids₁ ≡ numbers kids →
    facet_of f (record { up = up; body = body; kids = kids₁ }) ≡ facet_of f (record { up = up; body = body; kids = kids })
same_facet facet.Label up body kids kids₁ e = refl
same_facet facet.Kids up body kids kids₁ e = kids_of-same body kids₁ kids e
same_facet facet.Up up body kids kids₁ e = refl
same_facet facet.Attrs up body kids kids₁ e = refl
same_facet facet.Text up body kids kids₁ e = refl

spot_facet : (n m : ℕ) (change : List ℕ → List ℕ) (f : Facet) (spot : Spot) → ((n ≡ m) ⊎ (n ≡ m → ⊥)) → (n ≡ m → f ≡ facet.Text → ⊥) → facet_of f (text_spot n change m spot) ≡ facet_of f spot
spot_facet n m change f spot (inl e) other =
    ap (λ b. facet_of f (record { up = spot.up; body = b; kids = with_text n change spot.kids })) (if_same n m (with_characters change spot.body) spot.body e)
    ∙ other_facet change f spot.up spot.body spot.kids (with_text n change spot.kids) (other e) (numbers-with_text n change spot.kids)
spot_facet n m change f spot (inr e) other =
    ap (λ b. facet_of f (record { up = spot.up; body = b; kids = with_text n change spot.kids })) (if_other n m (with_characters change spot.body) spot.body e)
    ∙ same_facet f spot.up spot.body spot.kids (with_text n change spot.kids) (numbers-with_text n change spot.kids)

found_facet : (n m : ℕ) (change : List ℕ → List ℕ) (f : Facet) (found : Option Spot) → (n ≡ m → f ≡ facet.Text → ⊥) →
    option_and_then (facet_of f) (option_map (text_spot n change m) found) ≡ option_and_then (facet_of f) found
found_facet n m change f None other = refl
found_facet n m change f (Some spot) other = spot_facet n m change f spot (cases_eq n m) other

-- the cells elsewhere are the same
pub text_elsewhere : (s : Source) (n : ℕ) (change : List ℕ → List ℕ) (other : Cell) → (other.node.0 ≡ n → other.facet ≡ facet.Text → ⊥) →
    cell_of (with_tree s (with_text n change s.tree)) other ≡ cell_of s other
text_elsewhere s n change other apart =
    ap (option_and_then (facet_of other.facet)) (spot_in-with_text None n change other.node.0 s.tree)
    ∙ found_facet n other.node.0 change other.facet (spot_of s other.node.0) (λ e. apart (sym e))

-- characters put into a text
typed_text : (s : Source) (number : NodeName) (at : ℕ) (piece text : List ℕ) → text_at s number.0 ≡ Some text →
    HasOtherText number (inserted at piece text) s (applied (InsertText number at piece) s)
typed_text s number at piece text e =
    let new : Source = with_tree s (with_text number.0 (inserted at piece) s.tree) in
    let there : text_at new number.0 ≡ Some (inserted at piece text) =
    text_at-with_text number.0 number.0 (inserted at piece) s text e ∙ ap Some (if_same number.0 number.0 (inserted at piece text) text refl) in
    record {
      there = ap (option_and_then (facet_of facet.Text)) (spot_text new number.0 (inserted at piece text) there).2;
      elsewhere = λ other apart. text_elsewhere s number.0 (inserted at piece) other apart;
      declared = refl;
      made = refl;
    }

-- a new text as the first child of an element
no_kids_facet : (f : Facet) (up : Option ℕ) (body : Body) (kids kids₁ : Forest) → (f ≡ facet.Kids → ⊥) → facet_of f (record { up = up; body = body; kids = kids₁ }) ≡ facet_of f (record { up = up; body = body; kids = kids })
no_kids_facet facet.Label up body kids kids₁ other = refl
no_kids_facet facet.Kids up body kids kids₁ other = absurd (other refl)
no_kids_facet facet.Up up body kids kids₁ other = refl
no_kids_facet facet.Attrs up body kids kids₁ other = refl
no_kids_facet facet.Text up body kids kids₁ other = refl

kids_facet : (p m : ℕ) (change : Forest → Forest) (f : Facet) (spot : Spot) → ((p ≡ m) ⊎ (p ≡ m → ⊥)) → (p ≡ m → f ≡ facet.Kids → ⊥) → facet_of f (kids_spot p change m spot) ≡ facet_of f spot
kids_facet p m change f spot (inl e) other = no_kids_facet f spot.up spot.body spot.kids (if p == m then change spot.kids else with_kids p change spot.kids) (other e)
kids_facet p m change f spot (inr e) other =
    same_facet f spot.up spot.body spot.kids (if p == m then change spot.kids else with_kids p change spot.kids)
    (ap numbers (if_other p m (change spot.kids) (with_kids p change spot.kids) e) ∙ numbers-with_kids p change spot.kids)

found_kids_facet : (p m : ℕ) (change : Forest → Forest) (f : Facet) (found : Option Spot) → (p ≡ m → f ≡ facet.Kids → ⊥) →
    option_and_then (facet_of f) (option_map (kids_spot p change m) found) ≡ option_and_then (facet_of f) found
found_kids_facet p m change f None other = refl
found_kids_facet p m change f (Some spot) other = kids_facet p m change f spot (cases_eq p m) other

abbrev kids_in : Option Content → List NodeName
kids_in None = []
kids_in (Some (content.Label kind name)) = []
kids_in (Some (content.Kids kids)) = kids
kids_in (Some (content.Up parent)) = []
kids_in (Some (content.Attrs pairs)) = []
kids_in (Some (content.Text text)) = []

element_kids : (body : Body) (kids : Forest) → IsElement body → kids_of body kids ≡ Some (content.Kids (map named (numbers kids)))
element_kids source.Root kids is = absurd is
element_kids (source.Element name attributes) kids is = refl
element_kids (source.Text t) kids is = absurd is
element_kids (source.Comment t) kids is = absurd is

no_number : (names : List NameParts) (s : Source) (k u : ℕ) → IsProper names s → k ≡ s.made + 1 → u ≡ uses k s.tree → uses k s.tree ≡ 0
no_number names s k zero proper number e = sym e
no_number names s k (suc u) proper number e = let made = proper.numbered k (omega (arith, e)) in absurd (omega (arith, made, number))

typed_into : (names : List NameParts) (s : Source) (parent number : NodeName) (text : List ℕ) → IsProper names s → IsPlaceOf s (place.Into parent) → number.0 ≡ s.made + 1 →
    HasNewFirstText parent number text s (applied (InsertChild parent 0 (item.Text number text ∷ [])) s)
typed_into names s parent number text proper is new =
    let free : uses number.0 s.tree ≡ 0 = no_number names s number.0 (uses number.0 s.tree) proper new refl in
    let gone : spot_of s number.0 ≡ None = spot_in-unused None number.0 s.tree free in
    let there : spot_in None number.0 (with_kids parent.0 (inserted_at 0 (leaf number.0 (source.Text text))) s.tree) ≡ Some (record { up = Some parent.0; body = source.Text text; kids = source.none }) =
    spot_in-new_leaf None parent.0 number.0 0 (source.Text text) s.tree free (used-from_spot None parent.0 is.0 s.tree is.1) (proper.distinct parent.0) in
    let apart : (m : ℕ) (spot : Spot) → spot_of s m ≡ Some spot → m ≡ number.0 → ⊥ = λ m spot found e. absurd (none-some spot (sym gone ∙ ap (spot_of s) (sym e) ∙ found)) in
    record {
      was = λ f. ap (option_and_then (facet_of f)) gone;
      label = ap (option_and_then (facet_of facet.Label)) there;
      up = ap (option_and_then (facet_of facet.Up)) there;
      characters = ap (option_and_then (facet_of facet.Text)) there;
      no_kids = ap (option_and_then (facet_of facet.Kids)) there;
      no_attributes = ap (option_and_then (facet_of facet.Attrs)) there;
      first = λ kids was.
          let before : Some (content.Kids (map named (numbers is.0.kids))) ≡ Some (content.Kids kids) =
          sym (element_kids is.0.body is.0.kids is.2) ∙ sym (ap (option_and_then (facet_of facet.Kids)) is.1) ∙ was in
          let same : map named (numbers is.0.kids) ≡ kids = ap kids_in before in
          ap (option_and_then (facet_of facet.Kids)) (spot_in-with_leaf None parent.0 parent.0 number.0 0 (source.Text text) s.tree (apart parent.0 is.0 is.1) (proper.distinct parent.0)
          ∙ ap (option_map (kids_spot parent.0 (inserted_at 0 (leaf number.0 (source.Text text))) parent.0)) is.1)
          ∙ element_kids is.0.body (if parent.0 == parent.0 then inserted_at 0 (leaf number.0 (source.Text text)) is.0.kids else with_kids parent.0 (inserted_at 0 (leaf number.0 (source.Text text))) is.0.kids) is.2
          ∙ ap (λ f. Some (content.Kids (map named (numbers f)))) (if_same parent.0 parent.0 (inserted_at 0 (leaf number.0 (source.Text text)) is.0.kids) (with_kids parent.0 (inserted_at 0 (leaf number.0 (source.Text text))) is.0.kids) refl)
          ∙ ap (λ ns. Some (content.Kids (number ∷ ns))) same;
      elsewhere = λ other not_new not_kids.
          ap (option_and_then (facet_of other.facet)) (spot_in-with_leaf None parent.0 other.node.0 number.0 0 (source.Text text) s.tree not_new (proper.distinct parent.0))
          ∙ found_kids_facet parent.0 other.node.0 (inserted_at 0 (leaf number.0 (source.Text text))) other.facet (spot_of s other.node.0) (λ e. not_kids (sym e));
      declared = refl;
      made = omega (arith, new);
    }

-- what an accepted answer leaves
abbrev Answer : Type 0
Answer = Editor × Reply

pub done_if : (P : Editor → Type 0) (b : Bool) (rule : Rule) (editor : Editor) (x : Answer) → (x.1 ≡ Done → P x.0) → (if b then (editor, Refused rule) else x).1 ≡ Done → P (if b then (editor, Refused rule) else x).0
done_if P true rule editor x later e = cc
done_if P false rule editor x later e = later e

text_done : (editor : Editor) (text old : List ℕ) (number : NodeName) (at occurrence : ℕ) → text_at editor.source number.0 ≡ Some old → (typed_at editor text (place.Text number at) occurrence).1 ≡ Done →
    HasOtherText number (inserted at text old) editor.source (typed_at editor text (place.Text number at) occurrence).0.source
text_done editor text old number at occurrence is e =
    done_if (λ left. HasOtherText number (inserted at text old) editor.source left.source) _ Long editor _
    (done_if (λ left. HasOtherText number (inserted at text old) editor.source left.source) _ Revisions editor _ (λ _. typed_text editor.source number at text old is)) e

into_done : (names : List NameParts) (editor : Editor) (text : List ℕ) (number : NodeName) (occurrence : ℕ) → IsProper names editor.source → IsPlaceOf editor.source (place.Into number) →
    (typed_at editor text (place.Into number) occurrence).1 ≡ Done →
    HasNewFirstText number (named (editor.source.made + 1)) text editor.source (typed_at editor text (place.Into number) occurrence).0.source
into_done names editor text number occurrence proper is e =
    done_if (λ left. HasNewFirstText number (named (editor.source.made + 1)) text editor.source left.source) _ Long editor _
    (done_if (λ left. HasNewFirstText number (named (editor.source.made + 1)) text editor.source left.source) _ Nodes editor _
    (done_if (λ left. HasNewFirstText number (named (editor.source.made + 1)) text editor.source left.source) _ Revisions editor _
    (λ _. typed_into names editor.source number (named (editor.source.made + 1)) text proper is refl))) e

-- from a command line
pub typing_is : (style : StyleValue) (editor : Editor) (line text : List ℕ) (caret : Caret) → command_of line ≡ command.Typing text → editor.caret ≡ Some caret → step style editor line ≡ typed_at editor text caret.place caret.occurrence
typing_is style editor line text caret says has = ap (obeyed style editor) says ∙ ap (typed editor text) has

pub text_typed : (style : StyleValue) (editor : Editor) (line text old : List ℕ) (number : NodeName) (at occurrence : ℕ) → command_of line ≡ command.Typing text →
    editor.caret ≡ Some (record { place = place.Text number at; occurrence = occurrence }) → (step style editor line).1 ≡ Done → text_at editor.source number.0 ≡ Some old →
    HasOtherText number (inserted at text old) editor.source (step style editor line).0.source
text_typed style editor line text old number at occurrence says has done is =
    let e = typing_is style editor line text (record { place = place.Text number at; occurrence = occurrence }) says has in
    subst (λ (a : Answer). HasOtherText number (inserted at text old) editor.source a.0.source) (sym e)
    (text_done editor text old number at occurrence is (subst (λ (a : Answer). a.1 ≡ Done) e done))

pub into_typed : (style : StyleValue) (names : List NameParts) (editor : Editor) (line text : List ℕ) (number : NodeName) (occurrence : ℕ) → IsSound names editor → command_of line ≡ command.Typing text →
    editor.caret ≡ Some (record { place = place.Into number; occurrence = occurrence }) → (step style editor line).1 ≡ Done →
    HasNewFirstText number (named (editor.source.made + 1)) text editor.source (step style editor line).0.source
into_typed style names editor line text number occurrence sound says has done =
    let e = typing_is style editor line text (record { place = place.Into number; occurrence = occurrence }) says has in
    let is : IsPlaceOf editor.source (place.Into number) = subst (IsCaretOf editor.source) has sound.caret in
    subst (λ (a : Answer). HasNewFirstText number (named (editor.source.made + 1)) text editor.source a.0.source) (sym e)
    (into_done names editor text number occurrence sound.proper is (subst (λ (a : Answer). a.1 ≡ Done) e done))

-- a refusal leaves the editor as it was
abbrev Keeps : Editor → Answer → Type 0
Keeps editor answer = (rule : Rule) → answer.1 ≡ Refused rule → answer.0 ≡ editor

keeps_if : (editor : Editor) (b : Bool) (rule : Rule) (x : Answer) → Keeps editor x → Keeps editor (if b then (editor, Refused rule) else x)
keeps_if editor true rule x later = λ other e. refl
keeps_if editor false rule x later = later

keeps_done : (editor left : Editor) → Keeps editor (left, Done)
keeps_done editor left = λ rule e. cc

keeps_else : (editor left : Editor) (b : Bool) → Keeps editor (if b then (left, Done) else (editor, Refused Gone))
keeps_else editor left true = λ rule e. cc
keeps_else editor left false = λ rule e. refl

keeps_typing : (editor : Editor) (text : List ℕ) (here : CaretPlace) (occurrence : ℕ) → Keeps editor (typed_at editor text here occurrence)
keeps_typing editor text (place.Text number at) occurrence =
    let left : Editor = changed editor (InsertText number at text ∷ []) (place.Text number (at + bytes_of text)) occurrence in
    keeps_if editor (nat_lt text_limit (bytes_at editor.source number.0 + bytes_of text)) Long (if nat_le change_limit editor.revision then (editor, Refused Revisions) else (left, Done))
    (keeps_if editor (nat_le change_limit editor.revision) Revisions (left, Done) (keeps_done editor left))
keeps_typing editor text (place.Into number) occurrence =
    let new : NodeName = named (editor.source.made + 1) in
    let left : Editor = changed editor (InsertChild number 0 (item.Text new text ∷ []) ∷ []) (place.Text new (bytes_of text)) occurrence in
    let last : Answer = if nat_le change_limit editor.revision then (editor, Refused Revisions) else (left, Done) in
    keeps_if editor (nat_lt text_limit (bytes_of text)) Long (if nat_le node_limit editor.source.made then (editor, Refused Nodes) else last)
    (keeps_if editor (nat_le node_limit editor.source.made) Nodes last (keeps_if editor (nat_le change_limit editor.revision) Revisions (left, Done) (keeps_done editor left)))

keeps_typed : (editor : Editor) (text : List ℕ) (caret : Option Caret) → Keeps editor (typed editor text caret)
keeps_typed editor text None = λ rule e. refl
keeps_typed editor text (Some caret) = keeps_typing editor text caret.place caret.occurrence

keeps_there : (editor : Editor) (here : CaretPlace) (occurrence : ℕ) → Keeps editor (put_there editor here occurrence)
keeps_there editor here occurrence = keeps_else editor (with_caret editor here occurrence) (is_there editor.source here)

keeps_first : (editor : Editor) (here : List Stop) (carets : List Caret) → Keeps editor (put_first editor here carets)
keeps_first editor here (caret ∷ carets) = keeps_there editor (moved_through editor.since caret.place) caret.occurrence
keeps_first editor [] [] = λ rule e. refl
keeps_first editor (stop ∷ stops) [] = λ rule e. refl

keeps_put : (editor : Editor) (page line column : ℕ) (stops : Option (List Stop)) → Keeps editor (put_at editor page line column stops)
keeps_put editor page line column None = λ rule e. refl
keeps_put editor page line column (Some stops) = keeps_first editor (filter (stands_at page line column) stops) (filter_map caret_of (filter (stands_at page line column) stops))

keeps_told : (editor : Editor) (caret : Option Caret) → Keeps editor (told editor caret)
keeps_told editor None = λ rule e. refl
keeps_told editor (Some caret) = λ rule e. cc

keeps_obeyed : (style : StyleValue) (editor : Editor) (said : Command) → Keeps editor (obeyed style editor said)
keeps_obeyed style editor command.Show = λ rule e. cc
keeps_obeyed style editor (command.At page line column) = keeps_put editor page line column editor.stops
keeps_obeyed style editor (command.Typing text) = keeps_typed editor text editor.caret
keeps_obeyed style editor command.Where = keeps_told editor editor.caret
keeps_obeyed style editor command.Tree = λ rule e. cc
keeps_obeyed style editor command.NotBuilt = λ rule e. refl

pub refusal_keeps : (style : StyleValue) (editor : Editor) (line : List ℕ) (rule : Rule) → (step style editor line).1 ≡ Refused rule → (step style editor line).0 ≡ editor
refusal_keeps style editor line = keeps_obeyed style editor (command_of line)
