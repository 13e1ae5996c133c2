-- What `source` prints reads back, whatever was obeyed before.
use Rattle.std.proofs.Common.{◌≡◌, ◌≢◌, ℕ, Bool, true, false, List, [], ◌∷◌, Option, Some, None, if◌then◌else◌, refl}
use Rattle.serna_kinds.specs.Names.{NameParts}
use Rattle.tree_lines.specs.Writable.{IsText}
use Rattle.source_primitives.specs.declared.primitive.Caret.{Caret}
use Rattle.source_primitives.specs.declared.primitive.CaretPlace.{CaretPlace}
use Rattle.source_primitives.specs.declared.primitive.CaretPlace.TheVariants.{Text, Into}
use Rattle.source_primitives.specs.declared.primitive.Primitive.TheVariants.{InsertText}
use Rattle.source_primitives.specs.Places.{IsPlaceOf, is_there, moved_through}
use Rattle.source_tree.specs.Printing.{IsPrintable}
use Rattle.source_tree.proofs.PrintedBack.{stays_printable}
use Rattle.source_model.specs.Proper.{IsProper}
use Rattle.style_sheet.specs.Sheet.{StyleValue}
use Rattle.plain_editor.specs.Stops.{Stop}
use Rattle.plain_editor.specs.Commands.{Command, command_of}
use Rattle.plain_editor.specs.Commands as command
use Rattle.plain_editor.specs.Editor.{Editor, Reply, put_first, put_at, typed_at, typed, told, obeyed, step}
use Rattle.plain_editor.specs.Sound.{IsCaretOf, IsSound}
use Rattle.plain_editor.proofs.Steps.{IsSaid, said, text_may, new_text, into_may, into_keeps}

abbrev Answer : Type 0
Answer = Editor × Reply

abbrev Prints : List NameParts → Answer → Type 0
Prints names answer = IsPrintable names answer.0.source

prints_if : (names : List NameParts) (b : Bool) (x y : Answer) → Prints names x → (b ≡ false → Prints names y) → Prints names (if b then x else y)
prints_if names true x y p q = p
prints_if names false x y p q = q refl

typed_prints : (names : List NameParts) (editor : Editor) (text : List ℕ) (place : CaretPlace) (occurrence : ℕ) → IsProper names editor.source → IsPlaceOf editor.source place →
    (text ≢ []) × IsText text → IsPrintable names editor.source → Prints names (typed_at editor text place occurrence)
typed_prints names editor text (Text number at) occurrence proper is good old =
    prints_if names _ _ _ old (λ short. prints_if names _ _ _ old (λ few.
    stays_printable names editor.source (InsertText number at text) proper (text_may editor text number at is short) tt good.1 old))
typed_prints names editor text (Into number) occurrence proper is good old =
    prints_if names _ _ _ old (λ short. prints_if names _ _ _ old (λ room. prints_if names _ _ _ old (λ few.
    stays_printable names editor.source (new_text editor text number) proper (into_may editor text number is short room)
    (into_keeps names editor text number proper is good.0 short) (good.1, tt) old)))

caret_prints : (names : List NameParts) (editor : Editor) (text : List ℕ) (caret : Option Caret) → IsProper names editor.source → IsCaretOf editor.source caret →
    (text ≢ []) × IsText text → IsPrintable names editor.source → Prints names (typed editor text caret)
caret_prints names editor text None proper is good old = old
caret_prints names editor text (Some caret) proper is good old = typed_prints names editor text caret.place caret.occurrence proper is good old

first_prints : (names : List NameParts) (editor : Editor) (here : List Stop) (carets : List Caret) → IsPrintable names editor.source → Prints names (put_first editor here carets)
first_prints names editor here (caret ∷ carets) old = prints_if names (is_there editor.source (moved_through editor.since caret.place)) _ _ old (λ gone. old)
first_prints names editor [] [] old = old
first_prints names editor (stop ∷ stops) [] old = old

put_prints : (names : List NameParts) (editor : Editor) (page line column : ℕ) (stops : Option (List Stop)) → IsPrintable names editor.source → Prints names (put_at editor page line column stops)
put_prints names editor page line column None old = old
put_prints names editor page line column (Some stops) old = first_prints names editor _ _ old

told_prints : (names : List NameParts) (editor : Editor) (caret : Option Caret) → IsPrintable names editor.source → Prints names (told editor caret)
told_prints names editor None old = old
told_prints names editor (Some caret) old = old

obeyed_prints : (style : StyleValue) (names : List NameParts) (editor : Editor) (line : Command) → IsSaid line → IsSound names editor → IsPrintable names editor.source →
    Prints names (obeyed style editor line)
obeyed_prints style names editor command.Show is sound old = old
obeyed_prints style names editor (command.At page line column) is sound old = put_prints names editor page line column editor.stops old
obeyed_prints style names editor (command.Typing text) is sound old = caret_prints names editor text editor.caret sound.proper sound.caret is old
obeyed_prints style names editor command.Where is sound old = told_prints names editor editor.caret old
obeyed_prints style names editor command.Tree is sound old = old
obeyed_prints style names editor command.NotBuilt is sound old = old

pub step_prints : (style : StyleValue) (names : List NameParts) (editor : Editor) (line : List ℕ) → IsSound names editor → IsPrintable names editor.source →
    IsPrintable names (step style editor line).0.source
step_prints style names editor line sound old = obeyed_prints style names editor (command_of line) (said line) sound old
