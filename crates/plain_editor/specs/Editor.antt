-- The plain editor: it holds one source, changes it at each accepted keystroke at the place of the caret alone, and at every `show`
-- gives the view of the whole source anew. `style` is what the stylesheet says, which never changes (this project's own).
use Rattle.std.specs.Prelude.{ℕ, ◌+◌, nat_lt, nat_le, Bool, false, List, [], ◌∷◌, ◌++◌, filter, filter_map, length, Option, Some, None, codes, decimal, encode_utf8_all, if◌then◌else◌, ◌&&◌, ◌==◌}
use Rattle.std.specs.Option.{option_map}
use Rattle.serna_kinds.specs.Limits.{text_limit, node_limit, change_limit}
use Rattle.serna_kinds.specs.Names.{NameParts}
use Rattle.source_model.specs.Source.{Source}
use Rattle.source_model.specs.Cells.{named}
use Rattle.source_model.specs.Changes.{text_at}
use Rattle.source_primitives.specs.declared.primitive.CaretPlace.{CaretPlace}
use Rattle.source_primitives.specs.declared.primitive.CaretPlace.TheVariants.{Text, Into}
use Rattle.source_primitives.specs.declared.primitive.Caret.{Caret}
use Rattle.source_primitives.specs.declared.primitive.Primitive.{Primitive}
use Rattle.source_primitives.specs.declared.primitive.Primitive.TheVariants.{InsertText, InsertChild}
use Rattle.source_primitives.specs.declared.primitive.Moves.{Moves}
use Rattle.source_primitives.specs.declared.primitive.SubItem.TheVariants as item
use Rattle.source_primitives.specs.Primitives.{applied_all}
use Rattle.source_primitives.specs.Places.{moves_of, moved_through, is_there}
use Rattle.source_tree.specs.Unnumbered.{document_of}
use Rattle.tree_lines.specs.Canonical.{canonical_text}
use Rattle.style_sheet.specs.Sheet.{StyleValue}
use Rattle.result_origin.specs.declared.origin.Origin.{Origin}
use Rattle.result_origin.specs.declared.origin.Origin.TheVariants as origin
use Rattle.page_print.specs.Print.{spaced}
use Rattle.plain_editor.specs.Views.{view_text}
use Rattle.plain_editor.specs.Stops.{Stop, is_same_place, place_of, view_stops}
use Rattle.plain_editor.specs.Commands.{Command, command_of}
use Rattle.plain_editor.specs.Commands as command

-- the editor's state: the table of names, the source, how many changes it has accepted, the caret, the stops of the last show, and how
-- the changes since then move places
pub record Editor : Type 0 where
  pub names : List NameParts
  pub source : Source
  pub revision : ℕ
  pub caret : Option Caret
  pub stops : Option (List Stop)
  pub since : List Moves

-- before the first command
abbrev pub opened : List NameParts → Source → Editor
opened names source = record { names = names; source = source; revision = 0; caret = None; stops = None; since = [] }

-- why a command is refused
pub data Rule : Type 0 where
  NotBuilt : Rule
  NoView : Rule
  NoPlace : Rule
  FixedText : Rule
  ComputedText : Rule
  AttributeText : Rule
  Gone : Rule
  NoCaret : Rule
  Long : Rule
  Nodes : Rule
  Revisions : Rule

abbrev pub rule_word : Rule → List ℕ
rule_word NotBuilt = codes "not-built"
rule_word NoView = codes "no-view"
rule_word NoPlace = codes "no-place"
rule_word FixedText = codes "fixed"
rule_word ComputedText = codes "computed"
rule_word AttributeText = codes "attribute"
rule_word Gone = codes "gone"
rule_word NoCaret = codes "no-caret"
rule_word Long = codes "long"
rule_word Nodes = codes "nodes"
rule_word Revisions = codes "revisions"

-- where a caret stands: a change was accepted since the last show; or the last view has no stop at its place; or at a page, a line and
-- a column
pub data Standing : Type 0 where
  Stale : Standing
  Hidden : Standing
  Shown : ℕ → ℕ → ℕ → Standing

-- what a command is answered: the printed view, the place of a caret and where it stands, the tree lines, that it was done, or why not
pub data Reply : Type 0 where
  View : List ℕ → Reply
  Told : CaretPlace → Standing → Reply
  Lines : List ℕ → Reply
  Done : Reply
  Refused : Rule → Reply

abbrev pub place_words : CaretPlace → List ℕ
place_words (Text number at) = spaced (codes "caret") (spaced (decimal number.0) (decimal at))
place_words (Into number) = spaced (codes "caret") (spaced (decimal number.0) (codes "into"))

abbrev pub standing_words : Standing → List ℕ
standing_words Stale = codes "stale"
standing_words Hidden = codes "hidden"
standing_words (Shown page line column) = spaced (decimal page) (spaced (decimal line) (decimal column))

-- what is written for a reply, each line with its LF
abbrev pub reply_text : Reply → List ℕ
reply_text (View text) = text
reply_text (Told place standing) = spaced (place_words place) (standing_words standing ++ 10 ∷ [])
reply_text (Lines text) = text
reply_text Done = codes "ok" ++ 10 ∷ []
reply_text (Refused rule) = codes "refused " ++ (rule_word rule ++ 10 ∷ [])

-- `show`: the view of the present source; its stops are kept
abbrev pub shown : StyleValue → Editor → Editor
shown style editor =
    record { names = editor.names; source = editor.source; revision = editor.revision; caret = editor.caret; stops = Some (view_stops editor.names style editor.source); since = [] }

-- the editor with another caret
abbrev pub with_caret : Editor → CaretPlace → ℕ → Editor
with_caret editor place occurrence = record {
  names = editor.names;
  source = editor.source;
  revision = editor.revision;
  caret = Some (record { place = place; occurrence = occurrence });
  stops = editor.stops;
  since = editor.since;
}

abbrev pub stands_at : ℕ → ℕ → ℕ → Stop → Bool
stands_at page line column stop = stop.page == page && stop.line == line && stop.column == column

-- the caret that a stop takes, where it is at a place
abbrev pub caret_of : Stop → Option Caret
caret_of stop = option_map (λ place. record { place = place; occurrence = stop.occurrence }) (place_of stop.origin)

-- why no caret is put at an origin
abbrev pub refused_by : Origin → Rule
refused_by (origin.Text number at) = NoPlace
refused_by (origin.Attr number name at) = AttributeText
refused_by (origin.Into number) = NoPlace
refused_by (origin.Fixed rule) = FixedText
refused_by (origin.Computed rule node) = ComputedText

-- the caret is put at a place, where the place is not gone
abbrev pub put_there : Editor → CaretPlace → ℕ → Editor × Reply
put_there editor place occurrence = if is_there editor.source place then (with_caret editor place occurrence, Done) else (editor, Refused Gone)

-- of the stops that are there, the first that is at a place is taken, and the place is moved as the changes since the show move it; where
-- none is at a place, the first says why
abbrev pub put_first : Editor → List Stop → List Caret → Editor × Reply
put_first editor here (caret ∷ carets) = put_there editor (moved_through editor.since caret.place) caret.occurrence
put_first editor [] [] = (editor, Refused NoPlace)
put_first editor (stop ∷ stops) [] = (editor, Refused (refused_by stop.origin))

abbrev pub put_among : Editor → List Stop → Editor × Reply
put_among editor here = put_first editor here (filter_map caret_of here)

-- `at`
abbrev pub put_at : Editor → ℕ → ℕ → ℕ → Option (List Stop) → Editor × Reply
put_at editor page line column None = (editor, Refused NoView)
put_at editor page line column (Some stops) = put_among editor (filter (stands_at page line column) stops)

-- an accepted change by some prims, and where it leaves the caret
abbrev pub changed : Editor → List Primitive → CaretPlace → ℕ → Editor
changed editor prims place occurrence = record {
  names = editor.names;
  source = applied_all prims editor.source;
  revision = editor.revision + 1;
  caret = Some (record { place = place; occurrence = occurrence });
  stops = editor.stops;
  since = editor.since ++ moves_of prims (applied_all prims editor.source) ∷ [];
}

abbrev pub bytes_of : List ℕ → ℕ
bytes_of text = length (encode_utf8_all text)

-- how many bytes a text node has
abbrev pub bytes_at : Source → ℕ → ℕ
bytes_at source n = elim (text_at source n) [ None ↦ 0 | Some text ↦ bytes_of text ]

-- `type`: at a place in a text the characters are put in there; in an element they make a new text, its first child. The caret stands
-- behind them. The bytes of a text, the nodes that are ever made and the changes that are accepted have their limits.
abbrev pub typed_at : Editor → List ℕ → CaretPlace → ℕ → Editor × Reply
typed_at editor text (Text number at) occurrence =
    if nat_lt text_limit (bytes_at editor.source number.0 + bytes_of text) then (editor, Refused Long)
    else if nat_le change_limit editor.revision then (editor, Refused Revisions)
    else (changed editor (InsertText number at text ∷ []) (Text number (at + bytes_of text)) occurrence, Done)
typed_at editor text (Into number) occurrence =
    if nat_lt text_limit (bytes_of text) then (editor, Refused Long)
    else if nat_le node_limit editor.source.made then (editor, Refused Nodes)
    else if nat_le change_limit editor.revision then (editor, Refused Revisions)
    else (changed editor (InsertChild number 0 (item.Text (named (editor.source.made + 1)) text ∷ []) ∷ []) (Text (named (editor.source.made + 1)) (bytes_of text)) occurrence, Done)

abbrev pub typed : Editor → List ℕ → Option Caret → Editor × Reply
typed editor text None = (editor, Refused NoCaret)
typed editor text (Some caret) = typed_at editor text caret.place caret.occurrence

-- of some stops the one of an occurrence, or else the last
abbrev pub nearest : Option Stop → ℕ → List Stop → Option Stop
nearest last occurrence [] = last
nearest last occurrence (stop ∷ stops) = if stop.occurrence == occurrence then Some stop else nearest (Some stop) occurrence stops

abbrev pub stands_for : CaretPlace → Stop → Bool
stands_for place stop = elim (place_of stop.origin) [ Some other ↦ is_same_place place other | None ↦ false ]

abbrev pub standing_at : Option Stop → Standing
standing_at None = Hidden
standing_at (Some stop) = Shown stop.page stop.line stop.column

abbrev pub standing_in : Caret → Option (List Stop) → Standing
standing_in caret None = Hidden
standing_in caret (Some stops) = standing_at (nearest None caret.occurrence (filter (stands_for caret.place) stops))

-- where a caret stands, by the stops of the last show and the changes since
abbrev pub standing : Caret → Option (List Stop) → List Moves → Standing
standing caret stops [] = standing_in caret stops
standing caret stops (moves ∷ since) = Stale

-- `where`
abbrev pub told : Editor → Option Caret → Editor × Reply
told editor None = (editor, Refused NoCaret)
told editor (Some caret) = (editor, Told caret.place (standing caret editor.stops editor.since))

-- what a command makes of the editor, and what it is answered
abbrev pub obeyed : StyleValue → Editor → Command → Editor × Reply
obeyed style editor command.Show = (shown style editor, View (view_text editor.names style editor.source))
obeyed style editor (command.At page line column) = put_at editor page line column editor.stops
obeyed style editor (command.Typing text) = typed editor text editor.caret
obeyed style editor command.Where = told editor editor.caret
obeyed style editor command.Tree = (editor, Lines (canonical_text editor.names editor.source.spaces (document_of editor.source)))
obeyed style editor command.NotBuilt = (editor, Refused NotBuilt)

-- what a command line makes of the editor, and what it is answered
abbrev pub step : StyleValue → Editor → List ℕ → Editor × Reply
step style editor line = obeyed style editor (command_of line)

-- what a script is answered, command by command
abbrev pub replies : StyleValue → Editor → List (List ℕ) → List ℕ
replies style editor [] = []
replies style editor (line ∷ script) = reply_text (step style editor line).1 ++ replies style (step style editor line).0 script
