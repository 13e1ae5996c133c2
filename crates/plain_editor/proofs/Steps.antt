-- Each step keeps the editor sound.
use Rattle.std.proofs.Common.{◌≡◌, ◌≢◌, ℕ, ◌+◌, ◌≤◌, ◌⊎◌, inl, inr, nat_lt, nat_le, Bool, true, false, List, [], ◌∷◌, ◌++◌, filter, filter_map, Option, Some, None, ◌&&◌, if◌then◌else◌, refl, sym, ap, ◌∙◌, subst, arith, bytes_eq}
use Rattle.std.proofs.lemmas.Bool.{and_parts, cases_eq, ltb-false, leb-false}
use Rattle.std.proofs.lemmas.Option.{none-some}
use Rattle.std.specs.List.{AllByRecursion, cons_option}
use Rattle.std.specs.Option.{option_map}
use Rattle.serna_kinds.specs.declared.cells.NodeName.{NodeName}
use Rattle.serna_kinds.specs.Names.{NameParts}
use Rattle.tree_lines.specs.Texts.{has_escapes, meant}
use Rattle.source_model.specs.Source.{Body, Forest, Source}
use Rattle.source_model.specs.Source as source
use Rattle.source_model.specs.Cells.{Spot, spot_in, spot_of, or_else, named}
use Rattle.source_model.specs.Proper.{AreNodes, BeginsNoText, IsProper}
use Rattle.source_model.proofs.Spots.{if_same, if_other}
use Rattle.source_primitives.specs.declared.primitive.Primitive.{Primitive}
use Rattle.source_primitives.specs.declared.primitive.Primitive.TheVariants.{InsertText, InsertChild}
use Rattle.source_primitives.specs.declared.primitive.Moves.{Moves}
use Rattle.source_primitives.specs.declared.primitive.SubItem.TheVariants as item
use Rattle.source_primitives.specs.declared.primitive.Caret.{Caret}
use Rattle.source_primitives.specs.declared.primitive.CaretPlace.{CaretPlace}
use Rattle.source_primitives.specs.declared.primitive.CaretPlace.TheVariants.{Text, Into}
use Rattle.source_primitives.specs.Primitives.{applied, MayType, KeepsProper, HasPlace}
use Rattle.source_primitives.specs.Places.{IsPlaceOf, IsNear, Lasts, is_there, moved, moved_through, moves_of}
use Rattle.source_primitives.proofs.ProperKept.{proper_kept}
use Rattle.style_sheet.specs.Sheet.{StyleValue}
use Rattle.plain_editor.specs.Stops.{Stop, place_of, view_stops}
use Rattle.plain_editor.specs.Plain.{is_plain}
use Rattle.plain_editor.specs.Commands.{Command, at_place, at_parts, read_number, typing, command_of, behind_front, parts_of, show_word, where_word, source_word, at_word, type_word}
use Rattle.plain_editor.specs.Commands as command
use Rattle.serna_kinds.specs.Limits.{text_limit, node_limit}
use Rattle.plain_editor.specs.Editor.{Editor, Reply, Done, Refused, Gone, opened, with_caret, put_there, stands_at, caret_of, put_first, put_at, changed, bytes_of, bytes_at, typed_at, typed, told, obeyed, step}
use Rattle.plain_editor.specs.Sound.{IsCaretOf, IsLive, AreLive, StaysNear, GoesNear, IsSound}
use Rattle.tree_lines.specs.Writable.{IsText}
use Rattle.tree_lines.proofs.MeantTexts.{meant-text}
use Rattle.plain_editor.proofs.Plain.{plain_meant, is_line-plain}
use Rattle.plain_editor.proofs.Marks.{all_filter}
use Rattle.plain_editor.proofs.Runs.{IsPlaceIf, view_live}
use Rattle.source_primitives.proofs.ShortTexts.{or_spot}
use Rattle.source_primitives.proofs.PlacesKept.{place_lasts, moved_lasts, carried_near, behind_piece, behind_new}

abbrev pub IsCaretLive : Source → List Moves → Caret → Type 0
IsCaretLive s since caret = IsLive s since (Some caret.place)

caret_more : (s : Source) (since : List Moves) (here : Option CaretPlace) (occurrence : ℕ) (carets : List Caret) → IsLive s since here → AllByRecursion (IsCaretLive s since) carets →
    AllByRecursion (IsCaretLive s since) (cons_option (option_map (λ place. record { place = place; occurrence = occurrence }) here) carets)
caret_more s since (Some place) occurrence carets is all = (is, all)
caret_more s since None occurrence carets is all = all

abbrev IsStopLive : Source → List Moves → Stop → Type 0
IsStopLive s since stop = IsLive s since (place_of stop.origin)

all_carets : (s : Source) (since : List Moves) (stops : List Stop) → AllByRecursion (IsStopLive s since) stops → AllByRecursion (IsCaretLive s since) (filter_map caret_of stops)
all_carets s since [] all = tt
all_carets s since (stop ∷ stops) all = caret_more s since (place_of stop.origin) stop.occurrence (filter_map caret_of stops) all.0 (all_carets s since stops all.1)

pub carets_live : (s : Source) (since : List Moves) (page line column : ℕ) (stops : List Stop) → AllByRecursion (IsStopLive s since) stops →
    AllByRecursion (IsCaretLive s since) (filter_map caret_of (filter (stands_at page line column) stops))
carets_live s since page line column stops all = all_carets s since (filter (stands_at page line column) stops) (all_filter (IsStopLive s since) (stands_at page line column) stops all)

-- the places after one change more
through_more : (since : List Moves) (moves : Moves) (place : CaretPlace) → moved_through (since ++ moves ∷ []) place ≡ moved moves (moved_through since place)
through_more [] moves place = refl
through_more (m ∷ since) moves place = through_more since moves (moved m place)

near_more : (since : List Moves) (moves : Moves) (place : CaretPlace) → GoesNear since place → StaysNear moves.prims (moved_through since place) → IsNear (moved moves (moved_through since place)) →
    GoesNear (since ++ moves ∷ []) place
near_more [] moves place near way end = (way, end)
near_more (m ∷ since) moves place near way end = (near.0, near_more since moves (moved m place) near.1 way end)

live_place : (names : List NameParts) (s : Source) (since : List Moves) (prim : Primitive) (here : Option CaretPlace) → IsProper names s → MayType prim s → KeepsProper names prim s → IsLive s since here →
    IsLive (applied prim s) (since ++ moves_of (prim ∷ []) (applied prim s) ∷ []) here
live_place names s since prim (Some place) proper may keeps is =
    let moves : Moves = moves_of (prim ∷ []) (applied prim s) in
    let now : CaretPlace = moved_through since place in
    let later = moved_lasts names s prim now proper may keeps is.1 in
    (near_more since moves place is.0 (is.1.near, carried_near names s prim now proper may keeps is.1) later.near, subst (Lasts (applied prim s)) (sym (through_more since moves place)) later)
live_place names s since prim None proper may keeps is = tt

live_stops : (names : List NameParts) (s : Source) (since : List Moves) (prim : Primitive) (stops : List Stop) → IsProper names s → MayType prim s → KeepsProper names prim s →
    AllByRecursion (IsStopLive s since) stops → AllByRecursion (IsStopLive (applied prim s) (since ++ moves_of (prim ∷ []) (applied prim s) ∷ [])) stops
live_stops names s since prim [] proper may keeps all = tt
live_stops names s since prim (stop ∷ stops) proper may keeps all =
    (live_place names s since prim (place_of stop.origin) proper may keeps all.0, live_stops names s since prim stops proper may keeps all.1)

live_view : (names : List NameParts) (s : Source) (since : List Moves) (prim : Primitive) (stops : Option (List Stop)) → IsProper names s → MayType prim s → KeepsProper names prim s → AreLive s since stops →
    AreLive (applied prim s) (since ++ moves_of (prim ∷ []) (applied prim s) ∷ []) stops
live_view names s since prim None proper may keeps all = tt
live_view names s since prim (Some stops) proper may keeps all = live_stops names s since prim stops proper may keeps all

-- the stops of a new show
fresh_place : (names : List NameParts) (s : Source) (here : Option CaretPlace) → IsProper names s → IsPlaceIf s here → IsLive s [] here
fresh_place names s (Some place) proper is = let lasts = place_lasts names s place proper is in (lasts.near, lasts)
fresh_place names s None proper is = tt

pub fresh_stops : (names : List NameParts) (s : Source) (stops : List Stop) → IsProper names s → AllByRecursion (λ (stop : Stop). IsPlaceIf s (place_of stop.origin)) stops → AreLive s [] (Some stops)
fresh_stops names s [] proper all = tt
fresh_stops names s (stop ∷ stops) proper all = (fresh_place names s (place_of stop.origin) proper all.0, fresh_stops names s stops proper all.1)

changed_sound : (names : List NameParts) (editor : Editor) (prim : Primitive) (place : CaretPlace) (occurrence : ℕ) → IsSound names editor → MayType prim editor.source →
    KeepsProper names prim editor.source → IsPlaceOf (applied prim editor.source) place → IsSound names (changed editor (prim ∷ []) place occurrence)
changed_sound names editor prim place occurrence sound may keeps is = record {
  proper = proper_kept names editor.source prim sound.proper may keeps;
  caret = is;
  stops = live_view names editor.source editor.since prim editor.stops sound.proper may keeps sound.stops;
}

sound_if : (names : List NameParts) (b : Bool) (x y : Editor × Reply) → (b ≡ true → IsSound names x.0) → (b ≡ false → IsSound names y.0) → IsSound names (if b then x else y).0
sound_if names true x y f g = f refl
sound_if names false x y f g = g refl

-- `at`
there_sound : (names : List NameParts) (editor : Editor) (place : CaretPlace) (occurrence : ℕ) → IsSound names editor → Lasts editor.source place → IsSound names (put_there editor place occurrence).0
there_sound names editor place occurrence sound lasts =
    sound_if names (is_there editor.source place) (with_caret editor place occurrence, Done) (editor, Refused Gone)
    (λ there. record { proper = sound.proper; caret = lasts.there there; stops = sound.stops }) (λ gone. sound)

put_first_sound : (names : List NameParts) (editor : Editor) (here : List Stop) (carets : List Caret) → IsSound names editor → AllByRecursion (IsCaretLive editor.source editor.since) carets →
    IsSound names (put_first editor here carets).0
put_first_sound names editor here (caret ∷ carets) sound all = there_sound names editor (moved_through editor.since caret.place) caret.occurrence sound all.0.1
put_first_sound names editor [] [] sound all = sound
put_first_sound names editor (stop ∷ stops) [] sound all = sound

pub put_at_sound : (names : List NameParts) (editor : Editor) (page line column : ℕ) (stops : Option (List Stop)) → IsSound names editor → AreLive editor.source editor.since stops →
    IsSound names (put_at editor page line column stops).0
put_at_sound names editor page line column None sound all = sound
put_at_sound names editor page line column (Some stops) sound all =
    let here : List Stop = filter (stands_at page line column) stops in
    put_first_sound names editor here (filter_map caret_of here) sound (carets_live editor.source editor.since page line column stops all)

-- the children of a node of a proper source
abbrev kids_at : Option Spot → Forest
kids_at None = source.none
kids_at (Some spot) = spot.kids

node_kids : (names : List NameParts) (up : Option ℕ) (n k : ℕ) (body : Body) (kids rest : Forest) (spot : Spot) → ((n ≡ k) ⊎ (n ≡ k → ⊥)) → AreNodes names kids →
    (spot_in (Some k) n kids ≡ Some spot → AreNodes names spot.kids) → (spot_in up n rest ≡ Some spot → AreNodes names spot.kids) →
    spot_in up n (source.node k body kids rest) ≡ Some spot → AreNodes names spot.kids
node_kids names up n k body kids rest spot (inl e) all below later found =
    subst (AreNodes names) (ap kids_at (sym (if_same n k (Some (record { up = up; body = body; kids = kids })) (or_else (spot_in (Some k) n kids) (spot_in up n rest)) e) ∙ found)) all
node_kids names up n k body kids rest spot (inr e) all below later found =
    elim (or_spot (spot_in (Some k) n kids) (spot_in up n rest) spot
    (sym (if_other n k (Some (record { up = up; body = body; kids = kids })) (or_else (spot_in (Some k) n kids) (spot_in up n rest)) e) ∙ found)) [ inl is ↦ below is | inr is ↦ later is ]

kids_nodes : (names : List NameParts) (f : Forest) (up : Option ℕ) (n : ℕ) (spot : Spot) → AreNodes names f → spot_in up n f ≡ Some spot → AreNodes names spot.kids
kids_nodes names source.none up n spot all found = absurd (none-some spot found)
kids_nodes names (source.node k source.Root kids rest) up n spot all found = absurd all
kids_nodes names (source.node k (source.Element name attributes) kids rest) up n spot all found =
    node_kids names up n k (source.Element name attributes) kids rest spot (cases_eq n k) all.2 (λ is. kids_nodes names kids (Some k) n spot all.2 is)
    (λ is. kids_nodes names rest up n spot all.3 is) found
kids_nodes names (source.node k (source.Text t) kids rest) up n spot all found =
    let below : AreNodes names kids = subst (AreNodes names) (sym all.2) tt in
    node_kids names up n k (source.Text t) kids rest spot (cases_eq n k) below (λ is. kids_nodes names kids (Some k) n spot below is) (λ is. kids_nodes names rest up n spot all.4 is) found
kids_nodes names (source.node k (source.Comment t) kids rest) up n spot all found =
    let below : AreNodes names kids = subst (AreNodes names) (sym all.0) tt in
    node_kids names up n k (source.Comment t) kids rest spot (cases_eq n k) below (λ is. kids_nodes names kids (Some k) n spot below is) (λ is. kids_nodes names rest up n spot all.1 is) found

spot_nodes : (names : List NameParts) (s : Source) (n : ℕ) (spot : Spot) → IsProper names s → spot_of s n ≡ Some spot → AreNodes names spot.kids
spot_nodes names s n spot proper found =
    node_kids names None n 0 source.Root proper.top source.none spot (cases_eq n 0) proper.nodes (λ is. kids_nodes names proper.top (Some 0) n spot proper.nodes is) (λ is. absurd (none-some spot is))
    (ap (spot_in None n) (sym proper.rooted) ∙ found)

-- `type`: a text that is not too long may be put in
pub text_may : (editor : Editor) (text : List ℕ) (number : NodeName) (at : ℕ) → IsPlaceOf editor.source (Text number at) →
    nat_lt text_limit (bytes_at editor.source number.0 + bytes_of text) ≡ false → MayType (InsertText number at text) editor.source
text_may editor text number at is short =
    let bytes : bytes_at editor.source number.0 ≡ bytes_of is.0 = ap (λ (o : Option (List ℕ)). elim o [ None ↦ 0 | Some text ↦ bytes_of text ]) is.1 in
    let within : bytes_at editor.source number.0 + bytes_of text ≤ text_limit = ltb-false text_limit (bytes_at editor.source number.0 + bytes_of text) short in
    (is.0, is.1, is.2, omega (arith, bytes, within))

abbrev pub new_text : Editor → List ℕ → NodeName → Primitive
new_text editor text number = InsertChild number 0 (item.Text (named (editor.source.made + 1)) text ∷ [])

pub into_may : (editor : Editor) (text : List ℕ) (number : NodeName) → IsPlaceOf editor.source (Into number) →
    nat_lt text_limit (bytes_of text) ≡ false → nat_le node_limit editor.source.made ≡ false → MayType (new_text editor text number) editor.source
into_may editor text number is short room =
    ((is.0, is.1, is.2, omega arith), (refl, ltb-false text_limit (bytes_of text) short, refl), leb-false node_limit editor.source.made room)

pub into_keeps : (names : List NameParts) (editor : Editor) (text : List ℕ) (number : NodeName) → IsProper names editor.source → IsPlaceOf editor.source (Into number) →
    text ≢ [] → nat_lt text_limit (bytes_of text) ≡ false → KeepsProper names (new_text editor text number) editor.source
into_keeps names editor text number proper is some short = λ spot found.
    let both : Some is.0 ≡ Some spot = sym is.1 ∙ found in
    (some, ltb-false text_limit (bytes_of text) short, refl, subst BeginsNoText (ap kids_at both) is.3, spot_nodes names editor.source number.0 spot proper found)

pub typed_text_sound : (names : List NameParts) (editor : Editor) (text : List ℕ) (number : NodeName) (at occurrence : ℕ) → IsSound names editor → IsPlaceOf editor.source (Text number at) →
    IsSound names (typed_at editor text (Text number at) occurrence).0
typed_text_sound names editor text number at occurrence sound is =
    sound_if names _ _ _ (λ _. sound) (λ short. sound_if names _ _ _ (λ _. sound) (λ few.
    let may = text_may editor text number at is short in
    changed_sound names editor (InsertText number at text) (Text number (at + bytes_of text)) occurrence sound may tt
    (behind_piece editor.source number at text may)))

pub typed_into_sound : (names : List NameParts) (editor : Editor) (text : List ℕ) (number : NodeName) (occurrence : ℕ) → IsSound names editor → IsPlaceOf editor.source (Into number) → text ≢ [] →
    IsSound names (typed_at editor text (Into number) occurrence).0
typed_into_sound names editor text number occurrence sound is some =
    sound_if names _ _ _ (λ _. sound) (λ short. sound_if names _ _ _ (λ _. sound) (λ room. sound_if names _ _ _ (λ _. sound) (λ few.
    let new : NodeName = named (editor.source.made + 1) in
    let place : HasPlace editor.source number.0 0 = (is.0, is.1, is.2, omega arith) in
    changed_sound names editor (new_text editor text number) (Text new (bytes_of text)) occurrence sound (into_may editor text number is short room)
    (into_keeps names editor text number sound.proper is some short) (behind_new names editor.source number new 0 text sound.proper place refl))))

place_sound : (names : List NameParts) (editor : Editor) (text : List ℕ) (place : CaretPlace) (occurrence : ℕ) → IsSound names editor → IsPlaceOf editor.source place → text ≢ [] →
    IsSound names (typed_at editor text place occurrence).0
place_sound names editor text (Text number at) occurrence sound is some = typed_text_sound names editor text number at occurrence sound is
place_sound names editor text (Into number) occurrence sound is some = typed_into_sound names editor text number occurrence sound is some

typed_sound : (names : List NameParts) (editor : Editor) (text : List ℕ) (caret : Option Caret) → IsSound names editor → IsCaretOf editor.source caret → text ≢ [] → IsSound names (typed editor text caret).0
typed_sound names editor text None sound is some = sound
typed_sound names editor text (Some caret) sound is some = place_sound names editor text caret.place caret.occurrence sound is some

-- what a line types is not empty, and has the characters that a document's texts may have
abbrev pub IsSaid : Command → Type 0
IsSaid command.Show = Unit {0}
IsSaid (command.At page line column) = Unit {0}
IsSaid (command.Typing text) = (text ≢ []) × IsText text
IsSaid command.Where = Unit {0}
IsSaid command.Tree = Unit {0}
IsSaid command.NotBuilt = Unit {0}

said_if : (b : Bool) (x y : Command) → (b ≡ true → IsSaid x) → IsSaid y → IsSaid (if b then x else y)
said_if true x y p q = p refl
said_if false x y p q = q

said_place : (page line column : Option ℕ) → IsSaid (at_place page line column)
said_place None line column = tt
said_place (Some page) None column = tt
said_place (Some page) (Some line) None = tt
said_place (Some page) (Some line) (Some column) = tt

said_parts : (parts : List (List ℕ)) → IsSaid (at_parts parts)
said_parts [] = tt
said_parts (page ∷ []) = tt
said_parts (page ∷ line ∷ []) = tt
said_parts (page ∷ line ∷ column ∷ []) = said_place (read_number page) (read_number line) (read_number column)
said_parts (page ∷ line ∷ column ∷ more ∷ parts) = tt

said_typing : (text : List ℕ) → IsSaid (typing text)
said_typing [] = tt
said_typing (c ∷ cs) =
    said_if (is_plain (c ∷ cs) && has_escapes (c ∷ cs)) (command.Typing (meant (c ∷ cs))) command.NotBuilt
    (λ is. let plain : is_plain (c ∷ cs) ≡ true = (and_parts (is_plain (c ∷ cs)) (has_escapes (c ∷ cs)) is).0 in
    (plain_meant c cs plain, meant-text (c ∷ cs) (is_line-plain (c ∷ cs) plain))) tt

said_behind_type : (o : Option (List ℕ)) → IsSaid (elim o [ Some text ↦ typing text | None ↦ command.NotBuilt ])
said_behind_type None = tt
said_behind_type (Some text) = said_typing text

said_behind_at : (o p : Option (List ℕ)) → IsSaid (elim o [ Some rest ↦ at_parts (parts_of rest) | None ↦ elim p [ Some text ↦ typing text | None ↦ command.NotBuilt ] ])
said_behind_at None p = said_behind_type p
said_behind_at (Some rest) p = said_parts (parts_of rest)

pub said : (line : List ℕ) → IsSaid (command_of line)
said line =
    said_if (bytes_eq line show_word) command.Show _ (λ _. tt)
    (said_if (bytes_eq line where_word) command.Where _ (λ _. tt)
    (said_if (bytes_eq line source_word) command.Tree _ (λ _. tt) (said_behind_at (behind_front at_word line) (behind_front type_word line))))

told_sound : (names : List NameParts) (editor : Editor) (caret : Option Caret) → IsSound names editor → IsSound names (told editor caret).0
told_sound names editor None sound = sound
told_sound names editor (Some caret) sound = sound

pub obeyed_sound : (style : StyleValue) (names : List NameParts) (editor : Editor) (said_command : Command) → IsSaid said_command → IsSound names editor → IsSound names (obeyed style editor said_command).0
obeyed_sound style names editor command.Show is sound = record { proper = sound.proper; caret = sound.caret; stops = fresh_stops names editor.source (view_stops editor.names style editor.source) sound.proper (view_live editor.names style editor.source) }
obeyed_sound style names editor (command.At page line column) is sound = put_at_sound names editor page line column editor.stops sound sound.stops
obeyed_sound style names editor (command.Typing text) is sound = typed_sound names editor text editor.caret sound sound.caret is.0
obeyed_sound style names editor command.Where is sound = told_sound names editor editor.caret sound
obeyed_sound style names editor command.Tree is sound = sound
obeyed_sound style names editor command.NotBuilt is sound = sound

pub step_sound : (style : StyleValue) (names : List NameParts) (editor : Editor) (line : List ℕ) → IsSound names editor → IsSound names (step style editor line).0
step_sound style names editor line sound = obeyed_sound style names editor (command_of line) (said line) sound

pub opened_sound : (names : List NameParts) (s : Source) → IsProper names s → IsSound names (opened names s)
opened_sound names s proper = record { proper = proper; caret = tt; stops = tt }

pub ruleset all = opened_sound
