-- Where `at` puts the caret, the editor stays sound.
use Rattle.std.proofs.Common.{◌≡◌, ℕ, List, Some, filter, filter_map, subst}
use Rattle.std.specs.List.{AllByRecursion}
use Rattle.source_primitives.specs.declared.primitive.Caret.{Caret}
use Rattle.source_primitives.specs.declared.primitive.CaretPlace.{CaretPlace}
use Rattle.source_primitives.specs.Places.{IsPlaceOf}
use Rattle.plain_editor.specs.Editor.{Editor, stands_at, caret_of, with_caret}
use Rattle.plain_editor.specs.Sound.{IsLive, AreLive}
use Rattle.plain_editor.proofs.Steps.{IsCaretLive, carets_live}
use Rattle.live_editor.specs.declared.view.Boundary.{Boundary}
use Rattle.live_editor.specs.Held.{IsSoundEditor, IsHead, stops_of}

-- the caret that is taken was at a place, which lasts
pub first_live : (editor : Editor) (page line column : ℕ) (bs : List Boundary) (caret : Caret) → IsSoundEditor editor → editor.stops ≡ Some (stops_of bs) →
    IsHead caret (filter_map caret_of (filter (stands_at page line column) (stops_of bs))) → IsLive editor.source editor.since (Some caret.place)
first_live editor page line column bs caret sound is first =
    let all = carets_live editor.source editor.since page line column (stops_of bs) (subst (AreLive editor.source editor.since) is sound.stops) in
    (subst (AllByRecursion (IsCaretLive editor.source editor.since)) first.1 all).0

pub put_sound : (editor : Editor) (place : CaretPlace) (occurrence : ℕ) → IsSoundEditor editor → IsPlaceOf editor.source place → IsSoundEditor (with_caret editor place occurrence)
put_sound editor place occurrence sound is = record { proper = sound.proper; caret = is; stops = sound.stops }
