-- Which of the stops of the last show `at` takes (this project's own).
use Rattle.std.specs.Prelude.{◌≡◌, ℕ, ◌⊎◌, false, List, ◌∷◌, ◌++◌, Some, IsSome, IsTrue}
use Rattle.std.specs.List.{AllByRecursion}
use Rattle.source_primitives.specs.declared.primitive.CaretPlace.{CaretPlace}
use Rattle.source_primitives.specs.Places.{is_there, moved_through}
use Rattle.plain_editor.specs.Stops.{Stop, place_of}
use Rattle.plain_editor.specs.Editor.{Editor, Rule, NoPlace, refused_by, with_caret}

-- none of some stops is such a one
abbrev pub NoneIs : (Stop → Type 0) → List Stop → Type 0
NoneIs Such stops = AllByRecursion (λ (stop : Stop). Such stop → ⊥) stops

-- the first of some stops that is such a one
pub record IsFirst (Such : Stop → Type 0) (stops : List Stop) (stop : Stop) : Type 0 where
  pub before : List Stop
  pub after : List Stop
  pub among : stops ≡ before ++ stop ∷ after
  pub none : NoneIs Such before
  pub is : Such stop

-- a stop in a column of a line of a page, and one there that is at a place of the source
abbrev pub IsThere : ℕ → ℕ → ℕ → Stop → Type 0
IsThere page line column stop = (stop.page ≡ page) × (stop.line ≡ line) × (stop.column ≡ column)

abbrev pub IsPlaceThere : ℕ → ℕ → ℕ → Stop → Type 0
IsPlaceThere page line column stop = IsThere page line column stop × IsSome (place_of stop.origin)

-- the first stop of the last show that is there at a place, and its place
pub record IsChosen (page line column : ℕ) (editor : Editor) (stop : Stop) (place : CaretPlace) : Type 0 where
  pub stops : List Stop
  pub shown : editor.stops ≡ Some stops
  pub first : IsFirst (IsPlaceThere page line column) stops stop
  pub at_place : place_of stop.origin ≡ Some place

-- it is taken: the caret is put where its place is now, as at that occurrence of it, and all else is as before
pub record TakesFirst (page line column : ℕ) (old new : Editor) : Type 0 where
  pub stop : Stop
  pub place : CaretPlace
  pub chosen : IsChosen page line column old stop place
  pub there : IsTrue (is_there old.source (moved_through old.since place))
  pub caret : new ≡ with_caret old (moved_through old.since place) stop.occurrence

-- its place is gone
pub record FirstIsGone (page line column : ℕ) (editor : Editor) : Type 0 where
  pub stop : Stop
  pub place : CaretPlace
  pub chosen : IsChosen page line column editor stop place
  pub gone : is_there editor.source (moved_through editor.since place) ≡ false

-- no stop of the last show is there at a place, and the first that is there says why; where none is there, there is no place
pub record TakesNone (page line column : ℕ) (editor : Editor) (rule : Rule) : Type 0 where
  pub stops : List Stop
  pub shown : editor.stops ≡ Some stops
  pub no_place : NoneIs (IsPlaceThere page line column) stops
  pub says : (NoneIs (IsThere page line column) stops × (rule ≡ NoPlace)) ⊎ ((stop : Stop) × IsFirst (IsThere page line column) stops stop × (rule ≡ refused_by stop.origin))
