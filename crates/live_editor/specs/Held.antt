-- The editor in memory stands for the plain editor, and how proofs tell two of these apart.
use Rattle.std.specs.Prelude.{◌≡◌, ℕ, ◌+◌, ◌==◌, ◌&&◌, Bool, false, List, [], ◌∷◌, length, take, filter, slice_get, Option, Some, None, is_some, Result, Ok, Err, refl}
use Rattle.std.specs.Coded.{Coded, code_by, coded×, coded_ℕ}
use Rattle.serna_kinds.specs.Names.{NameParts}
use Rattle.source_model.specs.Source.{Source}
use Rattle.source_primitives.specs.declared.primitive.Caret.{Caret}
use Rattle.source_primitives.specs.declared.primitive.Moves.{Moves}
use Rattle.source_primitives.specs.Places.{moved_through}
use Rattle.result_origin.specs.declared.origin.Origin.{Origin}
use Rattle.plain_editor.specs.Editor.{Editor, Reply, Refused, NoPlace, put_there, refused_by}
use Rattle.plain_editor.specs.Editor as editor
use Rattle.plain_editor.specs.Stops.{Stop, place_of, stops_behind, comes_from}
use Rattle.plain_editor.specs.Sound.{IsSound}
use Rattle.live_editor.specs.declared.view.Boundary.{Boundary}
use Rattle.live_editor.specs.declared.reply.Rule.{Rule}
use Rattle.live_editor.specs.declared.editor.TypeFault.{TypeFault}
use Rattle.live_editor.specs.declared.editor.TypeFault.TheVariants as fault
use Rattle.live_editor.specs.Answers.{rule_of}
use Rattle.live_editor.specs.Shown.{boundaries_of}

-- the stops that boundaries of a view are
abbrev pub stops_of : List Boundary → List Stop
stops_of boundaries = stops_behind [] (boundaries_of boundaries)

-- the editor is sound, its table having the names of its source
abbrev pub IsSoundEditor : Editor → Type 0
IsSoundEditor editor = IsSound editor.names editor

abbrev pub Parts : Type 0
Parts = List NameParts × (Source × (ℕ × (Option Caret × (Option (List Stop) × List Moves))))

pub editor_code : Coded (List NameParts) → Coded Source → Coded (Option Caret) → Coded (Option (List Stop)) → Coded (List Moves) → Coded Editor
editor_code names source caret stops since =
    code_by Parts (coded× names (coded× source (coded× coded_ℕ (coded× caret (coded× stops since))))) (λ e. (e.names, (e.source, (e.revision, (e.caret, (e.stops, e.since))))))
    (λ p. record { names = p.0; source = p.1.0; revision = p.1.1.0; caret = p.1.1.1.0; stops = p.1.1.1.1.0; since = p.1.1.1.1.1 }) (λ _. refl)

-- the editor after a caret was looked for in the last view, and what is answered
abbrev pub taken : Editor → Result Caret Rule → Editor × Reply
taken editor (Ok caret) = put_there editor (moved_through editor.since caret.place) caret.occurrence
taken editor (Err rule) = (editor, Refused (rule_of rule))

-- a refusal by a rule, or want of memory; the state is kept
abbrev pub IsRefusal : Type 0 → (Rule → Type 0) → TypeFault → Type 0
IsRefusal kept refused (fault.Rule rule) = kept × refused rule
IsRefusal kept refused fault.NoMemory = kept

-- the origin is a place of the source
abbrev pub is_place : Origin → Bool
is_place from = is_some (place_of from)

-- the boundary is in a column of a line of a page
abbrev pub is_at : ℕ → ℕ → ℕ → Boundary → Bool
is_at page line column here = here.page == page && here.line == line && here.column == column

-- and at a place
abbrev pub is_caret_at : ℕ → ℕ → ℕ → Boundary → Bool
is_caret_at page line column here = is_at page line column here && is_place here.origin

abbrev pub is_place_at : List Boundary → ℕ → Bool
is_place_at boundaries index = elim (slice_get boundaries index) [ None ↦ false | Some here ↦ is_place here.origin ]

-- why no caret is put at the first boundary, where none is at a place
abbrev pub refused_at : Option Boundary → editor.Rule
refused_at None = NoPlace
refused_at (Some here) = refused_by here.origin

-- the first of some carets
abbrev pub IsHead : Caret → List Caret → Type 0
IsHead caret carets = (rest : List Caret) × (carets ≡ caret ∷ rest)

-- the caret at one of the boundaries, which is at a place
pub record IsCaretAt (boundaries : List Boundary) (index : ℕ) (caret : Caret) : Type 0 where
  pub here : Boundary
  pub found : slice_get boundaries index ≡ Some here
  pub place : place_of here.origin ≡ Some caret.place
  pub occurrence : caret.occurrence ≡ 1 + length (filter (comes_from caret.place) (boundaries_of (take index boundaries)))
