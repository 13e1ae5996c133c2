-- Where a caret stands, boundary by boundary.
use Rattle.std.proofs.Common.{◌≡◌, ℕ, ◌+◌, ◌<◌, ◌≤◌, ◌==◌, ◌&&◌, Bool, true, false, List, [], ◌∷◌, ◌++◌, take, drop, get_or, length, filter, Option, Some, None, cond, if◌then◌else◌, refl, sym, ap, ◌∙◌}
use Rattle.std.proofs.lemmas.Bool.{false≢true, eqb-true, and_parts, eq-eqb, ne_eqb}
use Rattle.std.proofs.lemmas.List.{take_more, drop_more, drop_all, map-append}
use Rattle.serna_kinds.specs.declared.cells.NodeName.{NodeName}
use Rattle.source_model.specs.Cells.{named}
use Rattle.source_primitives.specs.declared.primitive.CaretPlace.{CaretPlace}
use Rattle.source_primitives.specs.declared.primitive.CaretPlace.TheVariants.{Text, Into}
use Rattle.plain_editor.specs.Stops.{Stop, place_of, stops_behind, occurrence_behind, comes_from, is_same_place}
use Rattle.plain_editor.specs.Stops as stops
use Rattle.plain_editor.specs.Editor.{nearest, stands_for, standing_at}
use Rattle.live_editor.specs.declared.view.Boundary.{Boundary}
use Rattle.live_editor.specs.Answers.{shown_at}
use Rattle.live_editor.specs.Shown.{boundary_of, boundaries_of}

-- two places that are one
same_text : (n m : NodeName) (a b : ℕ) → (n.0 == m.0 && a == b) ≡ true → ◌≡◌ {A = CaretPlace} (Text n a) (Text m b)
same_text n m a b e =
    let both = and_parts (n.0 == m.0) (a == b) e in
    ap (λ k. Text (named k) a) (eqb-true n.0 m.0 both.0) ∙ ap (λ k. Text m k) (eqb-true a b both.1)

same_from : (a b : CaretPlace) → is_same_place a b ≡ true → a ≡ b
same_from (Text n a) (Text m b) e = same_text n m a b e
same_from (Text n a) (Into m) e = absurd (false≢true e)
same_from (Into n) (Text m b) e = absurd (false≢true e)
same_from (Into n) (Into m) e = ap (λ k. Into (named k)) (eqb-true n.0 m.0 e)

-- the stop of a caret among the boundaries behind some
abbrev pub look : CaretPlace → ℕ → Option Stop → List stops.Boundary → List stops.Boundary → Option Stop
look place occurrence last before bs = nearest last occurrence (filter (stands_for place) (stops_behind before bs))

abbrev stop_of : stops.Boundary → ℕ → Stop
stop_of here occurrence = record { page = here.page; line = here.line; column = here.column; origin = here.origin; occurrence = occurrence }

pub look_other : (place : CaretPlace) (occurrence : ℕ) (last : Option Stop) (before : List stops.Boundary) (here : stops.Boundary) (bs : List stops.Boundary) → comes_from place here ≡ false →
    look place occurrence last before (here ∷ bs) ≡ look place occurrence last (before ++ here ∷ []) bs
look_other place occurrence last before here bs e =
    ap (λ t. nearest last occurrence (cond t (stop_of here (occurrence_behind before (place_of here.origin)) ∷ filter (stands_for place) (stops_behind (before ++ here ∷ []) bs))
    (filter (stands_for place) (stops_behind (before ++ here ∷ []) bs)))) e

own_occurrence : (place : CaretPlace) (before : List stops.Boundary) (here : Option CaretPlace) → (elim here [ Some other ↦ is_same_place place other | None ↦ false ]) ≡ true →
    occurrence_behind before here ≡ 1 + length (filter (comes_from place) before)
own_occurrence place before (Some other) e = ap (λ p. 1 + length (filter (comes_from p) before)) (sym (same_from place other e))
own_occurrence place before None e = absurd (false≢true e)

pub look_here : (place : CaretPlace) (occurrence : ℕ) (last : Option Stop) (before : List stops.Boundary) (here : stops.Boundary) (bs : List stops.Boundary) → comes_from place here ≡ true →
    look place occurrence last before (here ∷ bs) ≡
    (if 1 + length (filter (comes_from place) before) == occurrence then Some (stop_of here (1 + length (filter (comes_from place) before)))
    else look place occurrence (Some (stop_of here (1 + length (filter (comes_from place) before)))) (before ++ here ∷ []) bs)
look_here place occurrence last before here bs e =
    ap (λ t. nearest last occurrence (cond t (stop_of here (occurrence_behind before (place_of here.origin)) ∷ filter (stands_for place) (stops_behind (before ++ here ∷ []) bs))
    (filter (stands_for place) (stops_behind (before ++ here ∷ []) bs)))) e
    ∙ ap (λ n. if n == occurrence then Some (stop_of here n) else look place occurrence (Some (stop_of here n)) (before ++ here ∷ []) bs) (own_occurrence place before (place_of here.origin) e)

-- what is found so far, and what is still to be looked at
pub record LooksOn (place : CaretPlace) (occurrence : ℕ) (bs : List Boundary) (i : ℕ) (seen : Option Boundary) : Type 0 where
  pub last : Option Stop
  pub shown : shown_at seen ≡ standing_at last
  pub same : look place occurrence None [] (boundaries_of bs) ≡ look place occurrence last (boundaries_of (take i bs)) (boundaries_of (drop i bs))

pub looks_first : (place : CaretPlace) (occurrence : ℕ) (bs : List Boundary) → LooksOn place occurrence bs 0 None
looks_first place occurrence bs = record { last = None; shown = refl; same = refl }

split_at : (place : CaretPlace) (occurrence : ℕ) (last : Option Stop) (bs : List Boundary) (i : ℕ) (d : Boundary) → i < length bs →
    look place occurrence last (boundaries_of (take i bs)) (boundaries_of (drop i bs)) ≡ look place occurrence last (boundaries_of (take i bs)) (boundary_of (get_or bs i d) ∷ boundaries_of (drop (i + 1) bs))
split_at place occurrence last bs i d within = ap (λ ds. look place occurrence last (boundaries_of (take i bs)) (boundaries_of ds)) (drop_more bs i d within)

join_at : (place : CaretPlace) (occurrence : ℕ) (last : Option Stop) (bs : List Boundary) (i : ℕ) (d : Boundary) → i < length bs →
    look place occurrence last (boundaries_of (take i bs) ++ boundary_of (get_or bs i d) ∷ []) (boundaries_of (drop (i + 1) bs)) ≡ look place occurrence last (boundaries_of (take (i + 1) bs)) (boundaries_of (drop (i + 1) bs))
join_at place occurrence last bs i d within =
    ap (λ ts. look place occurrence last ts (boundaries_of (drop (i + 1) bs))) (sym (ap boundaries_of (take_more bs i d within) ∙ map-append boundary_of (take i bs) (get_or bs i d ∷ [])))

pub looks_past : (place : CaretPlace) (occurrence : ℕ) (bs : List Boundary) (i : ℕ) (seen : Option Boundary) (d : Boundary) (r : Bool) → i < length bs → r ≡ comes_from place (boundary_of (get_or bs i d)) → r ≡ false →
    LooksOn place occurrence bs i seen → LooksOn place occurrence bs (i + 1) seen
looks_past place occurrence bs i seen d r within is none on = record {
  last = on.last;
  shown = on.shown;
  same = on.same ∙ split_at place occurrence on.last bs i d within
      ∙ look_other place occurrence on.last (boundaries_of (take i bs)) (boundary_of (get_or bs i d)) (boundaries_of (drop (i + 1) bs)) (sym is ∙ none) ∙ join_at place occurrence on.last bs i d within;
}

abbrev so_many : CaretPlace → List Boundary → ℕ → ℕ
so_many place bs i = 1 + length (filter (comes_from place) (boundaries_of (take i bs)))

looks_at : (place : CaretPlace) (occurrence : ℕ) (bs : List Boundary) (i : ℕ) (seen : Option Boundary) (d : Boundary) → i < length bs → comes_from place (boundary_of (get_or bs i d)) ≡ true → LooksOn place occurrence bs i seen →
    look place occurrence None [] (boundaries_of bs) ≡
    (if so_many place bs i == occurrence then Some (stop_of (boundary_of (get_or bs i d)) (so_many place bs i))
    else look place occurrence (Some (stop_of (boundary_of (get_or bs i d)) (so_many place bs i))) (boundaries_of (take i bs) ++ boundary_of (get_or bs i d) ∷ []) (boundaries_of (drop (i + 1) bs)))
looks_at place occurrence bs i seen d within is on =
    on.same ∙ split_at place occurrence on.last bs i d within ∙ look_here place occurrence on.last (boundaries_of (take i bs)) (boundary_of (get_or bs i d)) (boundaries_of (drop (i + 1) bs)) is

pub looks_found : (place : CaretPlace) (occurrence : ℕ) (bs : List Boundary) (i : ℕ) (seen : Option Boundary) (d : Boundary) (r : Bool) (n : ℕ) → i < length bs → r ≡ comes_from place (boundary_of (get_or bs i d)) → r ≡ true →
    n ≡ so_many place bs i → n ≡ occurrence → LooksOn place occurrence bs i seen → standing_at (look place occurrence None [] (boundaries_of bs)) ≡ shown_at (Some (get_or bs i d))
looks_found place occurrence bs i seen d r n within is here_is is-n same on =
    ap standing_at (looks_at place occurrence bs i seen d within (sym is ∙ here_is) on
    ∙ ap (λ t. if t then Some (stop_of (boundary_of (get_or bs i d)) (so_many place bs i))
    else look place occurrence (Some (stop_of (boundary_of (get_or bs i d)) (so_many place bs i))) (boundaries_of (take i bs) ++ boundary_of (get_or bs i d) ∷ []) (boundaries_of (drop (i + 1) bs)))
    (eq-eqb (so_many place bs i) occurrence (sym is-n ∙ same)))

pub looks_further : (place : CaretPlace) (occurrence : ℕ) (bs : List Boundary) (i : ℕ) (seen : Option Boundary) (d : Boundary) (r : Bool) (n : ℕ) → i < length bs → r ≡ comes_from place (boundary_of (get_or bs i d)) → r ≡ true →
    n ≡ so_many place bs i → (n ≡ occurrence → ⊥) → LooksOn place occurrence bs i seen → LooksOn place occurrence bs (i + 1) (Some (get_or bs i d))
looks_further place occurrence bs i seen d r n within is here_is is-n other on =
    let stop : Stop = stop_of (boundary_of (get_or bs i d)) (so_many place bs i) in
    record {
      last = Some stop;
      shown = refl;
      same = looks_at place occurrence bs i seen d within (sym is ∙ here_is) on
          ∙ ap (λ t. if t then Some stop else look place occurrence (Some stop) (boundaries_of (take i bs) ++ boundary_of (get_or bs i d) ∷ []) (boundaries_of (drop (i + 1) bs)))
          (ne_eqb (so_many place bs i) occurrence (λ e. other (is-n ∙ e)))
          ∙ join_at place occurrence (Some stop) bs i d within;
    }

pub looks_last : (place : CaretPlace) (occurrence : ℕ) (bs : List Boundary) (i : ℕ) (seen : Option Boundary) → length bs ≤ i → LooksOn place occurrence bs i seen →
    standing_at (look place occurrence None [] (boundaries_of bs)) ≡ shown_at seen
looks_last place occurrence bs i seen past on =
    ap standing_at (on.same ∙ ap (λ ds. look place occurrence on.last (boundaries_of (take i bs)) (boundaries_of ds)) (drop_all i bs past)) ∙ sym on.shown
