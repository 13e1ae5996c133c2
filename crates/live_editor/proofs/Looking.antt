-- Which stop `at` takes.
use Rattle.std.proofs.Common.{◌≡◌, ℕ, suc, ◌+◌, ◌<◌, ◌≤◌, ◌&&◌, cond, arith, Bool, true, false, List, [], ◌∷◌, ◌++◌, length, take, drop, get_or, filter, filter_map, position, slice_get, Option, Some, None, is_some, Ok, Err, if◌then◌else◌, refl, sym, ap, ◌∙◌, append_assoc}
use Rattle.std.proofs.lemmas.Option.{none-some, same_Some, slice_get_within}
use Rattle.std.specs.List.{find, position_from, cons_option}
use Rattle.std.specs.Option.{option_map}
use Rattle.std.proofs.lemmas.Iterator.Adapters.{position_from-zero}
use Rattle.std.proofs.lemmas.List.{append-nil, take_more, drop_more, drop_all}
use Rattle.source_primitives.specs.declared.primitive.CaretPlace.{CaretPlace}
use Rattle.source_primitives.specs.declared.primitive.Caret.{Caret}
use Rattle.plain_editor.specs.Stops.{Stop, place_of, stops_behind, occurrence_behind, comes_from}
use Rattle.plain_editor.specs.Stops as stops
use Rattle.plain_editor.specs.Editor.{Editor, Refused, stands_at, caret_of, put_first, put_among}
use Rattle.live_editor.specs.declared.view.Boundary.{Boundary}
use Rattle.live_editor.specs.declared.reply.Rule.{Rule}
use Rattle.live_editor.specs.Answers.{rule_of}
use Rattle.live_editor.specs.Shown.{boundary_of, boundaries_of}
use Rattle.live_editor.specs.Held.{taken, is_place, is_at, is_caret_at, is_place_at, refused_at, IsHead, IsCaretAt}

-- the stops that stand there
abbrev pub in_place : ℕ → ℕ → ℕ → List stops.Boundary → List Boundary → List Stop
in_place page line column before bs = filter (stands_at page line column) (stops_behind before (boundaries_of bs))

abbrev stop_at : Boundary → ℕ → Stop
stop_at b occurrence = record { page = b.page; line = b.line; column = b.column; origin = b.origin; occurrence = occurrence }

abbrev caret_in : ℕ → Option CaretPlace → Option Caret
caret_in occurrence o = option_map (λ place. record { place = place; occurrence = occurrence }) o

-- none is at a place
none_here : (o : Option CaretPlace) (occurrence k : ℕ) (rest : List Caret) (next : Option ℕ) → cond (is_some o) (Some k) next ≡ None → (next ≡ None → rest ≡ []) → cons_option (caret_in occurrence o) rest ≡ []
none_here (Some place) occurrence k rest next e later = absurd (none-some k (sym e))
none_here None occurrence k rest next e later = later e

none_step : (t : Bool) (b : Boundary) (occurrence k : ℕ) (rest : List Stop) (next : Option ℕ) → cond (t && is_place b.origin) (Some k) next ≡ None → (next ≡ None → filter_map caret_of rest ≡ []) →
    filter_map caret_of (cond t (stop_at b occurrence ∷ rest) rest) ≡ []
none_step true b occurrence k rest next e later = none_here (place_of b.origin) occurrence k (filter_map caret_of rest) next e later
none_step false b occurrence k rest next e later = later e

none_from : (page line column k : ℕ) (before : List stops.Boundary) (bs : List Boundary) → position_from (is_caret_at page line column) k bs ≡ None → filter_map caret_of (in_place page line column before bs) ≡ []
none_from page line column k before [] e = refl
none_from page line column k before (b ∷ bs) e =
    none_step (is_at page line column b) b (occurrence_behind before (place_of b.origin)) k (in_place page line column (before ++ boundary_of b ∷ []) bs)
    (position_from (is_caret_at page line column) (k + 1) bs) e (λ later. none_from page line column (k + 1) (before ++ boundary_of b ∷ []) bs later)

-- the first that is at a place
record Taken (page line column k i : ℕ) (before : List stops.Boundary) (bs : List Boundary) : Type 0 where
  at : ℕ
  is : i ≡ k + at
  here : Boundary
  found : slice_get bs at ≡ Some here
  place : CaretPlace
  is_place : place_of here.origin ≡ Some place
  carets : List Caret
  first : filter_map caret_of (in_place page line column before bs) ≡ record { place = place; occurrence = occurrence_behind (before ++ boundaries_of (take at bs)) (Some place) } ∷ carets

taken_later : (page line column k i : ℕ) (before : List stops.Boundary) (b : Boundary) (bs : List Boundary) →
    filter_map caret_of (in_place page line column before (b ∷ bs)) ≡ filter_map caret_of (in_place page line column (before ++ boundary_of b ∷ []) bs) →
    Taken page line column (k + 1) i (before ++ boundary_of b ∷ []) bs → Taken page line column k i before (b ∷ bs)
taken_later page line column k i before b bs passed t = record {
  at = suc t.at;
  is = t.is ∙ (let e : k + 1 + t.at ≡ k + suc t.at = omega arith in e);
  here = t.here;
  found = t.found;
  place = t.place;
  is_place = t.is_place;
  carets = t.carets;
  first = passed ∙ t.first
      ∙ ap (λ l. record { place = t.place; occurrence = occurrence_behind l (Some t.place) } ∷ t.carets) (append_assoc before (boundary_of b ∷ []) (boundaries_of (take t.at bs)));
}

some_step : (t : Bool) (o : Option CaretPlace) (page line column k i : ℕ) (before : List stops.Boundary) (b : Boundary) (bs : List Boundary) → t ≡ is_at page line column b → o ≡ place_of b.origin →
    cond (t && is_some o) (Some k) (position_from (is_caret_at page line column) (k + 1) bs) ≡ Some i →
    (position_from (is_caret_at page line column) (k + 1) bs ≡ Some i → Taken page line column (k + 1) i (before ++ boundary_of b ∷ []) bs) → Taken page line column k i before (b ∷ bs)
some_step true (Some place) page line column k i before b bs same origin e later =
    let at : k ≡ i = same_Some k i e in
    let rest : List Stop = in_place page line column (before ++ boundary_of b ∷ []) bs in
    record {
      at = 0;
      is = sym at ∙ (let z : k ≡ k + 0 = omega arith in z);
      here = b;
      found = refl;
      place = place;
      is_place = sym origin;
      carets = filter_map caret_of rest;
      first = ap (λ u. filter_map caret_of (cond u (stop_at b (occurrence_behind before (place_of b.origin)) ∷ rest) rest)) (sym same)
          ∙ ap (λ p. cons_option (caret_in (occurrence_behind before p) p) (filter_map caret_of rest)) (sym origin)
          ∙ ap (λ l. record { place = place; occurrence = occurrence_behind l (Some place) } ∷ filter_map caret_of rest) (sym (append-nil before));
    }
some_step true None page line column k i before b bs same origin e later =
    let rest : List Stop = in_place page line column (before ++ boundary_of b ∷ []) bs in
    taken_later page line column k i before b bs
    (ap (λ u. filter_map caret_of (cond u (stop_at b (occurrence_behind before (place_of b.origin)) ∷ rest) rest)) (sym same)
    ∙ ap (λ p. cons_option (caret_in (occurrence_behind before p) p) (filter_map caret_of rest)) (sym origin)) (later e)
some_step false o page line column k i before b bs same origin e later =
    let rest : List Stop = in_place page line column (before ++ boundary_of b ∷ []) bs in
    taken_later page line column k i before b bs (ap (λ u. filter_map caret_of (cond u (stop_at b (occurrence_behind before (place_of b.origin)) ∷ rest) rest)) (sym same)) (later e)

some_from : (page line column k i : ℕ) (before : List stops.Boundary) (bs : List Boundary) → position_from (is_caret_at page line column) k bs ≡ Some i → Taken page line column k i before bs
some_from page line column k i before [] e = absurd (none-some i e)
some_from page line column k i before (b ∷ bs) e =
    some_step (is_at page line column b) (place_of b.origin) page line column k i before b bs refl refl e (λ later. some_from page line column (k + 1) i (before ++ boundary_of b ∷ []) bs later)

pub takes_first : (page line column i : ℕ) (bs : List Boundary) (caret : Caret) → position (is_caret_at page line column) bs ≡ Some i → IsCaretAt bs i caret →
    IsHead caret (filter_map caret_of (in_place page line column [] bs))
takes_first page line column i bs caret e is =
    let t : Taken page line column 0 i [] bs = some_from page line column 0 i [] bs (sym (position_from-zero (is_caret_at page line column) bs) ∙ e) in
    let at : i ≡ t.at = t.is ∙ (let z : 0 + t.at ≡ t.at = omega arith in z) in
    let here : is.here ≡ t.here = same_Some is.here t.here (sym is.found ∙ ap (slice_get bs) at ∙ t.found) in
    let place : caret.place ≡ t.place = same_Some caret.place t.place (sym is.place ∙ ap (λ (b : Boundary). place_of b.origin) here ∙ t.is_place) in
    let occurrence : caret.occurrence ≡ occurrence_behind (boundaries_of (take t.at bs)) (Some t.place) =
    is.occurrence ∙ ap (λ n. occurrence_behind (boundaries_of (take n bs)) (Some caret.place)) at ∙ ap (λ p. occurrence_behind (boundaries_of (take t.at bs)) (Some p)) place in (
      t.carets,
      t.first ∙ ap (λ p. record { place = p; occurrence = occurrence_behind (boundaries_of (take t.at bs)) (Some t.place) } ∷ t.carets) (sym place)
          ∙ ap (λ n. record { place = caret.place; occurrence = n } ∷ t.carets) (sym occurrence),
    )

pub takes_caret : (editor : Editor) (page line column i : ℕ) (bs : List Boundary) (caret : Caret) → position (is_caret_at page line column) bs ≡ Some i → IsCaretAt bs i caret →
    put_among editor (in_place page line column [] bs) ≡ taken editor (Ok caret)
takes_caret editor page line column i bs caret e is = ap (put_first editor (in_place page line column [] bs)) (takes_first page line column i bs caret e is).1

pub place_found : (page line column i : ℕ) (bs : List Boundary) → position (is_caret_at page line column) bs ≡ Some i → (i < length bs) × (is_place_at bs i ≡ true)
place_found page line column i bs e =
    let t : Taken page line column 0 i [] bs = some_from page line column 0 i [] bs (sym (position_from-zero (is_caret_at page line column) bs) ∙ e) in
    let at : i ≡ t.at = t.is ∙ (let z : 0 + t.at ≡ t.at = omega arith in z) in
    let here : slice_get bs i ≡ Some t.here = ap (slice_get bs) at ∙ t.found in
    (slice_get_within bs i t.here here, ap (λ (o : Option Boundary). elim o [ None ↦ false | Some b ↦ is_place b.origin ]) here ∙ ap is_some t.is_place)

-- why none is taken
refuse_step : (editor : Editor) (t : Bool) (b : Boundary) (occurrence : ℕ) (rest : List Stop) (next : Option Boundary) → put_first editor rest [] ≡ (editor, Refused (refused_at next)) →
    put_first editor (cond t (stop_at b occurrence ∷ rest) rest) [] ≡ (editor, Refused (refused_at (cond t (Some b) next)))
refuse_step editor true b occurrence rest next e = refl
refuse_step editor false b occurrence rest next e = e

refused_from : (editor : Editor) (page line column : ℕ) (before : List stops.Boundary) (bs : List Boundary) →
    put_first editor (in_place page line column before bs) [] ≡ (editor, Refused (refused_at (find (is_at page line column) bs)))
refused_from editor page line column before [] = refl
refused_from editor page line column before (b ∷ bs) =
    refuse_step editor (is_at page line column b) b (occurrence_behind before (place_of b.origin)) (in_place page line column (before ++ boundary_of b ∷ []) bs) (find (is_at page line column) bs)
    (refused_from editor page line column (before ++ boundary_of b ∷ []) bs)

pub takes_none : (editor : Editor) (page line column : ℕ) (bs : List Boundary) (rule : Rule) → position (is_caret_at page line column) bs ≡ None → rule_of rule ≡ refused_at (find (is_at page line column) bs) →
    put_among editor (in_place page line column [] bs) ≡ taken editor (Err rule)
takes_none editor page line column bs rule e is =
    ap (put_first editor (in_place page line column [] bs)) (none_from page line column 0 [] bs (sym (position_from-zero (is_caret_at page line column) bs) ∙ e))
    ∙ refused_from editor page line column [] bs ∙ ap (λ r. (editor, Refused r)) (sym is)

-- the first boundary there, where none so far was there
pub find_here : (p : Boundary → Bool) (bs : List Boundary) (i : ℕ) (d : Boundary) (r : Bool) → i < length bs → r ≡ p (get_or bs i d) → r ≡ true → find p (drop i bs) ≡ find p bs →
    find p bs ≡ Some (get_or bs i d)
find_here p bs i d r within is there so_far =
    sym so_far ∙ ap (find p) (drop_more bs i d within) ∙ ap (λ t. cond t (Some (get_or bs i d)) (find p (drop (i + 1) bs))) (sym is ∙ there)

pub find_past : (p : Boundary → Bool) (bs : List Boundary) (i : ℕ) (d : Boundary) (r : Bool) → i < length bs → r ≡ p (get_or bs i d) → r ≡ false → find p (drop i bs) ≡ find p bs →
    find p (drop (i + 1) bs) ≡ find p bs
find_past p bs i d r within is other so_far =
    sym (ap (find p) (drop_more bs i d within) ∙ ap (λ t. cond t (Some (get_or bs i d)) (find p (drop (i + 1) bs))) (sym is ∙ other)) ∙ so_far

pub find_none : (p : Boundary → Bool) (bs : List Boundary) (i : ℕ) → length bs ≤ i → find p (drop i bs) ≡ find p bs → find p bs ≡ None
find_none p bs i past so_far = sym so_far ∙ ap (find p) (drop_all i bs past)

-- one boundary more
abbrev counted : CaretPlace → List Boundary → ℕ
counted place bs = length (filter (comes_from place) (boundaries_of bs))

count_step : (t : Bool) (here : stops.Boundary) (n : ℕ) (rest : List stops.Boundary) → length rest ≡ n → length (cond t (here ∷ rest) rest) ≡ n + (if t then 1 else 0)
count_step true here n rest e = omega (arith, e)
count_step false here n rest e = omega (arith, e)

last_step : (t : Bool) (here : stops.Boundary) (n m : ℕ) (longer rest : List stops.Boundary) → length rest ≡ n → length longer ≡ n + m →
    length (cond t (here ∷ longer) longer) ≡ length (cond t (here ∷ rest) rest) + m
last_step true here n m longer rest e f = omega (arith, e, f)
last_step false here n m longer rest e f = omega (arith, e, f)

count_last : (place : CaretPlace) (bs : List Boundary) (b : Boundary) → counted place (bs ++ b ∷ []) ≡ counted place bs + (if comes_from place (boundary_of b) then 1 else 0)
count_last place [] b = count_step (comes_from place (boundary_of b)) (boundary_of b) 0 [] refl
count_last place (x ∷ bs) b = last_step (comes_from place (boundary_of x)) (boundary_of x) (counted place bs) (if comes_from place (boundary_of b) then 1 else 0) (filter (comes_from place) (boundaries_of (bs ++ b ∷ [])))
    (filter (comes_from place) (boundaries_of bs)) refl (count_last place bs b)

pub count_more : (place : CaretPlace) (bs : List Boundary) (i : ℕ) (d : Boundary) (r : Bool) → i < length bs → r ≡ comes_from place (boundary_of (get_or bs i d)) →
    counted place (take (i + 1) bs) ≡ counted place (take i bs) + (if r then 1 else 0)
count_more place bs i d r within is =
    ap (counted place) (take_more bs i d within) ∙ count_last place (take i bs) (get_or bs i d) ∙ ap (λ t. counted place (take i bs) + (if t then 1 else 0)) (sym is)
