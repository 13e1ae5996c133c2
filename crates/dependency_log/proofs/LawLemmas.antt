-- That each cell stands once, and what a history of puts and drops leaves.
use Rattle.std.proofs.Common.{◌≡◌, ◌≢◌, ◌⊎◌, ◌↔◌, ℕ, ◌<◌, ◌||◌, Bool, true, false, cond, IsTrue, List, [], ◌∷◌, fold, length, take, Some, All, Contains, inl, inr, refl, sym, ap, ◌∙◌, subst, true≢false, arith}
use Rattle.std.specs.List.{list_any, IsDistinct}
use Rattle.std.specs.Prelude.{slice_index_or}
use Rattle.std.proofs.Math.Bool.{or-false}
use Rattle.std.proofs.lemmas.Bool.{cases_eq, eq-eqb, ne_eqb, or_left, false_from_ne_true}
use Rattle.std.proofs.lemmas.List.{get_or-take, length-take-le}
use Rattle.std.proofs.lemmas.Option.{slice_get-get_or}
use Rattle.std.proofs.lemmas.List.Elements.{All-nil, All-cons, All-head, All-tail}
use Rattle.std.proofs.lemmas.List.Folds.{list_any-append}
use Rattle.std.proofs.lemmas.List.Sums.{fold-append}
use Rattle.std.proofs.lemmas.Map.Keys.{IsDistinct-push}
use Rattle.std.proofs.lemmas.Map.Views.{list_any-from_Contains}
use Rattle.indexmap.proofs.CallerLemmas.{Contains-list_any}
use Rattle.serna_kinds.specs.declared.cells.Cell.{Cell}
use Rattle.serna_kinds.specs.Tape.{is_cell, with_cell, AreDistinctCells}
use Rattle.serna_kinds.proofs.ListLemmas.{one_place}
use Rattle.serna_kinds.proofs.TapeLemmas.{is_cell-laws, is_cell-same}
use Rattle.dependency_log.specs.Logged.{with_cells, each_once, has_cell}
use Rattle.dependency_log.specs.History.{Event, Put, Dropped, slot_in, after, cells_after, LastNames}

-- ---- each cell once

-- one more cell is one more that is found
any-with_cell : (c cell : Cell) (log : List Cell) → list_any (is_cell c) (with_cell log cell) ≡ (list_any (is_cell c) log || is_cell c cell)
any-with_cell c cell log = by (list_any (is_cell cell) log) refl
  where
    found : (b : Bool) → is_cell c cell ≡ b → list_any (is_cell cell) log ≡ true → list_any (is_cell c) log ≡ (list_any (is_cell c) log || b)
    found true e any =
        let same : c ≡ cell = is_cell-same c cell e in
        let any' : list_any (is_cell c) log ≡ true = subst (λ x. list_any (is_cell x) log ≡ true) (sym same) any in
        any' ∙ sym (or_left (list_any (is_cell c) log) true any')
    found false e any = sym (or-false (list_any (is_cell c) log))

    by : (b : Bool) → list_any (is_cell cell) log ≡ b → list_any (is_cell c) (with_cell log cell) ≡ (list_any (is_cell c) log || is_cell c cell)
    by true any = rw any (found (is_cell c cell) refl any)
    by false none = rw none (list_any-append (is_cell c) log (cell ∷ []) ∙ ap (λ b. list_any (is_cell c) log || b) (or-false (is_cell c cell)))

or-or : (a b c : Bool) → ((a || b) || c) ≡ (a || (b || c))
or-or true b c = refl
or-or false b c = refl

any-all : (c : Cell) (log cells : List Cell) → list_any (is_cell c) (fold with_cell log cells) ≡ (list_any (is_cell c) log || list_any (is_cell c) cells)
any-all c log [] = sym (or-false (list_any (is_cell c) log))
any-all c log (cell ∷ cells) =
    any-all c (with_cell log cell) cells
    ∙ ap (λ b. b || list_any (is_cell c) cells) (any-with_cell c cell log)
    ∙ or-or (list_any (is_cell c) log) (is_cell c cell) (list_any (is_cell c) cells)

-- a cell is told exactly where it is named
pub any-each_once : (c : Cell) (cells : List Cell) → list_any (is_cell c) (each_once cells) ≡ list_any (is_cell c) cells
any-each_once c cells = any-all c [] cells

contains : (c : Cell) (cells : List Cell) → list_any (is_cell c) cells ≡ true → Contains cells c
contains c cells any = Contains-list_any is_cell is_cell-same cells c any

any : (c : Cell) (cells : List Cell) → Contains cells c → list_any (is_cell c) cells ≡ true
any c cells there = list_any-from_Contains is_cell-laws c cells there

pub each_once-same : (cells : List Cell) (c : Cell) → Contains (each_once cells) c ↔ Contains cells c
each_once-same cells c = (
  λ there. contains c cells (sym (any-each_once c cells) ∙ any c (each_once cells) there),
  λ there. contains c (each_once cells) (any-each_once c cells ∙ any c cells there),
)

distinct-with_cell : (cell : Cell) (log : List Cell) → IsDistinct is_cell log → IsDistinct is_cell (with_cell log cell)
distinct-with_cell cell log unique = by (list_any (is_cell cell) log) refl
  where
    by : (b : Bool) → list_any (is_cell cell) log ≡ b → IsDistinct is_cell (with_cell log cell)
    by true found = rw found unique
    by false none = rw none (IsDistinct-push is_cell-laws log cell unique none)

distinct-all : (log cells : List Cell) → IsDistinct is_cell log → IsDistinct is_cell (fold with_cell log cells)
distinct-all log [] unique = unique
distinct-all log (cell ∷ cells) unique = distinct-all (with_cell log cell) cells (distinct-with_cell cell log unique)

-- so the cells of a list up to a place do not have the cell at that place again
pub apart_before : (cells : List Cell) (i : ℕ) (d : Cell) → AreDistinctCells cells → i < length cells → list_any (is_cell (slice_index_or cells i d)) (take i cells) ≡ false
apart_before cells i d distinct within = false_from_ne_true (list_any (is_cell (slice_index_or cells i d)) (take i cells)) (λ found.
    let at : Contains (take i cells) (slice_index_or cells i d) = contains (slice_index_or cells i d) (take i cells) found in
    let few : length (take i cells) ≡ i = length-take-le i cells (omega (arith, within)) in
    let before : at.0 < i = subst (λ n. at.0 < n) few at.1 in
    let read : slice_index_or cells at.0 (slice_index_or cells i d) ≡ slice_index_or cells i d = sym (get_or-take i cells at.0 (slice_index_or cells i d) before) ∙ at.2 in
    let same : at.0 ≡ i =
    distinct at.0 i (slice_index_or cells i d)
    (slice_get-get_or cells at.0 (slice_index_or cells i d) (omega (arith, before, within)) ∙ ap Some read)
    (slice_get-get_or cells i d within) in
    absurd (omega (arith, same, before)))

nothing_twice : IsDistinct is_cell []
unfolding IsDistinct
nothing_twice = tt

pub each_once-distinct : (cells : List Cell) → AreDistinctCells (each_once cells)
each_once-distinct cells = one_place is_cell is_cell-laws.refl (each_once cells) (distinct-all [] cells nothing_twice)

-- ---- histories

here : (old : ℕ → List Cell) (s slot : ℕ) (cells : List Cell) → slot ≡ s → with_cells old s cells slot ≡ cells
here old s slot cells same = ap (λ b. cond b cells (old slot)) (eq-eqb slot s same)

elsewhere : (old : ℕ → List Cell) (s slot : ℕ) (cells : List Cell) → (slot ≡ s → ⊥) → with_cells old s cells slot ≡ old slot
elsewhere old s slot cells ne = ap (λ b. cond b cells (old slot)) (ne_eqb slot s ne)

-- an event of another slot leaves the cells of a slot
other : (old : ℕ → List Cell) (event : Event) (slot : ℕ) → slot_in event ≢ slot → after old event slot ≡ old slot
other old (Put s cells) slot ne = elsewhere old s slot (each_once cells) (λ e. ne (sym e))
other old (Dropped s) slot ne = elsewhere old s slot [] (λ e. ne (sym e))

untouched_keeps : (old : ℕ → List Cell) (slot : ℕ) (events : List Event) → All (λ event. slot_in event ≢ slot) events → fold after old events slot ≡ old slot
untouched_keeps old slot [] apart = refl
untouched_keeps old slot (event ∷ events) apart =
    untouched_keeps (after old event) slot events (All-tail (λ event. slot_in event ≢ slot) event events apart)
    ∙ other old event slot (All-head (λ event. slot_in event ≢ slot) event events apart)

last_put : (history : List Event) (slot : ℕ) (cell : Cell) → LastNames history slot cell → IsTrue (has_cell (cells_after history) slot cell)
last_put history slot cell named =
    let start : ℕ → List Cell = fold after (λ s. []) named.before in
    let told : cells_after history slot ≡ each_once named.cells =
    ap (λ events. cells_after events slot) named.cut
    ∙ ap (λ (cells : ℕ → List Cell). cells slot) (fold-append after (λ s. []) named.before (Put slot named.cells ∷ named.later))
    ∙ untouched_keeps (after start (Put slot named.cells)) slot named.later named.untouched
    ∙ here start slot slot (each_once named.cells) refl in
    ap (list_any (is_cell cell)) told ∙ any-each_once cell named.cells ∙ any cell named.cells named.names

-- what a slot has comes from its last put, or is there from the start
pub record Stays (old : ℕ → List Cell) (history : List Event) (slot : ℕ) (cell : Cell) : Type 0 where
  pub had : list_any (is_cell cell) (old slot) ≡ true
  pub untouched : All (λ event. slot_in event ≢ slot) history

since : (old : ℕ → List Cell) (history : List Event) (slot : ℕ) (cell : Cell) → list_any (is_cell cell) (fold after old history slot) ≡ true → LastNames history slot cell ⊎ Stays old history slot cell
since old [] slot cell has = inr (record { had = has; untouched = All-nil (λ event. slot_in event ≢ slot) })
since old (event ∷ events) slot cell has = elim (since (after old event) events slot cell has) [
  | inl named ↦ inl (record {
    before = event ∷ named.before;
    cells = named.cells;
    later = named.later;
    cut = ap (λ es. event ∷ es) named.cut;
    names = named.names;
    untouched = named.untouched;
  })
  | inr stays ↦ at_event event stays
]
  where
    apart : (e : Event) → slot_in e ≢ slot → Stays (after old e) events slot cell → LastNames (e ∷ events) slot cell ⊎ Stays old (e ∷ events) slot cell
    apart e ne stays = inr (record {
      had = sym (ap (list_any (is_cell cell)) (other old e slot ne)) ∙ stays.had;
      untouched = All-cons (λ event. slot_in event ≢ slot) e events ne stays.untouched;
    })

    at_event : (e : Event) → Stays (after old e) events slot cell → LastNames (e ∷ events) slot cell ⊎ Stays old (e ∷ events) slot cell
    at_event (Put s cells) stays = elim (cases_eq s slot) [
      | inl same ↦ inl (record {
        before = [];
        cells = cells;
        later = events;
        cut = ap (λ n. Put n cells ∷ events) same;
        names = contains cell cells (sym (any-each_once cell cells) ∙ sym (ap (list_any (is_cell cell)) (here old s slot (each_once cells) (sym same))) ∙ stays.had);
        untouched = stays.untouched;
      })
      | inr ne ↦ apart (Put s cells) ne stays
    ]
    at_event (Dropped s) stays = elim (cases_eq s slot) [
      | inl same ↦ absurd (true≢false (sym stays.had ∙ ap (list_any (is_cell cell)) (here old s slot [] (sym same))))
      | inr ne ↦ apart (Dropped s) ne stays
    ]

pub told_by_last : (history : List Event) (slot : ℕ) (cell : Cell) → IsTrue (has_cell (cells_after history) slot cell) ↔ LastNames history slot cell
told_by_last history slot cell = (
  λ has. elim (since (λ s. []) history slot cell has) [
    | inl named ↦ named
    | inr stays ↦ absurd (true≢false (sym stays.had))
  ],
  last_put history slot cell,
)
