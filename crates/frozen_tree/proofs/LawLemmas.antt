-- The laws of maps, stamps and changes.
use Rattle.std.proofs.Common.{◌≡◌, ◌||◌, ◌&&◌, ℕ, ◌<◌, ◌≤◌, List, [], ◌∷◌, ◌++◌, Bool, true, false, refl, sym, ap, subst, ◌∙◌, inl, inr, if◌then◌else◌, arith}
use Rattle.std.proofs.lemmas.Bool.{eq-eqb, cases_Bool}
use Rattle.std.proofs.lemmas.List.Elements.{All-head, All-tail}
use Rattle.serna_kinds.specs.declared.cells.Cell.{Cell}
use Rattle.serna_kinds.specs.Tape.{facet_number, is_cell}
use Rattle.frozen_tree.specs.declared.kept.CellChange.{CellChange}
use Rattle.frozen_tree.specs.Maps.{CellMap, Stamps, left_by, with_change, changed_by, names, stamped_by, Revision, map_after, stamps_after, named_in, AreLater, AreRising, Tells}
use Rattle.frozen_tree.proofs.MapLemmas.{changed_by-append}

neither : (a b : Bool) → (a || b) ≡ false → (a ≡ false) × (b ≡ false)
neither true true h = cc
neither true false h = cc
neither false b h = (refl, h)

is_cell-same : (cell : Cell) → is_cell cell cell ≡ true
is_cell-same cell = λ i. eq-eqb cell.node.0 cell.node.0 refl i && eq-eqb (facet_number cell.facet) (facet_number cell.facet) refl i

pub unnamed_value : (changes : List CellChange) (map : CellMap) (cell : Cell) → names changes cell ≡ false → changed_by changes map cell ≡ map cell
unnamed_value [] map cell none = refl
unnamed_value (change ∷ rest) map cell none =
    let both = neither (is_cell change.cell cell) (names rest cell) none in
    unnamed_value rest (with_change change map) cell both.1 ∙ ap (λ t. if t then left_by change else map cell) both.0

pub unnamed_stamp : (revision : ℕ) (changes : List CellChange) (stamps : Stamps) (cell : Cell) → names changes cell ≡ false → stamped_by revision changes stamps cell ≡ stamps cell
unnamed_stamp revision changes stamps cell none = ap (λ t. if t then revision else stamps cell) none

named_stamp : (revision : ℕ) (changes : List CellChange) (stamps : Stamps) (cell : Cell) → names changes cell ≡ true → stamped_by revision changes stamps cell ≡ revision
named_stamp revision changes stamps cell some = ap (λ t. if t then revision else stamps cell) some

pub last_value : (before after : List CellChange) (change : CellChange) (map : CellMap) → names after change.cell ≡ false → changed_by (before ++ change ∷ after) map change.cell ≡ left_by change
last_value before after change map none =
    ap (λ (m : CellMap). m change.cell) (changed_by-append before (change ∷ after) map)
    ∙ unnamed_value after (with_change change (changed_by before map)) change.cell none
    ∙ ap (λ t. if t then left_by change else changed_by before map change.cell) (is_cell-same change.cell)

pub tells_step : (number revision : ℕ) (changes : List CellChange) (old now : CellMap) (stamps : Stamps) → number < revision →
    Tells number old stamps now → Tells number old (stamped_by revision changes stamps) (changed_by changes now)
tells_step number revision changes old now stamps later tells cell early =
    elim (cases_Bool (names changes cell)) [
      | inl some ↦
          let e : stamped_by revision changes stamps cell ≡ revision = named_stamp revision changes stamps cell some in
          absurd (omega arith)
      | inr none ↦
          let e : stamped_by revision changes stamps cell ≡ stamps cell = unnamed_stamp revision changes stamps cell none in
          unnamed_value changes now cell none ∙ tells cell (omega arith)
    ]

tells_on : (number : ℕ) (later : List Revision) (old now : CellMap) (stamps : Stamps) → AreLater number later →
    Tells number old stamps now → Tells number old (stamps_after later stamps) (map_after later now)
tells_on number [] old now stamps are tells = tells
tells_on number (r ∷ rest) old now stamps are tells =
    tells_on number rest old (changed_by r.changes now) (stamped_by r.number r.changes stamps)
    (All-tail (λ (x : Revision). number < x.number) r rest are)
    (tells_step number r.number r.changes old now stamps (All-head (λ (x : Revision). number < x.number) r rest are) tells)

pub tells_chain : (number : ℕ) (later : List Revision) (map : CellMap) (stamps : Stamps) → AreLater number later →
    Tells number map (stamps_after later stamps) (map_after later map)
tells_chain number later map stamps are = tells_on number later map map stamps are (λ cell early. refl)

map_after-append : (xs ys : List Revision) (map : CellMap) → map_after (xs ++ ys) map ≡ map_after ys (map_after xs map)
map_after-append [] ys map = refl
map_after-append (r ∷ xs) ys map = map_after-append xs ys (changed_by r.changes map)

stamps_after-append : (xs ys : List Revision) (stamps : Stamps) → stamps_after (xs ++ ys) stamps ≡ stamps_after ys (stamps_after xs stamps)
stamps_after-append [] ys stamps = refl
stamps_after-append (r ∷ xs) ys stamps = stamps_after-append xs ys (stamped_by r.number r.changes stamps)

later_behind : (before later : List Revision) (r : Revision) → AreRising (before ++ r ∷ later) → AreLater r.number later
later_behind [] later r rising = rising.0
later_behind (x ∷ before) later r rising = later_behind before later r rising.1

pub tells_whole : (before later : List Revision) (r : Revision) (map : CellMap) (stamps : Stamps) → AreRising (before ++ r ∷ later) →
    Tells r.number (map_after (before ++ r ∷ []) map) (stamps_after (before ++ r ∷ later) stamps) (map_after (before ++ r ∷ later) map)
tells_whole before later r map stamps rising =
    let there = changed_by r.changes (map_after before map) in
    let stamped = stamped_by r.number r.changes (stamps_after before stamps) in
    let now = map_after-append before (r ∷ later) map in
    let then_was = map_after-append before (r ∷ []) map in
    let stamps_now = stamps_after-append before (r ∷ later) stamps in
    let tells : Tells r.number there (stamps_after later stamped) (map_after later there) = tells_chain r.number later there stamped (later_behind before later r rising) in
    λ cell early.
    ap (λ (m : CellMap). m cell) now
    ∙ tells cell (subst (λ s. s ≤ r.number) (ap (λ (s : Stamps). s cell) stamps_now) early)
    ∙ sym (ap (λ (m : CellMap). m cell) then_was)

unnamed_after : (later : List Revision) (stamps : Stamps) (cell : Cell) → named_in later cell ≡ false → stamps_after later stamps cell ≡ stamps cell
unnamed_after [] stamps cell none = refl
unnamed_after (r ∷ rest) stamps cell none =
    let both = neither (names r.changes cell) (named_in rest cell) none in
    unnamed_after rest (stamped_by r.number r.changes stamps) cell both.1 ∙ unnamed_stamp r.number r.changes stamps cell both.0

pub named_late : (number : ℕ) (later : List Revision) (stamps : Stamps) (cell : Cell) → AreLater number later → named_in later cell ≡ true → number < stamps_after later stamps cell
named_late number [] stamps cell are some = absurd (cc)
named_late number (r ∷ rest) stamps cell are some =
    let stamped = stamped_by r.number r.changes stamps in
    elim (cases_Bool (named_in rest cell)) [
      | inl there ↦ named_late number rest stamped cell (All-tail (λ (x : Revision). number < x.number) r rest are) there
      | inr none ↦
          let e : stamps_after rest stamped cell ≡ stamped cell = unnamed_after rest stamped cell none in
          let here : stamped cell ≡ r.number = named_stamp r.number r.changes stamps cell (one_is (names r.changes cell) (named_in rest cell) some none) in
          let above : number < r.number = All-head (λ (x : Revision). number < x.number) r rest are in
          subst (λ s. number < s) (sym (e ∙ here)) above
    ]
  where
    one_is : (a b : Bool) → (a || b) ≡ true → b ≡ false → a ≡ true
    one_is true b h none = refl
    one_is false b h none = sym none ∙ h

pub late_named : (number : ℕ) (later : List Revision) (stamps : Stamps) (cell : Cell) → stamps cell ≤ number → number < stamps_after later stamps cell → named_in later cell ≡ true
late_named number later stamps cell early late =
    elim (cases_Bool (named_in later cell)) [
      | inl some ↦ some
      | inr none ↦
          let e : stamps_after later stamps cell ≡ stamps cell = unnamed_after later stamps cell none in
          absurd (omega arith)
    ]
