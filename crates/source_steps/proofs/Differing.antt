-- One cell more is looked at, and what the changes of a difference make of the old map.
use Rattle.std.proofs.Common.{◌≡◌, ◌||◌, ◌⊎◌, ◌↔◌, inl, inr, Bool, true, false, List, [], ◌∷◌, ◌++◌, Option, All, Contains, if◌then◌else◌, refl, sym, ap, ◌∙◌, subst, arith, rules}
use Rattle.std.proofs.lemmas.Bool.{cases_Bool}
use Rattle.std.proofs.lemmas.List.Elements.{Contains-push_cases, All-push, All-head, All-tail}
use Rattle.std.proofs.lemmas.List.Folds.{list_any-append}
use Rattle.std.specs.List.{list_any}
use Rattle.serna_kinds.specs.declared.cells.Cell.{Cell}
use Rattle.serna_kinds.specs.Content.{Content}
use Rattle.serna_kinds.specs.Tape.{is_cell, with_cell}
use Rattle.serna_kinds.proofs.TapeLemmas.{is_cell-same, is_cell-laws, Contains-with_cell, Contains-with_cell_before}
use Rattle.frozen_tree.specs.declared.kept.CellChange.{CellChange}
use Rattle.frozen_tree.specs.Maps.{left_by, with_change, changed_by, names}
use Rattle.source_steps.specs.declared.difference.Difference.{Difference}
use Rattle.source_steps.specs.Differences.{IsDifference, Looks}

-- a cell of a log with one more is the new one or was there
with_cell-cases : (log : List Cell) (cell seen : Cell) → Contains (with_cell log cell) seen → Contains log seen ⊎ (cell ≡ seen)
with_cell-cases log cell seen there = with_cell-by log cell seen (list_any (is_cell cell) log) refl there
  where
    with_cell-by : (log : List Cell) (cell seen : Cell) (b : Bool) → list_any (is_cell cell) log ≡ b → Contains (with_cell log cell) seen → Contains log seen ⊎ (cell ≡ seen)
    with_cell-by log cell seen true found there = inl (subst (λ b. Contains (if b then log else log ++ cell ∷ []) seen) found there)
    with_cell-by log cell seen false absent there = Contains-push_cases log cell seen (subst (λ b. Contains (if b then log else log ++ cell ∷ []) seen) absent there)

-- one change more names its cell too
names-push : (changes : List CellChange) (change : CellChange) (cell : Cell) → names (changes ++ change ∷ []) cell ≡ (names changes cell || (is_cell change.cell cell || false))
names-push changes change cell = list_any-append (λ (x : CellChange). is_cell x.cell cell) changes (change ∷ [])

either : (a b : Bool) → (a || (b || false)) ≡ true → (a ≡ true) ⊎ (b ≡ true)
either true b e = inl refl
either false true e = inr refl
either false false e = cc

first : (a b : Bool) → a ≡ true → (a || (b || false)) ≡ true
first true b e = refl
first false b e = cc

second : (a b : Bool) → b ≡ true → (a || (b || false)) ≡ true
second true true e = refl
second false true e = refl
second a false e = cc

pub none_yet : (old new : Cell → Option Content) (difference : Difference) → difference.cells.cells ≡ [] → difference.changes ≡ [] → IsDifference old new [] difference
none_yet old new difference cells changes = record {
  differ = λ cell there. absurd (nowhere cell (subst (λ log. Contains log cell) cells there));
  all = λ cell there. absurd (nowhere cell there);
  named = λ cell. (λ named. absurd (not_named cell named), λ there. absurd (nowhere cell (subst (λ log. Contains log cell) cells there)));
  says = subst (All (λ change. left_by change ≡ new change.cell)) (sym changes) (search rules);
}
  where
    nowhere : (cell : Cell) → Contains [] cell → ⊥
    nowhere cell there = let within = there.1 in omega (arith, within)

    not_named : (cell : Cell) → names difference.changes cell ≡ true → ⊥
    not_named cell named = (let e : names [] cell ≡ true = subst (λ cs. names cs cell ≡ true) changes named in cc)

pub same_more : (old new : Cell → Option Content) (cells : List Cell) (cell : Cell) (before : Difference) → old cell ≡ new cell → IsDifference old new cells before → IsDifference old new (cells ++ cell ∷ []) before
same_more old new cells cell before same is = record {
  differ = is.differ;
  all = λ other there. elim (Contains-push_cases cells cell other there) [ inl was ↦ is.all other was | inr e ↦ inl (subst (λ c. old c ≡ new c) e same) ];
  named = is.named;
  says = is.says;
}

pub other_more : (old new : Cell → Option Content) (cells : List Cell) (cell : Cell) (before after : Difference) (change : CellChange) → (old cell ≡ new cell → ⊥) → change.cell ≡ cell → left_by change ≡ new cell →
    after.cells.cells ≡ with_cell before.cells.cells cell → after.changes ≡ before.changes ++ change ∷ [] → IsDifference old new cells before → IsDifference old new (cells ++ cell ∷ []) after
other_more old new cells cell before after change differs own says log changes is = record {
  differ = λ other there. elim (with_cell-cases before.cells.cells cell other (subst (λ l. Contains l other) log there)) [
    | inl was ↦ is.differ other was
    | inr e ↦ subst (λ c. old c ≡ new c → ⊥) e differs
  ];
  all = λ other there. elim (Contains-push_cases cells cell other there) [
    | inl was ↦ elim (is.all other was) [ inl same ↦ inl same | inr found ↦ inr (keeps other found) ]
    | inr e ↦ inr (subst (Contains after.cells.cells) e has)
  ];
  named = λ other. (
    λ named. elim (either (names before.changes other) (is_cell change.cell other) (sym (whole other) ∙ named)) [
      | inl was ↦ keeps other ((is.named other).0 was)
      | inr here ↦ subst (Contains after.cells.cells) (sym own ∙ is_cell-same change.cell other here) has
    ],
    λ there. whole other ∙ elim (with_cell-cases before.cells.cells cell other (subst (λ l. Contains l other) log there)) [
      | inl was ↦ first (names before.changes other) (is_cell change.cell other) ((is.named other).1 was)
      | inr e ↦ second (names before.changes other) (is_cell change.cell other) (ap (λ c. is_cell c other) (own ∙ e) ∙ is_cell-laws.refl other)
    ],
  );
  says = subst (All (λ (c : CellChange). left_by c ≡ new c.cell)) (sym changes) (All-push (λ (c : CellChange). left_by c ≡ new c.cell) before.changes change is.says (says ∙ ap new (sym own)));
}
  where
    has : Contains after.cells.cells cell
    has = subst (λ l. Contains l cell) (sym log) (Contains-with_cell before.cells.cells cell)

    keeps : (other : Cell) → Contains before.cells.cells other → Contains after.cells.cells other
    keeps other was = subst (λ l. Contains l other) (sym log) (Contains-with_cell_before before.cells.cells cell other was)

    whole : (other : Cell) → names after.changes other ≡ (names before.changes other || (is_cell change.cell other || false))
    whole other = ap (λ cs. names cs other) changes ∙ names-push before.changes change other

pub one_cell_more : (old new : Cell → Option Content) (cells : List Cell) (cell : Cell) (before after : Difference) → Looks old new cell before after → IsDifference old new cells before →
    IsDifference old new (cells ++ cell ∷ []) after
one_cell_more old new cells cell before after (inl same) is = subst (IsDifference old new (cells ++ cell ∷ [])) (sym same.1) (same_more old new cells cell before same.0 is)
one_cell_more old new cells cell before after (inr other) is = other_more old new cells cell before after other.1 other.0 other.2 other.3 other.4 other.5 is

-- the changes lead from the old map to the new one at the cells that they name, and nowhere else
pub changed_to : (changes : List CellChange) (view new : Cell → Option Content) (cell : Cell) → All (λ (c : CellChange). left_by c ≡ new c.cell) changes →
    changed_by changes view cell ≡ (if names changes cell then new cell else view cell)
changed_to [] view new cell says = refl
changed_to (change ∷ rest) view new cell says =
    changed_to rest (with_change change view) new cell (All-tail (λ (c : CellChange). left_by c ≡ new c.cell) change rest says)
    ∙ changed_by_cases (is_cell change.cell cell) (names rest cell) refl
  where
    changed_by_cases : (a b : Bool) → is_cell change.cell cell ≡ a → (if b then new cell else with_change change view cell) ≡ (if a || b then new cell else view cell)
    changed_by_cases true true e = refl
    changed_by_cases true false e =
        ap (λ t. if t then left_by change else view cell) e ∙ All-head (λ (c : CellChange). left_by c ≡ new c.cell) change rest says ∙ ap new (is_cell-same change.cell cell e)
    changed_by_cases false true e = refl
    changed_by_cases false false e = ap (λ t. if t then left_by change else view cell) e

-- where the cells looked at cover all on which the maps differ, the changes make the new map of the old one
pub difference_left : (old new : Cell → Option Content) (cells : List Cell) (difference : Difference) → ((cell : Cell) → (new cell ≡ old cell) ⊎ Contains cells cell) → IsDifference old new cells difference →
    (cell : Cell) → changed_by difference.changes old cell ≡ new cell
difference_left old new cells difference covers is cell =
    changed_to difference.changes old new cell is.says ∙ elim (cases_Bool (names difference.changes cell)) [
      | inl named ↦ ap (λ b. if b then new cell else old cell) named
      | inr unnamed ↦ ap (λ b. if b then new cell else old cell) unnamed ∙ elim (covers cell) [
        | inl same ↦ sym same
        | inr looked ↦ elim (is.all cell looked) [
          | inl same ↦ same
          | inr found ↦ (let e = (is.named cell).1 found in cc)
        ]
      ]
    ]

-- and the cells found are exactly those on which they differ
pub difference_exact : (old new : Cell → Option Content) (cells : List Cell) (difference : Difference) → ((cell : Cell) → (new cell ≡ old cell) ⊎ Contains cells cell) → IsDifference old new cells difference →
    (cell : Cell) → Contains difference.cells.cells cell ↔ (old cell ≡ new cell → ⊥)
difference_exact old new cells difference covers is cell = (
  λ there. is.differ cell there,
  λ differs. elim (covers cell) [
    | inl same ↦ absurd (differs (sym same))
    | inr looked ↦ elim (is.all cell looked) [ inl same ↦ absurd (differs same) | inr found ↦ found ]
  ],
)
