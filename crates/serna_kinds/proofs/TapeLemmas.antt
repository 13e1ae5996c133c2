-- What a tape's log says: of the cell that was read last, of those before it, and along an evaluation.
use Rattle.std.proofs.Common.{◌≡◌, ◌++◌, ◌&&◌, ◌==◌, Bool, true, false, IsTrue, List, [], ◌∷◌, Option, Contains, if◌then◌else◌, refl, sym, ap, ◌∙◌, true≢false, rules}
use denote.Enum.Bare.{same_true}
use denote.Enum.Declared.{tag_of}
use Rattle.std.specs.Cmp.{IsEquivalence}
use Rattle.std.specs.List.{list_any, IsDistinct}
use Rattle.std.proofs.lemmas.Bool.Decides.{Decides-eqb}
use Rattle.std.proofs.lemmas.Cmp.{on_equiv, and_equiv, nat_eq_equiv}
use Rattle.std.proofs.lemmas.List.Elements.{All-contains, All-push, All-weaker, Contains-append_left}
use Rattle.indexmap.proofs.CallerLemmas.{Contains-insert_key}
use Rattle.indexmap.specs.IndexSet.{insert_key}
use Rattle.serna_kinds.proofs.ListLemmas.{one_place}
use Rattle.serna_kinds.specs.declared.cells.Cell.{Cell}
use Rattle.serna_kinds.specs.declared.cells.Facet.{Facet}
use Rattle.serna_kinds.specs.declared.cells.Facet.TheVariants.{Label, Kids, Up, Attrs, Text}
use Rattle.serna_kinds.specs.contracts.cells.Facet.{the_type}
use Rattle.serna_kinds.specs.contracts.cells.CellPartialEq.TheImpl as derived
use Rattle.serna_kinds.specs.Content.{Content}
use Rattle.serna_kinds.specs.Tape.{Agrees, AreDistinctCells, SeenBefore, Within, facet_number, is_cell, with_cell}

-- the number of a facet is the one by which Rust tells them apart
number_of : (facet : Facet) → tag_of the_type facet ≡ facet_number facet
number_of Label = refl
number_of Kids = refl
number_of Up = refl
number_of Attrs = refl
number_of Text = refl

-- two tests that pass together
both : (x y : Bool) → (x && y) ≡ true → (x ≡ true) × (y ≡ true)
both true y passes = (refl, passes)
both false y passes = absurd (true≢false (sym passes))

-- `==` at cells is the test of cells
pub cell_eq : (a b : Cell) → derived.eq-value.it a b ≡ is_cell a b
cell_eq a b i = a.node.0 == b.node.0 && number_of a.facet i == number_of b.facet i

-- so that an insert into the set that keeps a log makes the log with the cell
pub with_cell-inserted : (set log new : List Cell) (cell : Cell) → new ≡ insert_key derived.eq-value.it set cell → set ≡ log → new ≡ with_cell log cell
with_cell-inserted set log new cell inserted is =
    inserted ∙ (λ i. if list_any (λ other. cell_eq cell other i) set then set else set ++ cell ∷ []) ∙ ap (λ l. with_cell l cell) is

-- the test of cells is an equivalence
pub is_cell-laws : IsEquivalence is_cell
is_cell-laws = and_equiv (on_equiv (λ c. c.node.0) nat_eq_equiv) (on_equiv (λ c. facet_number c.facet) nat_eq_equiv)

-- and that of equal cells alone
pub is_cell-same : (a b : Cell) → is_cell a b ≡ true → a ≡ b
is_cell-same a b h =
    let parts = both (a.node.0 == b.node.0) (facet_number a.facet == facet_number b.facet) h in
    let same_node = (Decides-eqb a.node.0 b.node.0).0 parts.0 in
    let same_facet = same_true the_type (search rules) a.facet b.facet ((λ i. number_of a.facet i == number_of b.facet i) ∙ parts.1) in
    λ i. record { node = record { 0 = same_node i }; facet = same_facet i }

-- a cell that was read is in the log
pub Contains-with_cell : (log : List Cell) (cell : Cell) → Contains (with_cell log cell) cell
Contains-with_cell log cell = Contains-insert_key is_cell is_cell-same log cell

-- and the others stay there
pub Contains-with_cell_before : (log : List Cell) (cell seen : Cell) → Contains log seen → Contains (with_cell log cell) seen
Contains-with_cell_before log cell seen there = by (list_any (is_cell cell) log) refl
  where
    by : (b : Bool) → list_any (is_cell cell) log ≡ b → Contains (with_cell log cell) seen
    by true found = rw found there
    by false none = rw none (Contains-append_left log (cell ∷ []) seen there)

-- what agrees on a log agrees on each cell of it
pub Agrees-at : (log : List Cell) (map other : Cell → Option Content) (cell : Cell) → Agrees log map other → Contains log cell → other cell ≡ map cell
Agrees-at log map other cell agrees there = agrees cell there

-- a source agrees with itself on each log
pub Agrees-refl : (log : List Cell) (map : Cell → Option Content) → Agrees log map map
Agrees-refl log map cell there = refl

-- what agrees on the log after a read agrees on the one before it
pub SeenBefore-with_cell : (log : List Cell) (cell : Cell) (map : Cell → Option Content) → SeenBefore log (with_cell log cell) map
SeenBefore-with_cell log cell map other agrees seen there = agrees seen (Contains-with_cell_before log cell seen there)

-- and at the cell that was read
pub Agrees-with_cell : (log : List Cell) (cell : Cell) (map other : Cell → Option Content) → Agrees (with_cell log cell) map other → other cell ≡ map cell
Agrees-with_cell log cell map other agrees = agrees cell (Contains-with_cell log cell)

-- a log was seen before itself
pub SeenBefore-refl : (log : List Cell) (map : Cell → Option Content) → SeenBefore log log map
SeenBefore-refl log map other agrees = agrees

-- what was seen before an earlier log was seen before a later one
pub SeenBefore-trans : (a b c : List Cell) (map : Cell → Option Content) → SeenBefore a b map → SeenBefore b c map → SeenBefore a c map
SeenBefore-trans a b c map one two other agrees = one other (two other agrees)

-- each cell of a log that is within a bound meets the bound
pub Within-at : (allowed : Cell → Bool) (log : List Cell) (cell : Cell) → Within allowed log → Contains log cell → IsTrue (allowed cell)
Within-at allowed log cell within there = All-contains (λ c. IsTrue (allowed c)) log cell within there

-- a log stays within each bound that the cell meets
pub Within-with_cell : (allowed : Cell → Bool) (log : List Cell) (cell : Cell) → Within allowed log → IsTrue (allowed cell) → Within allowed (with_cell log cell)
Within-with_cell allowed log cell within meets = by (list_any (is_cell cell) log) refl
  where
    by : (b : Bool) → list_any (is_cell cell) log ≡ b → Within allowed (with_cell log cell)
    by true found = rw found within
    by false none = rw none (All-push (λ c. IsTrue (allowed c)) log cell within meets)

-- a log within a bound is within each wider one
pub Within-wider : (allowed wider : Cell → Bool) (log : List Cell) → ((cell : Cell) → IsTrue (allowed cell) → IsTrue (wider cell)) → Within allowed log → Within wider log
Within-wider allowed wider log implies within = All-weaker (λ c. IsTrue (allowed c)) (λ c. IsTrue (wider c)) implies log within

-- cells of which no two are the same stand at one place each
pub AreDistinctCells-from_unique : (cells : List Cell) → IsDistinct derived.eq-value.it cells → AreDistinctCells cells
AreDistinctCells-from_unique cells unique = one_place derived.eq-value.it (λ cell. cell_eq cell cell ∙ is_cell-laws.refl cell) cells unique

-- what callers of `read` cite: `search (rules, tapes)`
pub ruleset tapes = (Agrees-at, Agrees-refl, SeenBefore-refl, SeenBefore-trans, Within-at, Within-wider)
