-- What the edges say of the cells of each slot.
use Rattle.std.proofs.Common.{◌≡◌, ℕ, ◌<◌, ◌≤◌, Bool, true, false, cond, List, [], ◌∷◌, ◌++◌, map, length, Option, Some, None, inl, inr, refl, sym, ap, ◌∙◌, subst, arith}
use Rattle.std.specs.Prelude.{not, nat_eq}
use Rattle.std.specs.Cmp.{nat_eq_equiv}
use Rattle.std.specs.List.{list_any, position, position_or_len, filter, IsDistinct}
use Rattle.std.specs.Map.{lookup}
use Rattle.std.specs.Option.{unwrap_or}
use Rattle.std.proofs.lemmas.Bool.{cases_eq, cases_Bool, eq-eqb, ne_eqb, eqb-true}
use Rattle.std.proofs.lemmas.List.{append-nil}
use Rattle.index_lists.specs.Lists.{times}
use Rattle.index_lists.specs.Side.{owner_at}
use Rattle.index_lists.specs.Threads.{nothing as no_threads, Woven, left_list, right_list, left_of, right_of, item_at, IsWoven}
use Rattle.index_lists.proofs.Laws.{both_parts, left_item, right_item}
use Rattle.serna_kinds.specs.declared.cells.Cell.{Cell}
use Rattle.serna_kinds.specs.Tape.{is_cell}
use Rattle.serna_kinds.proofs.TapeLemmas.{cell_eq, is_cell-laws, is_cell-same}
use Rattle.serna_kinds.specs.contracts.cells.CellPartialEq.TheImpl as derived
use Rattle.dependency_log.specs.declared.edges.Edges.{Edges}
use Rattle.dependency_log.specs.Logged.{cells_of}
use Rattle.dependency_log.specs.Edges.{no_cell, cell_at, slot_at, cell_number, slot_number, cell_of, is_empty, cells_in, with_some, log_of, IsSound}
use Rattle.dependency_log.proofs.Numbers.{first_at, first_past, absent_past, key_at, number_at}
use Rattle.dependency_log.proofs.Stands.{stands_here, map_same}

-- ---- an edge

-- the lists of an item
pub parts_of : (t : Woven) (p l r : ℕ) → item_at t p ≡ Some (l, r) → (left_of t p ≡ l) × (right_of t p ≡ r)
parts_of t p l r item =
    let both = both_parts (owner_at t.left p) (owner_at t.right p) l r item in
    (ap (λ o. unwrap_or o 0) both.0, ap (λ o. unwrap_or o 0) both.1)

-- a list of a number that no slot, or no cell, has is empty
pub unnumbered : (e : Edges) (r : ℕ) → IsSound e → length e.slots.keys ≤ r → right_list e.threads r ≡ []
unnumbered e r sound past = by (right_list e.threads r) refl
  where
    by : (xs : List ℕ) → right_list e.threads r ≡ xs → xs ≡ []
    by [] is = refl
    by (p ∷ ps) is = absurd (
        let item = right_item e.threads p r sound.woven (subst (λ xs. 1 ≤ times p xs) (sym is) (stands_here p ps)) in
        let within : r < length e.slots.keys = (sound.numbered p item.0 r item.1).1 in
        omega (arith, within, past))

pub unnumbered_left : (e : Edges) (l : ℕ) → IsSound e → length e.cells.keys ≤ l → left_list e.threads l ≡ []
unnumbered_left e l sound past = by (left_list e.threads l) refl
  where
    by : (xs : List ℕ) → left_list e.threads l ≡ xs → xs ≡ []
    by [] is = refl
    by (p ∷ ps) is = absurd (
        let item = left_item e.threads p l sound.woven (subst (λ xs. 1 ≤ times p xs) (sym is) (stands_here p ps)) in
        let within : l < length e.cells.keys = (sound.numbered p l item.0 item.1).0 in
        omega (arith, within, past))

-- a slot has the same cells where its list, the items in it and the cells of numbers are as they were
pub cells_same : (old new : Edges) (s : ℕ) → IsSound old
    → right_list new.threads (slot_number new s) ≡ right_list old.threads (slot_number old s)
    → ((p : ℕ) → 1 ≤ times p (right_list old.threads (slot_number old s)) → item_at new.threads p ≡ item_at old.threads p)
    → ((n : ℕ) → n < length old.cells.keys → cell_at new n ≡ cell_at old n)
    → cells_in new s ≡ cells_in old s
cells_same old new s sound list items cells =
    ap (map (cell_of new)) list ∙ map_same (cell_of new) (cell_of old) (right_list old.threads (slot_number old s)) (λ p stands.
    let item = right_item old.threads p (slot_number old s) sound.woven stands in
    let before = parts_of old.threads p item.0 (slot_number old s) item.1 in
    let after = parts_of new.threads p item.0 (slot_number old s) (items p stands ∙ item.1) in
    let within = (sound.numbered p item.0 (slot_number old s) item.1).0 in
    ap (cell_at new) after.0 ∙ cells item.0 within ∙ sym (ap (cell_at old) before.0))

-- ---- the log that edges say

pub log_same : (old new : Edges) → new.slots.keys ≡ old.slots.keys → ((s : ℕ) → cells_in new s ≡ cells_in old s) → log_of new ≡ log_of old
log_same old new keys same = λ i. record { slots = with_some (λ s. same s i) (keys i) }

-- a slot with no cell, named last, makes no difference
pub with_some-push : (f : ℕ → List Cell) (ks : List ℕ) (s : ℕ) → f s ≡ [] → with_some f (ks ++ s ∷ []) ≡ with_some f ks
with_some-push f [] s none = ap (λ (cells : List Cell). some_of ((s, cells) ∷ [])) none
  where
    some_of : List (ℕ × List Cell) → List (ℕ × List Cell)
    some_of es = filter (λ entry. not (is_empty entry.1)) es
with_some-push f (k ∷ ks) s none = by (f k) refl (with_some-push f ks s none)
  where
    by : (cells : List Cell) → f k ≡ cells → with_some f (ks ++ s ∷ []) ≡ with_some f ks → with_some f ((k ∷ ks) ++ s ∷ []) ≡ with_some f (k ∷ ks)
    by [] e rest = rw e rest
    by (cell ∷ cells) e rest = rw e (ap (λ es. (k, cell ∷ cells) ∷ es) rest)

either : (b : Bool) (cells : List Cell) → cells ≡ [] → cond b cells [] ≡ []
either true cells none = none
either false cells none = refl

-- the cells that the log has for a slot
told : (f : ℕ → List Cell) (s : ℕ) (ks : List ℕ) → unwrap_or (lookup (nat_eq s) (with_some f ks)) [] ≡ cond (list_any (nat_eq s) ks) (f s) []
told f s [] = refl
told f s (k ∷ ks) = by (f k) refl (told f s ks)
  where
    by : (cells : List Cell) → f k ≡ cells → unwrap_or (lookup (nat_eq s) (with_some f ks)) [] ≡ cond (list_any (nat_eq s) ks) (f s) []
        → unwrap_or (lookup (nat_eq s) (with_some f (k ∷ ks))) [] ≡ cond (list_any (nat_eq s) (k ∷ ks)) (f s) []
    by [] e rest = elim (cases_eq s k) [
      | inl same ↦
          let none : f s ≡ [] = ap f same ∙ e in
          let left : unwrap_or (lookup (nat_eq s) (with_some f (k ∷ ks))) [] ≡ [] = rw e (rest ∙ either (list_any (nat_eq s) ks) (f s) none) in
          left ∙ sym (either (list_any (nat_eq s) (k ∷ ks)) (f s) none)
      | inr ne ↦ rw e (rw (ne_eqb s k ne) rest)
    ]
    by (cell ∷ cells) e rest = elim (cases_eq s k) [
      | inl same ↦ rw e (rw (eq-eqb s k same) (sym e ∙ ap f (sym same)))
      | inr ne ↦ rw e (rw (ne_eqb s k ne) rest)
    ]

pub cells_of-log : (e : Edges) (s : ℕ) → IsSound e → cells_of (log_of e) s ≡ cells_in e s
cells_of-log e s sound = elim (cases_Bool (list_any (nat_eq s) e.slots.keys)) [
  | inl found ↦ told (cells_in e) s e.slots.keys ∙ ap (λ b. cond b (cells_in e s) []) found
  | inr none ↦
      let past : length e.slots.keys ≤ slot_number e s = subst (λ ks. length e.slots.keys ≤ position_or_len (nat_eq s) ks) (append-nil e.slots.keys) (absent_past (nat_eq s) e.slots.keys [] none) in
      told (cells_in e) s e.slots.keys ∙ ap (λ b. cond b (cells_in e s) []) none ∙ sym (ap (map (cell_of e)) (unnumbered e (slot_number e s) sound past))
]

-- ---- numbers as the set of cells gives them

pub number_found : (cell : Cell) (ks : List Cell) (r : Option ℕ) (n : ℕ) → r ≡ position (derived.eq-value.it cell) ks → r ≡ Some n → (n < length ks) × (position_or_len (is_cell cell) ks ≡ n)
number_found cell ks r n is some = first_at (is_cell cell) ks n (sym (λ i. position (λ k. cell_eq cell k i) ks) ∙ sym is ∙ some)

pub number_none : (cell : Cell) (ks : List Cell) (r : Option ℕ) → r ≡ position (derived.eq-value.it cell) ks → r ≡ None → length ks ≤ position_or_len (is_cell cell) ks
number_none cell ks r is none = first_past (is_cell cell) ks (sym (λ i. position (λ k. cell_eq cell k i) ks) ∙ sym is ∙ none)

pub cell_at-number : (e : Edges) (cell : Cell) → cell_number e cell < length e.cells.keys → cell_at e (cell_number e cell) ≡ cell
cell_at-number e cell within = key_at is_cell is_cell-laws is_cell-same no_cell cell e.cells.keys within

pub slot_at-number : (e : Edges) (slot : ℕ) → slot_number e slot < length e.slots.keys → slot_at e (slot_number e slot) ≡ slot
slot_at-number e slot within = key_at nat_eq nat_eq_equiv (λ a b t. eqb-true a b t) 0 slot e.slots.keys within

pub number-cell_at : (e : Edges) (cell : Cell) (n : ℕ) → IsSound e → n < length e.cells.keys → cell_at e n ≡ cell → cell_number e cell ≡ n
number-cell_at e cell n sound within at = number_at is_cell is_cell-laws is_cell-same no_cell cell e.cells.keys n sound.cells_apart within at

pub number-slot_at : (e : Edges) (slot n : ℕ) → IsSound e → n < length e.slots.keys → slot_at e n ≡ slot → slot_number e slot ≡ n
number-slot_at e slot n sound within at = number_at nat_eq nat_eq_equiv (λ a b t. eqb-true a b t) 0 slot e.slots.keys n sound.slots_apart within at

-- ---- sets

pub cells_apart : (ks : List Cell) → IsDistinct derived.eq-value.it ks → IsDistinct is_cell ks
cells_apart ks unique = subst (λ (eq : Cell → Cell → Bool). IsDistinct eq ks) (λ i a b. cell_eq a b i) unique

-- no edge and no number
pub nothing_sound : (e : Edges) → e.threads ≡ no_threads → e.cells.keys ≡ [] → e.slots.keys ≡ [] → IsWoven e.threads
    → IsDistinct is_cell e.cells.keys → IsDistinct nat_eq e.slots.keys → IsSound e
nothing_sound e threads cells slots woven unique unique' = record {
  woven = woven;
  cells_apart = unique;
  slots_apart = unique';
  lefts = rw cells (omega arith);
  rights = rw slots (omega arith);
  numbered = λ p l r item. absurd (no_item p (l, r) item);
  edges_apart = λ p q edge at_p at_q. absurd (no_item p edge at_p);
}
  where
    no_item : (p : ℕ) (edge : ℕ × ℕ) → item_at e.threads p ≡ Some edge → ⊥
    no_item p edge item = let bad : None ≡ Some edge = sym (ap (λ t. item_at t p) threads) ∙ item in cc
