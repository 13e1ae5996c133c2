-- What each step of a put or a drop leaves.
use Rattle.std.proofs.Common.{◌≡◌, ◌≢◌, ℕ, ◌<◌, ◌≤◌, Bool, true, false, cond, List, [], ◌∷◌, ◌++◌, map, length, Some, None, inl, inr, refl, sym, ap, ◌∙◌, subst, le_trans, arith, true≢false}
use Rattle.std.specs.Prelude.{nat_eq, slice_index_or}
use Rattle.std.specs.List.{list_any, position, position_or_len}
use Rattle.std.proofs.lemmas.Bool.{cases_eq, cases_Bool, eq-eqb, ne_eqb}
use Rattle.std.proofs.lemmas.List.{map-append, append-nil, get_or_append_left}
use Rattle.std.proofs.lemmas.Option.{some_pair_parts}
use Rattle.indexmap.specs.IndexSet.{insert_key}
use Rattle.index_lists.specs.Lists.{times}
use Rattle.index_lists.specs.Side.{owner_at, is_in}
use Rattle.index_lists.specs.Threads.{Woven, right_list, left_count, right_count, left_of, item_at, is_right, IsWoven, IsRoomier}
use Rattle.index_lists.proofs.Laws.{both_parts, right_item, item_stands}
use Rattle.serna_kinds.specs.declared.cells.Cell.{Cell}
use Rattle.serna_kinds.specs.Tape.{is_cell, with_cell}
use Rattle.serna_kinds.proofs.ListLemmas.{position_or_len-append}
use Rattle.serna_kinds.proofs.TapeLemmas.{is_cell-laws}
use Rattle.dependency_log.specs.declared.edges.Edges.{Edges}
use Rattle.dependency_log.specs.Logged.{Logged, cells_of, with_cells}
use Rattle.dependency_log.specs.Edges.{no_cell, cell_at, cell_number, slot_number, cell_of, cells_in, with_some, log_of, IsSound, IsSameBut}
use Rattle.dependency_log.proofs.Numbers.{first_at, absent_past}
use Rattle.dependency_log.proofs.Stands.{map_same, stands_any}
use Rattle.dependency_log.proofs.EdgeLemmas.{parts_of, unnumbered, cells_same, log_same, with_some-push, cells_of-log, cell_at-number, slot_at-number}

-- ---- room

pub roomier_log : (e : Edges) (t : Woven) → IsSound e → IsRoomier e.threads t → log_of (record e { threads = t }) ≡ log_of e
roomier_log e t sound roomier =
    log_same e (record e { threads = t }) refl (λ s.
    cells_same e (record e { threads = t }) s sound (roomier.right_lists (slot_number e s)) (λ p stands. roomier.items p) (λ n within. refl))

pub roomier_sound : (e : Edges) (t : Woven) → IsSound e → IsRoomier e.threads t → IsWoven t → IsSound (record e { threads = t })
roomier_sound e t sound roomier woven = record {
  woven = woven;
  cells_apart = sound.cells_apart;
  slots_apart = sound.slots_apart;
  lefts = le_trans sound.lefts roomier.lefts;
  rights = le_trans sound.rights roomier.rights;
  numbered = λ p l r item. sound.numbered p l r (sym (roomier.items p) ∙ item);
  edges_apart = λ p q edge at_p at_q. sound.edges_apart p q edge (sym (roomier.items p) ∙ at_p) (sym (roomier.items q) ∙ at_q);
}

-- ---- a slot gets a number

-- a slot has no cell where it has no number
pub none_in : (e : Edges) (slot : ℕ) → IsSound e → length e.slots.keys ≤ slot_number e slot → cells_in e slot ≡ []
none_in e slot sound past = ap (map (cell_of e)) (unnumbered e (slot_number e slot) sound past)

absent : (e : Edges) (slot : ℕ) → list_any (nat_eq slot) e.slots.keys ≡ false → length e.slots.keys ≤ slot_number e slot
absent e slot none = subst (λ ks. length e.slots.keys ≤ position_or_len (nat_eq slot) ks) (append-nil e.slots.keys) (absent_past (nat_eq slot) e.slots.keys [] none)

-- the cells at a number that a slot has among more slots
more_slots : (e : Edges) (more : List ℕ) (s : ℕ) → IsSound e
    → map (cell_of e) (right_list e.threads (position_or_len (nat_eq s) (e.slots.keys ++ more))) ≡ cells_in e s
more_slots e more s sound = elim (cases_Bool (list_any (nat_eq s) e.slots.keys)) [
  | inl found ↦ ap (λ n. map (cell_of e) (right_list e.threads n)) (position_or_len-append (nat_eq s) e.slots.keys more found)
  | inr none ↦
      ap (map (cell_of e)) (unnumbered e (position_or_len (nat_eq s) (e.slots.keys ++ more)) sound (absent_past (nat_eq s) e.slots.keys more none))
      ∙ sym (none_in e s sound (absent e s none))
]

-- the same edges, with other slots
module _ (e new : Edges) (slot : ℕ) (sound : IsSound e) (cells : new.cells.keys ≡ e.cells.keys) (threads : new.threads ≡ e.threads) (keys : new.slots.keys ≡ insert_key nat_eq e.slots.keys slot) where
  same_at : (s : ℕ) → cells_in new s ≡ map (cell_of e) (right_list e.threads (slot_number new s))
  same_at s = λ i. map (λ p. slice_index_or (cells i) (left_of (threads i) p) no_cell) (right_list (threads i) (slot_number new s))

  pub slot_named : log_of new ≡ log_of e
  slot_named = elim (cases_Bool (list_any (nat_eq slot) e.slots.keys)) [
    | inl found ↦
        let same : new.slots.keys ≡ e.slots.keys = keys ∙ ap (λ b. cond b e.slots.keys (e.slots.keys ++ slot ∷ [])) found in
        log_same e new same (λ s. same_at s ∙ ap (λ ks. map (cell_of e) (right_list e.threads (position_or_len (nat_eq s) ks))) same)
    | inr none ↦
        let pushed : new.slots.keys ≡ e.slots.keys ++ slot ∷ [] = keys ∙ ap (λ b. cond b e.slots.keys (e.slots.keys ++ slot ∷ [])) none in
        let same : (s : ℕ) → cells_in new s ≡ cells_in e s =
        λ s. same_at s ∙ ap (λ ks. map (cell_of e) (right_list e.threads (position_or_len (nat_eq s) ks))) pushed ∙ more_slots e (slot ∷ []) s sound in
        (λ i. record { slots = with_some (λ s. same s i) (pushed i) })
        ∙ ap (λ (es : List (ℕ × List Cell)). let log : Logged = record { slots = es } in log) (with_some-push (cells_in e) e.slots.keys slot (none_in e slot sound (absent e slot none)))
  ]

-- ---- a cell gets a number

with_cell-at : (ks : List Cell) (cell d : Cell) (n : ℕ) → n < length ks → slice_index_or (with_cell ks cell) n d ≡ slice_index_or ks n d
with_cell-at ks cell d n within = by (list_any (is_cell cell) ks) refl
  where
    by : (b : Bool) → list_any (is_cell cell) ks ≡ b → slice_index_or (with_cell ks cell) n d ≡ slice_index_or ks n d
    by true e = rw e refl
    by false e = rw e (get_or_append_left ks (cell ∷ []) d n within)

pub cell_named : (e new : Edges) (cell : Cell) → IsSound e → new.slots.keys ≡ e.slots.keys → new.threads ≡ e.threads → new.cells.keys ≡ with_cell e.cells.keys cell → log_of new ≡ log_of e
cell_named e new cell sound slots threads keys =
    log_same e new slots (λ s.
    cells_same e new s sound (λ i. right_list (threads i) (position_or_len (nat_eq s) (slots i))) (λ p stands. λ i. item_at (threads i) p)
    (λ n within. ap (λ ks. slice_index_or ks n no_cell) keys ∙ with_cell-at e.cells.keys cell no_cell n within))

-- ---- two slots have two numbers

pub numbers_apart : (e : Edges) (slot s : ℕ) → slot_number e slot < length e.slots.keys → s ≢ slot → slot_number e s ≢ slot_number e slot
numbers_apart e slot s within ne same =
    let within' : slot_number e s < length e.slots.keys = subst (λ n. n < length e.slots.keys) (sym same) within in
    ne (sym (slot_at-number e s within') ∙ ap (λ n. slice_index_or e.slots.keys n 0) same ∙ slot_at-number e slot within)

-- ---- the edges of a slot go

pub record Cleared (old new : Woven) (r : ℕ) : Type 0 where
  pub empty : right_list new r ≡ []
  pub items : (p : ℕ) → item_at new p ≡ cond (is_right old r p) None (item_at old p)
  pub other_right_lists : (k : ℕ) → k ≢ r → right_list new k ≡ right_list old k

-- the edges of the slot with a number
pub cleared_at : (e : Edges) (t : Woven) (slot n : ℕ) → position (nat_eq slot) e.slots.keys ≡ Some n → Cleared e.threads t n → (slot_number e slot < length e.slots.keys) × Cleared e.threads t (slot_number e slot)
cleared_at e t slot n at cleared =
    let is = first_at (nat_eq slot) e.slots.keys n at in
    (subst (λ m. m < length e.slots.keys) (sym is.1) is.0, subst (λ m. Cleared e.threads t m) (sym is.1) cleared)

module _ (e : Edges) (t : Woven) (slot : ℕ) (sound : IsSound e) (within : slot_number e slot < length e.slots.keys) (cleared : Cleared e.threads t (slot_number e slot)) where
  pub cleared_empty : cells_in (record e { threads = t }) slot ≡ []
  cleared_empty = ap (map (cell_of (record e { threads = t }))) cleared.empty

  kept : (k p l : ℕ) → k ≢ slot_number e slot → item_at e.threads p ≡ Some (l, k) → item_at t p ≡ item_at e.threads p
  kept k p l ne item =
      let own = (both_parts (owner_at e.threads.left p) (owner_at e.threads.right p) l k item).1 in
      let out : is_right e.threads (slot_number e slot) p ≡ false = ap (λ o. is_in o (slot_number e slot)) own ∙ ne_eqb k (slot_number e slot) ne in
      cleared.items p ∙ ap (λ b. cond b None (item_at e.threads p)) out

  pub cleared_others : (s : ℕ) → s ≢ slot → cells_in (record e { threads = t }) s ≡ cells_in e s
  cleared_others s ne =
      let apart = numbers_apart e slot s within ne in
      cells_same e (record e { threads = t }) s sound (cleared.other_right_lists (slot_number e s) apart)
      (λ p stands. let item = right_item e.threads p (slot_number e s) sound.woven stands in kept (slot_number e s) p item.0 apart item.1)
      (λ n within. refl)

  pub cleared_same : IsSameBut e (record e { threads = t }) slot
  cleared_same = record { others = cleared_others; cell_numbers = refl; slot_numbers = refl }

  pub cleared_nothing : cells_in e slot ≡ [] → log_of (record e { threads = t }) ≡ log_of e
  cleared_nothing none = log_same e (record e { threads = t }) refl (λ s. elim (cases_eq s slot) [
    | inl same ↦ ap (cells_in (record e { threads = t })) same ∙ cleared_empty ∙ sym (ap (cells_in e) same ∙ none)
    | inr ne ↦ cleared_others s ne
  ])

-- ---- an edge comes

pub record Pushed (old new : Woven) (l r p : ℕ) : Type 0 where
  pub fresh : item_at old p ≡ None
  pub item : item_at new p ≡ Some (l, r)
  pub right_end : right_list new r ≡ right_list old r ++ p ∷ []
  pub other_right_lists : (k : ℕ) → k ≢ r → right_list new k ≡ right_list old k
  pub other_items : (q : ℕ) → q ≢ p → item_at new q ≡ item_at old q
  pub same_lefts : left_count new ≡ left_count old
  pub same_rights : right_count new ≡ right_count old
  pub woven : IsWoven new

-- between the numbers of a cell and a slot
pub pushed_at : (e : Edges) (t : Woven) (slot l r p : ℕ) (cell : Cell) → cell_number e cell ≡ l → slot_number e slot ≡ r → Pushed e.threads t l r p → Pushed e.threads t (cell_number e cell) (slot_number e slot) p
pushed_at e t slot l r p cell is_l is_r pushed =
    subst (λ n. Pushed e.threads t n (slot_number e slot) p) (sym is_l) (subst (λ n. Pushed e.threads t l n p) (sym is_r) pushed)

module _ (e : Edges) (t : Woven) (slot : ℕ) (cell : Cell) (p : ℕ) (sound : IsSound e) (cell_within : cell_number e cell < length e.cells.keys) (slot_within : slot_number e slot < length e.slots.keys)
    (pushed : Pushed e.threads t (cell_number e cell) (slot_number e slot) p) where
  old_item : (q : ℕ) (edge : ℕ × ℕ) → item_at e.threads q ≡ Some edge → item_at t q ≡ item_at e.threads q
  old_item q edge item = pushed.other_items q (λ same. let bad : None ≡ Some edge = sym pushed.fresh ∙ ap (item_at e.threads) (sym same) ∙ item in absurd (cc))

  old_cells : (s q : ℕ) → 1 ≤ times q (right_list e.threads (slot_number e s)) → item_at t q ≡ item_at e.threads q
  old_cells s q stands = let item = right_item e.threads q (slot_number e s) sound.woven stands in old_item q (item.0, slot_number e s) item.1

  pub pushed_cells : cells_in (record e { threads = t }) slot ≡ cells_in e slot ++ cell ∷ []
  pushed_cells =
      let new : Edges = record e { threads = t } in
      let before : map (cell_of new) (right_list e.threads (slot_number e slot)) ≡ cells_in e slot =
      map_same (cell_of new) (cell_of e) (right_list e.threads (slot_number e slot)) (λ q stands.
      let item = right_item e.threads q (slot_number e slot) sound.woven stands in
      ap (cell_at e) ((parts_of t q item.0 (slot_number e slot) (old_cells slot q stands ∙ item.1)).0 ∙ sym (parts_of e.threads q item.0 (slot_number e slot) item.1).0)) in
      let last : cell_of new p ≡ cell = ap (cell_at e) (parts_of t p (cell_number e cell) (slot_number e slot) pushed.item).0 ∙ cell_at-number e cell cell_within in
      ap (map (cell_of new)) pushed.right_end ∙ map-append (cell_of new) (right_list e.threads (slot_number e slot)) (p ∷ []) ∙ (λ i. before i ++ last i ∷ [])

  pub pushed_same : IsSameBut e (record e { threads = t }) slot
  pushed_same = record {
    others = λ s ne. cells_same e (record e { threads = t }) s sound (pushed.other_right_lists (slot_number e s) (numbers_apart e slot s slot_within ne)) (old_cells s) (λ n within. refl);
    cell_numbers = refl;
    slot_numbers = refl;
  }

  -- no old edge is between the slot and the cell
  new_edge : list_any (is_cell cell) (cells_in e slot) ≡ false → (q : ℕ) → item_at e.threads q ≡ Some (cell_number e cell, slot_number e slot) → ⊥
  new_edge none q item =
      let stands = (item_stands e.threads q (cell_number e cell) (slot_number e slot) sound.woven item).right_once in
      let at : cell_of e q ≡ cell = ap (cell_at e) (parts_of e.threads q (cell_number e cell) (slot_number e slot) item).0 ∙ cell_at-number e cell cell_within in
      let passes : is_cell cell (cell_of e q) ≡ true = ap (is_cell cell) at ∙ is_cell-laws.refl cell in
      true≢false (sym (stands_any (is_cell cell) (cell_of e) q (right_list e.threads (slot_number e slot)) (omega (arith, stands)) passes) ∙ none)

  pub pushed_sound : list_any (is_cell cell) (cells_in e slot) ≡ false → IsSound (record e { threads = t })
  pushed_sound none = record {
    woven = pushed.woven;
    cells_apart = sound.cells_apart;
    slots_apart = sound.slots_apart;
    lefts = subst (λ n. length e.cells.keys ≤ n) (sym pushed.same_lefts) sound.lefts;
    rights = subst (λ n. length e.slots.keys ≤ n) (sym pushed.same_rights) sound.rights;
    numbered = λ q l r item. elim (cases_eq q p) [
      | inl same ↦
          let is : Some (cell_number e cell, slot_number e slot) ≡ Some (l, r) = sym pushed.item ∙ ap (item_at t) (sym same) ∙ item in
          let both = some_pair_parts (cell_number e cell) l (slot_number e slot) r is in
          (subst (λ n. n < length e.cells.keys) both.0 cell_within, subst (λ n. n < length e.slots.keys) both.1 slot_within)
      | inr ne ↦ sound.numbered q l r (sym (pushed.other_items q ne) ∙ item)
    ];
    edges_apart = λ q k edge at_q at_k. elim (cases_eq q p) [
      | inl same ↦ elim (cases_eq k p) [
        | inl also ↦ same ∙ sym also
        | inr ne ↦ absurd (new_edge none k (sym (pushed.other_items k ne) ∙ at_k ∙ sym at_q ∙ ap (item_at t) same ∙ pushed.item))
      ]
      | inr apart ↦ elim (cases_eq k p) [
        | inl also ↦ absurd (new_edge none q (sym (pushed.other_items q apart) ∙ at_q ∙ sym at_k ∙ ap (item_at t) also ∙ pushed.item))
        | inr ne ↦ sound.edges_apart q k edge (sym (pushed.other_items q apart) ∙ at_q) (sym (pushed.other_items k ne) ∙ at_k)
      ]
    ];
  }

-- ---- the whole step

-- one slot has other cells
pub replaced : (e new : Edges) (slot : ℕ) (cells : List Cell) (old : Logged) → IsSound e → IsSound new → log_of e ≡ old → cells_in new slot ≡ cells
    → ((s : ℕ) → s ≢ slot → cells_in new s ≡ cells_in e s) → cells_of (log_of new) ≡ with_cells (cells_of old) slot cells
replaced e new slot cells old sound sound' was is others = λ i s. at s i
  where
    at : (s : ℕ) → cells_of (log_of new) s ≡ with_cells (cells_of old) slot cells s
    at s = elim (cases_eq s slot) [
      | inl same ↦ cells_of-log new s sound' ∙ ap (cells_in new) same ∙ is ∙ sym (ap (λ b. cond b cells (cells_of old s)) (eq-eqb s slot same))
      | inr ne ↦
          cells_of-log new s sound' ∙ others s ne ∙ sym (cells_of-log e s sound) ∙ ap (λ (log : Logged). cells_of log s) was
          ∙ sym (ap (λ b. cond b cells (cells_of old s)) (ne_eqb s slot ne))
    ]
