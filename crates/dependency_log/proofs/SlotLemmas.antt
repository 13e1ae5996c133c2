-- Which slots the edges tell for a cell.
use Rattle.std.proofs.Common.{◌≡◌, ℕ, zero, suc, ◌≤◌, Bool, true, false, cond, List, [], ◌∷◌, map, Option, Some, None, refl, sym, ap, ◌∙◌, subst, arith, true≢false}
use Rattle.std.specs.Prelude.{IsSome, IfSome}
use Rattle.std.specs.List.{list_any}
use Rattle.index_lists.specs.Lists.{times, first_of, place_after, from_first}
use Rattle.index_lists.specs.Threads.{left_list, right_list, left_of, item_at, IsLive}
use Rattle.index_lists.proofs.FromFirst.{from_first_here, from_first_step, list_from}
use Rattle.index_lists.proofs.Laws.{left_item, right_item, item_stands}
use Rattle.serna_kinds.specs.declared.cells.Cell.{Cell}
use Rattle.serna_kinds.specs.Tape.{is_cell}
use Rattle.serna_kinds.proofs.TapeLemmas.{is_cell-laws, is_cell-same}
use Rattle.dependency_log.specs.declared.edges.Edges.{Edges}
use Rattle.dependency_log.specs.Edges.{cell_at, slot_at, cell_number, slot_number, cell_of, slot_of, cells_in, slots_from, IsEdge, IsSound}
use Rattle.dependency_log.proofs.Stands.{stands_here, map_stands, stands_map, map_once, any_stands, stands_any}
use Rattle.dependency_log.proofs.EdgeLemmas.{parts_of, cell_at-number, number-cell_at, slot_at-number, number-slot_at}

-- the item of a live place
pub live_item : (e : Edges) (p : ℕ) → IsLive e.threads p → (item : ℕ × ℕ) × (item_at e.threads p ≡ Some item)
live_item e p live = by (item_at e.threads p) refl live
  where
    by : (o : Option (ℕ × ℕ)) → item_at e.threads p ≡ o → IsSome o → (item : ℕ × ℕ) × (item_at e.threads p ≡ Some item)
    by None is some = absurd (cc)
    by (Some item) is some = (item, is)

module _ (e : Edges) (sound : IsSound e) where
  left_once : (l p : ℕ) → times p (left_list e.threads l) ≤ 1
  left_once l p = by (times p (left_list e.threads l)) refl
    where
      by : (n : ℕ) → times p (left_list e.threads l) ≡ n → n ≤ 1
      by zero is = omega arith
      by (suc n) is =
          let item = left_item e.threads p l sound.woven (subst (λ m. 1 ≤ m) (sym is) (omega arith)) in
          let one = (item_stands e.threads p l item.0 sound.woven item.1).left_once in
          omega (arith, is, one)

  -- what is known of an edge in the list of a cell
  from_left : (l s p : ℕ) → 1 ≤ times p (left_list e.threads l) → slot_of e p ≡ s → item_at e.threads p ≡ Some (l, slot_number e s)
  from_left l s p stands is =
      let item = left_item e.threads p l sound.woven stands in
      let parts = parts_of e.threads p l item.0 item.1 in
      let within = (sound.numbered p l item.0 item.1).1 in
      let number : slot_number e s ≡ item.0 = number-slot_at e s item.0 sound within (sym (ap (slot_at e) parts.1) ∙ is) in
      item.1 ∙ ap (λ r. Some (l, r)) (sym number)

  -- each slot that has the cell is told once, and no other
  pub slots_told : (cell : Cell) (s : ℕ) → times s (map (slot_of e) (left_list e.threads (cell_number e cell))) ≡ cond (list_any (is_cell cell) (cells_in e s)) 1 0
  slots_told cell s = by (list_any (is_cell cell) (cells_in e s)) refl
    where
      told : ℕ
      told = times s (map (slot_of e) (left_list e.threads (cell_number e cell)))

      most : told ≤ 1
      most =
          map_once (slot_of e) s (left_list e.threads (cell_number e cell)) (left_once (cell_number e cell))
          (λ p q in_p in_q is_p is_q. sound.edges_apart p q (cell_number e cell, slot_number e s) (from_left (cell_number e cell) s p in_p is_p) (from_left (cell_number e cell) s q in_q is_q))

      has : list_any (is_cell cell) (cells_in e s) ≡ true → 1 ≤ told
      has any =
          let at = any_stands (is_cell cell) (cell_of e) (right_list e.threads (slot_number e s)) any in
          let item = right_item e.threads at.0 (slot_number e s) sound.woven at.1 in
          let parts = parts_of e.threads at.0 item.0 (slot_number e s) item.1 in
          let within = sound.numbered at.0 item.0 (slot_number e s) item.1 in
          let is : cell ≡ cell_of e at.0 = is_cell-same cell (cell_of e at.0) at.2 in
          let number : cell_number e cell ≡ item.0 = number-cell_at e cell item.0 sound within.0 (sym (ap (cell_at e) parts.0) ∙ sym is) in
          let stands = (item_stands e.threads at.0 item.0 (slot_number e s) sound.woven item.1).left_once in
          let stands' : 1 ≤ times at.0 (left_list e.threads (cell_number e cell)) = subst (λ n. 1 ≤ times at.0 (left_list e.threads n)) (sym number) (omega (arith, stands)) in
          let slot : slot_of e at.0 ≡ s = ap (slot_at e) parts.1 ∙ slot_at-number e s within.1 in
          subst (λ y. 1 ≤ times y (map (slot_of e) (left_list e.threads (cell_number e cell)))) slot (stands_map (slot_of e) at.0 (left_list e.threads (cell_number e cell)) stands')

      told_has : 1 ≤ told → list_any (is_cell cell) (cells_in e s) ≡ true
      told_has some =
          let at = map_stands (slot_of e) s (left_list e.threads (cell_number e cell)) some in
          let item = from_left (cell_number e cell) s at.0 at.1 at.2 in
          let parts = parts_of e.threads at.0 (cell_number e cell) (slot_number e s) item in
          let within = sound.numbered at.0 (cell_number e cell) (slot_number e s) item in
          let stands = (item_stands e.threads at.0 (cell_number e cell) (slot_number e s) sound.woven item).right_once in
          let is : cell_of e at.0 ≡ cell = ap (cell_at e) parts.0 ∙ cell_at-number e cell within.0 in
          stands_any (is_cell cell) (cell_of e) at.0 (right_list e.threads (slot_number e s)) (omega (arith, stands)) (ap (is_cell cell) is ∙ is_cell-laws.refl cell)

      by : (b : Bool) → list_any (is_cell cell) (cells_in e s) ≡ b → told ≡ cond b 1 0
      by true any = let some = has any in omega (arith, some, most)
      by false none = at_none told (λ some. true≢false (sym (told_has some) ∙ none))
        where
          at_none : (n : ℕ) → (1 ≤ n → ⊥) → n ≡ 0
          at_none zero no_more = refl
          at_none (suc n) no_more = absurd (no_more (omega arith))

  -- from the first edge on, all are told
  pub slots_from_first : (l : ℕ) → slots_from e (first_of (left_list e.threads l)) ≡ map (slot_of e) (left_list e.threads l)
  slots_from_first l = all (left_list e.threads l) refl
    where
      all : (xs : List ℕ) → left_list e.threads l ≡ xs → slots_from e (first_of xs) ≡ map (slot_of e) xs
      all [] is = refl
      all (x ∷ xs) is =
          let item = left_item e.threads x l sound.woven (subst (λ ys. 1 ≤ times x ys) (sym is) (stands_here x xs)) in
          let own = (parts_of e.threads x l item.0 item.1).0 in
          ap (λ n. map (slot_of e) (from_first x (left_list e.threads n))) own ∙ ap (λ ys. map (slot_of e) (from_first x ys)) is ∙ ap (map (slot_of e)) (from_first_here x xs)

  -- a step of the iterator
  pub slots_next : (at next : Option ℕ) (left : List ℕ) (p : ℕ) → IsEdge e at → slots_from e at ≡ left → at ≡ Some p
      → next ≡ place_after p (left_list e.threads (left_of e.threads p)) → IfSome next (λ q. left_of e.threads q ≡ left_of e.threads p)
      → left ≡ slot_of e p ∷ slots_from e next
  slots_next at next left p edge is here after own =
      let item = live_item e p (edge p here) in
      let parts = parts_of e.threads p item.0.0 item.0.1 item.1 in
      let one = (item_stands e.threads p item.0.0 item.0.1 sound.woven item.1).left_once in
      let stands : 1 ≤ times p (left_list e.threads (left_of e.threads p)) = subst (λ l. 1 ≤ times p (left_list e.threads l)) (sym parts.0) (omega (arith, one)) in
      sym is ∙ ap (slots_from e) here
      ∙ ap (map (slot_of e)) (from_first_step p (left_list e.threads (left_of e.threads p)) (left_once (left_of e.threads p)) stands)
      ∙ ap (λ o. slot_of e p ∷ map (slot_of e) (list_from o (left_list e.threads (left_of e.threads p)))) (sym after)
      ∙ ap (λ ys. slot_of e p ∷ ys) (rest next own)
    where
      rest : (o : Option ℕ) → IfSome o (λ q. left_of e.threads q ≡ left_of e.threads p) → map (slot_of e) (list_from o (left_list e.threads (left_of e.threads p))) ≡ slots_from e o
      rest None own = refl
      rest (Some q) own = ap (λ l. map (slot_of e) (from_first q (left_list e.threads l))) (sym own)
