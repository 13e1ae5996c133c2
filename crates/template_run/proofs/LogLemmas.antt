-- What a log stays within, cell by cell.
use Rattle.std.proofs.Common.{◌≡◌, ℕ, zero, suc, ◌+◌, ◌<◌, ◌++◌, Bool, IsTrue, List, [], ◌∷◌, length, get_or, drop, ◌&&◌, false, true, subst, sym, ap, ◌∙◌, arith}
use Rattle.std.specs.List.{flat_map, list_all}
use Rattle.std.proofs.lemmas.List.{drop_more}
use Rattle.std.proofs.lemmas.List.Elements.{All-head, All-tail, All-nil, All-cons}
use Rattle.serna_kinds.specs.declared.cells.Cell.{Cell}
use Rattle.serna_kinds.specs.declared.cells.NodeName.{NodeName}
use Rattle.serna_kinds.specs.declared.cells.NameId.{NameId}
use Rattle.serna_kinds.specs.declared.cells.NodeRef.{NodeRef}
use Rattle.serna_kinds.specs.declared.cells.NodeRef.TheVariants as ref
use Rattle.serna_kinds.specs.declared.cells.Facet.TheVariants as facet
use Rattle.serna_kinds.specs.Tape.{Within}
use Rattle.template_run.specs.Allowed.{cell_at, presence_cells, own_cells}

module _ (allowed : Cell → Bool) where
  abbrev One : Cell → Type 0
  One cell = IsTrue (allowed cell)

  pub first : (c : Cell) (rest : List Cell) → Within allowed (c ∷ rest) → IsTrue (allowed c)
  first c rest h = All-head One c rest h

  pub behind_first : (c : Cell) (rest : List Cell) → Within allowed (c ∷ rest) → Within allowed rest
  behind_first c rest h = All-tail One c rest h

  pub front : (xs ys : List Cell) → Within allowed (xs ++ ys) → Within allowed xs
  front [] ys h = All-nil One
  front (x ∷ xs) ys h = All-cons One x xs (first x (xs ++ ys) h) (front xs ys (behind_first x (xs ++ ys) h))

  pub back : (xs ys : List Cell) → Within allowed (xs ++ ys) → Within allowed ys
  back [] ys h = h
  back (x ∷ xs) ys h = back xs ys (behind_first x (xs ++ ys) h)

  -- a node that is there
  pub present_node : (node : NodeRef) (n : NodeName) → node ≡ ref.Node n → Within allowed (presence_cells node) → IsTrue (allowed (cell_at facet.Label n))
  present_node node n is h = first (cell_at facet.Label n) [] (subst (λ r. Within allowed (presence_cells r)) is h)

  pub present_attribute : (node : NodeRef) (n : NodeName) (name : NameId) → node ≡ ref.Attr n name → Within allowed (presence_cells node) → IsTrue (allowed (cell_at facet.Attrs n))
  present_attribute node n name is h = first (cell_at facet.Attrs n) [] (subst (λ r. Within allowed (presence_cells r)) is h)

  -- a node's own cells
  pub own_label : (n : NodeName) → Within allowed (own_cells (ref.Node n)) → IsTrue (allowed (cell_at facet.Label n))
  own_label n h = first (cell_at facet.Label n) (cell_at facet.Kids n ∷ cell_at facet.Text n ∷ []) h

  pub own_kids : (n : NodeName) → Within allowed (own_cells (ref.Node n)) → IsTrue (allowed (cell_at facet.Kids n))
  own_kids n h = first (cell_at facet.Kids n) (cell_at facet.Text n ∷ []) (behind_first (cell_at facet.Label n) (cell_at facet.Kids n ∷ cell_at facet.Text n ∷ []) h)

  pub own_text : (n : NodeName) → Within allowed (own_cells (ref.Node n)) → IsTrue (allowed (cell_at facet.Text n))
  own_text n h =
      first (cell_at facet.Text n) []
      (behind_first (cell_at facet.Kids n) (cell_at facet.Text n ∷ []) (behind_first (cell_at facet.Label n) (cell_at facet.Kids n ∷ cell_at facet.Text n ∷ []) h))

  pub own_attributes : (n : NodeName) (name : NameId) → Within allowed (own_cells (ref.Attr n name)) → IsTrue (allowed (cell_at facet.Attrs n))
  own_attributes n name h = first (cell_at facet.Attrs n) [] h

  pub presence_in_own : (node : NodeRef) → Within allowed (own_cells node) → Within allowed (presence_cells node)
  presence_in_own (ref.Node n) h = front (cell_at facet.Label n ∷ []) (cell_at facet.Kids n ∷ cell_at facet.Text n ∷ []) h
  presence_in_own (ref.Attr n name) h = h

  -- the cells of one thing among those of many
  pub cells_of_one : {X : Type 0} (f : X → List Cell) (xs : List X) (i : ℕ) (d : X) → i < length xs → Within allowed (flat_map f xs) → Within allowed (f (get_or xs i d))
  cells_of_one f [] i d within h = absurd (omega (arith, within))
  cells_of_one f (x ∷ xs) zero d within h = front (f x) (flat_map f xs) h
  cells_of_one f (x ∷ xs) (suc i) d within h = cells_of_one f xs i d (omega (arith, within)) (back (f x) (flat_map f xs) h)

-- a test of all things, from one of them on

pub all_passed : {X : Type 0} (p : X → Bool) (xs : List X) (i : ℕ) (d : X) (whole : Bool) → i < length xs → p (get_or xs i d) ≡ true → list_all p (drop i xs) ≡ whole →
    list_all p (drop (i + 1) xs) ≡ whole
all_passed p xs i d whole within passes h =
    sym (ap (λ b. b && list_all p (drop (i + 1) xs)) passes) ∙ sym (ap (list_all p) (drop_more xs i d within)) ∙ h

pub one_failed : {X : Type 0} (p : X → Bool) (xs : List X) (i : ℕ) (d : X) (whole : Bool) → i < length xs → p (get_or xs i d) ≡ false → list_all p (drop i xs) ≡ whole →
    false ≡ whole
one_failed p xs i d whole within fails h =
    sym (ap (λ b. b && list_all p (drop (i + 1) xs)) fails) ∙ sym (ap (list_all p) (drop_more xs i d within)) ∙ h
