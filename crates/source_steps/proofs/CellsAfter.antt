-- The cells of what a primitive leaves.
use Rattle.std.proofs.Common.{◌≡◌, ℕ, ◌<◌, ◌≤◌, ◌==◌, inl, inr, ◌&&◌, List, ◌∷◌, map, Option, Some, None, if◌then◌else◌, refl, sym, ap, ◌∙◌}
use Rattle.std.proofs.lemmas.Bool.{cases_eq, ne_eqb, eq-eqb}
use Rattle.std.specs.Option.{option_map, option_and_then}
use Rattle.serna_kinds.specs.declared.cells.AttrPair.{AttrPair}
use Rattle.serna_kinds.specs.declared.cells.Cell.{Cell}
use Rattle.serna_kinds.specs.declared.cells.Facet.{Facet}
use Rattle.serna_kinds.specs.declared.cells.Facet.TheVariants as facet
use Rattle.serna_kinds.specs.Content.{Content}
use Rattle.serna_kinds.specs.Content as content
use Rattle.serna_kinds.specs.Tape.{facet_number}
use Rattle.source_model.specs.Source.{Body, Root, Element, Text, Comment, Forest, none, node, Source, numbers}
use Rattle.source_model.specs.Cells.{Spot, named, spot_in, spot_of, kids_of, facet_of, cell_of}
use Rattle.source_model.specs.Changes.{text_at, with_characters, with_pairs, with_body, with_text, with_attributes, with_kids, inserted_at}
use Rattle.source_model.specs.Proper.{uses}
use Rattle.source_model.specs.Logged.{cell_at}
use Rattle.source_model.proofs.Spots.{if_same, if_other, body_spot, kids_spot, spot_in-with_body, spot_in-with_kids, spot_in-new}
use Rattle.source_primitives.specs.Primitives.{with_tree}
use Rattle.source_steps.specs.CellChanges.{with_content}
use Rattle.source_primitives.proofs.Inside.{spot_text, ElementAt}

-- the numbers of neighbours stay
numbers-with_body : (n : ℕ) (change : Body → Body) (f : Forest) → numbers (with_body n change f) ≡ numbers f
numbers-with_body n change none = refl
numbers-with_body n change (node k body kids rest) = ap (λ ns. k ∷ ns) (numbers-with_body n change rest)

numbers-with_kids : (n : ℕ) (change : Forest → Forest) (f : Forest) → numbers (with_kids n change f) ≡ numbers f
numbers-with_kids n change none = refl
numbers-with_kids n change (node k body kids rest) = ap (λ ns. k ∷ ns) (numbers-with_kids n change rest)

same_kids : (b : Body) (f g : Forest) → numbers f ≡ numbers g → kids_of b f ≡ kids_of b g
same_kids Root f g e = ap (λ ns. Some (content.Kids (map named ns))) e
same_kids (Element name pairs) f g e = ap (λ ns. Some (content.Kids (map named ns))) e
same_kids (Text text) f g e = refl
same_kids (Comment text) f g e = refl

-- a facet looks at no more of what is below a node than the numbers of its children
same_facet : (f : Facet) (up : Option ℕ) (b : Body) (kids inner : Forest) → numbers kids ≡ numbers inner →
    facet_of f (record { up = up; body = b; kids = kids }) ≡ facet_of f (record { up = up; body = b; kids = inner })
same_facet facet.Label up b kids inner e = refl
same_facet facet.Kids up b kids inner e = same_kids b kids inner e
same_facet facet.Up up b kids inner e = refl
same_facet facet.Attrs up b kids inner e = refl
same_facet facet.Text up b kids inner e = refl

-- the cells of other nodes stay where what one node is is changed
other_body : (f : Facet) (n m : ℕ) (change : Body → Body) (o : Option Spot) → (n ≡ m → ⊥) → option_and_then (facet_of f) (option_map (body_spot n change m) o) ≡ option_and_then (facet_of f) o
other_body f n m change None other = refl
other_body f n m change (Some spot) other =
    ap (λ b. facet_of f (record { up = spot.up; body = b; kids = with_body n change spot.kids })) (if_other n m (change spot.body) spot.body other)
    ∙ same_facet f spot.up spot.body (with_body n change spot.kids) spot.kids (numbers-with_body n change spot.kids)

pub others-with_body : (s : Source) (n : ℕ) (change : Body → Body) (cell : Cell) → (n ≡ cell.node.0 → ⊥) → cell_of (with_tree s (with_body n change s.tree)) cell ≡ cell_of s cell
others-with_body s n change cell other =
    ap (option_and_then (facet_of cell.facet)) (spot_in-with_body None n change cell.node.0 s.tree) ∙ other_body cell.facet n cell.node.0 change (spot_of s cell.node.0) other

-- its own cells are those of what it is now
pub own-with_body : (s : Source) (n : ℕ) (change : Body → Body) (f : Facet) (spot : Spot) → spot_of s n ≡ Some spot →
    cell_of (with_tree s (with_body n change s.tree)) (cell_at f (named n)) ≡ facet_of f (record { up = spot.up; body = change spot.body; kids = spot.kids })
own-with_body s n change f spot e =
    ap (option_and_then (facet_of f)) (spot_in-with_body None n change n s.tree ∙ ap (option_map (body_spot n change n)) e)
    ∙ ap (λ b. facet_of f (record { up = spot.up; body = b; kids = with_body n change spot.kids })) (if_same n n (change spot.body) spot.body refl)
    ∙ same_facet f spot.up (change spot.body) (with_body n change spot.kids) spot.kids (numbers-with_body n change spot.kids)

-- tests of cells: another node's, and another facet of the node
pub other_node : (own cell : Cell) (what : Content) (view : Cell → Option Content) → (own.node.0 ≡ cell.node.0 → ⊥) → with_content own what view cell ≡ view cell
other_node own cell what view other =
    ap (λ b. if b && facet_number own.facet == facet_number cell.facet then Some what else view cell) (ne_eqb own.node.0 cell.node.0 other)

same_node : (own cell : Cell) (what : Content) (view : Cell → Option Content) → own.node.0 ≡ cell.node.0 →
    with_content own what view cell ≡ (if facet_number own.facet == facet_number cell.facet then Some what else view cell)
same_node own cell what view same =
    ap (λ b. if b && facet_number own.facet == facet_number cell.facet then Some what else view cell) (eq-eqb own.node.0 cell.node.0 same)

-- the characters of a text, facet by facet
text_facets : (s : Source) (n : ℕ) (change : List ℕ → List ℕ) (up : Option ℕ) (text : List ℕ) (kids : Forest) (f : Facet) → spot_of s n ≡ Some (record { up = up; body = Text text; kids = kids }) →
    facet_of f (record { up = up; body = Text (change text); kids = kids }) ≡ (if facet_number facet.Text == facet_number f then Some (content.Text (change text)) else cell_of s (cell_at f (named n)))
text_facets s n change up text kids facet.Label e = sym (ap (option_and_then (facet_of facet.Label)) e)
text_facets s n change up text kids facet.Kids e = sym (ap (option_and_then (facet_of facet.Kids)) e)
text_facets s n change up text kids facet.Up e = sym (ap (option_and_then (facet_of facet.Up)) e)
text_facets s n change up text kids facet.Attrs e = sym (ap (option_and_then (facet_of facet.Attrs)) e)
text_facets s n change up text kids facet.Text e = refl

pub text_cells : (s : Source) (n : ℕ) (change : List ℕ → List ℕ) (text : List ℕ) → text_at s n ≡ Some text → (cell : Cell) →
    cell_of (with_tree s (with_text n change s.tree)) cell ≡ with_content (cell_at facet.Text (named n)) (content.Text (change text)) (cell_of s) cell
text_cells s n change text there cell = elim (cases_eq n cell.node.0) [
  | inl same ↦
      let at = spot_text s n text there in
      let spot : Spot = record { up = at.0; body = Text text; kids = at.1 } in
      ap (λ m. cell_of (with_tree s (with_text n change s.tree)) (cell_at cell.facet (named m))) (sym same)
      ∙ own-with_body s n (with_characters change) cell.facet spot at.2
      ∙ text_facets s n change at.0 text at.1 cell.facet at.2
      ∙ ap (λ m. if facet_number facet.Text == facet_number cell.facet then Some (content.Text (change text)) else cell_of s (cell_at cell.facet (named m))) same
      ∙ sym (same_node (cell_at facet.Text (named n)) cell (content.Text (change text)) (cell_of s) same)
  | inr other ↦ others-with_body s n (with_characters change) cell other ∙ sym (other_node (cell_at facet.Text (named n)) cell (content.Text (change text)) (cell_of s) other)
]

-- the attributes of an element
pairs_facets : (s : Source) (n : ℕ) (kids : Forest) (at : ElementAt s n kids) (pairs : List AttrPair) (f : Facet) →
    facet_of f (record { up = at.up; body = Element at.name pairs; kids = kids }) ≡ (if facet_number facet.Attrs == facet_number f then Some (content.Attrs pairs) else cell_of s (cell_at f (named n)))
pairs_facets s n kids at pairs facet.Label = sym (ap (option_and_then (facet_of facet.Label)) at.there)
pairs_facets s n kids at pairs facet.Kids = sym (ap (option_and_then (facet_of facet.Kids)) at.there)
pairs_facets s n kids at pairs facet.Up = sym (ap (option_and_then (facet_of facet.Up)) at.there)
pairs_facets s n kids at pairs facet.Attrs = refl
pairs_facets s n kids at pairs facet.Text = sym (ap (option_and_then (facet_of facet.Text)) at.there)

pub pairs_cells : (s : Source) (n : ℕ) (kids : Forest) (at : ElementAt s n kids) (change : List AttrPair → List AttrPair) (cell : Cell) →
    cell_of (with_tree s (with_attributes n change s.tree)) cell ≡ with_content (cell_at facet.Attrs (named n)) (content.Attrs (change at.pairs)) (cell_of s) cell
pairs_cells s n kids at change cell = elim (cases_eq n cell.node.0) [
  | inl same ↦
      let spot : Spot = record { up = at.up; body = Element at.name at.pairs; kids = kids } in
      ap (λ m. cell_of (with_tree s (with_attributes n change s.tree)) (cell_at cell.facet (named m))) (sym same)
      ∙ own-with_body s n (with_pairs change) cell.facet spot at.there
      ∙ pairs_facets s n kids at (change at.pairs) cell.facet
      ∙ ap (λ m. if facet_number facet.Attrs == facet_number cell.facet then Some (content.Attrs (change at.pairs)) else cell_of s (cell_at cell.facet (named m))) same
      ∙ sym (same_node (cell_at facet.Attrs (named n)) cell (content.Attrs (change at.pairs)) (cell_of s) same)
  | inr other ↦ others-with_body s n (with_pairs change) cell other ∙ sym (other_node (cell_at facet.Attrs (named n)) cell (content.Attrs (change at.pairs)) (cell_of s) other)
]

-- the children of an element: the cells of nodes that stand elsewhere, facet by facet
other_kids : (f : Facet) (p m : ℕ) (change : Forest → Forest) (o : Option Spot) → (p ≡ m → ⊥) → option_and_then (facet_of f) (option_map (kids_spot p change m) o) ≡ option_and_then (facet_of f) o
other_kids f p m change None other = refl
other_kids f p m change (Some spot) other =
    ap (λ k. facet_of f (record { up = spot.up; body = spot.body; kids = k })) (if_other p m (change spot.kids) (with_kids p change spot.kids) other)
    ∙ same_facet f spot.up spot.body (with_kids p change spot.kids) spot.kids (numbers-with_kids p change spot.kids)

kids_facets : (s : Source) (n : ℕ) (kids inner : Forest) (at : ElementAt s n kids) (f : Facet) →
    facet_of f (record { up = at.up; body = Element at.name at.pairs; kids = inner }) ≡
    (if facet_number facet.Kids == facet_number f then Some (content.Kids (map named (numbers inner))) else cell_of s (cell_at f (named n)))
kids_facets s n kids inner at facet.Label = sym (ap (option_and_then (facet_of facet.Label)) at.there)
kids_facets s n kids inner at facet.Kids = refl
kids_facets s n kids inner at facet.Up = sym (ap (option_and_then (facet_of facet.Up)) at.there)
kids_facets s n kids inner at facet.Attrs = sym (ap (option_and_then (facet_of facet.Attrs)) at.there)
kids_facets s n kids inner at facet.Text = sym (ap (option_and_then (facet_of facet.Text)) at.there)

-- a subtree put in: the cells of its own nodes, and those of the others
pub new_cells : (s : Source) (p i made : ℕ) (one : Forest) (cell : Cell) → uses cell.node.0 s.tree ≡ 0 → 0 < uses p s.tree → uses p s.tree ≤ 1 →
    cell_of (record { tree = with_kids p (inserted_at i one) s.tree; made = made; spaces = s.spaces }) cell ≡ option_and_then (facet_of cell.facet) (spot_in (Some p) cell.node.0 one)
new_cells s p i made one cell unused parent once = ap (option_and_then (facet_of cell.facet)) (spot_in-new None p cell.node.0 one i s.tree unused parent once)

pub old_cells : (s : Source) (p i made : ℕ) (one kids : Forest) (at : ElementAt s p kids) (cell : Cell) → uses cell.node.0 one ≡ 0 → uses p s.tree ≤ 1 →
    cell_of (record { tree = with_kids p (inserted_at i one) s.tree; made = made; spaces = s.spaces }) cell ≡
    with_content (cell_at facet.Kids (named p)) (content.Kids (map named (numbers (inserted_at i one kids)))) (cell_of s) cell
old_cells s p i made one kids at cell out once =
    let change : Forest → Forest = inserted_at i one in
    let is : cell_of (record { tree = with_kids p change s.tree; made = made; spaces = s.spaces }) cell ≡ option_and_then (facet_of cell.facet) (option_map (kids_spot p change cell.node.0) (spot_of s cell.node.0)) =
    ap (option_and_then (facet_of cell.facet)) (spot_in-with_kids None p cell.node.0 one i s.tree out once) in
    elim (cases_eq p cell.node.0) [
      | inl same ↦
          let spot : Spot = record { up = at.up; body = Element at.name at.pairs; kids = kids } in
          is
          ∙ ap (λ m. option_and_then (facet_of cell.facet) (option_map (kids_spot p change m) (spot_of s m))) (sym same)
          ∙ ap (λ o. option_and_then (facet_of cell.facet) (option_map (kids_spot p change p) o)) at.there
          ∙ ap (λ k. facet_of cell.facet (record { up = at.up; body = Element at.name at.pairs; kids = k })) (if_same p p (change kids) (with_kids p change kids) refl)
          ∙ kids_facets s p kids (change kids) at cell.facet
          ∙ ap (λ m. if facet_number facet.Kids == facet_number cell.facet then Some (content.Kids (map named (numbers (change kids)))) else cell_of s (cell_at cell.facet (named m))) same
          ∙ sym (same_node (cell_at facet.Kids (named p)) cell (content.Kids (map named (numbers (change kids)))) (cell_of s) same)
      | inr other ↦
          is ∙ other_kids cell.facet p cell.node.0 change (spot_of s cell.node.0) other
          ∙ sym (other_node (cell_at facet.Kids (named p)) cell (content.Kids (map named (numbers (change kids)))) (cell_of s) other)
    ]
