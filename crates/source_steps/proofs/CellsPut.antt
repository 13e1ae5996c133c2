-- What the changes that put nodes in and take them out make of cells.
use Rattle.std.proofs.Common.{◌≡◌, ℕ, ◌+◌, ◌<◌, ◌≤◌, ◌==◌, ◌⊎◌, inl, inr, ◌&&◌, List, [], ◌∷◌, ◌++◌, map, Option, Some, None, if◌then◌else◌, refl, sym, ap, ◌∙◌, subst, arith}
use Rattle.std.proofs.lemmas.Bool.{cases_eq, ne_eqb, eq-eqb}
use Rattle.std.proofs.lemmas.Option.{same_Some}
use Rattle.std.specs.Option.{option_map}
use Rattle.serna_kinds.specs.declared.cells.NameId.{NameId}
use Rattle.serna_kinds.specs.declared.cells.AttrPair.{AttrPair}
use Rattle.serna_kinds.specs.declared.cells.Cell.{Cell}
use Rattle.serna_kinds.specs.declared.cells.Facet.{Facet}
use Rattle.serna_kinds.specs.declared.cells.Facet.TheVariants as facet
use Rattle.serna_kinds.specs.declared.cells.Kind.TheVariants as kind
use Rattle.serna_kinds.specs.Content.{Content}
use Rattle.serna_kinds.specs.Content as content
use Rattle.serna_kinds.specs.Tape.{facet_number}
use Rattle.source_model.specs.Source.{Body, Root, Element, Text, Comment, Forest, none, node, numbers}
use Rattle.source_model.specs.Cells.{Spot, named, or_else, spot_in, facet_of}
use Rattle.source_model.specs.Proper.{uses}
use Rattle.source_model.specs.Consistent.{AreLeaves}
use Rattle.source_model.specs.Logged.{cell_at}
use Rattle.frozen_tree.specs.declared.kept.CellChange.{CellChange}
use Rattle.frozen_tree.specs.declared.kept.KeptValue.{KeptValue}
use Rattle.frozen_tree.specs.declared.kept.KeptValue.TheVariants as kept
use Rattle.frozen_tree.specs.Maps.{CellMap, kept_content, left_by, with_change, changed_by}
use Rattle.source_primitives.specs.declared.primitive.SubItem.{SubItem}
use Rattle.source_primitives.specs.declared.primitive.SubItem.TheVariants as item
use Rattle.source_primitives.specs.Primitives.{items_of}
use Rattle.source_steps.specs.CellChanges.{put, taken, puts, gone, takes}
use Rattle.source_primitives.proofs.Around.{at_same, at_other, count_same, count_other, either_spot, spot_used}

-- one list of changes behind another
pub changed-append : (a b : List CellChange) (view : CellMap) → changed_by (a ++ b) view ≡ changed_by b (changed_by a view)
changed-append [] b view = refl
changed-append (x ∷ a) b view = changed-append a b (with_change x view)

-- a change of another node's cell shows nothing here
pub elsewhere : (change : CellChange) (view : CellMap) (cell : Cell) → (change.cell.node.0 ≡ cell.node.0 → ⊥) → with_change change view cell ≡ view cell
elsewhere change view cell other =
    ap (λ b. if b && facet_number change.cell.facet == facet_number cell.facet then left_by change else view cell) (ne_eqb change.cell.node.0 cell.node.0 other)

-- and one of this node shows in its own facet alone
pub at_node : (change : CellChange) (view : CellMap) (cell : Cell) → change.cell.node.0 ≡ cell.node.0 →
    with_change change view cell ≡ (if facet_number change.cell.facet == facet_number cell.facet then left_by change else view cell)
at_node change view cell same =
    ap (λ b. if b && facet_number change.cell.facet == facet_number cell.facet then left_by change else view cell) (eq-eqb change.cell.node.0 cell.node.0 same)

-- three changes and more, at another node
three : (a b c : CellChange) (more : List CellChange) (view : CellMap) (cell : Cell) (n : ℕ) → a.cell.node.0 ≡ n → b.cell.node.0 ≡ n → c.cell.node.0 ≡ n → (n ≡ cell.node.0 → ⊥) →
    ((other : CellMap) → changed_by more other cell ≡ other cell) → changed_by (a ∷ b ∷ c ∷ more) view cell ≡ view cell
three a b c more view cell n is-a is-b is-c other rest =
    rest (with_change c (with_change b (with_change a view)))
    ∙ elsewhere c (with_change b (with_change a view)) cell (λ e. other (sym is-c ∙ e))
    ∙ elsewhere b (with_change a view) cell (λ e. other (sym is-b ∙ e))
    ∙ elsewhere a view cell (λ e. other (sym is-a ∙ e))

-- a number that stands nowhere in a node with all below and behind it
not_among : (m n : ℕ) (body : Body) (kids rest : Forest) → uses m (node n body kids rest) ≡ 0 → (n ≡ m → ⊥) × (uses m kids ≡ 0) × (uses m rest ≡ 0)
not_among m n body kids rest e = (λ same. let own = count_same m n (sym same) in absurd (omega (arith, own, e)), omega (arith, e), omega (arith, e))

-- nodes put in show in no other node's cells
pub puts_elsewhere : (up : Option ℕ) (f : Forest) (view : CellMap) (cell : Cell) → uses cell.node.0 f ≡ 0 → changed_by (puts up f) view cell ≡ view cell
puts_elsewhere up none view cell out = refl
puts_elsewhere up (node n Root kids rest) view cell out =
    let o = not_among cell.node.0 n Root kids rest out in
    ap (λ (m : CellMap). m cell) (changed-append (puts (Some n) kids) (puts up rest) view)
    ∙ puts_elsewhere up rest (changed_by (puts (Some n) kids) view) cell o.2
    ∙ puts_elsewhere (Some n) kids view cell o.1
puts_elsewhere up (node n (Element name pairs) kids rest) view cell out =
    let o = not_among cell.node.0 n (Element name pairs) kids rest out in
    let last : CellChange = put facet.Kids n (kept.Kids (map named (numbers kids))) in
    three (put facet.Label n (kept.Label kind.Element (Some name))) (put facet.Up n (kept.Up (option_map named up))) (put facet.Attrs n (kept.Attrs pairs))
    (puts (Some n) kids ++ (last ∷ puts up rest)) view cell n refl refl refl o.0
    (λ other. ap (λ (m : CellMap). m cell) (changed-append (puts (Some n) kids) (last ∷ puts up rest) other)
    ∙ puts_elsewhere up rest (with_change last (changed_by (puts (Some n) kids) other)) cell o.2
    ∙ elsewhere last (changed_by (puts (Some n) kids) other) cell o.0
    ∙ puts_elsewhere (Some n) kids other cell o.1)
puts_elsewhere up (node n (Text text) kids rest) view cell out =
    let o = not_among cell.node.0 n (Text text) kids rest out in
    three (put facet.Label n (kept.Label kind.Text None)) (put facet.Up n (kept.Up (option_map named up))) (put facet.Text n (kept.Text text)) (puts up rest) view cell n refl refl refl o.0
    (λ other. puts_elsewhere up rest other cell o.2)
puts_elsewhere up (node n (Comment text) kids rest) view cell out =
    let o = not_among cell.node.0 n (Comment text) kids rest out in
    three (put facet.Label n (kept.Label kind.Comment None)) (put facet.Up n (kept.Up (option_map named up))) (put facet.Text n (kept.Text text)) (puts up rest) view cell n refl refl refl o.0
    (λ other. puts_elsewhere up rest other cell o.2)

-- three changes of one node's cells, facet by facet
own_three : (a b c : CellChange) (view : CellMap) (cell : Cell) → a.cell.node.0 ≡ cell.node.0 → b.cell.node.0 ≡ cell.node.0 → c.cell.node.0 ≡ cell.node.0 →
    with_change c (with_change b (with_change a view)) cell ≡
    (if facet_number c.cell.facet == facet_number cell.facet then left_by c else
    (if facet_number b.cell.facet == facet_number cell.facet then left_by b else (if facet_number a.cell.facet == facet_number cell.facet then left_by a else view cell)))
own_three a b c view cell is-a is-b is-c =
    at_node c (with_change b (with_change a view)) cell is-c
    ∙ ap (λ o. if facet_number c.cell.facet == facet_number cell.facet then left_by c else o)
    (at_node b (with_change a view) cell is-b ∙ ap (λ o. if facet_number b.cell.facet == facet_number cell.facet then left_by b else o) (at_node a view cell is-a))

-- a text or a comment, where it had no cells before
leaf_facets : (n : ℕ) (up : Option ℕ) (body : Body) (kids : Forest) (label : KeptValue) (text : List ℕ) (view : CellMap) (f : Facet) →
    ((g : Facet) → view (cell_at g (named n)) ≡ None) →
    facet_of facet.Label (record { up = up; body = body; kids = kids }) ≡ Some (kept_content label) → facet_of facet.Kids (record { up = up; body = body; kids = kids }) ≡ None →
    facet_of facet.Attrs (record { up = up; body = body; kids = kids }) ≡ None → facet_of facet.Text (record { up = up; body = body; kids = kids }) ≡ Some (content.Text text) →
    with_change (put facet.Text n (kept.Text text)) (with_change (put facet.Up n (kept.Up (option_map named up))) (with_change (put facet.Label n label) view)) (cell_at f (named n)) ≡
    facet_of f (record { up = up; body = body; kids = kids })
leaf_facets n up body kids label text view facet.Label fresh l k a t = own_three (put facet.Label n label) (put facet.Up n (kept.Up (option_map named up))) (put facet.Text n (kept.Text text)) view (cell_at facet.Label (named n)) refl refl refl ∙ sym l
leaf_facets n up body kids label text view facet.Kids fresh l k a t = own_three (put facet.Label n label) (put facet.Up n (kept.Up (option_map named up))) (put facet.Text n (kept.Text text)) view (cell_at facet.Kids (named n)) refl refl refl ∙ fresh facet.Kids ∙ sym k
leaf_facets n up body kids label text view facet.Up fresh l k a t = own_three (put facet.Label n label) (put facet.Up n (kept.Up (option_map named up))) (put facet.Text n (kept.Text text)) view (cell_at facet.Up (named n)) refl refl refl
leaf_facets n up body kids label text view facet.Attrs fresh l k a t = own_three (put facet.Label n label) (put facet.Up n (kept.Up (option_map named up))) (put facet.Text n (kept.Text text)) view (cell_at facet.Attrs (named n)) refl refl refl ∙ fresh facet.Attrs ∙ sym a
leaf_facets n up body kids label text view facet.Text fresh l k a t = own_three (put facet.Label n label) (put facet.Up n (kept.Up (option_map named up))) (put facet.Text n (kept.Text text)) view (cell_at facet.Text (named n)) refl refl refl ∙ sym t

-- an element, whose children come last
element_facets : (n : ℕ) (up : Option ℕ) (name : NameId) (pairs : List AttrPair) (kids : Forest) (view inner : CellMap) (f : Facet) → ((g : Facet) → view (cell_at g (named n)) ≡ None) →
    inner (cell_at f (named n)) ≡ with_change (put facet.Attrs n (kept.Attrs pairs)) (with_change (put facet.Up n (kept.Up (option_map named up)))
    (with_change (put facet.Label n (kept.Label kind.Element (Some name))) view)) (cell_at f (named n)) →
    with_change (put facet.Kids n (kept.Kids (map named (numbers kids)))) inner (cell_at f (named n)) ≡ facet_of f (record { up = up; body = Element name pairs; kids = kids })
element_facets n up name pairs kids view inner facet.Label fresh e =
    at_node (put facet.Kids n (kept.Kids (map named (numbers kids)))) inner (cell_at facet.Label (named n)) refl ∙ e ∙ own_three (put facet.Label n (kept.Label kind.Element (Some name))) (put facet.Up n (kept.Up (option_map named up))) (put facet.Attrs n (kept.Attrs pairs)) view (cell_at facet.Label (named n)) refl refl refl
element_facets n up name pairs kids view inner facet.Kids fresh e = at_node (put facet.Kids n (kept.Kids (map named (numbers kids)))) inner (cell_at facet.Kids (named n)) refl
element_facets n up name pairs kids view inner facet.Up fresh e =
    at_node (put facet.Kids n (kept.Kids (map named (numbers kids)))) inner (cell_at facet.Up (named n)) refl ∙ e ∙ own_three (put facet.Label n (kept.Label kind.Element (Some name))) (put facet.Up n (kept.Up (option_map named up))) (put facet.Attrs n (kept.Attrs pairs)) view (cell_at facet.Up (named n)) refl refl refl
element_facets n up name pairs kids view inner facet.Attrs fresh e =
    at_node (put facet.Kids n (kept.Kids (map named (numbers kids)))) inner (cell_at facet.Attrs (named n)) refl ∙ e ∙ own_three (put facet.Label n (kept.Label kind.Element (Some name))) (put facet.Up n (kept.Up (option_map named up))) (put facet.Attrs n (kept.Attrs pairs)) view (cell_at facet.Attrs (named n)) refl refl refl
element_facets n up name pairs kids view inner facet.Text fresh e =
    at_node (put facet.Kids n (kept.Kids (map named (numbers kids)))) inner (cell_at facet.Text (named n)) refl ∙ e ∙ own_three (put facet.Label n (kept.Label kind.Element (Some name))) (put facet.Up n (kept.Up (option_map named up))) (put facet.Attrs n (kept.Attrs pairs)) view (cell_at facet.Text (named n)) refl refl refl ∙ fresh facet.Text

-- what was put in has its cells, where no cell of it was there before
abbrev HasCells : CellMap → ℕ → Option Spot → Type 0
HasCells view m o = (spot : Spot) → o ≡ Some spot → (f : Facet) → view (cell_at f (named m)) ≡ facet_of f spot

own_cells : (up : Option ℕ) (m n : ℕ) (body : Body) (kids rest : Forest) (view : CellMap) → m ≡ n → ((f : Facet) → view (cell_at f (named n)) ≡ facet_of f (record { up = up; body = body; kids = kids })) →
    HasCells view m (spot_in up m (node n body kids rest))
own_cells up m n body kids rest view same own spot e f =
    let mine : Spot = record { up = up; body = body; kids = kids } in
    let is : mine ≡ spot = same_Some mine spot (sym (at_same m n (Some mine) (or_else (spot_in (Some n) m kids) (spot_in up m rest)) same) ∙ e) in
    ap (λ k. view (cell_at f (named k))) same ∙ own f ∙ ap (facet_of f) is

-- the cells of a node that stands below or behind one
other_cells : (up : Option ℕ) (m n : ℕ) (body : Body) (kids rest : Forest) (view : CellMap) → (m ≡ n → ⊥) → HasCells view m (spot_in (Some n) m kids) → HasCells view m (spot_in up m rest) →
    HasCells view m (spot_in up m (node n body kids rest))
other_cells up m n body kids rest view other below behind spot e f =
    let mine : Spot = record { up = up; body = body; kids = kids } in
    elim (either_spot (spot_in (Some n) m kids) (spot_in up m rest) spot (sym (at_other m n (Some mine) (or_else (spot_in (Some n) m kids) (spot_in up m rest)) other) ∙ e)) [
      | inl inner ↦ below spot inner f
      | inr later ↦ behind spot later f
    ]

-- from one map to another that has the same cells of the node
same_cells : (view other : CellMap) (m : ℕ) (o : Option Spot) → ((spot : Spot) → o ≡ Some spot → (f : Facet) → view (cell_at f (named m)) ≡ other (cell_at f (named m))) → HasCells other m o → HasCells view m o
same_cells view other m o same has spot e f = same spot e f ∙ has spot e f

abbrev IsFresh : CellMap → Forest → Type 0
IsFresh view f = (k : ℕ) (g : Facet) → 0 < uses k f → view (cell_at g (named k)) ≡ None

-- a text or a comment put in, with its later siblings
leaf_put : (up : Option ℕ) (n : ℕ) (body : Body) (kids rest : Forest) (label : KeptValue) (text : List ℕ) (view : CellMap) (m : ℕ) → kids ≡ none → ((k : ℕ) → uses k (node n body kids rest) ≤ 1) →
    IsFresh view (node n body kids rest) →
    ((g : Facet) → with_change (put facet.Text n (kept.Text text)) (with_change (put facet.Up n (kept.Up (option_map named up))) (with_change (put facet.Label n label) view)) (cell_at g (named n)) ≡
    facet_of g (record { up = up; body = body; kids = kids })) →
    ((other : CellMap) → IsFresh other rest → HasCells (changed_by (puts up rest) other) m (spot_in up m rest)) →
    HasCells (changed_by (put facet.Label n label ∷ put facet.Up n (kept.Up (option_map named up)) ∷ put facet.Text n (kept.Text text) ∷ puts up rest) view) m (spot_in up m (node n body kids rest))
leaf_put up n body kids rest label text view m bare once fresh own later =
    let a = put facet.Label n label in
    let b = put facet.Up n (kept.Up (option_map named up)) in
    let c = put facet.Text n (kept.Text text) in
    let now : CellMap = with_change c (with_change b (with_change a view)) in
    elim (cases_eq m n) [
      | inl same ↦
          let here = count_same n n refl in
          let all = once n in
          own_cells up m n body kids rest (changed_by (puts up rest) now) same (λ g. puts_elsewhere up rest now (cell_at g (named n)) (omega (arith, here, all)) ∙ own g)
      | inr other ↦
          let rest_fresh : IsFresh now rest = λ k g used.
          (let all = once k in
          let not_n : n ≡ k → ⊥ = λ e. let one = count_same k n (sym e) in absurd (omega (arith, one, all, used)) in
          elsewhere c (with_change b (with_change a view)) (cell_at g (named k)) not_n
          ∙ elsewhere b (with_change a view) (cell_at g (named k)) not_n
          ∙ elsewhere a view (cell_at g (named k)) not_n
          ∙ fresh k g (omega (arith, used))) in
          other_cells up m n body kids rest (changed_by (puts up rest) now) other
          (λ spot e g. let bad : spot_in (Some n) m none ≡ Some spot = ap (spot_in (Some n) m) (sym bare) ∙ e in cc)
          (later now rest_fresh)
    ]

pub puts_own : (up : Option ℕ) (f : Forest) (view : CellMap) (m : ℕ) → AreLeaves f → ((k : ℕ) → uses k f ≤ 1) → IsFresh view f → HasCells (changed_by (puts up f) view) m (spot_in up m f)
puts_own up none view m leaves once fresh = λ spot e f. cc
puts_own up (node n Root kids rest) view m leaves once fresh = absurd leaves
puts_own up (node n (Text text) kids rest) view m leaves once fresh =
    leaf_put up n (Text text) kids rest (kept.Label kind.Text None) text view m leaves.0 once fresh
    (λ g. leaf_facets n up (Text text) kids (kept.Label kind.Text None) text view g (λ h. let own = count_same n n refl in fresh n h (omega (arith, own))) refl refl refl refl)
    (λ other new. puts_own up rest other m leaves.1 (λ k. let h = once k in omega (arith, h)) new)
puts_own up (node n (Comment text) kids rest) view m leaves once fresh =
    leaf_put up n (Comment text) kids rest (kept.Label kind.Comment None) text view m leaves.0 once fresh
    (λ g. leaf_facets n up (Comment text) kids (kept.Label kind.Comment None) text view g (λ h. let own = count_same n n refl in fresh n h (omega (arith, own))) refl refl refl refl)
    (λ other new. puts_own up rest other m leaves.1 (λ k. let h = once k in omega (arith, h)) new)
puts_own up (node n (Element name pairs) kids rest) view m leaves once fresh =
    let a = put facet.Label n (kept.Label kind.Element (Some name)) in
    let b = put facet.Up n (kept.Up (option_map named up)) in
    let c = put facet.Attrs n (kept.Attrs pairs) in
    let last : CellChange = put facet.Kids n (kept.Kids (map named (numbers kids))) in
    let first : CellMap = with_change c (with_change b (with_change a view)) in
    let inner : CellMap = changed_by (puts (Some n) kids) first in
    let outer : CellMap = with_change last inner in
    let is : changed_by (puts up (node n (Element name pairs) kids rest)) view ≡ changed_by (puts up rest) outer = changed-append (puts (Some n) kids) (last ∷ puts up rest) first in
    let apart : (k : ℕ) → 0 < uses k kids + uses k rest → (n ≡ k → ⊥) = λ k used e. (let one = count_same k n (sym e) in let all = once k in absurd (omega (arith, one, all, used))) in
    let before : (k : ℕ) (g : Facet) → (n ≡ k → ⊥) → first (cell_at g (named k)) ≡ view (cell_at g (named k)) = λ k g other.
    elsewhere c (with_change b (with_change a view)) (cell_at g (named k)) other ∙ elsewhere b (with_change a view) (cell_at g (named k)) other ∙ elsewhere a view (cell_at g (named k)) other in
    let kids_once : (k : ℕ) → uses k kids ≤ 1 = λ k. (let h = once k in omega (arith, h)) in
    let rest_once : (k : ℕ) → uses k rest ≤ 1 = λ k. (let h = once k in omega (arith, h)) in
    let kids_fresh : IsFresh first kids = λ k g used. before k g (apart k (omega (arith, used))) ∙ fresh k g (omega (arith, used)) in
    let rest_fresh : IsFresh outer rest = λ k g used.
    (let all = once k in
    let not_n = apart k (omega (arith, used)) in
    elsewhere last inner (cell_at g (named k)) not_n ∙ puts_elsewhere (Some n) kids first (cell_at g (named k)) (omega (arith, used, all)) ∙ before k g not_n ∙ fresh k g (omega (arith, used))) in
    subst (λ (x : CellMap). HasCells x m (spot_in up m (node n (Element name pairs) kids rest))) (sym is) (elim (cases_eq m n) [
      | inl same ↦
          let here = count_same n n refl in
          let all = once n in
          own_cells up m n (Element name pairs) kids rest (changed_by (puts up rest) outer) same
          (λ g. puts_elsewhere up rest outer (cell_at g (named n)) (omega (arith, here, all))
          ∙ element_facets n up name pairs kids view inner g (λ h. fresh n h (omega (arith, here))) (puts_elsewhere (Some n) kids first (cell_at g (named n)) (omega (arith, here, all))))
      | inr other ↦
          other_cells up m n (Element name pairs) kids rest (changed_by (puts up rest) outer) other
          (same_cells (changed_by (puts up rest) outer) inner m (spot_in (Some n) m kids)
          (λ spot e g. let used = spot_used (Some n) m kids spot e in let all = once m in
          puts_elsewhere up rest outer (cell_at g (named m)) (omega (arith, used, all)) ∙ elsewhere last inner (cell_at g (named m)) (λ e. other (sym e)))
          (puts_own (Some n) kids first m leaves.0 kids_once kids_fresh))
          (puts_own up rest outer m leaves.1 rest_once rest_fresh)
    ])

-- a node taken out has no cells, and no other node shows it
gone_elsewhere : (n : ℕ) (view : CellMap) (cell : Cell) → (n ≡ cell.node.0 → ⊥) → changed_by (gone n) view cell ≡ view cell
gone_elsewhere n view cell other =
    three (taken facet.Label n) (taken facet.Kids n) (taken facet.Up n) (taken facet.Attrs n ∷ taken facet.Text n ∷ []) view cell n refl refl refl other
    (λ before. elsewhere (taken facet.Text n) (with_change (taken facet.Attrs n) before) cell other ∙ elsewhere (taken facet.Attrs n) before cell other)

-- the map after the first changes of those that take a node out
abbrev without_label : ℕ → CellMap → CellMap
without_label n view = with_change (taken facet.Label n) view

abbrev without_kids : ℕ → CellMap → CellMap
without_kids n view = with_change (taken facet.Kids n) (without_label n view)

abbrev without_up : ℕ → CellMap → CellMap
without_up n view = with_change (taken facet.Up n) (without_kids n view)

abbrev without_pairs : ℕ → CellMap → CellMap
without_pairs n view = with_change (taken facet.Attrs n) (without_up n view)

gone_here : (n : ℕ) (view : CellMap) (f : Facet) → changed_by (gone n) view (cell_at f (named n)) ≡ None
gone_here n view facet.Text = at_node (taken facet.Text n) (without_pairs n view) (cell_at facet.Text (named n)) refl
gone_here n view facet.Attrs =
    at_node (taken facet.Text n) (without_pairs n view) (cell_at facet.Attrs (named n)) refl ∙ at_node (taken facet.Attrs n) (without_up n view) (cell_at facet.Attrs (named n)) refl
gone_here n view facet.Up =
    at_node (taken facet.Text n) (without_pairs n view) (cell_at facet.Up (named n)) refl ∙ at_node (taken facet.Attrs n) (without_up n view) (cell_at facet.Up (named n)) refl
    ∙ at_node (taken facet.Up n) (without_kids n view) (cell_at facet.Up (named n)) refl
gone_here n view facet.Kids =
    at_node (taken facet.Text n) (without_pairs n view) (cell_at facet.Kids (named n)) refl ∙ at_node (taken facet.Attrs n) (without_up n view) (cell_at facet.Kids (named n)) refl
    ∙ at_node (taken facet.Up n) (without_kids n view) (cell_at facet.Kids (named n)) refl ∙ at_node (taken facet.Kids n) (without_label n view) (cell_at facet.Kids (named n)) refl
gone_here n view facet.Label =
    at_node (taken facet.Text n) (without_pairs n view) (cell_at facet.Label (named n)) refl ∙ at_node (taken facet.Attrs n) (without_up n view) (cell_at facet.Label (named n)) refl
    ∙ at_node (taken facet.Up n) (without_kids n view) (cell_at facet.Label (named n)) refl ∙ at_node (taken facet.Kids n) (without_label n view) (cell_at facet.Label (named n)) refl
    ∙ at_node (taken facet.Label n) view (cell_at facet.Label (named n)) refl

-- the items of neighbours, taken out
takes-append : (a b : List SubItem) → takes (a ++ b) ≡ takes a ++ takes b
takes-append [] b = refl
takes-append (item.Begin n name pairs ∷ a) b = ap (λ xs. gone n.0 ++ xs) (takes-append a b)
takes-append (item.Text n text ∷ a) b = ap (λ xs. gone n.0 ++ xs) (takes-append a b)
takes-append (item.Comment n text ∷ a) b = ap (λ xs. gone n.0 ++ xs) (takes-append a b)
takes-append (item.Finish ∷ a) b = takes-append a b

-- the cells after a node and what is below and behind it are taken out
pub taken_out : (f : Forest) (more : List SubItem) (view : CellMap) → AreLeaves f → changed_by (takes (items_of f ++ more)) view ≡ changed_by (takes more) (changed_by (takes (items_of f)) view)
taken_out f more view leaves = ap (λ xs. changed_by xs view) (takes-append (items_of f) more) ∙ changed-append (takes (items_of f)) (takes more) view

pub takes_elsewhere : (f : Forest) (view : CellMap) (cell : Cell) → AreLeaves f → uses cell.node.0 f ≡ 0 → changed_by (takes (items_of f)) view cell ≡ view cell
takes_elsewhere none view cell leaves out = refl
takes_elsewhere (node n Root kids rest) view cell leaves out = absurd leaves
takes_elsewhere (node n (Element name pairs) kids rest) view cell leaves out =
    let o = not_among cell.node.0 n (Element name pairs) kids rest out in
    ap (λ (x : CellMap). x cell) (taken_out kids (item.Finish ∷ items_of rest) (changed_by (gone n) view) leaves.0)
    ∙ takes_elsewhere rest (changed_by (takes (items_of kids)) (changed_by (gone n) view)) cell leaves.1 o.2
    ∙ takes_elsewhere kids (changed_by (gone n) view) cell leaves.0 o.1
    ∙ gone_elsewhere n view cell o.0
takes_elsewhere (node n (Text text) kids rest) view cell leaves out =
    let o = not_among cell.node.0 n (Text text) kids rest out in
    takes_elsewhere rest (changed_by (gone n) view) cell leaves.1 o.2 ∙ gone_elsewhere n view cell o.0
takes_elsewhere (node n (Comment text) kids rest) view cell leaves out =
    let o = not_among cell.node.0 n (Comment text) kids rest out in
    takes_elsewhere rest (changed_by (gone n) view) cell leaves.1 o.2 ∙ gone_elsewhere n view cell o.0

-- and those of a number among them are gone
here_or_not : (n m : ℕ) (view : CellMap) (f : Facet) → ((n ≡ m) ⊎ (n ≡ m → ⊥)) → view (cell_at f (named m)) ≡ None → changed_by (gone n) view (cell_at f (named m)) ≡ None
here_or_not n m view f (inl same) none_yet = ap (λ k. changed_by (gone n) view (cell_at f (named k))) (sym same) ∙ gone_here n view f
here_or_not n m view f (inr other) none_yet = gone_elsewhere n view (cell_at f (named m)) other ∙ none_yet

takes_nothing : (items : List SubItem) (view : CellMap) (m : ℕ) (f : Facet) → view (cell_at f (named m)) ≡ None → changed_by (takes items) view (cell_at f (named m)) ≡ None
takes_nothing [] view m f e = e
takes_nothing (item.Begin n name pairs ∷ items) view m f e = takes_nothing items (changed_by (gone n.0) view) m f (here_or_not n.0 m view f (cases_eq n.0 m) e)
takes_nothing (item.Text n text ∷ items) view m f e = takes_nothing items (changed_by (gone n.0) view) m f (here_or_not n.0 m view f (cases_eq n.0 m) e)
takes_nothing (item.Comment n text ∷ items) view m f e = takes_nothing items (changed_by (gone n.0) view) m f (here_or_not n.0 m view f (cases_eq n.0 m) e)
takes_nothing (item.Finish ∷ items) view m f e = takes_nothing items view m f e

used_or : (m n : ℕ) (body : Body) (kids rest : Forest) → 0 < uses m (node n body kids rest) → (n ≡ m → ⊥) → (0 < uses m kids) ⊎ (0 < uses m rest)
used_or m n body kids rest used other =
    let own = count_other m n (λ e. other (sym e)) in
    elim (cases_eq (uses m kids) 0) [ inl e ↦ inr (omega (arith, used, own, e)) | inr e ↦ inl (omega (arith, e)) ]

first_gone : (n m : ℕ) (view : CellMap) (f : Facet) → n ≡ m → changed_by (gone n) view (cell_at f (named m)) ≡ None
first_gone n m view f same = ap (λ k. changed_by (gone n) view (cell_at f (named k))) (sym same) ∙ gone_here n view f

pub takes_own : (g : Forest) (view : CellMap) (m : ℕ) (f : Facet) → AreLeaves g → 0 < uses m g → changed_by (takes (items_of g)) view (cell_at f (named m)) ≡ None
takes_own none view m f leaves used = absurd (omega (arith, used))
takes_own (node n Root kids rest) view m f leaves used = absurd leaves
takes_own (node n (Element name pairs) kids rest) view m f leaves used =
    let first : CellMap = changed_by (gone n) view in
    elim (cases_eq n m) [
      | inl same ↦ takes_nothing (items_of kids ++ (item.Finish ∷ items_of rest)) first m f (first_gone n m view f same)
      | inr other ↦ ap (λ (x : CellMap). x (cell_at f (named m))) (taken_out kids (item.Finish ∷ items_of rest) first leaves.0) ∙ elim (used_or m n (Element name pairs) kids rest used other) [
        | inl inner ↦ takes_nothing (items_of rest) (changed_by (takes (items_of kids)) first) m f (takes_own kids first m f leaves.0 inner)
        | inr later ↦ takes_own rest (changed_by (takes (items_of kids)) first) m f leaves.1 later
      ]
    ]
takes_own (node n (Text text) kids rest) view m f leaves used =
    let first : CellMap = changed_by (gone n) view in
    elim (cases_eq n m) [
      | inl same ↦ takes_nothing (items_of rest) first m f (first_gone n m view f same)
      | inr other ↦ elim (used_or m n (Text text) kids rest used other) [
        | inl inner ↦ let bare = ap (uses m) leaves.0 in absurd (omega (arith, inner, bare))
        | inr later ↦ takes_own rest first m f leaves.1 later
      ]
    ]
takes_own (node n (Comment text) kids rest) view m f leaves used =
    let first : CellMap = changed_by (gone n) view in
    elim (cases_eq n m) [
      | inl same ↦ takes_nothing (items_of rest) first m f (first_gone n m view f same)
      | inr other ↦ elim (used_or m n (Comment text) kids rest used other) [
        | inl inner ↦ let bare = ap (uses m) leaves.0 in absurd (omega (arith, inner, bare))
        | inr later ↦ takes_own rest first m f leaves.1 later
      ]
    ]
