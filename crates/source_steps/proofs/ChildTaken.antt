-- A child that is taken out: its items, the numbers of the others, and the cells that are left.
use Rattle.std.proofs.Common.{◌≡◌, ℕ, zero, suc, ◌<◌, ◌≤◌, Bool, true, false, List, [], ◌∷◌, ◌++◌, map, take, drop, length, Option, Some, None, get_or, if◌then◌else◌, refl, sym, ap, ◌∙◌, subst, arith, append-nil}
use Rattle.std.specs.Prelude.{remove}
use Rattle.std.specs.Option.{option_map_or, option_and_then}
use Rattle.serna_kinds.specs.declared.cells.NodeName.{NodeName}
use Rattle.serna_kinds.specs.declared.cells.Cell.{Cell}
use Rattle.serna_kinds.specs.declared.cells.Facet.TheVariants as facet
use Rattle.serna_kinds.specs.Content.{Content}
use Rattle.serna_kinds.specs.Content as content
use Rattle.serna_kinds.specs.Limits.{depth_limit}
use Rattle.serna_kinds.specs.Tape.{is_cell}
use Rattle.serna_kinds.proofs.TapeLemmas.{is_cell-same}
use Rattle.source_model.specs.Source.{Body, Root, Element, Text, Comment, Forest, none, node, Source, numbers}
use Rattle.source_model.specs.Cells.{Spot, named, facet_of, cell_of}
use Rattle.source_model.specs.Changes.{with_kids, beside, inserted_at, removed_at, alone_at}
use Rattle.source_model.specs.Attributes.{pairs_of}
use Rattle.source_model.specs.Proper.{uses, depth_of}
use Rattle.source_model.specs.Consistent.{IsLinked}
use Rattle.source_model.specs.Logged.{cell_at}
use Rattle.source_model.specs.Told.{AreTold, AreSameCells}
use Rattle.source_model.proofs.Spots.{spot_in-unused, used-from_spot}
use Rattle.source_model.proofs.ToldBack.{part_told}
use Rattle.source_primitives.specs.declared.primitive.SubItem.{SubItem}
use Rattle.source_primitives.specs.declared.primitive.Primitive.TheVariants.{RemoveChild}
use Rattle.source_primitives.specs.Primitives.{with_tree, items_of, HasChild}
use Rattle.source_primitives.proofs.Around as around
use Rattle.source_primitives.proofs.Around.{Around, plug}
use Rattle.source_primitives.proofs.Inside.{inside, kids_changed, whole, spot_after, ElementAt, element_spot}
use Rattle.source_primitives.proofs.Subtrees.{child_back, uses_alone}
use Rattle.source_primitives.proofs.Undone.{kids_undone, at_spot, leaves_under}
use Rattle.source_primitives.proofs.ConsistentKept.{uses_changed, linked_kept}
use Rattle.source_steps.specs.CellChanges.{with_content}
use Rattle.source_steps.specs.Taking.{AreWithin, ReadsNode}
use Rattle.source_steps.proofs.CellsAfter.{old_cells}
use Rattle.source_steps.proofs.ItemsRead.{rest_within}

-- the numbers of neighbours with others among them, and without one
ns-beside : (f g : Forest) → map named (numbers (beside f g)) ≡ map named (numbers f) ++ map named (numbers g)
ns-beside none g = refl
ns-beside (node n body kids rest) g = ap (λ ns. named n ∷ ns) (ns-beside rest g)

pub ns-inserted : (i : ℕ) (one f : Forest) → i ≤ length (numbers f) →
    map named (numbers (inserted_at i one f)) ≡ take i (map named (numbers f)) ++ (map named (numbers one) ++ drop i (map named (numbers f)))
ns-inserted zero one f within = ns-beside one f
ns-inserted (suc i) one none within = absurd (omega (arith, within))
ns-inserted (suc i) one (node n body kids rest) within = ap (λ ns. named n ∷ ns) (ns-inserted i one rest (omega (arith, within)))

pub ns-removed : (i : ℕ) (f : Forest) → i < length (numbers f) → map named (numbers (removed_at i f)) ≡ remove (map named (numbers f)) i
ns-removed i none within = absurd (omega (arith, within))
ns-removed zero (node n body kids rest) within = refl
ns-removed (suc i) (node n body kids rest) within = ap (λ ns. named n ∷ ns) (ns-removed i rest (omega (arith, within)))

-- a node alone is within what the neighbours are
alone_within : (view : Cell → Option Content) (up : Option ℕ) (left n : ℕ) (body : Body) (kids rest : Forest) → AreWithin view up left (node n body kids rest) → AreWithin view up left (node n body kids none)
alone_within view up left n Root kids rest w = absurd w.leaves
alone_within view up left n (Element name attributes) kids rest w = record { told = (w.told.0, w.told.1, tt); leaves = (w.leaves.0, tt); shallow = let d = w.shallow in omega (arith, d) }
alone_within view up left n (Text text) kids rest w = record { told = (w.told.0, w.told.1, tt); leaves = (w.leaves.0, tt); shallow = let d = w.shallow in omega (arith, d) }
alone_within view up left n (Comment text) kids rest w = record { told = (w.told.0, w.told.1, tt); leaves = (w.leaves.0, tt); shallow = let d = w.shallow in omega (arith, d) }

-- what is read of the child at a place
pub child_read : (view : Cell → Option Content) (up : Option ℕ) (left : ℕ) (f : Forest) (place : ℕ) (number : NodeName) (items : List SubItem) → AreWithin view up left f → place < length (numbers f) →
    get_or (map named (numbers f)) place (record { 0 = 0 }) ≡ number → ReadsNode view number left [] items → items ≡ items_of (alone_at place f)
child_read view up left none place number items w within is reads = absurd (omega (arith, within))
child_read view up left (node n body kids rest) zero number items w within is reads =
    let same : n ≡ number.0 = ap (λ (k : NodeName). k.0) is in
    let alone : AreWithin view up left (node number.0 body kids none) = subst (λ k. AreWithin view up left (node k body kids none)) same (alone_within view up left n body kids rest w) in
    sym (append-nil items) ∙ reads up body kids none alone ∙ ap (λ k. items_of (node k body kids none)) (sym same)
child_read view up left (node n body kids rest) (suc place) number items w within is reads =
    child_read view up left rest place number items (rest_within view up left n body kids rest w) (omega (arith, within)) is reads

-- what holds of all holds below a node
told-at : (view : Cell → Option Content) (up : Option ℕ) (a : Around) (f : Forest) → AreTold view up (plug a f) → (above : Option ℕ) × AreTold view above f
told-at view up Around.here f told = (up, told)
told-at view up (around.below k b a rest) f told = told-at view (Some k) a f told.1
told-at view up (around.beside k b kids a) f told = told-at view up a f told.2

depth-at : (a : Around) (f : Forest) → depth_of f ≤ depth_of (plug a f)
depth-at Around.here f = omega arith
depth-at (around.below k Root a rest) f = let h = depth-at a f in omega (arith, h)
depth-at (around.below k (Element name attributes) a rest) f = let h = depth-at a f in omega (arith, h)
depth-at (around.below k (Text text) a rest) f = let h = depth-at a f in omega (arith, h)
depth-at (around.below k (Comment text) a rest) f = let h = depth-at a f in omega (arith, h)
depth-at (around.beside k Root kids a) f = let h = depth-at a f in omega (arith, h)
depth-at (around.beside k (Element name attributes) kids a) f = let h = depth-at a f in omega (arith, h)
depth-at (around.beside k (Text text) kids a) f = let h = depth-at a f in omega (arith, h)
depth-at (around.beside k (Comment text) kids a) f = let h = depth-at a f in omega (arith, h)

pub kids_within : (view : Cell → Option Content) (s : Source) (c : IsLinked s) (n : ℕ) (kids : Forest) (at : ElementAt s n kids) → AreSameCells view (cell_of s) → AreWithin view (Some n) depth_limit kids
kids_within view s c n kids at same =
    let body : Body = Element at.name at.pairs in
    let spot : Spot = record { up = at.up; body = body; kids = kids } in
    let b = inside s c.top c.rooted c.distinct n spot at.there (λ bad. cc) in
    let f : Forest = node n body kids b.found.rest in
    let around_it : Around = around.below 0 Root b.found.around none in
    let all : AreTold view None s.tree = subst (λ (v : Cell → Option Content). AreTold v None s.tree) (λ i cell. sym (same cell) i) (part_told s None s.tree c.distinct (λ m other e. e)) in
    let there = told-at view None around_it f (subst (AreTold view None) (whole s c.top n spot c.rooted b) all) in
    let deep = ap depth_of (whole s c.top n spot c.rooted b) in
    let below = depth-at around_it f in
    let shallow = c.shallow in
    record {
      told = there.1.1;
      leaves = leaves_under s c n spot at.there (λ bad. cc);
      shallow = omega (arith, deep, below, shallow);
    }

-- the source without the child
abbrev without_child : Source → ℕ → ℕ → Source
without_child s n place = with_tree s (with_kids n (removed_at place) s.tree)

pub element_after : (s : Source) (c : IsLinked s) (n place : ℕ) (kids : Forest) (at : ElementAt s n kids) → uses n (without_child s n place).tree ≤ 1 → ElementAt (without_child s n place) n (removed_at place kids)
element_after s c n place kids at once =
    let body : Body = Element at.name at.pairs in
    let spot : Spot = record { up = at.up; body = body; kids = kids } in
    let b = inside s c.top c.rooted c.distinct n spot at.there (λ bad. cc) in
    let h = spot_after (without_child s n place).tree b.found.around n body (removed_at place kids) b.found.rest (kids_changed s c.top n spot (removed_at place) c.rooted b) once in
    record { up = h.0; name = at.name; pairs = at.pairs; there = h.1; are = ap (λ o. option_map_or (λ (x : Spot). pairs_of x.body) o []) h.1 }

-- what one more content at a cell makes of the same cells is taken back at the other side
turned_by : (own : Cell) (old new : Content) (here there : Cell → Option Content) (cell : Cell) → here cell ≡ with_content own old there cell → there own ≡ Some new → (b : Bool) →
    is_cell own cell ≡ b → there cell ≡ with_content own new here cell
turned_by own old new here there cell e is true same = ap there (sym (is_cell-same own cell same)) ∙ is ∙ sym (ap (λ b. if b then Some new else here cell) same)
turned_by own old new here there cell e is false other = sym (e ∙ ap (λ b. if b then Some old else there cell) other) ∙ sym (ap (λ b. if b then Some new else here cell) other)

turned : (own : Cell) (old new : Content) (here there : Cell → Option Content) (cell : Cell) → here cell ≡ with_content own old there cell → there own ≡ Some new →
    there cell ≡ with_content own new here cell
turned own old new here there cell e is = turned_by own old new here there cell e is (is_cell own cell) refl

pub kept_cells : (s : Source) (c : IsLinked s) (n : NodeName) (place : ℕ) (may : HasChild s n.0 place) (cell : Cell) → uses cell.node.0 (alone_at place may.0.kids) ≡ 0 →
    cell_of (without_child s n.0 place) cell ≡ with_content (cell_at facet.Kids (named n.0)) (content.Kids (map named (numbers (removed_at place may.0.kids)))) (cell_of s) cell
kept_cells s c n place may cell out =
    let at = element_spot s n.0 may.0 may.1 may.2 in
    let kids : Forest = may.0.kids in
    let spot : Spot = record { up = at.up; body = Element at.name at.pairs; kids = kids } in
    let one : Forest = alone_at place kids in
    let left : Forest = removed_at place kids in
    let t : Source = without_child s n.0 place in
    let linked : IsLinked t = linked_kept s (RemoveChild n place) c may in
    let own : Cell = cell_at facet.Kids (named n.0) in
    let there : ElementAt t n.0 left = element_after s c n.0 place kids at (linked.distinct n.0) in
    let back : with_kids n.0 (inserted_at place one) t.tree ≡ s.tree =
    kids_undone s.tree n.0 (removed_at place) (inserted_at place one) spot (c.distinct n.0) (child_back place kids may.3) (at_spot s c n.0 spot at.there) in
    let again : cell_of s cell ≡ with_content own (content.Kids (map named (numbers (inserted_at place one left)))) (cell_of t) cell =
    ap (λ tree. cell_of (record { tree = tree; made = s.made; spaces = s.spaces }) cell) (sym back) ∙ old_cells t n.0 place s.made one left there cell out (linked.distinct n.0) in
    turned own (content.Kids (map named (numbers (inserted_at place one left)))) (content.Kids (map named (numbers left))) (cell_of s) (cell_of t) cell again
    (ap (option_and_then (facet_of facet.Kids)) there.there)

pub gone_cells : (s : Source) (c : IsLinked s) (n : NodeName) (place : ℕ) (may : HasChild s n.0 place) (cell : Cell) → 0 < uses cell.node.0 (alone_at place may.0.kids) →
    cell_of (without_child s n.0 place) cell ≡ None
gone_cells s c n place may cell used =
    let at = element_spot s n.0 may.0 may.1 may.2 in
    let sums = uses_changed s c n.0 may.0.kids at (removed_at place) cell.node.0 in
    let parts = uses_alone cell.node.0 place may.0.kids in
    let once = c.distinct cell.node.0 in
    ap (option_and_then (facet_of cell.facet)) (spot_in-unused None cell.node.0 (without_child s n.0 place).tree (omega (arith, sums, parts, once, used)))

-- the parent is not below itself
pub parent_outside : (s : Source) (c : IsLinked s) (n : NodeName) (place : ℕ) (may : HasChild s n.0 place) → uses n.0 (alone_at place may.0.kids) ≡ 0
parent_outside s c n place may =
    let at = element_spot s n.0 may.0 may.1 may.2 in
    let linked = linked_kept s (RemoveChild n place) c may in
    let there = element_after s c n.0 place may.0.kids at (linked.distinct n.0) in
    let used = used-from_spot None n.0 (record { up = there.up; body = Element there.name there.pairs; kids = removed_at place may.0.kids }) (without_child s n.0 place).tree there.there in
    let sums = uses_changed s c n.0 may.0.kids at (removed_at place) n.0 in
    let parts = uses_alone n.0 place may.0.kids in
    let once = c.distinct n.0 in
    omega (arith, used, sums, parts, once)
