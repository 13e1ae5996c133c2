-- What stands below a node of a proper source: it is found there by its own number, it is proper, and it is not too deep.
use Rattle.std.proofs.Common.{◌≡◌, ℕ, zero, suc, ◌<◌, ◌≤◌, ◌==◌, Bool, true, false, List, refl, Option, Some, None, if◌then◌else◌, sym, ap, subst, ◌∙◌, arith}
use Rattle.std.proofs.lemmas.Option.{none-some}
use Rattle.serna_kinds.specs.Names.{NameParts}
use Rattle.source_model.specs.Source.{Body, Root, Element, Text, Comment, Forest, none, node, Source}
use Rattle.source_model.specs.Cells.{Spot, or_else, spot_in, spot_of}
use Rattle.source_model.specs.Proper.{IsProper, AreNodes, uses, depth_of}
use Rattle.source_model.proofs.Spots.{if_same}
use Rattle.source_model.proofs.Below.{part_of, in_kids, in_rest}

-- neighbours whose nodes are found in a source by their numbers, each once
pub record AreInner (names : List NameParts) (source : Source) (up : Option ℕ) (f : Forest) : Type 0 where
  pub nodes : AreNodes names f
  pub once : (m : ℕ) → uses m f ≤ 1
  pub found : (m : ℕ) → 0 < uses m f → spot_in up m f ≡ spot_of source m

parts : (names : List NameParts) (n : ℕ) (body : Body) (kids rest : Forest) → AreNodes names (node n body kids rest) → AreNodes names kids × AreNodes names rest
parts names n Root kids rest nodes = absurd nodes
parts names n (Element name pairs) kids rest nodes = (nodes.2, nodes.3)
parts names n (Text text) kids rest nodes = (subst (AreNodes names) (sym nodes.2) tt, nodes.4)
parts names n (Comment text) kids rest nodes = (subst (AreNodes names) (sym nodes.0) tt, nodes.1)

pub inner_first : (names : List NameParts) (source : Source) (up : Option ℕ) (n : ℕ) (body : Body) (kids rest : Forest) → AreInner names source up (node n body kids rest) →
    spot_of source n ≡ Some (record { up = up; body = body; kids = kids })
inner_first names source up n body kids rest inner =
    let here : ◌≡◌ {A = ℕ} (if n == n then 1 else 0) 1 = if_same {A = ℕ} n n 1 0 refl in
    sym (inner.found n (omega (arith, here))) ∙ if_same n n _ _ refl

pub inner_kids : (names : List NameParts) (source : Source) (up : Option ℕ) (n : ℕ) (body : Body) (kids rest : Forest) → AreInner names source up (node n body kids rest) → AreInner names source (Some n) kids
inner_kids names source up n body kids rest inner = record {
  nodes = (parts names n body kids rest inner.nodes).0;
  once = λ m. let all = inner.once m in omega (arith, all);
  found = λ m used. in_kids up m n body kids rest (inner.once m) used ∙ inner.found m (omega (arith, used));
}

pub inner_rest : (names : List NameParts) (source : Source) (up : Option ℕ) (n : ℕ) (body : Body) (kids rest : Forest) → AreInner names source up (node n body kids rest) → AreInner names source up rest
inner_rest names source up n body kids rest inner = record {
  nodes = (parts names n body kids rest inner.nodes).1;
  once = λ m. let all = inner.once m in omega (arith, all);
  found = λ m used. in_rest up m n body kids rest (inner.once m) used ∙ inner.found m (omega (arith, used));
}

-- what is below a node, and how deep
abbrev IsBelow : List NameParts → ℕ → Spot → Type 0
IsBelow names depth spot = AreNodes names spot.kids × (depth_of spot.kids ≤ depth)

abbrev some_or : Spot → Option Spot → Spot
some_or x None = x
some_or x (Some y) = y

found_where : (P : Spot → Type 0) (b : Bool) (x : Spot) (o p : Option Spot) → P x → ((s : Spot) → o ≡ Some s → P s) → ((s : Spot) → p ≡ Some s → P s) →
    (s : Spot) → (if b then Some x else or_else o p) ≡ Some s → P s
found_where P true x o p here below behind s e = subst P (ap (some_or x) e) here
found_where P false x None p here below behind s e = behind s e
found_where P false x (Some y) p here below behind s e = below s e

depth_kids : (n : ℕ) (body : Body) (kids rest : Forest) → depth_of kids ≤ depth_of (node n body kids rest)
depth_kids n Root kids rest = omega arith
depth_kids n (Element name pairs) kids rest = omega arith
depth_kids n (Text text) kids rest = omega arith
depth_kids n (Comment text) kids rest = omega arith

depth_rest : (n : ℕ) (body : Body) (kids rest : Forest) → depth_of rest ≤ depth_of (node n body kids rest)
depth_rest n Root kids rest = omega arith
depth_rest n (Element name pairs) kids rest = omega arith
depth_rest n (Text text) kids rest = omega arith
depth_rest n (Comment text) kids rest = omega arith

below_in : (names : List NameParts) (depth : ℕ) (up : Option ℕ) (n : ℕ) (f : Forest) → AreNodes names f → depth_of f ≤ depth → (spot : Spot) → spot_in up n f ≡ Some spot → IsBelow names depth spot
below_in names depth up n none nodes le spot e = absurd (none-some spot e)
below_in names depth up n (node k body kids rest) nodes le spot e =
    let both = parts names k body kids rest nodes in
    let down : depth_of kids ≤ depth = omega (arith, le, depth_kids k body kids rest) in
    let along : depth_of rest ≤ depth = omega (arith, le, depth_rest k body kids rest) in
    found_where (IsBelow names depth) (n == k) (record { up = up; body = body; kids = kids }) (spot_in (Some k) n kids) (spot_in up n rest) (both.0, down)
    (below_in names depth (Some k) n kids both.0 down) (below_in names depth up n rest both.1 along) spot e

below_of : (names : List NameParts) (source : Source) (n : ℕ) (spot : Spot) → IsProper names source → spot_of source n ≡ Some spot → IsBelow names 120 spot
below_of names source n spot proper e =
    let shallow : depth_of (node 0 Root proper.top none) ≤ 120 = subst (λ (f : Forest). depth_of f ≤ 120) proper.rooted proper.shallow in
    let down : depth_of proper.top ≤ 120 = omega (arith, shallow) in
    found_where (IsBelow names 120) (n == 0) (record { up = None; body = Root; kids = proper.top }) (spot_in (Some 0) n proper.top) None (proper.nodes, down)
    (below_in names 120 (Some 0) n proper.top proper.nodes down) (λ s found. absurd (none-some s found)) spot (sym (ap (spot_in None n) proper.rooted) ∙ e)

once_or_not : (names : List NameParts) (source : Source) (n m u : ℕ) (spot : Spot) → IsProper names source → spot_of source n ≡ Some spot → u ≡ uses m spot.kids → uses m spot.kids ≤ 1
once_or_not names source n m zero spot proper e is = omega (arith, is)
once_or_not names source n m (suc u) spot proper e is =
    let less : uses m spot.kids ≤ uses m source.tree = (part_of None n source.tree proper.distinct spot e m (omega (arith, is))).1 in
    let all : uses m source.tree ≤ 1 = proper.distinct m in
    omega (arith, less, all)

-- the children of a node of a proper source
pub inner_of : (names : List NameParts) (source : Source) (n : ℕ) (spot : Spot) → IsProper names source → spot_of source n ≡ Some spot → AreInner names source (Some n) spot.kids
inner_of names source n spot proper e = record {
  nodes = (below_of names source n spot proper e).0;
  once = λ m. once_or_not names source n m (uses m spot.kids) spot proper e refl;
  found = λ m used. (part_of None n source.tree proper.distinct spot e m used).0;
}

pub not_deep : (names : List NameParts) (source : Source) (n : ℕ) (spot : Spot) → IsProper names source → spot_of source n ≡ Some spot → depth_of spot.kids ≤ 120
not_deep names source n spot proper e = (below_of names source n spot proper e).1
