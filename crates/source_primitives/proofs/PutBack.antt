-- A child that is taken out of a proper source comes in again, also below the document node.
use Rattle.std.proofs.Common.{◌≡◌, ℕ, ◌<◌, inl, inr, List, [], length, Option, Some, None, sym, ap, ◌∙◌, subst}
use Rattle.std.proofs.lemmas.Bool.{cases_eq}
use Rattle.std.proofs.lemmas.Option.{same_Some}
use Rattle.std.specs.Option.{option_map_or}
use Rattle.serna_kinds.specs.declared.cells.NodeName.{NodeName}
use Rattle.serna_kinds.specs.Names.{NameParts}
use Rattle.source_model.specs.Source.{Root, Element, Text, Comment, Forest, none, node, Source, numbers}
use Rattle.source_model.specs.Cells.{Spot, or_else, spot_in, spot_of}
use Rattle.source_model.specs.Changes.{with_kids, inserted_at, removed_at, alone_at}
use Rattle.source_model.specs.Proper.{AreNodes, IsProper}
use Rattle.source_model.specs.Consistent.{AreLeaves, IsLinked}
use Rattle.source_primitives.specs.declared.primitive.Primitive.TheVariants.{RemoveChild}
use Rattle.source_primitives.specs.Primitives.{subtree, items_of, applied, inverse}
use Rattle.source_primitives.proofs.Around.{at_same, at_other, or_else-none, found, either_spot}
use Rattle.source_primitives.proofs.Inside.{leaves_inside}
use Rattle.source_primitives.proofs.Subtrees.{subtree-items_of, leaves_alone, child_back}
use Rattle.source_primitives.proofs.Undone.{kids_undone}

-- what stands below the document node of a proper source, and below each node of it
leaves_proper : (names : List NameParts) (f : Forest) → AreNodes names f → AreLeaves f
leaves_proper names none are = tt
leaves_proper names (node n Root kids rest) are = absurd are
leaves_proper names (node n (Element name attributes) kids rest) are = (leaves_proper names kids are.2, leaves_proper names rest are.3)
leaves_proper names (node n (Text text) kids rest) are = (are.2, leaves_proper names rest are.4)
leaves_proper names (node n (Comment text) kids rest) are = (are.0, leaves_proper names rest are.1)

-- a proper source is linked
pub linked_proper : (names : List NameParts) (source : Source) → IsProper names source → IsLinked source
linked_proper names source p = record {
  top = p.top;
  rooted = p.rooted;
  leaves = leaves_proper names p.top p.nodes;
  distinct = p.distinct;
  numbered = p.numbered;
  few = p.few;
  shallow = p.shallow;
}

leaves_at : (up : Option ℕ) (n : ℕ) (f : Forest) (spot : Spot) → AreLeaves f → spot_in up n f ≡ Some spot → AreLeaves spot.kids
leaves_at up n none spot leaves e = cc
leaves_at up n (node k body kids rest) spot leaves e =
    let inside = leaves_inside k body kids rest leaves in
    let own : Spot = record { up = up; body = body; kids = kids } in
    elim (cases_eq n k) [
      | inl same ↦ subst (λ (s : Spot). AreLeaves s.kids) (same_Some own spot (sym (at_same n k (Some own) (or_else (spot_in (Some k) n kids) (spot_in up n rest)) same) ∙ e)) inside.0
      | inr other ↦ elim (either_spot (spot_in (Some k) n kids) (spot_in up n rest) spot (sym (at_other n k (Some own) (or_else (spot_in (Some k) n kids) (spot_in up n rest)) other) ∙ e)) [
        | inl inner ↦ leaves_at (Some k) n kids spot inside.0 inner
        | inr later ↦ leaves_at up n rest spot inside.1 later
      ]
    ]

leaves_of : (n : ℕ) (top : Forest) (spot : Spot) → AreLeaves top → spot_in None n (node 0 Root top none) ≡ Some spot → AreLeaves spot.kids
leaves_of n top spot leaves e =
    let document : Spot = record { up = None; body = Root; kids = top } in
    elim (cases_eq n 0) [
      | inl same ↦ subst (λ (s : Spot). AreLeaves s.kids) (same_Some document spot (sym (at_same n 0 (Some document) (or_else (spot_in (Some 0) n top) None) same) ∙ e)) leaves
      | inr other ↦
          leaves_at (Some 0) n top spot leaves
          (sym (or_else-none (spot_in (Some 0) n top)) ∙ sym (at_other n 0 (Some document) (or_else (spot_in (Some 0) n top) None) other) ∙ e)
    ]

pub child_comes_back : (names : List NameParts) (source : Source) (n : NodeName) (place : ℕ) (spot : Spot) → IsProper names source → spot_of source n.0 ≡ Some spot → place < length (numbers spot.kids) →
    (applied (inverse (RemoveChild n place) source) (applied (RemoveChild n place) source)).tree ≡ source.tree
child_comes_back names source n place spot p there within =
    let leaves : AreLeaves spot.kids = leaves_of n.0 p.top spot (leaves_proper names p.top p.nodes) (ap (spot_in None n.0) (sym p.rooted) ∙ there) in
    let items : option_map_or (λ (s : Spot). items_of (alone_at place s.kids)) (spot_of source n.0) [] ≡ items_of (alone_at place spot.kids) =
    ap (λ o. option_map_or (λ (s : Spot). items_of (alone_at place s.kids)) o []) there in
    ap (λ xs. with_kids n.0 (inserted_at place (subtree xs)) (with_kids n.0 (removed_at place) source.tree)) items
    ∙ ap (λ more. with_kids n.0 (inserted_at place more) (with_kids n.0 (removed_at place) source.tree)) (subtree-items_of (alone_at place spot.kids) (leaves_alone place spot.kids leaves))
    ∙ kids_undone source.tree n.0 (removed_at place) (inserted_at place (alone_at place spot.kids)) spot (p.distinct n.0) (child_back place spot.kids within)
    (found None n.0 source.tree spot (p.distinct n.0) there)
