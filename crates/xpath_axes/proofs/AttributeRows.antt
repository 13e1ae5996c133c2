-- The cells that an axis from an attribute may log are those that a walk along it reads.
use Rattle.std.proofs.Common.{◌≡◌, ℕ, ◌++◌, Bool, IsTrue, List, [], ◌∷◌, map, drop, Some, refl, sym, subst, ◌∙◌}
use Rattle.std.proofs.lemmas.List.{map-append}
use Rattle.serna_kinds.specs.declared.cells.NameId.{NameId}
use Rattle.serna_kinds.specs.declared.cells.NodeName.{NodeName}
use Rattle.serna_kinds.specs.declared.cells.NodeRef.{NodeRef}
use Rattle.serna_kinds.specs.declared.cells.NodeRef.TheVariants as ref
use Rattle.serna_kinds.specs.declared.cells.Cell.{Cell}
use Rattle.serna_kinds.specs.declared.cells.Facet.TheVariants as facet
use Rattle.serna_kinds.specs.declared.expressions.Axis.{Axis}
use Rattle.serna_kinds.specs.declared.expressions.Axis.TheVariants as axis
use Rattle.serna_kinds.specs.Names.{NameParts}
use Rattle.serna_kinds.specs.Tape.{Within}
use Rattle.source_model.specs.Source.{Source}
use Rattle.source_model.specs.Proper.{IsProper}
use Rattle.source_model.specs.Paths.{attribute_place}
use Rattle.source_model.specs.Logged.{cell_at, refs_cells, every, axis_cells}
use Rattle.xpath_axes.specs.Nodes.{kids_at, attributes_at}
use Rattle.xpath_axes.specs.Walks.{levels, below, outward, nodes_from}
use Rattle.xpath_axes.specs.Allowed.{MayRead, MayLeave}
use Rattle.xpath_axes.proofs.AttributeAxes.{found_from, every_from}
use Rattle.xpath_axes.proofs.MayLemmas.{may_front, may_back}
use Rattle.xpath_axes.proofs.Rows.{same_climb, first, rest_of, only, two_first, two_second, three_first, three_others, may_climb, climb_or_self, may_follow, may_precede}

module _ (allowed : Cell → Bool) where
  abbrev behind_first : Axis → Source → NodeName → NameId → List Cell
  behind_first along source n name = drop 1 (axis_cells along source (ref.Attr n name))

  -- whether it is there or not, its element's attributes
  pub attributes_row : (along : Axis) (source : Source) (n : NodeName) (name : NameId) → Within allowed (axis_cells along source (ref.Attr n name)) → IsTrue (allowed (cell_at facet.Attrs n))
  attributes_row axis.Child source n name row = first allowed (cell_at facet.Attrs n) (behind_first axis.Child source n name) row
  attributes_row axis.Attribute source n name row = first allowed (cell_at facet.Attrs n) (behind_first axis.Attribute source n name) row
  attributes_row axis.Descendant source n name row = first allowed (cell_at facet.Attrs n) (behind_first axis.Descendant source n name) row
  attributes_row axis.Itself source n name row = first allowed (cell_at facet.Attrs n) (behind_first axis.Itself source n name) row
  attributes_row axis.DescendantOrSelf source n name row = first allowed (cell_at facet.Attrs n) (behind_first axis.DescendantOrSelf source n name) row
  attributes_row axis.AncestorOrSelf source n name row = first allowed (cell_at facet.Attrs n) (behind_first axis.AncestorOrSelf source n name) row
  attributes_row axis.Parent source n name row = first allowed (cell_at facet.Attrs n) (behind_first axis.Parent source n name) row
  attributes_row axis.Ancestor source n name row = first allowed (cell_at facet.Attrs n) (behind_first axis.Ancestor source n name) row
  attributes_row axis.FollowingSibling source n name row = first allowed (cell_at facet.Attrs n) (behind_first axis.FollowingSibling source n name) row
  attributes_row axis.PrecedingSibling source n name row = first allowed (cell_at facet.Attrs n) (behind_first axis.PrecedingSibling source n name) row
  attributes_row axis.Following source n name row = first allowed (cell_at facet.Attrs n) (behind_first axis.Following source n name) row
  attributes_row axis.Preceding source n name row = first allowed (cell_at facet.Attrs n) (behind_first axis.Preceding source n name) row

  module _ (names : List NameParts) (source : Source) (n : NodeName) (name : NameId) (q : ℕ) (proper : IsProper names source) (at : attribute_place name 0 (attributes_at source n) ≡ Some q) where
    -- the nodes above it
    above_is : every axis.Ancestor source (ref.Attr n name) ≡ map ref.Node (n ∷ outward axis.Ancestor source levels n)
    above_is = every_from axis.Ancestor source n.0 name (n ∷ outward axis.Ancestor source levels n) (found_from names axis.Ancestor source n name q proper at) refl

    above_cells : Within allowed (axis_cells axis.Ancestor source (ref.Attr n name)) → Within allowed (refs_cells (facet.Label ∷ facet.Up ∷ []) (map ref.Node (n ∷ outward axis.Ancestor source levels n)))
    above_cells row =
        subst (λ (l : List NodeRef). Within allowed (refs_cells (facet.Label ∷ facet.Up ∷ []) l)) above_is
        (rest_of allowed (cell_at facet.Attrs n) (refs_cells (facet.Label ∷ facet.Up ∷ []) (every axis.Ancestor source (ref.Attr n name))) row)

    outside_cells : (along : Axis) (found : List NodeName) → every along source (ref.Attr n name) ≡ map ref.Node found →
        Within allowed (refs_cells (facet.Label ∷ facet.Up ∷ facet.Kids ∷ []) (ref.Attr n name ∷ (every axis.Ancestor source (ref.Attr n name) ++ every along source (ref.Attr n name)))) →
        Within allowed (refs_cells (facet.Label ∷ facet.Up ∷ facet.Kids ∷ []) (map ref.Node ((n ∷ outward axis.Ancestor source levels n) ++ found)))
    outside_cells along found is row =
        subst (λ (l : List NodeRef). Within allowed (refs_cells (facet.Label ∷ facet.Up ∷ facet.Kids ∷ []) l))
        ((λ i. above_is i ++ is i) ∙ sym (map-append ref.Node (n ∷ outward axis.Ancestor source levels n) found))
        (rest_of allowed (cell_at facet.Attrs n) (refs_cells (facet.Label ∷ facet.Up ∷ facet.Kids ∷ []) (every axis.Ancestor source (ref.Attr n name) ++ every along source (ref.Attr n name))) row)

    -- the row is enough for the walk, and for the labels of what it comes to
    pub leave_row : (along : Axis) → Within allowed (axis_cells along source (ref.Attr n name)) → MayLeave allowed along source n × MayRead allowed facet.Label (nodes_from along source n)
    leave_row axis.Parent row =
        let is = every_from axis.Parent source n.0 name (n ∷ []) (found_from names axis.Parent source n name q proper at) refl in (
          tt,
          only allowed facet.Label (n ∷ []) (subst (λ (l : List NodeRef). Within allowed (refs_cells (facet.Label ∷ []) l)) is
              (rest_of allowed (cell_at facet.Attrs n) (refs_cells (facet.Label ∷ []) (every axis.Parent source (ref.Attr n name))) row)),
        )
    leave_row axis.Ancestor row =
        let all : List NodeName = n ∷ outward axis.Ancestor source levels n in
        (may_climb allowed source levels n (two_second allowed facet.Label facet.Up all (above_cells row)), two_first allowed facet.Label facet.Up all (above_cells row))
    leave_row axis.AncestorOrSelf row =
        let all : List NodeName = n ∷ outward axis.Ancestor source levels n in
        let labels = two_first allowed facet.Label facet.Up all (above_cells row) in (
          climb_or_self allowed source levels n (may_climb allowed source levels n (two_second allowed facet.Label facet.Up all (above_cells row))),
          (labels.0, subst (MayRead allowed facet.Label) (same_climb source levels n) labels.1),
        )
    leave_row axis.Following row =
        let above : List NodeName = outward axis.Ancestor source levels n in
        let inner : List NodeName = below source levels (kids_at source n) in
        let found : List NodeName = inner ++ outward axis.Following source levels n in
        let is = every_from axis.Following source n.0 name found (found_from names axis.Following source n name q proper at) refl in
        let cells = outside_cells axis.Following found is row in
        let labels = three_first allowed facet.Label facet.Up facet.Kids ((n ∷ above) ++ found) cells in
        let others = three_others allowed facet.Label facet.Up facet.Kids ((n ∷ above) ++ found) cells in
        let kids = may_back allowed facet.Kids (n ∷ above) found others.1 in (
          (
            (others.1.0, may_front allowed facet.Kids inner (outward axis.Following source levels n) kids),
            may_follow allowed source levels n (may_front allowed facet.Up (n ∷ above) found others.0) (may_front allowed facet.Kids above found others.1.1) (may_back allowed facet.Kids inner (outward axis.Following source levels n) kids),
          ),
          may_back allowed facet.Label (n ∷ above) found labels,
        )
    leave_row axis.Preceding row =
        let above : List NodeName = outward axis.Ancestor source levels n in
        let found : List NodeName = outward axis.Preceding source levels n in
        let is = every_from axis.Preceding source n.0 name found (found_from names axis.Preceding source n name q proper at) refl in
        let cells = outside_cells axis.Preceding found is row in
        let labels = three_first allowed facet.Label facet.Up facet.Kids ((n ∷ above) ++ found) cells in
        let others = three_others allowed facet.Label facet.Up facet.Kids ((n ∷ above) ++ found) cells in (
          may_precede allowed source levels n (may_front allowed facet.Up (n ∷ above) found others.0) (may_front allowed facet.Kids above found others.1.1) (may_back allowed facet.Kids (n ∷ above) found others.1),
          may_back allowed facet.Label (n ∷ above) found labels,
        )
    leave_row axis.Child row = (tt, tt)
    leave_row axis.Attribute row = (tt, tt)
    leave_row axis.Descendant row = (tt, tt)
    leave_row axis.Itself row = (tt, tt)
    leave_row axis.DescendantOrSelf row = (tt, tt)
    leave_row axis.FollowingSibling row = (tt, tt)
    leave_row axis.PrecedingSibling row = (tt, tt)
