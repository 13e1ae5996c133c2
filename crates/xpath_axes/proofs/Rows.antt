-- The cells that an axis may log are those that a walk along it reads.
use Rattle.std.proofs.Common.{◌≡◌, ℕ, zero, suc, ◌++◌, Bool, IsTrue, List, [], ◌∷◌, map, Option, Some, None, refl, sym, ap, subst, ◌∙◌}
use Rattle.std.proofs.lemmas.List.{map-append}
use Rattle.std.proofs.lemmas.List.Elements.{All-head, All-tail, All-nil, All-cons}
use Rattle.serna_kinds.specs.declared.cells.NodeName.{NodeName}
use Rattle.serna_kinds.specs.declared.cells.NodeRef.{NodeRef}
use Rattle.serna_kinds.specs.declared.cells.NodeRef.TheVariants as ref
use Rattle.serna_kinds.specs.declared.cells.Cell.{Cell}
use Rattle.serna_kinds.specs.declared.cells.Facet.{Facet}
use Rattle.serna_kinds.specs.declared.cells.Facet.TheVariants as facet
use Rattle.serna_kinds.specs.declared.expressions.Axis.{Axis}
use Rattle.serna_kinds.specs.declared.expressions.Axis.TheVariants as axis
use Rattle.serna_kinds.specs.Names.{NameParts}
use Rattle.serna_kinds.specs.Tape.{Within}
use Rattle.source_model.specs.Source.{Source}
use Rattle.source_model.specs.Proper.{IsProper}
use Rattle.source_model.specs.Logged.{cell_at, refs_cells, every, axis_cells}
use Rattle.xpath_axes.specs.Nodes.{kids_at, parent_at}
use Rattle.xpath_axes.specs.Walks.{levels, below, before, after, step, outward, nodes_on}
use Rattle.xpath_axes.specs.Allowed.{MayRead, MayStep, MayWalk, MayGo, MayOwn, AtParent}
use Rattle.xpath_axes.proofs.MayLemmas.{may_front, may_back, may_reversed}
use Rattle.xpath_axes.proofs.NodeAxes.{OnAxis, following_on, preceding_on, ancestor_on, parent_on, siblings_behind_on, siblings_before_on}
use Rattle.xpath_axes.proofs.Inward.{child_on, descendant_on}
use Rattle.xpath_axes.proofs.Totals.{every_on}

-- the climb is the same for both axes that go up
pub same_climb : (source : Source) (left : ℕ) (n : NodeName) → outward axis.Ancestor source left n ≡ outward axis.AncestorOrSelf source left n
same_climb source zero n = refl
same_climb source (suc left) n = by (parent_at source n) (same_climb source left)
  where
    by : (o : Option NodeName) → ((p : NodeName) → outward axis.Ancestor source left p ≡ outward axis.AncestorOrSelf source left p) →
        ◌≡◌ {A = List NodeName} (elim o [ None ↦ [] | Some p ↦ (p ∷ []) ++ outward axis.Ancestor source left p ]) (elim o [ None ↦ [] | Some p ↦ (p ∷ []) ++ outward axis.AncestorOrSelf source left p ])
    by None same = refl
    by (Some p) same = ap (λ (l : List NodeName). p ∷ l) (same p)

module _ (allowed : Cell → Bool) where
  abbrev One : Cell → Type 0
  One cell = IsTrue (allowed cell)

  pub first : (c : Cell) (rest : List Cell) → Within allowed (c ∷ rest) → IsTrue (allowed c)
  first c rest h = All-head One c rest h

  pub rest_of : (c : Cell) (rest : List Cell) → Within allowed (c ∷ rest) → Within allowed rest
  rest_of c rest h = All-tail One c rest h

  pub back : (xs ys : List Cell) → Within allowed (xs ++ ys) → Within allowed ys
  back [] ys h = h
  back (x ∷ xs) ys h = back xs ys (rest_of x (xs ++ ys) h)

  pub front : (xs ys : List Cell) → Within allowed (xs ++ ys) → Within allowed xs
  front [] ys h = All-nil One
  front (x ∷ xs) ys h = All-cons One x xs (first x (xs ++ ys) h) (front xs ys (rest_of x (xs ++ ys) h))

  -- a facet of each node, where it is among those of the row
  pub only : (f : Facet) (nodes : List NodeName) → Within allowed (refs_cells (f ∷ []) (map ref.Node nodes)) → MayRead allowed f nodes
  only f [] within = tt
  only f (n ∷ ns) within = (first (cell_at f n) (refs_cells (f ∷ []) (map ref.Node ns)) within, only f ns (rest_of (cell_at f n) (refs_cells (f ∷ []) (map ref.Node ns)) within))

  pub two_first : (f g : Facet) (nodes : List NodeName) → Within allowed (refs_cells (f ∷ g ∷ []) (map ref.Node nodes)) → MayRead allowed f nodes
  two_first f g [] within = tt
  two_first f g (n ∷ ns) within =
      let more : List Cell = refs_cells (f ∷ g ∷ []) (map ref.Node ns) in
      (first (cell_at f n) (cell_at g n ∷ more) within, two_first f g ns (rest_of (cell_at g n) more (rest_of (cell_at f n) (cell_at g n ∷ more) within)))

  pub two_second : (f g : Facet) (nodes : List NodeName) → Within allowed (refs_cells (f ∷ g ∷ []) (map ref.Node nodes)) → MayRead allowed g nodes
  two_second f g [] within = tt
  two_second f g (n ∷ ns) within =
      let more : List Cell = refs_cells (f ∷ g ∷ []) (map ref.Node ns) in
      let behind = rest_of (cell_at f n) (cell_at g n ∷ more) within in
      (first (cell_at g n) more behind, two_second f g ns (rest_of (cell_at g n) more behind))

  -- the row of `following` and `preceding`: the first facet, and the two others
  pub three_first : (f g h : Facet) (nodes : List NodeName) → Within allowed (refs_cells (f ∷ g ∷ h ∷ []) (map ref.Node nodes)) → MayRead allowed f nodes
  three_first f g h [] within = tt
  three_first f g h (n ∷ ns) within =
      let more : List Cell = refs_cells (f ∷ g ∷ h ∷ []) (map ref.Node ns) in (
        first (cell_at f n) (cell_at g n ∷ cell_at h n ∷ more) within,
        three_first f g h ns (rest_of (cell_at h n) more (rest_of (cell_at g n) (cell_at h n ∷ more) (rest_of (cell_at f n) (cell_at g n ∷ cell_at h n ∷ more) within))),
      )

  pub three_others : (f g h : Facet) (nodes : List NodeName) → Within allowed (refs_cells (f ∷ g ∷ h ∷ []) (map ref.Node nodes)) → MayRead allowed g nodes × MayRead allowed h nodes
  three_others f g h [] within = (tt, tt)
  three_others f g h (n ∷ ns) within =
      let more : List Cell = refs_cells (f ∷ g ∷ h ∷ []) (map ref.Node ns) in
      let second = rest_of (cell_at f n) (cell_at g n ∷ cell_at h n ∷ more) within in
      let third = rest_of (cell_at g n) (cell_at h n ∷ more) second in
      let others = three_others f g h ns (rest_of (cell_at h n) more third) in
      ((first (cell_at g n) (cell_at h n ∷ more) second, others.0), (first (cell_at h n) more third, others.1))

  -- walks outward
  up_alone : (source : Source) (n : NodeName) → IsTrue (allowed (cell_at facet.Up n)) → MayWalk allowed axis.Parent source 1 n
  up_alone source n up = (up, any (parent_at source n))
    where
      any : (o : Option NodeName) → AtParent (λ p. Unit {0} × Unit {0}) o
      any None = tt
      any (Some p) = (tt, tt)

  climb_at : (source : Source) (left : ℕ) (o : Option NodeName) → ((p : NodeName) → MayRead allowed facet.Up (p ∷ outward axis.Ancestor source left p) → MayWalk allowed axis.Ancestor source left p) →
      MayRead allowed facet.Up (elim o [ None ↦ [] | Some p ↦ (p ∷ []) ++ outward axis.Ancestor source left p ]) → AtParent (λ p. Unit {0} × MayWalk allowed axis.Ancestor source left p) o
  climb_at source left None go may = tt
  climb_at source left (Some p) go may = (tt, go p may)

  pub may_climb : (source : Source) (left : ℕ) (n : NodeName) → MayRead allowed facet.Up (n ∷ outward axis.Ancestor source left n) → MayWalk allowed axis.Ancestor source left n
  may_climb source zero n may = tt
  may_climb source (suc left) n may = (may.0, climb_at source left (parent_at source n) (may_climb source left) may.1)

  pub climb_or_self : (source : Source) (left : ℕ) (n : NodeName) → MayWalk allowed axis.Ancestor source left n → MayWalk allowed axis.AncestorOrSelf source left n
  climb_or_self source zero n may = tt
  climb_or_self source (suc left) n may = (may.0, by (parent_at source n) may.1 (climb_or_self source left))
    where
      by : (o : Option NodeName) → AtParent (λ p. Unit {0} × MayWalk allowed axis.Ancestor source left p) o → ((p : NodeName) → MayWalk allowed axis.Ancestor source left p → MayWalk allowed axis.AncestorOrSelf source left p) →
          AtParent (λ p. Unit {0} × MayWalk allowed axis.AncestorOrSelf source left p) o
      by None may go = tt
      by (Some p) may go = (tt, go p may.1)

  sibling_kids : (source : Source) (n : NodeName) → MayRead allowed facet.Kids (outward axis.Parent source 1 n) → AtParent (λ p. MayRead allowed facet.Kids (p ∷ []) × Unit {0}) (parent_at source n)
  sibling_kids source n may = by (parent_at source n) may
    where
      by : (o : Option NodeName) → MayRead allowed facet.Kids (elim o [ None ↦ [] | Some p ↦ (p ∷ []) ++ [] ]) → AtParent (λ p. MayRead allowed facet.Kids (p ∷ []) × Unit {0}) o
      by None may = tt
      by (Some p) may = (may, tt)

  -- following and preceding
  follow_from : (source : Source) (left : ℕ) (n : NodeName) (o : Option NodeName) →
      ((p : NodeName) → MayRead allowed facet.Up (p ∷ outward axis.Ancestor source left p) → MayRead allowed facet.Kids (outward axis.Ancestor source left p) → MayRead allowed facet.Kids (outward axis.Following source left p) →
      MayWalk allowed axis.Following source left p) →
      MayRead allowed facet.Up (elim o [ None ↦ [] | Some p ↦ (p ∷ []) ++ outward axis.Ancestor source left p ]) → MayRead allowed facet.Kids (elim o [ None ↦ [] | Some p ↦ (p ∷ []) ++ outward axis.Ancestor source left p ]) →
      MayRead allowed facet.Kids (elim o [ None ↦ [] | Some p ↦ below source levels (after n (kids_at source p)) ++ outward axis.Following source left p ]) →
      AtParent (λ p. MayStep allowed axis.Following source n p × MayWalk allowed axis.Following source left p) o
  follow_from source left n None go ups kids found = tt
  follow_from source left n (Some p) go ups kids found = (
    (kids.0, may_front allowed facet.Kids (below source levels (after n (kids_at source p))) (outward axis.Following source left p) found),
    go p ups kids.1 (may_back allowed facet.Kids (below source levels (after n (kids_at source p))) (outward axis.Following source left p) found),
  )

  pub may_follow : (source : Source) (left : ℕ) (n : NodeName) → MayRead allowed facet.Up (n ∷ outward axis.Ancestor source left n) → MayRead allowed facet.Kids (outward axis.Ancestor source left n) →
      MayRead allowed facet.Kids (outward axis.Following source left n) → MayWalk allowed axis.Following source left n
  may_follow source zero n ups kids found = tt
  may_follow source (suc left) n ups kids found = (ups.0, follow_from source left n (parent_at source n) (may_follow source left) ups.1 kids found)

  precede_from : (source : Source) (left : ℕ) (n : NodeName) (o : Option NodeName) →
      ((p : NodeName) → MayRead allowed facet.Up (p ∷ outward axis.Ancestor source left p) → MayRead allowed facet.Kids (outward axis.Ancestor source left p) → MayRead allowed facet.Kids (outward axis.Preceding source left p) →
      MayWalk allowed axis.Preceding source left p) →
      MayRead allowed facet.Up (elim o [ None ↦ [] | Some p ↦ (p ∷ []) ++ outward axis.Ancestor source left p ]) → MayRead allowed facet.Kids (elim o [ None ↦ [] | Some p ↦ (p ∷ []) ++ outward axis.Ancestor source left p ]) →
      MayRead allowed facet.Kids (elim o [ None ↦ [] | Some p ↦ step axis.Preceding source n p ++ outward axis.Preceding source left p ]) →
      AtParent (λ p. MayStep allowed axis.Preceding source n p × MayWalk allowed axis.Preceding source left p) o
  precede_from source left n None go ups kids found = tt
  precede_from source left n (Some p) go ups kids found = (
    (kids.0, may_reversed allowed facet.Kids (below source levels (before n (kids_at source p))) (may_front allowed facet.Kids (step axis.Preceding source n p) (outward axis.Preceding source left p) found)),
    go p ups kids.1 (may_back allowed facet.Kids (step axis.Preceding source n p) (outward axis.Preceding source left p) found),
  )

  pub may_precede : (source : Source) (left : ℕ) (n : NodeName) → MayRead allowed facet.Up (n ∷ outward axis.Ancestor source left n) → MayRead allowed facet.Kids (outward axis.Ancestor source left n) →
      MayRead allowed facet.Kids (outward axis.Preceding source left n) → MayWalk allowed axis.Preceding source left n
  may_precede source zero n ups kids found = tt
  may_precede source (suc left) n ups kids found = (ups.0, precede_from source left n (parent_at source n) (may_precede source left) ups.1 kids found)

  -- the row of an axis from a node is enough for the walk, and for the labels of what it comes to
  abbrev pub RowServes : Axis → Source → NodeName → Type 0
  RowServes along source n = MayGo allowed along source n × MayRead allowed facet.Label (nodes_on along source n)

  found_row : (along : Axis) (f : Facet) (source : Source) (n : NodeName) (nodes : List NodeName) → OnAxis along source n.0 nodes → Within allowed (refs_cells (f ∷ []) (every along source (ref.Node n))) → MayRead allowed f nodes
  found_row along f source n nodes at row = only f nodes (subst (λ (l : List NodeRef). Within allowed (refs_cells (f ∷ []) l)) (every_on along source n.0 nodes at) row)

  below_row : (names : List NameParts) (source : Source) (n : NodeName) → IsProper names source → Within allowed (refs_cells (facet.Label ∷ facet.Kids ∷ []) (ref.Node n ∷ every axis.Descendant source (ref.Node n))) →
      Within allowed (refs_cells (facet.Label ∷ facet.Kids ∷ []) (map ref.Node (n ∷ below source levels (kids_at source n))))
  below_row names source n proper row =
      subst (λ (l : List NodeRef). Within allowed (refs_cells (facet.Label ∷ facet.Kids ∷ []) (ref.Node n ∷ l)))
      (every_on axis.Descendant source n.0 (below source levels (kids_at source n)) (descendant_on names source n.0 proper)) row

  above_row : (names : List NameParts) (source : Source) (n : NodeName) → IsProper names source → Within allowed (refs_cells (facet.Label ∷ facet.Up ∷ []) (ref.Node n ∷ every axis.Ancestor source (ref.Node n))) →
      Within allowed (refs_cells (facet.Label ∷ facet.Up ∷ []) (map ref.Node (n ∷ outward axis.Ancestor source levels n)))
  above_row names source n proper row =
      subst (λ (l : List NodeRef). Within allowed (refs_cells (facet.Label ∷ facet.Up ∷ []) (ref.Node n ∷ l)))
      (every_on axis.Ancestor source n.0 (outward axis.Ancestor source levels n) (ancestor_on names source n.0 proper)) row

  outside_row : (along : Axis) (names : List NameParts) (source : Source) (n : NodeName) (found : List NodeName) → IsProper names source → OnAxis along source n.0 found →
      Within allowed (refs_cells (facet.Label ∷ facet.Up ∷ facet.Kids ∷ []) (ref.Node n ∷ (every axis.Ancestor source (ref.Node n) ++ every along source (ref.Node n)))) →
      Within allowed (refs_cells (facet.Label ∷ facet.Up ∷ facet.Kids ∷ []) (map ref.Node (n ∷ (outward axis.Ancestor source levels n ++ found))))
  outside_row along names source n found proper at row =
      let one = every_on axis.Ancestor source n.0 (outward axis.Ancestor source levels n) (ancestor_on names source n.0 proper) in
      let other = every_on along source n.0 found at in
      subst (λ (l : List NodeRef). Within allowed (refs_cells (facet.Label ∷ facet.Up ∷ facet.Kids ∷ []) (ref.Node n ∷ l)))
      ((λ i. one i ++ other i) ∙ sym (map-append ref.Node (outward axis.Ancestor source levels n) found)) row

  sibling_row : (names : List NameParts) (source : Source) (n : NodeName) → IsProper names source → Within allowed (axis_cells axis.FollowingSibling source (ref.Node n)) →
      (IsTrue (allowed (cell_at facet.Up n)) × MayRead allowed facet.Kids (outward axis.Parent source 1 n))
      × MayRead allowed facet.Label (outward axis.PrecedingSibling source 1 n ++ outward axis.FollowingSibling source 1 n)
  sibling_row names source n proper row =
      let kids : List Cell = refs_cells (facet.Kids ∷ []) (every axis.Parent source (ref.Node n)) in
      let labels : List Cell = refs_cells (facet.Label ∷ []) (every axis.PrecedingSibling source (ref.Node n) ++ every axis.FollowingSibling source (ref.Node n)) in
      let ups = rest_of (cell_at facet.Label n) (cell_at facet.Up n ∷ (kids ++ labels)) row in
      let both = rest_of (cell_at facet.Up n) (kids ++ labels) ups in
      let one = every_on axis.PrecedingSibling source n.0 (outward axis.PrecedingSibling source 1 n) (siblings_before_on names source n.0 proper) in
      let other = every_on axis.FollowingSibling source n.0 (outward axis.FollowingSibling source 1 n) (siblings_behind_on names source n.0 proper) in (
        (first (cell_at facet.Up n) (kids ++ labels) ups, found_row axis.Parent facet.Kids source n (outward axis.Parent source 1 n) (parent_on names source n.0 proper) (front kids labels both)),
        only facet.Label (outward axis.PrecedingSibling source 1 n ++ outward axis.FollowingSibling source 1 n)
            (subst (λ (l : List NodeRef). Within allowed (refs_cells (facet.Label ∷ []) l))
            ((λ i. one i ++ other i) ∙ sym (map-append ref.Node (outward axis.PrecedingSibling source 1 n) (outward axis.FollowingSibling source 1 n))) (back kids labels both)),
      )

  pub row_serves : (along : Axis) (names : List NameParts) (source : Source) (n : NodeName) → IsProper names source → Within allowed (axis_cells along source (ref.Node n)) → RowServes along source n
  row_serves axis.Child names source n proper row =
      let labels : List Cell = refs_cells (facet.Label ∷ []) (every axis.Child source (ref.Node n)) in
      let kids = rest_of (cell_at facet.Label n) (cell_at facet.Kids n ∷ labels) row in
      ((first (cell_at facet.Kids n) labels kids, tt), found_row axis.Child facet.Label source n (kids_at source n) (child_on names source n.0 proper) (rest_of (cell_at facet.Kids n) labels kids))
  row_serves axis.Attribute names source n proper row = (tt, tt)
  row_serves axis.Descendant names source n proper row =
      let all : List NodeName = n ∷ below source levels (kids_at source n) in
      let cells = below_row names source n proper row in
      (two_second facet.Label facet.Kids all cells, (two_first facet.Label facet.Kids all cells).1)
  row_serves axis.DescendantOrSelf names source n proper row =
      let all : List NodeName = n ∷ below source levels (kids_at source n) in
      let cells = below_row names source n proper row in
      (two_second facet.Label facet.Kids all cells, two_first facet.Label facet.Kids all cells)
  row_serves axis.Itself names source n proper row = (tt, (first (cell_at facet.Label n) [] row, tt))
  row_serves axis.Parent names source n proper row =
      let labels : List Cell = refs_cells (facet.Label ∷ []) (every axis.Parent source (ref.Node n)) in
      (up_alone source n (first (cell_at facet.Up n) labels row), found_row axis.Parent facet.Label source n (outward axis.Parent source 1 n) (parent_on names source n.0 proper) (rest_of (cell_at facet.Up n) labels row))
  row_serves axis.Ancestor names source n proper row =
      let all : List NodeName = n ∷ outward axis.Ancestor source levels n in
      let cells = above_row names source n proper row in
      (may_climb source levels n (two_second facet.Label facet.Up all cells), (two_first facet.Label facet.Up all cells).1)
  row_serves axis.AncestorOrSelf names source n proper row =
      let all : List NodeName = n ∷ outward axis.Ancestor source levels n in
      let cells = above_row names source n proper row in
      let labels = two_first facet.Label facet.Up all cells in (
        climb_or_self source levels n (may_climb source levels n (two_second facet.Label facet.Up all cells)),
        (labels.0, subst (MayRead allowed facet.Label) (same_climb source levels n) labels.1),
      )
  row_serves axis.FollowingSibling names source n proper row =
      let parts = sibling_row names source n proper row in
      ((parts.0.0, sibling_kids source n parts.0.1), may_back allowed facet.Label (outward axis.PrecedingSibling source 1 n) (outward axis.FollowingSibling source 1 n) parts.1)
  row_serves axis.PrecedingSibling names source n proper row =
      let parts = sibling_row names source n proper row in
      ((parts.0.0, sibling_kids source n parts.0.1), may_front allowed facet.Label (outward axis.PrecedingSibling source 1 n) (outward axis.FollowingSibling source 1 n) parts.1)
  row_serves axis.Following names source n proper row =
      let found : List NodeName = outward axis.Following source levels n in
      let above : List NodeName = outward axis.Ancestor source levels n in
      let cells = outside_row axis.Following names source n found proper (following_on names source n.0 proper) row in
      let labels = three_first facet.Label facet.Up facet.Kids (n ∷ (above ++ found)) cells in
      let others = three_others facet.Label facet.Up facet.Kids (n ∷ (above ++ found)) cells in (
        may_follow source levels n (others.0.0, may_front allowed facet.Up above found others.0.1) (may_front allowed facet.Kids above found others.1.1) (may_back allowed facet.Kids above found others.1.1),
        may_back allowed facet.Label above found labels.1,
      )
  row_serves axis.Preceding names source n proper row =
      let found : List NodeName = outward axis.Preceding source levels n in
      let above : List NodeName = outward axis.Ancestor source levels n in
      let cells = outside_row axis.Preceding names source n found proper (preceding_on names source n.0 proper) row in
      let labels = three_first facet.Label facet.Up facet.Kids (n ∷ (above ++ found)) cells in
      let others = three_others facet.Label facet.Up facet.Kids (n ∷ (above ++ found)) cells in (
        may_precede source levels n (others.0.0, may_front allowed facet.Up above found others.0.1) (may_front allowed facet.Kids above found others.1.1) (may_back allowed facet.Kids above found others.1.1),
        may_back allowed facet.Label above found labels.1,
      )

  -- and for its attributes
  pub own_serves : (along : Axis) (source : Source) (n : NodeName) → Within allowed (axis_cells along source (ref.Node n)) → MayOwn allowed along n
  own_serves axis.Attribute source n row = (first (cell_at facet.Attrs n) [] (rest_of (cell_at facet.Label n) (cell_at facet.Attrs n ∷ []) row), tt)
  own_serves axis.Child source n row = tt
  own_serves axis.Descendant source n row = tt
  own_serves axis.Itself source n row = tt
  own_serves axis.DescendantOrSelf source n row = tt
  own_serves axis.AncestorOrSelf source n row = tt
  own_serves axis.Parent source n row = tt
  own_serves axis.Ancestor source n row = tt
  own_serves axis.FollowingSibling source n row = tt
  own_serves axis.PrecedingSibling source n row = tt
  own_serves axis.Following source n row = tt
  own_serves axis.Preceding source n row = tt
