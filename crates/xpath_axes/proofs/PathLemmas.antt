-- The path of an attribute that is read, and the cells that document order may log.
use Rattle.std.proofs.Common.{◌≡◌, ℕ, zero, suc, ◌<◌, ◌++◌, inl, inr, Bool, IsTrue, List, [], ◌∷◌, map, length, get_or, Option, Some, None, refl, sym, ap, subst, ◌∙◌, arith}
use Rattle.std.specs.Option.{option_map, option_and_then}
use Rattle.serna_kinds.specs.declared.cells.NameId.{NameId}
use Rattle.serna_kinds.specs.declared.cells.NodeName.{NodeName}
use Rattle.serna_kinds.specs.declared.cells.NodeRef.{NodeRef}
use Rattle.serna_kinds.specs.declared.cells.NodeRef.TheVariants as ref
use Rattle.serna_kinds.specs.declared.cells.Cell.{Cell}
use Rattle.serna_kinds.specs.declared.cells.Facet.TheVariants as facet
use Rattle.serna_kinds.specs.declared.expressions.Axis.TheVariants as axis
use Rattle.serna_kinds.specs.Names.{NameParts}
use Rattle.serna_kinds.specs.Tape.{Within}
use Rattle.source_model.specs.Source.{Source}
use Rattle.source_model.specs.Cells.{Spot, spot_of}
use Rattle.source_model.specs.Proper.{IsProper}
use Rattle.source_model.specs.Paths.{Path, path_of, attribute_place}
use Rattle.source_model.specs.Attributes.{pairs_of}
use Rattle.source_model.specs.Logged.{cell_at, refs_cells, every}
use Rattle.source_model.proofs.Children.{stands}
use Rattle.xpath_axes.specs.Nodes.{attributes_at, attributes_of, parent_at}
use Rattle.xpath_axes.specs.Order.{attribute_path_by, order_cells_of, order_cells, MayClimb}
use Rattle.xpath_axes.specs.Walks.{levels, outward}
use Rattle.xpath_axes.specs.Allowed.{MayRead}
use Rattle.xpath_axes.proofs.AttributeAxes.{found_from, every_from}
use Rattle.xpath_axes.proofs.NodeAxes.{ancestor_on}
use Rattle.xpath_axes.proofs.PathSteps.{path_read}
use Rattle.xpath_axes.proofs.Rows.{first, rest_of, front, back, only, two_first, two_second}
use Rattle.xpath_axes.proofs.Totals.{every_on}

-- the path of an attribute
place_last : (p : Path) (o : Option ℕ) → option_and_then (λ (i : ℕ). option_map (λ (path : Path). path ++ (0, i) ∷ []) (Some p)) o ≡ option_map (λ (i : ℕ). p ++ (0, i) ∷ []) o
place_last p None = refl
place_last p (Some i) = refl

none_last : (o : Option ℕ) → option_and_then (λ (i : ℕ). option_map (λ (path : Path). path ++ (0, i) ∷ []) None) o ≡ None
none_last None = refl
none_last (Some i) = refl

pub attribute_read : (names : List NameParts) (source : Source) (n : NodeName) (name : NameId) → IsProper names source → attribute_path_by source 122 n name ≡ path_of source (ref.Attr n name)
attribute_read names source n name proper =
    ap (λ (o : Option Path). option_and_then (λ (i : ℕ). option_map (λ (path : Path). path ++ (0, i) ∷ []) o) (attribute_place name 0 (attributes_at source n))) (path_read names source n proper)
    ∙ elim (stands None n.0 0 source.tree) [
      | inl at ↦
          let p : Path = (1, at.place) ∷ at.more in
          ap (λ (o : Option Path). option_and_then (λ (i : ℕ). option_map (λ (path : Path). path ++ (0, i) ∷ []) o) (attribute_place name 0 (attributes_at source n))) at.path_is
          ∙ place_last p (attribute_place name 0 (attributes_at source n))
          ∙ ap (λ (o : Option Spot). option_map (λ (i : ℕ). p ++ (0, i) ∷ []) (attribute_place name 0 (elim o [ None ↦ [] | Some spot ↦ attributes_of spot ]))) at.spot_is
          ∙ sym (ap (λ (o : Option Spot). option_and_then (λ (spot : Spot). option_map (λ (i : ℕ). p ++ (0, i) ∷ []) (attribute_place name 0 (pairs_of spot.body))) o) at.spot_is)
          ∙ sym (ap (option_and_then (λ (path : Path). option_and_then (λ (spot : Spot). option_map (λ (i : ℕ). path ++ (0, i) ∷ []) (attribute_place name 0 (pairs_of spot.body))) (spot_of source n.0))) at.path_is)
      | inr gone ↦
          ap (λ (o : Option Path). option_and_then (λ (i : ℕ). option_map (λ (path : Path). path ++ (0, i) ∷ []) o) (attribute_place name 0 (attributes_at source n))) gone.path_is
          ∙ none_last (attribute_place name 0 (attributes_at source n))
          ∙ sym (ap (option_and_then (λ (path : Path). option_and_then (λ (spot : Spot). option_map (λ (i : ℕ). path ++ (0, i) ∷ []) (attribute_place name 0 (pairs_of spot.body))) (spot_of source n.0))) gone.path_is)
    ]

module _ (allowed : Cell → Bool) where
  -- a step of the climb
  abbrev AtAbove : (NodeName → Type 0) → Option NodeName → Type 0
  AtAbove may None = Unit {0}
  AtAbove may (Some p) = IsTrue (allowed (cell_at facet.Kids p)) × may p

  pub climb_step : (source : Source) (left below : ℕ) (n : NodeName) → left ≡ suc below → MayClimb allowed source left n →
      IsTrue (allowed (cell_at facet.Label n)) × IsTrue (allowed (cell_at facet.Up n)) × AtAbove (MayClimb allowed source below) (parent_at source n)
  unfolding MayClimb
  climb_step source left below n e may = at (parent_at source n) (subst (λ (k : ℕ). MayClimb allowed source k n) e may)
    where
      at : (o : Option NodeName) → IsTrue (allowed (cell_at facet.Label n)) × IsTrue (allowed (cell_at facet.Up n)) × elim o as (λ _. Type 0) [ None ↦ Unit {0} | Some p ↦ IsTrue (allowed (cell_at facet.Kids p)) × MayClimb allowed source below p ] →
          IsTrue (allowed (cell_at facet.Label n)) × IsTrue (allowed (cell_at facet.Up n)) × AtAbove (MayClimb allowed source below) o
      at None may = (may.0, may.1, tt)
      at (Some p) may = (may.0, may.1, may.2)

  pub climb_above : (source : Source) (left below : ℕ) (n p : NodeName) → left ≡ suc below → Some p ≡ parent_at source n → MayClimb allowed source left n → IsTrue (allowed (cell_at facet.Kids p)) × MayClimb allowed source below p
  climb_above source left below n p e is may = subst (AtAbove (MayClimb allowed source below)) (sym is) (climb_step source left below n e may).2

  -- the row is enough for it
  climb_from : (source : Source) (left : ℕ) (o : Option NodeName) →
      ((p : NodeName) → MayRead allowed facet.Label (p ∷ outward axis.Ancestor source left p) → MayRead allowed facet.Up (p ∷ outward axis.Ancestor source left p) → MayRead allowed facet.Kids (outward axis.Ancestor source left p) →
      MayClimb allowed source left p) →
      MayRead allowed facet.Label (elim o [ None ↦ [] | Some p ↦ (p ∷ []) ++ outward axis.Ancestor source left p ]) → MayRead allowed facet.Up (elim o [ None ↦ [] | Some p ↦ (p ∷ []) ++ outward axis.Ancestor source left p ]) →
      MayRead allowed facet.Kids (elim o [ None ↦ [] | Some p ↦ (p ∷ []) ++ outward axis.Ancestor source left p ]) →
      elim o as (λ _. Type 0) [ None ↦ Unit {0} | Some p ↦ IsTrue (allowed (cell_at facet.Kids p)) × MayClimb allowed source left p ]
  climb_from source left None go labels ups kids = tt
  climb_from source left (Some p) go labels ups kids = (kids.0, go p labels ups kids.1)

  may_climb_by : (source : Source) (left : ℕ) (n : NodeName) → MayRead allowed facet.Label (n ∷ outward axis.Ancestor source left n) → MayRead allowed facet.Up (n ∷ outward axis.Ancestor source left n) →
      MayRead allowed facet.Kids (outward axis.Ancestor source left n) → MayClimb allowed source left n
  unfolding MayClimb
  may_climb_by source zero n labels ups kids = tt
  may_climb_by source (suc left) n labels ups kids = (labels.0, ups.0, climb_from source left (parent_at source n) (may_climb_by source left) labels.1 ups.1 kids)

  row_climbs : (source : Source) (n : NodeName) → Within allowed (refs_cells (facet.Label ∷ facet.Up ∷ []) (map ref.Node (n ∷ outward axis.Ancestor source levels n))) →
      Within allowed (refs_cells (facet.Kids ∷ []) (map ref.Node (outward axis.Ancestor source levels n))) → MayClimb allowed source levels n
  row_climbs source n both kids =
      let all : List NodeName = n ∷ outward axis.Ancestor source levels n in
      may_climb_by source levels n (two_first allowed facet.Label facet.Up all both) (two_second allowed facet.Label facet.Up all both) (only allowed facet.Kids (outward axis.Ancestor source levels n) kids)

  pub node_climbs : (names : List NameParts) (source : Source) (n : NodeName) → IsProper names source → Within allowed (order_cells_of source (ref.Node n)) → MayClimb allowed source levels n
  node_climbs names source n proper row =
      let above : List NodeRef = every axis.Ancestor source (ref.Node n) in
      let is : above ≡ map ref.Node (outward axis.Ancestor source levels n) = every_on axis.Ancestor source n.0 (outward axis.Ancestor source levels n) (ancestor_on names source n.0 proper) in
      let both : List Cell = refs_cells (facet.Label ∷ facet.Up ∷ []) (ref.Node n ∷ above) in
      let kids : List Cell = refs_cells (facet.Kids ∷ []) above in
      row_climbs source n (subst (λ (l : List NodeRef). Within allowed (refs_cells (facet.Label ∷ facet.Up ∷ []) (ref.Node n ∷ l))) is (front allowed both kids row))
      (subst (λ (l : List NodeRef). Within allowed (refs_cells (facet.Kids ∷ []) l)) is (back allowed both kids row))

  pub attribute_first : (source : Source) (n : NodeName) (name : NameId) → Within allowed (order_cells_of source (ref.Attr n name)) → IsTrue (allowed (cell_at facet.Attrs n))
  attribute_first source n name row =
      let above : List NodeRef = every axis.Ancestor source (ref.Attr n name) in
      first allowed (cell_at facet.Attrs n) (refs_cells (facet.Label ∷ facet.Up ∷ []) above ++ refs_cells (facet.Kids ∷ []) above) row

  pub attribute_climbs : (names : List NameParts) (source : Source) (n : NodeName) (name : NameId) (q : ℕ) → IsProper names source → attribute_place name 0 (attributes_at source n) ≡ Some q →
      Within allowed (order_cells_of source (ref.Attr n name)) → MayClimb allowed source levels n
  attribute_climbs names source n name q proper at row =
      let above : List NodeRef = every axis.Ancestor source (ref.Attr n name) in
      let is : above ≡ map ref.Node (n ∷ outward axis.Ancestor source levels n) = every_from axis.Ancestor source n.0 name (n ∷ outward axis.Ancestor source levels n) (found_from names axis.Ancestor source n name q proper at) refl in
      let both : List Cell = refs_cells (facet.Label ∷ facet.Up ∷ []) above in
      let kids : List Cell = refs_cells (facet.Kids ∷ []) above in
      let behind : Within allowed (both ++ kids) = rest_of allowed (cell_at facet.Attrs n) (both ++ kids) row in
      let inner : List Cell = refs_cells (facet.Kids ∷ []) (map ref.Node (outward axis.Ancestor source levels n)) in
      row_climbs source n (subst (λ (l : List NodeRef). Within allowed (refs_cells (facet.Label ∷ facet.Up ∷ []) l)) is (front allowed both kids behind))
      (rest_of allowed (cell_at facet.Kids n) inner (subst (λ (l : List NodeRef). Within allowed (refs_cells (facet.Kids ∷ []) l)) is (back allowed both kids behind)))

  -- the row of one of a list
  pub row_item : (source : Source) (refs : List NodeRef) (i : ℕ) (d : NodeRef) → i < length refs → Within allowed (order_cells source refs) → Within allowed (order_cells_of source (get_or refs i d))
  row_item source [] i d less row = absurd (omega (arith, less))
  row_item source (r ∷ rs) zero d less row = front allowed (order_cells_of source r) (order_cells source rs) row
  row_item source (r ∷ rs) (suc i) d less row = row_item source rs i d (omega (arith, less)) (back allowed (order_cells_of source r) (order_cells source rs) row)
