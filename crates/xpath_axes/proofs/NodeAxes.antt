-- Each axis from a node is what a walk from it comes to.
use Rattle.std.proofs.Common.{◌≡◌, ℕ, zero, suc, ◌&&◌, ◌++◌, inl, inr, Bool, true, false, List, [], ◌∷◌, take, reverse, Option, Some, None, if◌then◌else◌, refl, sym, ap, subst, ◌∙◌}
use Rattle.std.specs.List.{flat_map}
use Rattle.std.specs.Option.{option_and_then}
use Rattle.std.proofs.lemmas.List.{append-nil, reverse-append, reverse-reverse, take_all}
use Rattle.serna_kinds.specs.declared.cells.NodeName.{NodeName}
use Rattle.serna_kinds.specs.declared.cells.NodeRef.{NodeRef}
use Rattle.serna_kinds.specs.declared.cells.NodeRef.TheVariants as ref
use Rattle.serna_kinds.specs.declared.expressions.Axis.{Axis}
use Rattle.serna_kinds.specs.declared.expressions.Axis.TheVariants as axis
use Rattle.serna_kinds.specs.declared.expressions.NodeTest.{NodeTest}
use Rattle.serna_kinds.specs.Names.{NameParts}
use Rattle.source_model.specs.Source.{Body, Forest, Source}
use Rattle.source_model.specs.Cells.{Spot, spot_of, named}
use Rattle.source_model.specs.Proper.{IsProper}
use Rattle.source_model.specs.Paths.{Path, Thing, node_thing, entries, entries_of}
use Rattle.source_model.specs.Axes.{axis_of, tested, pick, in_order, is_below, is_any_step, ends_at_node}
use Rattle.source_model.proofs.Children.{own, pick_false, IsGone}
use Rattle.xpath_axes.specs.Nodes.{parent_of}
use Rattle.xpath_axes.specs.Walks.{levels, step, outward}
use Rattle.xpath_axes.proofs.Ways.{plug, path_at, all_in, heads_in, took_one, took, took-append}
use Rattle.xpath_axes.proofs.Outside.{on, ups, follow_of, precede_of, above_by, last_after, last_before, follow_picks, precede_picks, up_picks, following_sibling_picks, preceding_sibling_picks, none_of_three}
use Rattle.xpath_axes.proofs.Placed.{node_names, AreThere, there-append}
use Rattle.xpath_axes.proofs.Levels.{Level, found, Climbs, walked, overs, IsLevel}
use Rattle.xpath_axes.proofs.Stands.{Stands, stands}

-- an axis has these nodes, in axis order
pub record OnAxis (along : Axis) (source : Source) (n : ℕ) (nodes : List NodeName) : Type 0 where
  pub listed : List (ℕ × Body)
  pub names_are : nodes ≡ node_names listed
  pub there : AreThere source listed
  pub axis_is : (table : List NameParts) (t : NodeTest) → axis_of table along t source (ref.Node (named n)) ≡ took (tested table along t) listed

-- where a node stands, an axis is what is picked by its path
pub axis_at : (table : List NameParts) (along : Axis) (t : NodeTest) (source : Source) (n : ℕ) (s : Stands source n) (way : List NodeRef) →
    pick (on along (tested table along t) (path_at 0 s.way [])) (entries 0 (plug s.way n s.body s.kids)) ≡ way →
    axis_of table along t source (ref.Node (named n)) ≡ in_order along way
axis_at table along t source n s way is =
    ap (λ (o : Option Path). elim o [ None ↦ [] | Some p ↦ in_order along (pick (on along (tested table along t) p) (entries_of source)) ]) s.path_is
    ∙ ap (λ (f : Forest). in_order along (pick (on along (tested table along t) (path_at 0 s.way [])) (entries 0 f))) s.tree_is
    ∙ ap (in_order along) is

pub axis_gone : (table : List NameParts) (along : Axis) (t : NodeTest) (source : Source) (n : ℕ) → IsGone None n 0 source.tree → axis_of table along t source (ref.Node (named n)) ≡ []
axis_gone table along t source n gone =
    ap (λ (o : Option Path). elim o [ None ↦ [] | Some p ↦ in_order along (pick (on along (tested table along t) p) (entries_of source)) ]) gone.path_is

pub took_reverse : (t : Thing → Bool) (ws : List (ℕ × Body)) → reverse (took t ws) ≡ took t (reverse ws)
took_reverse t [] = refl
took_reverse t (w ∷ ws) =
    reverse-append (took_one t w) (took t ws) ∙ (λ q. took_reverse t ws q ++ one (t (node_thing w.0 w.1)) q)
    ∙ sym (took-append t (reverse ws) (w ∷ [])) ∙ ap (took t) (sym (reverse-append (w ∷ []) ws))
  where
    one : (b : Bool) → reverse (if b then ref.Node (named w.0) ∷ [] else []) ≡ (if b then ref.Node (named w.0) ∷ [] else []) ++ []
    one true = refl
    one false = refl

-- what the levels have is there
there-reverse : (source : Source) (ws : List (ℕ × Body)) → AreThere source ws → AreThere source (reverse ws)
there-reverse source [] there = tt
there-reverse source (w ∷ ws) there = subst (AreThere source) (sym (reverse-append (w ∷ []) ws)) (there-append source (reverse ws) (w ∷ []) (there-reverse source ws there.1) (there.0, tt))

level_there : (along : Axis) (source : Source) (n : ℕ) (l : Level) → IsLevel source n l → AreThere source (found along l)
level_there axis.Parent source n l is = (is.over_there, tt)
level_there axis.Ancestor source n l is = (is.over_there, tt)
level_there axis.AncestorOrSelf source n l is = (is.over_there, tt)
level_there axis.FollowingSibling source n l is = is.heads_after_there
level_there axis.PrecedingSibling source n l is = there-reverse source (heads_in l.before) is.heads_before_there
level_there axis.Following source n l is = is.after_there
level_there axis.Preceding source n l is = there-reverse source (all_in l.before) is.before_there
level_there axis.Child source n l is = tt
level_there axis.Attribute source n l is = tt
level_there axis.Descendant source n l is = tt
level_there axis.Itself source n l is = tt
level_there axis.DescendantOrSelf source n l is = tt

pub levels_there : (along : Axis) (source : Source) (left n : ℕ) (ls : List Level) → Climbs source n ls → AreThere source (flat_map (found along) (take left ls))
levels_there along source zero n ls climbs = tt
levels_there along source (suc left) n [] climbs = tt
levels_there along source (suc left) n (l ∷ ls) climbs =
    there-append source (found along l) (flat_map (found along) (take left ls)) (level_there along source n l climbs.0) (levels_there along source left l.over.0 ls climbs.1)

-- an axis outward from where a node stands, from what is picked in axis order
outward_at : (along : Axis) (source : Source) (n left : ℕ) (s : Stands source n) →
    ((table : List NameParts) (t : NodeTest) → axis_of table along t source (ref.Node (named n)) ≡ took (tested table along t) (flat_map (found along) (take left s.ls))) →
    OnAxis along source n (outward along source left (named n))
outward_at along source n left s is = record {
  listed = flat_map (found along) (take left s.ls);
  names_are = walked along source left n s.ls s.stood.climbs;
  there = levels_there along source left n s.ls s.stood.climbs;
  axis_is = is;
}

pub all_levels : (along : Axis) (source : Source) (n : ℕ) (s : Stands source n) → flat_map (found along) s.ls ≡ flat_map (found along) (take levels s.ls)
all_levels along source n s = ap (flat_map (found along)) (sym (take_all levels s.ls s.few))

-- nothing is picked outward at and below the node itself
nothing_follows : (t : Thing → Bool) (n : ℕ) (body : Body) (kids : Forest) → pick (on axis.Following t []) (own n body kids) ≡ []
nothing_follows t n body kids = pick_false (on axis.Following t []) never (own n body kids)
  where
    two : (b c : Bool) → (b && c && false) ≡ false
    two true true = refl
    two true false = refl
    two false c = refl

    never : (m : Path) (x : Thing) → on axis.Following t [] m x ≡ false
    never [] x = refl
    never (s ∷ m) x = ap (λ (b : Bool). b && t x) (two (ends_at_node (s ∷ m)) true)

nothing_precedes : (t : Thing → Bool) (n : ℕ) (body : Body) (kids : Forest) → pick (on axis.Preceding t []) (own n body kids) ≡ []
nothing_precedes t n body kids = pick_false (on axis.Preceding t []) never (own n body kids)
  where
    never : (m : Path) (x : Thing) → on axis.Preceding t [] m x ≡ false
    never [] x = refl
    never (s ∷ m) x = ap (λ (b : Bool). b && t x) (none_of_three (ends_at_node (s ∷ m)) true)

nothing_above : (c : Path → Bool) → c [] ≡ false → (t : Thing → Bool) (n : ℕ) (body : Body) (kids : Forest) → pick (ups c t []) (own n body kids) ≡ []
nothing_above c no_way t n body kids = pick_false (ups c t []) never (own n body kids)
  where
    never : (m : Path) (x : Thing) → ups c t [] m x ≡ false
    never [] x = ap (λ (b : Bool). b && t x) no_way
    never (s ∷ m) x = refl

following_at : (source : Source) (n : ℕ) → Stands source n → OnAxis axis.Following source n (outward axis.Following source levels (named n))
following_at source n s = outward_at axis.Following source n levels s
    (λ table test. let t : Thing → Bool = tested table axis.Following test in
    axis_at table axis.Following test source n s (took t (follow_of s.way))
    (follow_picks t [] 0 s.way n s.body s.kids ∙ ap (λ (l : List NodeRef). l ++ took t (follow_of s.way)) (nothing_follows t n s.body s.kids))
    ∙ ap (took t) (s.follow ∙ all_levels axis.Following source n s))

preceding_at : (source : Source) (n : ℕ) → Stands source n → OnAxis axis.Preceding source n (outward axis.Preceding source levels (named n))
preceding_at source n s = outward_at axis.Preceding source n levels s
    (λ table test. let t : Thing → Bool = tested table axis.Preceding test in
    axis_at table axis.Preceding test source n s (took t (precede_of s.way))
    (precede_picks t [] 0 s.way n s.body s.kids ∙ ap (λ (l : List NodeRef). took t (precede_of s.way) ++ l) (nothing_precedes t n s.body s.kids) ∙ append-nil (took t (precede_of s.way)))
    ∙ took_reverse t (precede_of s.way) ∙ ap (took t) (s.precede ∙ all_levels axis.Preceding source n s))

ancestor_at : (source : Source) (n : ℕ) → Stands source n → OnAxis axis.Ancestor source n (outward axis.Ancestor source levels (named n))
ancestor_at source n s = outward_at axis.Ancestor source n levels s
    (λ table test. let t : Thing → Bool = tested table axis.Ancestor test in
    axis_at table axis.Ancestor test source n s (took t (above_by is_below [] s.way))
    (up_picks is_below t [] 0 s.way n s.body s.kids ∙ ap (λ (l : List NodeRef). took t (above_by is_below [] s.way) ++ l) (nothing_above is_below refl t n s.body s.kids)
    ∙ append-nil (took t (above_by is_below [] s.way)))
    ∙ took_reverse t (above_by is_below [] s.way)
    ∙ ap (took t) (ap (λ (l : List (ℕ × Body)). reverse l) (s.above []) ∙ reverse-reverse (overs s.ls) ∙ all_levels axis.Ancestor source n s))

parent_axis : (source : Source) (n : ℕ) → Stands source n → OnAxis axis.Parent source n (outward axis.Parent source 1 (named n))
parent_axis source n s = outward_at axis.Parent source n 1 s
    (λ table test. let t : Thing → Bool = tested table axis.Parent test in
    axis_at table axis.Parent test source n s (took t (above_by is_any_step [] s.way))
    (up_picks is_any_step t [] 0 s.way n s.body s.kids ∙ ap (λ (l : List NodeRef). took t (above_by is_any_step [] s.way) ++ l) (nothing_above is_any_step refl t n s.body s.kids)
    ∙ append-nil (took t (above_by is_any_step [] s.way)))
    ∙ ap (took t) s.parent)

siblings_behind_at : (source : Source) (n : ℕ) → Stands source n → OnAxis axis.FollowingSibling source n (outward axis.FollowingSibling source 1 (named n))
siblings_behind_at source n s = outward_at axis.FollowingSibling source n 1 s
    (λ table test. let t : Thing → Bool = tested table axis.FollowingSibling test in
    axis_at table axis.FollowingSibling test source n s (took t (heads_in (last_after s.way))) (following_sibling_picks t 0 s.way n s.body s.kids) ∙ ap (took t) s.siblings_after)

siblings_before_at : (source : Source) (n : ℕ) → Stands source n → OnAxis axis.PrecedingSibling source n (outward axis.PrecedingSibling source 1 (named n))
siblings_before_at source n s = outward_at axis.PrecedingSibling source n 1 s
    (λ table test. let t : Thing → Bool = tested table axis.PrecedingSibling test in
    axis_at table axis.PrecedingSibling test source n s (took t (heads_in (last_before s.way))) (preceding_sibling_picks t 0 s.way n s.body s.kids)
    ∙ took_reverse t (heads_in (last_before s.way)) ∙ ap (took t) s.siblings_before)

-- where a number is not there, there is nothing on an axis, and no walk from it
pub outward_gone : (along : Axis) (source : Source) (left n : ℕ) → spot_of source n ≡ None → outward along source left (named n) ≡ []
outward_gone along source zero n gone = refl
outward_gone along source (suc left) n gone =
    ap (λ (o : Option Spot). elim (option_and_then parent_of o) [ None ↦ [] | Some p ↦ step along source (named n) p ++ outward along source left p ]) gone

pub nothing_on : (along : Axis) (source : Source) (n : ℕ) (nodes : List NodeName) → IsGone None n 0 source.tree → nodes ≡ [] → OnAxis along source n nodes
nothing_on along source n nodes gone is = record {
  listed = [];
  names_are = is;
  there = tt;
  axis_is = λ table t. axis_gone table along t source n gone;
}

outward_or_gone : (names : List NameParts) (along : Axis) (source : Source) (n left : ℕ) → IsProper names source → (Stands source n → OnAxis along source n (outward along source left (named n))) →
    OnAxis along source n (outward along source left (named n))
outward_or_gone names along source n left proper at = elim (stands names source n proper) [
  | inl s ↦ at s
  | inr gone ↦ nothing_on along source n (outward along source left (named n)) gone (outward_gone along source left n gone.spot_is)
]

pub following_on : (names : List NameParts) (source : Source) (n : ℕ) → IsProper names source → OnAxis axis.Following source n (outward axis.Following source levels (named n))
following_on names source n proper = outward_or_gone names axis.Following source n levels proper (following_at source n)

pub preceding_on : (names : List NameParts) (source : Source) (n : ℕ) → IsProper names source → OnAxis axis.Preceding source n (outward axis.Preceding source levels (named n))
preceding_on names source n proper = outward_or_gone names axis.Preceding source n levels proper (preceding_at source n)

pub ancestor_on : (names : List NameParts) (source : Source) (n : ℕ) → IsProper names source → OnAxis axis.Ancestor source n (outward axis.Ancestor source levels (named n))
ancestor_on names source n proper = outward_or_gone names axis.Ancestor source n levels proper (ancestor_at source n)

pub parent_on : (names : List NameParts) (source : Source) (n : ℕ) → IsProper names source → OnAxis axis.Parent source n (outward axis.Parent source 1 (named n))
parent_on names source n proper = outward_or_gone names axis.Parent source n 1 proper (parent_axis source n)

pub siblings_behind_on : (names : List NameParts) (source : Source) (n : ℕ) → IsProper names source → OnAxis axis.FollowingSibling source n (outward axis.FollowingSibling source 1 (named n))
siblings_behind_on names source n proper = outward_or_gone names axis.FollowingSibling source n 1 proper (siblings_behind_at source n)

pub siblings_before_on : (names : List NameParts) (source : Source) (n : ℕ) → IsProper names source → OnAxis axis.PrecedingSibling source n (outward axis.PrecedingSibling source 1 (named n))
siblings_before_on names source n proper = outward_or_gone names axis.PrecedingSibling source n 1 proper (siblings_before_at source n)
