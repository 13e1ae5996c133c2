-- Each axis from an attribute: its path is its element's, and then one step of kind 0.
use Rattle.std.proofs.Common.{◌≡◌, ℕ, suc, ◌≤◌, ◌<◌, ◌==◌, ◌&&◌, ◌||◌, ◌++◌, inl, inr, Bool, true, false, List, [], ◌∷◌, take, reverse, Option, Some, None, if◌then◌else◌, refl, sym, ap, ◌∙◌, arith, append_assoc}
use Rattle.std.specs.List.{flat_map}
use Rattle.std.specs.Option.{option_map, option_and_then}
use Rattle.std.proofs.lemmas.List.{append-nil, map-append, reverse-append, reverse-reverse}
use Rattle.std.proofs.lemmas.Option.{none-some}
use Rattle.std.proofs.lemmas.Bool.{cases_eq, ne_eqb, eq-eqb}
use Rattle.serna_kinds.specs.declared.cells.NameId.{NameId}
use Rattle.serna_kinds.specs.declared.cells.NodeName.{NodeName}
use Rattle.serna_kinds.specs.declared.cells.NodeRef.{NodeRef}
use Rattle.serna_kinds.specs.declared.cells.NodeRef.TheVariants as ref
use Rattle.serna_kinds.specs.declared.cells.AttrPair.{AttrPair}
use Rattle.serna_kinds.specs.declared.expressions.Axis.{Axis}
use Rattle.serna_kinds.specs.declared.expressions.Axis.TheVariants as axis
use Rattle.serna_kinds.specs.declared.expressions.NodeTest.{NodeTest}
use Rattle.serna_kinds.specs.Names.{NameParts}
use Rattle.source_model.specs.Source.{Body, Forest, Source}
use Rattle.source_model.specs.Cells.{Spot, spot_of, named}
use Rattle.source_model.specs.Proper.{IsProper}
use Rattle.source_model.specs.Paths.{Path, Thing, is_before, node_thing, attribute_thing, attribute_entries, attribute_place, entries, entries_of, behind, same_step}
use Rattle.source_model.specs.Attributes.{pairs_of}
use Rattle.source_model.specs.Axes.{axis_of, tested, takes, pick, in_order, meets, down, is_empty, is_step, is_below, is_any_step, ends_at_node, are_siblings}
use Rattle.source_model.proofs.Children.{Passes, own, pick-append, pick_same, pick_false, pick_later, downs, down-downs}
use Rattle.xpath_axes.specs.Nodes.{kids_at}
use Rattle.xpath_axes.specs.Taken.{taken_attribute, self_on}
use Rattle.xpath_axes.specs.Walks.{levels, below, outward}
use Rattle.xpath_axes.proofs.Ways.{Way, here, inside, plug, place, path_at, all_in, took, took_one, took-append, own_front, own_through, ends_below, put_front}
use Rattle.xpath_axes.proofs.Outside.{on, ups, follow_of, precede_of, above_by, follow_picks, precede_picks, up_picks, none_of_three, all_of_three}
use Rattle.xpath_axes.proofs.Placed.{node_name, node_names, IsThere, AreThere, there-append, all_there, below_all}
use Rattle.xpath_axes.proofs.Levels.{overs, found, walked}
use Rattle.xpath_axes.proofs.Inward.{own_below, down_picks, and_below, below_behind, or_down, kids_of_it, number_sym, up_or_same, all_above}
use Rattle.xpath_axes.proofs.Stands.{Stands}
use Rattle.xpath_axes.proofs.NodeAxes.{took_reverse, levels_there, all_levels}

some_is : (i q : ℕ) → Some i ≡ Some q → i ≡ q
some_is i q e = ap (λ (o : Option ℕ). elim o [ None ↦ i | Some k ↦ k ]) e

abbrev pub end_at : ℕ → Path
end_at q = (0, q) ∷ []

path_more : (i : ℕ) (way : Way) (e : Path) → path_at i way [] ++ e ≡ path_at i way e
path_more i (here before after) e = refl
path_more i (inside before k outer after way) e = ap (λ (p : Path). (1, place i before) ∷ p) (path_more 0 way e)

-- where an element stands, the axis from its attribute at a place is what is picked by the attribute's path
pub attribute_at : (table : List NameParts) (along : Axis) (t : NodeTest) (source : Source) (n : ℕ) (name : NameId) (q : ℕ) (s : Stands source n) (found : List NodeRef) →
    attribute_place name 0 (pairs_of s.body) ≡ Some q →
    pick (on along (tested table along t) (path_at 0 s.way (end_at q))) (entries 0 (plug s.way n s.body s.kids)) ≡ found →
    axis_of table along t source (ref.Attr (named n) name) ≡ in_order along found
attribute_at table along t source n name q s found at_place is =
    let axis_by : Option Path → List NodeRef = λ o. elim o [ None ↦ [] | Some p ↦ in_order along (pick (on along (tested table along t) p) (entries_of source)) ] in
    ap (λ (o : Option Path). axis_by (option_and_then (λ path. option_and_then (λ (spot : Spot). option_map (λ i. path ++ (0, i) ∷ []) (attribute_place name 0 (pairs_of spot.body))) (spot_of source n)) o)) s.path_is
    ∙ ap (λ (o : Option Spot). axis_by (option_and_then (λ (spot : Spot). option_map (λ i. path_at 0 s.way [] ++ (0, i) ∷ []) (attribute_place name 0 (pairs_of spot.body))) o)) s.stood.end.there.1
    ∙ ap (λ (o : Option ℕ). axis_by (option_map (λ i. path_at 0 s.way [] ++ (0, i) ∷ []) o)) at_place
    ∙ ap (λ (p : Path). axis_by (Some p)) (path_more 0 s.way (end_at q))
    ∙ ap (λ (f : Forest). in_order along (pick (on along (tested table along t) (path_at 0 s.way (end_at q))) (entries 0 f))) s.tree_is
    ∙ ap (in_order along) is

-- the attribute itself among its element's
pick_behind : (g : Passes) (t : Thing → Bool) (q n i : ℕ) (pairs : List AttrPair) → ((j : ℕ) (x : Thing) → g ((0, j) ∷ []) x ≡ ((q == j) && t x)) → q < i → pick g (attribute_entries n i pairs) ≡ []
pick_behind g t q n i [] is less = refl
pick_behind g t q n i (pair ∷ pairs) is less =
    let never : g ((0, i) ∷ []) (attribute_thing n pair) ≡ false = is i (attribute_thing n pair) ∙ ap (λ (b : Bool). b && t (attribute_thing n pair)) (ne_eqb q i (λ e. absurd (omega (arith, less, e)))) in
    ap (λ (b : Bool). if b then ref.Attr (named n) pair.name ∷ pick g (attribute_entries n (suc i) pairs) else pick g (attribute_entries n (suc i) pairs)) never
    ∙ pick_behind g t q n (suc i) pairs is (omega (arith, less))

place_from : (name : NameId) (i q : ℕ) (pairs : List AttrPair) → attribute_place name i pairs ≡ Some q → i ≤ q
place_from name i q [] e = absurd (none-some q e)
place_from name i q (pair ∷ pairs) e = by (pair.name.0 == name.0) e (place_from name (suc i) q pairs)
  where
    by : (b : Bool) → (if b then Some i else attribute_place name (suc i) pairs) ≡ Some q → (attribute_place name (suc i) pairs ≡ Some q → suc i ≤ q) → i ≤ q
    by true e go = let is : i ≡ q = some_is i q e in omega (arith, is)
    by false e go = let more : suc i ≤ q = go e in omega (arith, more)

pub pick_place : (g : Passes) (t : Thing → Bool) (q n i : ℕ) (name : NameId) (pairs : List AttrPair) → ((j : ℕ) (x : Thing) → g ((0, j) ∷ []) x ≡ ((q == j) && t x)) → attribute_place name i pairs ≡ Some q →
    pick g (attribute_entries n i pairs) ≡ (if t (record { ref = ref.Attr (named n) name; kind = None; name = Some name }) then ref.Attr (named n) name ∷ [] else [])
pick_place g t q n i name [] is e = absurd (none-some q e)
pick_place g t q n i name (pair ∷ pairs) is e = elim (cases_eq pair.name.0 name.0) [
  | inl same ↦
      let at : i ≡ q = some_is i q (sym (ap (λ (b : Bool). if b then Some i else attribute_place name (suc i) pairs) (eq-eqb pair.name.0 name.0 same)) ∙ e) in
      let rest : pick g (attribute_entries n (suc i) pairs) ≡ [] = pick_behind g t q n (suc i) pairs is (omega (arith, at)) in
      let here : g ((0, i) ∷ []) (attribute_thing n pair) ≡ t (attribute_thing n pair) = is i (attribute_thing n pair) ∙ ap (λ (b : Bool). b && t (attribute_thing n pair)) (eq-eqb q i (sym at)) in
      (λ k. if here k then ref.Attr (named n) pair.name ∷ rest k else rest k)
      ∙ ap (λ (m : ℕ). if t (record { ref = ref.Attr (named n) (record { 0 = m }); kind = None; name = Some (record { 0 = m }) }) then ref.Attr (named n) (record { 0 = m }) ∷ [] else []) same
  | inr other ↦
      let later : attribute_place name (suc i) pairs ≡ Some q = sym (ap (λ (b : Bool). if b then Some i else attribute_place name (suc i) pairs) (ne_eqb pair.name.0 name.0 other)) ∙ e in
      let more : suc i ≤ q = place_from name (suc i) q pairs later in
      let never : g ((0, i) ∷ []) (attribute_thing n pair) ≡ false = is i (attribute_thing n pair) ∙ ap (λ (b : Bool). b && t (attribute_thing n pair)) (ne_eqb q i (λ e. absurd (omega (arith, more, e)))) in
      ap (λ (b : Bool). if b then ref.Attr (named n) pair.name ∷ pick g (attribute_entries n (suc i) pairs) else pick g (attribute_entries n (suc i) pairs)) never
      ∙ pick_place g t q n (suc i) name pairs is later
]

-- what is picked at and below the element, by the end of its attribute's path
and_no : (b : Bool) → (b && false) ≡ false
and_no true = refl
and_no false = refl

-- nothing below an attribute
pub nothing_below : (c : Path → Bool) → c [] ≡ false → (t : Thing → Bool) (q n : ℕ) (body : Body) (kids : Forest) → pick (downs (λ r x. c r && t x) (end_at q)) (own n body kids) ≡ []
nothing_below c none_left t q n body kids =
    let g : Passes = downs (λ r x. c r && t x) (end_at q) in
    own_through g n body kids (λ x. refl) (λ j x. attribute_no (q == j) x) ∙ pick_later g 0 (λ j m x less. refl) kids
  where
    attribute_no : (b : Bool) (x : Thing) → elim (if b then Some [] else None) [ None ↦ false | Some r ↦ c r && t x ] ≡ false
    attribute_no true x = ap (λ (b : Bool). b && t x) none_left
    attribute_no false x = refl

-- the attribute itself
pub alone_below : (c : Path → Bool) → c [] ≡ true → (t : Thing → Bool) (q n : ℕ) (name : NameId) (body : Body) (kids : Forest) → attribute_place name 0 (pairs_of body) ≡ Some q →
    pick (downs (λ r x. c r && t x) (end_at q)) (own n body kids) ≡ (if t (record { ref = ref.Attr (named n) name; kind = None; name = Some name }) then ref.Attr (named n) name ∷ [] else [])
alone_below c is t q n name body kids at_place =
    let g : Passes = downs (λ r x. c r && t x) (end_at q) in
    pick-append g (attribute_entries n 0 (pairs_of body)) (entries 0 kids)
    ∙ ap (λ (l : List NodeRef). pick g (attribute_entries n 0 (pairs_of body)) ++ l) (pick_later g 0 (λ j m x less. refl) kids)
    ∙ append-nil (pick g (attribute_entries n 0 (pairs_of body)))
    ∙ pick_place g t q n 0 name (pairs_of body) (λ j x. attribute_yes (q == j) x) at_place
  where
    attribute_yes : (b : Bool) (x : Thing) → elim (if b then Some [] else None) [ None ↦ false | Some r ↦ c r && t x ] ≡ (b && t x)
    attribute_yes true x = ap (λ (b : Bool). b && t x) is
    attribute_yes false x = refl

-- following: all below the element
pub follow_end : (t : Thing → Bool) (q n : ℕ) (body : Body) (kids : Forest) → pick (on axis.Following t (end_at q)) (own n body kids) ≡ took t (all_in kids)
follow_end t q n body kids =
    own_below (on axis.Following t (end_at q)) t n body kids (λ j x. refl) (λ j m x. ap (λ (b : Bool). b && t x) (all_of_three (ends_at_node ((1, j) ∷ m)) ∙ ends_below j m))

pub precede_end : (t : Thing → Bool) (q n : ℕ) (body : Body) (kids : Forest) → pick (on axis.Preceding t (end_at q)) (own n body kids) ≡ []
precede_end t q n body kids =
    own_through (on axis.Preceding t (end_at q)) n body kids (λ x. refl) (λ j x. refl)
    ∙ pick_later (on axis.Preceding t (end_at q)) 0 (λ j m x less. ap (λ (b : Bool). b && t x) (none_of_three (ends_at_node ((1, j) ∷ m)) true)) kids

-- the element is above its attribute
pub up_end : (c : Path → Bool) → c [] ≡ false → ((q : ℕ) → c (end_at q) ≡ true) → (t : Thing → Bool) (q n : ℕ) (body : Body) (kids : Forest) → pick (ups c t (end_at q)) (own n body kids) ≡ took_one t (n, body)
up_end c none_left is t q n body kids =
    let g : Passes = ups c t (end_at q) in
    own_front g n body kids (λ j x. ap (λ (b : Bool). b && t x) (attribute_no (j == q)))
    ∙ ap (λ (l : List NodeRef). (if g [] (node_thing n body) then ref.Node (named n) ∷ [] else []) ++ l) (pick_later g 0 (λ j m x less. refl) kids)
    ∙ append-nil (if g [] (node_thing n body) then ref.Node (named n) ∷ [] else [])
    ∙ ap (λ (b : Bool). if b && t (node_thing n body) then ref.Node (named n) ∷ [] else []) (is q)
  where
    attribute_no : (b : Bool) → elim (if b then Some [] else None) [ None ↦ false | Some r ↦ c r ] ≡ false
    attribute_no true = none_left
    attribute_no false = refl

-- the element and the attribute are above it or it
pub up_with : (t : Thing → Bool) (q n : ℕ) (name : NameId) (body : Body) (kids : Forest) → attribute_place name 0 (pairs_of body) ≡ Some q →
    pick (ups (λ r. true) t (end_at q)) (own n body kids) ≡ took_one t (n, body) ++ (if t (record { ref = ref.Attr (named n) name; kind = None; name = Some name }) then ref.Attr (named n) name ∷ [] else [])
up_with t q n name body kids at_place =
    let g : Passes = ups (λ r. true) t (end_at q) in
    put_front (t (node_thing n body)) (ref.Node (named n)) (pick g (attribute_entries n 0 (pairs_of body) ++ entries 0 kids))
    ∙ ap (λ (l : List NodeRef). took_one t (n, body) ++ l)
    (pick-append g (attribute_entries n 0 (pairs_of body)) (entries 0 kids)
    ∙ ap (λ (l : List NodeRef). pick g (attribute_entries n 0 (pairs_of body)) ++ l) (pick_later g 0 (λ j m x less. refl) kids)
    ∙ append-nil (pick g (attribute_entries n 0 (pairs_of body)))
    ∙ pick_place g t q n 0 name (pairs_of body) (λ j x. attribute_yes (j == q) x ∙ ap (λ (b : Bool). b && t x) (number_sym j q)) at_place)
  where
    attribute_yes : (b : Bool) (x : Thing) → (elim (if b then behind [] [] else None) [ None ↦ false | Some r ↦ true ] && t x) ≡ (b && t x)
    attribute_yes true x = refl
    attribute_yes false x = refl

singly : (b : Bool) (r : NodeRef) → reverse (if b then r ∷ [] else []) ≡ (if b then r ∷ [] else [])
singly true r = refl
singly false r = refl

-- an attribute has no siblings
pub no_siblings : (q i : ℕ) (way : Way) (m : Path) → are_siblings (path_at i way (end_at q)) m ≡ false
no_siblings q i (here before after) [] = refl
no_siblings q i (here before after) (b ∷ []) = refl
no_siblings q i (here before after) (b ∷ c ∷ []) = and_no (same_step (1, place i before) b)
no_siblings q i (here before after) (b ∷ c ∷ d ∷ m) = and_no (same_step (1, place i before) b)
no_siblings q i (inside before k outer after (here f g)) [] = refl
no_siblings q i (inside before k outer after (here f g)) (b ∷ []) = refl
no_siblings q i (inside before k outer after (here f g)) (b ∷ c ∷ m) = ap (λ (s : Bool). same_step (1, place i before) b && s) (no_siblings q 0 (here f g) (c ∷ m)) ∙ and_no (same_step (1, place i before) b)
no_siblings q i (inside before k outer after (inside f l o g way)) [] = refl
no_siblings q i (inside before k outer after (inside f l o g way)) (b ∷ []) = refl
no_siblings q i (inside before k outer after (inside f l o g way)) (b ∷ c ∷ m) = ap (λ (s : Bool). same_step (1, place i before) b && s) (no_siblings q 0 (inside f l o g way) (c ∷ m)) ∙ and_no (same_step (1, place i before) b)

far_above : (way : Way) (j q : ℕ) → is_any_step ((1, j) ∷ path_at 0 way (end_at q)) ≡ false
far_above (here before after) j q = refl
far_above (inside before k outer after way) j q = refl

none_above : (way : Way) (q : ℕ) → above_by is_any_step (end_at q) way ≡ []
none_above (here before after) q = refl
none_above (inside before k outer after (here f g)) q = none_above (here f g) q
none_above (inside before k outer after (inside f l o g way)) q =
    ap (λ (b : Bool). (if b then (k, outer) ∷ [] else []) ++ above_by is_any_step (end_at q) (inside f l o g way)) (far_above way (place 0 f) q) ∙ none_above (inside f l o g way) q

-- the axes that stay at and below the attribute
pub down_end : (table : List NameParts) (along : Axis) (t : NodeTest) (source : Source) (n q : ℕ) (s : Stands source n) (c : Path → Bool) → ((p m : Path) → meets along p m ≡ down c p m) →
    pick (on along (tested table along t) (path_at 0 s.way (end_at q))) (entries 0 (plug s.way n s.body s.kids)) ≡ pick (downs (λ r x. c r && tested table along t x) (end_at q)) (own n s.body s.kids)
down_end table along t source n q s c same =
    let p : Path = path_at 0 s.way (end_at q) in
    pick_same (on along (tested table along t) p) (downs (λ r x. c r && tested table along t x) p)
    (λ m x. ap (λ (b : Bool). b && tested table along t x) (same p m) ∙ down-downs c (tested table along t) p m x) (entries 0 (plug s.way n s.body s.kids))
    ∙ down_picks (λ r x. c r && tested table along t x) (end_at q) 0 s.way n s.body s.kids

-- from an attribute that is there: the attribute itself, where the axis begins with it, and these nodes
pub record FromIt (along : Axis) (source : Source) (n : ℕ) (name : NameId) (nodes : List NodeName) : Type 0 where
  pub listed : List (ℕ × Body)
  pub names_are : nodes ≡ node_names listed
  pub there : AreThere source listed
  pub axis_is : (table : List NameParts) (t : NodeTest) → axis_of table along t source (ref.Attr (named n) name) ≡ self_on table along t (named n) name ++ took (tested table along t) listed

nothing_from : (along : Axis) (source : Source) (n : ℕ) (name : NameId) → ((table : List NameParts) (t : NodeTest) → axis_of table along t source (ref.Attr (named n) name) ≡ self_on table along t (named n) name) → FromIt along source n name []
nothing_from along source n name is = record {
  listed = [];
  names_are = refl;
  there = tt;
  axis_is = λ table t. is table t ∙ sym (append-nil (self_on table along t (named n) name));
}

module _ (names : List NameParts) (source : Source) (n q : ℕ) (name : NameId) (s : Stands source n) (at_place : attribute_place name 0 (pairs_of s.body) ≡ Some q) (proper : IsProper names source) where
  pub from_child : FromIt axis.Child source n name []
  from_child = nothing_from axis.Child source n name (λ table t.
      attribute_at table axis.Child t source n name q s [] at_place
      (down_end table axis.Child t source n q s (is_step 1) (λ p m. refl) ∙ nothing_below (is_step 1) refl (tested table axis.Child t) q n s.body s.kids))

  pub from_attribute : FromIt axis.Attribute source n name []
  from_attribute = nothing_from axis.Attribute source n name (λ table t.
      attribute_at table axis.Attribute t source n name q s [] at_place
      (down_end table axis.Attribute t source n q s (is_step 0) (λ p m. refl) ∙ nothing_below (is_step 0) refl (tested table axis.Attribute t) q n s.body s.kids))

  pub from_descendant : FromIt axis.Descendant source n name []
  from_descendant = nothing_from axis.Descendant source n name (λ table t.
      attribute_at table axis.Descendant t source n name q s [] at_place
      (down_end table axis.Descendant t source n q s and_below below_behind ∙ nothing_below and_below refl (tested table axis.Descendant t) q n s.body s.kids))

  pub from_self : FromIt axis.Itself source n name []
  from_self = nothing_from axis.Itself source n name (λ table t.
      attribute_at table axis.Itself t source n name q s (taken_attribute table axis.Itself t (named n) name) at_place
      (down_end table axis.Itself t source n q s is_empty (λ p m. refl) ∙ alone_below is_empty refl (tested table axis.Itself t) q n name s.body s.kids at_place))

  pub from_below_or_self : FromIt axis.DescendantOrSelf source n name []
  from_below_or_self = nothing_from axis.DescendantOrSelf source n name (λ table t.
      attribute_at table axis.DescendantOrSelf t source n name q s (taken_attribute table axis.DescendantOrSelf t (named n) name) at_place
      (down_end table axis.DescendantOrSelf t source n q s (λ r. is_empty r || and_below r) (λ p m. ap (λ (b : Bool). down is_empty p m || b) (below_behind p m) ∙ or_down is_empty and_below p m)
      ∙ alone_below (λ r. is_empty r || and_below r) refl (tested table axis.DescendantOrSelf t) q n name s.body s.kids at_place))

  pub from_siblings_behind : FromIt axis.FollowingSibling source n name []
  from_siblings_behind = nothing_from axis.FollowingSibling source n name (λ table t.
      let p : Path = path_at 0 s.way (end_at q) in
      attribute_at table axis.FollowingSibling t source n name q s [] at_place
      (pick_false (on axis.FollowingSibling (tested table axis.FollowingSibling t) p)
      (λ m x. ap (λ (b : Bool). (b && is_before p m) && tested table axis.FollowingSibling t x) (no_siblings q 0 s.way m)) (entries 0 (plug s.way n s.body s.kids))))

  pub from_siblings_before : FromIt axis.PrecedingSibling source n name []
  from_siblings_before = nothing_from axis.PrecedingSibling source n name (λ table t.
      let p : Path = path_at 0 s.way (end_at q) in
      attribute_at table axis.PrecedingSibling t source n name q s [] at_place
      (pick_false (on axis.PrecedingSibling (tested table axis.PrecedingSibling t) p)
      (λ m x. ap (λ (b : Bool). (b && is_before m p) && tested table axis.PrecedingSibling t x) (no_siblings q 0 s.way m)) (entries 0 (plug s.way n s.body s.kids))))

  itself_there : IsThere source (n, s.body)
  itself_there = (record { up = s.stood.end.there.0; body = s.body; kids = s.kids }, s.stood.end.there.1, refl)

  pub from_following : FromIt axis.Following source n name (below source levels (kids_at source (named n)) ++ outward axis.Following source levels (named n))
  from_following =
      let kids : List NodeName = kids_at source (named n) in
      let below_is : below source levels kids ≡ node_names (all_in s.kids) =
      ap (below source levels) (kids_of_it names source n s proper) ∙ below_all names source (Some n) levels s.kids proper s.stood.end.part.placed s.stood.end.part.low in
      let out_is = walked axis.Following source levels n s.ls s.stood.climbs in
      let behind : List (ℕ × Body) = flat_map (found axis.Following) (take levels s.ls) in
      record {
        listed = all_in s.kids ++ behind;
        names_are = (λ i. below_is i ++ out_is i) ∙ sym (map-append node_name (all_in s.kids) behind);
        there = there-append source (all_in s.kids) behind (all_there source (Some n) s.kids s.stood.end.part.placed) (levels_there axis.Following source levels n s.ls s.stood.climbs);
        axis_is = λ table test.
            let t : Thing → Bool = tested table axis.Following test in
            attribute_at table axis.Following test source n name q s (took t (all_in s.kids) ++ took t (follow_of s.way)) at_place
            (follow_picks t (end_at q) 0 s.way n s.body s.kids ∙ ap (λ (l : List NodeRef). l ++ took t (follow_of s.way)) (follow_end t q n s.body s.kids))
            ∙ ap (λ (l : List (ℕ × Body)). took t (all_in s.kids) ++ took t l) (s.follow ∙ all_levels axis.Following source n s) ∙ sym (took-append t (all_in s.kids) behind);
      }

  pub from_preceding : FromIt axis.Preceding source n name (outward axis.Preceding source levels (named n))
  from_preceding = record {
    listed = flat_map (found axis.Preceding) (take levels s.ls);
    names_are = walked axis.Preceding source levels n s.ls s.stood.climbs;
    there = levels_there axis.Preceding source levels n s.ls s.stood.climbs;
    axis_is = λ table test.
        let t : Thing → Bool = tested table axis.Preceding test in
        attribute_at table axis.Preceding test source n name q s (took t (precede_of s.way)) at_place
        (precede_picks t (end_at q) 0 s.way n s.body s.kids ∙ ap (λ (l : List NodeRef). took t (precede_of s.way) ++ l) (precede_end t q n s.body s.kids) ∙ append-nil (took t (precede_of s.way)))
        ∙ took_reverse t (precede_of s.way) ∙ ap (took t) (s.precede ∙ all_levels axis.Preceding source n s);
  }

  pub from_ancestor : FromIt axis.Ancestor source n name (named n ∷ outward axis.Ancestor source levels (named n))
  from_ancestor =
      let one : List (ℕ × Body) = (n, s.body) ∷ [] in
      let above : List (ℕ × Body) = above_by is_below (end_at q) s.way in
      record {
        listed = (n, s.body) ∷ flat_map (found axis.Ancestor) (take levels s.ls);
        names_are = ap (λ (l : List NodeName). named n ∷ l) (walked axis.Ancestor source levels n s.ls s.stood.climbs);
        there = (itself_there, levels_there axis.Ancestor source levels n s.ls s.stood.climbs);
        axis_is = λ table test.
            let t : Thing → Bool = tested table axis.Ancestor test in
            attribute_at table axis.Ancestor test source n name q s (took t (above ++ one)) at_place
            (up_picks is_below t (end_at q) 0 s.way n s.body s.kids ∙ ap (λ (l : List NodeRef). took t above ++ l) (up_end is_below refl (λ q. refl) t q n s.body s.kids ∙ sym (append-nil (took_one t (n, s.body))))
            ∙ sym (took-append t above one))
            ∙ took_reverse t (above ++ one)
            ∙ ap (took t) (reverse-append above one ∙ ap (λ (l : List (ℕ × Body)). (n, s.body) ∷ l) (ap (λ (l : List (ℕ × Body)). reverse l) (s.above (end_at q)) ∙ reverse-reverse (overs s.ls) ∙ all_levels axis.Ancestor source n s));
      }

  pub from_parent : FromIt axis.Parent source n name (named n ∷ [])
  from_parent = record {
    listed = (n, s.body) ∷ [];
    names_are = refl;
    there = (itself_there, tt);
    axis_is = λ table test.
        let t : Thing → Bool = tested table axis.Parent test in
        attribute_at table axis.Parent test source n name q s (took t ((n, s.body) ∷ [])) at_place
        (up_picks is_any_step t (end_at q) 0 s.way n s.body s.kids
        ∙ (λ i. took t (none_above s.way q i) ++ up_end is_any_step refl (λ q. refl) t q n s.body s.kids i) ∙ sym (append-nil (took_one t (n, s.body))));
  }

  pub from_ancestor_or_self : FromIt axis.AncestorOrSelf source n name (named n ∷ outward axis.AncestorOrSelf source levels (named n))
  from_ancestor_or_self =
      let above : List (ℕ × Body) = above_by is_below (end_at q) s.way in
      record {
        listed = (n, s.body) ∷ flat_map (found axis.AncestorOrSelf) (take levels s.ls);
        names_are = ap (λ (l : List NodeName). named n ∷ l) (walked axis.AncestorOrSelf source levels n s.ls s.stood.climbs);
        there = (itself_there, levels_there axis.AncestorOrSelf source levels n s.ls s.stood.climbs);
        axis_is = λ table test.
            let t : Thing → Bool = tested table axis.AncestorOrSelf test in
            let p : Path = path_at 0 s.way (end_at q) in
            let it : List NodeRef = taken_attribute table axis.AncestorOrSelf test (named n) name in
            let one : List NodeRef = took_one t (n, s.body) in
            attribute_at table axis.AncestorOrSelf test source n name q s (took t above ++ (one ++ it)) at_place
            (pick_same (on axis.AncestorOrSelf t p) (ups (λ r. true) t p) (λ m x. ap (λ (b : Bool). b && t x) (up_or_same p m)) (entries 0 (plug s.way n s.body s.kids))
            ∙ up_picks (λ r. true) t (end_at q) 0 s.way n s.body s.kids ∙ (λ i. took t (all_above (end_at q) s.way i) ++ up_with t q n name s.body s.kids at_place i))
            ∙ reverse-append (took t above) (one ++ it)
            ∙ (λ i. (reverse-append one it ∙ (λ k. singly (takes table axis.AncestorOrSelf test None (Some name)) (ref.Attr (named n) name) k ++ singly (t (node_thing n s.body)) (ref.Node (named n)) k)) i ++ took_reverse t above i)
            ∙ append_assoc it one (took t (reverse above))
            ∙ ap (λ (l : List (ℕ × Body)). it ++ (one ++ took t l)) (ap (λ (l : List (ℕ × Body)). reverse l) (s.above (end_at q)) ∙ reverse-reverse (overs s.ls) ∙ all_levels axis.AncestorOrSelf source n s);
      }
