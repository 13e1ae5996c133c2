-- The axes that stay at and below a node: what is picked by what paths have behind its own.
use Rattle.std.proofs.Common.{◌≡◌, ℕ, suc, ◌==◌, ◌&&◌, ◌||◌, ◌++◌, inl, inr, Bool, true, false, List, [], ◌∷◌, take, reverse, Option, Some, None, if◌then◌else◌, refl, sym, ap, ◌∙◌, arith}
use Rattle.std.specs.List.{flat_map}
use Rattle.std.proofs.lemmas.List.{append-nil, reverse-append, reverse-reverse}
use Rattle.std.proofs.lemmas.Bool.{cases_eq, ne_eqb, eq-eqb}
use Rattle.serna_kinds.specs.declared.cells.NodeName.{NodeName}
use Rattle.serna_kinds.specs.declared.cells.NodeRef.{NodeRef}
use Rattle.serna_kinds.specs.declared.cells.NodeRef.TheVariants as ref
use Rattle.serna_kinds.specs.declared.expressions.Axis.{Axis}
use Rattle.serna_kinds.specs.declared.expressions.Axis.TheVariants as axis
use Rattle.serna_kinds.specs.declared.expressions.NodeTest.{NodeTest}
use Rattle.serna_kinds.specs.Names.{NameParts}
use Rattle.source_model.specs.Source.{Body, Forest, none, node, Source}
use Rattle.source_model.specs.Cells.{Spot, named}
use Rattle.source_model.specs.Changes.{beside}
use Rattle.source_model.specs.Proper.{IsProper}
use Rattle.source_model.specs.Paths.{Path, Thing, node_thing, entries, behind, same_step}
use Rattle.source_model.specs.Axes.{tested, pick, meets, down, is_empty, is_step, is_below, ends_at_node}
use Rattle.source_model.proofs.Children.{Passes, own, pick_same, pick_later, IsGone, downs, down-downs, heads, children_of_own}
use Rattle.xpath_axes.specs.Nodes.{kids_at, children_of}
use Rattle.xpath_axes.specs.Walks.{levels, below, outward}
use Rattle.xpath_axes.proofs.Ways.{Way, here, inside, plug, place, path_at, all_in, heads_in, took_one, took, took-append, pick_split, none_early, pick_late, nodes_pass, heads_pass, own_front, own_through, all_entries, ends_below}
use Rattle.xpath_axes.proofs.Outside.{on, ups, up_picks, above_by}
use Rattle.xpath_axes.proofs.Placed.{node_names, all_there, heads_there, kids_are, below_all}
use Rattle.xpath_axes.proofs.Levels.{found, walked, overs}
use Rattle.xpath_axes.proofs.Stands.{Stands, stands}
use Rattle.xpath_axes.proofs.NodeAxes.{OnAxis, axis_at, nothing_on, took_reverse, levels_there, all_levels}

down_other : (f : Passes) (p m : Path) (j k : ℕ) (x : Thing) → (j ≡ k → ⊥) → downs f ((1, j) ∷ p) ((1, k) ∷ m) x ≡ false
down_other f p m j k x other = ap (λ (b : Bool). elim (if b then behind p m else None) [ None ↦ false | Some q ↦ f q x ]) (ne_eqb j k other)

down_same : (f : Passes) (p m : Path) (j : ℕ) (x : Thing) → downs f ((1, j) ∷ p) ((1, j) ∷ m) x ≡ downs f p m x
down_same f p m j x = ap (λ (b : Bool). elim (if b then behind p m else None) [ None ↦ false | Some q ↦ f q x ]) (eq-eqb j j refl)

down_level : (f : Passes) (p : Path) (i : ℕ) (before : Forest) (k : ℕ) (body : Body) (kids after : Forest) →
    pick (downs f ((1, place i before) ∷ p)) (entries i (beside before (node k body kids after))) ≡ pick (downs f p) (own k body kids)
down_level f p i before k body kids after =
    let j : ℕ = place i before in
    let g : Passes = downs f ((1, j) ∷ p) in
    let early : pick g (entries i before) ≡ [] = none_early g i before (λ k m x less. down_other f p m j k x (λ e. absurd (omega (arith, less, e)))) in
    let at : pick (λ m. g ((1, j) ∷ m)) (own k body kids) ≡ pick (downs f p) (own k body kids) = pick_same (λ m. g ((1, j) ∷ m)) (downs f p) (λ m x. down_same f p m j x) (own k body kids) in
    let late : pick g (entries (suc j) after) ≡ [] = pick_later g (suc j) (λ k m x less. down_other f p m j k x (λ e. absurd (omega (arith, less, e)))) after in
    pick_split g i before k body kids after ∙ (λ q. early q ++ (at q ++ late q)) ∙ append-nil (pick (downs f p) (own k body kids))

not_at : (f : Passes) (way : Way) (e : Path) (x : Thing) → downs f (path_at 0 way e) [] x ≡ false
not_at f (here before after) e x = refl
not_at f (inside before k outer after way) e x = refl

no_attribute : (f : Passes) (way : Way) (e : Path) (j : ℕ) (x : Thing) → downs f (path_at 0 way e) ((0, j) ∷ []) x ≡ false
no_attribute f (here before after) e j x = refl
no_attribute f (inside before k outer after way) e j x = refl

-- what has a path that goes on from a node's is at and below the node
pub down_picks : (f : Passes) (e : Path) (i : ℕ) (way : Way) (n : ℕ) (body : Body) (kids : Forest) →
    pick (downs f (path_at i way e)) (entries i (plug way n body kids)) ≡ pick (downs f e) (own n body kids)
down_picks f e i (here before after) n body kids = down_level f e i before n body kids after
down_picks f e i (inside before k outer after way) n body kids =
    down_level f (path_at 0 way e) i before k outer (plug way n body kids) after
    ∙ own_through (downs f (path_at 0 way e)) k outer (plug way n body kids) (not_at f way e) (no_attribute f way e) ∙ down_picks f e 0 way n body kids

-- the axes' conditions, by what a path has behind the node's
abbrev pub and_below : Path → Bool
and_below q = is_below q && ends_at_node q

no_end : (p : Path) (b : ℕ × ℕ) → (down is_below p [] && ends_at_node (b ∷ [])) ≡ (down is_below p [] && true)
no_end [] b = refl
no_end (s ∷ p) b = refl

end_further : (p q : Path) (b : ℕ × ℕ) → (down is_below p q && ends_at_node (b ∷ q)) ≡ (down is_below p q && ends_at_node q)
end_further p [] b = no_end p b
end_further p (s ∷ q) b = refl

by_first : (p q : Path) (b : ℕ × ℕ) (s : Bool) → (down is_below p q && ends_at_node q) ≡ down and_below p q →
    (elim (if s then behind p q else None) [ None ↦ false | Some r ↦ is_below r ] && ends_at_node (b ∷ q)) ≡ elim (if s then behind p q else None) [ None ↦ false | Some r ↦ and_below r ]
by_first p q b true h = end_further p q b ∙ h
by_first p q b false h = refl

pub below_behind : (p m : Path) → (down is_below p m && ends_at_node m) ≡ down and_below p m
below_behind [] m = refl
below_behind (a ∷ p) [] = refl
below_behind (a ∷ p) (b ∷ q) = by_first p q b (same_step a b) (below_behind p q)

-- of a node and what is below it, where attributes do not pass, and what is below passes as it does
pub own_below : (g : Passes) (t : Thing → Bool) (n : ℕ) (body : Body) (kids : Forest) → ((j : ℕ) (x : Thing) → g ((0, j) ∷ []) x ≡ false) → ((j : ℕ) (m : Path) (x : Thing) → g ((1, j) ∷ m) x ≡ nodes_pass t m x) →
    pick g (own n body kids) ≡ (if g [] (node_thing n body) then ref.Node (named n) ∷ [] else []) ++ took t (all_in kids)
own_below g t n body kids never same =
    own_front g n body kids never
    ∙ ap (λ (l : List NodeRef). (if g [] (node_thing n body) then ref.Node (named n) ∷ [] else []) ++ l)
    (pick_late g (nodes_pass t) 0 kids (λ j m x less. same j m x) ∙ all_entries t 0 kids)

-- an axis whose condition is one on what a path has behind the node's
pub axis_down : (table : List NameParts) (along : Axis) (test : NodeTest) (source : Source) (n : ℕ) (s : Stands source n) (cond : Path → Bool) (way : List NodeRef) →
    ((m : Path) → meets along (path_at 0 s.way []) m ≡ down cond (path_at 0 s.way []) m) → pick (λ q x. cond q && tested table along test x) (own n s.body s.kids) ≡ way →
    pick (on along (tested table along test) (path_at 0 s.way [])) (entries 0 (plug s.way n s.body s.kids)) ≡ way
axis_down table along test source n s cond way same is =
    let t : Thing → Bool = tested table along test in
    let p : Path = path_at 0 s.way [] in
    pick_same (on along t p) (downs (λ q x. cond q && t x) p) (λ m x. ap (λ (b : Bool). b && t x) (same m) ∙ down-downs cond t p m x) (entries 0 (plug s.way n s.body s.kids))
    ∙ down_picks (λ q x. cond q && t x) [] 0 s.way n s.body s.kids ∙ is

heads_took : (t : Thing → Bool) (f : Forest) → heads t f ≡ took t (heads_in f)
heads_took t none = refl
heads_took t (node n body kids rest) = ap (λ (l : List NodeRef). took_one t (n, body) ++ l) (heads_took t rest)

pub kids_of_it : (names : List NameParts) (source : Source) (n : ℕ) (s : Stands source n) → IsProper names source → kids_at source (named n) ≡ node_names (heads_in s.kids)
kids_of_it names source n s proper = kids_are names source n (record { up = s.stood.end.there.0; body = s.body; kids = s.kids }) proper s.stood.end.there.1

pub kids_gone : (source : Source) (n : ℕ) → IsGone None n 0 source.tree → kids_at source (named n) ≡ []
kids_gone source n gone = ap (λ (o : Option Spot). elim o [ None ↦ [] | Some spot ↦ children_of spot ]) gone.spot_is

pub child_on : (names : List NameParts) (source : Source) (n : ℕ) → IsProper names source → OnAxis axis.Child source n (kids_at source (named n))
child_on names source n proper = elim (stands names source n proper) [
  | inl s ↦ record {
    listed = heads_in s.kids;
    names_are = kids_of_it names source n s proper;
    there = heads_there source (Some n) s.kids s.stood.end.part.placed;
    axis_is = λ table test.
        axis_at table axis.Child test source n s (took (tested table axis.Child test) (heads_in s.kids))
        (axis_down table axis.Child test source n s (is_step 1) (took (tested table axis.Child test) (heads_in s.kids)) (λ m. refl)
        (children_of_own (tested table axis.Child test) n s.body s.kids ∙ heads_took (tested table axis.Child test) s.kids));
  }
  | inr gone ↦ nothing_on axis.Child source n (kids_at source (named n)) gone (kids_gone source n gone)
]

pub descendant_on : (names : List NameParts) (source : Source) (n : ℕ) → IsProper names source → OnAxis axis.Descendant source n (below source levels (kids_at source (named n)))
descendant_on names source n proper = elim (stands names source n proper) [
  | inl s ↦ record {
    listed = all_in s.kids;
    names_are = ap (below source levels) (kids_of_it names source n s proper) ∙ below_all names source (Some n) levels s.kids proper s.stood.end.part.placed s.stood.end.part.low;
    there = all_there source (Some n) s.kids s.stood.end.part.placed;
    axis_is = λ table test.
        let t : Thing → Bool = tested table axis.Descendant test in
        axis_at table axis.Descendant test source n s (took t (all_in s.kids))
        (axis_down table axis.Descendant test source n s and_below (took t (all_in s.kids)) (λ m. below_behind (path_at 0 s.way []) m)
        (own_below (λ q x. and_below q && t x) t n s.body s.kids (λ j x. refl) (λ j m x. ap (λ (b : Bool). b && t x) (ends_below j m))));
  }
  | inr gone ↦ nothing_on axis.Descendant source n (below source levels (kids_at source (named n))) gone (ap (below source levels) (kids_gone source n gone))
]

-- the node itself
pub or_down : (c d : Path → Bool) (p m : Path) → (down c p m || down d p m) ≡ down (λ q. c q || d q) p m
or_down c d p m = by (behind p m)
  where
    by : (o : Option Path) → (elim o [ None ↦ false | Some q ↦ c q ] || elim o [ None ↦ false | Some q ↦ d q ]) ≡ elim o [ None ↦ false | Some q ↦ c q || d q ]
    by None = refl
    by (Some q) = refl

own_alone : (t : Thing → Bool) (n : ℕ) (body : Body) (kids : Forest) → pick (heads_pass t) (own n body kids) ≡ took t ((n, body) ∷ [])
own_alone t n body kids =
    own_front (heads_pass t) n body kids (λ j x. refl) ∙ ap (λ (l : List NodeRef). took_one t (n, body) ++ l) (pick_later (heads_pass t) 0 (λ j m x less. refl) kids)

pub self_at : (source : Source) (n : ℕ) → Stands source n → OnAxis axis.Itself source n (named n ∷ [])
self_at source n s = record {
  listed = (n, s.body) ∷ [];
  names_are = refl;
  there = ((record { up = s.stood.end.there.0; body = s.body; kids = s.kids }, s.stood.end.there.1, refl), tt);
  axis_is = λ table test.
      let t : Thing → Bool = tested table axis.Itself test in
      axis_at table axis.Itself test source n s (took t ((n, s.body) ∷ []))
      (axis_down table axis.Itself test source n s is_empty (took t ((n, s.body) ∷ [])) (λ m. refl) (own_alone t n s.body s.kids));
}

pub below_or_self_at : (names : List NameParts) (source : Source) (n : ℕ) → IsProper names source → Stands source n → OnAxis axis.DescendantOrSelf source n (named n ∷ below source levels (kids_at source (named n)))
below_or_self_at names source n proper s = record {
  listed = (n, s.body) ∷ all_in s.kids;
  names_are = ap (λ (l : List NodeName). named n ∷ l)
      (ap (below source levels) (kids_of_it names source n s proper) ∙ below_all names source (Some n) levels s.kids proper s.stood.end.part.placed s.stood.end.part.low);
  there = ((record { up = s.stood.end.there.0; body = s.body; kids = s.kids }, s.stood.end.there.1, refl), all_there source (Some n) s.kids s.stood.end.part.placed);
  axis_is = λ table test.
      let t : Thing → Bool = tested table axis.DescendantOrSelf test in
      let p : Path = path_at 0 s.way [] in
      axis_at table axis.DescendantOrSelf test source n s (took t ((n, s.body) ∷ all_in s.kids))
      (axis_down table axis.DescendantOrSelf test source n s (λ q. is_empty q || and_below q) (took t ((n, s.body) ∷ all_in s.kids))
      (λ m. ap (λ (b : Bool). down is_empty p m || b) (below_behind p m) ∙ or_down is_empty and_below p m)
      (own_below (λ q x. (is_empty q || and_below q) && t x) t n s.body s.kids (λ j x. refl) (λ j m x. ap (λ (b : Bool). b && t x) (ends_below j m))));
}

-- the nodes above and the node itself are those whose path is one that the node's begins with
pub number_sym : (a b : ℕ) → (a == b) ≡ (b == a)
number_sym a b = elim (cases_eq a b) [ inl e ↦ eq-eqb a b e ∙ sym (eq-eqb b a (sym e)) | inr other ↦ ne_eqb a b other ∙ sym (ne_eqb b a (λ e. other (sym e))) ]

step_sym : (a b : ℕ × ℕ) → same_step a b ≡ same_step b a
step_sym a b = λ i. number_sym a.0 b.0 i && number_sym a.1 b.1 i

up_step : (p q : Path) (s : Bool) → (down is_empty p q || down is_below q p) ≡ down (λ r. true) q p →
    (elim (if s then behind p q else None) [ None ↦ false | Some r ↦ is_empty r ] || elim (if s then behind q p else None) [ None ↦ false | Some r ↦ is_below r ])
    ≡ elim (if s then behind q p else None) [ None ↦ false | Some r ↦ true ]
up_step p q true h = h
up_step p q false h = refl

pub up_or_same : (n m : Path) → (down is_empty n m || down is_below m n) ≡ down (λ r. true) m n
up_or_same [] [] = refl
up_or_same [] (b ∷ q) = refl
up_or_same (a ∷ p) [] = refl
up_or_same (a ∷ p) (b ∷ q) =
    ap (λ (s : Bool). elim (if s then behind p q else None) [ None ↦ false | Some r ↦ is_empty r ] || elim (if same_step b a then behind q p else None) [ None ↦ false | Some r ↦ is_below r ]) (step_sym a b)
    ∙ up_step p q (same_step b a) (up_or_same p q)

pub all_above : (e : Path) (way : Way) → above_by (λ r. true) e way ≡ above_by is_below e way
all_above e (here before after) = refl
all_above e (inside before k outer after (here b a)) = refl
all_above e (inside before k outer after (inside b l o a way)) = ap (λ (l : List (ℕ × Body)). (k, outer) ∷ l) (all_above e (inside b l o a way))

own_end : (t : Thing → Bool) (n : ℕ) (body : Body) (kids : Forest) → pick (ups (λ r. true) t []) (own n body kids) ≡ took t ((n, body) ∷ [])
own_end t n body kids = own_front (ups (λ r. true) t []) n body kids (λ j x. refl) ∙ ap (λ (l : List NodeRef). took_one t (n, body) ++ l) (pick_later (ups (λ r. true) t []) 0 (λ j m x less. refl) kids)

pub above_or_self_at : (source : Source) (n : ℕ) → Stands source n → OnAxis axis.AncestorOrSelf source n (named n ∷ outward axis.AncestorOrSelf source levels (named n))
above_or_self_at source n s = record {
  listed = (n, s.body) ∷ flat_map (found axis.AncestorOrSelf) (take levels s.ls);
  names_are = ap (λ (l : List NodeName). named n ∷ l) (walked axis.AncestorOrSelf source levels n s.ls s.stood.climbs);
  there = ((record { up = s.stood.end.there.0; body = s.body; kids = s.kids }, s.stood.end.there.1, refl), levels_there axis.AncestorOrSelf source levels n s.ls s.stood.climbs);
  axis_is = λ table test.
      let t : Thing → Bool = tested table axis.AncestorOrSelf test in
      let p : Path = path_at 0 s.way [] in
      let above : List (ℕ × Body) = above_by is_below [] s.way in
      let one : List (ℕ × Body) = (n, s.body) ∷ [] in
      axis_at table axis.AncestorOrSelf test source n s (took t (above ++ one))
      (pick_same (on axis.AncestorOrSelf t p) (ups (λ r. true) t p) (λ m x. ap (λ (b : Bool). b && t x) (up_or_same p m)) (entries 0 (plug s.way n s.body s.kids))
      ∙ up_picks (λ r. true) t [] 0 s.way n s.body s.kids ∙ (λ q. took t (all_above [] s.way q) ++ own_end t n s.body s.kids q) ∙ sym (took-append t above one))
      ∙ took_reverse t (above ++ one)
      ∙ ap (took t) (reverse-append above one ∙ ap (λ (l : List (ℕ × Body)). (n, s.body) ∷ l) (ap (λ (l : List (ℕ × Body)). reverse l) (s.above []) ∙ reverse-reverse (overs s.ls) ∙ all_levels axis.AncestorOrSelf source n s));
}
