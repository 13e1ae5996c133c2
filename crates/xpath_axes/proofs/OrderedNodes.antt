-- The nodes of a list that are in a source, each once, by their paths, are those of its enumeration.
use Rattle.std.proofs.Common.{◌≡◌, ℕ, ◌+◌, ◌<◌, ◌==◌, ◌&&◌, ◌||◌, ◌⊎◌, inl, inr, Bool, true, false, List, [], ◌∷◌, ◌++◌, take, length, get_or, Option, Some, None, if◌then◌else◌, refl, sym, ap, subst, ◌∙◌, true≢false}
use Rattle.std.specs.List.{AllByRecursion, list_any}
use Rattle.std.proofs.lemmas.Bool.{eq-eqb, eqb-true}
use Rattle.std.proofs.lemmas.List.Sorted.{sorted_far, Contains-permutation, IsPermutation-sym}
use Rattle.std.proofs.lemmas.List.{take_more, flat_map_more}
use Rattle.std.proofs.lemmas.Option.{none-some}
use Rattle.serna_kinds.specs.declared.cells.NameId.{NameId}
use Rattle.serna_kinds.specs.declared.cells.NodeName.{NodeName}
use Rattle.serna_kinds.specs.declared.cells.NodeRef.{NodeRef}
use Rattle.serna_kinds.specs.declared.cells.NodeRef.TheVariants as ref
use Rattle.serna_kinds.specs.declared.expressions.Axis.TheVariants as axis
use Rattle.serna_kinds.specs.declared.expressions.NodeTest.TheVariants as test
use Rattle.serna_kinds.specs.Names.{NameParts}
use Rattle.source_model.specs.Source.{Source}
use Rattle.source_model.specs.Cells.{spot_of}
use Rattle.source_model.specs.Proper.{IsProper}
use Rattle.source_model.specs.Paths.{Path, Entry, entries_of, path_of, path_in, attribute_place, is_before}
use Rattle.source_model.specs.Axes.{tested, pick, in_order, meets}
use Rattle.source_model.specs.DocumentOrder.{AreInOrder, comes_before, is_path_before, is_earlier, is_same_ref, has_ref, ordered}
use Rattle.source_model.specs.Logged.{every}
use Rattle.source_model.proofs.Children.{Passes}
use Rattle.source_model.proofs.Ordered.{IsIn, all_in, in_contained, contained, same_from_members}
use Rattle.source_model.proofs.PathOrder.{not_before_itself, in_order_entries, earlier_strict}
use Rattle.source_model.proofs.Placed.{entries_placed}
use Rattle.xpath_axes.specs.Nodes.{attributes_at}
use Rattle.xpath_axes.specs.declared.order.Placed.{Placed}
use Rattle.xpath_axes.specs.Ordered.{stands_before, placed_by, placed_one, placed_in, each_once, AreSortedFrom}
use Rattle.xpath_axes.proofs.AttributeAxes.{found_from, path_without}
use Rattle.xpath_axes.proofs.Inward.{self_at}
use Rattle.xpath_axes.proofs.OrderLemmas.{placed-ranks, Rises, rises_far, all_of_in, once_in, once_keeps, once_in_order}
use Rattle.xpath_axes.proofs.Stands.{stands}
use Rattle.xpath_axes.proofs.Totals.{every_on}
use Rattle.xpath_axes.proofs.Ways.{took}

-- the entries that are picked
pub pick_in : (passes : Passes) (r : NodeRef) (es : List Entry) → IsIn r (pick passes es) → (e : Entry) × IsIn e es × (passes e.path e.thing ≡ true) × (e.thing.ref ≡ r)
pick_in passes r [] is = absurd is
pick_in passes r (e ∷ es) is = by (passes e.path e.thing) refl is (pick_in passes r es)
  where
    by : (b : Bool) → passes e.path e.thing ≡ b → IsIn r (if b then e.thing.ref ∷ pick passes es else pick passes es) → (IsIn r (pick passes es) → (f : Entry) × IsIn f es × (passes f.path f.thing ≡ true) × (f.thing.ref ≡ r)) →
        (f : Entry) × IsIn f (e ∷ es) × (passes f.path f.thing ≡ true) × (f.thing.ref ≡ r)
    by true so (inl same) go = (e, inl refl, so, same)
    by true so (inr more) go = let found = go more in (found.0, inr found.1, found.2, found.3)
    by false so more go = let found = go more in (found.0, inr found.1, found.2, found.3)

pub in_pick : (passes : Passes) (e : Entry) (es : List Entry) → IsIn e es → passes e.path e.thing ≡ true → IsIn e.thing.ref (pick passes es)
in_pick passes e [] is so = absurd is
in_pick passes e (f ∷ es) (inl same) so =
    subst (λ (x : Entry). IsIn x.thing.ref (pick passes (f ∷ es))) same
    (subst (λ (b : Bool). IsIn f.thing.ref (if b then f.thing.ref ∷ pick passes es else pick passes es)) (sym (ap (λ (x : Entry). passes x.path x.thing) same ∙ so)) (inl refl))
in_pick passes e (f ∷ es) (inr there) so = by (passes f.path f.thing) (in_pick passes e es there so)
  where
    by : (b : Bool) → IsIn e.thing.ref (pick passes es) → IsIn e.thing.ref (if b then f.thing.ref ∷ pick passes es else pick passes es)
    by true is = inr is
    by false is = is

pub pick_in_order : (source : Source) (passes : Passes) (es : List Entry) → AreInOrder comes_before es → AllByRecursion (λ (e : Entry). path_of source e.thing.ref ≡ Some e.path) es → AreInOrder (is_earlier source) (pick passes es)
pick_in_order source passes [] rises told = tt
pick_in_order source passes (e ∷ es) rises told = by (passes e.path e.thing) (pick_in_order source passes es rises.1 told.1)
  where
    by : (b : Bool) → AreInOrder (is_earlier source) (pick passes es) → AreInOrder (is_earlier source) (if b then e.thing.ref ∷ pick passes es else pick passes es)
    by true rest = (
      all_of_in (λ (r : NodeRef). is_earlier source e.thing.ref r ≡ true) (pick passes es)
          (λ r is. let found = pick_in passes r es is in
          let at = all_in (λ (f : Entry). path_of source f.thing.ref ≡ Some f.path) found.0 es told.1 found.1 in
          subst (λ (s : NodeRef). is_earlier source e.thing.ref s ≡ true) found.3
          ((λ i. is_path_before (told.0 i) (at i)) ∙ all_in (λ (f : Entry). comes_before e f ≡ true) found.0 es rises.0 found.1)),
      rest,
    )
    by false rest = rest

-- a path has one entry
not_both : (p q : Path) → p ≡ q → is_before p q ≡ true → ⊥
not_both p q e less = true≢false (sym less ∙ ap (λ (x : Path). is_before p x) (sym e) ∙ not_before_itself p)

unique_entry : (es : List Entry) → AreInOrder comes_before es → (e f : Entry) → IsIn e es → IsIn f es → e.path ≡ f.path → e.thing.ref ≡ f.thing.ref
unique_entry [] rises e f one other same = absurd one
unique_entry (x ∷ es) rises e f (inl a) (inl b) same = ap (λ (y : Entry). y.thing.ref) (sym a ∙ b)
unique_entry (x ∷ es) rises e f (inl a) (inr b) same =
    absurd (not_both x.path f.path (ap (λ (y : Entry). y.path) a ∙ same) (all_in (λ (y : Entry). comes_before x y ≡ true) f es rises.0 b))
unique_entry (x ∷ es) rises e f (inr a) (inl b) same =
    absurd (not_both x.path e.path (ap (λ (y : Entry). y.path) b ∙ sym same) (all_in (λ (y : Entry). comes_before x y ≡ true) e es rises.0 a))
unique_entry (x ∷ es) rises e f (inr a) (inr b) same = unique_entry es rises.1 e f a b same

-- a node or attribute that is in the source has one
abbrev HasEntry : Source → NodeRef → Type 0
HasEntry source r = (e : Entry) × IsIn e (entries_of source) × (e.thing.ref ≡ r)

entry_from : (source : Source) (r : NodeRef) (p : Path) (rest : List NodeRef) → path_of source r ≡ Some p → every axis.Itself source r ≡ r ∷ rest → HasEntry source r
entry_from source r p rest at is =
    let passes : Passes = λ m thing. meets axis.Itself p m && tested [] axis.Itself test.AnyNode thing in
    let picked : pick passes (entries_of source) ≡ r ∷ rest =
    sym (ap (λ (o : Option Path). elim o as (λ _. List NodeRef) [ None ↦ [] | Some n ↦ in_order axis.Itself (pick (λ m thing. meets axis.Itself n m && tested [] axis.Itself test.AnyNode thing) (entries_of source)) ]) at) ∙ is in
    let found = pick_in passes r (entries_of source) (subst (IsIn r) (sym picked) (inl refl)) in
    (found.0, found.1, found.3)

node_entry : (names : List NameParts) (source : Source) (n : NodeName) (p : Path) → IsProper names source → path_of source (ref.Node n) ≡ Some p → HasEntry source (ref.Node n)
node_entry names source n p proper at = elim (stands names source n.0 proper) [
  | inl s ↦ entry_from source (ref.Node n) p [] at (every_on axis.Itself source n.0 (n ∷ []) (self_at source n.0 s))
  | inr gone ↦ absurd (none-some p (sym gone.path_is ∙ at))
]

attribute_entry : (names : List NameParts) (source : Source) (n : NodeName) (name : NameId) (p : Path) → IsProper names source → path_of source (ref.Attr n name) ≡ Some p → HasEntry source (ref.Attr n name)
attribute_entry names source n name p proper at = by (attribute_place name 0 (attributes_at source n)) refl
  where
    by : (o : Option ℕ) → attribute_place name 0 (attributes_at source n) ≡ o → HasEntry source (ref.Attr n name)
    by None e = absurd (none-some p (sym (path_without name (path_in n.0 0 source.tree) (spot_of source n.0) e) ∙ at))
    by (Some q) e =
        let found = found_from names axis.Itself source n name q proper e in
        entry_from source (ref.Attr n name) p (took (tested [] axis.Itself test.AnyNode) found.listed) at (found.axis_is [] test.AnyNode)

has_entry : (names : List NameParts) (source : Source) (r : NodeRef) (p : Path) → IsProper names source → path_of source r ≡ Some p → HasEntry source r
has_entry names source (ref.Node n) p proper at = node_entry names source n p proper at
has_entry names source (ref.Attr n name) p proper at = attribute_entry names source n name p proper at

-- membership by the test
both : (a b : Bool) → (a && b) ≡ true → (a ≡ true) × (b ≡ true)
both true true e = (refl, refl)
both true false e = absurd (true≢false (sym e))
both false b e = absurd (true≢false (sym e))

same_is : (r s : NodeRef) → is_same_ref r s ≡ true → r ≡ s
same_is (ref.Node n) (ref.Node m) e = let same : n.0 ≡ m.0 = eqb-true n.0 m.0 e in λ i. ref.Node (record { 0 = same i })
same_is (ref.Node n) (ref.Attr m name) e = absurd (true≢false (sym e))
same_is (ref.Attr n name) (ref.Node m) e = absurd (true≢false (sym e))
same_is (ref.Attr n name) (ref.Attr m other) e =
    let parts = both (n.0 == m.0) (name.0 == other.0) e in
    let same : n.0 ≡ m.0 = eqb-true n.0 m.0 parts.0 in
    let named : name.0 ≡ other.0 = eqb-true name.0 other.0 parts.1 in
    λ i. ref.Attr (record { 0 = same i }) (record { 0 = named i })

same_itself : (r : NodeRef) → is_same_ref r r ≡ true
same_itself (ref.Node n) = eq-eqb n.0 n.0 refl
same_itself (ref.Attr n name) = λ i. eq-eqb n.0 n.0 refl i && eq-eqb name.0 name.0 refl i

has_in : (r : NodeRef) (refs : List NodeRef) → has_ref refs r ≡ true → IsIn r refs
has_in r [] e = absurd (true≢false (sym e))
has_in r (x ∷ xs) e = by (is_same_ref r x) refl e (has_in r xs)
  where
    by : (b : Bool) → is_same_ref r x ≡ b → (b || list_any (is_same_ref r) xs) ≡ true → (has_ref xs r ≡ true → IsIn r xs) → (x ≡ r) ⊎ IsIn r xs
    by true same e go = inl (sym (same_is r x same))
    by false same e go = inr (go e)

in_has : (r : NodeRef) (refs : List NodeRef) → IsIn r refs → has_ref refs r ≡ true
in_has r [] is = absurd is
in_has r (x ∷ xs) (inl e) = ap (λ (b : Bool). b || list_any (is_same_ref r) xs) (ap (is_same_ref r) e ∙ same_itself r)
in_has r (x ∷ xs) (inr is) = by (is_same_ref r x) (in_has r xs is)
  where
    by : (b : Bool) → list_any (is_same_ref r) xs ≡ true → (b || list_any (is_same_ref r) xs) ≡ true
    by true e = refl
    by false e = e

-- nodes with their paths
in_front : {A : Type 0} (x : A) (xs ys : List A) → IsIn x xs → IsIn x (xs ++ ys)
in_front x [] ys is = absurd is
in_front x (z ∷ zs) ys (inl e) = inl e
in_front x (z ∷ zs) ys (inr is) = inr (in_front x zs ys is)

in_back : {A : Type 0} (x : A) (xs ys : List A) → IsIn x ys → IsIn x (xs ++ ys)
in_back x [] ys is = is
in_back x (z ∷ zs) ys is = inr (in_back x zs ys is)

in_either : {A : Type 0} (x : A) (xs ys : List A) → IsIn x (xs ++ ys) → IsIn x xs ⊎ IsIn x ys
in_either x [] ys is = inr is
in_either x (z ∷ zs) ys (inl e) = inl (inl e)
in_either x (z ∷ zs) ys (inr is) = elim (in_either x zs ys is) [ inl one ↦ inl (inr one) | inr other ↦ inr other ]

in_placed : (source : Source) (refs : List NodeRef) (r : NodeRef) (p : Path) → IsIn r refs → path_of source r ≡ Some p → IsIn (record { path = p; node = r }) (placed_in source refs)
in_placed source [] r p is at = absurd is
in_placed source (x ∷ xs) r p (inl e) at =
    in_front (record { path = p; node = r }) (placed_one source x) (placed_in source xs)
    (subst (λ (s : NodeRef). IsIn (record { path = p; node = r }) (placed_one source s)) (sym e) (subst (λ (o : Option Path). IsIn (record { path = p; node = r }) (placed_by r o)) (sym at) (inl refl)))
in_placed source (x ∷ xs) r p (inr is) at = in_back (record { path = p; node = r }) (placed_one source x) (placed_in source xs) (in_placed source xs r p is at)

placed_by-is : (r : NodeRef) (o : Option Path) (x : Placed) → IsIn x (placed_by r o) → (r ≡ x.node) × (o ≡ Some x.path)
placed_by-is r None x is = absurd is
placed_by-is r (Some p) x (inl e) = (ap (λ (y : Placed). y.node) e, ap (λ (y : Placed). Some y.path) e)
placed_by-is r (Some p) x (inr is) = absurd is

placed_in-is : (source : Source) (refs : List NodeRef) (x : Placed) → IsIn x (placed_in source refs) → IsIn x.node refs × (path_of source x.node ≡ Some x.path)
placed_in-is source [] x is = absurd is
placed_in-is source (r ∷ rs) x is = elim (in_either x (placed_one source r) (placed_in source rs) is) [
  | inl one ↦ let parts = placed_by-is r (path_of source r) x one in (inl parts.0, ap (path_of source) (sym parts.0) ∙ parts.1)
  | inr other ↦ let parts = placed_in-is source rs x other in (inr parts.0, parts.1)
]

-- so sorting by paths gives document order
module _ (names : List NameParts) (source : Source) (refs : List NodeRef) (proper : IsProper names source) (xs : List Placed) (rises : Rises xs)
    (told : (x : Placed) → IsIn x xs → IsIn x.node refs × (path_of source x.node ≡ Some x.path))
    (has : (r : NodeRef) (p : Path) → IsIn r refs → path_of source r ≡ Some p → IsIn (record { path = p; node = r }) xs) where
  abbrev asked : Passes
  asked path thing = has_ref refs thing.ref

  to_ordered : (r : NodeRef) → IsIn r (each_once xs) → IsIn r (ordered source refs)
  to_ordered r is =
      let x = once_in r xs is in
      let at = told x.0 x.1 in
      let e = has_entry names source x.0.node x.0.path proper at.1 in
      subst (λ (s : NodeRef). IsIn s (ordered source refs)) (e.2 ∙ x.2)
      (in_pick asked e.0 (entries_of source) e.1 (in_has e.0.thing.ref refs (subst (λ (s : NodeRef). IsIn s refs) (sym e.2) at.0)))

  path_told : (e : Entry) → IsIn e (entries_of source) → path_of source e.thing.ref ≡ Some e.path
  path_told e is = all_in (λ (f : Entry). path_of source f.thing.ref ≡ Some f.path) e (entries_of source) (entries_placed names source proper) is

  some_path : (p q : Path) → Some p ≡ Some q → p ≡ q
  some_path p q e = ap (λ (o : Option Path). elim o as (λ _. Path) [ None ↦ p | Some x ↦ x ]) e

  from_ordered : (r : NodeRef) → IsIn r (ordered source refs) → IsIn r (each_once xs)
  from_ordered r is =
      let e = pick_in asked r (entries_of source) is in
      let at = path_told e.0 e.1 in
      let y = once_keeps (record { path = e.0.path; node = e.0.thing.ref }) xs rises (has e.0.thing.ref e.0.path (has_in e.0.thing.ref refs e.2) at) in
      let y_at = (told y.0 y.2).1 in
      let f = has_entry names source y.0.node y.0.path proper y_at in
      let paths : f.0.path ≡ e.0.path = some_path f.0.path y.0.path (sym (path_told f.0 f.1) ∙ ap (path_of source) f.2 ∙ y_at) ∙ y.3 in
      subst (λ (s : NodeRef). IsIn s (each_once xs)) (sym f.2 ∙ unique_entry (entries_of source) (in_order_entries 0 source.tree) f.0 e.0 f.1 e.1 paths ∙ e.3) y.1

  once_ordered : each_once xs ≡ ordered source refs
  once_ordered =
      same_from_members (is_earlier source) (earlier_strict source) (each_once xs) (ordered source refs)
      (once_in_order source xs rises (all_of_in (λ (x : Placed). path_of source x.node ≡ Some x.path) xs (λ x is. (told x is).1)))
      (pick_in_order source asked (entries_of source) (in_order_entries 0 source.tree) (entries_placed names source proper)) to_ordered from_ordered

pub sorted_ordered : (names : List NameParts) (source : Source) (refs : List NodeRef) (placed : List Placed) (found : List NodeRef) → IsProper names source → placed ≡ placed_in source refs → AreSortedFrom placed found →
    found ≡ ordered source refs
sorted_ordered names source refs placed found proper e s =
    s.nodes
    ∙ once_ordered names source refs proper s.sorted (rises_far s.sorted (sorted_far stands_before placed-ranks s.sorted s.rising))
    (λ x is. placed_in-is source refs x (subst (IsIn x) e (in_contained x placed (Contains-permutation s.sorted placed x (IsPermutation-sym placed s.sorted s.moved) (contained x s.sorted is)))))
    (λ r p is at. in_contained (record { path = p; node = r }) s.sorted
    (Contains-permutation placed s.sorted (record { path = p; node = r }) s.moved (contained (record { path = p; node = r }) placed (subst (IsIn (record { path = p; node = r })) (sym e) (in_placed source refs r p is at)))))

-- one node more
pub placed_more : (source : Source) (refs : List NodeRef) (i : ℕ) (d : NodeRef) (old : List Placed) → i < length refs →
    (old ++ placed_in source (take i refs)) ++ placed_one source (get_or refs i d) ≡ old ++ placed_in source (take (i + 1) refs)
placed_more source refs i d old less =
    flat_map_more (placed_one source) old (take i refs) (get_or refs i d) ∙ sym (ap (λ (l : List NodeRef). old ++ placed_in source l) (take_more refs i d less))
