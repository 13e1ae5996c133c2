-- What the axes that lead out of a node have by its way: the nodes above it, and those before and behind it.
use Rattle.std.proofs.Common.{◌≡◌, ℕ, suc, ◌<◌, ◌≤◌, ◌==◌, ◌&&◌, ◌||◌, ◌++◌, Bool, true, false, nat_lt, List, [], ◌∷◌, Some, None, is_none, if◌then◌else◌, refl, sym, ap, ◌∙◌, arith, append_assoc}
use Rattle.std.proofs.lemmas.List.{append-nil}
use Rattle.std.proofs.lemmas.Bool.{ne_eqb, eq-eqb}
use Rattle.std.proofs.lemmas.Bool.Decides.{Decides-ltb}
use Rattle.serna_kinds.specs.declared.cells.NodeRef.{NodeRef}
use Rattle.serna_kinds.specs.declared.cells.NodeRef.TheVariants as ref
use Rattle.serna_kinds.specs.declared.expressions.Axis.{Axis}
use Rattle.serna_kinds.specs.declared.expressions.Axis.TheVariants as axis
use Rattle.source_model.specs.Source.{Body, Forest, node}
use Rattle.source_model.specs.Cells.{named}
use Rattle.source_model.specs.Changes.{beside}
use Rattle.source_model.specs.Paths.{Path, Thing, node_thing, entries, behind, is_before}
use Rattle.source_model.specs.Axes.{pick, meets, is_empty, ends_at_node, are_siblings, down}
use Rattle.source_model.proofs.Children.{Passes, own, pick_same, pick_false, pick_later}
use Rattle.xpath_axes.proofs.Ways.{Way, here, inside, plug, place, path_at, all_in, heads_in, took_one, took, took-append, pick_split, pick_early, pick_late, none_early, nodes_pass, heads_pass, own_front, own_through, all_entries, head_entries, ends_below}

less_true : (j k : ℕ) → j < k → nat_lt j k ≡ true
less_true j k less = (Decides-ltb j k).1 less

by_less : (j k : ℕ) (b : Bool) → b ≡ nat_lt j k → k ≤ j → nat_lt j k ≡ false
by_less j k false is le = sym is
by_less j k true is le = let less : j < k = (Decides-ltb j k).0 (sym is) in absurd (omega (arith, less, le))

less_false : (j k : ℕ) → k ≤ j → nat_lt j k ≡ false
less_false j k le = by_less j k (nat_lt j k) refl le

differ : (j k : ℕ) → (j ≡ k → ⊥) → (j == k) ≡ false
differ j k other = ne_eqb j k other

same : (j : ℕ) → (j == j) ≡ true
same j = eq-eqb j j refl

pub all_of_three : (b : Bool) → (b && true && true) ≡ b
all_of_three true = refl
all_of_three false = refl

pub none_of_three : (b c : Bool) → (b && false && c) ≡ false
none_of_three true c = refl
none_of_three false c = refl

last_of_three : (b : Bool) → (true && b && false) ≡ false
last_of_three true = refl
last_of_three false = refl

abbrev pub on : Axis → (Thing → Bool) → Path → Passes
on along t p m x = meets along p m && t x

-- following: of two paths with first steps to children, by the tests of these steps
abbrev follow_by : Path → Path → Bool → Bool → Bool → Bool
follow_by p m e l s = e && (l || (s && is_before p m)) && is_none (if s then behind p m else None)

follow_late : (p m : Path) (j k : ℕ) → j < k → meets axis.Following ((1, j) ∷ p) ((1, k) ∷ m) ≡ ends_at_node m
follow_late p m j k less =
    (λ i. follow_by p m (ends_below k m i) (less_true j k less i) (differ j k (λ e. absurd (omega (arith, less, e))) i)) ∙ all_of_three (ends_at_node m)

follow_early : (p m : Path) (j k : ℕ) → k < j → meets axis.Following ((1, j) ∷ p) ((1, k) ∷ m) ≡ false
follow_early p m j k less =
    (λ i. follow_by p m (ends_below k m i) (less_false j k (omega (arith, less)) i) (differ j k (λ e. absurd (omega (arith, less, e))) i)) ∙ none_of_three (ends_at_node m) true

follow_same : (p m : Path) (j : ℕ) → meets axis.Following ((1, j) ∷ p) ((1, j) ∷ m) ≡ meets axis.Following p m
follow_same p m j = λ i. follow_by p m (ends_below j m i) (less_false j j (omega arith) i) (same j i)

abbrev pub follow_of : Way → List (ℕ × Body)
follow_of (here before after) = all_in after
follow_of (inside before k outer after way) = follow_of way ++ all_in after

follow_level : (t : Thing → Bool) (p : Path) (i : ℕ) (before : Forest) (k : ℕ) (body : Body) (kids after : Forest) →
    pick (on axis.Following t ((1, place i before) ∷ p)) (entries i (beside before (node k body kids after))) ≡ pick (on axis.Following t p) (own k body kids) ++ took t (all_in after)
follow_level t p i before k body kids after =
    let j : ℕ = place i before in
    let f : Passes = on axis.Following t ((1, j) ∷ p) in
    let early : pick f (entries i before) ≡ [] = none_early f i before (λ k m x less. ap (λ (b : Bool). b && t x) (follow_early p m j k less)) in
    let at : pick (λ m. f ((1, j) ∷ m)) (own k body kids) ≡ pick (on axis.Following t p) (own k body kids) =
    pick_same (λ m. f ((1, j) ∷ m)) (on axis.Following t p) (λ m x. ap (λ (b : Bool). b && t x) (follow_same p m j)) (own k body kids) in
    let late : pick f (entries (suc j) after) ≡ took t (all_in after) =
    pick_late f (nodes_pass t) (suc j) after (λ k m x less. ap (λ (b : Bool). b && t x) (follow_late p m j k (omega (arith, less)))) ∙ all_entries t (suc j) after in
    pick_split f i before k body kids after ∙ (λ q. early q ++ (at q ++ late q))

-- what is picked at and below the node, and then what stands behind it
pub follow_picks : (t : Thing → Bool) (e : Path) (i : ℕ) (way : Way) (n : ℕ) (body : Body) (kids : Forest) →
    pick (on axis.Following t (path_at i way e)) (entries i (plug way n body kids)) ≡ pick (on axis.Following t e) (own n body kids) ++ took t (follow_of way)
follow_picks t e i (here before after) n body kids = follow_level t e i before n body kids after
follow_picks t e i (inside before k outer after way) n body kids =
    let x : List NodeRef = pick (on axis.Following t e) (own n body kids) in
    follow_level t (path_at 0 way e) i before k outer (plug way n body kids) after
    ∙ ap (λ (l : List NodeRef). l ++ took t (all_in after))
    (own_through (on axis.Following t (path_at 0 way e)) k outer (plug way n body kids) (λ x. refl) (λ j x. refl) ∙ follow_picks t e 0 way n body kids)
    ∙ append_assoc x (took t (follow_of way)) (took t (all_in after)) ∙ ap (λ (l : List NodeRef). x ++ l) (sym (took-append t (follow_of way) (all_in after)))

-- preceding, in document order
abbrev precede_by : Path → Path → Bool → Bool → Bool → Bool
precede_by p m e l s = e && (l || (s && is_before m p)) && is_none (if s then behind m p else None)

precede_early : (p m : Path) (j k : ℕ) → k < j → meets axis.Preceding ((1, j) ∷ p) ((1, k) ∷ m) ≡ ends_at_node m
precede_early p m j k less =
    (λ i. precede_by p m (ends_below k m i) (less_true k j less i) (differ k j (λ e. absurd (omega (arith, less, e))) i)) ∙ all_of_three (ends_at_node m)

precede_late : (p m : Path) (j k : ℕ) → j < k → meets axis.Preceding ((1, j) ∷ p) ((1, k) ∷ m) ≡ false
precede_late p m j k less =
    (λ i. precede_by p m (ends_below k m i) (less_false k j (omega (arith, less)) i) (differ k j (λ e. absurd (omega (arith, less, e))) i)) ∙ none_of_three (ends_at_node m) true

precede_same : (p m : Path) (j : ℕ) → meets axis.Preceding ((1, j) ∷ p) ((1, j) ∷ m) ≡ meets axis.Preceding p m
precede_same p m j = λ i. precede_by p m (ends_below j m i) (less_false j j (omega arith) i) (same j i)

abbrev pub precede_of : Way → List (ℕ × Body)
precede_of (here before after) = all_in before
precede_of (inside before k outer after way) = all_in before ++ precede_of way

precede_level : (t : Thing → Bool) (p : Path) (i : ℕ) (before : Forest) (k : ℕ) (body : Body) (kids after : Forest) →
    pick (on axis.Preceding t ((1, place i before) ∷ p)) (entries i (beside before (node k body kids after))) ≡ took t (all_in before) ++ pick (on axis.Preceding t p) (own k body kids)
precede_level t p i before k body kids after =
    let j : ℕ = place i before in
    let f : Passes = on axis.Preceding t ((1, j) ∷ p) in
    let early : pick f (entries i before) ≡ took t (all_in before) =
    pick_early f (nodes_pass t) i before (λ k m x less. ap (λ (b : Bool). b && t x) (precede_early p m j k less)) ∙ all_entries t i before in
    let at : pick (λ m. f ((1, j) ∷ m)) (own k body kids) ≡ pick (on axis.Preceding t p) (own k body kids) =
    pick_same (λ m. f ((1, j) ∷ m)) (on axis.Preceding t p) (λ m x. ap (λ (b : Bool). b && t x) (precede_same p m j)) (own k body kids) in
    let late : pick f (entries (suc j) after) ≡ [] = pick_later f (suc j) (λ k m x less. ap (λ (b : Bool). b && t x) (precede_late p m j k (omega (arith, less)))) after in
    pick_split f i before k body kids after ∙ (λ q. early q ++ (at q ++ late q))
    ∙ ap (λ (l : List NodeRef). took t (all_in before) ++ l) (append-nil (pick (on axis.Preceding t p) (own k body kids)))

-- what stands before the node, and then what is picked at and below it
pub precede_picks : (t : Thing → Bool) (e : Path) (i : ℕ) (way : Way) (n : ℕ) (body : Body) (kids : Forest) →
    pick (on axis.Preceding t (path_at i way e)) (entries i (plug way n body kids)) ≡ took t (precede_of way) ++ pick (on axis.Preceding t e) (own n body kids)
precede_picks t e i (here before after) n body kids = precede_level t e i before n body kids after
precede_picks t e i (inside before k outer after way) n body kids =
    let x : List NodeRef = pick (on axis.Preceding t e) (own n body kids) in
    precede_level t (path_at 0 way e) i before k outer (plug way n body kids) after
    ∙ ap (λ (l : List NodeRef). took t (all_in before) ++ l)
    (own_through (on axis.Preceding t (path_at 0 way e)) k outer (plug way n body kids) (λ x. ap (λ (b : Bool). b && t x) (last_of_three (is_before [] (path_at 0 way e)))) (λ j x. refl)
    ∙ precede_picks t e 0 way n body kids)
    ∙ sym (append_assoc (took t (all_in before)) (took t (precede_of way)) x) ∙ ap (λ (l : List NodeRef). l ++ x) (sym (took-append t (all_in before) (precede_of way)))

-- the nodes above, the outermost first
up_other : (c : Path → Bool) (p m : Path) (j k : ℕ) → (k ≡ j → ⊥) → down c ((1, k) ∷ m) ((1, j) ∷ p) ≡ false
up_other c p m j k other = ap (λ (b : Bool). elim (if b then behind m p else None) [ None ↦ false | Some q ↦ c q ]) (differ k j other)

up_same : (c : Path → Bool) (p m : Path) (j : ℕ) → down c ((1, j) ∷ m) ((1, j) ∷ p) ≡ down c m p
up_same c p m j = ap (λ (b : Bool). elim (if b then behind m p else None) [ None ↦ false | Some q ↦ c q ]) (same j)

abbrev pub ups : (Path → Bool) → (Thing → Bool) → Path → Passes
ups c t p m x = down c m p && t x

up_level : (c : Path → Bool) (t : Thing → Bool) (p : Path) (i : ℕ) (before : Forest) (k : ℕ) (body : Body) (kids after : Forest) →
    pick (ups c t ((1, place i before) ∷ p)) (entries i (beside before (node k body kids after))) ≡ pick (ups c t p) (own k body kids)
up_level c t p i before k body kids after =
    let j : ℕ = place i before in
    let f : Passes = ups c t ((1, j) ∷ p) in
    let early : pick f (entries i before) ≡ [] = none_early f i before (λ k m x less. ap (λ (b : Bool). b && t x) (up_other c p m j k (λ e. absurd (omega (arith, less, e))))) in
    let at : pick (λ m. f ((1, j) ∷ m)) (own k body kids) ≡ pick (ups c t p) (own k body kids) =
    pick_same (λ m. f ((1, j) ∷ m)) (ups c t p) (λ m x. ap (λ (b : Bool). b && t x) (up_same c p m j)) (own k body kids) in
    let late : pick f (entries (suc j) after) ≡ [] = pick_later f (suc j) (λ k m x less. ap (λ (b : Bool). b && t x) (up_other c p m j k (λ e. absurd (omega (arith, less, e))))) after in
    pick_split f i before k body kids after ∙ (λ q. early q ++ (at q ++ late q)) ∙ append-nil (pick (ups c t p) (own k body kids))

-- the nodes above that have a way of that kind left
abbrev pub above_by : (Path → Bool) → Path → Way → List (ℕ × Body)
above_by c e (here before after) = []
above_by c e (inside before k outer after way) = (if c (path_at 0 way e) then (k, outer) ∷ [] else []) ++ above_by c e way

when : (t : Thing → Bool) (b : Bool) (w : ℕ × Body) → (if b && t (node_thing w.0 w.1) then ref.Node (named w.0) ∷ [] else []) ≡ took t (if b then w ∷ [] else [])
when t true w = sym (append-nil (took_one t w))
when t false w = refl

no_attribute_above : (c : Path → Bool) (way : Way) (e : Path) (j : ℕ) → down c ((0, j) ∷ []) (path_at 0 way e) ≡ false
no_attribute_above c (here before after) e j = refl
no_attribute_above c (inside before k outer after way) e j = refl

-- these nodes, and then what is picked at and below the node
pub up_picks : (c : Path → Bool) (t : Thing → Bool) (e : Path) (i : ℕ) (way : Way) (n : ℕ) (body : Body) (kids : Forest) →
    pick (ups c t (path_at i way e)) (entries i (plug way n body kids)) ≡ took t (above_by c e way) ++ pick (ups c t e) (own n body kids)
up_picks c t e i (here before after) n body kids = up_level c t e i before n body kids after
up_picks c t e i (inside before k outer after way) n body kids =
    let x : List NodeRef = pick (ups c t e) (own n body kids) in
    let first : List (ℕ × Body) = if c (path_at 0 way e) then (k, outer) ∷ [] else [] in
    let one : (if c (path_at 0 way e) && t (node_thing k outer) then ref.Node (named k) ∷ [] else []) ≡ took t first = when t (c (path_at 0 way e)) (k, outer) in
    let more : pick (ups c t (path_at 0 way e)) (entries 0 (plug way n body kids)) ≡ took t (above_by c e way) ++ x = up_picks c t e 0 way n body kids in
    up_level c t (path_at 0 way e) i before k outer (plug way n body kids) after
    ∙ own_front (ups c t (path_at 0 way e)) k outer (plug way n body kids) (λ j x. ap (λ (b : Bool). b && t x) (no_attribute_above c way e j))
    ∙ (λ q. one q ++ more q) ∙ sym (append_assoc (took t first) (took t (above_by c e way)) x) ∙ ap (λ (l : List NodeRef). l ++ x) (sym (took-append t first (above_by c e way)))

-- siblings
abbrev pub last_after : Way → Forest
last_after (here before after) = after
last_after (inside before k outer after way) = last_after way

abbrev pub last_before : Way → Forest
last_before (here before after) = before
last_before (inside before k outer after way) = last_before way

abbrev sibling_by : Path → Path → Bool → Bool → Bool → Bool
sibling_by p m a l s = a && (l || (s && is_before p m))

or_and_false : (b : Bool) → (b || false) ≡ b
or_and_false true = refl
or_and_false false = refl

and_false : (b : Bool) → (b && false) ≡ false
and_false true = refl
and_false false = refl

siblings_late : (m : Path) (j k : ℕ) → j < k → meets axis.FollowingSibling ((1, j) ∷ []) ((1, k) ∷ m) ≡ is_empty m
siblings_late [] j k less = λ i. less_true j k less i || ((j == k) && false)
siblings_late (s ∷ m) j k less = refl

siblings_early : (m : Path) (j k : ℕ) → k ≤ j → meets axis.FollowingSibling ((1, j) ∷ []) ((1, k) ∷ m) ≡ false
siblings_early [] j k less = (λ i. less_false j k less i || ((j == k) && false)) ∙ and_false (j == k)
siblings_early (s ∷ m) j k less = refl

preceding_siblings_early : (m : Path) (j k : ℕ) → k < j → meets axis.PrecedingSibling ((1, j) ∷ []) ((1, k) ∷ m) ≡ is_empty m
preceding_siblings_early [] j k less = λ i. less_true k j less i || ((k == j) && false)
preceding_siblings_early (s ∷ m) j k less = refl

preceding_siblings_late : (m : Path) (j k : ℕ) → j ≤ k → meets axis.PrecedingSibling ((1, j) ∷ []) ((1, k) ∷ m) ≡ false
preceding_siblings_late [] j k less = (λ i. less_false k j less i || ((k == j) && false)) ∙ and_false (k == j)
preceding_siblings_late (s ∷ m) j k less = refl

-- of a node further in, only what is below its outermost one
within_other : (way : Way) (m : Path) (j k : ℕ) → (j ≡ k → ⊥) → are_siblings ((1, j) ∷ path_at 0 way []) ((1, k) ∷ m) ≡ false
within_other (here before after) [] j k other = refl
within_other (here before after) (d ∷ q) j k other = ap (λ (b : Bool). b && are_siblings (path_at 0 (here before after) []) (d ∷ q)) (differ j k other)
within_other (inside before o outer after way) [] j k other = refl
within_other (inside before o outer after way) (d ∷ q) j k other = ap (λ (b : Bool). b && are_siblings (path_at 0 (inside before o outer after way) []) (d ∷ q)) (differ j k other)

within_same : (way : Way) (m : Path) (j : ℕ) → are_siblings ((1, j) ∷ path_at 0 way []) ((1, j) ∷ m) ≡ are_siblings (path_at 0 way []) m
within_same (here before after) [] j = refl
within_same (here before after) (d ∷ q) j = ap (λ (b : Bool). b && are_siblings (path_at 0 (here before after) []) (d ∷ q)) (same j)
within_same (inside before o outer after way) [] j = refl
within_same (inside before o outer after way) (d ∷ q) j = ap (λ (b : Bool). b && are_siblings (path_at 0 (inside before o outer after way) []) (d ∷ q)) (same j)

no_sibling_above : (way : Way) → are_siblings (path_at 0 way []) [] ≡ false
no_sibling_above (here before after) = refl
no_sibling_above (inside before k outer after way) = refl

no_sibling_attribute : (way : Way) (j : ℕ) → are_siblings (path_at 0 way []) ((0, j) ∷ []) ≡ false
no_sibling_attribute (here before after) j = refl
no_sibling_attribute (inside before k outer after (here b a)) j = refl
no_sibling_attribute (inside before k outer after (inside b l o a way)) j = refl

-- siblings on the side that `ordered` tells
abbrev pub beside_by : (Path → Path → Bool) → (Thing → Bool) → Path → Passes
beside_by ordered t p m x = (are_siblings p m && ordered p m) && t x

siblings_inside : (ordered : Path → Path → Bool) → ((p m : Path) (j : ℕ) → ordered ((1, j) ∷ p) ((1, j) ∷ m) ≡ ordered p m) →
    (t : Thing → Bool) (i : ℕ) (before : Forest) (k : ℕ) (outer : Body) (after : Forest) (way : Way) (f : Forest) →
    pick (beside_by ordered t ((1, place i before) ∷ path_at 0 way [])) (entries i (beside before (node k outer f after))) ≡ pick (beside_by ordered t (path_at 0 way [])) (entries 0 f)
siblings_inside ordered ordered_same t i before k outer after way kids =
    let j : ℕ = place i before in
    let p : Path = path_at 0 way [] in
    let f : Passes = beside_by ordered t ((1, j) ∷ p) in
    let early : pick f (entries i before) ≡ [] =
    none_early f i before (λ k m x less. ap (λ (b : Bool). (b && ordered ((1, j) ∷ p) ((1, k) ∷ m)) && t x) (within_other way m j k (λ e. absurd (omega (arith, less, e))))) in
    let at : pick (λ m. f ((1, j) ∷ m)) (own k outer kids) ≡ pick (beside_by ordered t p) (own k outer kids) =
    pick_same (λ m. f ((1, j) ∷ m)) (beside_by ordered t p) (λ m x. λ i. (within_same way m j i && ordered_same p m j i) && t x) (own k outer kids) in
    let late : pick f (entries (suc j) after) ≡ [] =
    pick_later f (suc j) (λ k m x less. ap (λ (b : Bool). (b && ordered ((1, j) ∷ p) ((1, k) ∷ m)) && t x) (within_other way m j k (λ e. absurd (omega (arith, less, e))))) after in
    pick_split f i before k outer kids after ∙ (λ q. early q ++ (at q ++ late q)) ∙ append-nil (pick (beside_by ordered t p) (own k outer kids))
    ∙ own_through (beside_by ordered t p) k outer kids (λ x. ap (λ (b : Bool). (b && ordered p []) && t x) (no_sibling_above way))
    (λ j x. ap (λ (b : Bool). (b && ordered p ((0, j) ∷ [])) && t x) (no_sibling_attribute way j))

before_same : (p m : Path) (j : ℕ) → is_before ((1, j) ∷ p) ((1, j) ∷ m) ≡ is_before p m
before_same p m j = λ i. less_false j j (omega arith) i || (same j i && is_before p m)

pub following_sibling_picks : (t : Thing → Bool) (i : ℕ) (way : Way) (n : ℕ) (body : Body) (kids : Forest) →
    pick (on axis.FollowingSibling t (path_at i way [])) (entries i (plug way n body kids)) ≡ took t (heads_in (last_after way))
following_sibling_picks t i (here before after) n body kids =
    let j : ℕ = place i before in
    let f : Passes = on axis.FollowingSibling t ((1, j) ∷ []) in
    let early : pick f (entries i before) ≡ [] = none_early f i before (λ k m x less. ap (λ (b : Bool). b && t x) (siblings_early m j k (omega (arith, less)))) in
    let at : pick (λ m. f ((1, j) ∷ m)) (own n body kids) ≡ [] = pick_false (λ m. f ((1, j) ∷ m)) (λ m x. ap (λ (b : Bool). b && t x) (siblings_early m j j (omega arith))) (own n body kids) in
    let late : pick f (entries (suc j) after) ≡ took t (heads_in after) =
    pick_late f (heads_pass t) (suc j) after (λ k m x less. ap (λ (b : Bool). b && t x) (siblings_late m j k (omega (arith, less)))) ∙ head_entries t (suc j) after in
    pick_split f i before n body kids after ∙ (λ q. early q ++ (at q ++ late q))
following_sibling_picks t i (inside before k outer after way) n body kids =
    siblings_inside (λ p m. is_before p m) before_same t i before k outer after way (plug way n body kids) ∙ following_sibling_picks t 0 way n body kids

pub preceding_sibling_picks : (t : Thing → Bool) (i : ℕ) (way : Way) (n : ℕ) (body : Body) (kids : Forest) →
    pick (on axis.PrecedingSibling t (path_at i way [])) (entries i (plug way n body kids)) ≡ took t (heads_in (last_before way))
preceding_sibling_picks t i (here before after) n body kids =
    let j : ℕ = place i before in
    let f : Passes = on axis.PrecedingSibling t ((1, j) ∷ []) in
    let early : pick f (entries i before) ≡ took t (heads_in before) =
    pick_early f (heads_pass t) i before (λ k m x less. ap (λ (b : Bool). b && t x) (preceding_siblings_early m j k less)) ∙ head_entries t i before in
    let at : pick (λ m. f ((1, j) ∷ m)) (own n body kids) ≡ [] = pick_false (λ m. f ((1, j) ∷ m)) (λ m x. ap (λ (b : Bool). b && t x) (preceding_siblings_late m j j (omega arith))) (own n body kids) in
    let late : pick f (entries (suc j) after) ≡ [] = pick_later f (suc j) (λ k m x less. ap (λ (b : Bool). b && t x) (preceding_siblings_late m j k (omega (arith, less)))) after in
    pick_split f i before n body kids after ∙ (λ q. early q ++ (at q ++ late q)) ∙ append-nil (took t (heads_in before))
preceding_sibling_picks t i (inside before k outer after way) n body kids =
    siblings_inside (λ p m. is_before m p) (λ p m j. before_same m p j) t i before k outer after way (plug way n body kids) ∙ preceding_sibling_picks t 0 way n body kids
