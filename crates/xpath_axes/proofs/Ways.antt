-- The way to a node, from the outermost of its forest inward, and what the entries of the forest are by it: those before the way, those on
-- it, and those behind it.
use Rattle.std.proofs.Common.{◌≡◌, ℕ, suc, ◌<◌, ◌≤◌, ◌&&◌, ◌++◌, Bool, true, false, List, [], ◌∷◌, if◌then◌else◌, refl, sym, ap, ◌∙◌, arith, append_assoc}
use Rattle.std.specs.List.{flat_map}
use Rattle.std.proofs.lemmas.Grind.{flat_map-append}
use Rattle.std.proofs.lemmas.List.{append-nil}
use Rattle.serna_kinds.specs.declared.cells.NodeRef.{NodeRef}
use Rattle.serna_kinds.specs.declared.cells.NodeRef.TheVariants as ref
use Rattle.source_model.specs.Source.{Body, Forest, none, node}
use Rattle.source_model.specs.Cells.{named}
use Rattle.source_model.specs.Changes.{beside}
use Rattle.source_model.specs.Paths.{Path, Thing, node_thing, attribute_entries, entries}
use Rattle.source_model.specs.Attributes.{pairs_of}
use Rattle.source_model.specs.Axes.{pick, is_empty, ends_at_node}
use Rattle.source_model.proofs.Children.{Passes, own, pick-append, pick_same, pick_false, pick_later, pick_node, pick_attributes}

-- at each level what stands before and behind; the last level is the node's own
pub data Way : Type 0 where
  here : Forest → Forest → Way
  inside : Forest → ℕ → Body → Forest → Way → Way

-- the forest in which a node stands so
abbrev pub plug : Way → ℕ → Body → Forest → Forest
plug (here before after) n body kids = beside before (node n body kids after)
plug (inside before k outer after way) n body kids = beside before (node k outer (plug way n body kids) after)

-- the place behind neighbours, the first of which is at place i
abbrev pub place : ℕ → Forest → ℕ
place i none = i
place i (node n body kids rest) = place (suc i) rest

-- the path to the node, and what goes on from there
abbrev pub path_at : ℕ → Way → Path → Path
path_at i (here before after) e = (1, place i before) ∷ e
path_at i (inside before k outer after way) e = (1, place i before) ∷ path_at 0 way e

-- neighbours with all below them, in document order; and the neighbours alone
abbrev pub all_in : Forest → List (ℕ × Body)
all_in none = []
all_in (node n body kids rest) = (n, body) ∷ (all_in kids ++ all_in rest)

abbrev pub heads_in : Forest → List (ℕ × Body)
heads_in none = []
heads_in (node n body kids rest) = (n, body) ∷ heads_in rest

-- those that pass
abbrev pub took_one : (Thing → Bool) → ℕ × Body → List NodeRef
took_one t w = if t (node_thing w.0 w.1) then ref.Node (named w.0) ∷ [] else []

abbrev pub took : (Thing → Bool) → List (ℕ × Body) → List NodeRef
took t ws = flat_map (took_one t) ws

pub took-append : (t : Thing → Bool) (xs ys : List (ℕ × Body)) → took t (xs ++ ys) ≡ took t xs ++ took t ys
took-append t xs ys = flat_map-append (took_one t) xs ys

pub put_front : (b : Bool) (r : NodeRef) (l : List NodeRef) → (if b then r ∷ l else l) ≡ (if b then r ∷ [] else []) ++ l
put_front true r l = refl
put_front false r l = refl

place_later : (i : ℕ) (f : Forest) → i ≤ place i f
place_later i none = omega arith
place_later i (node n body kids rest) = let more : suc i ≤ place (suc i) rest = place_later (suc i) rest in omega (arith, more)

-- what is picked at a level: before the way, on it, and behind it
pub pick_split : (f : Passes) (i : ℕ) (before : Forest) (k : ℕ) (body : Body) (kids after : Forest) →
    pick f (entries i (beside before (node k body kids after)))
    ≡ pick f (entries i before) ++ (pick (λ m. f ((1, place i before) ∷ m)) (own k body kids) ++ pick f (entries (suc (place i before)) after))
pick_split f i none k body kids after = pick_node f i k body kids after
pick_split f i (node n b ks rest) k body kids after =
    pick_node f i n b ks (beside rest (node k body kids after))
    ∙ ap (λ (l : List NodeRef). pick (λ m. f ((1, i) ∷ m)) (own n b ks) ++ l) (pick_split f (suc i) rest k body kids after)
    ∙ sym (append_assoc (pick (λ m. f ((1, i) ∷ m)) (own n b ks)) (pick f (entries (suc i) rest))
    (pick (λ m. f ((1, place (suc i) rest) ∷ m)) (own k body kids) ++ pick f (entries (suc (place (suc i) rest)) after)))
    ∙ ap (λ (l : List NodeRef). l ++ (pick (λ m. f ((1, place (suc i) rest) ∷ m)) (own k body kids) ++ pick f (entries (suc (place (suc i) rest)) after))) (sym (pick_node f i n b ks rest))

-- a test of what a path has behind its first step
abbrev pub inner : Passes → Passes
inner g [] x = false
inner g (s ∷ m) x = g m x

pub pick_early : (f g : Passes) (i : ℕ) (before : Forest) → ((j : ℕ) (m : Path) (x : Thing) → j < place i before → f ((1, j) ∷ m) x ≡ g m x) → pick f (entries i before) ≡ pick (inner g) (entries i before)
pick_early f g i none same = refl
pick_early f g i (node n body kids rest) same =
    let later : suc i ≤ place (suc i) rest = place_later (suc i) rest in
    let one : pick (λ m. f ((1, i) ∷ m)) (own n body kids) ≡ pick g (own n body kids) = pick_same (λ m. f ((1, i) ∷ m)) g (λ m x. same i m x (omega (arith, later))) (own n body kids) in
    let more : pick f (entries (suc i) rest) ≡ pick (inner g) (entries (suc i) rest) = pick_early f g (suc i) rest (λ j m x less. same j m x less) in
    pick_node f i n body kids rest ∙ (λ q. one q ++ more q) ∙ sym (pick_node (inner g) i n body kids rest)

pub pick_late : (f g : Passes) (i : ℕ) (after : Forest) → ((j : ℕ) (m : Path) (x : Thing) → i ≤ j → f ((1, j) ∷ m) x ≡ g m x) → pick f (entries i after) ≡ pick (inner g) (entries i after)
pick_late f g i none same = refl
pick_late f g i (node n body kids rest) same =
    let one : pick (λ m. f ((1, i) ∷ m)) (own n body kids) ≡ pick g (own n body kids) = pick_same (λ m. f ((1, i) ∷ m)) g (λ m x. same i m x (omega arith)) (own n body kids) in
    let more : pick f (entries (suc i) rest) ≡ pick (inner g) (entries (suc i) rest) = pick_late f g (suc i) rest (λ j m x less. same j m x (omega (arith, less))) in
    pick_node f i n body kids rest ∙ (λ q. one q ++ more q) ∙ sym (pick_node (inner g) i n body kids rest)

never_inner : (m : Path) (x : Thing) → inner (λ m x. false) m x ≡ false
never_inner [] x = refl
never_inner (s ∷ m) x = refl

pub none_early : (f : Passes) (i : ℕ) (before : Forest) → ((j : ℕ) (m : Path) (x : Thing) → j < place i before → f ((1, j) ∷ m) x ≡ false) → pick f (entries i before) ≡ []
none_early f i before never = pick_early f (λ m x. false) i before never ∙ pick_false (inner (λ m x. false)) never_inner (entries i before)

-- of a node and what is below it, where no attribute passes
pub own_front : (g : Passes) (k : ℕ) (body : Body) (kids : Forest) → ((j : ℕ) (x : Thing) → g ((0, j) ∷ []) x ≡ false) →
    pick g (own k body kids) ≡ (if g [] (node_thing k body) then ref.Node (named k) ∷ [] else []) ++ pick g (entries 0 kids)
own_front g k body kids never =
    ap (λ (l : List NodeRef). if g [] (node_thing k body) then ref.Node (named k) ∷ l else l)
    (pick-append g (attribute_entries k 0 (pairs_of body)) (entries 0 kids) ∙ ap (λ (l : List NodeRef). l ++ pick g (entries 0 kids)) (pick_attributes g never k 0 (pairs_of body)))
    ∙ put_front (g [] (node_thing k body)) (ref.Node (named k)) (pick g (entries 0 kids))

pub own_through : (g : Passes) (k : ℕ) (body : Body) (kids : Forest) → ((x : Thing) → g [] x ≡ false) → ((j : ℕ) (x : Thing) → g ((0, j) ∷ []) x ≡ false) →
    pick g (own k body kids) ≡ pick g (entries 0 kids)
own_through g k body kids first never =
    own_front g k body kids never ∙ ap (λ (b : Bool). (if b then ref.Node (named k) ∷ [] else []) ++ pick g (entries 0 kids)) (first (node_thing k body))

-- all nodes of a forest that pass, and its neighbours that pass
abbrev pub nodes_pass : (Thing → Bool) → Passes
nodes_pass t m x = ends_at_node m && t x

abbrev pub heads_pass : (Thing → Bool) → Passes
heads_pass t m x = is_empty m && t x

pub ends_below : (j : ℕ) (m : Path) → ends_at_node ((1, j) ∷ m) ≡ ends_at_node m
ends_below j [] = refl
ends_below j (s ∷ m) = refl

-- a node that passes with all below it
pub own_all : (t : Thing → Bool) (n : ℕ) (body : Body) (kids : Forest) → pick (inner (nodes_pass t)) (entries 0 kids) ≡ took t (all_in kids) →
    pick (nodes_pass t) (own n body kids) ≡ took_one t (n, body) ++ took t (all_in kids)
own_all t n body kids below =
    own_front (nodes_pass t) n body kids (λ j x. refl)
    ∙ ap (λ (l : List NodeRef). took_one t (n, body) ++ l) (pick_late (nodes_pass t) (nodes_pass t) 0 kids (λ j m x less. ap (λ (b : Bool). b && t x) (ends_below j m)) ∙ below)

pub all_entries : (t : Thing → Bool) (i : ℕ) (f : Forest) → pick (inner (nodes_pass t)) (entries i f) ≡ took t (all_in f)
all_entries t i none = refl
all_entries t i (node n body kids rest) =
    let one : pick (nodes_pass t) (own n body kids) ≡ took_one t (n, body) ++ took t (all_in kids) = own_all t n body kids (all_entries t 0 kids) in
    let more : pick (inner (nodes_pass t)) (entries (suc i) rest) ≡ took t (all_in rest) = all_entries t (suc i) rest in
    pick_node (inner (nodes_pass t)) i n body kids rest
    ∙ (λ q. one q ++ more q)
    ∙ append_assoc (took_one t (n, body)) (took t (all_in kids)) (took t (all_in rest))
    ∙ ap (λ (l : List NodeRef). took_one t (n, body) ++ l) (sym (took-append t (all_in kids) (all_in rest)))

pub head_entries : (t : Thing → Bool) (i : ℕ) (f : Forest) → pick (inner (heads_pass t)) (entries i f) ≡ took t (heads_in f)
head_entries t i none = refl
head_entries t i (node n body kids rest) =
    let one : pick (heads_pass t) (own n body kids) ≡ took_one t (n, body) =
    own_front (heads_pass t) n body kids (λ j x. refl)
    ∙ ap (λ (l : List NodeRef). took_one t (n, body) ++ l) (pick_later (heads_pass t) 0 (λ j m x less. refl) kids) ∙ append-nil (took_one t (n, body)) in
    let more : pick (inner (heads_pass t)) (entries (suc i) rest) ≡ took t (heads_in rest) = head_entries t (suc i) rest in
    pick_node (inner (heads_pass t)) i n body kids rest ∙ (λ q. one q ++ more q)
