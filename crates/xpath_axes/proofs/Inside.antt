-- The descendants of a node are all nodes below it, in document order.
use Rattle.std.proofs.Common.{◌≡◌, ℕ, suc, ◌&&◌, inl, inr, Bool, true, false, List, [], ◌∷◌, ◌++◌, map, Option, Some, None, refl, sym, ap, ◌∙◌}
use Rattle.std.specs.List.{AllByRecursion}
use Rattle.std.proofs.lemmas.Option.{none-some}
use Rattle.serna_kinds.specs.declared.cells.NodeName.{NodeName}
use Rattle.serna_kinds.specs.declared.cells.NodeRef.{NodeRef}
use Rattle.serna_kinds.specs.declared.cells.NodeRef.TheVariants as ref
use Rattle.serna_kinds.specs.declared.expressions.Axis.TheVariants as axis
use Rattle.source_model.specs.Source.{Body, Forest, none, node, Source}
use Rattle.source_model.specs.Cells.{Spot, spot_of, named}
use Rattle.source_model.specs.Paths.{Path, Thing, attribute_entries, entries, entries_of, behind}
use Rattle.source_model.specs.Attributes.{pairs_of}
use Rattle.source_model.specs.Axes.{pick, down, is_below, ends_at_node}
use Rattle.source_model.specs.Logged.{every}
use Rattle.source_model.proofs.Children.{Passes, own, downs, pick-append, pick_same, pick_attributes, pick_node, stands}
use Rattle.source_model.proofs.Parents.{behind_is}

-- the numbers of all nodes of a forest, in document order
abbrev pub all_numbers : Forest → List ℕ
all_numbers none = []
all_numbers (node n body kids rest) = n ∷ (all_numbers kids ++ all_numbers rest)

abbrev refs_of : List ℕ → List NodeRef
refs_of ns = map ref.Node (map named ns)

refs-append : (ns ms : List ℕ) → refs_of (ns ++ ms) ≡ refs_of ns ++ refs_of ms
refs-append [] ms = refl
refs-append (n ∷ ns) ms = ap (λ (l : List NodeRef). ref.Node (named n) ∷ l) (refs-append ns ms)

pub all_front : (P : NodeName → Type 0) (xs ys : List ℕ) → AllByRecursion P (map named (xs ++ ys)) → AllByRecursion P (map named xs)
all_front P [] ys all = tt
all_front P (x ∷ xs) ys all = (all.0, all_front P xs ys all.1)

pub all_back : (P : NodeName → Type 0) (xs ys : List ℕ) → AllByRecursion P (map named (xs ++ ys)) → AllByRecursion P (map named ys)
all_back P [] ys all = all
all_back P (x ∷ xs) ys all = all_back P xs ys all.1

-- entries whose paths end at nodes
abbrev ends : Passes
ends m t = ends_at_node m

ends-first : (i : ℕ) (m : Path) → ends_at_node ((1, i) ∷ m) ≡ ends_at_node m
ends-first i [] = refl
ends-first i (s ∷ m) = refl

ends_own : (n : ℕ) (body : Body) (kids : Forest) → pick ends (own n body kids) ≡ ref.Node (named n) ∷ pick ends (entries 0 kids)
ends_own n body kids =
    ap (λ (l : List NodeRef). ref.Node (named n) ∷ l)
    (pick-append ends (attribute_entries n 0 (pairs_of body)) (entries 0 kids)
    ∙ ap (λ (l : List NodeRef). l ++ pick ends (entries 0 kids)) (pick_attributes ends (λ j t. refl) n 0 (pairs_of body)))

ends_in : (i : ℕ) (f : Forest) → pick ends (entries i f) ≡ refs_of (all_numbers f)
ends_in i none = refl
ends_in i (node n body kids rest) =
    pick_node ends i n body kids rest
    ∙ (λ j. pick_same (λ m. ends ((1, i) ∷ m)) ends (λ m t. ends-first i m) (own n body kids) j ++ ends_in (suc i) rest j)
    ∙ ap (λ (l : List NodeRef). l ++ refs_of (all_numbers rest)) (ends_own n body kids)
    ∙ ap (λ (l : List NodeRef). ref.Node (named n) ∷ (l ++ refs_of (all_numbers rest))) (ends_in 0 kids)
    ∙ ap (λ (l : List NodeRef). ref.Node (named n) ∷ l) (sym (refs-append (all_numbers kids) (all_numbers rest)))

-- those that are below a node, by their paths from it
abbrev lower : Passes
lower m t = is_below m && ends_at_node m

lower_in : (i : ℕ) (f : Forest) → pick lower (entries i f) ≡ pick ends (entries i f)
lower_in i none = refl
lower_in i (node n body kids rest) =
    pick_node lower i n body kids rest
    ∙ ap (λ (l : List NodeRef). pick (λ m. ends ((1, i) ∷ m)) (own n body kids) ++ l) (lower_in (suc i) rest)
    ∙ sym (pick_node ends i n body kids rest)

lower_own : (n : ℕ) (body : Body) (kids : Forest) → pick lower (own n body kids) ≡ refs_of (all_numbers kids)
lower_own n body kids =
    pick-append lower (attribute_entries n 0 (pairs_of body)) (entries 0 kids)
    ∙ ap (λ (l : List NodeRef). l ++ pick lower (entries 0 kids)) (pick_attributes lower (λ j t. refl) n 0 (pairs_of body))
    ∙ lower_in 0 kids ∙ ends_in 0 kids

ends-append : (n q : Path) (s : ℕ × ℕ) → ends_at_node (n ++ s ∷ q) ≡ ends_at_node (s ∷ q)
ends-append [] q s = refl
ends-append (a ∷ []) q s = refl
ends-append (a ∷ b ∷ n) q s = ends-append (b ∷ n) q s

abbrev below_by : Path → Option Path → Bool
below_by m o = elim o [ None ↦ false | Some q ↦ is_below q ] && ends_at_node m

lower_by : (n m : Path) (t : Thing) (o : Option Path) → behind n m ≡ o → (below_by m o && true) ≡ elim o [ None ↦ false | Some q ↦ lower q t ]
lower_by n m t None e = refl
lower_by n m t (Some []) e = refl
lower_by n m t (Some (s ∷ q)) e = and_true (ends_at_node m) ∙ ap ends_at_node (sym (behind_is n m (s ∷ q) e)) ∙ ends-append n q s
  where
    and_true : (b : Bool) → (b && true) ≡ b
    and_true true = refl
    and_true false = refl

abbrev picked : Source → Option Path → List NodeRef
picked source o = elim o [ None ↦ [] | Some n ↦ pick (λ m t. (down is_below n m && ends_at_node m) && true) (entries_of source) ]

same_spot : (spot other : Spot) → Some spot ≡ Some other → spot.kids ≡ other.kids
same_spot spot other e = ap (λ (o : Option Spot). elim o [ None ↦ spot.kids | Some s ↦ s.kids ]) e

pub descendants : (source : Source) (n : NodeName) (spot : Spot) → spot_of source n.0 ≡ Some spot → every axis.Descendant source (ref.Node n) ≡ map ref.Node (map named (all_numbers spot.kids))
descendants source n spot at = elim (stands None n.0 0 source.tree) [
  | inl is ↦
      ap (picked source) is.path_is
      ∙ pick_same (λ m t. (down is_below ((1, is.place) ∷ is.more) m && ends_at_node m) && true) (downs lower ((1, is.place) ∷ is.more))
      (λ m t. lower_by ((1, is.place) ∷ is.more) m t (behind ((1, is.place) ∷ is.more) m) refl) (entries_of source)
      ∙ is.below lower
      ∙ lower_own n.0 is.spot.body is.spot.kids
      ∙ ap (λ (f : Forest). refs_of (all_numbers f)) (same_spot is.spot spot (sym is.spot_is ∙ at))
  | inr gone ↦ absurd (none-some spot (sym gone.spot_is ∙ at))
]

pub descendants_gone : (source : Source) (n : NodeName) → spot_of source n.0 ≡ None → every axis.Descendant source (ref.Node n) ≡ []
descendants_gone source n at = elim (stands None n.0 0 source.tree) [
  | inl is ↦ absurd (none-some is.spot (sym at ∙ is.spot_is))
  | inr gone ↦ ap (picked source) gone.path_is
]
