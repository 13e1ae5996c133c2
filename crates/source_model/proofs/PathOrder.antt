-- Document order on paths is a strict order, and the enumeration of a source stands in it.
use Rattle.std.proofs.Common.{◌≡◌, ℕ, suc, ◌<◌, ◌≤◌, ◌==◌, ◌&&◌, ◌||◌, Bool, true, false, nat_lt, List, [], ◌∷◌, Option, Some, None, refl, sym, ap, ◌∙◌, arith, true≢false}
use Rattle.std.proofs.lemmas.Bool.{eq-eqb, eqb-true}
use Rattle.std.proofs.lemmas.Bool.Decides.{Decides-ltb, nat_tests}
use Rattle.std.specs.Prelude.{Contains, ◌↔◌}
use Rattle.std.specs.List.{AllByRecursion}
use Rattle.serna_kinds.specs.declared.cells.AttrPair.{AttrPair}
use Rattle.serna_kinds.specs.declared.cells.NodeRef.{NodeRef}
use Rattle.source_model.specs.Source.{Body, Forest, none, node, Source}
use Rattle.source_model.specs.Paths.{Path, Entry, attribute_entries, deeper, entries, is_before, path_of, same_step, step_before}
use Rattle.source_model.specs.Attributes.{pairs_of}
use Rattle.source_model.specs.DocumentOrder.{AreInOrder, comes_before, is_path_before, is_earlier}
use Rattle.source_model.proofs.Steps.{Compared, same, less, more, compared}
use Rattle.source_model.proofs.Children.{own}
use Rattle.source_model.proofs.Ordered.{all_weaker, all_always, all_append, in_order_append, IsStrict, in_contained, contained, same_from_members}

-- paths with the same first step
pub is_before-same : (s : ℕ × ℕ) (p q : Path) → is_before (s ∷ p) (s ∷ q) ≡ is_before p q
is_before-same s p q = by (compared s s)
  where
    by : Compared s s → is_before (s ∷ p) (s ∷ q) ≡ is_before p q
    by (same e f l r) = λ i. l i || (e i && is_before p q)
    by (less e f l r) = absurd (true≢false (sym l ∙ r))
    by (more e f l r) = absurd (true≢false (sym r ∙ l))

and_both : (a b : Bool) → (a && b) ≡ true → (a ≡ true) × (b ≡ true)
and_both true true e = (refl, refl)
and_both true false e = absurd (true≢false (sym e))
and_both false b e = absurd (true≢false (sym e))

pub same_step-is : (a b : ℕ × ℕ) → same_step a b ≡ true → a ≡ b
same_step-is a b e =
    let parts = and_both (a.0 == b.0) (a.1 == b.1) e in
    let kind : a.0 ≡ b.0 = eqb-true a.0 b.0 parts.0 in
    let place : a.1 ≡ b.1 = eqb-true a.1 b.1 parts.1 in
    λ i. (kind i, place i)

pub not_before_itself : (p : Path) → is_before p p ≡ false
not_before_itself [] = refl
not_before_itself (a ∷ p) = is_before-same a p p ∙ not_before_itself p

numbers_onward : (a b c x y z : ℕ) → (nat_lt a b || (a == b && nat_lt x y)) ≡ true → (nat_lt b c || (b == c && nat_lt y z)) ≡ true → (nat_lt a c || (a == c && nat_lt x z)) ≡ true
numbers_onward a b c x y z one other = grind (arith, nat_tests)

steps_onward : (a b c : ℕ × ℕ) → step_before a b ≡ true → step_before b c ≡ true → step_before a c ≡ true
steps_onward a b c one other = numbers_onward a.0 b.0 c.0 a.1 b.1 c.1 one other

-- the order of two longer paths, by the tests of their first steps
abbrev ahead : Path → Path → Bool → Bool → Bool
ahead p q s l = l || (s && is_before p q)

not_true : (b : Bool) → b ≡ true → b ≡ false → ⊥
not_true b one other = true≢false (sym one ∙ other)

paths_onward : (a b c : ℕ × ℕ) (p q r : Path) → Compared a b → Compared b c → (is_before p q ≡ true → is_before q r ≡ true → is_before p r ≡ true) →
    is_before (a ∷ p) (b ∷ q) ≡ true → is_before (b ∷ q) (c ∷ r) ≡ true → is_before (a ∷ p) (c ∷ r) ≡ true
paths_onward a b c p q r (same e f l g) (same e2 f2 l2 g2) inner one other =
    ap (λ (s : ℕ × ℕ). is_before (s ∷ p) (c ∷ r)) (same_step-is a b e)
    ∙ (λ i. ahead p r (e2 i) (l2 i))
    ∙ inner (sym (λ i. ahead p q (e i) (l i)) ∙ one) (sym (λ i. ahead q r (e2 i) (l2 i)) ∙ other)
paths_onward a b c p q r (same e f l g) (less e2 f2 l2 g2) inner one other = ap (λ (s : ℕ × ℕ). is_before (s ∷ p) (c ∷ r)) (same_step-is a b e) ∙ (λ i. ahead p r (e2 i) (l2 i))
paths_onward a b c p q r (same e f l g) (more e2 f2 l2 g2) inner one other = absurd (not_true _ other (λ i. ahead q r (e2 i) (l2 i)))
paths_onward a b c p q r (less e f l g) (same e2 f2 l2 g2) inner one other =
    ap (λ (s : ℕ × ℕ). is_before (a ∷ p) (s ∷ r)) (sym (same_step-is b c e2)) ∙ (λ i. ahead p r (e i) (l i))
paths_onward a b c p q r (less e f l g) (less e2 f2 l2 g2) inner one other = ap (ahead p r (same_step a c)) (steps_onward a b c l l2)
paths_onward a b c p q r (less e f l g) (more e2 f2 l2 g2) inner one other = absurd (not_true _ other (λ i. ahead q r (e2 i) (l2 i)))
paths_onward a b c p q r (more e f l g) next inner one other = absurd (not_true _ one (λ i. ahead p q (e i) (l i)))

pub before_onward : (p q r : Path) → is_before p q ≡ true → is_before q r ≡ true → is_before p r ≡ true
before_onward [] [] r one other = absurd (true≢false (sym one))
before_onward [] (b ∷ q) [] one other = absurd (true≢false (sym other))
before_onward [] (b ∷ q) (c ∷ r) one other = refl
before_onward (a ∷ p) [] r one other = absurd (true≢false (sym one))
before_onward (a ∷ p) (b ∷ q) [] one other = absurd (true≢false (sym other))
before_onward (a ∷ p) (b ∷ q) (c ∷ r) one other = paths_onward a b c p q r (compared a b) (compared b c) (before_onward p q r) one other

steps_same : (a b : ℕ × ℕ) (p q : Path) → Compared a b → (is_before p q ≡ false → is_before q p ≡ false → p ≡ q) → is_before (a ∷ p) (b ∷ q) ≡ false → is_before (b ∷ q) (a ∷ p) ≡ false → a ∷ p ≡ b ∷ q
steps_same a b p q (same e f l g) inner one other =
    let first : a ≡ b = same_step-is a b e in
    let rest : p ≡ q = inner (sym (λ i. ahead p q (e i) (l i)) ∙ one) (sym (λ i. ahead q p (f i) (g i)) ∙ other) in
    λ i. first i ∷ rest i
steps_same a b p q (less e f l g) inner one other = absurd (not_true _ (λ i. ahead p q (e i) (l i)) one)
steps_same a b p q (more e f l g) inner one other = absurd (not_true _ (λ i. ahead q p (f i) (g i)) other)

-- two paths of which neither stands before the other are one
pub same_where_neither : (p q : Path) → is_before p q ≡ false → is_before q p ≡ false → p ≡ q
same_where_neither [] [] one other = refl
same_where_neither [] (b ∷ q) one other = absurd (true≢false one)
same_where_neither (a ∷ p) [] one other = absurd (true≢false other)
same_where_neither (a ∷ p) (b ∷ q) one other = steps_same a b p q (compared a b) (same_where_neither p q) one other

-- entries by their paths
pub all_deeper : (P : Path → Type 0) (s : ℕ × ℕ) (es : List Entry) → AllByRecursion (λ (e : Entry). P (s ∷ e.path)) es → AllByRecursion (λ (e : Entry). P e.path) (deeper s es)
all_deeper P s [] all = tt
all_deeper P s (e ∷ es) all = (all.0, all_deeper P s es all.1)

in_order_deeper : (s : ℕ × ℕ) (es : List Entry) → AreInOrder comes_before es → AreInOrder comes_before (deeper s es)
in_order_deeper s [] all = tt
in_order_deeper s (e ∷ es) all = (
  all_deeper (λ q. is_before (s ∷ e.path) q ≡ true) s es
      (all_weaker (λ (x : Entry). is_before e.path x.path ≡ true) (λ (x : Entry). is_before (s ∷ e.path) (s ∷ x.path) ≡ true) (λ x before. is_before-same s e.path x.path ∙ before) es all.0),
  in_order_deeper s es all.1,
)

-- a path that begins with a step of a kind, from a place on
abbrev pub IsFrom : ℕ → ℕ → Path → Type 0
IsFrom kind j [] = ⊥
IsFrom kind j (s ∷ p) = (s.0 ≡ kind) × (j ≤ s.1)

from_next : (kind j : ℕ) (p : Path) → IsFrom kind (suc j) p → IsFrom kind j p
from_next kind j [] is = is
from_next kind j (s ∷ p) is = let le = is.1 in (is.0, omega (arith, le))

step_later : (kind j : ℕ) (s : ℕ × ℕ) → s.0 ≡ kind → j < s.1 → step_before (kind, j) s ≡ true
step_later kind j s e l = by (nat_lt kind s.0)
  where
    by : (b : Bool) → (b || (kind == s.0 && nat_lt j s.1)) ≡ true
    by true = refl
    by false = λ i. eq-eqb kind s.0 (sym e) i && (Decides-ltb j s.1).1 l i

before_later : (kind j : ℕ) (p q : Path) → IsFrom kind (suc j) q → is_before ((kind, j) ∷ p) q ≡ true
before_later kind j p [] is = absurd is
before_later kind j p (s ∷ q) is = ap (ahead p q (same_step (kind, j) s)) (step_later kind j s is.0 (let le = is.1 in omega (arith, le)))

before_other_kind : (p q : Path) → IsFrom 0 0 p → IsFrom 1 0 q → is_before p q ≡ true
before_other_kind [] q one other = absurd one
before_other_kind (a ∷ p) [] one other = absurd other
before_other_kind (a ∷ p) (b ∷ q) one other = λ i. ahead p q (same_step a b) (nat_lt (one.0 i) (other.0 i) || (a.0 == b.0 && nat_lt a.1 b.1))

pub from_entries : (i : ℕ) (f : Forest) → AllByRecursion (λ (e : Entry). IsFrom 1 i e.path) (entries i f)
from_entries i none = tt
from_entries i (node n body kids rest) =
    all_append (λ (e : Entry). IsFrom 1 i e.path) (deeper (1, i) (own n body kids)) (entries (suc i) rest)
    (all_deeper (IsFrom 1 i) (1, i) (own n body kids) (all_always (λ (e : Entry). IsFrom 1 i ((1, i) ∷ e.path)) (λ e. (refl, omega arith)) (own n body kids)))
    (all_weaker (λ (e : Entry). IsFrom 1 (suc i) e.path) (λ (e : Entry). IsFrom 1 i e.path) (λ e is. from_next 1 i e.path is) (entries (suc i) rest) (from_entries (suc i) rest))

from_attributes : (n i : ℕ) (pairs : List AttrPair) → AllByRecursion (λ (e : Entry). IsFrom 0 i e.path) (attribute_entries n i pairs)
from_attributes n i [] = tt
from_attributes n i (pair ∷ pairs) = (
  (refl, omega arith),
  all_weaker (λ (e : Entry). IsFrom 0 (suc i) e.path) (λ (e : Entry). IsFrom 0 i e.path) (λ e is. from_next 0 i e.path is) (attribute_entries n (suc i) pairs) (from_attributes n (suc i) pairs),
)

in_order_attributes : (n i : ℕ) (pairs : List AttrPair) → AreInOrder comes_before (attribute_entries n i pairs)
in_order_attributes n i [] = tt
in_order_attributes n i (pair ∷ pairs) = (
  all_weaker (λ (e : Entry). IsFrom 0 (suc i) e.path) (λ (e : Entry). is_before ((0, i) ∷ []) e.path ≡ true) (λ e is. before_later 0 i [] e.path is) (attribute_entries n (suc i) pairs)
      (from_attributes n (suc i) pairs),
  in_order_attributes n (suc i) pairs,
)

after_empty : (kind : ℕ) (p : Path) → IsFrom kind 0 p → is_before [] p ≡ true
after_empty kind [] is = absurd is
after_empty kind (s ∷ p) is = refl

in_order_own : (n : ℕ) (body : Body) (kids : Forest) → AreInOrder comes_before (entries 0 kids) → AreInOrder comes_before (own n body kids)
in_order_own n body kids below =
    let attributes : List Entry = attribute_entries n 0 (pairs_of body) in (
      all_append (λ (e : Entry). is_before [] e.path ≡ true) attributes (entries 0 kids)
          (all_weaker (λ (e : Entry). IsFrom 0 0 e.path) (λ (e : Entry). is_before [] e.path ≡ true) (λ e is. after_empty 0 e.path is) attributes (from_attributes n 0 (pairs_of body)))
          (all_weaker (λ (e : Entry). IsFrom 1 0 e.path) (λ (e : Entry). is_before [] e.path ≡ true) (λ e is. after_empty 1 e.path is) (entries 0 kids) (from_entries 0 kids)),
      in_order_append comes_before attributes (entries 0 kids) (in_order_attributes n 0 (pairs_of body)) below
          (all_weaker (λ (e : Entry). IsFrom 0 0 e.path) (λ (e : Entry). AllByRecursion (λ (x : Entry). is_before e.path x.path ≡ true) (entries 0 kids))
          (λ e is. all_weaker (λ (x : Entry). IsFrom 1 0 x.path) (λ (x : Entry). is_before e.path x.path ≡ true) (λ x from. before_other_kind e.path x.path is from) (entries 0 kids) (from_entries 0 kids))
          attributes (from_attributes n 0 (pairs_of body))),
    )

pub in_order_entries : (i : ℕ) (f : Forest) → AreInOrder comes_before (entries i f)
in_order_entries i none = tt
in_order_entries i (node n body kids rest) =
    in_order_append comes_before (deeper (1, i) (own n body kids)) (entries (suc i) rest) (in_order_deeper (1, i) (own n body kids) (in_order_own n body kids (in_order_entries 0 kids)))
    (in_order_entries (suc i) rest)
    (all_deeper (λ p. AllByRecursion (λ (x : Entry). is_before p x.path ≡ true) (entries (suc i) rest)) (1, i) (own n body kids)
    (all_always (λ (e : Entry). AllByRecursion (λ (x : Entry). is_before ((1, i) ∷ e.path) x.path ≡ true) (entries (suc i) rest))
    (λ e. all_weaker (λ (x : Entry). IsFrom 1 (suc i) x.path) (λ (x : Entry). is_before ((1, i) ∷ e.path) x.path ≡ true) (λ x from. before_later 1 i e.path x.path from) (entries (suc i) rest)
    (from_entries (suc i) rest)) (own n body kids)))

-- the order of a source's nodes is as strict
earlier_onward : (o p q : Option Path) → is_path_before o p ≡ true → is_path_before p q ≡ true → is_path_before o q ≡ true
earlier_onward None p q one other = absurd (true≢false (sym one))
earlier_onward (Some x) None q one other = absurd (true≢false (sym one))
earlier_onward (Some x) (Some y) None one other = absurd (true≢false (sym other))
earlier_onward (Some x) (Some y) (Some z) one other = before_onward x y z one other

not_earlier : (o : Option Path) → is_path_before o o ≡ false
not_earlier None = refl
not_earlier (Some p) = not_before_itself p

pub earlier_strict : (source : Source) → IsStrict (is_earlier source)
earlier_strict source = record {
  not_itself = λ a. not_earlier (path_of source a);
  onward = λ a b c one other. earlier_onward (path_of source a) (path_of source b) (path_of source c) one other;
}

pub same_refs : (source : Source) (refs others : List NodeRef) → AreInOrder (is_earlier source) refs → AreInOrder (is_earlier source) others →
    ((r : NodeRef) → Contains refs r ↔ Contains others r) → refs ≡ others
same_refs source refs others one other members =
    same_from_members (is_earlier source) (earlier_strict source) refs others one other (λ r is. in_contained r others ((members r).0 (contained r refs is)))
    (λ r is. in_contained r refs ((members r).1 (contained r others is)))
