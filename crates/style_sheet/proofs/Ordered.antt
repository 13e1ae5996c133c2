-- Rules that are sorted: a greater one before a lesser one.
use Rattle.std.proofs.Common.{◌≡◌, ℕ, suc, ◌+◌, ◌<◌, Bool, true, false, not, ◌&&◌, ◌||◌, cond, List, [], ◌∷◌, map, get_or, Option, Some, None, refl, sym, ap, ◌∙◌, subst, true≢false, arith, slice_get}
use Rattle.std.specs.Prelude.{Contains, nat_eq, nat_lt, int_lt, ◌==◌, option_map}
use Rattle.std.specs.List.{AllByRecursion, IsDistinct}
use Rattle.std.specs.List.Sorted.{IsPermutation, IsSortedBy}
use Rattle.std.specs.declared.cmp.Ordering.{Ordering}
use Rattle.std.specs.declared.cmp.Ordering.TheVariants.{Less, Equal, Greater}
use Rattle.std.specs.Ordering.{is_lt, ordering_then, ordering_reverse, nat_cmp, int_cmp, MatchOrdering}
use Rattle.std.specs.Cmp.{IsTotalOrder, IsStrictWeakOrder, ranks}
use Rattle.std.proofs.lemmas.Cmp.{then_total, on_total, nat_cmp_total, int_cmp_total}
use Rattle.std.proofs.lemmas.List.{get_or-map, length-map}
use Rattle.std.proofs.lemmas.List.Sorted.{ranks_by, IsStrictWeakOrder-flip, sorted_far, Contains-permutation, IsPermutation-sym}
use Rattle.std.proofs.lemmas.Map.Keys.{IsDistinct-IsPermutation, apart_from_distinct}
use Rattle.std.proofs.lemmas.Option.{slice_get-get_or, slice_get_within, get_or_from_slice_get, slice_get-map}
use Rattle.style_sheet.specs.declared.style.Rule.{Rule}
use Rattle.style_sheet.specs.Order.{is_less, AreGreatestFirst}

-- how two rules compare
abbrev rule_cmp : Rule → Rule → Ordering
rule_cmp a b = ordering_then (nat_cmp a.precedence b.precedence) (ordering_then (int_cmp a.priority b.priority) (nat_cmp a.place b.place))

by_tests : (a e c d f g : Bool) →
    is_lt (ordering_then (cond a Less (cond e Equal Greater))
    (ordering_then (cond c Less (cond d Greater Equal)) (cond f Less (cond g Equal Greater))))
    ≡ (a || (e && (c || (not d && f))))
by_tests true e c d f g = refl
by_tests false false c d f g = refl
by_tests false true true d f g = refl
by_tests false true false true f g = refl
by_tests false true false false true g = refl
by_tests false true false false false true = refl
by_tests false true false false false false = refl

less_by_cmp : (a b : Rule) → is_lt (rule_cmp a b) ≡ is_less a b
less_by_cmp a b =
    by_tests (nat_lt a.precedence b.precedence) (a.precedence == b.precedence) (int_lt a.priority b.priority)
    (int_lt b.priority a.priority) (nat_lt a.place b.place) (a.place == b.place)

rule_cmp-total : IsTotalOrder rule_cmp
rule_cmp-total =
    then_total (on_total (λ (r : Rule). r.precedence) nat_cmp_total)
    (then_total (on_total (λ (r : Rule). r.priority) int_cmp_total) (on_total (λ (r : Rule). r.place) nat_cmp_total))

pub greater-ranks : IsStrictWeakOrder (λ (x y : Rule). is_less y x)
greater-ranks = subst IsStrictWeakOrder (λ i. λ x y. less_by_cmp y x i)
    (IsStrictWeakOrder-flip (λ x y. is_lt (rule_cmp x y)) (ranks_by rule_cmp-total (λ (r : Rule). r)))

-- of two rules with places of their own one is less
other_way : (r s : Ordering) → s ≡ ordering_reverse r → is_lt r ≡ false → (r ≡ Equal → ⊥) → is_lt s ≡ true
other_way Less s e not_less apart = absurd (true≢false not_less)
other_way Equal s e not_less apart = absurd (apart refl)
other_way Greater s e not_less apart = ap is_lt e

last_ties : (p q r : Ordering) → ordering_then p (ordering_then q r) ≡ Equal → r ≡ Equal
last_ties Equal Equal r e = e
last_ties Equal Less r e = cc
last_ties Equal Greater r e = cc
last_ties Less q r e = cc
last_ties Greater q r e = cc

ties_same : (x y : ℕ) → nat_cmp x y ≡ Equal → x ≡ y
ties_same x y e = subst (λ (r : Ordering). MatchOrdering r (x < y) (x ≡ y) (y < x)) e (ranks x y)

less_or_less : (x y : Rule) → is_less x y ≡ false → (x.place ≡ y.place → ⊥) → is_less y x ≡ true
less_or_less x y not_less apart =
    sym (less_by_cmp y x)
    ∙ other_way (rule_cmp x y) (rule_cmp y x) (rule_cmp-total.antisymm y x) (less_by_cmp x y ∙ not_less)
    (λ e. apart (ties_same x.place y.place
    (last_ties (nat_cmp x.precedence y.precedence) (int_cmp x.priority y.priority) (nat_cmp x.place y.place) e)))

-- rules that have their numbers as their places have places of their own
abbrev has_place_of : Rule → Rule → Bool
has_place_of x y = nat_eq x.place y.place

later : (x : Rule) (rules : List Rule) → ((k : ℕ) (y : Rule) → slice_get rules k ≡ Some y → x.place < y.place) →
    AllByRecursion (λ y. has_place_of x y ≡ false) rules
later x [] above = tt
later x (y ∷ rules) above = let less : x.place < y.place = above 0 y refl in (grind arith, later x rules (λ k z at. above (suc k) z at))

distinct : (n : ℕ) (rules : List Rule) → ((k : ℕ) (y : Rule) → slice_get rules k ≡ Some y → y.place ≡ n + k) → IsDistinct has_place_of rules
unfolding IsDistinct
distinct n [] places = tt
distinct n (x ∷ rules) places = (
  later x rules (λ k y at. omega (arith, places 0 x refl, places (suc k) y at)),
  distinct (n + 1) rules (λ k y at. omega (arith, places (suc k) y at)),
)

-- a list of rules and the list of their places
abbrev place_of : Rule → ℕ
place_of rule = rule.place

is_in : (rules : List Rule) (n : ℕ) (rule : Rule) → slice_get rules n ≡ Some rule → Contains rules rule
is_in rules n rule at = (n, slice_get_within rules n rule at, get_or_from_slice_get rules n rule rule at)

place-in : (rules : List Rule) (rule : Rule) → Contains rules rule → Contains (map place_of rules) rule.place
place-in rules rule there = (
  there.0,
  subst (λ n. there.0 < n) (sym (length-map rules place_of)) there.1,
  get_or-map place_of rules there.0 rule rule.place there.1
      ∙ ap place_of there.2,
)

rule_at_place : (rules : List Rule) (i n : ℕ) → slice_get (map place_of rules) i ≡ Some n →
    (rule : Rule) × (slice_get rules i ≡ Some rule) × (rule.place ≡ n)
rule_at_place rules i n at = by (slice_get rules i) refl (sym (slice_get-map place_of rules i) ∙ at)
  where
    by : (o : Option Rule) → slice_get rules i ≡ o → option_map place_of o ≡ Some n →
        (rule : Rule) × (slice_get rules i ≡ Some rule) × (rule.place ≡ n)
    by None e is = absurd (cc)
    by (Some rule) e is = (rule, e, cc)

one_rule : (o : Option Rule) (x y : Rule) → o ≡ Some x → o ≡ Some y → x ≡ y
one_rule o x y is also = let same : Some x ≡ Some y = sym is ∙ also in cc

module _ (rules sorted : List Rule) (places : (n : ℕ) (rule : Rule) → slice_get rules n ≡ Some rule → rule.place ≡ n)
    (moved : IsPermutation rules sorted) where
  at_own_place : (rule : Rule) (n : ℕ) → Contains rules rule → rule.place ≡ n → slice_get rules n ≡ Some rule
  at_own_place rule n there is =
      let at : slice_get rules there.0 ≡ Some rule = slice_get-get_or rules there.0 rule there.1 ∙ ap Some there.2 in
      subst (λ k. slice_get rules k ≡ Some rule) (sym (places there.0 rule at) ∙ is) at

  numbered : (i n : ℕ) (rule : Rule) → slice_get sorted i ≡ Some rule → rule.place ≡ n → slice_get rules n ≡ Some rule
  numbered i n rule at is =
      at_own_place rule n (Contains-permutation sorted rules rule (IsPermutation-sym rules sorted moved) (is_in sorted i rule at)) is

  apart : (i j : ℕ) (x y : Rule) → i < j → slice_get sorted i ≡ Some x → slice_get sorted j ≡ Some y → x.place ≡ y.place → ⊥
  apart i j x y before at_i at_j same =
      let own : IsDistinct has_place_of sorted =
      IsDistinct-IsPermutation has_place_of (λ a b. grind arith) rules sorted moved
      (distinct 0 rules (λ k z at. places k z at ∙ omega arith)) in
      let differ : has_place_of (get_or sorted i x) (get_or sorted j x) ≡ false =
      apart_from_distinct has_place_of sorted i j x own before (slice_get_within sorted j y at_j) in
      let first : get_or sorted i x ≡ x = get_or_from_slice_get sorted i x x at_i in
      let second : get_or sorted j x ≡ y = get_or_from_slice_get sorted j y x at_j in
      let told : nat_eq x.place y.place ≡ false = sym (λ i. has_place_of (first i) (second i)) ∙ differ in
      grind arith

  pub greatest-from_sorted : IsSortedBy (λ x y. is_less y x) sorted → AreGreatestFirst rules (map place_of sorted)
  greatest-from_sorted up = record {
    all = λ n rule at. subst (Contains (map place_of sorted)) (places n rule at)
        (place-in sorted rule (Contains-permutation rules sorted rule moved (is_in rules n rule at)));
    known = λ i n at. let there = rule_at_place sorted i n at in (there.0, numbered i n there.0 there.1 there.2);
    descending = λ i j m n a b before at_i at_j is_a is_b.
        let first = rule_at_place sorted i m at_i in
        let second = rule_at_place sorted j n at_j in
        let x : Rule = first.0 in
        let y : Rule = second.0 in
        let not_less : is_less (get_or sorted i x) (get_or sorted j x) ≡ false =
        sorted_far (λ (v w : Rule). is_less w v) greater-ranks sorted up i j x (omega arith) (slice_get_within sorted j y second.1) in
        let at_first : get_or sorted i x ≡ x = get_or_from_slice_get sorted i x x first.1 in
        let at_second : get_or sorted j x ≡ y = get_or_from_slice_get sorted j y x second.1 in
        let x_is : x ≡ a = one_rule (slice_get rules m) x a (numbered i m x first.1 first.2) is_a in
        let y_is : y ≡ b = one_rule (slice_get rules n) y b (numbered j n y second.1 second.2) is_b in
        let less : is_less y x ≡ true =
        less_or_less x y (sym (λ k. is_less (at_first k) (at_second k)) ∙ not_less) (apart i j x y before first.1 second.1) in
        sym (λ k. is_less (y_is k) (x_is k)) ∙ less;
  }
