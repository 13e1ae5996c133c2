-- The greatest of the rules that pass a test: what it is among them, and that the first one from the greatest on is it.
use Rattle.std.proofs.Common.{◌≡◌, ℕ, zero, suc, ◌+◌, ◌<◌, ◌≤◌, inl, inr, ◌&&◌, Bool, true, false, List, [], ◌∷◌, Option, Some, None, length, get_or, slice_get, if◌then◌else◌, refl, sym, ap, ◌∙◌, subst, arith, true≢false}
use Rattle.std.proofs.lemmas.Bool.{cases_lt}
use Rattle.std.proofs.lemmas.Option.{none-some, slice_get_within, slice_get-get_or, get_or_from_slice_get}
use Rattle.serna_kinds.specs.declared.cells.NameId.{NameId}
use Rattle.style_sheet.specs.declared.style.Rule.{Rule}
use Rattle.style_sheet.specs.declared.style.Choice.TheVariants as choice
use Rattle.style_sheet.specs.Order.{is_less, AreGreatestFirst}
use Rattle.style_sheet.specs.Sheet.{StyleValue, AreNumbered}
use Rattle.template_choice.specs.Chosen.{Numbered, greater, greatest, can_answer, choice_of, best_of, IsGreatest, NoneFits}
use Rattle.template_choice.proofs.RuleOrder.{less_not_itself, less_one_way, not_less_along, same_place}

-- What the greatest is among rules

-- the greatest of rules that pass, the first of them having this number: it is one of them, and none is greater; or none passes
abbrev pub IsBest : (ℕ → Rule → Bool) → ℕ → List Rule → Option Numbered → Type 0
IsBest test k rules None = (n : ℕ) (other : Rule) → slice_get rules n ≡ Some other → test (k + n) other ≡ false
IsBest test k rules (Some found) =
    ((i : ℕ) × (found.number ≡ k + i) × (slice_get rules i ≡ Some found.rule)) × (test found.number found.rule ≡ true)
    × ((n : ℕ) (other : Rule) → slice_get rules n ≡ Some other → test (k + n) other ≡ true → is_less found.rule other ≡ false)

same_some : {A : Type 0} (a b : A) → Some a ≡ Some b → a ≡ b
same_some a b e = cc

-- a rule behind the first one has a number that is one greater
behind_first : (k n : ℕ) → (k + 1) + n ≡ k + suc n
behind_first k n = omega arith

from_first : (n : ℕ) → 0 + n ≡ n
from_first n = omega arith

behind : (test : ℕ → Rule → Bool) (k : ℕ) (rule : Rule) (rules : List Rule) (found : Numbered) → is_less found.rule rule ≡ false → IsBest test (k + 1) rules (Some found) → IsBest test k (rule ∷ rules) (Some found)
behind test k rule rules found less rest = ((suc rest.0.0, omega (arith, rest.0.1), rest.0.2), rest.1, above)
  where
    above : (n : ℕ) (other : Rule) → slice_get (rule ∷ rules) n ≡ Some other → test (k + n) other ≡ true → is_less found.rule other ≡ false
    above zero other at passes = subst (λ r. is_less found.rule r ≡ false) (same_some rule other at) less
    above (suc n) other at passes = rest.2 n other at (ap (λ m. test m other) (behind_first k n) ∙ passes)

first : (test : ℕ → Rule → Bool) (k : ℕ) (rule : Rule) (rules : List Rule) → test k rule ≡ true →
    ((n : ℕ) (other : Rule) → slice_get rules n ≡ Some other → test ((k + 1) + n) other ≡ true → is_less rule other ≡ false) →
    IsBest test k (rule ∷ rules) (Some (record { number = k; rule = rule }))
first test k rule rules passes rest = ((zero, omega arith, refl), passes, above)
  where
    above : (n : ℕ) (other : Rule) → slice_get (rule ∷ rules) n ≡ Some other → test (k + n) other ≡ true → is_less rule other ≡ false
    above zero other at fits = subst (λ r. is_less rule r ≡ false) (same_some rule other at) (less_not_itself rule)
    above (suc n) other at fits = rest n other at (ap (λ m. test m other) (behind_first k n) ∙ fits)

compared : (test : ℕ → Rule → Bool) (k : ℕ) (rule : Rule) (rules : List Rule) (found : Numbered) (less : Bool) → is_less rule found.rule ≡ less → test k rule ≡ true →
    IsBest test (k + 1) rules (Some found) → IsBest test k (rule ∷ rules) (if less then Some found else Some (record { number = k; rule = rule }))
compared test k rule rules found true is passes rest = behind test k rule rules found (less_one_way rule found.rule is) rest
compared test k rule rules found false is passes rest =
    first test k rule rules passes (λ n other at fits. not_less_along rule found.rule other is (rest.2 n other at fits))

passed_over : (test : ℕ → Rule → Bool) (k : ℕ) (rule : Rule) (rules : List Rule) (found : Option Numbered) → test k rule ≡ false → IsBest test (k + 1) rules found → IsBest test k (rule ∷ rules) found
passed_over test k rule rules None fails rest = none
  where
    none : (n : ℕ) (other : Rule) → slice_get (rule ∷ rules) n ≡ Some other → test (k + n) other ≡ false
    none zero other at = ap (λ m. test m other) (omega arith) ∙ subst (λ r. test k r ≡ false) (same_some rule other at) fails
    none (suc n) other at = sym (ap (λ m. test m other) (behind_first k n)) ∙ rest n other at
passed_over test k rule rules (Some found) fails rest = ((suc rest.0.0, omega (arith, rest.0.1), rest.0.2), rest.1, above)
  where
    above : (n : ℕ) (other : Rule) → slice_get (rule ∷ rules) n ≡ Some other → test (k + n) other ≡ true → is_less found.rule other ≡ false
    above zero other at passes =
        absurd (true≢false (sym passes ∙ ap (λ m. test m other) (omega arith) ∙ subst (λ r. test k r ≡ false) (same_some rule other at) fails))
    above (suc n) other at passes = rest.2 n other at (ap (λ m. test m other) (behind_first k n) ∙ passes)

step : (test : ℕ → Rule → Bool) (k : ℕ) (rule : Rule) (rules : List Rule) (found : Option Numbered) (b : Bool) → test k rule ≡ b → IsBest test (k + 1) rules found →
    IsBest test k (rule ∷ rules) (if b then greater (record { number = k; rule = rule }) found else found)
step test k rule rules found false is rest = passed_over test k rule rules found is rest
step test k rule rules None true is rest = first test k rule rules is (λ n other at fits. absurd (true≢false (sym fits ∙ rest n other at)))
step test k rule rules (Some found) true is rest = compared test k rule rules found (is_less rule found.rule) refl is rest

pub best : (test : ℕ → Rule → Bool) (k : ℕ) (rules : List Rule) → IsBest test k rules (greatest test k rules)
best test k [] = λ n other at. absurd (none-some other at)
best test k (rule ∷ rules) = step test k rule rules (greatest test (k + 1) rules) (test k rule) refl (best test (k + 1) rules)

-- The first rule that passes, from the greatest on

-- none of the rules passes whose numbers stand before a place
abbrev pub NoneBefore : List Rule → List ℕ → (ℕ → Rule → Bool) → ℕ → Type 0
NoneBefore rules numbers test i = (j m : ℕ) (other : Rule) → j < i → slice_get numbers j ≡ Some m → slice_get rules m ≡ Some other → test m other ≡ false

-- where the number of a rule stands
place_of : (rules : List Rule) (numbers : List ℕ) (n : ℕ) (rule : Rule) → AreGreatestFirst rules numbers → slice_get rules n ≡ Some rule → (j : ℕ) × (slice_get numbers j ≡ Some n)
place_of rules numbers n rule order at =
    let there = order.all n rule at in
    (there.0, slice_get-get_or numbers there.0 n there.1 ∙ ap (λ (x : ℕ). Some x) there.2)

-- the rule that the number at a place names, as it is read from the rules
pub read_at : (rules read : List Rule) (numbers : List ℕ) (i : ℕ) (filler : Rule) → AreGreatestFirst rules numbers → i < length numbers → read ≡ rules →
    slice_get rules (get_or numbers i 0) ≡ Some (get_or read (get_or numbers i 0) filler)
read_at rules read numbers i filler order within same =
    let known = order.known i (get_or numbers i 0) (slice_get-get_or numbers i 0 within) in
    known.1
    ∙ sym (ap (λ (r : Rule). Some r) (get_or_from_slice_get rules (get_or numbers i 0) known.0 filler known.1))
    ∙ ap (λ (l : List Rule). Some (get_or l (get_or numbers i 0) filler)) (sym same)

-- one more place
pub none_before-more : (rules : List Rule) (numbers : List ℕ) (test : ℕ → Rule → Bool) (i n : ℕ) (rule : Rule) → slice_get numbers i ≡ Some n → slice_get rules n ≡ Some rule → test n rule ≡ false →
    NoneBefore rules numbers test i → NoneBefore rules numbers test (i + 1)
none_before-more rules numbers test i n rule here at fails before j m other below there standing = elim (cases_lt j i) [
  | inl less ↦ before j m other less there standing
  | inr more ↦ (
      let same : i ≡ j = omega arith in
      let number : n ≡ m = same_some n m (sym here ∙ ap (slice_get numbers) same ∙ there) in
      let alike : rule ≡ other = same_some rule other (sym at ∙ ap (slice_get rules) number ∙ standing) in
      subst (λ r. test m r ≡ false) alike (subst (λ x. test x rule ≡ false) number fails))
]

-- the first that passes is the greatest
first_found : (rules : List Rule) (numbers : List ℕ) (test : ℕ → Rule → Bool) (i n : ℕ) (rule : Rule) (found : Option Numbered) → AreGreatestFirst rules numbers → NoneBefore rules numbers test i →
    slice_get numbers i ≡ Some n → slice_get rules n ≡ Some rule → test n rule ≡ true → IsBest test 0 rules found → choice.Rule n ≡ choice_of found
first_found rules numbers test i n rule None order before here at passes none = absurd (true≢false (sym passes ∙ sym (ap (λ m. test m rule) (from_first n)) ∙ none n rule at))
first_found rules numbers test i n rule (Some found) order before here at passes is = placed (place_of rules numbers found.number found.rule order standing)
  where
    standing : slice_get rules found.number ≡ Some found.rule
    standing = ap (slice_get rules) (omega (arith, is.0.1)) ∙ is.0.2

    placed : (j : ℕ) × (slice_get numbers j ≡ Some found.number) → choice.Rule n ≡ choice.Rule found.number
    placed p = elim (cases_lt p.0 i) [
      | inl less ↦ absurd (true≢false (sym is.1 ∙ before p.0 found.number found.rule less p.1 standing))
      | inr more ↦ elim (cases_lt i p.0) [
        | inl above ↦ absurd (true≢false (sym (order.descending i p.0 n found.number rule found.rule above here p.1 at standing) ∙ is.2 n rule at (ap (λ m. test m rule) (from_first n) ∙ passes)))
        | inr alike ↦ (
            let same : i ≡ p.0 = omega arith in
            ap choice.Rule (same_some n found.number (sym here ∙ ap (slice_get numbers) same ∙ p.1)))
      ]
    ]

pub first_is_best : (rules : List Rule) (numbers : List ℕ) (test : ℕ → Rule → Bool) (i n : ℕ) (rule : Rule) → AreGreatestFirst rules numbers → NoneBefore rules numbers test i →
    slice_get numbers i ≡ Some n → slice_get rules n ≡ Some rule → test n rule ≡ true → choice.Rule n ≡ choice_of (greatest test 0 rules)
first_is_best rules numbers test i n rule order before here at passes = first_found rules numbers test i n rule (greatest test 0 rules) order before here at passes (best test 0 rules)

-- where none passes up to the end there is no greatest
none_found : (rules : List Rule) (numbers : List ℕ) (test : ℕ → Rule → Bool) (i : ℕ) (found : Option Numbered) → AreGreatestFirst rules numbers → NoneBefore rules numbers test i → length numbers ≤ i →
    IsBest test 0 rules found → choice.BuiltIn ≡ choice_of found
none_found rules numbers test i None order before end is = refl
none_found rules numbers test i (Some found) order before end is = absurd (placed (place_of rules numbers found.number found.rule order standing))
  where
    standing : slice_get rules found.number ≡ Some found.rule
    standing = ap (slice_get rules) (omega (arith, is.0.1)) ∙ is.0.2

    placed : (j : ℕ) × (slice_get numbers j ≡ Some found.number) → ⊥
    placed p = true≢false (sym is.1 ∙ before p.0 found.number found.rule (omega (arith, slice_get_within numbers p.0 found.number p.1)) p.1 standing)

pub none_is_best : (rules : List Rule) (numbers : List ℕ) (test : ℕ → Rule → Bool) (i : ℕ) → AreGreatestFirst rules numbers → NoneBefore rules numbers test i → length numbers ≤ i →
    choice.BuiltIn ≡ choice_of (greatest test 0 rules)
none_is_best rules numbers test i order before end = none_found rules numbers test i (greatest test 0 rules) order before end (best test 0 rules)

-- Both parts of a test

both_left : (a b : Bool) → (a && b) ≡ true → a ≡ true
both_left true b e = refl
both_left false b e = e

both_right : (a b : Bool) → (a && b) ≡ true → b ≡ true
both_right true b e = e
both_right false b e = cc

pub both : (a b : Bool) → a ≡ true → b ≡ true → (a && b) ≡ true
both true b e f = f
both false b e f = e

pub first_fails : (a b : Bool) → a ≡ false → (a && b) ≡ false
first_fails true b e = cc
first_fails false b e = refl

pub second_fails : (a b : Bool) → b ≡ false → (a && b) ≡ false
second_fails true b e = e
second_fails false b e = refl

not_both : (a b : Bool) → (a && b) ≡ false → a ≡ true → b ≡ false
not_both true b e f = e
not_both false b e f = cc

-- whether the rule of a number can answer and fits
abbrev pub passes : Option NameId → Option Rule → (ℕ → Bool) → ℕ → Rule → Bool
passes mode asking fits number rule = can_answer mode asking rule && fits number

-- The law

greatest_chosen : (style : StyleValue) (fits : ℕ → Bool) (mode : Option NameId) (asking : Option Rule) (number : ℕ) (found : Option Numbered) →
    IsBest (passes mode asking fits) 0 style.rules found → choice_of found ≡ choice.Rule number → IsGreatest style fits mode asking number
greatest_chosen style fits mode asking number None is e = cc
greatest_chosen style fits mode asking number (Some found) is e =
    let same : found.number ≡ number = cc in
    record {
      rule = found.rule;
      there = ap (slice_get style.rules) (omega (arith, same, is.0.1)) ∙ is.0.2;
      answers = both_left (can_answer mode asking found.rule) (fits found.number) is.1;
      fitting = ap fits (sym same) ∙ both_right (can_answer mode asking found.rule) (fits found.number) is.1;
      none_greater = λ n other at answers fitting. is.2 n other at (both (can_answer mode asking other) (fits (0 + n)) answers (ap fits (from_first n) ∙ fitting));
    }

none_chosen : (style : StyleValue) (fits : ℕ → Bool) (mode : Option NameId) (asking : Option Rule) (found : Option Numbered) →
    IsBest (passes mode asking fits) 0 style.rules found → choice_of found ≡ choice.BuiltIn → NoneFits style fits mode asking
none_chosen style fits mode asking None is e = λ n rule at answers. sym (ap fits (from_first n)) ∙ not_both (can_answer mode asking rule) (fits (0 + n)) (is n rule at) answers
none_chosen style fits mode asking (Some found) is e = cc

pub chosen_is_greatest : (style : StyleValue) (fits : ℕ → Bool) (mode : Option NameId) (asking : Option Rule) (number : ℕ) →
    best_of style fits mode asking ≡ choice.Rule number → IsGreatest style fits mode asking number
chosen_is_greatest style fits mode asking number e =
    greatest_chosen style fits mode asking number (greatest (passes mode asking fits) 0 style.rules) (best (passes mode asking fits) 0 style.rules) e

pub built_in_none_fits : (style : StyleValue) (fits : ℕ → Bool) (mode : Option NameId) (asking : Option Rule) →
    best_of style fits mode asking ≡ choice.BuiltIn → NoneFits style fits mode asking
built_in_none_fits style fits mode asking e =
    none_chosen style fits mode asking (greatest (passes mode asking fits) 0 style.rules) (best (passes mode asking fits) 0 style.rules) e

pub one_greatest : (style : StyleValue) (fits : ℕ → Bool) (mode : Option NameId) (asking : Option Rule) (m n : ℕ) → AreNumbered style →
    IsGreatest style fits mode asking m → IsGreatest style fits mode asking n → m ≡ n
one_greatest style fits mode asking m n numbered a b =
    sym (numbered.places m a.rule a.there)
    ∙ same_place a.rule b.rule (a.none_greater n b.rule b.there b.answers b.fitting) (b.none_greater m a.rule a.there a.answers a.fitting)
    ∙ numbered.places n b.rule b.there
