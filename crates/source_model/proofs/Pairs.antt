-- Attributes that are changed and changed back, and what changes leave.
use Rattle.std.proofs.Common.{◌≡◌, ℕ, zero, suc, ◌≤◌, inl, inr, false, List, [], ◌∷◌, length, Some, None, if◌then◌else◌, refl, sym, ap, ◌∙◌, subst, arith}
use Rattle.std.proofs.lemmas.Bool.{cases_eq, ne_eqb, eq-eqb}
use Rattle.std.proofs.lemmas.Option.{same_Some}
use Rattle.std.specs.Prelude.{insert}
use Rattle.std.specs.List.{AllByRecursion}
use Rattle.serna_kinds.specs.declared.cells.NameId.{NameId}
use Rattle.serna_kinds.specs.declared.cells.AttrPair.{AttrPair}
use Rattle.source_model.specs.Attributes.{has_name, pair_of, value_among, place_among, with_value, without_name, DifferByNumber}
use Rattle.source_model.specs.Proper.{IsShort}
use Rattle.source_model.specs.Consistent.{AreShortValues}
use Rattle.source_model.proofs.Spots.{if_same, if_other}

-- the attribute of a name is there first, or not
abbrev Differs : NameId → AttrPair → Type 0
Differs name pair = pair.name.0 ≡ name.0 → ⊥

-- by cases on the first attribute
here : {A : Type 0} (name : NameId) (pair : AttrPair) (x y : A) → pair.name.0 ≡ name.0 → (if has_name name pair then x else y) ≡ x
here name pair x y e = if_same pair.name.0 name.0 x y e

behind : {A : Type 0} (name : NameId) (pair : AttrPair) (x y : A) → Differs name pair → (if has_name name pair then x else y) ≡ y
behind name pair x y e = if_other pair.name.0 name.0 x y e

-- a name by its number
same_name : (a b : NameId) → a.0 ≡ b.0 → a ≡ b
same_name a b e = ap (λ n. record { 0 = n }) e

-- a value that was there comes back
pub value_back : (name : NameId) (value old : List ℕ) (pairs : List AttrPair) → value_among name pairs ≡ Some old → with_value name old (with_value name value pairs) ≡ pairs
value_back name value old [] e = cc
value_back name value old (pair ∷ pairs) e = elim (cases_eq pair.name.0 name.0) [
  | inl same ↦
      let is : pair.value ≡ old = same_Some pair.value old (sym (here name pair (Some pair.value) (value_among name pairs) same) ∙ e) in
      ap (with_value name old) (here name pair (pair_of pair.name value ∷ pairs) (pair ∷ with_value name value pairs) same)
      ∙ here name (pair_of pair.name value) (pair_of pair.name old ∷ pairs) (pair_of pair.name value ∷ with_value name old pairs) same
      ∙ ap (λ v. pair_of pair.name v ∷ pairs) (sym is)
  | inr other ↦
      let rest = value_back name value old pairs (sym (behind name pair (Some pair.value) (value_among name pairs) other) ∙ e) in
      ap (with_value name old) (behind name pair (pair_of pair.name value ∷ pairs) (pair ∷ with_value name value pairs) other)
      ∙ behind name pair (pair_of pair.name old ∷ with_value name value pairs) (pair ∷ with_value name old (with_value name value pairs)) other
      ∙ ap (λ ps. pair ∷ ps) rest
]

-- a value that was not there goes out again
pub value_out : (name : NameId) (value : List ℕ) (pairs : List AttrPair) → value_among name pairs ≡ None → without_name name (with_value name value pairs) ≡ pairs
value_out name value [] e = here name (pair_of name value) [] (pair_of name value ∷ []) refl
value_out name value (pair ∷ pairs) e = elim (cases_eq pair.name.0 name.0) [
  | inl same ↦ let bad = sym (here name pair (Some pair.value) (value_among name pairs) same) ∙ e in cc
  | inr other ↦
      ap (without_name name) (behind name pair (pair_of pair.name value ∷ pairs) (pair ∷ with_value name value pairs) other)
      ∙ behind name pair (with_value name value pairs) (pair ∷ without_name name (with_value name value pairs)) other
      ∙ ap (λ ps. pair ∷ ps) (value_out name value pairs (sym (behind name pair (Some pair.value) (value_among name pairs) other) ∙ e))
]

-- what was taken out comes in again at its place
pub pair_back : (name : NameId) (value : List ℕ) (pairs : List AttrPair) → value_among name pairs ≡ Some value → insert (without_name name pairs) (place_among name pairs) (pair_of name value) ≡ pairs
pair_back name value [] e = cc
pair_back name value (pair ∷ pairs) e = elim (cases_eq pair.name.0 name.0) [
  | inl same ↦
      let is : pair.value ≡ value = same_Some pair.value value (sym (here name pair (Some pair.value) (value_among name pairs) same) ∙ e) in
      ap (λ ps. insert ps (place_among name (pair ∷ pairs)) (pair_of name value)) (here name pair pairs (pair ∷ without_name name pairs) same)
      ∙ ap (λ i. insert pairs i (pair_of name value)) (here {A = ℕ} name pair 0 (suc (place_among name pairs)) same)
      ∙ ap (λ m. pair_of m value ∷ pairs) (same_name name pair.name (sym same))
      ∙ ap (λ v. pair_of pair.name v ∷ pairs) (sym is)
  | inr other ↦
      ap (λ ps. insert ps (place_among name (pair ∷ pairs)) (pair_of name value)) (behind name pair pairs (pair ∷ without_name name pairs) other)
      ∙ ap (λ i. insert (pair ∷ without_name name pairs) i (pair_of name value)) (behind {A = ℕ} name pair 0 (suc (place_among name pairs)) other)
      ∙ ap (λ ps. pair ∷ ps) (pair_back name value pairs (sym (behind name pair (Some pair.value) (value_among name pairs) other) ∙ e))
]

-- what was put in goes out again
pub pair_out : (name : NameId) (value : List ℕ) (pairs : List AttrPair) (i : ℕ) → value_among name pairs ≡ None → i ≤ length pairs → without_name name (insert pairs i (pair_of name value)) ≡ pairs
pair_out name value pairs zero e within = here name (pair_of name value) pairs (pair_of name value ∷ without_name name pairs) refl
pair_out name value [] (suc i) e within = absurd (omega (arith, within))
pair_out name value (pair ∷ pairs) (suc i) e within = elim (cases_eq pair.name.0 name.0) [
  | inl same ↦ let bad = sym (here name pair (Some pair.value) (value_among name pairs) same) ∙ e in cc
  | inr other ↦
      behind name pair (insert pairs i (pair_of name value)) (pair ∷ without_name name (insert pairs i (pair_of name value))) other
      ∙ ap (λ ps. pair ∷ ps) (pair_out name value pairs i (sym (behind name pair (Some pair.value) (value_among name pairs) other) ∙ e) (omega (arith, within)))
]

-- the attribute that a change made is found, and the one that was taken out is not
pub value_set : (name : NameId) (value : List ℕ) (pairs : List AttrPair) → value_among name (with_value name value pairs) ≡ Some value
value_set name value [] = here name (pair_of name value) (Some value) None refl
value_set name value (pair ∷ pairs) = elim (cases_eq pair.name.0 name.0) [
  | inl same ↦
      ap (value_among name) (here name pair (pair_of pair.name value ∷ pairs) (pair ∷ with_value name value pairs) same)
      ∙ here name (pair_of pair.name value) (Some value) (value_among name pairs) same
  | inr other ↦
      ap (value_among name) (behind name pair (pair_of pair.name value ∷ pairs) (pair ∷ with_value name value pairs) other)
      ∙ behind name pair (Some pair.value) (value_among name (with_value name value pairs)) other
      ∙ value_set name value pairs
]

pub value_put : (name : NameId) (value : List ℕ) (pairs : List AttrPair) (i : ℕ) → value_among name pairs ≡ None → i ≤ length pairs → value_among name (insert pairs i (pair_of name value)) ≡ Some value
value_put name value pairs zero e within = here name (pair_of name value) (Some value) (value_among name pairs) refl
value_put name value [] (suc i) e within = absurd (omega (arith, within))
value_put name value (pair ∷ pairs) (suc i) e within = elim (cases_eq pair.name.0 name.0) [
  | inl same ↦ let bad = sym (here name pair (Some pair.value) (value_among name pairs) same) ∙ e in cc
  | inr other ↦
      behind name pair (Some pair.value) (value_among name (insert pairs i (pair_of name value))) other
      ∙ value_put name value pairs i (sym (behind name pair (Some pair.value) (value_among name pairs) other) ∙ e) (omega (arith, within))
]

-- no attribute has the name
abbrev NoneHas : NameId → List AttrPair → Type 0
NoneHas name pairs = AllByRecursion (λ (other : AttrPair). has_name name other ≡ false) pairs

absent : (name : NameId) (pairs : List AttrPair) → NoneHas name pairs → value_among name pairs ≡ None
absent name [] are = refl
absent name (pair ∷ pairs) are = ap (λ b. if b then Some pair.value else value_among name pairs) are.0 ∙ absent name pairs are.1

none_has : (name : NameId) (pairs : List AttrPair) → value_among name pairs ≡ None → NoneHas name pairs
none_has name [] e = tt
none_has name (pair ∷ pairs) e = elim (cases_eq pair.name.0 name.0) [
  | inl same ↦ let bad = sym (here name pair (Some pair.value) (value_among name pairs) same) ∙ e in cc
  | inr other ↦ (ne_eqb pair.name.0 name.0 other, none_has name pairs (sym (behind name pair (Some pair.value) (value_among name pairs) other) ∙ e))
]

-- names alone say which attributes have a name
none_with : (name other : NameId) (value : List ℕ) (pairs : List AttrPair) → NoneHas name pairs → (other.0 ≡ name.0 → ⊥) → NoneHas name (with_value other value pairs)
none_with name other value [] are differs = (ne_eqb other.0 name.0 differs, tt)
none_with name other value (pair ∷ pairs) are differs = elim (cases_eq pair.name.0 other.0) [
  | inl same ↦ subst (NoneHas name) (sym (here other pair (pair_of pair.name value ∷ pairs) (pair ∷ with_value other value pairs) same)) (are.0, are.1)
  | inr not_it ↦ subst (NoneHas name) (sym (behind other pair (pair_of pair.name value ∷ pairs) (pair ∷ with_value other value pairs) not_it)) (are.0, none_with name other value pairs are.1 differs)
]

none_without : (name other : NameId) (pairs : List AttrPair) → NoneHas name pairs → NoneHas name (without_name other pairs)
none_without name other [] are = tt
none_without name other (pair ∷ pairs) are = elim (cases_eq pair.name.0 other.0) [
  | inl same ↦ subst (NoneHas name) (sym (here other pair pairs (pair ∷ without_name other pairs) same)) are.1
  | inr not_it ↦ subst (NoneHas name) (sym (behind other pair pairs (pair ∷ without_name other pairs) not_it)) (are.0, none_without name other pairs are.1)
]

none_insert : (name other : NameId) (value : List ℕ) (pairs : List AttrPair) (i : ℕ) → NoneHas name pairs → (other.0 ≡ name.0 → ⊥) → i ≤ length pairs → NoneHas name (insert pairs i (pair_of other value))
none_insert name other value pairs zero are differs within = (ne_eqb other.0 name.0 differs, are)
none_insert name other value [] (suc i) are differs within = absurd (omega (arith, within))
none_insert name other value (pair ∷ pairs) (suc i) are differs within = (are.0, none_insert name other value pairs i are.1 differs (omega (arith, within)))

-- so they go on to differ
pub differ-with_value : (name : NameId) (value : List ℕ) (pairs : List AttrPair) → DifferByNumber pairs → DifferByNumber (with_value name value pairs)
differ-with_value name value [] differ = (tt, tt)
differ-with_value name value (pair ∷ pairs) differ = elim (cases_eq pair.name.0 name.0) [
  | inl same ↦ subst DifferByNumber (sym (here name pair (pair_of pair.name value ∷ pairs) (pair ∷ with_value name value pairs) same)) differ
  | inr other ↦
      subst DifferByNumber (sym (behind name pair (pair_of pair.name value ∷ pairs) (pair ∷ with_value name value pairs) other))
      (none_with pair.name name value pairs differ.0 (λ e. other (sym e)), differ-with_value name value pairs differ.1)
]

pub differ-without_name : (name : NameId) (pairs : List AttrPair) → DifferByNumber pairs → DifferByNumber (without_name name pairs)
differ-without_name name [] differ = tt
differ-without_name name (pair ∷ pairs) differ = elim (cases_eq pair.name.0 name.0) [
  | inl same ↦ subst DifferByNumber (sym (here name pair pairs (pair ∷ without_name name pairs) same)) differ.1
  | inr other ↦
      subst DifferByNumber (sym (behind name pair pairs (pair ∷ without_name name pairs) other)) (none_without pair.name name pairs differ.0, differ-without_name name pairs differ.1)
]

pub differ-insert : (name : NameId) (value : List ℕ) (pairs : List AttrPair) (i : ℕ) → DifferByNumber pairs → NoneHas name pairs → i ≤ length pairs → DifferByNumber (insert pairs i (pair_of name value))
differ-insert name value pairs zero differ are within = (are, differ)
differ-insert name value [] (suc i) differ are within = absurd (omega (arith, within))
differ-insert name value (pair ∷ pairs) (suc i) differ are within =
    let other : name.0 ≡ pair.name.0 → ⊥ = λ e. let is = eq-eqb pair.name.0 name.0 (sym e) in let no_name = are.0 in cc in
    (none_insert pair.name name value pairs i differ.0 other (omega (arith, within)), differ-insert name value pairs i differ.1 are.1 (omega (arith, within)))

pub put-differ : (name : NameId) (value : List ℕ) (pairs : List AttrPair) (i : ℕ) → DifferByNumber pairs → value_among name pairs ≡ None → i ≤ length pairs → DifferByNumber (insert pairs i (pair_of name value))
put-differ name value pairs i differ e within = differ-insert name value pairs i differ (none_has name pairs e) within

-- what is taken out of attributes that differ is gone, and it stood before their end
pub gone : (name : NameId) (pairs : List AttrPair) → DifferByNumber pairs → value_among name (without_name name pairs) ≡ None
gone name [] differ = refl
gone name (pair ∷ pairs) differ = elim (cases_eq pair.name.0 name.0) [
  | inl same ↦
      ap (value_among name) (here name pair pairs (pair ∷ without_name name pairs) same)
      ∙ absent name pairs (subst (λ m. NoneHas m pairs) (same_name pair.name name same) differ.0)
  | inr other ↦
      ap (value_among name) (behind name pair pairs (pair ∷ without_name name pairs) other)
      ∙ behind name pair (Some pair.value) (value_among name (without_name name pairs)) other
      ∙ gone name pairs differ.1
]

pub place-within : (name : NameId) (pairs : List AttrPair) (value : List ℕ) → value_among name pairs ≡ Some value → place_among name pairs ≤ length (without_name name pairs)
place-within name [] value e = cc
place-within name (pair ∷ pairs) value e = elim (cases_eq pair.name.0 name.0) [
  | inl same ↦ let at = here {A = ℕ} name pair 0 (suc (place_among name pairs)) same in omega (arith, at)
  | inr other ↦
      let at = behind {A = ℕ} name pair 0 (suc (place_among name pairs)) other in
      let rest = ap length (behind name pair pairs (pair ∷ without_name name pairs) other) in
      let inner = place-within name pairs value (sym (behind name pair (Some pair.value) (value_among name pairs) other) ∙ e) in
      omega (arith, at, rest, inner)
]

-- values stay short
pub short-with_value : (name : NameId) (value : List ℕ) (pairs : List AttrPair) → IsShort value → AreShortValues pairs → AreShortValues (with_value name value pairs)
short-with_value name value [] short are = (short, tt)
short-with_value name value (pair ∷ pairs) short are = elim (cases_eq pair.name.0 name.0) [
  | inl same ↦ subst AreShortValues (sym (here name pair (pair_of pair.name value ∷ pairs) (pair ∷ with_value name value pairs) same)) (short, are.1)
  | inr other ↦ subst AreShortValues (sym (behind name pair (pair_of pair.name value ∷ pairs) (pair ∷ with_value name value pairs) other)) (are.0, short-with_value name value pairs short are.1)
]

pub short-without_name : (name : NameId) (pairs : List AttrPair) → AreShortValues pairs → AreShortValues (without_name name pairs)
short-without_name name [] are = tt
short-without_name name (pair ∷ pairs) are = elim (cases_eq pair.name.0 name.0) [
  | inl same ↦ subst AreShortValues (sym (here name pair pairs (pair ∷ without_name name pairs) same)) are.1
  | inr other ↦ subst AreShortValues (sym (behind name pair pairs (pair ∷ without_name name pairs) other)) (are.0, short-without_name name pairs are.1)
]

pub short-insert : (name : NameId) (value : List ℕ) (pairs : List AttrPair) (i : ℕ) → IsShort value → AreShortValues pairs → i ≤ length pairs → AreShortValues (insert pairs i (pair_of name value))
short-insert name value pairs zero short are within = (short, are)
short-insert name value [] (suc i) short are within = absurd (omega (arith, within))
short-insert name value (pair ∷ pairs) (suc i) short are within = (are.0, short-insert name value pairs i short are.1 (omega (arith, within)))

pub short_value : (name : NameId) (value : List ℕ) (pairs : List AttrPair) → AreShortValues pairs → value_among name pairs ≡ Some value → IsShort value
short_value name value [] are e = cc
short_value name value (pair ∷ pairs) are e = elim (cases_eq pair.name.0 name.0) [
  | inl same ↦ subst IsShort (same_Some pair.value value (sym (here name pair (Some pair.value) (value_among name pairs) same) ∙ e)) are.0
  | inr other ↦ short_value name value pairs are.1 (sym (behind name pair (Some pair.value) (value_among name pairs) other) ∙ e)
]
