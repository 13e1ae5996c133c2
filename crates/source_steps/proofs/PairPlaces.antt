-- Attributes by the place of a name among them.
use Rattle.std.proofs.Common.{◌≡◌, ℕ, suc, ◌+◌, ◌<◌, ◌≤◌, inl, inr, true, false, List, [], ◌∷◌, ◌++◌, take, drop, length, Option, Some, slice_get, if◌then◌else◌, refl, sym, ap, ◌∙◌, arith}
use Rattle.std.proofs.lemmas.Bool.{cases_eq, ne_eqb, eq-eqb}
use Rattle.std.proofs.lemmas.List.{take_all, drop_all}
use Rattle.std.specs.Option.{option_map}
use Rattle.serna_kinds.specs.declared.cells.NameId.{NameId}
use Rattle.serna_kinds.specs.declared.cells.AttrPair.{AttrPair}
use Rattle.source_model.specs.Attributes.{has_name, pair_of, value_among, place_among, with_value, without_name}

-- one name more is looked at
pub next_place : (name : NameId) (pair : AttrPair) (pairs : List AttrPair) → has_name name pair ≡ false → place_among name (pair ∷ pairs) ≡ suc (place_among name pairs)
next_place name pair pairs e = ap (λ b. if b then 0 else suc (place_among name pairs)) e

pub this_place : (name : NameId) (pair : AttrPair) (pairs : List AttrPair) → has_name name pair ≡ true → place_among name (pair ∷ pairs) ≡ 0
this_place name pair pairs e = ap (λ b. if b then 0 else suc (place_among name pairs)) e

abbrev cut_at : NameId → List ℕ → List AttrPair → ℕ → List AttrPair
cut_at name value pairs at = take at pairs ++ (pair_of name value ∷ drop (at + 1) pairs)

abbrev joined_at : List AttrPair → ℕ → List AttrPair
joined_at pairs at = take at pairs ++ drop (at + 1) pairs

-- a list of pairs by the test of the first
abbrev Cut : NameId → List AttrPair → Type 0
Cut name pairs = (value : List ℕ) → (place_among name pairs < length pairs) →
    (with_value name value pairs ≡ cut_at name value pairs (place_among name pairs)) × (without_name name pairs ≡ joined_at pairs (place_among name pairs))

same_name : (name : NameId) (pair : AttrPair) → pair.name.0 ≡ name.0 → pair.name ≡ name
same_name name pair e = ap (λ n. record { 0 = n }) e

one_later : (at : ℕ) → suc (at + 1) ≡ suc at + 1
one_later at = omega arith

pub cut : (name : NameId) (pairs : List AttrPair) → Cut name pairs
cut name [] value within = absurd (omega (arith, within))
cut name (pair ∷ pairs) value within = elim (cases_eq pair.name.0 name.0) [
  | inl same ↦
      let yes_is : has_name name pair ≡ true = eq-eqb pair.name.0 name.0 same in
      let place : place_among name (pair ∷ pairs) ≡ 0 = this_place name pair pairs yes_is in (
        ap (λ b. if b then pair_of pair.name value ∷ pairs else pair ∷ with_value name value pairs) yes_is
            ∙ ap (λ n. pair_of n value ∷ pairs) (same_name name pair same)
            ∙ sym (ap (cut_at name value (pair ∷ pairs)) place),
        ap (λ b. if b then pairs else pair ∷ without_name name pairs) yes_is ∙ sym (ap (joined_at (pair ∷ pairs)) place),
      )
  | inr other ↦
      let no_is : has_name name pair ≡ false = ne_eqb pair.name.0 name.0 other in
      let at : ℕ = place_among name pairs in
      let place : place_among name (pair ∷ pairs) ≡ suc at = next_place name pair pairs no_is in
      let later : at < length pairs = omega (arith, place, within) in
      let h = cut name pairs value later in (
        ap (λ b. if b then pair_of pair.name value ∷ pairs else pair ∷ with_value name value pairs) no_is
            ∙ ap (λ ps. pair ∷ ps) h.0
            ∙ ap (λ n. pair ∷ (take at pairs ++ (pair_of name value ∷ drop n (pair ∷ pairs)))) (one_later at)
            ∙ sym (ap (cut_at name value (pair ∷ pairs)) place),
        ap (λ b. if b then pairs else pair ∷ without_name name pairs) no_is
            ∙ ap (λ ps. pair ∷ ps) h.1
            ∙ ap (λ n. pair ∷ (take at pairs ++ drop n (pair ∷ pairs))) (one_later at)
            ∙ sym (ap (joined_at (pair ∷ pairs)) place),
      )
]

-- where there is none
abbrev Absent : NameId → List AttrPair → Type 0
Absent name pairs = (value : List ℕ) → length pairs ≤ place_among name pairs → (with_value name value pairs ≡ pairs ++ (pair_of name value ∷ [])) × (without_name name pairs ≡ pairs)

pub absent : (name : NameId) (pairs : List AttrPair) → Absent name pairs
absent name [] value past = (refl, refl)
absent name (pair ∷ pairs) value past = elim (cases_eq pair.name.0 name.0) [
  | inl same ↦ let place = this_place name pair pairs (eq-eqb pair.name.0 name.0 same) in absurd (omega (arith, place, past))
  | inr other ↦
      let no_is : has_name name pair ≡ false = ne_eqb pair.name.0 name.0 other in
      let place = next_place name pair pairs no_is in
      let h = absent name pairs value (omega (arith, place, past)) in (
        ap (λ b. if b then pair_of pair.name value ∷ pairs else pair ∷ with_value name value pairs) no_is ∙ ap (λ ps. pair ∷ ps) h.0,
        ap (λ b. if b then pairs else pair ∷ without_name name pairs) no_is ∙ ap (λ ps. pair ∷ ps) h.1,
      )
]

-- the value by the place
abbrev pub value_at : List AttrPair → ℕ → Option (List ℕ)
value_at pairs at = option_map (λ (pair : AttrPair). pair.value) (slice_get pairs at)

pub value_placed : (name : NameId) (pairs : List AttrPair) → value_among name pairs ≡ value_at pairs (place_among name pairs)
value_placed name [] = refl
value_placed name (pair ∷ pairs) = elim (cases_eq pair.name.0 name.0) [
  | inl same ↦
      let yes_is : has_name name pair ≡ true = eq-eqb pair.name.0 name.0 same in
      ap (λ b. if b then Some pair.value else value_among name pairs) yes_is ∙ sym (ap (value_at (pair ∷ pairs)) (this_place name pair pairs yes_is))
  | inr other ↦
      let no_is : has_name name pair ≡ false = ne_eqb pair.name.0 name.0 other in
      ap (λ b. if b then Some pair.value else value_among name pairs) no_is ∙ value_placed name pairs ∙ sym (ap (value_at (pair ∷ pairs)) (next_place name pair pairs no_is))
]

-- one name more is looked at, from a place on
pub place_on : (name : NameId) (pairs : List AttrPair) (at : ℕ) (pair : AttrPair) → drop at pairs ≡ pair ∷ drop (at + 1) pairs → place_among name pairs ≡ at + place_among name (drop at pairs) →
    has_name name pair ≡ false → place_among name pairs ≡ at + 1 + place_among name (drop (at + 1) pairs)
place_on name pairs at pair one so_far other =
    let here = ap (place_among name) one in
    let next = next_place name pair (drop (at + 1) pairs) other in
    omega (arith, so_far, here, next)

pub place_found : (name : NameId) (pairs : List AttrPair) (at : ℕ) (pair : AttrPair) → drop at pairs ≡ pair ∷ drop (at + 1) pairs → place_among name pairs ≡ at + place_among name (drop at pairs) →
    has_name name pair ≡ true → at ≡ place_among name pairs
place_found name pairs at pair one so_far same =
    let here = ap (place_among name) one in
    let next = this_place name pair (drop (at + 1) pairs) same in
    omega (arith, so_far, here, next)

-- what the code makes of it
pub set_within : (name : NameId) (value : List ℕ) (pairs left : List AttrPair) (place behind : ℕ) → place ≡ place_among name pairs → place < length pairs → behind ≡ place + 1 →
    left ≡ take place pairs ++ (pair_of name value ∷ drop behind pairs) → left ≡ with_value name value pairs
set_within name value pairs left place behind is within next e =
    e ∙ ap (λ n. take place pairs ++ (pair_of name value ∷ drop n pairs)) next ∙ ap (cut_at name value pairs) is ∙ sym (cut name pairs value (omega (arith, is, within))).0

pub set_behind : (name : NameId) (value : List ℕ) (pairs left : List AttrPair) (place : ℕ) → place ≡ place_among name pairs → length pairs ≤ place →
    left ≡ take place pairs ++ (pair_of name value ∷ drop place pairs) → left ≡ with_value name value pairs
set_behind name value pairs left place is past e =
    e ∙ ap (λ ps. take place pairs ++ (pair_of name value ∷ ps)) (drop_all place pairs past) ∙ ap (λ ps. ps ++ (pair_of name value ∷ [])) (take_all place pairs past)
    ∙ sym (absent name pairs value (omega (arith, is, past))).0

pub unset_within : (name : NameId) (pairs left : List AttrPair) (place : ℕ) → place ≡ place_among name pairs → place < length pairs → left ≡ take place pairs ++ drop (place + 1) pairs →
    left ≡ without_name name pairs
unset_within name pairs left place is within e = e ∙ ap (joined_at pairs) is ∙ sym (cut name pairs [] (omega (arith, is, within))).1

pub unset_none : (name : NameId) (pairs left : List AttrPair) (place : ℕ) → place ≡ place_among name pairs → length pairs ≤ place → left ≡ pairs → left ≡ without_name name pairs
unset_none name pairs left place is past e = e ∙ sym (absent name pairs [] (omega (arith, is, past))).1
