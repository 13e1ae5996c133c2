-- The first cut of a text around another is what `IsFirstCut` says.
use Rattle.std.proofs.Common.{◌≡◌, ◌↔◌, nat_eq, ℕ, zero, suc, ◌+◌, ◌<◌, ◌≤◌, Bool, true, false, List, ◌++◌, length, take, drop, Option, Some, None, option_map, is_some, refl, sym, ◌∙◌, ap, subst, arith, inl, inr, length-take, length-append}
use Rattle.std.specs.List.{find, range_with_len, starts_with}
use Rattle.std.proofs.lemmas.Bool.{cases_lt, cases_Bool, cond-true, cond-false, false≢true}
use Rattle.std.proofs.lemmas.List.{drop-drop}
use Rattle.std.proofs.lemmas.Option.{same_Some}
use Rattle.xpath_values.specs.Texts.{first_place, first_cut, IsFirstCut}
use Rattle.xpath_values.proofs.Places.{begins, begins_from, at_place, drop_front, first_cut_some, first_cut_none}

-- what `find` tells of a range
record IsFirstPass (p : ℕ → Bool) (a n i : ℕ) : Type 0 where
  from : a ≤ i
  below : i < a + n
  passes : p i ≡ true
  first : (k : ℕ) → a ≤ k → k < i → p k ≡ false

find_gives : (p : ℕ → Bool) (a n i : ℕ) → find p (range_with_len a n) ≡ Some i → IsFirstPass p a n i
find_gives p a zero i e = absurd (cc)
find_gives p a (suc n) i e =
    elim (cases_Bool (p a)) [
      | inl hit ↦
          let same : a ≡ i = (let some : Some a ≡ Some i = sym (cond-true (p a) (Some a) (find p (range_with_len (a + 1) n)) hit) ∙ e in cc) in
          record { from = omega arith; below = omega arith; passes = ap p (sym same) ∙ hit; first = λ k low high. absurd (omega arith) }
      | inr miss ↦
          let is : IsFirstPass p (a + 1) n i = find_gives p (a + 1) n i (sym (cond-false (p a) (Some a) (find p (range_with_len (a + 1) n)) miss) ∙ e) in
          record {
            from = omega (arith, is.from);
            below = omega (arith, is.below);
            passes = is.passes;
            first = λ k low high.
                elim (cases_lt a k) [
                  | inl above ↦ is.first k (omega arith) high
                  | inr at ↦ (let same : a ≡ k = omega arith in ap p (sym same) ∙ miss)
                ];
          }
    ]

find_misses : (p : ℕ → Bool) (a n : ℕ) → find p (range_with_len a n) ≡ None → (k : ℕ) → a ≤ k → k < a + n → p k ≡ false
find_misses p a zero e k low high = absurd (omega arith)
find_misses p a (suc n) e k low high =
    elim (cases_Bool (p a)) [
      | inl hit ↦ absurd (let clash : Some a ≡ None = sym (cond-true (p a) (Some a) (find p (range_with_len (a + 1) n)) hit) ∙ e in cc)
      | inr miss ↦
          elim (cases_lt a k) [
            | inl above ↦ find_misses p (a + 1) n (sym (cond-false (p a) (Some a) (find p (range_with_len (a + 1) n)) miss) ∙ e) k (omega arith) (omega arith)
            | inr at ↦ (let same : a ≡ k = omega arith in ap p (sym same) ∙ miss)
          ]
    ]

abbrev cut_of : List ℕ → List ℕ → ℕ → List ℕ × List ℕ
cut_of text other place = (take place text, drop (place + length other) text)

cut_at : (text other : List ℕ) (i : ℕ) → IsFirstPass (λ place. starts_with nat_eq (drop place text) other) 0 (length text + 1) i → IsFirstCut text other (take i text) (drop (i + length other) text)
cut_at text other i is = record {
  written = at_place text other i (omega (arith, is.below)) is.passes ∙ ap (λ t. take i text ++ (other ++ t)) (drop-drop (length other) i text);
  first = λ front back e.
      elim (cases_lt (length front) i) [
        | inl below ↦ absurd (false≢true (sym (is.first (length front) (omega arith) below) ∙ begins_from (drop (length front) text) other back (ap (drop (length front)) e ∙ drop_front front (other ++ back))))
        | inr above ↦ omega (arith, length-take i text)
      ];
}

cut_by : (text other before after : List ℕ) (o : Option ℕ) → first_place text other ≡ o → option_map (cut_of text other) o ≡ Some (before, after) → IsFirstCut text other before after
cut_by text other before after None e f = absurd (cc)
cut_by text other before after (Some i) e f =
    let is = cut_at text other i (find_gives _ 0 (length text + 1) i e) in
    let same : cut_of text other i ≡ (before, after) = same_Some (cut_of text other i) (before, after) f in
    let front : take i text ≡ before = ap (λ (c : List ℕ × List ℕ). c.0) same in
    let back : drop (i + length other) text ≡ after = ap (λ (c : List ℕ × List ℕ). c.1) same in
    subst (λ b. IsFirstCut text other before b) back (subst (λ b. IsFirstCut text other b (drop (i + length other) text)) front is)

pub cut_law : (text other before after : List ℕ) → (first_cut text other ≡ Some (before, after)) ↔ IsFirstCut text other before after
cut_law text other before after = (cut_by text other before after (first_place text other) refl, first_cut_some text other before after)

no_cut_by : (text other : List ℕ) (o : Option ℕ) → first_place text other ≡ o → option_map (cut_of text other) o ≡ None → (front back : List ℕ) → text ≡ front ++ (other ++ back) → ⊥
no_cut_by text other (Some i) e f front back w = absurd (cc)
no_cut_by text other None e f front back w =
    let miss = find_misses (λ place. starts_with nat_eq (drop place text) other) 0 (length text + 1) e (length front) (omega arith) (omega (arith, ap length w, length-append front (other ++ back))) in
    false≢true (sym miss ∙ begins_from (drop (length front) text) other back (ap (drop (length front)) w ∙ drop_front front (other ++ back)))

pub no_cut_law : (text other : List ℕ) → (first_cut text other ≡ None) ↔ ((front back : List ℕ) → text ≡ front ++ (other ++ back) → ⊥)
no_cut_law text other = (no_cut_by text other (first_place text other) refl, first_cut_none text other)

pub begins_law : (text prefix : List ℕ) → (starts_with nat_eq text prefix ≡ true) ↔ ((rest : List ℕ) × (text ≡ prefix ++ rest))
begins_law text prefix = (λ e. (drop (length prefix) text, begins text prefix e), λ (rest, e). begins_from text prefix rest e)

abbrev HasCut : List ℕ → List ℕ → Type 0
HasCut text other = (front : List ℕ) × (back : List ℕ) × (text ≡ front ++ (other ++ back))

has_cut : (text other : List ℕ) (o : Option ℕ) → first_place text other ≡ o → is_some o ≡ true → HasCut text other
has_cut text other None e f = absurd (false≢true f)
has_cut text other (Some i) e f = (take i text, drop (i + length other) text, (cut_at text other i (find_gives _ 0 (length text + 1) i e)).written)

cut_has : (text other : List ℕ) (o : Option ℕ) → first_place text other ≡ o → (front back : List ℕ) → text ≡ front ++ (other ++ back) → is_some o ≡ true
cut_has text other None e front back w = absurd (no_cut_by text other None e refl front back w)
cut_has text other (Some i) e front back w = refl

pub contains_law : (text other : List ℕ) → (is_some (first_place text other) ≡ true) ↔ HasCut text other
contains_law text other = (has_cut text other (first_place text other) refl, λ (front, back, w). cut_has text other (first_place text other) refl front back w)
