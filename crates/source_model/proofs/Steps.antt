-- Two steps of paths: they are the same, or one of them stands before the other.
use Rattle.std.proofs.Common.{◌≡◌, ℕ, zero, suc, ◌<◌, ◌==◌, ◌&&◌, ◌||◌, Bool, true, false, nat_lt, refl, sym, ap, ◌∙◌, arith, ◌⊎◌, inl, inr, true≢false}
use Rattle.std.proofs.lemmas.Bool.{cases_eq, ne_eqb, eq-eqb}
use Rattle.std.proofs.lemmas.Bool.Decides.{Decides-ltb}
use Rattle.source_model.specs.Paths.{same_step, step_before}

-- two steps: the same, or one before the other
pub data Compared (a b : ℕ × ℕ) : Type 0 where
  same : same_step a b ≡ true → same_step b a ≡ true → step_before a b ≡ false → step_before b a ≡ false → Compared a b
  less : same_step a b ≡ false → same_step b a ≡ false → step_before a b ≡ true → step_before b a ≡ false → Compared a b
  more : same_step a b ≡ false → same_step b a ≡ false → step_before a b ≡ false → step_before b a ≡ true → Compared a b

pub data Three (x y : ℕ) : Type 0 where
  equal : (x == y) ≡ true → (y == x) ≡ true → nat_lt x y ≡ false → nat_lt y x ≡ false → Three x y
  below : (x == y) ≡ false → (y == x) ≡ false → nat_lt x y ≡ true → nat_lt y x ≡ false → Three x y
  above : (x == y) ≡ false → (y == x) ≡ false → nat_lt x y ≡ false → nat_lt y x ≡ true → Three x y

lt_or_gt : (x y : ℕ) → (x ≡ y → ⊥) → (x < y) ⊎ (y < x)
lt_or_gt zero zero other = absurd (other refl)
lt_or_gt zero (suc y) other = inl (omega arith)
lt_or_gt (suc x) zero other = inr (omega arith)
lt_or_gt (suc x) (suc y) other = elim (lt_or_gt x y (λ e. other (ap suc e))) [ inl l ↦ inl (omega (arith, l)) | inr l ↦ inr (omega (arith, l)) ]

le_antisymm : (x y : ℕ) → (y < x → ⊥) → (x < y → ⊥) → x ≡ y
le_antisymm x y a b = elim (cases_eq x y) [
  | inl e ↦ e
  | inr other ↦ absurd (elim (lt_or_gt x y other) [ inl l ↦ b l | inr l ↦ a l ])
]

not_less : (x y : ℕ) (b : Bool) → b ≡ nat_lt x y → (x < y → ⊥) → nat_lt x y ≡ false
not_less x y false is no_less = sym is
not_less x y true is no_less = absurd (no_less ((Decides-ltb x y).0 (sym is)))

equal_or_not : (x y : ℕ) → (x ≡ y) ⊎ (x ≡ y → ⊥) → (b : Bool) → b ≡ nat_lt x y → Three x y
equal_or_not x y (inl e) b is =
    equal (eq-eqb x y e) (eq-eqb y x (sym e)) (not_less x y (nat_lt x y) refl (λ l. absurd (omega (arith, e, l)))) (not_less y x (nat_lt y x) refl (λ l. absurd (omega (arith, e, l))))
equal_or_not x y (inr other) true is =
    let less : x < y = (Decides-ltb x y).0 (sym is) in
    below (ne_eqb x y other) (ne_eqb y x (λ e. other (sym e))) (sym is) (not_less y x (nat_lt y x) refl (λ l. absurd (omega (arith, less, l))))
equal_or_not x y (inr other) false is =
    above (ne_eqb x y other) (ne_eqb y x (λ e. other (sym e))) (sym is) (greater (nat_lt y x) refl)
  where
    greater : (b : Bool) → b ≡ nat_lt y x → nat_lt y x ≡ true
    greater true e = sym e
    greater false e = absurd (other (le_antisymm x y (λ l. absurd (true≢false ((sym ((Decides-ltb y x).1 l)) ∙ sym e))) (λ l. absurd (true≢false ((sym ((Decides-ltb x y).1 l)) ∙ sym is)))))

pub three : (x y : ℕ) → Three x y
three x y = equal_or_not x y (cases_eq x y) (nat_lt x y) refl

by_parts : (a b : ℕ × ℕ) → Three a.0 b.0 → Three a.1 b.1 → Compared a b
by_parts a b (equal e f l r) (equal g h m s) = same (λ i. e i && g i) (λ i. f i && h i) (λ i. l i || (e i && m i)) (λ i. r i || (f i && s i))
by_parts a b (equal e f l r) (below g h m s) = less (λ i. e i && g i) (λ i. f i && h i) (λ i. l i || (e i && m i)) (λ i. r i || (f i && s i))
by_parts a b (equal e f l r) (above g h m s) = more (λ i. e i && g i) (λ i. f i && h i) (λ i. l i || (e i && m i)) (λ i. r i || (f i && s i))
by_parts a b (below e f l r) other = less (λ i. e i && a.1 == b.1) (λ i. f i && b.1 == a.1) (λ i. l i || (e i && nat_lt a.1 b.1)) (λ i. r i || (f i && nat_lt b.1 a.1))
by_parts a b (above e f l r) other = more (λ i. e i && a.1 == b.1) (λ i. f i && b.1 == a.1) (λ i. l i || (e i && nat_lt a.1 b.1)) (λ i. r i || (f i && nat_lt b.1 a.1))

pub compared : (a b : ℕ × ℕ) → Compared a b
compared a b = by_parts a b (three a.0 b.0) (three a.1 b.1)
