-- Ancestor, descendant, following, preceding and self part the nodes that are no attributes (XPath 1.0, section 2.2): of two paths
-- exactly one of the five conditions holds.
use Rattle.std.proofs.Common.{◌≡◌, ℕ, ◌+◌, ◌&&◌, ◌||◌, Bool, true, false, [], ◌∷◌, Option, Some, None, is_none, if◌then◌else◌, refl, ap, ◌∙◌}
use Rattle.serna_kinds.specs.declared.expressions.Axis.TheVariants as axis
use Rattle.source_model.specs.Paths.{Path, behind, is_before}
use Rattle.source_model.specs.Axes.{meets, down, is_empty, is_below, ends_at_node}
use Rattle.source_model.specs.DocumentOrder.{one_if}
use Rattle.source_model.proofs.Steps.{Compared, same, less, more, compared}

-- how many of the five conditions hold, the ones on attributes left out
abbrev five : Path → Path → ℕ
five n m =
    one_if (down is_empty n m) + one_if (down is_below n m) + one_if (down is_below m n) + one_if (is_before n m && is_none (behind n m)) + one_if (is_before m n && is_none (behind m n))

-- the five conditions of two longer paths, by the tests of their first steps
abbrev five_by : Path → Path → Bool → Bool → Bool → Bool → ℕ
five_by p q s t l r =
    let pq : Option Path = if s then behind p q else None in
    let qp : Option Path = if t then behind q p else None in
    one_if (elim pq [ None ↦ false | Some x ↦ is_empty x ]) + one_if (elim pq [ None ↦ false | Some x ↦ is_below x ]) + one_if (elim qp [ None ↦ false | Some x ↦ is_below x ])
    + one_if ((l || (s && is_before p q)) && is_none pq) + one_if ((r || (t && is_before q p)) && is_none qp)

five_parts : (a b : ℕ × ℕ) (p q : Path) → Compared a b → five p q ≡ 1 → five (a ∷ p) (b ∷ q) ≡ 1
five_parts a b p q (same s t l r) h = (λ i. five_by p q (s i) (t i) (l i) (r i)) ∙ h
five_parts a b p q (less s t l r) h = λ i. five_by p q (s i) (t i) (l i) (r i)
five_parts a b p q (more s t l r) h = λ i. five_by p q (s i) (t i) (l i) (r i)

five_is_one : (n m : Path) → five n m ≡ 1
five_is_one [] [] = refl
five_is_one [] (b ∷ q) = refl
five_is_one (a ∷ p) [] = refl
five_is_one (a ∷ p) (b ∷ q) = five_parts a b p q (compared a b) (five_is_one p q)

and_true : (b : Bool) → (b && true) ≡ b
and_true true = refl
and_true false = refl

-- a node that is no attribute is on exactly one of the five axes from each node or attribute
pub axes_part : (n m : Path) → ends_at_node m ≡ true →
    one_if (meets axis.Itself n m) + one_if (meets axis.Descendant n m) + one_if (meets axis.Ancestor n m) + one_if (meets axis.Following n m) + one_if (meets axis.Preceding n m) ≡ 1
axes_part n m is =
    (λ i.
    one_if (down is_empty n m) + one_if (down is_below n m && is i) + one_if (down is_below m n) + one_if (is i && is_before n m && is_none (behind n m))
    + one_if (is i && is_before m n && is_none (behind m n)))
    ∙ ap (λ (b : Bool). one_if (down is_empty n m) + one_if b + one_if (down is_below m n) + one_if (is_before n m && is_none (behind n m)) + one_if (is_before m n && is_none (behind m n)))
    (and_true (down is_below n m))
    ∙ five_is_one n m
