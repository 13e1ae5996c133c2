-- A parent's path is the path of its child or attribute without the last step.
use Rattle.std.proofs.Common.{◌≡◌, ℕ, ◌||◌, Bool, true, false, [], ◌∷◌, ◌++◌, Option, Some, None, if◌then◌else◌, refl, sym, ap, ◌∙◌, true≢false}
use Rattle.std.proofs.lemmas.Option.{none-some}
use Rattle.serna_kinds.specs.declared.expressions.Axis.TheVariants as axis
use Rattle.source_model.specs.Paths.{Path, behind, same_step}
use Rattle.source_model.specs.Axes.{meets, is_step, is_any_step}
use Rattle.source_model.proofs.PathOrder.{same_step-is}

pub parent_back : (n m : Path) → meets axis.Parent m n ≡ (meets axis.Attribute n m || meets axis.Child n m)
parent_back n m = by (behind n m)
  where
    by : (o : Option Path) →
        elim o [ None ↦ false | Some p ↦ is_any_step p ] ≡ (elim o [ None ↦ false | Some p ↦ is_step 0 p ] || elim o [ None ↦ false | Some p ↦ is_step 1 p ])
    by None = refl
    by (Some p) = refl

abbrev or_path : Path → Option Path → Path
or_path q None = q
or_path q (Some p) = p

behind_first : (a b : ℕ × ℕ) (n m p : Path) (c : Bool) → c ≡ same_step a b → (behind n m ≡ Some p → n ++ p ≡ m) → (if c then behind n m else None) ≡ Some p → a ∷ (n ++ p) ≡ b ∷ m
behind_first a b n m p true is inner e =
    let first : a ≡ b = same_step-is a b (sym is) in
    let rest : n ++ p ≡ m = inner e in
    λ i. first i ∷ rest i
behind_first a b n m p false is inner e = absurd (none-some p e)

-- what is behind a path goes on from it
pub behind_is : (n m p : Path) → behind n m ≡ Some p → n ++ p ≡ m
behind_is [] m p e = sym (ap (or_path m) e)
behind_is (a ∷ n) [] p e = absurd (none-some p e)
behind_is (a ∷ n) (b ∷ m) p e = behind_first a b n m p (same_step a b) refl (behind_is n m p) e

abbrev IsOnward : Path → Path → Type 0
IsOnward n m = (s : ℕ × ℕ) × (n ++ s ∷ [] ≡ m)

step_onward : (n m p : Path) → behind n m ≡ Some p → is_any_step p ≡ true → IsOnward n m
step_onward n m [] e is = absurd (true≢false (sym is))
step_onward n m (s ∷ []) e is = (s, behind_is n m (s ∷ []) e)
step_onward n m (s ∷ t ∷ p) e is = absurd (true≢false (sym is))

onward : (n m : Path) (o : Option Path) → behind n m ≡ o → elim o [ None ↦ false | Some p ↦ is_any_step p ] ≡ true → IsOnward n m
onward n m None e is = absurd (true≢false (sym is))
onward n m (Some p) e is = step_onward n m p e is

-- a path without its last step
abbrev front : Path → Path
front [] = []
front (s ∷ []) = []
front (s ∷ t ∷ p) = s ∷ front (t ∷ p)

front-append : (n : Path) (s : ℕ × ℕ) → front (n ++ s ∷ []) ≡ n
front-append [] s = refl
front-append (a ∷ []) s = refl
front-append (a ∷ b ∷ n) s = ap (λ (p : Path). a ∷ p) (front-append (b ∷ n) s)

pub one_parent : (n m k : Path) → meets axis.Parent m n ≡ true → meets axis.Parent m k ≡ true → n ≡ k
one_parent n m k one other =
    let a = onward n m (behind n m) refl one in
    let b = onward k m (behind k m) refl other in
    sym (front-append n a.0) ∙ ap front (a.1 ∙ sym b.1) ∙ front-append k b.0
