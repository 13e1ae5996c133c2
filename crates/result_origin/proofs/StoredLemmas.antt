-- The map that the entries of a std map make.
use Rattle.std.proofs.Common.{◌≡◌, ℕ, List, [], ◌∷◌, Option, Some, None, cond, eqb, refl, sym, ◌∙◌}
use Rattle.std.specs.Ordering.{nat_cmp}
use Rattle.std.specs.Cmp.{nat_cmp_total, eq_by_cmp_equiv, unsigned_tied}
use Rattle.std.specs.Map.{lookup}
use Rattle.std.specs.FinMap.{get, insert, remove, find, from_entries, get-from_entries, get-insert, get-remove, same_map, nat_cmp-IsAntisymmetric}

-- what entries have at a number
abbrev pub value_at : {X : Type 0} → List (ℕ × X) → ℕ → Option X
value_at es q = lookup (eqb q) es

find_value : {X : Type 0} (es : List (ℕ × X)) (q : ℕ) → find nat_cmp q es ≡ value_at es q
find_value [] q = refl
find_value (e ∷ es) q = λ i. cond (unsigned_tied q e.0 i) (Some e.1) (find_value es q i)

-- what the map that entries make has at a number
pub get_value : {X : Type 0} (es : List (ℕ × X)) (q : ℕ) → get (from_entries {R = nat_cmp} es) q ≡ value_at es q
get_value es q = get-from_entries nat_cmp_total es q ∙ find_value es q

-- entries that have the same at each number make the same map
pub same_made : {X : Type 0} (es fs : List (ℕ × X)) → ((q : ℕ) → value_at fs q ≡ value_at es q) → from_entries {R = nat_cmp} fs ≡ from_entries es
same_made es fs h = same_map nat_cmp_total nat_cmp-IsAntisymmetric _ _ (λ q. get_value fs q ∙ (h q ∙ sym (get_value es q)))

same_test : (k q : ℕ) → eqb k q ≡ eqb q k
same_test k q = sym (unsigned_tied k q) ∙ ((eq_by_cmp_equiv nat_cmp_total).symm k q ∙ unsigned_tied q k)

-- entries that differ at one number make maps that differ there
pub one_put : {X : Type 0} (es fs : List (ℕ × X)) (k : ℕ) (x : X) → ((q : ℕ) → value_at fs q ≡ cond (eqb k q) (Some x) (value_at es q)) →
    from_entries {R = nat_cmp} fs ≡ insert (from_entries es) k x
one_put es fs k x h =
    same_map nat_cmp_total nat_cmp-IsAntisymmetric _ _ (λ q.
    get_value fs q ∙ (h q ∙ sym (get-insert nat_cmp_total (from_entries es) k x q ∙ (λ i. cond ((unsigned_tied q k ∙ same_test q k) i) (Some x) (get_value es q i)))))

pub one_taken : {X : Type 0} (es fs : List (ℕ × X)) (k : ℕ) → ((q : ℕ) → value_at fs q ≡ cond (eqb k q) None (value_at es q)) →
    from_entries {R = nat_cmp} fs ≡ remove (from_entries es) k
one_taken es fs k h =
    same_map nat_cmp_total nat_cmp-IsAntisymmetric _ _ (λ q.
    get_value fs q ∙ (h q ∙ sym (get-remove nat_cmp_total (from_entries es) k q ∙ (λ i. cond ((unsigned_tied q k ∙ same_test q k) i) None (get_value es q i)))))
