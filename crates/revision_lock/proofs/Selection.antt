-- What a test selects of joined lists.
use Rattle.std.proofs.Common.{◌≡◌, ℕ, Bool, true, false, List, [], ◌∷◌, nat_lt, if◌then◌else◌, cond, refl, ap, ◌∙◌}
use Rattle.std.specs.List.{filter}
use Rattle.revision_lock.specs.Histories.{put_in, merged}

module _ {E : Type 0} (kind : ℕ × E → Bool) where
  -- an entry that the test refuses makes no difference
  filter-put_in : (y : ℕ × E) (xs : List (ℕ × E)) → kind y ≡ false → filter kind (put_in y xs) ≡ filter kind xs
  filter-put_in y [] out = ap (λ b. cond b (y ∷ []) []) out
  filter-put_in y (x ∷ xs) out = by (nat_lt y.0 x.0) (filter-put_in y xs out)
    where
      by : (b : Bool) → filter kind (put_in y xs) ≡ filter kind xs → filter kind (if b then y ∷ (x ∷ xs) else x ∷ put_in y xs) ≡ filter kind (x ∷ xs)
      by true rest = ap (λ b. cond b (y ∷ filter kind (x ∷ xs)) (filter kind (x ∷ xs))) out
      by false rest = ap (λ l. cond (kind x) (x ∷ l) l) rest

  refused : (y : ℕ × E) (ys : List (ℕ × E)) (b : Bool) → kind y ≡ b → cond b (y ∷ filter kind ys) (filter kind ys) ≡ [] → (kind y ≡ false) × (filter kind ys ≡ [])
  refused y ys true e none = absurd (cc)
  refused y ys false e none = (e, none)

  pub filter-merged : (xs ys : List (ℕ × E)) → filter kind ys ≡ [] → filter kind (merged xs ys) ≡ filter kind xs
  filter-merged xs [] none = refl
  filter-merged xs (y ∷ ys) none =
      let parts = refused y ys (kind y) refl none in
      filter-put_in y (merged xs ys) parts.0 ∙ filter-merged xs ys parts.1
