-- What stands at a place after a place was written, and after one was added.
use Rattle.std.proofs.Common.{◌≡◌, ◌≢◌, ◌==◌, ℕ, zero, suc, ◌<◌, List, [], ◌∷◌, ◌++◌, length, map, set, get_or, refl, sym, ap, ◌∙◌, inl, inr, if◌then◌else◌}
use Rattle.std.specs.Prelude.{Option, Some, None, option_map, unwrap_or}
use Rattle.std.specs.List.{AllZip}
use Rattle.std.proofs.Math.ListN.{get_or-map}
use Rattle.std.proofs.lemmas.List.{get_or-set_same, get_or-set_other}
use Rattle.std.proofs.lemmas.Bool.Decides.{eqb_tells}
use Rattle.frozen_tree.specs.Shelves.{place_in}

-- what is one thing where two numbers are equal, and another where they differ
pub by_place : {X : Type 0} (a b : ℕ) (x y z : X) → (a ≡ b → z ≡ x) → (a ≢ b → z ≡ y) → z ≡ if a == b then x else y
by_place a b x y z same other =
    elim (eqb_tells a b) [
      | inl h ↦ same h.1 ∙ sym (ap (λ t. if t then x else y) h.0)
      | inr h ↦ other h.1 ∙ sym (ap (λ t. if t then x else y) h.0)
    ]

abbrev pub shown : {A B : Type 0} → (A → B) → List (Option A) → List (Option B)
shown f places = map (option_map f) places

module _ {A B : Type 0} (f : A → B) (nothing : B) where
  -- what stands at a place is read off the place itself
  pub place_in-shown : (places : List (Option A)) (k : ℕ) → place_in nothing (shown f places) k ≡ unwrap_or (option_map f (get_or places k None)) nothing
  place_in-shown places k = ap (λ o. unwrap_or o nothing) (get_or-map (option_map f) places k None)

  pub place_in-set_other : (places : List (Option A)) (i k : ℕ) (v : Option A) → k ≢ i → place_in nothing (shown f (set places i v)) k ≡ place_in nothing (shown f places) k
  place_in-set_other places i k v other =
      place_in-shown (set places i v) k
      ∙ ap (λ o. unwrap_or (option_map f o) nothing) (get_or-set_other places i k v None other)
      ∙ sym (place_in-shown places k)

  place_in-set_same : (places : List (Option A)) (i : ℕ) (v : Option A) → i < length places → place_in nothing (shown f (set places i v)) i ≡ unwrap_or (option_map f v) nothing
  place_in-set_same places i v within =
      place_in-shown (set places i v) i
      ∙ ap (λ o. unwrap_or (option_map f o) nothing) (get_or-set_same places i v None within)

  -- a value that is put at a place shows there alone
  pub place_in-put : (places : List (Option A)) (start : List (Option B)) (i : ℕ) (a : A) (v : B) → f a ≡ v → i < length places
      → ((k : ℕ) → place_in nothing (shown f places) k ≡ place_in nothing start k)
      → (k : ℕ) → place_in nothing (shown f (set places i (Some a))) k ≡ if k == i then v else place_in nothing start k
  place_in-put places start i a v says within before k =
      by_place k i v (place_in nothing start k) (place_in nothing (shown f (set places i (Some a))) k)
      (λ same. ap (place_in nothing (shown f (set places i (Some a)))) same ∙ place_in-set_same places i (Some a) within ∙ says)
      (λ other. place_in-set_other places i k (Some a) other ∙ before k)

  get_or-push_none : (places : List (Option A)) (k : ℕ) → get_or (places ++ None ∷ []) k None ≡ get_or places k None
  get_or-push_none [] zero = refl
  get_or-push_none [] (suc k) = refl
  get_or-push_none (p ∷ ps) zero = refl
  get_or-push_none (p ∷ ps) (suc k) = get_or-push_none ps k

  -- a place without a value does not show
  pub place_in-push : (places : List (Option A)) (k : ℕ) → place_in nothing (shown f (places ++ None ∷ [])) k ≡ place_in nothing (shown f places) k
  place_in-push places k =
      place_in-shown (places ++ None ∷ []) k
      ∙ ap (λ o. unwrap_or (option_map f o) nothing) (get_or-push_none places k)
      ∙ sym (place_in-shown places k)

-- two lists whose items stand in a relation under which f can't tell them apart
pub map-all_zip : {A B : Type 0} (R : A → A → Type 0) (f : A → B) → ((x y : A) → R x y → f y ≡ f x) → (xs ys : List A) → AllZip R xs ys → map f ys ≡ map f xs
map-all_zip R f same [] [] all = refl
map-all_zip R f same [] (y ∷ ys) all = absurd all
map-all_zip R f same (x ∷ xs) [] all = absurd all
map-all_zip R f same (x ∷ xs) (y ∷ ys) all = λ i. same x y all.0 i ∷ map-all_zip R f same xs ys all.1 i
