-- Lists in which each item stands before all that follow it: joined, and told by their members.
use Rattle.std.proofs.Common.{◌≡◌, zero, suc, ◌⊎◌, inl, inr, Bool, true, false, List, [], ◌∷◌, ◌++◌, refl, sym, ◌∙◌, subst, arith, true≢false}
use Rattle.std.specs.Prelude.{Contains}
use Rattle.std.specs.List.{AllByRecursion}
use Rattle.source_model.specs.DocumentOrder.{AreInOrder}

pub all_weaker : {A : Type 0} (P Q : A → Type 0) → ((x : A) → P x → Q x) → (xs : List A) → AllByRecursion P xs → AllByRecursion Q xs
all_weaker P Q weaker [] all = tt
all_weaker P Q weaker (x ∷ xs) all = (weaker x all.0, all_weaker P Q weaker xs all.1)

pub all_always : {A : Type 0} (P : A → Type 0) → ((x : A) → P x) → (xs : List A) → AllByRecursion P xs
all_always P always [] = tt
all_always P always (x ∷ xs) = (always x, all_always P always xs)

pub all_append : {A : Type 0} (P : A → Type 0) (xs ys : List A) → AllByRecursion P xs → AllByRecursion P ys → AllByRecursion P (xs ++ ys)
all_append P [] ys all more = more
all_append P (x ∷ xs) ys all more = (all.0, all_append P xs ys all.1 more)

pub in_order_append : {A : Type 0} (before : A → A → Bool) (xs ys : List A) → AreInOrder before xs → AreInOrder before ys → AllByRecursion (λ x. AllByRecursion (λ y. before x y ≡ true) ys) xs →
    AreInOrder before (xs ++ ys)
in_order_append before [] ys one other across = other
in_order_append before (x ∷ xs) ys one other across = (all_append (λ y. before x y ≡ true) xs ys one.0 across.0, in_order_append before xs ys one.1 other across.1)

-- a member, place by place
abbrev pub IsIn : {A : Type 0} → A → List A → Type 0
IsIn x [] = ⊥
IsIn x (y ∷ ys) = (y ≡ x) ⊎ IsIn x ys

pub all_in : {A : Type 0} (P : A → Type 0) (x : A) (xs : List A) → AllByRecursion P xs → IsIn x xs → P x
all_in P x [] all is = absurd is
all_in P x (y ∷ ys) all (inl e) = subst P e all.0
all_in P x (y ∷ ys) all (inr is) = all_in P x ys all.1 is

pub in_contained : {A : Type 0} (x : A) (xs : List A) → Contains xs x → IsIn x xs
in_contained x [] (k, less, is) = absurd (omega (arith, less))
in_contained x (y ∷ ys) (zero, less, is) = inl is
in_contained x (y ∷ ys) (suc k, less, is) = inr (in_contained x ys (k, omega (arith, less), is))

pub contained : {A : Type 0} (x : A) (xs : List A) → IsIn x xs → Contains xs x
contained x [] is = absurd is
contained x (y ∷ ys) (inl e) = (0, omega arith, e)
contained x (y ∷ ys) (inr is) = let found = contained x ys is in let less = found.1 in (suc found.0, omega (arith, less), found.2)

-- a strict order
pub record IsStrict {A : Type 0} (before : A → A → Bool) : Type 0 where
  pub not_itself : (x : A) → before x x ≡ false
  pub onward : (x y z : A) → before x y ≡ true → before y z ≡ true → before x z ≡ true

never : {A : Type 0} (before : A → A → Bool) → IsStrict before → (x y : A) → before x y ≡ true → before y x ≡ true → ⊥
never before strict x y one other = true≢false (sym (strict.onward x y x one other) ∙ strict.not_itself x)

first_same : {A : Type 0} (before : A → A → Bool) → IsStrict before → (x y : A) (xs ys : List A) → AreInOrder before (x ∷ xs) → AreInOrder before (y ∷ ys) → (y ≡ x) ⊎ IsIn x ys → (x ≡ y) ⊎ IsIn y xs → x ≡ y
first_same before strict x y xs ys one other (inl e) back = sym e
first_same before strict x y xs ys one other (inr there) (inl e) = e
first_same before strict x y xs ys one other (inr there) (inr back) =
    absurd (never before strict x y (all_in (λ z. before x z ≡ true) y xs one.0 back) (all_in (λ z. before y z ≡ true) x ys other.0 there))

rest_in : {A : Type 0} (before : A → A → Bool) → IsStrict before → (x y r : A) (xs ys : List A) → AreInOrder before (x ∷ xs) → x ≡ y → IsIn r xs → (y ≡ r) ⊎ IsIn r ys → IsIn r ys
rest_in before strict x y r xs ys one e is (inr there) = there
rest_in before strict x y r xs ys one e is (inl same) =
    absurd (true≢false (sym (subst (λ z. before x z ≡ true) (sym (e ∙ same)) (all_in (λ z. before x z ≡ true) r xs one.0 is)) ∙ strict.not_itself x))

-- a list in order is determined by its members
pub same_from_members : {A : Type 0} (before : A → A → Bool) → IsStrict before → (xs ys : List A) → AreInOrder before xs → AreInOrder before ys →
    ((r : A) → IsIn r xs → IsIn r ys) → ((r : A) → IsIn r ys → IsIn r xs) → xs ≡ ys
same_from_members before strict [] [] one other to back = refl
same_from_members before strict [] (y ∷ ys) one other to back = absurd (back y (inl refl))
same_from_members before strict (x ∷ xs) [] one other to back = absurd (to x (inl refl))
same_from_members before strict (x ∷ xs) (y ∷ ys) one other to back =
    let e : x ≡ y = first_same before strict x y xs ys one other (to x (inl refl)) (back y (inl refl)) in
    let rest : xs ≡ ys =
    same_from_members before strict xs ys one.1 other.1 (λ r is. rest_in before strict x y r xs ys one e is (to r (inr is))) (λ r is. rest_in before strict y x r ys xs other (sym e) is (back r (inr is))) in
    λ i. e i ∷ rest i
