-- Loops over the elements of a list.
use Rattle.std.proofs.Common.{◌≡◌, ℕ, zero, suc, ◌+◌, ◌<◌, ◌≤◌, List, [], ◌∷◌, ◌++◌, take, get_or, length, sym, ap, subst, ◌∙◌, arith, append_assoc}
use Rattle.std.specs.List.{flat_map, AllByRecursion}
use Rattle.std.proofs.lemmas.List.{append-nil, take_more, take_all}
use Rattle.std.proofs.lemmas.Grind.{flat_map-append}

-- what each element gives, one after another
pub none_given : {X A : Type 0} (f : X → List A) (xs : List X) (old now : List A) → now ≡ old → now ≡ old ++ flat_map f (take 0 xs)
none_given f xs old now e = e ∙ sym (append-nil old)

pub one_given : {X A : Type 0} (f : X → List A) (xs : List X) (i : ℕ) (x : X) (old now new more : List A) → i < length xs → x ≡ get_or xs i x → now ≡ old ++ flat_map f (take i xs) → new ≡ now ++ more →
    more ≡ f x → new ≡ old ++ flat_map f (take (i + 1) xs)
one_given f xs i x old now new more within here so_far pushed is =
    pushed ∙ ap (λ l. l ++ more) so_far ∙ append_assoc old (flat_map f (take i xs)) more
    ∙ ap (λ l. old ++ (flat_map f (take i xs) ++ l)) (is ∙ ap f here ∙ sym (append-nil (f (get_or xs i x))))
    ∙ ap (λ l. old ++ l) (sym (flat_map-append f (take i xs) (get_or xs i x ∷ [])))
    ∙ ap (λ l. old ++ flat_map f l) (sym (take_more xs i x within))

pub all_given : {X A : Type 0} (f : X → List A) (xs : List X) (i : ℕ) (old now : List A) → length xs ≤ i → now ≡ old ++ flat_map f (take i xs) → now ≡ old ++ flat_map f xs
all_given f xs i old now past so_far = so_far ∙ ap (λ l. old ++ flat_map f l) (take_all i xs past)

-- what holds of each holds of one
all_get : {X : Type 0} (P : X → Type 0) (xs : List X) (i : ℕ) (d : X) → i < length xs → AllByRecursion P xs → P (get_or xs i d)
all_get P [] i d within all = absurd (omega (arith, within))
all_get P (x ∷ xs) zero d within all = all.0
all_get P (x ∷ xs) (suc i) d within all = all_get P xs i d (omega (arith, within)) all.1

pub all_at : {X : Type 0} (P : X → Type 0) (xs : List X) (i : ℕ) (x : X) → i < length xs → x ≡ get_or xs i x → AllByRecursion P xs → P x
all_at P xs i x within here all = subst P (sym here) (all_get P xs i x within all)
