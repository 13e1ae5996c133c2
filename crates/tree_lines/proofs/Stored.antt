-- Names that have their place in a table, and what the table says of them.
use Rattle.std.proofs.Common.{◌≡◌, ◌+◌, Bool, true, false, List, [], ◌∷◌, ◌++◌, Some, suc, slice_get, refl, sym, ap, ◌∙◌, arith, true≢false}
use Rattle.std.specs.Prelude.{IsSome, ◌||◌, if◌then◌else◌}
use Rattle.std.specs.List.{AllByRecursion, list_any, position_or_len}
use Rattle.std.proofs.lemmas.Bool.{or_left, or_right}
use Rattle.std.proofs.lemmas.List.Folds.{list_any-append}
use Rattle.serna_kinds.specs.Names.{NameParts, Grows, with_name, is_same_name, id_of, are_same}
use Rattle.serna_kinds.specs.Qualified.{is_same_expanded}
use Rattle.serna_kinds.proofs.NameLemmas.{is_same_name-laws, is_same_name-same, Grows-refl, Grows-trans}
use Rattle.tree_lines.specs.Tokens.{with_names}

-- what holds of each element of two lists
pub AllByRecursion-parts : {X : Type 0} (P : X → Type 0) (xs ys : List X) → AllByRecursion P (xs ++ ys) → AllByRecursion P xs × AllByRecursion P ys
AllByRecursion-parts P [] ys all = (tt, all)
AllByRecursion-parts P (x ∷ xs) ys all = let rest = AllByRecursion-parts P xs ys all.1 in ((all.0, rest.0), rest.1)

pub AllByRecursion-append : {X : Type 0} (P : X → Type 0) (xs ys : List X) → AllByRecursion P xs → AllByRecursion P ys → AllByRecursion P (xs ++ ys)
AllByRecursion-append P [] ys one other = other
AllByRecursion-append P (x ∷ xs) ys one other = (one.0, AllByRecursion-append P xs ys one.1 other)

pub AllByRecursion-like : {X : Type 0} (P Q : X → Type 0) → ((x : X) → P x → Q x) → (xs : List X) → AllByRecursion P xs → AllByRecursion Q xs
AllByRecursion-like P Q step [] all = tt
AllByRecursion-like P Q step (x ∷ xs) all = (step x all.0, AllByRecursion-like P Q step xs all.1)

-- the name stands in the table under its number
abbrev pub IsStored : List NameParts → NameParts → Type 0
IsStored table name = slice_get table (id_of table name).0 ≡ Some name

pub IsStored-any : (table : List NameParts) (name : NameParts) → list_any (is_same_name name) table ≡ true → IsStored table name
IsStored-any [] name found = absurd (true≢false (sym found))
IsStored-any (x ∷ xs) name found = by (is_same_name name x) refl (IsStored-any xs name)
  where
    by : (b : Bool) → is_same_name name x ≡ b → (list_any (is_same_name name) xs ≡ true → IsStored xs name) → IsStored (x ∷ xs) name
    by true same rest = rw same (ap (λ (y : NameParts). Some y) (sym (is_same_name-same name x same)))
    by false other rest =
        let next : 1 + position_or_len (is_same_name name) xs ≡ suc (position_or_len (is_same_name name) xs) = omega arith in
        rw (other, next) (rest (rw other at found))

any-grown : (name : NameParts) (old new : List NameParts) → Grows old new → list_any (is_same_name name) old ≡ true → list_any (is_same_name name) new ≡ true
any-grown name old new grown found =
    ap (list_any (is_same_name name)) grown.1 ∙ list_any-append (is_same_name name) old grown.0 ∙ or_left (list_any (is_same_name name) old) (list_any (is_same_name name) grown.0) found

any-with_name : (names : List NameParts) (name : NameParts) → list_any (is_same_name name) (with_name names name) ≡ true
any-with_name names name = by (list_any (is_same_name name) names) refl
  where
    by : (b : Bool) → list_any (is_same_name name) names ≡ b → list_any (is_same_name name) (with_name names name) ≡ true
    by true found = rw found found
    by false none =
        rw none (list_any-append (is_same_name name) names (name ∷ [])
        ∙ or_right (list_any (is_same_name name) names) (is_same_name name name || false) (or_left (is_same_name name name) false (is_same_name-laws.refl name)))

Grows-with_name : (names : List NameParts) (name : NameParts) → Grows names (with_name names name)
Grows-with_name names name = by (list_any (is_same_name name) names)
  where
    by : (b : Bool) → Grows names (if b then names else names ++ name ∷ [])
    by true = Grows-refl names
    by false = (name ∷ [], refl)

pub Grows-with_names : (names more : List NameParts) → Grows names (with_names names more)
Grows-with_names names [] = Grows-refl names
Grows-with_names names (x ∷ xs) = Grows-trans names (with_name names x) (with_names (with_name names x) xs) (Grows-with_name names x) (Grows-with_names (with_name names x) xs)

-- the names that a table got stand in each one that grows from it
pub IsStored-with_names : (names more table : List NameParts) → Grows (with_names names more) table → AllByRecursion (IsStored table) more
IsStored-with_names names [] table grown = tt
IsStored-with_names names (x ∷ xs) table grown =
    let one : Grows (with_name names x) table =
    Grows-trans (with_name names x) (with_names (with_name names x) xs) table (Grows-with_names (with_name names x) xs) grown in
    (IsStored-any table x (any-grown x (with_name names x) table one (any-with_name names x)), IsStored-with_names (with_name names x) xs table grown)

pub IsSome-stored : (table : List NameParts) (name : NameParts) → IsStored table name → IsSome (slice_get table (id_of table name).0)
IsSome-stored table name stored = rw stored refl

-- the table tells names apart as they are
pub are_same-stored : (table : List NameParts) (a b : NameParts) → IsStored table a → IsStored table b → are_same table (id_of table a) (id_of table b) ≡ is_same_expanded a b
are_same-stored table a b one other = rw (one, are_same) (rw (other, are_same) refl)
