-- What a name table says as it grows: a stored name keeps its number.
use Rattle.std.proofs.Common.{◌≡◌, ℕ, Bool, true, false, List, [], ◌++◌, Some, slice_get, refl, sym, ap, ◌∙◌, true≢false, bytes_eq, ◌&&◌, append_assoc, append-nil}
use Rattle.std.specs.Cmp.{IsEquivalence}
use Rattle.std.specs.List.{list_any, position_or_len, IsDistinct}
use Rattle.std.proofs.lemmas.Cmp.{on_equiv, and_equiv, nat_list_eq_equiv}
use Rattle.std.proofs.lemmas.Slice.Eq.{bytes_eq-Decides}
use Rattle.serna_kinds.proofs.ListLemmas.{position_or_len-append, position_or_len-next, slice_get-append, one_place}
use Rattle.serna_kinds.specs.declared.cells.NameId.{NameId}
use Rattle.serna_kinds.specs.Names.{NameParts, Grows, AreDistinct, is_same_name, id_of, with_name}

-- the test of names is an equivalence
pub is_same_name-laws : IsEquivalence is_same_name
is_same_name-laws = and_equiv (and_equiv (on_equiv (λ n. n.uri) nat_list_eq_equiv) (on_equiv (λ n. n.local) nat_list_eq_equiv)) (on_equiv (λ n. n.prefix) nat_list_eq_equiv)

-- and that of equal names alone
pub is_same_name-same : (a b : NameParts) → is_same_name a b ≡ true → a ≡ b
is_same_name-same a b h =
    let parts = both (bytes_eq a.uri b.uri && bytes_eq a.local b.local) (bytes_eq a.prefix b.prefix) h in
    let front = both (bytes_eq a.uri b.uri) (bytes_eq a.local b.local) parts.0 in
    let same_uri = (bytes_eq-Decides a.uri b.uri).0 front.0 in
    let same_local = (bytes_eq-Decides a.local b.local).0 front.1 in
    let same_prefix = (bytes_eq-Decides a.prefix b.prefix).0 parts.1 in
    λ i. record { uri = same_uri i; local = same_local i; prefix = same_prefix i }
  where
    both : (x y : Bool) → (x && y) ≡ true → (x ≡ true) × (y ≡ true)
    both true y passes = (refl, passes)
    both false y passes = absurd (true≢false (sym passes))

-- a name's place in the table with it, and in what grows from that, is its place before, or the end
pub position_or_len-with_name : (names more : List NameParts) (name : NameParts) → position_or_len (is_same_name name) (with_name names name ++ more) ≡ position_or_len (is_same_name name) names
position_or_len-with_name names more name = by (list_any (is_same_name name) names) refl
  where
    by : (b : Bool) → list_any (is_same_name name) names ≡ b → position_or_len (is_same_name name) (with_name names name ++ more) ≡ position_or_len (is_same_name name) names
    by true found = rw found (position_or_len-append (is_same_name name) names more found)
    by false none = rw none (rw append_assoc (position_or_len-next (is_same_name name) name (is_same_name-laws.refl name) names more none))

-- the number that `intern` gives is the name's in the table with it, and in each table that grows from that
pub id_of-with_name : (old new table : List NameParts) (name : NameParts) (place : ℕ) → new ≡ with_name old name
    → place ≡ position_or_len (is_same_name name) old → Grows new table → record { 0 = place } ≡ id_of table name
id_of-with_name old new table name place added at grown =
    let number : ℕ → NameId = λ n. record { 0 = n } in
    let first = position_or_len (is_same_name name) in
    ap number (at ∙ sym (position_or_len-with_name old grown.0 name) ∙ sym (ap first (grown.1 ∙ ap (λ l. l ++ grown.0) added)))

-- a table has grown into itself
pub Grows-refl : (names : List NameParts) → Grows names names
Grows-refl names = ([], sym (append-nil names))

-- what grows from what grew has grown from the first
pub Grows-trans : (a b c : List NameParts) → Grows a b → Grows b c → Grows a c
Grows-trans a b c one two = (one.0 ++ two.0, two.1 ∙ ap (λ l. l ++ two.0) one.1 ∙ append_assoc a one.0 two.0)

-- a name keeps its place
pub slice_get-grown : (old new : List NameParts) (name : NameParts) (place : ℕ) → Grows old new → slice_get old place ≡ Some name → slice_get new place ≡ Some name
slice_get-grown old new name place grown at = ap (λ l. slice_get l place) grown.1 ∙ slice_get-append old grown.0 place name at

-- a stored name has the same number in each table that grew from this one
pub id_of-grown : (old new : List NameParts) (name : NameParts) → Grows old new → list_any (is_same_name name) old ≡ true → id_of new name ≡ id_of old name
id_of-grown old new name grown found =
    let number : ℕ → NameId = λ n. record { 0 = n } in
    let first = position_or_len (is_same_name name) in
    ap (λ l. number (first l)) grown.1 ∙ ap number (position_or_len-append (is_same_name name) old grown.0 found)

-- names of which no two are the same stand at one place each
pub AreDistinct-from_unique : (names : List NameParts) → IsDistinct is_same_name names → AreDistinct names
AreDistinct-from_unique names unique = one_place is_same_name is_same_name-laws.refl names unique

-- what callers of `intern` cite: `search (rules, names)`
pub ruleset names = (Grows-refl, Grows-trans, id_of-grown, id_of-with_name, slice_get-grown)
