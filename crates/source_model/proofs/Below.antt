-- What properness says of the node at a spot: its name is in the table, only the document node and elements have children, and a
-- child stands below it also by its own number.
use Rattle.std.proofs.Common.{◌≡◌, ℕ, ◌+◌, ◌<◌, ◌≤◌, ◌==◌, inl, inr, Bool, true, false, List, Option, Some, None, if◌then◌else◌, sym, ap, subst, ◌∙◌, arith}
use Rattle.std.proofs.lemmas.Option.{none-some}
use Rattle.std.proofs.lemmas.Bool.{cases_eq}
use Rattle.serna_kinds.specs.Names.{NameParts}
use Rattle.source_model.specs.Source.{Body, Root, Element, Text, Comment, Forest, none, node, Source}
use Rattle.source_model.specs.Cells.{Spot, or_else, spot_in, spot_of, name_of}
use Rattle.source_model.specs.Proper.{IsProper, AreNodes, uses}
use Rattle.source_model.specs.Named.{HasName}
use Rattle.source_model.proofs.Spots.{if_same, if_other, spot_in-unused, spot-from_used}

abbrev some_or : Spot → Option Spot → Spot
some_or x None = x
some_or x (Some y) = y

-- what is found among neighbours is the first of them, or found below it, or behind it
found_where : (P : Spot → Type 0) (b : Bool) (x : Spot) (o p : Option Spot) → P x → ((s : Spot) → o ≡ Some s → P s) → ((s : Spot) → p ≡ Some s → P s) →
    (s : Spot) → (if b then Some x else or_else o p) ≡ Some s → P s
found_where P true x o p here below behind s e = subst P (ap (some_or x) e) here
found_where P false x None p here below behind s e = behind s e
found_where P false x (Some y) p here below behind s e = below s e

-- a node without children is a text or comment, or has none of its own
abbrev pub HasOwnKids : Body → Forest → Type 0
HasOwnKids Root kids = Unit {0}
HasOwnKids (Element name pairs) kids = Unit {0}
HasOwnKids (Text text) kids = kids ≡ none
HasOwnKids (Comment text) kids = kids ≡ none

abbrev IsKnown : List NameParts → Spot → Type 0
IsKnown names spot = HasName names (name_of spot.body) × HasOwnKids spot.body spot.kids

below_none : (P : Spot → Type 0) (up : Option ℕ) (n : ℕ) (kids : Forest) → kids ≡ none → (s : Spot) → spot_in up n kids ≡ Some s → P s
below_none P up n kids e s found = absurd (none-some s (sym (ap (spot_in up n) e) ∙ found))

known_in : (names : List NameParts) (up : Option ℕ) (n : ℕ) (f : Forest) → AreNodes names f → (spot : Spot) → spot_in up n f ≡ Some spot → IsKnown names spot
known_in names up n none nodes spot e = absurd (none-some spot e)
known_in names up n (node k Root kids rest) nodes spot e = absurd nodes
known_in names up n (node k (Element name pairs) kids rest) nodes spot e =
    found_where (IsKnown names) (n == k) (record { up = up; body = Element name pairs; kids = kids }) (spot_in (Some k) n kids) (spot_in up n rest) (nodes.0, tt)
    (known_in names (Some k) n kids nodes.2) (known_in names up n rest nodes.3) spot e
known_in names up n (node k (Text text) kids rest) nodes spot e =
    found_where (IsKnown names) (n == k) (record { up = up; body = Text text; kids = kids }) (spot_in (Some k) n kids) (spot_in up n rest) (tt, nodes.2)
    (below_none (IsKnown names) (Some k) n kids nodes.2) (known_in names up n rest nodes.4) spot e
known_in names up n (node k (Comment text) kids rest) nodes spot e =
    found_where (IsKnown names) (n == k) (record { up = up; body = Comment text; kids = kids }) (spot_in (Some k) n kids) (spot_in up n rest) (tt, nodes.0)
    (below_none (IsKnown names) (Some k) n kids nodes.0) (known_in names up n rest nodes.1) spot e

known_of : (names : List NameParts) (source : Source) (n : ℕ) (spot : Spot) → IsProper names source → spot_of source n ≡ Some spot → IsKnown names spot
known_of names source n spot proper e =
    found_where (IsKnown names) (n == 0) (record { up = None; body = Root; kids = proper.top }) (spot_in (Some 0) n proper.top) None (tt, tt)
    (known_in names (Some 0) n proper.top proper.nodes) (λ s e. absurd (none-some s e)) spot (sym (ap (spot_in None n) proper.rooted) ∙ e)

pub name_known : (names : List NameParts) (source : Source) (n : ℕ) (spot : Spot) → IsProper names source → spot_of source n ≡ Some spot → HasName names (name_of spot.body)
name_known names source n spot proper e = (known_of names source n spot proper e).0

pub own_kids : (names : List NameParts) (source : Source) (n : ℕ) (spot : Spot) → IsProper names source → spot_of source n ≡ Some spot → HasOwnKids spot.body spot.kids
own_kids names source n spot proper e = (known_of names source n spot proper e).1

-- where each number is used once, what stands below a node has the same spot in the whole
abbrev pub IsPart : Option ℕ → ℕ → Forest → Spot → Type 0
IsPart up n f spot = (m : ℕ) → 0 < uses m spot.kids → (spot_in (Some n) m spot.kids ≡ spot_in up m f) × (uses m spot.kids ≤ uses m f)

other_number : (m k : ℕ) (kids rest : Forest) → uses m (node k Root kids rest) ≤ 1 → 0 < uses m kids + uses m rest → m ≡ k → ⊥
other_number m k kids rest once used e = let one : ◌≡◌ {A = ℕ} (if m == k then 1 else 0) 1 = if_same {A = ℕ} m k 1 0 e in absurd (omega (arith, once, used, one))

-- a spot in the children of a node, and behind it
pub in_kids : (up : Option ℕ) (m k : ℕ) (body : Body) (kids rest : Forest) → uses m (node k body kids rest) ≤ 1 → 0 < uses m kids → spot_in (Some k) m kids ≡ spot_in up m (node k body kids rest)
in_kids up m k body kids rest once used =
    let found = spot-from_used (Some k) m kids used in
    sym (if_other m k _ _ (other_number m k kids rest once (omega (arith, used))) ∙ ap (λ (o : Option Spot). or_else o (spot_in up m rest)) found.1 ∙ sym found.1)

pub in_rest : (up : Option ℕ) (m k : ℕ) (body : Body) (kids rest : Forest) → uses m (node k body kids rest) ≤ 1 → 0 < uses m rest → spot_in up m rest ≡ spot_in up m (node k body kids rest)
in_rest up m k body kids rest once used =
    let gone : uses m kids ≡ 0 = omega (arith, once, used) in
    sym (if_other m k _ _ (other_number m k kids rest once (omega (arith, used))) ∙ ap (λ (o : Option Spot). or_else o (spot_in up m rest)) (spot_in-unused (Some k) m kids gone))

found_behind : (P : Spot → Type 0) (o p : Option Spot) → ((s : Spot) → o ≡ Some s → P s) → ((s : Spot) → p ≡ Some s → P s) → (s : Spot) → or_else o p ≡ Some s → P s
found_behind P None p below behind s e = behind s e
found_behind P (Some y) p below behind s e = below s e

pub part_of : (up : Option ℕ) (n : ℕ) (f : Forest) → ((m : ℕ) → uses m f ≤ 1) → (spot : Spot) → spot_in up n f ≡ Some spot → IsPart up n f spot
part_of up n none once spot e = absurd (none-some spot e)
part_of up n (node k body kids rest) once spot e =
    let below_once : (j : ℕ) → uses j kids ≤ 1 = λ j. let all = once j in omega (arith, all) in
    let behind_once : (j : ℕ) → uses j rest ≤ 1 = λ j. let all = once j in omega (arith, all) in
    elim (cases_eq n k) [
      | inl s ↦ subst (IsPart up n (node k body kids rest))
          (ap (some_or spot) (sym (if_same n k (Some (record { up = up; body = body; kids = kids })) (or_else (spot_in (Some k) n kids) (spot_in up n rest)) s) ∙ e))
          (λ m used. (ap (λ (j : ℕ). spot_in (Some j) m kids) s ∙ in_kids up m k body kids rest (once m) used, omega arith))
      | inr other ↦
          found_behind (IsPart up n (node k body kids rest)) (spot_in (Some k) n kids) (spot_in up n rest)
          (λ s found m used.
          let inner = part_of (Some k) n kids below_once s found m used in
          let less : uses m s.kids ≤ uses m kids = inner.1 in
          (inner.0 ∙ in_kids up m k body kids rest (once m) (omega (arith, used, less)), omega (arith, less)))
          (λ s found m used.
          let inner = part_of up n rest behind_once s found m used in
          let less : uses m s.kids ≤ uses m rest = inner.1 in
          (inner.0 ∙ in_rest up m k body kids rest (once m) (omega (arith, used, less)), omega (arith, less)))
          spot (sym (if_other n k (Some (record { up = up; body = body; kids = kids })) (or_else (spot_in (Some k) n kids) (spot_in up n rest)) other) ∙ e)
    ]
