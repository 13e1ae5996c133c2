-- An element of a proper source has a name of the table.
use Rattle.std.proofs.Common.{◌≡◌, ℕ, ◌==◌, Bool, true, false, List, Option, Some, None, IsSome, slice_get, if◌then◌else◌, sym, ap, subst, ◌∙◌}
use Rattle.std.proofs.lemmas.Option.{none-some}
use Rattle.serna_kinds.specs.declared.cells.NameId.{NameId}
use Rattle.serna_kinds.specs.Names.{NameParts}
use Rattle.source_model.specs.Source.{Root, Element, Text, Comment, Forest, none, node, Source}
use Rattle.source_model.specs.Cells.{Spot, or_else, spot_in, spot_of, name_of}
use Rattle.source_model.specs.Proper.{IsProper, AreNodes}

abbrev pub HasName : List NameParts → Option NameId → Type 0
HasName names None = Unit {0}
HasName names (Some id) = IsSome (slice_get names id.0)

abbrev IsKnown : List NameParts → Spot → Type 0
IsKnown names spot = HasName names (name_of spot.body)

abbrev some_or : Spot → Option Spot → Spot
some_or x None = x
some_or x (Some y) = y

-- what is found among neighbours is the first of them, or found below it, or behind it
found_where : (P : Spot → Type 0) (b : Bool) (x : Spot) (o p : Option Spot) → P x → ((s : Spot) → o ≡ Some s → P s) → ((s : Spot) → p ≡ Some s → P s) →
    (s : Spot) → (if b then Some x else or_else o p) ≡ Some s → P s
found_where P true x o p here below behind s e = subst P (ap (some_or x) e) here
found_where P false x None p here below behind s e = behind s e
found_where P false x (Some y) p here below behind s e = below s e

below_none : (P : Spot → Type 0) (up : Option ℕ) (n : ℕ) (kids : Forest) → kids ≡ none → (s : Spot) → spot_in up n kids ≡ Some s → P s
below_none P up n kids e s found = absurd (none-some s (sym (ap (spot_in up n) e) ∙ found))

known_in : (names : List NameParts) (up : Option ℕ) (n : ℕ) (f : Forest) → AreNodes names f → (spot : Spot) → spot_in up n f ≡ Some spot → IsKnown names spot
known_in names up n none nodes spot e = absurd (none-some spot e)
known_in names up n (node k Root kids rest) nodes spot e = absurd nodes
known_in names up n (node k (Element name pairs) kids rest) nodes spot e =
    found_where (IsKnown names) (n == k) (record { up = up; body = Element name pairs; kids = kids }) (spot_in (Some k) n kids) (spot_in up n rest) nodes.0
    (known_in names (Some k) n kids nodes.2) (known_in names up n rest nodes.3) spot e
known_in names up n (node k (Text text) kids rest) nodes spot e =
    found_where (IsKnown names) (n == k) (record { up = up; body = Text text; kids = kids }) (spot_in (Some k) n kids) (spot_in up n rest) tt
    (below_none (IsKnown names) (Some k) n kids nodes.2) (known_in names up n rest nodes.4) spot e
known_in names up n (node k (Comment text) kids rest) nodes spot e =
    found_where (IsKnown names) (n == k) (record { up = up; body = Comment text; kids = kids }) (spot_in (Some k) n kids) (spot_in up n rest) tt
    (below_none (IsKnown names) (Some k) n kids nodes.0) (known_in names up n rest nodes.1) spot e

pub name_known : (names : List NameParts) (source : Source) (n : ℕ) (spot : Spot) → IsProper names source → spot_of source n ≡ Some spot → HasName names (name_of spot.body)
name_known names source n spot proper e =
    found_where (IsKnown names) (n == 0) (record { up = None; body = Root; kids = proper.top }) (spot_in (Some 0) n proper.top) None tt
    (known_in names (Some 0) n proper.top proper.nodes) (λ s e. absurd (none-some s e)) spot (sym (ap (spot_in None n) proper.rooted) ∙ e)
