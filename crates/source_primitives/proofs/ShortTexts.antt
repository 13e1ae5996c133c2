-- A text of a proper source is short, and a place in it near its start.
use Rattle.std.proofs.Common.{◌≡◌, ℕ, ◌≤◌, ◌⊎◌, inl, inr, List, Option, Some, None, refl, sym, ap, ◌∙◌, subst, arith}
use Rattle.std.proofs.lemmas.Bool.{cases_eq}
use Rattle.std.proofs.lemmas.Option.{none-some}
use Rattle.serna_kinds.specs.Limits.{text_limit}
use Rattle.serna_kinds.specs.Names.{NameParts}
use Rattle.source_model.specs.Source.{Body, Forest, Source}
use Rattle.source_model.specs.Source as source
use Rattle.source_model.specs.Cells.{Spot, spot_in, or_else}
use Rattle.source_model.specs.Changes.{characters, text_at}
use Rattle.source_model.specs.Proper.{IsShort, AreNodes, IsProper}
use Rattle.source_model.proofs.Spots.{if_same, if_other}
use Rattle.source_primitives.specs.declared.primitive.CaretPlace.{CaretPlace}
use Rattle.source_primitives.specs.declared.primitive.CaretPlace.TheVariants.{Text, Into}
use Rattle.source_primitives.specs.Places.{IsPlaceOf, IsNear}
use Rattle.source_primitives.proofs.Leaves.{place_within}
use Rattle.source_primitives.proofs.Inside.{spot_text}
use Rattle.source_primitives.proofs.TextPlaces.{size}

-- which of two spots was found
pub or_spot : (o p : Option Spot) (spot : Spot) → or_else o p ≡ Some spot → (o ≡ Some spot) ⊎ (p ≡ Some spot)
or_spot None p spot e = inr e
or_spot (Some x) p spot e = inl e

-- a text of a proper source is short
abbrev body_at : Option Spot → Body
body_at None = source.Root
body_at (Some spot) = spot.body

node_short : (up : Option ℕ) (n k : ℕ) (body : Body) (kids rest : Forest) (spot : Spot) (text : List ℕ) → ((n ≡ k) ⊎ (n ≡ k → ⊥)) → (characters body ≡ Some text → size text ≤ text_limit) →
    (spot_in (Some k) n kids ≡ Some spot → size text ≤ text_limit) → (spot_in up n rest ≡ Some spot → size text ≤ text_limit) →
    spot_in up n (source.node k body kids rest) ≡ Some spot → characters spot.body ≡ Some text → size text ≤ text_limit
node_short up n k body kids rest spot text (inl e) own below later found is =
    own (ap characters (ap body_at (sym (if_same n k (Some (record { up = up; body = body; kids = kids })) (or_else (spot_in (Some k) n kids) (spot_in up n rest)) e) ∙ found)) ∙ is)
node_short up n k body kids rest spot text (inr e) own below later found is =
    elim (or_spot (spot_in (Some k) n kids) (spot_in up n rest) spot
    (sym (if_other n k (Some (record { up = up; body = body; kids = kids })) (or_else (spot_in (Some k) n kids) (spot_in up n rest)) e) ∙ found)) [ inl here ↦ below here | inr there ↦ later there ]

own_short : (t text : List ℕ) → IsShort t → Some t ≡ Some text → size text ≤ text_limit
own_short t text short e = let same : t ≡ text = cc in subst (λ u. size u ≤ text_limit) same short

texts_short : (names : List NameParts) (f : Forest) (up : Option ℕ) (n : ℕ) (spot : Spot) (text : List ℕ) → AreNodes names f → spot_in up n f ≡ Some spot → characters spot.body ≡ Some text → size text ≤ text_limit
texts_short names source.none up n spot text all found is = absurd (none-some spot found)
texts_short names (source.node k source.Root kids rest) up n spot text all found is = absurd all
texts_short names (source.node k (source.Element name attributes) kids rest) up n spot text all found is =
    node_short up n k (source.Element name attributes) kids rest spot text (cases_eq n k) (λ e. absurd (none-some text e)) (λ e. texts_short names kids (Some k) n spot text all.2 e is)
    (λ e. texts_short names rest up n spot text all.3 e is) found is
texts_short names (source.node k (source.Text t) kids rest) up n spot text all found is =
    let below : AreNodes names kids = subst (AreNodes names) (sym all.2) tt in
    node_short up n k (source.Text t) kids rest spot text (cases_eq n k) (own_short t text all.1) (λ e. texts_short names kids (Some k) n spot text below e is)
    (λ e. texts_short names rest up n spot text all.4 e is) found is
texts_short names (source.node k (source.Comment t) kids rest) up n spot text all found is =
    let below : AreNodes names kids = subst (AreNodes names) (sym all.0) tt in
    node_short up n k (source.Comment t) kids rest spot text (cases_eq n k) (λ e. absurd (none-some text e)) (λ e. texts_short names kids (Some k) n spot text below e is)
    (λ e. texts_short names rest up n spot text all.1 e is) found is

pub text_short : (s : Source) (names : List NameParts) (n : ℕ) (text : List ℕ) → IsProper names s → text_at s n ≡ Some text → size text ≤ text_limit
text_short s names n text proper e =
    let at = spot_text s n text e in
    let spot : Spot = record { up = at.0; body = source.Text text; kids = at.1 } in
    node_short None n 0 source.Root proper.top source.none spot text (cases_eq n 0) (λ e. absurd (none-some text e)) (λ h. texts_short names proper.top (Some 0) n spot text proper.nodes h refl)
    (λ h. absurd (none-some spot h)) (ap (spot_in None n) (sym proper.rooted) ∙ at.2) refl

pub place_short : (s : Source) (names : List NameParts) (place : CaretPlace) → IsProper names s → IsPlaceOf s place → IsNear place
place_short s names (Text n at) proper is =
    let short = text_short s names n.0 is.0 proper is.1 in
    let within = place_within is.0 at is.2 in
    omega (arith, short, within)
place_short s names (Into n) proper is = tt

pub ruleset all = place_short
