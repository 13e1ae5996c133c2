-- A source that is proper over a table has its names there, and is proper over each table that grows from it.
use Rattle.std.proofs.Common.{◌≡◌, Bool, false, List, [], ◌∷◌, ◌++◌, map, Option, Some, None, slice_get, refl, sym, ◌∙◌, subst}
use Rattle.std.specs.Prelude.{IsSome, ◌&&◌, bytes_eq}
use Rattle.std.specs.List.{AllByRecursion}
use Rattle.serna_kinds.specs.declared.cells.NameId.{NameId}
use Rattle.serna_kinds.specs.declared.cells.AttrPair.{AttrPair}
use Rattle.serna_kinds.specs.Names.{NameParts, Grows, are_same}
use Rattle.serna_kinds.proofs.NameLemmas.{slice_get-grown}
use Rattle.serna_kinds.specs.Apart.{AreApart}
use Rattle.source_model.specs.Source.{Root, Element, Text, Comment, Forest, none, node, Source}
use Rattle.source_model.specs.Proper.{AreNodes, IsProper}
use Rattle.source_model.specs.Named.{names_in, AreKnown}

-- the name under a number that the table has
name_at : (names : List NameParts) (id : NameId) (o : Option NameParts) → slice_get names id.0 ≡ o → IsSome o → (name : NameParts) × (slice_get names id.0 ≡ Some name)
name_at names id (Some name) e known = (name, e)
name_at names id None e known = cc

IsSome-grown : (old new : List NameParts) (id : NameId) → Grows old new → IsSome (slice_get old id.0) → IsSome (slice_get new id.0)
IsSome-grown old new id grows known =
    let name = name_at old id (slice_get old id.0) refl known in
    subst IsSome (sym (slice_get-grown old new name.0 id.0 grows name.1)) refl

-- two names are the same in a table that grows where they were
abbrev same_by : Option NameParts → Option NameParts → Bool
same_by None o = false
same_by (Some x) None = false
same_by (Some x) (Some y) = bytes_eq x.uri y.uri && bytes_eq x.local y.local

are_same-by : (names : List NameParts) (a b : NameId) (o p : Option NameParts) → slice_get names a.0 ≡ o → slice_get names b.0 ≡ p → are_same names a b ≡ same_by o p
are_same-by names a b None p e f = rw (e, are_same) refl
are_same-by names a b (Some x) None e f = rw (e, f, are_same) refl
are_same-by names a b (Some x) (Some y) e f = rw (e, f, are_same) refl

are_same-grown : (old new : List NameParts) (a b : NameId) → Grows old new → IsSome (slice_get old a.0) → IsSome (slice_get old b.0) → are_same new a b ≡ are_same old a b
are_same-grown old new a b grows one other =
    let x = name_at old a (slice_get old a.0) refl one in
    let y = name_at old b (slice_get old b.0) refl other in
    are_same-by new a b (Some x.0) (Some y.0) (slice_get-grown old new x.0 a.0 grows x.1) (slice_get-grown old new y.0 b.0 grows y.1)
    ∙ sym (are_same-by old a b (Some x.0) (Some y.0) x.1 y.1)

-- so attributes that are apart stay so
apart_from-grown : (old new : List NameParts) (id : NameId) (pairs : List AttrPair) → Grows old new → IsSome (slice_get old id.0) → AreApart old pairs →
    AllByRecursion (λ (other : AttrPair). are_same old id other.name ≡ false) pairs → AllByRecursion (λ (other : AttrPair). are_same new id other.name ≡ false) pairs
apart_from-grown old new id [] grows known apart from = tt
apart_from-grown old new id (pair ∷ pairs) grows known apart from =
    (are_same-grown old new id pair.name grows known apart.0 ∙ from.0, apart_from-grown old new id pairs grows known apart.2 from.1)

pub AreApart-grown : (old new : List NameParts) (pairs : List AttrPair) → Grows old new → AreApart old pairs → AreApart new pairs
AreApart-grown old new [] grows apart = tt
AreApart-grown old new (pair ∷ pairs) grows apart =
    (IsSome-grown old new pair.name grows apart.0, apart_from-grown old new pair.name pairs grows apart.0 apart.2 apart.1, AreApart-grown old new pairs grows apart.2)

pub AreNodes-grown : (old new : List NameParts) (f : Forest) → Grows old new → AreNodes old f → AreNodes new f
AreNodes-grown old new none grows are = tt
AreNodes-grown old new (node n Root kids rest) grows are = are
AreNodes-grown old new (node n (Element name attributes) kids rest) grows are =
    (IsSome-grown old new name grows are.0, (AreApart-grown old new attributes grows are.1.0, are.1.1), AreNodes-grown old new kids grows are.2, AreNodes-grown old new rest grows are.3)
AreNodes-grown old new (node n (Text text) kids rest) grows are = (are.0, are.1, are.2, are.3, AreNodes-grown old new rest grows are.4)
AreNodes-grown old new (node n (Comment text) kids rest) grows are = (are.0, AreNodes-grown old new rest grows are.1)

pub IsProper-grown : (old new : List NameParts) (source : Source) → Grows old new → IsProper old source → IsProper new source
IsProper-grown old new source grows p = record {
  top = p.top;
  rooted = p.rooted;
  outermost = p.outermost;
  nodes = AreNodes-grown old new p.top grows p.nodes;
  distinct = p.distinct;
  numbered = p.numbered;
  few = p.few;
  shallow = p.shallow;
}

-- the names of what is proper are the table's
known_append : (names : List NameParts) (ids more : List NameId) → AreKnown names ids → AreKnown names more → AreKnown names (ids ++ more)
known_append names [] more one other = other
known_append names (id ∷ ids) more one other = (one.0, known_append names ids more one.1 other)

pairs_known : (names : List NameParts) (pairs : List AttrPair) → AreApart names pairs → AreKnown names (map (λ (pair : AttrPair). pair.name) pairs)
pairs_known names [] apart = tt
pairs_known names (pair ∷ pairs) apart = (apart.0, pairs_known names pairs apart.2)

nodes_known : (names : List NameParts) (f : Forest) → AreNodes names f → AreKnown names (names_in f)
nodes_known names none are = tt
nodes_known names (node n Root kids rest) are = absurd are
nodes_known names (node n (Element name attributes) kids rest) are = (
  are.0,
  known_append names (map (λ (pair : AttrPair). pair.name) attributes) (names_in kids ++ names_in rest) (pairs_known names attributes are.1.0)
      (known_append names (names_in kids) (names_in rest) (nodes_known names kids are.2) (nodes_known names rest are.3)),
)
nodes_known names (node n (Text text) kids rest) are =
    known_append names (names_in kids) (names_in rest) (subst (λ f. AreKnown names (names_in f)) (sym are.2) tt) (nodes_known names rest are.4)
nodes_known names (node n (Comment text) kids rest) are =
    known_append names (names_in kids) (names_in rest) (subst (λ f. AreKnown names (names_in f)) (sym are.0) tt) (nodes_known names rest are.1)

pub names-known : (names : List NameParts) (source : Source) → IsProper names source → AreKnown names (names_in source.tree)
names-known names source p =
    subst (λ t. AreKnown names (names_in t)) (sym p.rooted) (known_append names (names_in p.top) [] (nodes_known names p.top p.nodes) tt)
