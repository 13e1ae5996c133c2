-- A test means the same under every table that grows from one that has the names it looks at.
use Rattle.std.proofs.Common.{◌≡◌, ℕ, ◌&&◌, encode_utf8_all, false, List, Option, Some, None, IsSome, bytes_eq, slice_get, refl, sym, ap, ◌∙◌, true≢false}
use Rattle.serna_kinds.specs.declared.cells.NameId.{NameId}
use Rattle.serna_kinds.specs.declared.cells.Kind.{Kind}
use Rattle.serna_kinds.specs.declared.expressions.Axis.{Axis}
use Rattle.serna_kinds.specs.declared.expressions.NodeTest.{NodeTest}
use Rattle.serna_kinds.specs.declared.expressions.NodeTest.TheVariants as test
use Rattle.serna_kinds.specs.Names.{NameParts, Grows}
use Rattle.serna_kinds.proofs.NameLemmas.{slice_get-grown}
use Rattle.source_model.specs.Axes.{takes, has_principal_kind, is_in_namespace, is_named, HasTest}
use Rattle.source_model.specs.Named.{HasName}

some_of : (o : Option NameParts) → IsSome o → (x : NameParts) × (o ≡ Some x)
some_of None known = absurd (true≢false (sym known))
some_of (Some x) known = (x, refl)

same_name : (names table : List NameParts) (id : NameId) → Grows names table → IsSome (slice_get names id.0) → slice_get table id.0 ≡ slice_get names id.0
same_name names table id grows known = let x = some_of (slice_get names id.0) known in slice_get-grown names table x.0 id.0 grows x.1 ∙ sym x.1

namespace-grown : (names table : List NameParts) (uri : List ℕ) (name : Option NameId) → Grows names table → HasName names name → is_in_namespace table uri name ≡ is_in_namespace names uri name
namespace-grown names table uri None grows known = refl
namespace-grown names table uri (Some id) grows known = ap (λ (o : Option NameParts). elim o [ None ↦ false | Some parts ↦ bytes_eq parts.uri (encode_utf8_all uri) ]) (same_name names table id grows known)

named-grown : (names table : List NameParts) (wanted : NameId) (name : Option NameId) → Grows names table → HasName names (Some wanted) → HasName names name → is_named table wanted name ≡ is_named names wanted name
named-grown names table wanted None grows has known = refl
named-grown names table wanted (Some id) grows has known = λ i.
    elim (same_name names table wanted grows has i) [ None ↦ false | Some x ↦ elim (same_name names table id grows known i) [ None ↦ false | Some y ↦ bytes_eq x.uri y.uri && bytes_eq x.local y.local ] ]

pub takes-grown : (names table : List NameParts) (along : Axis) (t : NodeTest) (kind : Option Kind) (name : Option NameId) → Grows names table → HasTest names t → HasName names name →
    takes table along t kind name ≡ takes names along t kind name
takes-grown names table along test.AnyNode kind name grows has known = refl
takes-grown names table along test.AnyText kind name grows has known = refl
takes-grown names table along test.AnyComment kind name grows has known = refl
takes-grown names table along test.AnyName kind name grows has known = refl
takes-grown names table along (test.Within uri) kind name grows has known = ap (λ b. has_principal_kind along kind && b) (namespace-grown names table uri name grows known)
takes-grown names table along (test.Named wanted) kind name grows has known = ap (λ b. has_principal_kind along kind && b) (named-grown names table wanted name grows has known)
