-- Names as they are written, and lines that have them: the names that declare namespaces are read as they were written.
use Rattle.std.proofs.Common.{◌≡◌, ℕ, true, List, [], ◌∷◌, ◌++◌, Option, Some, None, refl, ap, ◌∙◌}
use Rattle.std.specs.Prelude.{◌&&◌, bytes_eq, slice_get}
use Rattle.std.specs.Str.{chars, is_utf8}
use Rattle.std.proofs.lemmas.Bool.{and_parts, or_right}
use Rattle.serna_kinds.specs.declared.cells.NameId.{NameId}
use Rattle.serna_kinds.specs.Names.{NameParts}
use Rattle.serna_kinds.specs.Qualified.{is_local_name, parted, prefix_of, is_name}
use Rattle.tree_lines.specs.Texts.{is_line}
use Rattle.tree_lines.specs.Tags.{xmlns, is_declaration, declared_prefix}
use Rattle.tree_lines.specs.Canonical.{spelled, spelling_of, declaring_name}
use Rattle.tree_lines.specs.Writable.{IsPrefix}
use Rattle.tree_lines.proofs.Parts.{parted-at}
use Rattle.tree_lines.proofs.WrittenTexts.{is_line-append}

-- the name that declares a prefix
parted-declaring : (prefix : List ℕ) → parted 58 (xmlns ++ 58 ∷ prefix) ≡ Some (xmlns, prefix)
parted-declaring prefix = parted-at 58 xmlns prefix (refl, (refl, (refl, (refl, (refl, tt)))))

pub is_name-declaring : (prefix uri : List ℕ) → IsPrefix prefix uri → is_name (declaring_name prefix) ≡ true
is_name-declaring [] uri h = refl
is_name-declaring (b ∷ bs) uri h =
    let both = and_parts (is_local_name (b ∷ bs)) (is_line (b ∷ bs)) h.0 in
    ap (λ (o : Option (List ℕ × List ℕ)). elim o [ None ↦ is_local_name (declaring_name (b ∷ bs)) | Some p ↦ is_local_name p.0 && is_local_name p.1 ]) (parted-declaring (b ∷ bs)) ∙ both.0

pub is_declaration-declaring : (prefix : List ℕ) → is_declaration (declaring_name prefix) ≡ true
is_declaration-declaring [] = refl
is_declaration-declaring (b ∷ bs) =
    let prefix : prefix_of (declaring_name (b ∷ bs)) ≡ xmlns = ap (λ (o : Option (List ℕ × List ℕ)). elim o [ None ↦ [] | Some p ↦ p.0 ]) (parted-declaring (b ∷ bs)) in
    or_right (bytes_eq (declaring_name (b ∷ bs)) xmlns) (bytes_eq (prefix_of (declaring_name (b ∷ bs))) xmlns) (ap (λ (p : List ℕ). bytes_eq p xmlns) prefix)

pub declared_prefix-declaring : (prefix : List ℕ) → declared_prefix (declaring_name prefix) ≡ prefix
declared_prefix-declaring [] = refl
declared_prefix-declaring (b ∷ bs) =
    ap (λ (o : Option (List ℕ × List ℕ)). elim o [ None ↦ declaring_name (b ∷ bs) | Some p ↦ p.1 ]) (parted-declaring (b ∷ bs))

pub is_line-declaring : (prefix uri : List ℕ) → IsPrefix prefix uri → is_line (declaring_name prefix) ≡ true
unfolding chars is_utf8 lib.Utf8.encode
is_line-declaring [] uri h = refl
is_line-declaring (b ∷ bs) uri h =
    let both = and_parts (is_local_name (b ∷ bs)) (is_line (b ∷ bs)) h.0 in
    is_line-append (xmlns ++ 58 ∷ []) (b ∷ bs) refl both.1

-- the name under a number
pub spelling_of-stored : (names : List NameParts) (id : NameId) (parts : NameParts) → slice_get names id.0 ≡ Some parts → spelling_of names id ≡ spelled parts
spelling_of-stored names id parts stored = rw stored refl

-- a line of a mark and bytes that a line may have
pub is_line-begin : (bytes : List ℕ) → is_line bytes ≡ true → is_line (40 ∷ bytes) ≡ true
unfolding chars is_utf8 lib.Utf8.encode
is_line-begin bytes good = is_line-append (40 ∷ []) bytes refl good

pub is_line-finish : (bytes : List ℕ) → is_line bytes ≡ true → is_line (41 ∷ bytes) ≡ true
unfolding chars is_utf8 lib.Utf8.encode
is_line-finish bytes good = is_line-append (41 ∷ []) bytes refl good

pub is_line-text : (bytes : List ℕ) → is_line bytes ≡ true → is_line (45 ∷ bytes) ≡ true
unfolding chars is_utf8 lib.Utf8.encode
is_line-text bytes good = is_line-append (45 ∷ []) bytes refl good

pub is_line-comment : (bytes : List ℕ) → is_line bytes ≡ true → is_line (67 ∷ bytes) ≡ true
unfolding chars is_utf8 lib.Utf8.encode
is_line-comment bytes good = is_line-append (67 ∷ []) bytes refl good

pub is_line-attribute : (name value : List ℕ) → is_line name ≡ true → is_line value ≡ true → is_line (65 ∷ (name ++ 32 ∷ value)) ≡ true
unfolding chars is_utf8 lib.Utf8.encode
is_line-attribute name value named good = is_line-append (65 ∷ []) (name ++ 32 ∷ value) refl (is_line-append name (32 ∷ value) named (is_line-append (32 ∷ []) value refl good))
