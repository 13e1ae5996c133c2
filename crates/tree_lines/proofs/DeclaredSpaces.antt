-- What lines without a fault declare can be written again: each prefix once, and each with its URI.
use Rattle.std.proofs.Common.{◌≡◌, ◌≢◌, ℕ, Bool, true, false, List, [], ◌∷◌, ◌++◌, length, encode_utf8_all, bytes_eq, cond, eqb, Option, Some, None, refl, sym, ap, ◌∙◌, subst, true≢false, arith}
use Rattle.std.specs.Prelude.{IsTrue, not, ◌&&◌, ◌||◌, if◌then◌else◌}
use Rattle.std.specs.List.{AllByRecursion, list_any, list_all, flat_map, take_while}
use Rattle.std.specs.Str.{chars, is_utf8}
use Rattle.std.proofs.lemmas.Bool.{and_parts, and_from, or_parts, eqb-true}
use Rattle.std.proofs.lemmas.Option.{none-some}
use Rattle.std.proofs.lemmas.List.Sums.{take_while-cons}
use Rattle.std.proofs.lemmas.Slice.Eq.{bytes_eq-Decides}
use Rattle.serna_kinds.specs.Names.{Space, space}
use Rattle.serna_kinds.specs.Qualified.{parted, prefix_of, local_of, is_local_name, is_name}
use Rattle.tree_lines.specs.declared.rules.LineRule.TheVariants as rule
use Rattle.tree_lines.specs.Texts.{is_allowed, is_line, meant}
use Rattle.tree_lines.specs.Tags.{Tag, tag_of, attribute_tag, xmlns, is_declaration, declared_prefix}
use Rattle.tree_lines.specs.Tags as tag
use Rattle.tree_lines.specs.Declarations.{begins_with, outermost_attributes, declared, declared_behind, declared_by}
use Rattle.tree_lines.specs.Before.{attributes_behind, attribute_names}
use Rattle.tree_lines.specs.LeftOpen.{left_open}
use Rattle.tree_lines.specs.Faults.{is_nothing, attribute_fault, said_fault, line_fault, fault_behind}
use Rattle.tree_lines.specs.Writable.{is_writable, IsText, IsPrefix, AreSpaces}
use Rattle.tree_lines.proofs.Parts.{Cut, at, past, cut_of, parted-at, parted-past, NameCase, plain, prefixed, name_case}
use Rattle.tree_lines.proofs.Stored.{AllByRecursion-like}
use Rattle.tree_lines.proofs.LineFacts.{declaration_fault-parts, fault_behind-parts, line_fault-parts, declaration_fault-from}
use Rattle.tree_lines.proofs.MeantTexts.{is_line-parts, meant-text, meant-chars, meant-some}

-- an attribute of another line declares no such prefix
abbrev IsElsewhere : Space → List ℕ → Type 0
IsElsewhere one other = is_declaration other ≡ true → declared_prefix other ≢ one.prefix

abbrev AreElsewhere : List (List ℕ) → Space → Type 0
AreElsewhere others one = AllByRecursion (IsElsewhere one) others

abbrev AreDeclared : List (List ℕ) → List Space → Type 0
AreDeclared others spaces = AreSpaces spaces × AllByRecursion (AreElsewhere others) spaces

-- a prefix is declared by its local name, with a URI
local_prefix : (local uri : List ℕ) → IsTrue (is_local_name local) → IsTrue (is_line local) → (is_nothing local ≡ false → uri ≢ []) → IsPrefix local uri
local_prefix [] uri good allowed some = tt
local_prefix (b ∷ bs) uri good allowed some = (and_from (is_local_name (b ∷ bs)) (is_line (b ∷ bs)) good allowed, some refl)

uri_some : (value : List ℕ) → IsTrue (is_line value) → is_nothing value ≡ false → encode_utf8_all (meant value) ≢ []
uri_some [] allowed some = absurd (true≢false some)
uri_some (c ∷ cs) allowed some = λ e. absurd (omega (arith, meant-some c cs allowed, ap length e))

prefix_declared : (name value : List ℕ) → is_declaration name ≡ true → IsTrue (is_name name) → IsTrue (is_line name) → IsTrue (is_line value)
    → (not (is_nothing (declared_prefix name)) && is_nothing value) ≡ false → IsPrefix (declared_prefix name) (encode_utf8_all (meant value))
prefix_declared name value declares good allowed short some = by (bytes_eq name xmlns) refl some
  where
    uri : (local : List ℕ) → (not (is_nothing local) && is_nothing value) ≡ false → is_nothing local ≡ false → encode_utf8_all (meant value) ≢ []
    uri local some other = uri_some value short (rw other at some)

    prefixed_by : NameCase name → bytes_eq name xmlns ≡ false → (not (is_nothing (local_of name)) && is_nothing value) ≡ false → IsPrefix (local_of name) (encode_utf8_all (meant value))
    prefixed_by (plain is front behind) other some =
        absurd (true≢false (sym declares ∙ ap (λ (x : Bool). x || bytes_eq (prefix_of name) xmlns) other ∙ ap (λ (x : List ℕ). bytes_eq x xmlns) front))
    prefixed_by (prefixed prefix local e first second front behind) other some =
        local_prefix (local_of name) (encode_utf8_all (meant value)) (subst (λ (x : List ℕ). IsTrue (is_local_name x)) (sym behind) second)
        (subst (λ (x : List ℕ). IsTrue (is_line x)) (sym behind) (is_line-parts prefix local 58 (omega arith) (subst (λ (x : List ℕ). IsTrue (is_line x)) e allowed)).1)
        (uri (local_of name) some)

    by : (same : Bool) → bytes_eq name xmlns ≡ same → (not (is_nothing (if same then [] else local_of name)) && is_nothing value) ≡ false
        → IsPrefix (if same then [] else local_of name) (encode_utf8_all (meant value))
    by true e some = tt
    by false e some = prefixed_by (name_case name good) e some

-- no other attribute before it declares it
elsewhere : (name : List ℕ) (uri : List ℕ) (others : List (List ℕ))
    → list_any (λ (other : List ℕ). is_declaration other && bytes_eq (declared_prefix other) (declared_prefix name)) others ≡ false
    → AreElsewhere others (space (declared_prefix name) uri)
elsewhere name uri [] none = tt
elsewhere name uri (other ∷ others) none =
    let same : Bool = bytes_eq (declared_prefix other) (declared_prefix name) in
    let parts = or_parts (is_declaration other && same) (list_any (λ (x : List ℕ). is_declaration x && bytes_eq (declared_prefix x) (declared_prefix name)) others) none in
    (λ declares e. true≢false (sym ((bytes_eq-Decides (declared_prefix other) (declared_prefix name)).1 e) ∙ (rw declares at parts.0)), elsewhere name uri others parts.1)

others_behind : (name : List ℕ) (others : List (List ℕ)) (one : Space) → AreElsewhere (name ∷ others) one → AreElsewhere others one
others_behind name others one all = all.1

-- an attribute in front of the declarations behind it
declared_more : (spaces : List Space) (before : List (List ℕ)) (name value : List ℕ) (declares : Bool) → is_declaration name ≡ declares
    → attribute_fault (left_open spaces before) name value ≡ None → IsTrue (is_line name) → IsTrue (is_line value) → (rest : List Space)
    → AreDeclared (name ∷ attribute_names before) rest
    → AreDeclared (attribute_names before) ((if declares then space (declared_prefix name) (encode_utf8_all (meant value)) ∷ [] else []) ++ rest)
declared_more spaces before name value false e none allowed short rest after =
    (after.0, AllByRecursion-like (AreElsewhere (name ∷ attribute_names before)) (AreElsewhere (attribute_names before)) (others_behind name (attribute_names before)) rest after.1)
declared_more spaces before name value true e none allowed short rest after =
    let others : List (List ℕ) = attribute_names before in
    let uri : List ℕ = encode_utf8_all (meant value) in
    let kept = declaration_fault-parts spaces before name value (declaration_fault-from spaces before name value e none) in
    let text : IsText (meant value) = meant-text value short in (
      (
        prefix_declared name value e kept.0 allowed short kept.2,
        (and_parts (is_utf8 uri) (list_all is_writable (meant value)) text).0,
        subst IsText (sym (meant-chars value short)) text,
        AllByRecursion-like (AreElsewhere (name ∷ others)) (λ (other : Space). declared_prefix name ≢ other.prefix) (λ other all. all.0 e) rest after.1,
        after.0,
      ),
      (
        elsewhere name uri others kept.1,
        AllByRecursion-like (AreElsewhere (name ∷ others)) (AreElsewhere others) (others_behind name others) rest after.1,
      ),
    )

-- and its line
line_declared : (spaces : List Space) (before : List (List ℕ)) (bytes : List ℕ) → line_fault (left_open spaces before) (65 ∷ bytes) ≡ None → (rest : List Space)
    → AreDeclared (attribute_names ((65 ∷ bytes) ∷ before)) rest → AreDeclared (attribute_names before) (declared_by (65 ∷ bytes) ++ rest)
line_declared spaces before bytes none rest after = by (cut_of 32 bytes)
  where
    parts : IsTrue (is_line (65 ∷ bytes)) × (said_fault (left_open spaces before) (tag_of (65 ∷ bytes)) ≡ None)
    parts = line_fault-parts spaces before (65 ∷ bytes) none

    by : Cut 32 bytes → AreDeclared (attribute_names before) (declared_by (65 ∷ bytes) ++ rest)
    by (past lacks) =
        let says : tag_of (65 ∷ bytes) ≡ None = rw (parted-past 32 bytes lacks, attribute_tag) refl in
        absurd (none-some rule.BadLine (sym (subst (λ (x : Option Tag). said_fault (left_open spaces before) x ≡ None) says parts.1)))
    by (at name value e lacks) =
        let cut : parted 32 bytes ≡ Some (name, value) = ap (parted 32) e ∙ parted-at 32 name value lacks in
        let says : tag_of (65 ∷ bytes) ≡ Some (tag.Attribute name value) = rw (cut, attribute_tag) refl in
        let text : is_utf8 (65 ∷ bytes) ≡ true = (and_parts (is_utf8 (65 ∷ bytes)) (list_all is_allowed (chars (65 ∷ bytes))) parts.0).0 in
        let declares : declared_by (65 ∷ bytes) ≡ declared name value =
        ap (λ (x : Bool). if x then declared_behind bytes else []) text ∙ rw (cut, declared_behind) refl in
        let allowed = is_line-parts name value 32 (omega arith) (subst (λ (x : List ℕ). IsTrue (is_line x)) e (is_line-parts [] bytes 65 (omega arith) parts.0).1) in
        subst (λ (x : List Space). AreDeclared (attribute_names before) (x ++ rest)) (sym declares)
        (declared_more spaces before name value (is_declaration name) refl
        (subst (λ (x : Option Tag). said_fault (left_open spaces before) x ≡ None) says parts.1) allowed.0 allowed.1 rest
        (subst (λ (x : Option Tag). AreDeclared (attributes_behind x (attribute_names before)) rest) says after))

-- what attributes' lines declare, up to another line
attributes_declared : (spaces : List Space) (before lines : List (List ℕ)) → fault_behind spaces before lines ≡ None
    → AreDeclared (attribute_names before) (flat_map declared_by (take_while (begins_with 65) lines))
attributes_declared spaces before [] none = (tt, tt)
attributes_declared spaces before (line ∷ lines) none =
    let parts = fault_behind-parts spaces before line lines none in
    subst (λ (x : List (List ℕ)). AreDeclared (attribute_names before) (flat_map declared_by x)) (sym (take_while-cons (begins_with 65) line lines))
    (by line parts.0 (attributes_declared spaces (line ∷ before) lines parts.1))
  where
    more : (bytes : List ℕ) (b : ℕ) (is : Bool) → eqb b 65 ≡ is → line_fault (left_open spaces before) (b ∷ bytes) ≡ None
        → AreDeclared (attribute_names ((b ∷ bytes) ∷ before)) (flat_map declared_by (take_while (begins_with 65) lines))
        → AreDeclared (attribute_names before) (flat_map declared_by (cond is ((b ∷ bytes) ∷ take_while (begins_with 65) lines) []))
    more bytes b true e none after =
        let same : b ≡ 65 = eqb-true b 65 e in
        let done = line_declared spaces before bytes (subst (λ (c : ℕ). line_fault (left_open spaces before) (c ∷ bytes) ≡ None) same none) (flat_map declared_by (take_while (begins_with 65) lines))
        (subst (λ (c : ℕ). AreDeclared (attribute_names ((c ∷ bytes) ∷ before)) (flat_map declared_by (take_while (begins_with 65) lines))) same after) in
        subst (λ (c : ℕ). AreDeclared (attribute_names before) (flat_map declared_by ((c ∷ bytes) ∷ take_while (begins_with 65) lines))) (sym same) done
    more bytes b false e none after = (tt, tt)

    by : (line : List ℕ) → line_fault (left_open spaces before) line ≡ None
        → AreDeclared (attribute_names (line ∷ before)) (flat_map declared_by (take_while (begins_with 65) lines))
        → AreDeclared (attribute_names before) (flat_map declared_by (cond (begins_with 65 line) (line ∷ take_while (begins_with 65) lines) []))
    by [] none after = (tt, tt)
    by (b ∷ bytes) none after = more bytes b (eqb b 65) refl none after

-- what lines declare
pub spaces_declared : (spaces : List Space) (before lines : List (List ℕ)) → fault_behind spaces before lines ≡ None → AreSpaces (flat_map declared_by (outermost_attributes lines))
spaces_declared spaces before [] none = tt
spaces_declared spaces before (line ∷ lines) none =
    let parts = fault_behind-parts spaces before line lines none in
    by (begins_with 40 line) (attributes_declared spaces (line ∷ before) lines parts.1).0 (spaces_declared spaces (line ∷ before) lines parts.1)
  where
    by : (begun : Bool) → AreSpaces (flat_map declared_by (take_while (begins_with 65) lines)) → AreSpaces (flat_map declared_by (outermost_attributes lines))
        → AreSpaces (flat_map declared_by (if begun then take_while (begins_with 65) lines else outermost_attributes lines))
    by true one other = one
    by false one other = other
