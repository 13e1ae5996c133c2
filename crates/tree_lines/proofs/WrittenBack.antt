-- What is written of a document's tree are the document's own lines, with texts joined and declarations in front.
use Rattle.std.proofs.Common.{◌≡◌, ◌≢◌, ℕ, ◌+◌, Bool, true, false, List, [], ◌∷◌, ◌++◌, Option, Some, None, map, length, drop, refl, sym, ap, subst, ◌∙◌, arith, encode_utf8_all}
use Rattle.std.specs.Prelude.{◌&&◌, not, nat_le, nat_lt, if◌then◌else◌}
use Rattle.std.specs.List.{AllByRecursion, flat_map, filter, take_while}
use Rattle.std.specs.Str.{chars}
use Rattle.std.proofs.lemmas.Bool.{not-false}
use Rattle.std.proofs.lemmas.List.Sums.{take_while-cons}
use Rattle.std.proofs.lemmas.Str.{encodes_same}
use Rattle.serna_kinds.specs.declared.cells.AttrPair.{AttrPair}
use Rattle.serna_kinds.specs.Names.{NameParts, Space, space, Grows, id_of}
use Rattle.serna_kinds.specs.Qualified.{is_name, element_name, attribute_name}
use Rattle.tree_lines.specs.declared.rules.LineRule.{LineRule}
use Rattle.tree_lines.specs.declared.rules.LineRule.TheVariants as rule
use Rattle.tree_lines.specs.Texts.{has_escapes, meant, size_of}
use Rattle.tree_lines.specs.Tags.{Tag, tag_of, xmlns, is_declaration, declared_prefix}
use Rattle.tree_lines.specs.Tags as tag
use Rattle.tree_lines.specs.Before.{open_elements, text_size, begins_text, node_count}
use Rattle.tree_lines.specs.LeftOpen.{left_open}
use Rattle.tree_lines.specs.Faults.{is_nothing, attribute_fault, said_fault}
use Rattle.tree_lines.specs.Written.{Written, Attribute, attribute_bytes, written_lines}
use Rattle.tree_lines.specs.Written as written
use Rattle.tree_lines.specs.Documents.{IsTop, AreParted, IsDocument}
use Rattle.tree_lines.specs.Declarations.{begins_with, declared, declared_by, spaces_in}
use Rattle.tree_lines.specs.Given.{Given, with_text, pair_in, given_in, spaces_of, given_of}
use Rattle.tree_lines.specs.Given as given
use Rattle.tree_lines.specs.Tokens.{names_by, names_with}
use Rattle.tree_lines.specs.Canonical.{spelling_of, escaped, document_lines}
use Rattle.tree_lines.specs.Writable.{with_line, declarations_first, rewritten}
use Rattle.tree_lines.proofs.Stored.{IsStored, AllByRecursion-parts}
use Rattle.tree_lines.proofs.MeantTexts.{is_line-parts, meant-chars}
use Rattle.tree_lines.proofs.LineFacts.{first-kept, begin_fault-parts, line_fault-parts}
use Rattle.tree_lines.proofs.WasRead.{IsRead, lines_read}
use Rattle.tree_lines.proofs.Said.{names_stored}
use Rattle.tree_lines.proofs.WrittenTexts.{written_text}
use Rattle.tree_lines.proofs.Parts.{tag_of-attribute}
use Rattle.tree_lines.proofs.Escapes.{escaped-apart}
use Rattle.tree_lines.proofs.WrittenAgain.{IsLineText, written-meant, written_text-append, element-spelling, attribute-spelling, declaring-back}
use Rattle.tree_lines.proofs.WrittenInner.{pair-escapes, AreNamed, DeclareNone, AreInner, comments-inner, IsInside, is_inside}
use Rattle.tree_lines.proofs.WrittenDocuments.{declared_by-attribute, written_pair, written_space, content_of, document_of, lines-written}

-- attributes
record IsAttributeRead (table : List NameParts) (spaces : List Space) (attribute : Attribute) : Type 0 where
  named : is_name attribute.name ≡ true
  value : IsLineText attribute.value
  declares : declared_by (attribute_bytes attribute) ≡ declared attribute.name attribute.value
  stored : is_declaration attribute.name ≡ false → IsStored table (attribute_name spaces attribute.name)

attribute-read : (table : List NameParts) (spaces : List Space) (attribute : Attribute) → is_name attribute.name ≡ true → IsRead table spaces (attribute_bytes attribute) → IsAttributeRead table spaces attribute
attribute-read table spaces attribute named read =
    let name : List ℕ = attribute.name in
    let value : List ℕ = attribute.value in
    let said = tag_of-attribute name value named in
    let parts = line_fault-parts spaces read.before (attribute_bytes attribute) read.none in
    let kept : attribute_fault (left_open spaces read.before) name value ≡ None = sym (ap (said_fault (left_open spaces read.before)) said) ∙ parts.1 in
    let line = is_line-parts name value 32 (omega arith) (is_line-parts [] (name ++ 32 ∷ value) 65 (omega arith) parts.0).1 in
    let stored : AllByRecursion (IsStored table) (names_by spaces (Some (tag.Attribute name value))) = subst (λ (t : Option Tag). AllByRecursion (IsStored table) (names_by spaces t)) said read.stored in
    record {
      named = named;
      value = record { good = line.1; escapes = pair-escapes spaces read.before name value kept };
      declares = declared_by-attribute name value named line.0 line.1;
      stored = λ pair. (subst (λ b. AllByRecursion (IsStored table) (if b then [] else attribute_name spaces name ∷ [])) pair stored).0;
    }

abbrev AreAttributesRead : List NameParts → List Space → List Attribute → Type 0
AreAttributesRead table spaces attributes = AllByRecursion (IsAttributeRead table spaces) attributes

attributes-read : (table : List NameParts) (spaces : List Space) (attributes : List Attribute) → AreNamed attributes → AllByRecursion (IsRead table spaces) (map attribute_bytes attributes)
    → AreAttributesRead table spaces attributes
attributes-read table spaces [] named read = tt
attributes-read table spaces (a ∷ attributes) named read = (attribute-read table spaces a named.0 read.0, attributes-read table spaces attributes named.1 read.1)

-- those that declare nothing are written as they were read
abbrev declares : Attribute → Bool
declares attribute = is_declaration attribute.name

abbrev pairs_back : List NameParts → List Space → List Attribute → List Attribute
pairs_back table spaces attributes = map (written_pair table) (flat_map (pair_in table spaces) attributes)

pairs-back : (table : List NameParts) (spaces : List Space) (attributes : List Attribute) → AreAttributesRead table spaces attributes
    → pairs_back table spaces attributes ≡ filter (λ (a : Attribute). not (declares a)) attributes
pairs-back table spaces [] read = refl
pairs-back table spaces (a ∷ attributes) read = by (declares a) refl (pairs-back table spaces attributes read.1)
  where
    number : AttrPair
    number = record { name = id_of table (attribute_name spaces a.name); value = meant a.value }

    by : (b : Bool) → declares a ≡ b → pairs_back table spaces attributes ≡ filter (λ (x : Attribute). not (declares x)) attributes
        → map (written_pair table) ((if declares a then [] else record { name = id_of table (attribute_name spaces a.name); value = meant a.value } ∷ []) ++ flat_map (pair_in table spaces) attributes)
        ≡ filter (λ (x : Attribute). not (declares x)) (a ∷ attributes)
    by true e rest = rw e rest
    by false e rest =
        let name = attribute-spelling table spaces a.name read.0.named (read.0.stored e) in
        let value = written-meant a.value read.0.value in
        rw e (λ i. record { name = name i; value = value i } ∷ rest i)

-- and those that do
abbrev declared_in : Attribute → List Space
declared_in attribute = declared attribute.name attribute.value

spaces-back : (table : List NameParts) (spaces : List Space) (attributes : List Attribute) → AreAttributesRead table spaces attributes
    → map written_space (flat_map declared_in attributes) ≡ filter declares attributes
spaces-back table spaces [] read = refl
spaces-back table spaces (a ∷ attributes) read = by (declares a) refl (spaces-back table spaces attributes read.1)
  where
    by : (b : Bool) → declares a ≡ b → map written_space (flat_map declared_in attributes) ≡ filter declares attributes
        → map written_space ((if declares a then space (declared_prefix a.name) (encode_utf8_all (meant a.value)) ∷ [] else []) ++ flat_map declared_in attributes)
        ≡ filter declares (a ∷ attributes)
    by true e rest =
        let name = declaring-back a.name read.0.named e in
        let value : written_text (chars (encode_utf8_all (meant a.value))) ≡ a.value = ap written_text (meant-chars a.value read.0.value.good) ∙ written-meant a.value read.0.value in
        rw e (λ i. record { name = name i; value = value i } ∷ rest i)
    by false e rest = rw e rest

none-declare : (attributes : List Attribute) → DeclareNone attributes → filter declares attributes ≡ []
none-declare [] h = refl
none-declare (a ∷ attributes) h = rw h.0 (none-declare attributes h.1)

-- texts in front
some-written : (c : ℕ) (cs : List ℕ) → written_text (c ∷ cs) ≢ []
some-written c cs = λ e. let none : c ∷ cs ≡ [] = escaped-apart (c ∷ cs) [] (encodes_same (escaped (c ∷ cs)) [] e) in absurd (cc)

line-end : (bytes : List ℕ) → (bytes ≢ []) → with_line bytes written.end ≡ written.text bytes written.end
line-end [] some = absurd (some refl)
line-end (b ∷ bs) some = refl

line-text : (bytes t : List ℕ) (rest : Written) → (bytes ≢ []) → with_line bytes (written.text t rest) ≡ written.text (bytes ++ t) rest
line-text [] t rest some = absurd (some refl)
line-text (b ∷ bs) t rest some = refl

line-comment : (bytes t : List ℕ) (rest : Written) → (bytes ≢ []) → with_line bytes (written.comment t rest) ≡ written.text bytes (written.comment t rest)
line-comment [] t rest some = absurd (some refl)
line-comment (b ∷ bs) t rest some = refl

line-element : (bytes name : List ℕ) (attributes : List Attribute) (content rest : Written) → (bytes ≢ [])
    → with_line bytes (written.element name attributes content rest) ≡ written.text bytes (written.element name attributes content rest)
line-element [] name attributes content rest some = absurd (some refl)
line-element (b ∷ bs) name attributes content rest some = refl

text-in_front : (table : List NameParts) (t : List ℕ) (tree : Given) → content_of table (with_text t tree) ≡ with_line (written_text t) (content_of table tree)
text-in_front table [] tree = refl
text-in_front table (c ∷ cs) given.end = sym (line-end (written_text (c ∷ cs)) (some-written c cs))
text-in_front table (c ∷ cs) (given.text u rest) =
    ap (λ (x : List ℕ). written.text x (content_of table rest)) (written_text-append (c ∷ cs) u)
    ∙ sym (line-text (written_text (c ∷ cs)) (written_text u) (content_of table rest) (some-written c cs))
text-in_front table (c ∷ cs) (given.comment u rest) = sym (line-comment (written_text (c ∷ cs)) (written_text u) (content_of table rest) (some-written c cs))
text-in_front table (c ∷ cs) (given.element id attributes line content rest) =
    sym (line-element (written_text (c ∷ cs)) (spelling_of table id) (map (written_pair table) attributes) (content_of table content) (content_of table rest) (some-written c cs))

-- the lines of a content
abbrev text_rules : List (List ℕ) → List ℕ → List (Bool × LineRule)
text_rules before t =
    (begins_text (text_size before) t && nat_le 1000000 (node_count before), rule.TooManyNodes) ∷ (nat_lt 16384 (text_size before + size_of (meant t)), rule.TextTooLong) ∷ []

text-read : (table : List NameParts) (spaces : List Space) (t : List ℕ) → IsRead table spaces (45 ∷ t) → IsLineText t
text-read table spaces t read =
    let parts = line_fault-parts spaces read.before (45 ∷ t) read.none in
    let more : List (Bool × LineRule) = (not (has_escapes t), rule.BadEscape) ∷ text_rules read.before t in
    let inside = first-kept (is_nothing (open_elements read.before)) rule.BadLine more parts.1 in
    let escaped = first-kept (not (has_escapes t)) rule.BadEscape (text_rules read.before t) inside.1 in
    record { good = (is_line-parts [] t 45 (omega arith) parts.0).1; escapes = not-false (has_escapes t) escaped.0 }

comment-read : (table : List NameParts) (spaces : List Space) (t : List ℕ) → IsRead table spaces (67 ∷ t) → IsLineText t
comment-read table spaces t read =
    let parts = line_fault-parts spaces read.before (67 ∷ t) read.none in
    let escaped = first-kept (not (has_escapes t)) rule.BadEscape ((nat_le 1000000 (node_count read.before), rule.TooManyNodes) ∷ []) parts.1 in
    record { good = (is_line-parts [] t 67 (omega arith) parts.0).1; escapes = not-false (has_escapes t) escaped.0 }

element-read : (table : List NameParts) (spaces : List Space) (name : List ℕ) → IsRead table spaces (40 ∷ name) → spelling_of table (id_of table (element_name spaces name)) ≡ name
element-read table spaces name read =
    let parts = line_fault-parts spaces read.before (40 ∷ name) read.none in
    element-spelling table spaces name (begin_fault-parts spaces read.before name parts.1).0 read.stored.0

-- the lines of an element, part by part
record ArePartsRead (table : List NameParts) (spaces : List Space) (name : List ℕ) (attributes : List Attribute) (content rest : Written) : Type 0 where
  begins : IsRead table spaces (40 ∷ name)
  own : AreAttributesRead table spaces attributes
  inside : AllByRecursion (IsRead table spaces) (written_lines content)
  behind : AllByRecursion (IsRead table spaces) (written_lines rest)

parts-read : (table : List NameParts) (spaces : List Space) (name : List ℕ) (attributes : List Attribute) (content rest : Written) → AreNamed attributes
    → AllByRecursion (IsRead table spaces) (written_lines (written.element name attributes content rest)) → ArePartsRead table spaces name attributes content rest
parts-read table spaces name attributes content rest named read =
    let after : List (List ℕ) = (41 ∷ name) ∷ written_lines rest in
    let one = AllByRecursion-parts (IsRead table spaces) (map attribute_bytes attributes) (written_lines content ++ after) read.1 in
    let two = AllByRecursion-parts (IsRead table spaces) (written_lines content) after one.1 in
    record { begins = read.0; own = attributes-read table spaces attributes named one.0; inside = two.0; behind = two.1.1 }

content-back : (table : List NameParts) (spaces : List Space) (numbers : List ℕ) (w : Written) → AllByRecursion (IsRead table spaces) (written_lines w) → AreParted w → AreInner w
    → content_of table (given_in table spaces numbers w) ≡ rewritten w
content-back table spaces numbers written.end read named inner = refl
content-back table spaces numbers (written.text t rest) read named inner =
    text-in_front table (meant t) (given_in table spaces (drop 1 numbers) rest)
    ∙ (λ i. with_line (written-meant t (text-read table spaces t read.0) i) (content-back table spaces (drop 1 numbers) rest read.1 named inner i))
content-back table spaces numbers (written.comment t rest) read named inner =
    λ i. written.comment (written-meant t (comment-read table spaces t read.0) i) (content-back table spaces (drop 1 numbers) rest read.1 named inner i)
content-back table spaces numbers (written.element name attributes content rest) read named inner =
    let within : List ℕ = drop (1 + length attributes) numbers in
    let after : List ℕ = drop (1 + length (written_lines content)) within in
    let parts = parts-read table spaces name attributes content rest named.0 read in
    let own : pairs_back table spaces attributes ≡ declarations_first attributes =
    pairs-back table spaces attributes parts.own
    ∙ ap (λ (x : List Attribute). x ++ filter (λ (a : Attribute). not (declares a)) attributes) (sym (none-declare attributes inner.0)) in
    λ i. written.element (element-read table spaces name parts.begins i) (own i) (content-back table spaces within content parts.inside named.1 inner.1 i)
    (content-back table spaces after rest parts.behind named.2 inner.2 i)

-- the lines of a document
while-attributes : (attributes : List Attribute) (lines : List (List ℕ)) → take_while (begins_with 65) lines ≡ []
    → take_while (begins_with 65) (map attribute_bytes attributes ++ lines) ≡ map attribute_bytes attributes
while-attributes [] lines h = h
while-attributes (a ∷ attributes) lines h =
    take_while-cons (begins_with 65) (attribute_bytes a) (map attribute_bytes attributes ++ lines)
    ∙ ap (λ (x : List (List ℕ)). attribute_bytes a ∷ x) (while-attributes attributes lines h)

while-written : (w : Written) (name : List ℕ) (lines : List (List ℕ)) → take_while (begins_with 65) (written_lines w ++ ((41 ∷ name) ∷ lines)) ≡ []
while-written written.end name lines = refl
while-written (written.text t rest) name lines = refl
while-written (written.comment t rest) name lines = refl
while-written (written.element other attributes content rest) name lines = refl

declared-lines : (table : List NameParts) (spaces : List Space) (attributes : List Attribute) → AreAttributesRead table spaces attributes
    → flat_map declared_by (map attribute_bytes attributes) ≡ flat_map declared_in attributes
declared-lines table spaces [] read = refl
declared-lines table spaces (a ∷ attributes) read = λ i. read.0.declares i ++ declared-lines table spaces attributes read.1 i

document-back : (table : List NameParts) (spaces : List Space) (numbers : List ℕ) (w : Written) → IsTop w → AllByRecursion (IsRead table spaces) (written_lines w) → AreParted w → IsInside w
    → spaces_in (written_lines w) ≡ spaces → document_of table spaces (given_in table spaces numbers w) ≡ rewritten w
document-back table spaces numbers written.end top read named inside same = absurd top
document-back table spaces numbers (written.text t rest) top read named inside same = absurd top
document-back table spaces numbers (written.comment t rest) top read named inside same =
    λ i. written.comment (written-meant t (comment-read table spaces t read.0) i) (document-back table spaces (drop 1 numbers) rest top read.1 named inside same i)
document-back table spaces numbers (written.element name attributes content rest) top read named inside same =
    let within : List ℕ = drop (1 + length attributes) numbers in
    let after : List ℕ = drop (1 + length (written_lines content)) within in
    let parts = parts-read table spaces name attributes content rest named.0 read in
    let behind : List (List ℕ) = written_lines content ++ ((41 ∷ name) ∷ written_lines rest) in
    let found : take_while (begins_with 65) (map attribute_bytes attributes ++ behind) ≡ map attribute_bytes attributes =
    while-attributes attributes behind (while-written content name (written_lines rest)) in
    let declared_here : spaces ≡ flat_map declared_in attributes =
    sym same ∙ ap (flat_map declared_by) found ∙ declared-lines table spaces attributes parts.own in
    let first : map written_space spaces ≡ filter declares attributes = ap (map written_space) declared_here ∙ spaces-back table spaces attributes parts.own in
    let second = pairs-back table spaces attributes parts.own in
    λ i. written.element (element-read table spaces name parts.begins i) (first i ++ second i) (content-back table spaces within content parts.inside named.1 inside i)
    (content-back table spaces after rest parts.behind named.2 (comments-inner rest top) i)

pub document-written_back : (names table : List NameParts) (numbers : List ℕ) (document : Written) → IsDocument document → Grows (names_with names (written_lines document)) table
    → document_lines table (spaces_of document) (given_of table numbers document) ≡ written_lines (rewritten document)
document-written_back names table numbers document is grown =
    let spaces : List Space = spaces_of document in
    let read = lines_read table spaces [] (written_lines document) is.faultless (names_stored names table (written_lines document) grown) in
    lines-written table spaces (given_of table numbers document)
    ∙ ap written_lines (document-back table spaces numbers document is.top read is.parted (is_inside spaces document [] is.parted is.faultless) refl)
