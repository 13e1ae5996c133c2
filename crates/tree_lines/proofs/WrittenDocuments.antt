-- The document that is written of a tree: its lines, what it declares, and its tree again.
use Rattle.std.proofs.Common.{◌≡◌, ◌≢◌, ℕ, ◌+◌, Bool, true, false, List, [], ◌∷◌, ◌++◌, Option, Some, None, zero, suc, map, length, drop, slice_get, refl, sym, ap, ◌∙◌, arith, append_assoc, append-nil, encode_utf8_all}
use Rattle.std.specs.Prelude.{IsTrue, if◌then◌else◌}
use Rattle.std.specs.List.{AllByRecursion, flat_map, take_while, list_any, position_or_len}
use Rattle.std.specs.Str.{chars}
use Rattle.std.proofs.lemmas.Grind.{flat_map-append}
use Rattle.std.proofs.lemmas.List.{map-append}
use Rattle.std.proofs.lemmas.List.Sums.{take_while-cons}
use Rattle.std.proofs.lemmas.Option.{none-some}
use Rattle.std.proofs.lemmas.Str.{encodes-chars, IsUtf8-from_is_utf8}
use Rattle.serna_kinds.specs.declared.cells.NameId.{NameId}
use Rattle.serna_kinds.specs.declared.cells.AttrPair.{AttrPair}
use Rattle.serna_kinds.specs.Names.{NameParts, Space, space, Grows, AreDistinct, is_same_name, id_of}
use Rattle.serna_kinds.specs.Qualified.{is_name, element_name, attribute_name}
use Rattle.serna_kinds.proofs.NameLemmas.{is_same_name-laws, is_same_name-same, id_of-grown}
use Rattle.tree_lines.specs.Texts.{meant, is_line}
use Rattle.tree_lines.specs.Tags.{declared_prefix}
use Rattle.tree_lines.specs.Written.{Written, Attribute, attribute_bytes, written_lines}
use Rattle.tree_lines.specs.Written as written
use Rattle.tree_lines.specs.Declarations.{begins_with, declared, declared_behind, declared_by, spaces_in}
use Rattle.tree_lines.specs.Given.{Given, without_lines, BeginsNoText, AreTexts, with_text, pair_for, pair_in, given_in}
use Rattle.tree_lines.specs.Given as given
use Rattle.tree_lines.specs.Documents as document
use Rattle.tree_lines.specs.Canonical.{spelling_of, declaring_name, begin_line, end_line, attribute_line, declaration_line, canonical_lines, document_lines}
use Rattle.tree_lines.specs.Writable.{IsElementName, IsAttributeName, IsPair, AreNodes, AreSpaces}
use Rattle.tree_lines.proofs.WrittenTexts.{written_text, meant-written, is_line-written, is_line-utf8}
use Rattle.tree_lines.proofs.Parts.{parted-name}
use Rattle.tree_lines.proofs.WrittenNames.{is_name-declaring, is_declaration-declaring, declared_prefix-declaring, is_line-declaring, is_line-attribute, spelling_of-stored}
use Rattle.tree_lines.proofs.WrittenPasses.{pair_name, read_pair_name}

-- an attribute and a declaration as they are written
abbrev pub written_pair : List NameParts → AttrPair → Attribute
written_pair names pair = record { name = spelling_of names pair.name; value = written_text pair.value }

abbrev pub written_space : Space → Attribute
written_space s = record { name = declaring_name s.prefix; value = written_text (chars s.uri) }

-- a content, and a whole document
abbrev pub content_of : List NameParts → Given → Written
content_of names given.end = written.end
content_of names (given.text t rest) = written.text (written_text t) (content_of names rest)
content_of names (given.comment t rest) = written.comment (written_text t) (content_of names rest)
content_of names (given.element id attributes line content rest) =
    written.element (spelling_of names id) (map (written_pair names) attributes) (content_of names content) (content_of names rest)

abbrev pub document_of : List NameParts → List Space → Given → Written
document_of names spaces given.end = written.end
document_of names spaces (given.text t rest) = written.text (written_text t) (document_of names spaces rest)
document_of names spaces (given.comment t rest) = written.comment (written_text t) (document_of names spaces rest)
document_of names spaces (given.element id attributes line content rest) =
    written.element (spelling_of names id) (map written_space spaces ++ map (written_pair names) attributes) (content_of names content) (content_of names rest)

-- the lines
pair-lines : (names : List NameParts) (pairs : List AttrPair) → map (attribute_line names) pairs ≡ map attribute_bytes (map (written_pair names) pairs)
pair-lines names [] = refl
pair-lines names (pair ∷ pairs) = ap (λ (x : List (List ℕ)). attribute_line names pair ∷ x) (pair-lines names pairs)

space-lines : (spaces : List Space) → map declaration_line spaces ≡ map attribute_bytes (map written_space spaces)
space-lines [] = refl
space-lines (s ∷ spaces) = ap (λ (x : List (List ℕ)). declaration_line s ∷ x) (space-lines spaces)

element-lines : (begins ends : List ℕ) (one other inside within after behind : List (List ℕ)) → one ≡ other → inside ≡ within → after ≡ behind
    → begins ∷ (one ++ (inside ++ (ends ∷ after))) ≡ begins ∷ (other ++ (within ++ (ends ∷ behind)))
element-lines begins ends one other inside within after behind e f g = λ i. begins ∷ (e i ++ (f i ++ (ends ∷ g i)))

content-lines : (names : List NameParts) (tree : Given) → canonical_lines names tree ≡ written_lines (content_of names tree)
content-lines names given.end = refl
content-lines names (given.text t rest) = ap (λ (x : List (List ℕ)). (45 ∷ written_text t) ∷ x) (content-lines names rest)
content-lines names (given.comment t rest) = ap (λ (x : List (List ℕ)). (67 ∷ written_text t) ∷ x) (content-lines names rest)
content-lines names (given.element id attributes line content rest) =
    element-lines (begin_line names id) (end_line names id) _ _ _ _ _ _ (pair-lines names attributes) (content-lines names content) (content-lines names rest)

pub lines-written : (names : List NameParts) (spaces : List Space) (tree : Given) → document_lines names spaces tree ≡ written_lines (document_of names spaces tree)
lines-written names spaces given.end = refl
lines-written names spaces (given.text t rest) = ap (λ (x : List (List ℕ)). (45 ∷ written_text t) ∷ x) (lines-written names spaces rest)
lines-written names spaces (given.comment t rest) = ap (λ (x : List (List ℕ)). (67 ∷ written_text t) ∷ x) (lines-written names spaces rest)
lines-written names spaces (given.element id attributes line content rest) =
    let both : map declaration_line spaces ++ map (attribute_line names) attributes ≡ map attribute_bytes (map written_space spaces ++ map (written_pair names) attributes) =
    ap (λ x. x ++ map (attribute_line names) attributes) (space-lines spaces)
    ∙ ap (λ x. map attribute_bytes (map written_space spaces) ++ x) (pair-lines names attributes)
    ∙ sym (map-append attribute_bytes (map written_space spaces) (map (written_pair names) attributes)) in
    element-lines (begin_line names id) (end_line names id) _ _ _ _ _ _ both (content-lines names content) (content-lines names rest)

-- one element with comments beside it
comments-written : (names : List NameParts) (tree : Given) → given.AreComments tree → document.AreComments (content_of names tree)
comments-written names given.end h = tt
comments-written names (given.text t rest) h = absurd h
comments-written names (given.comment t rest) h = comments-written names rest h
comments-written names (given.element id attributes line content rest) h = absurd h

pub top-written : (names : List NameParts) (spaces : List Space) (tree : Given) → given.IsTop tree → document.IsTop (document_of names spaces tree)
top-written names spaces given.end h = absurd h
top-written names spaces (given.text t rest) h = absurd h
top-written names spaces (given.comment t rest) h = top-written names spaces rest h
top-written names spaces (given.element id attributes line content rest) h = comments-written names rest h

-- each attribute's name is a name
abbrev AreNamed : List Attribute → Type 0
AreNamed attributes = AllByRecursion (λ (attribute : Attribute). IsTrue (is_name attribute.name)) attributes

pairs-named : (names : List NameParts) (spaces : List Space) (pairs : List AttrPair) → AllByRecursion (IsPair names spaces) pairs → AreNamed (map (written_pair names) pairs)
pairs-named names spaces [] h = tt
pairs-named names spaces (pair ∷ pairs) h = ((pair_name names spaces pair.name h.0.0).named, pairs-named names spaces pairs h.1)

spaces-named : (spaces : List Space) (behind : List Attribute) → AreSpaces spaces → AreNamed behind → AreNamed (map written_space spaces ++ behind)
spaces-named [] behind h g = g
spaces-named (s ∷ spaces) behind h g = (is_name-declaring s.prefix s.uri h.0, spaces-named spaces behind h.4 g)

content-parted : (names : List NameParts) (spaces : List Space) (tree : Given) → AreNodes names spaces tree → document.AreParted (content_of names tree)
content-parted names spaces given.end h = tt
content-parted names spaces (given.text t rest) h = content-parted names spaces rest h.1
content-parted names spaces (given.comment t rest) h = content-parted names spaces rest h.1
content-parted names spaces (given.element id attributes line content rest) h =
    (pairs-named names spaces attributes h.1, content-parted names spaces content h.3, content-parted names spaces rest h.4)

pub parted-written : (names : List NameParts) (spaces : List Space) (tree : Given) → AreSpaces spaces → AreNodes names spaces tree → document.AreParted (document_of names spaces tree)
parted-written names spaces given.end g h = tt
parted-written names spaces (given.text t rest) g h = parted-written names spaces rest g h.1
parted-written names spaces (given.comment t rest) g h = parted-written names spaces rest g h.1
parted-written names spaces (given.element id attributes line content rest) g h = (
  spaces-named spaces (map (written_pair names) attributes) g (pairs-named names spaces attributes h.1),
  content-parted names spaces content h.3,
  content-parted names spaces rest h.4,
)

-- what the lines declare
pub declared_by-attribute : (name value : List ℕ) → is_name name ≡ true → is_line name ≡ true → is_line value ≡ true → declared_by (65 ∷ (name ++ 32 ∷ value)) ≡ declared name value
declared_by-attribute name value named good line =
    let whole = is_line-utf8 (65 ∷ (name ++ 32 ∷ value)) (is_line-attribute name value good line) in
    ap (λ b. if b then declared_behind (name ++ 32 ∷ value) else []) whole
    ∙ ap (λ (o : Option (List ℕ × List ℕ)). elim o [ None ↦ declared (name ++ 32 ∷ value) [] | Some p ↦ declared p.0 p.1 ]) (parted-name name value named)

declared_by-space : (s : Space) (spaces : List Space) → AreSpaces (s ∷ spaces) → declared_by (declaration_line s) ≡ s ∷ []
declared_by-space s spaces h =
    let name : List ℕ = declaring_name s.prefix in
    let value : List ℕ = written_text (chars s.uri) in
    let uri : encode_utf8_all (meant value) ≡ s.uri = ap encode_utf8_all (meant-written (chars s.uri) h.2) ∙ encodes-chars s.uri (IsUtf8-from_is_utf8 s.uri h.1) in
    declared_by-attribute name value (is_name-declaring s.prefix s.uri h.0) (is_line-declaring s.prefix s.uri h.0) (is_line-written (chars s.uri) h.2)
    ∙ ap (λ b. if b then space (declared_prefix name) (encode_utf8_all (meant value)) ∷ [] else []) (is_declaration-declaring s.prefix)
    ∙ (λ i. space (declared_prefix-declaring s.prefix i) (uri i) ∷ [])

declared_by-pair : (names : List NameParts) (spaces : List Space) (pair : AttrPair) → IsPair names spaces pair → declared_by (attribute_line names pair) ≡ []
declared_by-pair names spaces pair h =
    let own = pair_name names spaces pair.name h.0 in
    let name : List ℕ = spelling_of names pair.name in
    let value : List ℕ = written_text pair.value in
    declared_by-attribute name value own.named own.good (is_line-written pair.value h.1)
    ∙ ap (λ b. if b then space (declared_prefix name) (encode_utf8_all (meant value)) ∷ [] else []) own.pair

declared-pairs : (names : List NameParts) (spaces : List Space) (pairs : List AttrPair) → AllByRecursion (IsPair names spaces) pairs → flat_map declared_by (map (attribute_line names) pairs) ≡ []
declared-pairs names spaces [] h = refl
declared-pairs names spaces (pair ∷ pairs) h =
    ap (λ (x : List Space). x ++ flat_map declared_by (map (attribute_line names) pairs)) (declared_by-pair names spaces pair h.0) ∙ declared-pairs names spaces pairs h.1

declared-spaces : (spaces : List Space) → AreSpaces spaces → flat_map declared_by (map declaration_line spaces) ≡ spaces
declared-spaces [] h = refl
declared-spaces (s ∷ spaces) h =
    ap (λ (x : List Space). x ++ flat_map declared_by (map declaration_line spaces)) (declared_by-space s spaces h) ∙ ap (λ (x : List Space). s ∷ x) (declared-spaces spaces h.4)

-- the attributes directly behind the beginning end with it
while-attribute : (rest : List ℕ) (lines : List (List ℕ)) → take_while (begins_with 65) ((65 ∷ rest) ∷ lines) ≡ (65 ∷ rest) ∷ take_while (begins_with 65) lines
while-attribute rest lines = take_while-cons (begins_with 65) (65 ∷ rest) lines

while-pairs : (names : List NameParts) (pairs : List AttrPair) (lines : List (List ℕ)) → take_while (begins_with 65) lines ≡ []
    → take_while (begins_with 65) (map (attribute_line names) pairs ++ lines) ≡ map (attribute_line names) pairs
while-pairs names [] lines h = h
while-pairs names (pair ∷ pairs) lines h =
    take_while-cons (begins_with 65) (attribute_line names pair) (map (attribute_line names) pairs ++ lines)
    ∙ ap (λ (x : List (List ℕ)). attribute_line names pair ∷ x) (while-pairs names pairs lines h)

while-spaces : (spaces : List Space) (lines found : List (List ℕ)) → take_while (begins_with 65) lines ≡ found
    → take_while (begins_with 65) (map declaration_line spaces ++ lines) ≡ map declaration_line spaces ++ found
while-spaces [] lines found h = h
while-spaces (s ∷ spaces) lines found h =
    take_while-cons (begins_with 65) (declaration_line s) (map declaration_line spaces ++ lines)
    ∙ ap (λ (x : List (List ℕ)). declaration_line s ∷ x) (while-spaces spaces lines found h)

while-content : (names : List NameParts) (tree : Given) (id : NameId) (lines : List (List ℕ)) → take_while (begins_with 65) (canonical_lines names tree ++ (end_line names id ∷ lines)) ≡ []
while-content names given.end id lines = refl
while-content names (given.text t rest) id lines = refl
while-content names (given.comment t rest) id lines = refl
while-content names (given.element other attributes line content rest) id lines = refl

pub spaces-written : (names : List NameParts) (spaces : List Space) (tree : Given) → AreSpaces spaces → AreNodes names spaces tree → given.IsTop tree → spaces_in (document_lines names spaces tree) ≡ spaces
spaces-written names spaces given.end g h top = absurd top
spaces-written names spaces (given.text t rest) g h top = absurd top
spaces-written names spaces (given.comment t rest) g h top = spaces-written names spaces rest g h.1 top
spaces-written names spaces (given.element id attributes line content rest) g h top =
    let declarations : List (List ℕ) = map declaration_line spaces in
    let pairs : List (List ℕ) = map (attribute_line names) attributes in
    let behind : List (List ℕ) = canonical_lines names content ++ (end_line names id ∷ canonical_lines names rest) in
    let found : take_while (begins_with 65) ((declarations ++ pairs) ++ behind) ≡ declarations ++ pairs =
    ap (take_while (begins_with 65)) (append_assoc declarations pairs behind)
    ∙ while-spaces spaces (pairs ++ behind) pairs (while-pairs names attributes behind (while-content names content id (canonical_lines names rest))) in
    ap (flat_map declared_by) found ∙ flat_map-append declared_by declarations pairs
    ∙ (λ i. declared-spaces spaces g i ++ declared-pairs names spaces attributes h.1 i) ∙ append-nil spaces

-- the first place that passes, where some place does
record Found {X : Type 0} (p : X → Bool) (xs : List X) : Type 0 where
  item : X
  first : slice_get xs (position_or_len p xs) ≡ Some item
  passes : p item ≡ true
  some : list_any p xs ≡ true

one_more : (n : ℕ) → 1 + n ≡ suc n
one_more n = omega arith

found-from_place : {X : Type 0} (p : X → Bool) (xs : List X) (i : ℕ) (x : X) → slice_get xs i ≡ Some x → p x ≡ true → Found p xs
found-from_place p [] i x at h = absurd (none-some x at)
found-from_place p (y ∷ ys) zero x at h =
    let same : y ≡ x = cc in
    let here : p y ≡ true = ap p same ∙ h in
    record { item = y; first = rw here refl; passes = here; some = rw here refl }
found-from_place p (y ∷ ys) (suc i) x at h = by (p y) refl (found-from_place p ys i x at h)
  where
    by : (b : Bool) → p y ≡ b → Found p ys → Found p (y ∷ ys)
    by true e f = record { item = y; first = rw e refl; passes = e; some = rw e refl }
    by false e f = record { item = f.item; first = rw e (ap (slice_get (y ∷ ys)) (one_more (position_or_len p ys)) ∙ f.first); passes = f.passes; some = rw e f.some }

-- a name's number is its place, in this table and in each that grows from it
id_of-stored : (names table : List NameParts) (id : NameId) (name : NameParts) → AreDistinct names → Grows names table → slice_get names id.0 ≡ Some name → id_of table name ≡ id
id_of-stored names table id name distinct grown stored =
    let f = found-from_place (is_same_name name) names id.0 name stored (is_same_name-laws.refl name) in
    let same : f.item ≡ name = sym (is_same_name-same name f.item f.passes) in
    let number : ℕ → NameId = λ n. record { 0 = n } in
    id_of-grown names table name grown f.some ∙ ap number (distinct (position_or_len (is_same_name name) names) id.0 name (f.first ∙ ap Some same) stored)

element-number : (names table : List NameParts) (spaces : List Space) (id : NameId) → AreDistinct names → Grows names table → IsElementName names spaces id
    → id_of table (element_name spaces (spelling_of names id)) ≡ id
element-number names table spaces id distinct grown h =
    ap (λ n. id_of table (element_name spaces n)) (spelling_of-stored names id h.parts h.stored) ∙ ap (id_of table) h.same
    ∙ id_of-stored names table id h.parts distinct grown h.stored

attribute-number : (names table : List NameParts) (spaces : List Space) (id : NameId) → AreDistinct names → Grows names table → IsAttributeName names spaces id
    → id_of table (attribute_name spaces (spelling_of names id)) ≡ id
attribute-number names table spaces id distinct grown h =
    ap (id_of table) (read_pair_name names spaces id h) ∙ id_of-stored names table id h.parts distinct grown h.stored

-- the attributes are read again
pair-again : (names table : List NameParts) (spaces : List Space) (pair : AttrPair) → AreDistinct names → Grows names table → IsPair names spaces pair
    → pair_in table spaces (written_pair names pair) ≡ pair ∷ []
pair-again names table spaces pair distinct grown h =
    let name : List ℕ = spelling_of names pair.name in
    let value : List ℕ = written_text pair.value in
    let number = attribute-number names table spaces pair.name distinct grown h.0 in
    let text = meant-written pair.value h.1 in
    let read : List AttrPair = record { name = id_of table (attribute_name spaces name); value = meant value } ∷ [] in
    ap (λ b. if b then [] else read) (pair_name names spaces pair.name h.0).pair ∙ (λ i. record { name = number i; value = text i } ∷ [])

pairs-again : (names table : List NameParts) (spaces : List Space) (pairs : List AttrPair) → AreDistinct names → Grows names table → AllByRecursion (IsPair names spaces) pairs
    → flat_map (pair_in table spaces) (map (written_pair names) pairs) ≡ pairs
pairs-again names table spaces [] distinct grown h = refl
pairs-again names table spaces (pair ∷ pairs) distinct grown h =
    λ i. pair-again names table spaces pair distinct grown h.0 i ++ pairs-again names table spaces pairs distinct grown h.1 i

space-again : (table : List NameParts) (spaces : List Space) (s : Space) → pair_in table spaces (written_space s) ≡ []
space-again table spaces s =
    let name : List ℕ = declaring_name s.prefix in
    let read : List AttrPair = record { name = id_of table (attribute_name spaces name); value = meant (written_text (chars s.uri)) } ∷ [] in
    ap (λ b. if b then [] else read) (is_declaration-declaring s.prefix)

spaces-again : (table : List NameParts) (spaces some : List Space) → flat_map (pair_in table spaces) (map written_space some) ≡ []
spaces-again table spaces [] = refl
spaces-again table spaces (s ∷ some) =
    ap (λ (x : List AttrPair). x ++ flat_map (pair_in table spaces) (map written_space some)) (space-again table spaces s) ∙ spaces-again table spaces some

-- no texts are left to be joined
with_text-alone : (t : List ℕ) (rest : Given) → (t ≢ []) → BeginsNoText rest → with_text t rest ≡ given.text t rest
with_text-alone [] rest some b = absurd (some refl)
with_text-alone (c ∷ cs) given.end some b = refl
with_text-alone (c ∷ cs) (given.text u rest) some b = absurd b
with_text-alone (c ∷ cs) (given.comment u rest) some b = refl
with_text-alone (c ∷ cs) (given.element id attributes line content rest) some b = refl

without_lines-text : (t : List ℕ) (tree : Given) → without_lines (with_text t tree) ≡ with_text t (without_lines tree)
without_lines-text [] tree = refl
without_lines-text (c ∷ cs) given.end = refl
without_lines-text (c ∷ cs) (given.text u rest) = refl
without_lines-text (c ∷ cs) (given.comment u rest) = refl
without_lines-text (c ∷ cs) (given.element id attributes line content rest) = refl

BeginsNoText-without : (tree : Given) → BeginsNoText tree → BeginsNoText (without_lines tree)
BeginsNoText-without given.end b = b
BeginsNoText-without (given.text u rest) b = b
BeginsNoText-without (given.comment u rest) b = b
BeginsNoText-without (given.element id attributes line content rest) b = b

-- a text in front of a tree that is as it was
text-again : (t u : List ℕ) (tree rest : Given) → t ≡ u → without_lines tree ≡ without_lines rest → (u ≢ []) → BeginsNoText rest
    → without_lines (with_text t tree) ≡ without_lines (given.text u rest)
text-again t u tree rest same again some b =
    without_lines-text t tree ∙ (λ i. with_text (same i) (again i)) ∙ with_text-alone u (without_lines rest) some (BeginsNoText-without rest b)

-- the document's tree is the tree that was written
content-again : (names table : List NameParts) (spaces : List Space) (numbers : List ℕ) (tree : Given) → AreDistinct names → Grows names table → AreNodes names spaces tree → AreTexts tree
    → without_lines (given_in table spaces numbers (content_of names tree)) ≡ without_lines tree
content-again names table spaces numbers given.end distinct grown h texts = refl
content-again names table spaces numbers (given.text t rest) distinct grown h texts =
    text-again (meant (written_text t)) t (given_in table spaces (drop 1 numbers) (content_of names rest)) rest (meant-written t h.0)
    (content-again names table spaces (drop 1 numbers) rest distinct grown h.1 texts.3) texts.0 texts.2
content-again names table spaces numbers (given.comment t rest) distinct grown h texts =
    λ i. given.comment (meant-written t h.0 i) (content-again names table spaces (drop 1 numbers) rest distinct grown h.1 texts i)
content-again names table spaces numbers (given.element id attributes line content rest) distinct grown h texts =
    let inner : List ℕ = drop (1 + length (map (written_pair names) attributes)) numbers in
    let behind : List ℕ = drop (1 + length (written_lines (content_of names content))) inner in
    λ i. given.element (element-number names table spaces id distinct grown h.0 i) (pairs-again names table spaces attributes distinct grown h.1 i) 0
    (content-again names table spaces inner content distinct grown h.3 texts.1 i) (content-again names table spaces behind rest distinct grown h.4 texts.2 i)

pub tree-again : (names table : List NameParts) (spaces : List Space) (numbers : List ℕ) (tree : Given) → AreDistinct names → Grows names table → AreNodes names spaces tree → AreTexts tree
    → without_lines (given_in table spaces numbers (document_of names spaces tree)) ≡ without_lines tree
tree-again names table spaces numbers given.end distinct grown h texts = refl
tree-again names table spaces numbers (given.text t rest) distinct grown h texts =
    text-again (meant (written_text t)) t (given_in table spaces (drop 1 numbers) (document_of names spaces rest)) rest (meant-written t h.0)
    (tree-again names table spaces (drop 1 numbers) rest distinct grown h.1 texts.3) texts.0 texts.2
tree-again names table spaces numbers (given.comment t rest) distinct grown h texts =
    λ i. given.comment (meant-written t h.0 i) (tree-again names table spaces (drop 1 numbers) rest distinct grown h.1 texts i)
tree-again names table spaces numbers (given.element id attributes line content rest) distinct grown h texts =
    let inner : List ℕ = drop (1 + length (map written_space spaces ++ map (written_pair names) attributes)) numbers in
    let behind : List ℕ = drop (1 + length (written_lines (content_of names content))) inner in
    let own : flat_map (pair_in table spaces) (map written_space spaces ++ map (written_pair names) attributes) ≡ attributes =
    flat_map-append (pair_in table spaces) (map written_space spaces) (map (written_pair names) attributes)
    ∙ (λ i. spaces-again table spaces spaces i ++ pairs-again names table spaces attributes distinct grown h.1 i) in
    λ i. given.element (element-number names table spaces id distinct grown h.0 i) (own i) 0
    (content-again names table spaces inner content distinct grown h.3 texts.1 i) (content-again names table spaces behind rest distinct grown h.4 texts.2 i)
