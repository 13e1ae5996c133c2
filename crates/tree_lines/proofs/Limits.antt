-- The tree of lines that break no rule is within the limits of a section.
use Rattle.std.proofs.Common.{◌≡◌, ℕ, ◌+◌, ◌<◌, ◌≤◌, Bool, true, false, List, [], ◌∷◌, ◌++◌, zero, suc, map, Some, None, length, drop, refl, sym, ap, subst, ◌∙◌, arith}
use Rattle.std.specs.Prelude.{◌==◌, ◌&&◌, nat_lt, slice_index, IsTrue, if◌then◌else◌}
use Rattle.std.specs.List.{AllByRecursion, flat_map}
use Rattle.std.proofs.lemmas.Bool.{lt-ltb, and_left, and_right}
use Rattle.std.proofs.lemmas.Str.{length-le-encodes}
use Rattle.std.proofs.Math.Dec.{eqb-suc-zero}
use Rattle.serna_kinds.specs.declared.cells.NameId.{NameId}
use Rattle.serna_kinds.specs.declared.cells.AttrPair.{AttrPair}
use Rattle.serna_kinds.specs.Names.{NameParts, Space, id_of}
use Rattle.serna_kinds.specs.Qualified.{is_name, element_name}
use Rattle.tree_lines.specs.Texts.{meant, size_of}
use Rattle.tree_lines.specs.Tags.{Tag, tag_of, is_declaration}
use Rattle.tree_lines.specs.Tags as tag
use Rattle.tree_lines.specs.Before.{without_innermost, opened, open_elements, text_size, size_behind, begins_text, nodes_at, node_count}
use Rattle.tree_lines.specs.LeftOpen.{left_open}
use Rattle.tree_lines.specs.Faults.{said_fault, fault_behind}
use Rattle.tree_lines.specs.Written.{Written, Attribute, attribute_bytes, written_lines}
use Rattle.tree_lines.specs.Written as written
use Rattle.tree_lines.specs.Documents.{AreParted, IsDocument}
use Rattle.tree_lines.specs.Documents as documents
use Rattle.tree_lines.specs.Given.{Given, end, text, comment, element, count_of, depth_of, IsShort, AreTexts, AreComments, IsTop, IsWhole, with_text, pair_for, pair_in, given_in, spaces_of, given_of}
use Rattle.tree_lines.proofs.Parts.{tag_of-attribute}
use Rattle.tree_lines.proofs.Characters.{size_of-append}
use Rattle.tree_lines.proofs.LineFacts.{fault_behind-parts, line_fault-parts}
use Rattle.tree_lines.proofs.RulesKept.{begin-none, attribute-none, text-none, comment-none}

-- further lines, the nearest first
abbrev past : List (List ℕ) → List (List ℕ) → List (List ℕ)
past [] before = before
past (line ∷ lines) before = past lines (line ∷ before)

past-append : (xs ys before : List (List ℕ)) → past (xs ++ ys) before ≡ past ys (past xs before)
past-append [] ys before = refl
past-append (x ∷ xs) ys before = past-append xs ys (x ∷ before)

-- none of the lines breaks a rule
abbrev AreFaultless : List Space → List (List ℕ) → List (List ℕ) → Type 0
AreFaultless spaces before [] = Unit {0}
AreFaultless spaces before (line ∷ lines) = (said_fault (left_open spaces before) (tag_of line) ≡ None) × AreFaultless spaces (line ∷ before) lines

are_faultless : (spaces : List Space) (before lines : List (List ℕ)) → fault_behind spaces before lines ≡ None → AreFaultless spaces before lines
are_faultless spaces before [] e = tt
are_faultless spaces before (line ∷ lines) e =
    let both = fault_behind-parts spaces before line lines e in
    ((line_fault-parts spaces before line both.0).1, are_faultless spaces (line ∷ before) lines both.1)

faultless_parts : (spaces : List Space) (before xs ys : List (List ℕ)) → AreFaultless spaces before (xs ++ ys) → AreFaultless spaces before xs × AreFaultless spaces (past xs before) ys
faultless_parts spaces before [] ys h = (tt, h)
faultless_parts spaces before (x ∷ xs) ys h =
    let more = faultless_parts spaces (x ∷ before) xs ys h.1 in
    ((h.0, more.0), more.1)

-- how many texts a tree begins with, and how many bytes that text has
abbrev front_count : Given → ℕ
front_count end = 0
front_count (text t rest) = 1
front_count (comment t rest) = 0
front_count (element name attributes line content rest) = 0

abbrev front_size : Given → ℕ
front_size end = 0
front_size (text t rest) = size_of t
front_size (comment t rest) = 0
front_size (element name attributes line content rest) = 0

-- how many texts of the tree go on with a text of so many bytes
abbrev joins : ℕ → Given → ℕ
joins zero g = 0
joins (suc size) g = front_count g

joins-none : (size : ℕ) (g : Given) → front_count g ≡ 0 → joins size g ≡ 0
joins-none zero g e = refl
joins-none (suc size) g e = e

joins-some : (size : ℕ) (g : Given) → 0 < size → joins size g ≡ front_count g
joins-some zero g h = absurd (omega arith)
joins-some (suc size) g h = refl

size_of-some : (c : ℕ) (cs : List ℕ) → 0 < size_of (c ∷ cs)
size_of-some c cs = let longer : suc (length cs) ≤ size_of (c ∷ cs) = length-le-encodes (c ∷ cs) in omega arith

-- a text in front
depth_of-with_text : (t : List ℕ) (g : Given) → depth_of (with_text t g) ≡ depth_of g
depth_of-with_text [] g = refl
depth_of-with_text (c ∷ cs) end = refl
depth_of-with_text (c ∷ cs) (text t rest) = refl
depth_of-with_text (c ∷ cs) (comment t rest) = refl
depth_of-with_text (c ∷ cs) (element name attributes line content rest) = refl

front_size-with_text : (t : List ℕ) (g : Given) → front_size (with_text t g) ≡ size_of t + front_size g
front_size-with_text [] g = omega arith
front_size-with_text (c ∷ cs) end = omega arith
front_size-with_text (c ∷ cs) (text t rest) = size_of-append (c ∷ cs) t
front_size-with_text (c ∷ cs) (comment t rest) = omega arith
front_size-with_text (c ∷ cs) (element name attributes line content rest) = omega arith

texts-with_text : (t : List ℕ) (g : Given) → AreTexts g → size_of t + front_size g ≤ 16384 → AreTexts (with_text t g)
texts-with_text [] g h short = h
texts-with_text (c ∷ cs) end h short = (λ (e : c ∷ cs ≡ []). absurd (cc), omega arith, tt, tt)
texts-with_text (c ∷ cs) (text t rest) h short =
    (λ (e : c ∷ (cs ++ t) ≡ []). absurd (cc), omega (arith, size_of-append (c ∷ cs) t), h.2, h.3)
texts-with_text (c ∷ cs) (comment t rest) h short = (λ (e : c ∷ cs ≡ []). absurd (cc), omega arith, tt, h)
texts-with_text (c ∷ cs) (element name attributes line content rest) h short = (λ (e : c ∷ cs ≡ []). absurd (cc), omega arith, tt, h)

front_count-with_text : (c : ℕ) (cs : List ℕ) (g : Given) → front_count (with_text (c ∷ cs) g) ≡ 1
front_count-with_text c cs end = refl
front_count-with_text c cs (text t rest) = refl
front_count-with_text c cs (comment t rest) = refl
front_count-with_text c cs (element name attributes line content rest) = refl

count_of-with_text : (c : ℕ) (cs : List ℕ) (g : Given) → count_of (with_text (c ∷ cs) g) + front_count g ≡ count_of g + 1
count_of-with_text c cs end = refl
count_of-with_text c cs (text t rest) = omega arith
count_of-with_text c cs (comment t rest) = omega arith
count_of-with_text c cs (element name attributes line content rest) = omega arith

abbrev one_if : Bool → ℕ
one_if begins = if begins then 1 else 0

counted_text : (t : List ℕ) (g : Given) (size nodes last : ℕ) → last + joins (size + size_of t) g ≡ nodes + one_if (size == 0 && nat_lt 0 (size_of t)) + count_of g
    → last + joins size (with_text t g) ≡ nodes + count_of (with_text t g)
counted_text [] g size nodes last h =
    let same : size + size_of [] ≡ size = omega arith in
    let none : one_if (size == 0 && nat_lt 0 (size_of [])) ≡ 0 = ap one_if (and_right (size == 0) (nat_lt 0 (size_of [])) refl) in
    let less : last + joins size g ≡ nodes + one_if (size == 0 && nat_lt 0 (size_of [])) + count_of g = sym (ap (λ n. last + joins n g) same) ∙ h in
    omega arith
counted_text (c ∷ cs) g zero nodes last h =
    let some = size_of-some c cs in
    let begins : one_if (0 == 0 && nat_lt 0 (size_of (c ∷ cs))) ≡ 1 = ap one_if (lt-ltb 0 (size_of (c ∷ cs)) some) in
    let joined : joins (0 + size_of (c ∷ cs)) g ≡ front_count g = joins-some (0 + size_of (c ∷ cs)) g (omega arith) in
    let counted = count_of-with_text c cs g in
    omega arith
counted_text (c ∷ cs) g (suc size) nodes last h =
    let goes_on : one_if (suc size == 0 && nat_lt 0 (size_of (c ∷ cs))) ≡ 0 = ap one_if (and_left (suc size == 0) (nat_lt 0 (size_of (c ∷ cs))) (eqb-suc-zero size)) in
    let joined : joins (suc size + size_of (c ∷ cs)) g ≡ front_count g = joins-some (suc size + size_of (c ∷ cs)) g (omega arith) in
    let counted = count_of-with_text c cs g in
    let front = front_count-with_text c cs g in
    omega arith

few_more : (begins : Bool) (nodes : ℕ) → nodes ≤ 1000000 → (begins ≡ true → nodes < 1000000) → nodes + one_if begins ≤ 1000000
few_more true nodes few room = let more = room refl in omega arith
few_more false nodes few room = omega arith

-- an element's attributes
record HasAttributes (pairs : List AttrPair) (before after : List (List ℕ)) : Type 0 where
  opens : open_elements after ≡ open_elements before
  nodes : node_count after ≡ node_count before
  size : text_size after ≡ 0
  short : AllByRecursion (λ (pair : AttrPair). IsShort pair.value) pairs

short_pairs : (names : List NameParts) (spaces : List Space) (name value : List ℕ) (more : List AttrPair) → (is_declaration name ≡ false → size_of (meant value) ≤ 16384)
    → AllByRecursion (λ (pair : AttrPair). IsShort pair.value) more → AllByRecursion (λ (pair : AttrPair). IsShort pair.value) (pair_for names spaces name value ++ more)
short_pairs names spaces name value more short h = by (is_declaration name) refl
  where
    by : (declares : Bool) → is_declaration name ≡ declares → AllByRecursion (λ (pair : AttrPair). IsShort pair.value) (pair_for names spaces name value ++ more)
    by true e = rw e h
    by false e = rw e (short e, h)

has_attributes : (names : List NameParts) (spaces : List Space) (xs : List Attribute) (before : List (List ℕ)) → AllByRecursion (λ (x : Attribute). IsTrue (is_name x.name)) xs
    → AreFaultless spaces before (map attribute_bytes xs) → text_size before ≡ 0 → HasAttributes (flat_map (pair_in names spaces) xs) before (past (map attribute_bytes xs) before)
has_attributes names spaces [] before named h none = record { opens = refl; nodes = refl; size = none; short = tt }
has_attributes names spaces (x ∷ xs) before named h none =
    let said = tag_of-attribute x.name x.value named.0 in
    let line : List ℕ = attribute_bytes x in
    let faultless : said_fault (left_open spaces before) (Some (tag.Attribute x.name x.value)) ≡ None = ap (said_fault (left_open spaces before)) (sym said) ∙ h.0 in
    let nothing : text_size (line ∷ before) ≡ 0 = ap (λ t. size_behind t (text_size before)) said in
    let opens : open_elements (line ∷ before) ≡ open_elements before = ap (λ t. opened (length before) t (open_elements before)) said in
    let nodes : node_count (line ∷ before) ≡ node_count before + 0 = ap (λ t. node_count before + nodes_at t (text_size before)) said in
    let more = has_attributes names spaces xs (line ∷ before) named.1 h.1 nothing in
    record {
      opens = more.opens ∙ opens;
      nodes = omega (arith, more.nodes);
      size = more.size;
      short = short_pairs names spaces x.name x.value (flat_map (pair_in names spaces) xs) (attribute-none spaces before x.name x.value faultless).short more.short;
    }

-- neighbours
record IsWithin (g : Given) (before after : List (List ℕ)) : Type 0 where
  opens : open_elements after ≡ open_elements before
  counted : node_count after + joins (text_size before) g ≡ node_count before + count_of g
  few : node_count after ≤ 1000000
  shallow : depth_of g + length (open_elements before) ≤ 120
  texts : AreTexts g
  front : text_size before + front_size g ≤ 16384

-- an element
ended_opens : (name : List ℕ) (before named filled : List (List ℕ)) → open_elements named ≡ open_elements ((40 ∷ name) ∷ before) → open_elements filled ≡ open_elements named → open_elements ((41 ∷ name) ∷ filled) ≡ open_elements before
ended_opens name before named filled begun same = ap without_innermost (same ∙ begun)

element_within : (id : NameId) (pairs : List AttrPair) (number : ℕ) (content rest : Given) (name : List ℕ) (before named filled after : List (List ℕ)) → text_size before ≤ 16384
    → HasAttributes pairs ((40 ∷ name) ∷ before) named → IsWithin content named filled → IsWithin rest ((41 ∷ name) ∷ filled) after → IsWithin (element id pairs number content rest) before after
element_within id pairs number content rest name before named filled after short attributes inside behind =
    let outside = ended_opens name before named filled attributes.opens inside.opens in
    let start : joins (text_size named) content ≡ 0 = ap (λ n. joins n content) attributes.size in
    let none = joins-none (text_size before) (element id pairs number content rest) refl in
    record {
      opens = behind.opens ∙ outside;
      counted = omega (arith, attributes.nodes, inside.counted, behind.counted);
      few = behind.few;
      shallow = omega (arith, inside.shallow, behind.shallow, ap length attributes.opens, ap length outside);
      texts = (attributes.short, inside.texts, behind.texts);
      front = omega arith;
    }

is_within : (names : List NameParts) (spaces : List Space) (numbers : List ℕ) (w : Written) (before : List (List ℕ)) → AreParted w → AreFaultless spaces before (written_lines w)
    → length (open_elements before) ≤ 120 → node_count before ≤ 1000000 → text_size before ≤ 16384 → IsWithin (given_in names spaces numbers w) before (past (written_lines w) before)
is_within names spaces numbers written.end before p h deep few short =
    record { opens = refl; counted = omega (arith, joins-none (text_size before) end refl); few = few; shallow = omega arith; texts = tt; front = omega arith }
is_within names spaces numbers (written.text t w) before p h deep few short =
    let kept = text-none spaces before t h.0 in
    let line : List ℕ = 45 ∷ t in
    let g = given_in names spaces (drop 1 numbers) w in
    let more = is_within names spaces (drop 1 numbers) w (line ∷ before) p h.1 deep (few_more (begins_text (text_size before) t) (node_count before) few kept.few) kept.short in
    record {
      opens = more.opens;
      counted = counted_text (meant t) g (text_size before) (node_count before) (node_count (past (written_lines w) (line ∷ before))) more.counted;
      few = more.few;
      shallow = omega (arith, more.shallow, depth_of-with_text (meant t) g);
      texts = texts-with_text (meant t) g more.texts (omega (arith, more.front));
      front = omega (arith, more.front, front_size-with_text (meant t) g);
    }
is_within names spaces numbers (written.comment t w) before p h deep few short =
    let room = comment-none spaces before t h.0 in
    let line : List ℕ = 67 ∷ t in
    let g = given_in names spaces (drop 1 numbers) w in
    let more = is_within names spaces (drop 1 numbers) w (line ∷ before) p h.1 deep (omega arith) (omega arith) in
    record {
      opens = more.opens;
      counted = omega (arith, more.counted, joins-none (text_size before) (comment (meant t) g) refl);
      few = more.few;
      shallow = omega (arith, more.shallow);
      texts = more.texts;
      front = omega arith;
    }
is_within names spaces numbers (written.element name xs content w) before p h deep few short =
    let kept = begin-none spaces before name h.0 in
    let begun = (40 ∷ name) ∷ before in
    let named = past (map attribute_bytes xs) begun in
    let filled = past (written_lines content) named in
    let ended = (41 ∷ name) ∷ filled in
    let one = faultless_parts spaces begun (map attribute_bytes xs) (written_lines content ++ (41 ∷ name) ∷ written_lines w) h.1 in
    let two = faultless_parts spaces named (written_lines content) ((41 ∷ name) ∷ written_lines w) one.1 in
    let attributes = has_attributes names spaces xs begun p.0 one.0 refl in
    let size = ap length attributes.opens in
    let inner = drop (1 + length xs) numbers in
    let outer = drop (1 + length (written_lines content)) inner in
    let inside = is_within names spaces inner content named p.1 two.0 (omega (arith, size, kept.shallow)) (omega (arith, attributes.nodes, kept.few)) (omega (arith, attributes.size)) in
    let outside = ended_opens name before named filled attributes.opens inside.opens in
    let behind = is_within names spaces outer w ended p.2 two.1.1 (omega (arith, ap length outside)) (omega (arith, inside.few)) (omega arith) in
    let lines : past (map attribute_bytes xs ++ (written_lines content ++ (41 ∷ name) ∷ written_lines w)) begun ≡ past (written_lines w) ended =
    past-append (map attribute_bytes xs) (written_lines content ++ (41 ∷ name) ∷ written_lines w) begun ∙ past-append (written_lines content) ((41 ∷ name) ∷ written_lines w) named in
    let id = id_of names (element_name spaces name) in
    let pairs = flat_map (pair_in names spaces) xs in
    subst (IsWithin (element id pairs (slice_index numbers 0) (given_in names spaces inner content) (given_in names spaces outer w)) before) (sym lines)
    (element_within id pairs (slice_index numbers 0) (given_in names spaces inner content) (given_in names spaces outer w) name before named filled (past (written_lines w) ended) short attributes inside behind)

-- the outermost element with comments beside it
comments_given : (names : List NameParts) (spaces : List Space) (numbers : List ℕ) (w : Written) → documents.AreComments w → AreComments (given_in names spaces numbers w)
comments_given names spaces numbers written.end h = tt
comments_given names spaces numbers (written.text t w) h = absurd h
comments_given names spaces numbers (written.comment t w) h = comments_given names spaces (drop 1 numbers) w h
comments_given names spaces numbers (written.element name xs content w) h = absurd h

top_given : (names : List NameParts) (spaces : List Space) (numbers : List ℕ) (w : Written) → documents.IsTop w → IsTop (given_in names spaces numbers w)
top_given names spaces numbers written.end h = absurd h
top_given names spaces numbers (written.text t w) h = absurd h
top_given names spaces numbers (written.comment t w) h = top_given names spaces (drop 1 numbers) w h
top_given names spaces numbers (written.element name xs content w) h = comments_given names spaces (drop (1 + length (written_lines content)) (drop (1 + length xs) numbers)) w h

pub document_whole : (names : List NameParts) (numbers : List ℕ) (document : Written) → IsDocument document → IsWhole (given_of names numbers document)
document_whole names numbers document d =
    let spaces = spaces_of document in
    let all = is_within names spaces numbers document [] d.parted (are_faultless spaces [] (written_lines document) d.faultless) (omega arith) (omega arith) (omega arith) in
    record {
      top = top_given names spaces numbers document d.top;
      texts = all.texts;
      few = omega (arith, all.counted, all.few);
      shallow = omega (arith, all.shallow);
    }
