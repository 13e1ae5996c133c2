-- The lines of a tree that can be written break no rule: an induction over the tree with what the lines before leave.
use Rattle.std.proofs.Common.{◌≡◌, ℕ, ◌+◌, ◌<◌, ◌≤◌, true, false, List, [], ◌∷◌, ◌++◌, Some, None, map, length, refl, sym, ap, subst, ◌∙◌, arith, append_assoc}
use Rattle.std.specs.Prelude.{◌&&◌, is_some, if◌then◌else◌}
use Rattle.std.proofs.lemmas.Bool.{and_parts, and_left, and_right}
use Rattle.std.proofs.lemmas.Slice.Eq.{bytes_eq-Decides}
use Rattle.serna_kinds.specs.declared.cells.NameId.{NameId}
use Rattle.serna_kinds.specs.Names.{NameParts, Space}
use Rattle.serna_kinds.specs.Qualified.{prefix_of, is_name, element_uri}
use Rattle.tree_lines.specs.declared.rules.LineRule.TheVariants as rule
use Rattle.tree_lines.specs.Texts.{is_line}
use Rattle.tree_lines.specs.Before.{OpenElement, without_innermost, open_elements, has_element, text_size, node_count}
use Rattle.tree_lines.specs.Faults.{is_nothing, is_innermost, ending_fault, fault_behind}
use Rattle.tree_lines.specs.Given.{Given, count_of, depth_of, BeginsNoText, AreTexts, AreComments, IsTop}
use Rattle.tree_lines.specs.Given as given
use Rattle.tree_lines.specs.Canonical.{spelled, spelling_of, text_line, comment_line, attribute_line, canonical_lines, declaration_line, document_lines}
use Rattle.tree_lines.specs.Writable.{IsElementName, AreNodes, AreSpaces, IsWritable}
use Rattle.tree_lines.proofs.WrittenNames.{spelling_of-stored}
use Rattle.tree_lines.proofs.WrittenLines.{line_fault-begin, line_fault-finish, line_fault-comment, line_fault-text, begins_text-written}
use Rattle.tree_lines.proofs.WrittenPasses.{passes-line, Leaves, pairs-pass, declarations-pass, leaves-both, fresh-all, undeclared-all}

-- lines of a content that break no rule behind some others, and what they leave; so many nodes begin in them
record LeavesContent (spaces : List Space) (before lines : List (List ℕ)) (count : ℕ) : Type 0 where
  after : List (List ℕ)
  passed : (more : List (List ℕ)) → fault_behind spaces before (lines ++ more) ≡ fault_behind spaces after more
  opens : open_elements after ≡ open_elements before
  begun : has_element after ≡ true
  nodes : node_count after ≡ node_count before + count

-- a text stands behind no other
abbrev IsReady : Given → ℕ → Type 0
IsReady given.end size = Unit {0}
IsReady (given.text t rest) size = size ≡ 0
IsReady (given.comment t rest) size = Unit {0}
IsReady (given.element name attributes line content rest) size = Unit {0}

ready-no_text : (tree : Given) (size : ℕ) → BeginsNoText tree → IsReady tree size
ready-no_text given.end size h = tt
ready-no_text (given.text t rest) size h = absurd h
ready-no_text (given.comment t rest) size h = tt
ready-no_text (given.element name attributes line content rest) size h = tt

ready-first : (tree : Given) (size : ℕ) → size ≡ 0 → IsReady tree size
ready-first given.end size h = tt
ready-first (given.text t rest) size h = h
ready-first (given.comment t rest) size h = tt
ready-first (given.element name attributes line content rest) size h = tt

-- an element's name that is written
record IsWrittenName (spaces : List Space) (name : List ℕ) : Type 0 where
  named : is_name name ≡ true
  good : is_line name ≡ true
  bound : is_some (element_uri spaces (prefix_of name)) ≡ true

written_name : (names : List NameParts) (spaces : List Space) (id : NameId) → IsElementName names spaces id → IsWrittenName spaces (spelling_of names id)
written_name names spaces id h =
    let same : spelled h.parts ≡ spelling_of names id = sym (spelling_of-stored names id h.parts h.stored) in
    let both = and_parts (is_name (spelled h.parts)) (is_line (spelled h.parts)) h.good in
    let stored : IsWrittenName spaces (spelled h.parts) = record { named = both.0; good = both.1; bound = h.bound } in
    subst (IsWrittenName spaces) same stored

-- an element's lines up to its end, and what they leave
record LeavesElement (spaces : List Space) (before : List (List ℕ)) (begins ends : List ℕ) (attributes content : List (List ℕ)) (count : ℕ) : Type 0 where
  after : List (List ℕ)
  passed : (more : List (List ℕ)) → fault_behind spaces before (begins ∷ (attributes ++ (content ++ (ends ∷ more)))) ≡ fault_behind spaces after more
  opens : open_elements after ≡ open_elements before
  begun : has_element after ≡ true
  nodes : node_count after ≡ node_count before + (1 + count)
  size : text_size after ≡ 0

innermost_is : (opens outer : List OpenElement) (x : OpenElement) (name : List ℕ) → opens ≡ x ∷ outer → x.name ≡ name → is_innermost opens name ≡ true
innermost_is opens outer x name e same = ap (λ (o : List OpenElement). is_innermost o name) e ∙ (bytes_eq-Decides x.name name).1 same

element-passes : (spaces : List Space) (before : List (List ℕ)) (name : List ℕ) (attributes content : List (List ℕ)) (count : ℕ) → IsWrittenName spaces name
    → (has_element before && is_nothing (open_elements before)) ≡ false → length (open_elements before) < 120 → node_count before < 1000000
    → Leaves spaces ((40 ∷ name) ∷ before) attributes
    → ((behind : List (List ℕ)) → open_elements behind ≡ open_elements ((40 ∷ name) ∷ before) → has_element behind ≡ true → text_size behind ≡ 0
    → node_count behind ≡ node_count before + 1 → LeavesContent spaces behind content count)
    → LeavesElement spaces before (40 ∷ name) (41 ∷ name) attributes content count
element-passes spaces before name attributes content count good one shallow few first within =
    let begins : List ℕ = 40 ∷ name in
    let ends : List ℕ = 41 ∷ name in
    let inside = within first.after first.opens first.begun first.size first.nodes in
    let opens : open_elements inside.after ≡ open_elements (begins ∷ before) = inside.opens ∙ first.opens in
    let innermost = innermost_is (open_elements inside.after) (open_elements before) (record { place = length before; name = name }) name opens refl in
    let start = line_fault-begin spaces before name good.named good.good one shallow few good.bound in
    let finish = line_fault-finish spaces inside.after name good.named good.good innermost in
    record {
      after = ends ∷ inside.after;
      passed = λ more.
          passes-line spaces before begins (attributes ++ (content ++ (ends ∷ more))) start ∙ first.passed (content ++ (ends ∷ more))
          ∙ inside.passed (ends ∷ more) ∙ passes-line spaces inside.after ends more finish;
      opens = ap without_innermost opens;
      begun = inside.begun;
      nodes = omega (arith, inside.nodes, first.nodes);
      size = refl;
    }

-- what follows a line or an element
follows-line : (spaces : List Space) (before : List (List ℕ)) (line : List ℕ) (lines : List (List ℕ)) (count : ℕ)
    → ((more : List (List ℕ)) → fault_behind spaces before (line ∷ more) ≡ fault_behind spaces (line ∷ before) more)
    → open_elements (line ∷ before) ≡ open_elements before → node_count (line ∷ before) ≡ node_count before + 1
    → LeavesContent spaces (line ∷ before) lines count → LeavesContent spaces before (line ∷ lines) (1 + count)
follows-line spaces before line lines count passed opens nodes rest =
    record {
      after = rest.after;
      passed = λ more. passed (lines ++ more) ∙ rest.passed more;
      opens = rest.opens ∙ opens;
      begun = rest.begun;
      nodes = omega (arith, rest.nodes, nodes);
    }

regrouped : (begins ends : List ℕ) (attributes content rest more : List (List ℕ))
    → (begins ∷ (attributes ++ (content ++ (ends ∷ rest)))) ++ more ≡ begins ∷ (attributes ++ (content ++ (ends ∷ (rest ++ more))))
regrouped begins ends attributes content rest more =
    ap (λ (x : List (List ℕ)). begins ∷ x)
    (append_assoc attributes (content ++ (ends ∷ rest)) more ∙ ap (λ (x : List (List ℕ)). attributes ++ x) (append_assoc content (ends ∷ rest) more))

follows-element : (spaces : List Space) (before : List (List ℕ)) (begins ends : List ℕ) (attributes content lines : List (List ℕ)) (count others : ℕ)
    → (first : LeavesElement spaces before begins ends attributes content count) → LeavesContent spaces first.after lines others
    → LeavesContent spaces before (begins ∷ (attributes ++ (content ++ (ends ∷ lines)))) (1 + count + others)
follows-element spaces before begins ends attributes content lines count others first rest =
    record {
      after = rest.after;
      passed = λ more. ap (fault_behind spaces before) (regrouped begins ends attributes content lines more) ∙ first.passed (lines ++ more) ∙ rest.passed more;
      opens = rest.opens ∙ first.opens;
      begun = rest.begun;
      nodes = omega (arith, rest.nodes, first.nodes);
    }

-- as many elements are open as before
still_inside : (after before : List (List ℕ)) → open_elements after ≡ open_elements before → is_nothing (open_elements before) ≡ false → is_nothing (open_elements after) ≡ false
still_inside after before e inside = ap is_nothing e ∙ inside

as_deep : (after before : List (List ℕ)) → open_elements after ≡ open_elements before → length (open_elements after) ≡ length (open_elements before)
as_deep after before e = ap length e

still_outside : (after before : List (List ℕ)) → open_elements after ≡ open_elements before → open_elements before ≡ [] → open_elements after ≡ []
still_outside after before e outside = e ∙ outside

-- the lines of a content
content-passes : (names : List NameParts) (spaces : List Space) (tree : Given) (before : List (List ℕ)) → is_nothing (open_elements before) ≡ false → has_element before ≡ true
    → IsReady tree (text_size before) → AreNodes names spaces tree → AreTexts tree → node_count before + count_of tree ≤ 1000000 → length (open_elements before) + depth_of tree ≤ 120
    → LeavesContent spaces before (canonical_lines names tree) (count_of tree)
content-passes names spaces given.end before inside begun ready good texts few shallow =
    record { after = before; passed = λ more. refl; opens = refl; begun = begun; nodes = omega arith }
content-passes names spaces (given.text t rest) before inside begun ready good texts few shallow =
    let line : List ℕ = text_line t in
    let passed = line_fault-text spaces before t good.0 texts.1 inside ready (omega (arith, few)) in
    let more : node_count (line ∷ before) ≡ node_count before + 1 =
    ap (λ b. node_count before + (if b then 1 else 0)) (begins_text-written (text_size before) t ready good.0 texts.0) in
    follows-line spaces before line (canonical_lines names rest) (count_of rest) (λ lines. passes-line spaces before line lines passed) refl more
    (content-passes names spaces rest (line ∷ before) inside begun (ready-no_text rest (text_size (line ∷ before)) texts.2) good.1 texts.3 (omega (arith, few, more)) shallow)
content-passes names spaces (given.comment t rest) before inside begun ready good texts few shallow =
    let line : List ℕ = comment_line t in
    let passed = line_fault-comment spaces before t good.0 (omega (arith, few)) in
    follows-line spaces before line (canonical_lines names rest) (count_of rest) (λ lines. passes-line spaces before line lines passed) refl refl
    (content-passes names spaces rest (line ∷ before) inside begun (ready-first rest 0 refl) good.1 texts (omega (arith, few)) shallow)
content-passes names spaces (given.element id attributes number content rest) before inside begun ready good texts few shallow =
    let name : List ℕ = spelling_of names id in
    let begins : List ℕ = 40 ∷ name in
    let first = pairs-pass names spaces attributes (begins ∷ before) refl refl good.1 texts.0 good.2 (fresh-all names spaces (begins ∷ before) (λ other. refl) attributes) in
    let whole =
    element-passes spaces before name (map (attribute_line names) attributes) (canonical_lines names content) (count_of content) (written_name names spaces id good.0)
    (and_right (has_element before) (is_nothing (open_elements before)) inside) (omega (arith, shallow)) (omega (arith, few)) first
    (λ behind opens started size nodes.
    content-passes names spaces content behind (ap is_nothing opens) started (ready-first content (text_size behind) size) good.3 texts.1
    (omega (arith, few, nodes)) (omega (arith, shallow, ap length opens))) in
    let later =
    content-passes names spaces rest whole.after (still_inside whole.after before whole.opens inside) whole.begun (ready-first rest (text_size whole.after) whole.size) good.4 texts.2
    (omega (arith, few, whole.nodes)) (omega (arith, shallow, as_deep whole.after before whole.opens)) in
    follows-element spaces before begins (41 ∷ name) (map (attribute_line names) attributes) (canonical_lines names content) (canonical_lines names rest) (count_of content) (count_of rest) whole later

-- the comments behind the outermost element
comments-pass : (names : List NameParts) (spaces : List Space) (tree : Given) (before : List (List ℕ)) → AreComments tree → open_elements before ≡ [] → has_element before ≡ true
    → AreNodes names spaces tree → node_count before + count_of tree ≤ 1000000 → fault_behind spaces before (canonical_lines names tree) ≡ None
comments-pass names spaces given.end before top outside begun good few =
    ap (λ (o : List OpenElement). ending_fault o (has_element before) (length before)) outside ∙ ap (λ b. if b then None else Some (length before, rule.NoElement)) begun
comments-pass names spaces (given.text t rest) before top outside begun good few = absurd top
comments-pass names spaces (given.comment t rest) before top outside begun good few =
    passes-line spaces before (comment_line t) (canonical_lines names rest) (line_fault-comment spaces before t good.0 (omega (arith, few)))
    ∙ comments-pass names spaces rest (comment_line t ∷ before) top outside begun good.1 (omega (arith, few))
comments-pass names spaces (given.element id attributes number content rest) before top outside begun good few = absurd top

-- the lines of a whole document
document-passes : (names : List NameParts) (spaces : List Space) (tree : Given) (before : List (List ℕ)) → AreSpaces spaces → IsTop tree → open_elements before ≡ [] → has_element before ≡ false
    → AreNodes names spaces tree → AreTexts tree → node_count before + count_of tree ≤ 1000000 → depth_of tree ≤ 120
    → fault_behind spaces before (document_lines names spaces tree) ≡ None
document-passes names spaces given.end before declared top outside first good texts few shallow = absurd top
document-passes names spaces (given.text t rest) before declared top outside first good texts few shallow = absurd top
document-passes names spaces (given.comment t rest) before declared top outside first good texts few shallow =
    passes-line spaces before (comment_line t) (document_lines names spaces rest) (line_fault-comment spaces before t good.0 (omega (arith, few)))
    ∙ document-passes names spaces rest (comment_line t ∷ before) declared top outside first good.1 texts (omega (arith, few)) shallow
document-passes names spaces (given.element id attributes number content rest) before declared top outside first good texts few shallow =
    let name : List ℕ = spelling_of names id in
    let begins : List ℕ = 40 ∷ name in
    let own : OpenElement = record { place = length before; name = name } in
    let none = length_of_none (open_elements before) outside in
    let alone : length (own ∷ open_elements before) ≡ 1 = omega (arith, none) in
    let spaced =
    declarations-pass spaces spaces (begins ∷ before) refl refl alone declared (undeclared-all (begins ∷ before) (λ other. refl) spaces) (λ other. refl) in
    let leaves = spaced.leaves in
    let paired = pairs-pass names spaces attributes leaves.after leaves.size leaves.takes good.1 texts.0 good.2 (fresh-all names spaces leaves.after spaced.pairless attributes) in
    let both = leaves-both spaces (begins ∷ before) (map declaration_line spaces) (map (attribute_line names) attributes) leaves paired in
    let whole =
    element-passes spaces before name (map declaration_line spaces ++ map (attribute_line names) attributes) (canonical_lines names content) (count_of content) (written_name names spaces id good.0)
    (and_left (has_element before) (is_nothing (open_elements before)) first) (omega (arith, none)) (omega (arith, few)) both
    (λ behind opens started size nodes.
    content-passes names spaces content behind (ap is_nothing opens) started (ready-first content (text_size behind) size) good.3 texts.1
    (omega (arith, few, nodes)) (omega (arith, shallow, alone, ap length opens))) in
    ◌∙◌ {b = fault_behind spaces whole.after (canonical_lines names rest)} (whole.passed (canonical_lines names rest))
    (comments-pass names spaces rest whole.after top (still_outside whole.after before whole.opens outside) whole.begun good.4 (omega (arith, few, whole.nodes)))
  where
    length_of_none : (opens : List OpenElement) → opens ≡ [] → length opens ≡ 0
    length_of_none opens e = ap length e

pub document-faultless : (names : List NameParts) (spaces : List Space) (tree : Given) → IsWritable names spaces tree → fault_behind spaces [] (document_lines names spaces tree) ≡ None
document-faultless names spaces tree h =
    document-passes names spaces tree [] h.declared h.whole.top refl refl h.nodes h.whole.texts (omega (arith, h.whole.few)) h.whole.shallow
