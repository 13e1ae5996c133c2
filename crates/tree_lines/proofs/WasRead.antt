-- The names, attributes and texts of lines without a fault can be written again.
use Rattle.std.proofs.Common.{◌≡◌, ℕ, Bool, true, false, List, [], ◌∷◌, ◌++◌, map, length, drop, Option, Some, None, refl, sym, ap, ◌∙◌, subst, true≢false, arith, ◌<◌, ◌+◌}
use Rattle.std.specs.Prelude.{IsTrue, is_some, ◌&&◌, if◌then◌else◌}
use Rattle.std.specs.List.{AllByRecursion, flat_map}
use Rattle.std.proofs.lemmas.Bool.{and_from}
use Rattle.serna_kinds.specs.Names.{NameParts, Space, id_of}
use Rattle.serna_kinds.specs.Qualified.{prefix_of, local_of, is_local_name, is_name, element_uri, attribute_uri, element_name, attribute_name}
use Rattle.tree_lines.specs.declared.tree.TreeItem.TheVariants as item
use Rattle.tree_lines.specs.Texts.{is_line, meant}
use Rattle.tree_lines.specs.Tags.{Tag, tag_of, is_declaration}
use Rattle.tree_lines.specs.Tags as tag
use Rattle.tree_lines.specs.Written.{Written, Attribute, attribute_bytes, written_lines}
use Rattle.tree_lines.specs.Written as written
use Rattle.tree_lines.specs.Documents.{AreParted}
use Rattle.tree_lines.specs.LeftOpen.{left_open}
use Rattle.tree_lines.specs.Faults.{said_fault, line_fault, fault_behind}
use Rattle.tree_lines.specs.Given.{Given, items_of, with_text, pair_in, given_in}
use Rattle.tree_lines.specs.Given as given
use Rattle.tree_lines.specs.Tokens.{names_by, line_names, IsNamed, AreNamed}
use Rattle.tree_lines.specs.Canonical.{qualified}
use Rattle.tree_lines.specs.Writable.{IsText, IsElementName, IsAttributeName, IsPair, AreNodes}
use Rattle.tree_lines.proofs.Parts.{NameCase, plain, prefixed, name_case, tag_of-attribute}
use Rattle.tree_lines.proofs.Stored.{IsStored, AllByRecursion-parts, AllByRecursion-append}
use Rattle.tree_lines.proofs.LineFacts.{begin_fault-parts, pair_fault-parts, fault_behind-parts, line_fault-parts, pair_fault-from}
use Rattle.tree_lines.proofs.MeantTexts.{is_line-parts, meant-text, IsText-append}

-- a line without a fault behind some others, whose name is the table's
pub record IsRead (table : List NameParts) (spaces : List Space) (line : List ℕ) : Type 0 where
  pub before : List (List ℕ)
  pub none : line_fault (left_open spaces before) line ≡ None
  pub stored : AllByRecursion (IsStored table) (names_by spaces (tag_of line))

pub lines_read : (table : List NameParts) (spaces : List Space) (before lines : List (List ℕ)) → fault_behind spaces before lines ≡ None
    → AllByRecursion (IsStored table) (line_names spaces lines) → AllByRecursion (IsRead table spaces) lines
lines_read table spaces before [] none stored = tt
lines_read table spaces before (line ∷ lines) none stored =
    let parts = fault_behind-parts spaces before line lines none in
    let names = AllByRecursion-parts (IsStored table) (names_by spaces (tag_of line)) (line_names spaces lines) stored in
    (record { before = before; none = parts.0; stored = names.0 }, lines_read table spaces (line ∷ before) lines parts.1 names.1)

-- the parts of a name spell it
qualified-local : (prefix local : List ℕ) → is_local_name prefix ≡ true → qualified prefix local ≡ prefix ++ 58 ∷ local
qualified-local [] local good = absurd (true≢false (sym good))
qualified-local (c ∷ cs) local good = refl

pub qualified-parts : (name : List ℕ) → IsTrue (is_name name) → qualified (prefix_of name) (local_of name) ≡ name
qualified-parts name good = by (name_case name good)
  where
    by : NameCase name → qualified (prefix_of name) (local_of name) ≡ name
    by (plain is front behind) = ap (λ (x : List ℕ). qualified x (local_of name)) front ∙ behind
    by (prefixed prefix local e first second front behind) =
        ap (λ (x : List ℕ). qualified x (local_of name)) front ∙ ap (qualified prefix) behind ∙ qualified-local prefix local first ∙ sym e

-- an element's name
element_name-read : (table : List NameParts) (spaces : List Space) (name : List ℕ) → IsRead table spaces (40 ∷ name) → IsElementName table spaces (id_of table (element_name spaces name))
element_name-read table spaces name read =
    let parts = line_fault-parts spaces read.before (40 ∷ name) read.none in
    let kept = begin_fault-parts spaces read.before name parts.1 in
    let allowed = (is_line-parts [] name 40 (omega arith) parts.0).1 in
    let spells = qualified-parts name kept.0 in
    record {
      parts = element_name spaces name;
      stored = read.stored.0;
      good = subst (λ (x : List ℕ). IsTrue (is_name x && is_line x)) (sym spells) (and_from (is_name name) (is_line name) kept.0 allowed);
      bound = subst (λ (x : List ℕ). IsTrue (is_some (element_uri spaces (prefix_of x)))) (sym spells) kept.1;
      same = ap (element_name spaces) spells;
    }

-- an attribute's
attribute_name-read : (table : List NameParts) (spaces : List Space) (name : List ℕ) → IsTrue (is_name name) → IsTrue (is_line name) → is_declaration name ≡ false
    → IsTrue (is_some (attribute_uri spaces (prefix_of name))) → IsStored table (attribute_name spaces name) → IsAttributeName table spaces (id_of table (attribute_name spaces name))
attribute_name-read table spaces name good allowed pair bound stored =
    let spells = qualified-parts name good in
    record {
      parts = attribute_name spaces name;
      stored = stored;
      good = subst (λ (x : List ℕ). IsTrue (is_name x && is_line x)) (sym spells) (and_from (is_name name) (is_line name) good allowed);
      pair = ap is_declaration spells ∙ pair;
      bound = subst (λ (x : List ℕ). IsTrue (is_some (attribute_uri spaces (prefix_of x)))) (sym spells) bound;
      same = ap (attribute_name spaces) spells;
    }

pair_read : (table : List NameParts) (spaces : List Space) (attribute : Attribute) → IsRead table spaces (attribute_bytes attribute) → IsTrue (is_name attribute.name)
    → AllByRecursion (IsPair table spaces) (pair_in table spaces attribute)
pair_read table spaces attribute read good =
    let name : List ℕ = attribute.name in
    let says = tag_of-attribute name attribute.value good in
    let parts = line_fault-parts spaces read.before (attribute_bytes attribute) read.none in
    let none : said_fault (left_open spaces read.before) (Some (tag.Attribute name attribute.value)) ≡ None =
    subst (λ (x : Option Tag). said_fault (left_open spaces read.before) x ≡ None) says parts.1 in
    let stored : AllByRecursion (IsStored table) (names_by spaces (Some (tag.Attribute name attribute.value))) =
    subst (λ (x : Option Tag). AllByRecursion (IsStored table) (names_by spaces x)) says read.stored in
    let allowed = is_line-parts name attribute.value 32 (omega arith) (is_line-parts [] (name ++ 32 ∷ attribute.value) 65 (omega arith) parts.0).1 in
    by (is_declaration name) refl none allowed.0 allowed.1 stored
  where
    by : (declares : Bool) → is_declaration attribute.name ≡ declares → said_fault (left_open spaces read.before) (Some (tag.Attribute attribute.name attribute.value)) ≡ None
        → IsTrue (is_line attribute.name) → IsTrue (is_line attribute.value)
        → AllByRecursion (IsStored table) (if declares then [] else attribute_name spaces attribute.name ∷ [])
        → AllByRecursion (IsPair table spaces) (if declares then [] else record { name = id_of table (attribute_name spaces attribute.name); value = meant attribute.value } ∷ [])
    by true e none first second stored = tt
    by false e none first second stored =
        let kept = pair_fault-parts spaces read.before attribute.name attribute.value (pair_fault-from spaces read.before attribute.name attribute.value e none) in
        ((attribute_name-read table spaces attribute.name good first e kept.1 stored.0, meant-text attribute.value second), tt)

pairs_read : (table : List NameParts) (spaces : List Space) (attributes : List Attribute) → AllByRecursion (IsRead table spaces) (map attribute_bytes attributes)
    → AllByRecursion (λ (attribute : Attribute). IsTrue (is_name attribute.name)) attributes → AllByRecursion (IsPair table spaces) (flat_map (pair_in table spaces) attributes)
pairs_read table spaces [] read good = tt
pairs_read table spaces (attribute ∷ attributes) read good =
    AllByRecursion-append (IsPair table spaces) (pair_in table spaces attribute) (flat_map (pair_in table spaces) attributes)
    (pair_read table spaces attribute read.0 good.0) (pairs_read table spaces attributes read.1 good.1)

-- a text in front of a tree
with_text-nodes : (table : List NameParts) (spaces : List Space) (t : List ℕ) (tree : Given) → IsText t → AreNodes table spaces tree → AreNodes table spaces (with_text t tree)
with_text-nodes table spaces [] tree it nodes = nodes
with_text-nodes table spaces (c ∷ cs) given.end it nodes = (it, tt)
with_text-nodes table spaces (c ∷ cs) (given.text u rest) it nodes = (IsText-append (c ∷ cs) u it nodes.0, nodes.1)
with_text-nodes table spaces (c ∷ cs) (given.comment u rest) it nodes = (it, nodes)
with_text-nodes table spaces (c ∷ cs) (given.element n a l content rest) it nodes = (it, nodes)

named_behind : (table : List NameParts) (t : List ℕ) (tree : Given) → AreNamed table (items_of (with_text t tree)) → AreNamed table (items_of tree)
named_behind table [] tree named = named
named_behind table (c ∷ cs) given.end named = tt
named_behind table (c ∷ cs) (given.text u rest) named = (tt, named.1)
named_behind table (c ∷ cs) (given.comment u rest) named = named.1
named_behind table (c ∷ cs) (given.element n a l content rest) named = named.1

text_read : (table : List NameParts) (spaces : List Space) (mark : ℕ) (t : List ℕ) → mark < 128 → IsRead table spaces (mark ∷ t) → IsText (meant t)
text_read table spaces mark t low read = meant-text t (is_line-parts [] t mark low (line_fault-parts spaces read.before (mark ∷ t) read.none).0).1

-- the nodes of the tree that lines say
pub written_nodes : (table : List NameParts) (spaces : List Space) (numbers : List ℕ) (w : Written) → AllByRecursion (IsRead table spaces) (written_lines w) → AreParted w
    → AreNamed table (items_of (given_in table spaces numbers w)) → AreNodes table spaces (given_in table spaces numbers w)
written_nodes table spaces numbers written.end read good named = tt
written_nodes table spaces numbers (written.text t rest) read good named =
    with_text-nodes table spaces (meant t) (given_in table spaces (drop 1 numbers) rest) (text_read table spaces 45 t (omega arith) read.0)
    (written_nodes table spaces (drop 1 numbers) rest read.1 good (named_behind table (meant t) (given_in table spaces (drop 1 numbers) rest) named))
written_nodes table spaces numbers (written.comment t rest) read good named =
    (text_read table spaces 67 t (omega arith) read.0, written_nodes table spaces (drop 1 numbers) rest read.1 good named.1)
written_nodes table spaces numbers (written.element name attributes content rest) read good named =
    let within : List ℕ = drop (1 + length attributes) numbers in
    let behind : List ℕ = drop (1 + length (written_lines content)) within in
    let end_lines : List (List ℕ) = (41 ∷ name) ∷ written_lines rest in
    let outer = AllByRecursion-parts (IsRead table spaces) (map attribute_bytes attributes) (written_lines content ++ end_lines) read.1 in
    let inner = AllByRecursion-parts (IsRead table spaces) (written_lines content) end_lines outer.1 in
    let items = AllByRecursion-parts (IsNamed table) (items_of (given_in table spaces within content)) (item.Finish ∷ items_of (given_in table spaces behind rest)) named.1 in (
      element_name-read table spaces name read.0,
      pairs_read table spaces attributes outer.0 good.0,
      named.0.1,
      written_nodes table spaces within content inner.0 good.1 items.0,
      written_nodes table spaces behind rest inner.1.1 good.2 items.1.1,
    )
