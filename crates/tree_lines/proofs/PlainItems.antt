-- The items that lines say one by one, by their bytes and their numbers; those of a document are its tree's.
use Rattle.std.proofs.Common.{◌≡◌, ℕ, ◌+◌, suc, List, [], ◌∷◌, ◌++◌, map, length, drop, Option, refl, sym, ap, ◌∙◌, append_assoc, length-append, arith}
use Rattle.std.specs.Prelude.{IsTrue, slice_index}
use Rattle.std.specs.List.{AllByRecursion, flat_map}
use Rattle.std.proofs.lemmas.List.{append-nil, drop-drop, length-map}
use Rattle.serna_kinds.specs.declared.cells.AttrPair.{AttrPair}
use Rattle.serna_kinds.specs.Names.{NameParts, Space, id_of}
use Rattle.serna_kinds.specs.Qualified.{is_name, element_name}
use Rattle.tree_lines.specs.declared.tree.Line.{Line}
use Rattle.tree_lines.specs.declared.tree.TreeItem.{TreeItem}
use Rattle.tree_lines.specs.declared.tree.TreeItem.TheVariants as item
use Rattle.tree_lines.specs.Texts.{meant}
use Rattle.tree_lines.specs.Tags.{Tag, tag_of}
use Rattle.tree_lines.specs.Written.{Written, Attribute, attribute_bytes, written_lines}
use Rattle.tree_lines.specs.Written as written
use Rattle.tree_lines.specs.Documents.{AreParted}
use Rattle.tree_lines.specs.Faults.{bytes_of}
use Rattle.tree_lines.specs.Given.{Given, items_of, with_text, pair_for, pair_in, given_in, numbers_of}
use Rattle.tree_lines.specs.Given as given
use Rattle.tree_lines.specs.Tokens.{with_item, pairs_by, pairs_in, items_by, items_in}
use Rattle.tree_lines.proofs.Parts.{tag_of-attribute}

-- the attributes with which the lines begin, and their items, by their bytes and their numbers
abbrev pub plain_pairs : List NameParts → List Space → List (List ℕ) → List AttrPair
plain_pairs names spaces [] = []
plain_pairs names spaces (line ∷ lines) = pairs_by names spaces (tag_of line) (plain_pairs names spaces lines)

abbrev pub plain_items : List NameParts → List Space → List ℕ → List (List ℕ) → List TreeItem
plain_items names spaces numbers [] = []
plain_items names spaces numbers (line ∷ lines) =
    items_by names spaces (slice_index numbers 0) (tag_of line) (plain_pairs names spaces lines) (plain_items names spaces (drop 1 numbers) lines)

plain_pairs-lines : (names : List NameParts) (spaces : List Space) (lines : List Line) → pairs_in names spaces lines ≡ plain_pairs names spaces (bytes_of lines)
plain_pairs-lines names spaces [] = refl
plain_pairs-lines names spaces (line ∷ lines) = ap (λ (x : List AttrPair). pairs_by names spaces (tag_of line.bytes) x) (plain_pairs-lines names spaces lines)

pub plain_items-lines : (names : List NameParts) (spaces : List Space) (lines : List Line) → items_in names spaces lines ≡ plain_items names spaces (numbers_of lines) (bytes_of lines)
plain_items-lines names spaces [] = refl
plain_items-lines names spaces (line ∷ lines) =
    ap (λ (x : List AttrPair). items_by names spaces line.number (tag_of line.bytes) x (items_in names spaces lines)) (plain_pairs-lines names spaces lines)
    ∙ ap (λ (x : List TreeItem). items_by names spaces line.number (tag_of line.bytes) (plain_pairs names spaces (bytes_of lines)) x) (plain_items-lines names spaces lines)

-- attributes in front of lines
plain_pairs-attributes : (names : List NameParts) (spaces : List Space) (attributes : List Attribute) (more : List (List ℕ))
    → AllByRecursion (λ (attribute : Attribute). IsTrue (is_name attribute.name)) attributes
    → plain_pairs names spaces (map attribute_bytes attributes ++ more) ≡ flat_map (pair_in names spaces) attributes ++ plain_pairs names spaces more
plain_pairs-attributes names spaces [] more good = refl
plain_pairs-attributes names spaces (attribute ∷ attributes) more good =
    ap (λ (x : Option Tag). pairs_by names spaces x (plain_pairs names spaces (map attribute_bytes attributes ++ more))) (tag_of-attribute attribute.name attribute.value good.0)
    ∙ ap (λ (x : List AttrPair). pair_for names spaces attribute.name attribute.value ++ x) (plain_pairs-attributes names spaces attributes more good.1)
    ∙ sym (append_assoc (pair_for names spaces attribute.name attribute.value) (flat_map (pair_in names spaces) attributes) (plain_pairs names spaces more))

-- the numbers behind one more line
behind_one : (n : ℕ) (numbers : List ℕ) → drop n (drop 1 numbers) ≡ drop (suc n) numbers
behind_one n numbers = let more : 1 + n ≡ suc n = omega arith in drop-drop n 1 numbers ∙ ap (λ (k : ℕ). drop k numbers) more

plain_items-attributes : (names : List NameParts) (spaces : List Space) (numbers : List ℕ) (attributes : List Attribute) (more : List (List ℕ))
    → AllByRecursion (λ (attribute : Attribute). IsTrue (is_name attribute.name)) attributes
    → plain_items names spaces numbers (map attribute_bytes attributes ++ more) ≡ plain_items names spaces (drop (length attributes) numbers) more
plain_items-attributes names spaces numbers [] more good = refl
plain_items-attributes names spaces numbers (attribute ∷ attributes) more good =
    let behind : List (List ℕ) = map attribute_bytes attributes ++ more in
    ap (λ (x : Option Tag). items_by names spaces (slice_index numbers 0) x (plain_pairs names spaces behind) (plain_items names spaces (drop 1 numbers) behind)) (tag_of-attribute attribute.name attribute.value good.0)
    ∙ plain_items-attributes names spaces (drop 1 numbers) attributes more good.1
    ∙ ap (λ (x : List ℕ). plain_items names spaces x more) (behind_one (length attributes) numbers)

-- a document's lines begin with no attribute
plain_pairs-written : (names : List NameParts) (spaces : List Space) (w : Written) (name : List ℕ) (more : List (List ℕ))
    → plain_pairs names spaces (written_lines w ++ ((41 ∷ name) ∷ more)) ≡ []
plain_pairs-written names spaces written.end name more = refl
plain_pairs-written names spaces (written.text t rest) name more = refl
plain_pairs-written names spaces (written.comment t rest) name more = refl
plain_pairs-written names spaces (written.element n attributes content rest) name more = refl

-- items that a text in front of them does not join
abbrev pub BeginsNoText : List TreeItem → Type 0
BeginsNoText [] = Unit {0}
BeginsNoText (item.Begin n a l ∷ rest) = Unit {0}
BeginsNoText (item.Text t ∷ rest) = ⊥
BeginsNoText (item.Comment t ∷ rest) = Unit {0}
BeginsNoText (item.Finish ∷ rest) = Unit {0}

-- a text in front of a tree's items is in front of the tree
with_item-tree : (t : List ℕ) (tree : Given) (rest : List TreeItem) → BeginsNoText rest
    → with_item (item.Text t) (items_of tree ++ rest) ≡ items_of (with_text t tree) ++ rest
with_item-tree [] tree rest free = refl
with_item-tree (c ∷ cs) given.end [] free = refl
with_item-tree (c ∷ cs) given.end (item.Begin n a l ∷ rest) free = refl
with_item-tree (c ∷ cs) given.end (item.Text t ∷ rest) free = absurd free
with_item-tree (c ∷ cs) given.end (item.Comment t ∷ rest) free = refl
with_item-tree (c ∷ cs) given.end (item.Finish ∷ rest) free = refl
with_item-tree (c ∷ cs) (given.text t tree) rest free = refl
with_item-tree (c ∷ cs) (given.comment t tree) rest free = refl
with_item-tree (c ∷ cs) (given.element n a l content tree) rest free = refl

-- the numbers behind the lines of an element
behind_element : (name : List ℕ) (attributes : List Attribute) (content rest : Written) (numbers : List ℕ)
    → drop (length (written_lines rest)) (drop (1 + length (written_lines content)) (drop (1 + length attributes) numbers))
    ≡ drop (length (written_lines (written.element name attributes content rest))) numbers
behind_element name attributes content rest numbers =
    let inside : List (List ℕ) = written_lines content in
    let after : List (List ℕ) = written_lines rest in
    let begins : ℕ = 1 + length attributes in
    let ends : ℕ = 1 + length inside in
    let total : begins + (ends + length after) ≡ length (written_lines (written.element name attributes content rest)) =
    omega (arith, length-append (map attribute_bytes attributes) (inside ++ ((41 ∷ name) ∷ after)), length-map attributes attribute_bytes, length-append inside ((41 ∷ name) ∷ after)) in
    drop-drop (length after) ends (drop begins numbers) ∙ drop-drop (ends + length after) begins numbers ∙ ap (λ (n : ℕ). drop n numbers) total

-- the lines of a document say its tree's items
pub plain_items-written : (names : List NameParts) (spaces : List Space) (numbers : List ℕ) (w : Written) (more : List (List ℕ)) → AreParted w
    → ((last : List ℕ) → BeginsNoText (plain_items names spaces last more))
    → plain_items names spaces numbers (written_lines w ++ more) ≡ items_of (given_in names spaces numbers w) ++ plain_items names spaces (drop (length (written_lines w)) numbers) more
plain_items-written names spaces numbers written.end more good free = refl
plain_items-written names spaces numbers (written.text t rest) more good free =
    let tree : Given = given_in names spaces (drop 1 numbers) rest in
    let last : List ℕ = drop (length (written_lines rest)) (drop 1 numbers) in
    ap (λ (x : List TreeItem). with_item (item.Text (meant t)) x) (plain_items-written names spaces (drop 1 numbers) rest more good free)
    ∙ with_item-tree (meant t) tree (plain_items names spaces last more) (free last)
    ∙ ap (λ (x : List ℕ). items_of (with_text (meant t) tree) ++ plain_items names spaces x more) (behind_one (length (written_lines rest)) numbers)
plain_items-written names spaces numbers (written.comment t rest) more good free =
    let tree : Given = given_in names spaces (drop 1 numbers) rest in
    ap (λ (x : List TreeItem). item.Comment (meant t) ∷ x) (plain_items-written names spaces (drop 1 numbers) rest more good free)
    ∙ ap (λ (x : List ℕ). item.Comment (meant t) ∷ (items_of tree ++ plain_items names spaces x more)) (behind_one (length (written_lines rest)) numbers)
plain_items-written names spaces numbers (written.element name attributes content rest) more good free =
    let inner : List ℕ = drop (1 + length attributes) numbers in
    let outer : List ℕ = drop (1 + length (written_lines content)) inner in
    let behind : List (List ℕ) = (41 ∷ name) ∷ (written_lines rest ++ more) in
    let begun : List AttrPair → List TreeItem → List TreeItem = λ pairs items. item.Begin (id_of names (element_name spaces name)) pairs (slice_index numbers 0) ∷ items in
    let pairs : List AttrPair = flat_map (pair_in names spaces) attributes in
    let tree : List TreeItem = items_of (given_in names spaces inner content) in
    let after : List TreeItem = items_of (given_in names spaces outer rest) in
    let last : List ℕ = drop (length (written_lines rest)) outer in
    let lines : List (List ℕ) = map attribute_bytes attributes ++ (written_lines content ++ behind) in
    let regrouped : map attribute_bytes attributes ++ (written_lines content ++ ((41 ∷ name) ∷ written_lines rest)) ++ more ≡ lines =
    append_assoc (map attribute_bytes attributes) (written_lines content ++ ((41 ∷ name) ∷ written_lines rest)) more
    ∙ ap (λ (x : List (List ℕ)). map attribute_bytes attributes ++ x) (append_assoc (written_lines content) ((41 ∷ name) ∷ written_lines rest) more) in
    let one_more : length (written_lines content) + 1 ≡ 1 + length (written_lines content) = omega arith in
    ap (λ (x : List (List ℕ)). begun (plain_pairs names spaces x) (plain_items names spaces (drop 1 numbers) x)) regrouped
    ∙ ap (λ (x : List AttrPair). begun x (plain_items names spaces (drop 1 numbers) lines))
    (plain_pairs-attributes names spaces attributes (written_lines content ++ behind) good.0
    ∙ ap (λ (x : List AttrPair). pairs ++ x) (plain_pairs-written names spaces content name (written_lines rest ++ more))
    ∙ append-nil pairs)
    ∙ ap (λ (x : List TreeItem). begun pairs x)
    (plain_items-attributes names spaces (drop 1 numbers) attributes (written_lines content ++ behind) good.0
    ∙ ap (λ (x : List ℕ). plain_items names spaces x (written_lines content ++ behind)) (drop-drop (length attributes) 1 numbers)
    ∙ plain_items-written names spaces inner content behind good.1 (λ n. tt)
    ∙ ap (λ (x : List ℕ). tree ++ (item.Finish ∷ plain_items names spaces x (written_lines rest ++ more)))
    (drop-drop 1 (length (written_lines content)) inner ∙ ap (λ (n : ℕ). drop n inner) one_more)
    ∙ ap (λ (x : List TreeItem). tree ++ (item.Finish ∷ x)) (plain_items-written names spaces outer rest more good.2 free)
    ∙ sym (append_assoc tree (item.Finish ∷ after) (plain_items names spaces last more))
    ∙ ap (λ (x : List ℕ). (tree ++ (item.Finish ∷ after)) ++ plain_items names spaces x more) (behind_element name attributes content rest numbers))
