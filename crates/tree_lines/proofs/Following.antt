-- What a reader holds behind a line is what the lines with this one leave, and shows the items that they say.
use Rattle.std.proofs.Common.{◌≡◌, ℕ, ◌+◌, Bool, true, false, ◌||◌, List, [], ◌∷◌, ◌++◌, length, None, Some, Option, refl, sym, ap, ◌∙◌, subst, append-nil, append_assoc, arith}
use Rattle.std.specs.Prelude.{is_some, not, ◌&&◌, bytes_eq, if◌then◌else◌}
use Rattle.std.specs.List.{list_any}
use Rattle.std.proofs.lemmas.Bool.{false≢true}
use Rattle.std.proofs.lemmas.List.Folds.{list_any-append}
use Rattle.serna_kinds.specs.declared.cells.AttrPair.{AttrPair}
use Rattle.serna_kinds.specs.Names.{NameParts, Space, id_of}
use Rattle.serna_kinds.specs.Qualified.{prefix_of, attribute_uri, element_name}
use Rattle.tree_lines.specs.declared.tree.TreeItem.{TreeItem}
use Rattle.tree_lines.specs.declared.tree.TreeItem.TheVariants as item
use Rattle.tree_lines.specs.Texts.{meant, size_of}
use Rattle.tree_lines.specs.Tags.{Tag, tag_of, is_declaration, declared_prefix}
use Rattle.tree_lines.specs.Tags as tag
use Rattle.tree_lines.specs.Before.{OpenElement, open_element, without_innermost, opened, open_elements, is_begin, has_element, takes_attribute_behind, takes_attribute, attributes_behind, attribute_names, size_behind, text_size, begins_text, nodes_at, node_count}
use Rattle.tree_lines.specs.LeftOpen.{declares_already, is_same_attribute, has_already, LeftOpen, left_open}
use Rattle.tree_lines.specs.Faults.{said_fault}
use Rattle.tree_lines.specs.Given.{pair_for}
use Rattle.tree_lines.specs.Tokens.{with_item, pairs_by, items_by}
use Rattle.tree_lines.specs.Keys.{Key, is_same_key, declaration_key, pair_key, key_of}
use Rattle.tree_lines.specs.Reading.{Reading, has_key, held, begun_item, text_item, ended, after, shown}
use Rattle.tree_lines.proofs.Characters.{size_of-append}
use Rattle.tree_lines.proofs.SameNames.{declared_same, pair_key_same}
use Rattle.tree_lines.proofs.StepLemmas.{begun_some}

-- what the reader holds, part by part, where the lines with which an element's attributes end have these names
record Holds (r : Reading) (elements : List OpenElement) (has_begun takes_more : Bool) (names : List (List ℕ)) (bytes nodes : ℕ) : Type 0 where
  opened : r.opened ≡ elements
  begins : r.has_begun ≡ has_begun
  begun : is_some r.begun ≡ takes_more
  declared : (name : List ℕ) → has_key r (declaration_key name) ≡ list_any (λ other. is_declaration other && bytes_eq (declared_prefix other) (declared_prefix name)) names
  taken : (name : List ℕ) → has_key r (pair_key name (attribute_uri r.spaces (prefix_of name))) ≡ list_any (λ other. not (is_declaration other) && is_same_attribute r.spaces name other) names
  text : size_of r.text ≡ bytes
  count : r.nodes ≡ nodes

-- as the lines before leave it, and as they and what the last line says do
abbrev HoldsBefore : Reading → List (List ℕ) → Type 0
HoldsBefore r before = Holds r (open_elements before) (has_element before) (takes_attribute before) (attribute_names before) (text_size before) (node_count before)

abbrev Follows : Reading → ℕ → Option Tag → List (List ℕ) → Type 0
Follows r place t before =
    Holds r (opened place t (open_elements before)) (is_begin t || has_element before) (takes_attribute_behind t) (attributes_behind t (attribute_names before))
    (size_behind t (text_size before)) (node_count before + nodes_at t (text_size before))

holds_before : (r : Reading) (before : List (List ℕ)) → held r ≡ left_open r.spaces before → HoldsBefore r before
holds_before r before h = record {
  opened = ap (λ (l : LeftOpen). l.elements) h;
  begins = ap (λ (l : LeftOpen). l.has_begun) h;
  begun = ap (λ (l : LeftOpen). l.takes_more) h;
  declared = λ name. ap (λ (l : LeftOpen). l.is_declared name) h;
  taken = λ name. ap (λ (l : LeftOpen). l.is_taken name) h;
  text = ap (λ (l : LeftOpen). l.bytes) h;
  count = ap (λ (l : LeftOpen). l.nodes) h;
}

-- where an attribute may stand, no text goes on
no_text : (t : Option Tag) (size : ℕ) → takes_attribute_behind t ≡ true → size_behind t size ≡ 0
no_text None size e = refl
no_text (Some (tag.Begin name)) size e = refl
no_text (Some (tag.Attribute name value)) size e = refl
no_text (Some (tag.Text t)) size e = absurd (false≢true e)
no_text (Some (tag.Comment t)) size e = refl
no_text (Some (tag.Finish name)) size e = refl

no_text-before : (before : List (List ℕ)) → takes_attribute before ≡ true → text_size before ≡ 0
no_text-before [] e = refl
no_text-before (line ∷ before) e = no_text (tag_of line) (text_size before) e

or-comm : (a b : Bool) → (a || b) ≡ (b || a)
or-comm true true = refl
or-comm true false = refl
or-comm false true = refl
or-comm false false = refl

or-false : (a : Bool) → (a || false) ≡ a
or-false true = refl
or-false false = refl

one_key : (k new : Key) (keys : List Key) (b : Bool) → list_any (is_same_key k) keys ≡ b → list_any (is_same_key k) (keys ++ new ∷ []) ≡ (is_same_key k new || b)
one_key k new keys b e =
    list_any-append (is_same_key k) keys (new ∷ [])
    ∙ ap (λ (x : Bool). list_any (is_same_key k) keys || x) (or-false (is_same_key k new))
    ∙ ap (λ (x : Bool). x || is_same_key k new) e
    ∙ or-comm b (is_same_key k new)

follows : (names : List NameParts) (number : ℕ) (r : Reading) (before : List (List ℕ)) (t : Option Tag) → HoldsBefore r before → said_fault (held r) t ≡ None → Follows (after names (length before) number r t) (length before) t before
follows names number r before None h e = absurd (cc)
follows names number r before (Some (tag.Begin name)) h e = record {
  opened = ap (λ (o : List OpenElement). open_element (length before) name ∷ o) h.opened;
  begins = refl;
  begun = refl;
  declared = λ other. refl;
  taken = λ other. refl;
  text = refl;
  count = ap (λ (n : ℕ). n + 1) h.count;
}
follows names number r before (Some (tag.Attribute name value)) h e =
    let some = begun_some r name value e in
    let own : Key = key_of r.spaces name in
    record {
      opened = h.opened;
      begins = h.begins;
      begun = some;
      declared = λ other.
          one_key (declaration_key other) own r.keys (declares_already before other) (h.declared other)
          ∙ ap (λ (b : Bool). b || declares_already before other) (declared_same r.spaces other name (is_declaration name));
      taken = λ other.
          one_key (pair_key other (attribute_uri r.spaces (prefix_of other))) own r.keys (has_already r.spaces before other) (h.taken other)
          ∙ ap (λ (b : Bool). b || has_already r.spaces before other) (pair_key_same r.spaces other name (is_declaration name));
      text = h.text ∙ no_text-before before (sym h.begun ∙ some);
      count = h.count ∙ (let n : node_count before ≡ node_count before + 0 = omega arith in n);
    }
follows names number r before (Some (tag.Text t)) h e = record {
  opened = h.opened;
  begins = h.begins;
  begun = refl;
  declared = λ other. refl;
  taken = λ other. refl;
  text = size_of-append r.text (meant t) ∙ ap (λ (n : ℕ). n + size_of (meant t)) h.text;
  count = λ i. h.count i + (if begins_text (h.text i) t then 1 else 0);
}
follows names number r before (Some (tag.Comment t)) h e = record {
  opened = h.opened;
  begins = h.begins;
  begun = refl;
  declared = λ other. refl;
  taken = λ other. refl;
  text = refl;
  count = ap (λ (n : ℕ). n + 1) h.count;
}
follows names number r before (Some (tag.Finish name)) h e = record {
  opened = ap without_innermost h.opened;
  begins = h.begins;
  begun = refl;
  declared = λ other. refl;
  taken = λ other. refl;
  text = refl;
  count = h.count ∙ (let n : node_count before ≡ node_count before + 0 = omega arith in n);
}

pub after_spaces : (names : List NameParts) (place number : ℕ) (r : Reading) (t : Option Tag) → (after names place number r t).spaces ≡ r.spaces
after_spaces names place number r None = refl
after_spaces names place number r (Some (tag.Begin name)) = refl
after_spaces names place number r (Some (tag.Attribute name value)) = refl
after_spaces names place number r (Some (tag.Text t)) = refl
after_spaces names place number r (Some (tag.Comment t)) = refl
after_spaces names place number r (Some (tag.Finish name)) = refl

-- what is held, from its parts
held_by : (r : Reading) (line : List ℕ) (before : List (List ℕ)) → Follows r (length before) (tag_of line) before → held r ≡ left_open r.spaces (line ∷ before)
held_by r line before f = λ i. record {
  spaces = r.spaces;
  elements = f.opened i;
  has_begun = f.begins i;
  takes_more = f.begun i;
  is_declared = λ name. f.declared name i;
  is_taken = λ name. f.taken name i;
  bytes = f.text i;
  nodes = f.count i;
}

pub after_behind : (names : List NameParts) (number place : ℕ) (r : Reading) (spaces : List Space) (before : List (List ℕ)) (line : List ℕ) → held r ≡ left_open spaces before
    → said_fault (held r) (tag_of line) ≡ None → place ≡ length before → held (after names place number r (tag_of line)) ≡ left_open spaces (line ∷ before)
after_behind names number place r spaces before line h e at =
    let own : r.spaces ≡ spaces = ap (λ (l : LeftOpen). l.spaces) h in
    let holds : HoldsBefore r before = holds_before r before (subst (λ (s : List Space). held r ≡ left_open s before) (sym own) h) in
    let new : Reading = after names (length before) number r (tag_of line) in
    let same : held new ≡ left_open new.spaces (line ∷ before) = held_by new line before (follows names number r before (tag_of line) holds e) in
    let declared : held new ≡ left_open spaces (line ∷ before) =
    subst (λ (s : List Space). held new ≡ left_open s (line ∷ before)) (after_spaces names (length before) number r (tag_of line) ∙ own) same in
    subst (λ (n : ℕ). held (after names n number r (tag_of line)) ≡ left_open spaces (line ∷ before)) (sym at) declared

-- a text that goes on
with_item-text : (p t : List ℕ) (rest : List TreeItem) → with_item (item.Text (p ++ t)) rest ≡ with_item (item.Text p) (with_item (item.Text t) rest)
with_item-text [] t rest = refl
with_item-text (c ∷ cs) [] rest = ap (λ (x : List ℕ). with_item (item.Text x) rest) (append-nil (c ∷ cs))
with_item-text (c ∷ cs) (d ∷ ds) [] = refl
with_item-text (c ∷ cs) (d ∷ ds) (item.Begin n a l ∷ rest) = refl
with_item-text (c ∷ cs) (d ∷ ds) (item.Text u ∷ rest) = ap (λ (x : List ℕ). item.Text x ∷ rest) (append_assoc (c ∷ cs) (d ∷ ds) u)
with_item-text (c ∷ cs) (d ∷ ds) (item.Comment u ∷ rest) = refl
with_item-text (c ∷ cs) (d ∷ ds) (item.Finish ∷ rest) = refl

-- a text that ends
abbrev IsNoText : TreeItem → Type 0
IsNoText (item.Begin n a l) = Unit {0}
IsNoText (item.Text t) = ⊥
IsNoText (item.Comment t) = Unit {0}
IsNoText item.Finish = Unit {0}

with_item-no_text : (t : List ℕ) (x : TreeItem) (rest : List TreeItem) → IsNoText x → with_item (item.Text t) (x ∷ rest) ≡ text_item t ++ x ∷ rest
with_item-no_text [] x rest h = refl
with_item-no_text (c ∷ cs) (item.Begin n a l) rest h = refl
with_item-no_text (c ∷ cs) (item.Text u) rest h = absurd h
with_item-no_text (c ∷ cs) (item.Comment u) rest h = refl
with_item-no_text (c ∷ cs) item.Finish rest h = refl

-- what was waiting stands before an item that is no text
ended_shown : (r : Reading) (x : TreeItem) (rest : List TreeItem) → IsNoText x → (ended r).items ++ x ∷ rest ≡ shown r [] (x ∷ rest)
ended_shown r x rest h =
    append_assoc (r.items ++ begun_item r.begun r.pairs) (text_item r.text) (x ∷ rest)
    ∙ append_assoc r.items (begun_item r.begun r.pairs) (text_item r.text ++ x ∷ rest)
    ∙ ap (λ (l : List TreeItem). r.items ++ (begun_item r.begun r.pairs ++ l)) (sym (with_item-no_text r.text x rest h))
    ∙ ap (λ (p : List AttrPair). r.items ++ (begun_item r.begun p ++ with_item (item.Text r.text) (x ∷ rest))) (sym (append-nil r.pairs))

ended_one : (r : Reading) (x : TreeItem) (rest : List TreeItem) → IsNoText x → ((ended r).items ++ x ∷ []) ++ rest ≡ shown r [] (x ∷ rest)
ended_one r x rest h = append_assoc (ended r).items (x ∷ []) rest ∙ ended_shown r x rest h

-- the items so far with those that follow stay the same as the reader goes on by a line
pub after_shown : (names : List NameParts) (place number : ℕ) (r : Reading) (t : Option Tag) (pairs : List AttrPair) (items : List TreeItem) → said_fault (held r) t ≡ None
    → shown (after names place number r t) pairs items ≡ shown r (pairs_by names r.spaces t pairs) (items_by names r.spaces number t pairs items)
after_shown names place number r None pairs items e = absurd (cc)
after_shown names place number r (Some (tag.Begin name)) pairs items e = ended_shown r (item.Begin (id_of names (element_name r.spaces name)) pairs number) items tt
after_shown names place number r (Some (tag.Attribute name value)) pairs items e =
    ap (λ (p : List AttrPair). r.items ++ (begun_item r.begun p ++ with_item (item.Text r.text) items)) (append_assoc r.pairs (pair_for names r.spaces name value) pairs)
after_shown names place number r (Some (tag.Text t)) pairs items e =
    append_assoc r.items (begun_item r.begun r.pairs) (with_item (item.Text (r.text ++ meant t)) items)
    ∙ ap (λ (l : List TreeItem). r.items ++ (begun_item r.begun r.pairs ++ l)) (with_item-text r.text (meant t) items)
    ∙ ap (λ (p : List AttrPair). r.items ++ (begun_item r.begun p ++ with_item (item.Text r.text) (with_item (item.Text (meant t)) items))) (sym (append-nil r.pairs))
after_shown names place number r (Some (tag.Comment t)) pairs items e = ended_one r (item.Comment (meant t)) items tt
after_shown names place number r (Some (tag.Finish name)) pairs items e = ended_one r item.Finish items tt
