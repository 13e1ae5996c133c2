-- The names of lines without a fault stand in the table, and the attributes of an element are apart.
use Rattle.std.proofs.Common.{◌≡◌, ℕ, Bool, true, false, List, [], ◌∷◌, ◌++◌, Option, Some, None, refl, sym, ◌∙◌}
use Rattle.std.specs.Prelude.{not, ◌&&◌, is_some, drop, slice_index, if◌then◌else◌}
use Rattle.std.specs.List.{AllByRecursion, list_any}
use Rattle.std.proofs.lemmas.Bool.{or_parts}
use Rattle.std.proofs.lemmas.Cmp.{nat_list_eq_equiv}
use Rattle.serna_kinds.specs.declared.cells.AttrPair.{AttrPair}
use Rattle.serna_kinds.specs.Apart.{AreApart}
use Rattle.serna_kinds.specs.Names.{NameParts, Space, id_of, are_same}
use Rattle.serna_kinds.specs.Qualified.{prefix_of, attribute_uri, element_name, attribute_name, is_same_expanded}
use Rattle.tree_lines.specs.declared.tree.TreeItem.{TreeItem}
use Rattle.tree_lines.specs.declared.tree.TreeItem.TheVariants as item
use Rattle.tree_lines.specs.Texts.{meant}
use Rattle.tree_lines.specs.Tags.{Tag, tag_of, is_declaration}
use Rattle.tree_lines.specs.Tags as tag
use Rattle.tree_lines.specs.Before.{attributes_behind, attribute_names}
use Rattle.tree_lines.specs.LeftOpen.{is_same_attribute, left_open}
use Rattle.tree_lines.specs.Faults.{said_fault, fault_behind}
use Rattle.tree_lines.specs.Tokens.{with_item, pairs_by, items_by, names_by, line_names, AreNamed}
use Rattle.tree_lines.proofs.Stored.{IsStored, AllByRecursion-parts, AllByRecursion-like, IsSome-stored, are_same-stored}
use Rattle.tree_lines.proofs.LineFacts.{pair_fault-parts, fault_behind-parts, line_fault-parts, pair_fault-from}
use Rattle.tree_lines.proofs.PlainItems.{plain_pairs, plain_items}
use Rattle.tree_lines.proofs.SameNames.{bound_same}

-- an attribute is apart from one of another line that has a URI and is stored
abbrev IsApart : List NameParts → List Space → AttrPair → List ℕ → Type 0
IsApart table spaces pair other =
    is_declaration other ≡ false → is_some (attribute_uri spaces (prefix_of other)) ≡ true → IsStored table (attribute_name spaces other)
    → are_same table (id_of table (attribute_name spaces other)) pair.name ≡ false

-- and from each of them
abbrev IsApartFrom : List NameParts → List Space → List (List ℕ) → AttrPair → Type 0
IsApartFrom table spaces others pair = AllByRecursion (IsApart table spaces pair) others

-- an attribute of no fault is apart from those before it
apart_from : (table : List NameParts) (spaces : List Space) (name other : List ℕ) → IsStored table (attribute_name spaces name)
    → is_some (attribute_uri spaces (prefix_of name)) ≡ true → is_some (attribute_uri spaces (prefix_of other)) ≡ true → IsStored table (attribute_name spaces other)
    → is_same_attribute spaces name other ≡ false → are_same table (id_of table (attribute_name spaces other)) (id_of table (attribute_name spaces name)) ≡ false
apart_from table spaces name other stored bound it_bound it none =
    let one = attribute_name spaces other in
    let two = attribute_name spaces name in
    let turned : is_same_expanded one two ≡ is_same_expanded two one = λ i. nat_list_eq_equiv.symm one.uri two.uri i && nat_list_eq_equiv.symm one.local two.local i in
    are_same-stored table one two it stored ∙ turned ∙ sym (bound_same spaces name other bound it_bound) ∙ none

apart_before : (table : List NameParts) (spaces : List Space) (name value : List ℕ) (others : List (List ℕ)) → IsStored table (attribute_name spaces name)
    → is_some (attribute_uri spaces (prefix_of name)) ≡ true
    → list_any (λ (other : List ℕ). not (is_declaration other) && is_same_attribute spaces name other) others ≡ false
    → IsApartFrom table spaces others (record { name = id_of table (attribute_name spaces name); value = meant value })
apart_before table spaces name value [] stored bound none = tt
apart_before table spaces name value (other ∷ others) stored bound none =
    let same : Bool = is_same_attribute spaces name other in
    let parts = or_parts (not (is_declaration other) && same) (list_any (λ (x : List ℕ). not (is_declaration x) && is_same_attribute spaces name x) others) none in
    (λ pair it_bound it. apart_from table spaces name other stored bound it_bound it (rw pair at parts.0), apart_before table spaces name value others stored bound parts.1)

-- the attributes with which lines begin
abbrev ArePairs : List NameParts → List Space → List (List ℕ) → List AttrPair → Type 0
ArePairs table spaces others pairs = AreApart table pairs × AllByRecursion (IsApartFrom table spaces others) pairs

others_tail : (table : List NameParts) (spaces : List Space) (name : List ℕ) (others : List (List ℕ)) (pair : AttrPair)
    → IsApartFrom table spaces (name ∷ others) pair → IsApartFrom table spaces others pair
others_tail table spaces name others pair all = all.1

pairs_more : (table : List NameParts) (spaces : List Space) (before : List (List ℕ)) (name value : List ℕ) (rest : List AttrPair) (declares : Bool)
    → is_declaration name ≡ declares
    → said_fault (left_open spaces before) (Some (tag.Attribute name value)) ≡ None
    → AllByRecursion (IsStored table) (if declares then [] else attribute_name spaces name ∷ [])
    → ArePairs table spaces (name ∷ attribute_names before) rest
    → ArePairs table spaces (attribute_names before) ((if declares then [] else record { name = id_of table (attribute_name spaces name); value = meant value } ∷ []) ++ rest)
pairs_more table spaces before name value rest true e none stored after = (
  after.0,
  AllByRecursion-like (IsApartFrom table spaces (name ∷ attribute_names before)) (IsApartFrom table spaces (attribute_names before))
      (others_tail table spaces name (attribute_names before)) rest after.1,
)
pairs_more table spaces before name value rest false e none stored after =
    let others : List (List ℕ) = attribute_names before in
    let id = id_of table (attribute_name spaces name) in
    let fine = pair_fault-parts spaces before name value (pair_fault-from spaces before name value e none) in (
      (
        IsSome-stored table (attribute_name spaces name) stored.0,
        AllByRecursion-like (IsApartFrom table spaces (name ∷ others)) (λ (other : AttrPair). are_same table id other.name ≡ false) (λ other all. all.0 e fine.1 stored.0) rest after.1,
        after.0,
      ),
      (
        apart_before table spaces name value others stored.0 fine.1 fine.0,
        AllByRecursion-like (IsApartFrom table spaces (name ∷ others)) (IsApartFrom table spaces others) (others_tail table spaces name others) rest after.1,
      ),
    )

pairs_by-apart : (table : List NameParts) (spaces : List Space) (before : List (List ℕ)) (said : Option Tag) (rest : List AttrPair)
    → said_fault (left_open spaces before) said ≡ None → AllByRecursion (IsStored table) (names_by spaces said)
    → ArePairs table spaces (attributes_behind said (attribute_names before)) rest
    → ArePairs table spaces (attribute_names before) (pairs_by table spaces said rest)
pairs_by-apart table spaces before None rest none stored after = (tt, tt)
pairs_by-apart table spaces before (Some (tag.Begin name)) rest none stored after = (tt, tt)
pairs_by-apart table spaces before (Some (tag.Attribute name value)) rest none stored after = pairs_more table spaces before name value rest (is_declaration name) refl none stored after
pairs_by-apart table spaces before (Some (tag.Text t)) rest none stored after = (tt, tt)
pairs_by-apart table spaces before (Some (tag.Comment t)) rest none stored after = (tt, tt)
pairs_by-apart table spaces before (Some (tag.Finish name)) rest none stored after = (tt, tt)

pub pairs_apart : (table : List NameParts) (spaces : List Space) (before lines : List (List ℕ)) → fault_behind spaces before lines ≡ None
    → AllByRecursion (IsStored table) (line_names spaces lines) → ArePairs table spaces (attribute_names before) (plain_pairs table spaces lines)
pairs_apart table spaces before [] none stored = (tt, tt)
pairs_apart table spaces before (line ∷ lines) none stored =
    let parts = fault_behind-parts spaces before line lines none in
    let names = AllByRecursion-parts (IsStored table) (names_by spaces (tag_of line)) (line_names spaces lines) stored in
    pairs_by-apart table spaces before (tag_of line) (plain_pairs table spaces lines) (line_fault-parts spaces before line parts.0).1 names.0
    (pairs_apart table spaces (line ∷ before) lines parts.1 names.1)

-- a text joins what follows it
with_text-named : (table : List NameParts) (t : List ℕ) (items : List TreeItem) → AreNamed table items → AreNamed table (with_item (item.Text t) items)
with_text-named table [] items named = named
with_text-named table (c ∷ cs) [] named = (tt, tt)
with_text-named table (c ∷ cs) (item.Begin n a l ∷ rest) named = (tt, named)
with_text-named table (c ∷ cs) (item.Text t ∷ rest) named = (tt, named.1)
with_text-named table (c ∷ cs) (item.Comment t ∷ rest) named = (tt, named)
with_text-named table (c ∷ cs) (item.Finish ∷ rest) named = (tt, named)

items_by-named : (table : List NameParts) (spaces : List Space) (number : ℕ) (said : Option Tag) (pairs : List AttrPair) (items : List TreeItem)
    → AllByRecursion (IsStored table) (names_by spaces said) → AreApart table pairs → AreNamed table items → AreNamed table (items_by table spaces number said pairs items)
items_by-named table spaces number None pairs items stored apart named = named
items_by-named table spaces number (Some (tag.Begin name)) pairs items stored apart named = ((IsSome-stored table (element_name spaces name) stored.0, apart), named)
items_by-named table spaces number (Some (tag.Attribute name value)) pairs items stored apart named = named
items_by-named table spaces number (Some (tag.Text t)) pairs items stored apart named = with_text-named table (meant t) items named
items_by-named table spaces number (Some (tag.Comment t)) pairs items stored apart named = (tt, named)
items_by-named table spaces number (Some (tag.Finish name)) pairs items stored apart named = (tt, named)

pub plain_items-named : (table : List NameParts) (spaces : List Space) (numbers : List ℕ) (before lines : List (List ℕ)) → fault_behind spaces before lines ≡ None
    → AllByRecursion (IsStored table) (line_names spaces lines) → AreNamed table (plain_items table spaces numbers lines)
plain_items-named table spaces numbers before [] none stored = tt
plain_items-named table spaces numbers before (line ∷ lines) none stored =
    let parts = fault_behind-parts spaces before line lines none in
    let names = AllByRecursion-parts (IsStored table) (names_by spaces (tag_of line)) (line_names spaces lines) stored in
    items_by-named table spaces (slice_index numbers 0) (tag_of line) (plain_pairs table spaces lines) (plain_items table spaces (drop 1 numbers) lines) names.0
    (pairs_apart table spaces (line ∷ before) lines parts.1 names.1).0 (plain_items-named table spaces (drop 1 numbers) (line ∷ before) lines parts.1 names.1)
