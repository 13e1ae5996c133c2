-- The lines of attributes and of declarations break no rule behind an element's beginning, and what they leave.
use Rattle.std.proofs.Common.{◌≡◌, ◌≢◌, ℕ, ◌+◌, Bool, true, false, List, [], ◌∷◌, ◌++◌, Option, Some, None, map, length, refl, sym, ap, subst, ◌∙◌, arith, append_assoc}
use Rattle.std.specs.Prelude.{◌&&◌, ◌||◌, not, bytes_eq, is_some, slice_get}
use Rattle.std.specs.List.{AllByRecursion, list_any}
use Rattle.std.specs.Str.{chars}
use Rattle.std.proofs.lemmas.Bool.{and_parts, and_left, and_right, or_from, not_from_true, false_from_ne_true}
use Rattle.std.proofs.lemmas.Cmp.{nat_list_eq_equiv}
use Rattle.std.proofs.lemmas.Slice.Eq.{bytes_eq-Decides}
use Rattle.serna_kinds.specs.declared.cells.NameId.{NameId}
use Rattle.serna_kinds.specs.declared.cells.AttrPair.{AttrPair}
use Rattle.serna_kinds.specs.Names.{NameParts, Space, are_same}
use Rattle.serna_kinds.specs.Qualified.{prefix_of, is_name, attribute_uri, attribute_name, is_same_expanded}
use Rattle.tree_lines.specs.Texts.{is_line}
use Rattle.tree_lines.specs.Tags.{Tag, tag_of, is_declaration, declared_prefix}
use Rattle.tree_lines.specs.Tags as tag
use Rattle.tree_lines.specs.Before.{opened, open_elements, is_begin, has_element, takes_attribute_behind, takes_attribute, attributes_behind, attribute_names, size_behind, text_size, nodes_at, node_count}
use Rattle.tree_lines.specs.LeftOpen.{declares_already, is_same_attribute, has_already, left_open}
use Rattle.tree_lines.specs.Faults.{line_fault, or_later, fault_behind}
use Rattle.tree_lines.specs.Given.{IsShort}
use Rattle.serna_kinds.specs.Apart.{AreApart}
use Rattle.tree_lines.specs.Canonical.{spelled, spelling_of, declaring_name, attribute_line, declaration_line}
use Rattle.tree_lines.specs.Writable.{IsAttributeName, IsPair, AreSpaces}
use Rattle.tree_lines.proofs.WrittenTexts.{written_text}
use Rattle.tree_lines.proofs.Parts.{tag_of-attribute}
use Rattle.tree_lines.proofs.WrittenNames.{is_name-declaring, is_declaration-declaring, declared_prefix-declaring, spelling_of-stored}
use Rattle.tree_lines.proofs.SameNames.{bound_same}
use Rattle.tree_lines.proofs.WrittenLines.{line_fault-pair, line_fault-declaration}

-- a line that breaks no rule
pub passes-line : (spaces : List Space) (before : List (List ℕ)) (line : List ℕ) (more : List (List ℕ)) → line_fault (left_open spaces before) line ≡ None
    → fault_behind spaces before (line ∷ more) ≡ fault_behind spaces (line ∷ before) more
passes-line spaces before line more e = ap (λ o. or_later (length before) o (fault_behind spaces (line ∷ before) more)) e

-- lines of attributes that break no rule behind some others, and what they leave
pub record Leaves (spaces : List Space) (before lines : List (List ℕ)) : Type 0 where
  pub after : List (List ℕ)
  pub passed : (more : List (List ℕ)) → fault_behind spaces before (lines ++ more) ≡ fault_behind spaces after more
  pub opens : open_elements after ≡ open_elements before
  pub begun : has_element after ≡ has_element before
  pub nodes : node_count after ≡ node_count before
  pub size : text_size after ≡ 0
  pub takes : takes_attribute after ≡ true

-- no line
leaves-none : (spaces : List Space) (before : List (List ℕ)) → text_size before ≡ 0 → takes_attribute before ≡ true → Leaves spaces before []
leaves-none spaces before size takes =
    record { after = before; passed = λ more. refl; opens = refl; begun = refl; nodes = refl; size = size; takes = takes }

-- a line of an attribute in front of others
leaves-line : (spaces : List Space) (before : List (List ℕ)) (line name value : List ℕ) (lines : List (List ℕ)) → tag_of line ≡ Some (tag.Attribute name value)
    → line_fault (left_open spaces before) line ≡ None → Leaves spaces (line ∷ before) lines → Leaves spaces before (line ∷ lines)
leaves-line spaces before line name value lines said good rest =
    record {
      after = rest.after;
      passed = λ more. passes-line spaces before line (lines ++ more) good ∙ rest.passed more;
      opens = rest.opens ∙ ap (λ t. opened (length before) t (open_elements before)) said;
      begun = rest.begun ∙ ap (λ t. is_begin t || has_element before) said;
      nodes = rest.nodes ∙ ap (λ t. node_count before + nodes_at t (text_size before)) said ∙ omega arith;
      size = rest.size;
      takes = rest.takes;
    }

-- an attribute's name that is written
pub record IsPairName (spaces : List Space) (name : List ℕ) : Type 0 where
  pub named : is_name name ≡ true
  pub good : is_line name ≡ true
  pub pair : is_declaration name ≡ false
  pub bound : is_some (attribute_uri spaces (prefix_of name)) ≡ true

pub pair_name : (names : List NameParts) (spaces : List Space) (id : NameId) → IsAttributeName names spaces id → IsPairName spaces (spelling_of names id)
pair_name names spaces id h =
    let same : spelled h.parts ≡ spelling_of names id = sym (spelling_of-stored names id h.parts h.stored) in
    let both = and_parts (is_name (spelled h.parts)) (is_line (spelled h.parts)) h.good in
    let stored : IsPairName spaces (spelled h.parts) = record { named = both.0; good = both.1; pair = h.pair; bound = h.bound } in
    subst (IsPairName spaces) same stored

pub read_pair_name : (names : List NameParts) (spaces : List Space) (id : NameId) (h : IsAttributeName names spaces id) → attribute_name spaces (spelling_of names id) ≡ h.parts
read_pair_name names spaces id h = ap (attribute_name spaces) (spelling_of-stored names id h.parts h.stored) ∙ h.same

-- attributes that are apart as they are numbered are apart as they are read
apart_as_read : (names : List NameParts) (spaces : List Space) (one other : NameId) → IsAttributeName names spaces one → IsAttributeName names spaces other
    → are_same names one other ≡ false → is_same_expanded (attribute_name spaces (spelling_of names one)) (attribute_name spaces (spelling_of names other)) ≡ false
apart_as_read names spaces one other h g apart =
    let told : are_same names one other ≡ is_same_expanded h.parts g.parts =
    ap (λ (o : Option NameParts). elim o [ None ↦ false | Some x ↦ elim (slice_get names other.0) [ None ↦ false | Some y ↦ is_same_expanded x y ] ]) h.stored
    ∙ ap (λ (o : Option NameParts). elim o [ None ↦ false | Some y ↦ is_same_expanded h.parts y ]) g.stored in
    ap (λ x. is_same_expanded x (attribute_name spaces (spelling_of names other))) (read_pair_name names spaces one h)
    ∙ ap (λ x. is_same_expanded h.parts x) (read_pair_name names spaces other g) ∙ sym told ∙ apart

not_the_same : (names : List NameParts) (spaces : List Space) (one other : NameId) → IsAttributeName names spaces one → IsAttributeName names spaces other
    → are_same names one other ≡ false → is_same_attribute spaces (spelling_of names other) (spelling_of names one) ≡ false
not_the_same names spaces one other h g apart =
    let a = attribute_name spaces (spelling_of names other) in
    let b = attribute_name spaces (spelling_of names one) in
    let turned : is_same_expanded a b ≡ is_same_expanded b a = λ i. nat_list_eq_equiv.symm a.uri b.uri i && nat_list_eq_equiv.symm a.local b.local i in
    bound_same spaces (spelling_of names other) (spelling_of names one) (pair_name names spaces other g).bound (pair_name names spaces one h).bound
    ∙ turned ∙ apart_as_read names spaces one other h g apart

-- none of the attributes behind which these stand is the same
abbrev pub AreFresh : List NameParts → List Space → List (List ℕ) → List AttrPair → Type 0
AreFresh names spaces before pairs = AllByRecursion (λ (pair : AttrPair). has_already spaces before (spelling_of names pair.name) ≡ false) pairs

has_already-line : (spaces : List Space) (before : List (List ℕ)) (line name value other : List ℕ) → tag_of line ≡ Some (tag.Attribute name value)
    → (not (is_declaration name) && is_same_attribute spaces other name) ≡ false
    → has_already spaces before other ≡ false → has_already spaces (line ∷ before) other ≡ false
has_already-line spaces before line name value other said apart fresh =
    let test : List ℕ → Bool = λ n. not (is_declaration n) && is_same_attribute spaces other n in
    ap (λ t. list_any test (attributes_behind t (attribute_names before))) said ∙ or_from (test name) (list_any test (attribute_names before)) apart fresh

fresh-line : (names : List NameParts) (spaces : List Space) (before : List (List ℕ)) (pair : AttrPair) → IsAttributeName names spaces pair.name
    → (pairs : List AttrPair) → AllByRecursion (IsPair names spaces) pairs
    → AllByRecursion (λ (other : AttrPair). are_same names pair.name other.name ≡ false) pairs → AreFresh names spaces before pairs
    → AreFresh names spaces (attribute_line names pair ∷ before) pairs
fresh-line names spaces before pair own [] good apart fresh = tt
fresh-line names spaces before pair own (q ∷ pairs) good apart fresh =
    let name : List ℕ = spelling_of names pair.name in
    let said = tag_of-attribute name (written_text pair.value) (pair_name names spaces pair.name own).named in
    let differs = and_right (not (is_declaration name)) _ (not_the_same names spaces pair.name q.name own good.0.0 apart.0) in (
      has_already-line spaces before (attribute_line names pair) name (written_text pair.value) (spelling_of names q.name) said differs fresh.0,
      fresh-line names spaces before pair own pairs good.1 apart.1 fresh.1,
    )

pub pairs-pass : (names : List NameParts) (spaces : List Space) (pairs : List AttrPair) (before : List (List ℕ)) → text_size before ≡ 0 → takes_attribute before ≡ true
    → AllByRecursion (IsPair names spaces) pairs → AllByRecursion (λ (pair : AttrPair). IsShort pair.value) pairs → AreApart names pairs → AreFresh names spaces before pairs
    → Leaves spaces before (map (attribute_line names) pairs)
pairs-pass names spaces [] before size takes good short apart fresh = leaves-none spaces before size takes
pairs-pass names spaces (pair ∷ pairs) before size takes good short apart fresh =
    let name : List ℕ = spelling_of names pair.name in
    let value : List ℕ = written_text pair.value in
    let line : List ℕ = attribute_line names pair in
    let own = pair_name names spaces pair.name good.0.0 in
    let said : tag_of line ≡ Some (tag.Attribute name value) = tag_of-attribute name value own.named in
    let passed = line_fault-pair spaces before name pair.value own.named own.good own.pair own.bound good.0.1 short.0 takes fresh.0 in
    let later = fresh-line names spaces before pair good.0.0 pairs good.1 apart.1 fresh.1 in
    leaves-line spaces before line name value (map (attribute_line names) pairs) said passed
    (pairs-pass names spaces pairs (line ∷ before) (ap (λ t. size_behind t (text_size before)) said) (ap takes_attribute_behind said) good.1 short.1 apart.2 later)

-- no declaration behind which these stand is of the same prefix
abbrev pub AreUndeclared : List (List ℕ) → List Space → Type 0
AreUndeclared before spaces = AllByRecursion (λ (space : Space). declares_already before (declaring_name space.prefix) ≡ false) spaces

bytes_apart : (one other : List ℕ) → (one ≢ other) → bytes_eq one other ≡ false
bytes_apart one other apart = false_from_ne_true (bytes_eq one other) (λ e. apart ((bytes_eq-Decides one other).0 e))

undeclared-line : (before : List (List ℕ)) (space : Space) (line value : List ℕ) → tag_of line ≡ Some (tag.Attribute (declaring_name space.prefix) value) → (spaces : List Space)
    → AllByRecursion (λ (other : Space). space.prefix ≢ other.prefix) spaces → AreUndeclared before spaces → AreUndeclared (line ∷ before) spaces
undeclared-line before space line value said [] apart fresh = tt
undeclared-line before space line value said (other ∷ spaces) apart fresh =
    let own : List ℕ = declaring_name space.prefix in
    let test : List ℕ → Bool = λ n. is_declaration n && bytes_eq (declared_prefix n) (declared_prefix (declaring_name other.prefix)) in
    let differs : bytes_eq (declared_prefix own) (declared_prefix (declaring_name other.prefix)) ≡ false =
    ap (λ x. bytes_eq x (declared_prefix (declaring_name other.prefix))) (declared_prefix-declaring space.prefix)
    ∙ ap (bytes_eq space.prefix) (declared_prefix-declaring other.prefix) ∙ bytes_apart space.prefix other.prefix apart.0 in
    let first : declares_already (line ∷ before) (declaring_name other.prefix) ≡ false =
    ap (λ t. list_any test (attributes_behind t (attribute_names before))) said
    ∙ or_from (test own) (list_any test (attribute_names before)) (and_right (is_declaration own) _ differs) fresh.0 in
    (first, undeclared-line before space line value said spaces apart.1 fresh.1)

pub record LeavesDeclared (all : List Space) (before lines : List (List ℕ)) : Type 0 where
  pub leaves : Leaves all before lines
  pub pairless : (name : List ℕ) → has_already all leaves.after name ≡ false

pub declarations-pass : (all spaces : List Space) (before : List (List ℕ)) → text_size before ≡ 0 → takes_attribute before ≡ true → length (open_elements before) ≡ 1
    → AreSpaces spaces → AreUndeclared before spaces → ((name : List ℕ) → has_already all before name ≡ false) → LeavesDeclared all before (map declaration_line spaces)
unfolding leaves-none leaves-line
declarations-pass all [] before size takes outermost good fresh pairless = record { leaves = leaves-none all before size takes; pairless = pairless }
declarations-pass all (space ∷ spaces) before size takes outermost good fresh pairless =
    let name : List ℕ = declaring_name space.prefix in
    let value : List ℕ = written_text (chars space.uri) in
    let line : List ℕ = declaration_line space in
    let said : tag_of line ≡ Some (tag.Attribute name value) = tag_of-attribute name value (is_name-declaring space.prefix space.uri good.0) in
    let passed = line_fault-declaration all before space good.0 good.1 good.2 takes outermost fresh.0 in
    let still : length (open_elements (line ∷ before)) ≡ 1 = ap (λ t. length (opened (length before) t (open_elements before))) said ∙ outermost in
    let none : (other : List ℕ) → has_already all (line ∷ before) other ≡ false =
    λ other. has_already-line all before line name value other said (and_left (not (is_declaration name)) _ (not_from_true (is_declaration name) (is_declaration-declaring space.prefix))) (pairless other) in
    let rest = declarations-pass all spaces (line ∷ before) (ap (λ t. size_behind t (text_size before)) said) (ap takes_attribute_behind said) still good.4 (undeclared-line before space line value said spaces good.3 fresh.1) none in
    record { leaves = leaves-line all before line name value (map declaration_line spaces) said passed rest.leaves; pairless = rest.pairless }

-- the declarations and then the attributes of an outermost element
pub leaves-both : (spaces : List Space) (before one other : List (List ℕ)) (first : Leaves spaces before one) → Leaves spaces first.after other → Leaves spaces before (one ++ other)
leaves-both spaces before one other first rest =
    record {
      after = rest.after;
      passed = λ more. ap (fault_behind spaces before) (append_assoc one other more) ∙ first.passed (other ++ more) ∙ rest.passed more;
      opens = rest.opens ∙ first.opens;
      begun = rest.begun ∙ first.begun;
      nodes = rest.nodes ∙ first.nodes;
      size = rest.size;
      takes = rest.takes;
    }

pub fresh-all : (names : List NameParts) (spaces : List Space) (before : List (List ℕ)) → ((name : List ℕ) → has_already spaces before name ≡ false) → (pairs : List AttrPair) → AreFresh names spaces before pairs
fresh-all names spaces before none [] = tt
fresh-all names spaces before none (pair ∷ pairs) = (none (spelling_of names pair.name), fresh-all names spaces before none pairs)

pub undeclared-all : (before : List (List ℕ)) → ((name : List ℕ) → declares_already before name ≡ false) → (spaces : List Space) → AreUndeclared before spaces
undeclared-all before none [] = tt
undeclared-all before none (space ∷ spaces) = (none (declaring_name space.prefix), undeclared-all before none spaces)
