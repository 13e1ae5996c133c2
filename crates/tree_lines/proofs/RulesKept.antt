-- What is known of a line that breaks no rule.
use Rattle.std.proofs.Common.{◌≡◌, ℕ, ◌+◌, ◌<◌, ◌≤◌, Bool, true, false, List, [], ◌∷◌, None, length, refl, sym, ap, ◌∙◌}
use Rattle.std.specs.Prelude.{◌&&◌, ◌==◌, not, nat_le, is_some, IsTrue, if◌then◌else◌}
use Rattle.std.proofs.lemmas.Bool.{true≢false, not-false, ltb-false, leb-false}
use Rattle.serna_kinds.specs.Names.{Space}
use Rattle.serna_kinds.specs.Qualified.{prefix_of, is_name, attribute_uri}
use Rattle.tree_lines.specs.declared.rules.LineRule.TheVariants as rule
use Rattle.tree_lines.specs.Texts.{has_escapes, meant, size_of}
use Rattle.tree_lines.specs.Tags.{is_declaration, declared_prefix}
use Rattle.tree_lines.specs.Before.{open_elements, has_element, takes_attribute, text_size, begins_text, node_count}
use Rattle.tree_lines.specs.LeftOpen.{declares_already, has_already, left_open}
use Rattle.tree_lines.proofs.LineFacts.{first_broken-kept}
use Rattle.tree_lines.specs.Faults.{is_nothing, is_innermost, begin_fault, text_fault, comment_fault, finish_fault, declaration_fault, inner_declaration_fault, pair_fault, attribute_fault}

-- by the kind of the line
pub record BeginKept (before : List (List ℕ)) : Type 0 where
  pub one : (has_element before && is_nothing (open_elements before)) ≡ false
  pub shallow : length (open_elements before) < 120
  pub few : node_count before < 1000000

pub begin-none : (spaces : List Space) (before : List (List ℕ)) (name : List ℕ) → begin_fault (left_open spaces before) name ≡ None → BeginKept before
begin-none spaces before name e =
    let all = first_broken-kept ((_, _) ∷ (_, _) ∷ (_, _) ∷ (_, _) ∷ (_, _) ∷ []) e in
    record { one = all.1.0; shallow = leb-false 120 (length (open_elements before)) all.1.1.0; few = leb-false 1000000 (node_count before) all.1.1.1.0 }

pub record TextKept (before : List (List ℕ)) (t : List ℕ) : Type 0 where
  pub inside : is_nothing (open_elements before) ≡ false
  pub few : begins_text (text_size before) t ≡ true → node_count before < 1000000
  pub short : text_size before + size_of (meant t) ≤ 16384

pub text-none : (spaces : List Space) (before : List (List ℕ)) (t : List ℕ) → text_fault (left_open spaces before) t ≡ None → TextKept before t
text-none spaces before t e =
    let all = first_broken-kept ((_, _) ∷ (_, _) ∷ (_, _) ∷ (_, _) ∷ []) e in
    record {
      inside = all.0;
      few = λ (begins : begins_text (text_size before) t ≡ true). leb-false 1000000 (node_count before) (sym (ap (λ b. b && nat_le 1000000 (node_count before)) begins) ∙ all.1.1.0);
      short = ltb-false 16384 (text_size before + size_of (meant t)) all.1.1.1.0;
    }

pub comment-none : (spaces : List Space) (before : List (List ℕ)) (t : List ℕ) → comment_fault (left_open spaces before) t ≡ None → node_count before < 1000000
comment-none spaces before t e =
    let all = first_broken-kept ((_, _) ∷ (_, _) ∷ []) e in
    leb-false 1000000 (node_count before) all.1.0

pub finish-none : (spaces : List Space) (before : List (List ℕ)) (name : List ℕ) → finish_fault (left_open spaces before) name ≡ None → is_innermost (open_elements before) name ≡ true
finish-none spaces before name e =
    let all = first_broken-kept ((_, _) ∷ (_, _) ∷ []) e in
    not-false (is_innermost (open_elements before) name) all.1.0

-- an attribute stands behind an element's beginning or another attribute, and has a name; one that declares no namespace is short
pub record AttributeKept (before : List (List ℕ)) (name value : List ℕ) : Type 0 where
  pub placed : takes_attribute before ≡ true
  pub named : IsTrue (is_name name)
  pub short : is_declaration name ≡ false → size_of (meant value) ≤ 16384

declaration_kept : (spaces : List Space) (before : List (List ℕ)) (name value : List ℕ) → is_declaration name ≡ true → declaration_fault (left_open spaces before) name value ≡ None → AttributeKept before name value
declaration_kept spaces before name value declares e =
    let all = first_broken-kept ((_, _) ∷ (_, _) ∷ (not (has_escapes value), rule.BadEscape) ∷ (declares_already before name, rule.DuplicateAttribute) ∷ (not (is_nothing (declared_prefix name)) && is_nothing value, rule.UnboundPrefix) ∷ []) e in
    record { placed = not-false (takes_attribute before) all.0; named = not-false (is_name name) all.1.0; short = λ other. absurd (true≢false (sym declares ∙ other)) }

inner_kept : (spaces : List Space) (before : List (List ℕ)) (name value : List ℕ) → is_declaration name ≡ true → inner_declaration_fault (left_open spaces before) name value ≡ None → AttributeKept before name value
inner_kept spaces before name value declares e =
    let all = first_broken-kept ((_, _) ∷ (_, _) ∷ (_, _) ∷ (true, rule.InnerNamespace) ∷ []) e in
    record { placed = not-false (takes_attribute before) all.0; named = not-false (is_name name) all.1.0; short = λ other. absurd (true≢false (sym declares ∙ other)) }

pair_kept : (spaces : List Space) (before : List (List ℕ)) (name value : List ℕ) → pair_fault (left_open spaces before) name value ≡ None → AttributeKept before name value
pair_kept spaces before name value e =
    let all = first_broken-kept ((_, _) ∷ (_, _) ∷ (not (has_escapes value), rule.BadEscape) ∷ (has_already spaces before name, rule.DuplicateAttribute) ∷ (_, rule.TextTooLong) ∷ (not (is_some (attribute_uri spaces (prefix_of name))), rule.UnboundPrefix) ∷ []) e in
    record { placed = not-false (takes_attribute before) all.0; named = not-false (is_name name) all.1.0; short = λ other. ltb-false 16384 (size_of (meant value)) all.1.1.1.1.0 }

pub attribute-none : (spaces : List Space) (before : List (List ℕ)) (name value : List ℕ) → attribute_fault (left_open spaces before) name value ≡ None → AttributeKept before name value
attribute-none spaces before name value e = by (is_declaration name) (length (open_elements before) == 1) refl e
  where
    by : (declares outermost : Bool) → is_declaration name ≡ declares
        → (if declares then (if outermost then declaration_fault (left_open spaces before) name value else inner_declaration_fault (left_open spaces before) name value) else pair_fault (left_open spaces before) name value) ≡ None
        → AttributeKept before name value
    by true true declares f = declaration_kept spaces before name value declares f
    by true false declares f = inner_kept spaces before name value declares f
    by false outermost declares f = pair_kept spaces before name value f
