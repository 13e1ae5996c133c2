-- The elements within the outermost one declare no namespace, where no line breaks a rule.
use Rattle.std.proofs.Common.{◌≡◌, ℕ, ◌+◌, ◌≤◌, Bool, true, false, List, [], ◌∷◌, ◌++◌, None, map, length, refl, sym, ap, ◌∙◌, arith, append_assoc, true≢false}
use Rattle.std.specs.Prelude.{◌==◌, ◌&&◌, not, nat_lt, is_some, IsTrue, if◌then◌else◌}
use Rattle.std.specs.List.{AllByRecursion}
use Rattle.std.proofs.lemmas.Bool.{not-false, ne_eqb}
use Rattle.serna_kinds.specs.Names.{Space}
use Rattle.serna_kinds.specs.Qualified.{prefix_of, is_name, attribute_uri}
use Rattle.tree_lines.specs.declared.rules.LineRule.{LineRule}
use Rattle.tree_lines.specs.declared.rules.LineRule.TheVariants as rule
use Rattle.tree_lines.specs.Texts.{has_escapes, meant, size_of}
use Rattle.tree_lines.specs.Tags.{is_declaration, declared_prefix}
use Rattle.tree_lines.specs.Before.{opened, without_innermost, open_elements, takes_attribute}
use Rattle.tree_lines.specs.LeftOpen.{declares_already, has_already, left_open}
use Rattle.tree_lines.specs.Faults.{first_broken, is_nothing, declaration_fault, inner_declaration_fault, pair_fault, attribute_fault, said_fault, fault_behind}
use Rattle.tree_lines.specs.Written.{Written, Attribute, attribute_bytes, written_lines}
use Rattle.tree_lines.specs.Written as written
use Rattle.tree_lines.specs.Documents.{AreComments, AreParted}
use Rattle.tree_lines.proofs.LineFacts.{first-kept, fault_behind-parts, line_fault-parts}
use Rattle.tree_lines.proofs.Parts.{tag_of-attribute}

-- an attribute's line begins with these rules, whatever follows
escapes-kept : (before : List (List ℕ)) (name value : List ℕ) (more : List (Bool × LineRule))
    → first_broken ((not (takes_attribute before), rule.BadLine) ∷ (not (is_name name), rule.BadName) ∷ (not (has_escapes value), rule.BadEscape) ∷ more) ≡ None
    → (has_escapes value ≡ true) × (first_broken more ≡ None)
escapes-kept before name value more h =
    let third : List (Bool × LineRule) = (not (has_escapes value), rule.BadEscape) ∷ more in
    let second : List (Bool × LineRule) = (not (is_name name), rule.BadName) ∷ third in
    let one = first-kept (not (takes_attribute before)) rule.BadLine second h in
    let two = first-kept (not (is_name name)) rule.BadName third one.1 in
    let three = first-kept (not (has_escapes value)) rule.BadEscape more two.1 in
    (not-false (has_escapes value) three.0, three.1)

abbrev declaration_rules : List (List ℕ) → List ℕ → List ℕ → List (Bool × LineRule)
declaration_rules before name value =
    (declares_already before name, rule.DuplicateAttribute) ∷ (not (is_nothing (declared_prefix name)) && is_nothing value, rule.UnboundPrefix) ∷ []

abbrev pair_rules : List Space → List (List ℕ) → List ℕ → List ℕ → List (Bool × LineRule)
pair_rules spaces before name value =
    (has_already spaces before name, rule.DuplicateAttribute) ∷ (nat_lt 16384 (size_of (meant value)), rule.TextTooLong)
    ∷ (not (is_some (attribute_uri spaces (prefix_of name))), rule.UnboundPrefix) ∷ []

escapes-by : (spaces : List Space) (before : List (List ℕ)) (name value : List ℕ) (declares outermost : Bool)
    → (if declares then (if outermost then declaration_fault (left_open spaces before) name value else inner_declaration_fault (left_open spaces before) name value) else pair_fault (left_open spaces before) name value) ≡ None
    → has_escapes value ≡ true
escapes-by spaces before name value true true h = (escapes-kept before name value (declaration_rules before name value) h).0
escapes-by spaces before name value true false h = (escapes-kept before name value ((true, rule.InnerNamespace) ∷ []) h).0
escapes-by spaces before name value false outermost h = (escapes-kept before name value (pair_rules spaces before name value) h).0

pub pair-escapes : (spaces : List Space) (before : List (List ℕ)) (name value : List ℕ) → attribute_fault (left_open spaces before) name value ≡ None → has_escapes value ≡ true
pair-escapes spaces before name value h =
    escapes-by spaces before name value (is_declaration name) (length (open_elements before) == 1) h

pair-by : (spaces : List Space) (before : List (List ℕ)) (name value : List ℕ) (declares : Bool) → is_declaration name ≡ declares
    → (if declares then inner_declaration_fault (left_open spaces before) name value else pair_fault (left_open spaces before) name value) ≡ None → is_declaration name ≡ false
pair-by spaces before name value false e h = e
pair-by spaces before name value true e h =
    let more : List (Bool × LineRule) = (true, rule.InnerNamespace) ∷ [] in
    absurd (true≢false (first-kept true rule.InnerNamespace [] (escapes-kept before name value more h).1).0)

inner-pair : (spaces : List Space) (before : List (List ℕ)) (name value : List ℕ) → 2 ≤ length (open_elements before) → attribute_fault (left_open spaces before) name value ≡ None → is_declaration name ≡ false
inner-pair spaces before name value deep h =
    let inner : (length (open_elements before) == 1) ≡ false = ne_eqb (length (open_elements before)) 1 (λ (e : length (open_elements before) ≡ 1). omega (arith, deep, e)) in
    pair-by spaces before name value (is_declaration name) refl
    (sym (ap (λ b. if is_declaration name then (if b then declaration_fault (left_open spaces before) name value else inner_declaration_fault (left_open spaces before) name value) else pair_fault (left_open spaces before) name value) inner) ∙ h)

-- further lines, the nearest first
abbrev past : List (List ℕ) → List (List ℕ) → List (List ℕ)
past [] before = before
past (line ∷ lines) before = past lines (line ∷ before)

past-append : (xs ys before : List (List ℕ)) → past (xs ++ ys) before ≡ past ys (past xs before)
past-append [] ys before = refl
past-append (x ∷ xs) ys before = past-append xs ys (x ∷ before)

none-past : (spaces : List Space) (lines more before : List (List ℕ)) → fault_behind spaces before (lines ++ more) ≡ None → fault_behind spaces (past lines before) more ≡ None
none-past spaces [] more before h = h
none-past spaces (line ∷ lines) more before h = none-past spaces lines more (line ∷ before) (fault_behind-parts spaces before line (lines ++ more) h).1

abbrev pub AreNamed : List Attribute → Type 0
AreNamed attributes = AllByRecursion (λ (attribute : Attribute). IsTrue (is_name attribute.name)) attributes

opens-attributes : (attributes : List Attribute) (before : List (List ℕ)) → AreNamed attributes → open_elements (past (map attribute_bytes attributes) before) ≡ open_elements before
opens-attributes [] before named = refl
opens-attributes (a ∷ attributes) before named =
    opens-attributes attributes (attribute_bytes a ∷ before) named.1
    ∙ ap (λ t. opened (length before) t (open_elements before)) (tag_of-attribute a.name a.value named.0)

opens-past : (w : Written) (before : List (List ℕ)) → AreParted w → open_elements (past (written_lines w) before) ≡ open_elements before
opens-past written.end before named = refl
opens-past (written.text t rest) before named = opens-past rest ((45 ∷ t) ∷ before) named
opens-past (written.comment t rest) before named = opens-past rest ((67 ∷ t) ∷ before) named
opens-past (written.element name attributes content rest) before named =
    let begun : List (List ℕ) = (40 ∷ name) ∷ before in
    let attributed : List (List ℕ) = past (map attribute_bytes attributes) begun in
    let filled : List (List ℕ) = past (written_lines content) attributed in
    let behind : List (List ℕ) = (41 ∷ name) ∷ written_lines rest in
    let whole : past (written_lines (written.element name attributes content rest)) before ≡ past (written_lines rest) ((41 ∷ name) ∷ filled) =
    past-append (map attribute_bytes attributes) (written_lines content ++ behind) begun ∙ past-append (written_lines content) behind attributed in
    let inside : open_elements filled ≡ open_elements begun = opens-past content attributed named.1 ∙ opens-attributes attributes begun named.0 in
    ap open_elements whole ∙ opens-past rest ((41 ∷ name) ∷ filled) named.2 ∙ ap without_innermost inside

abbrev pub DeclareNone : List Attribute → Type 0
DeclareNone attributes = AllByRecursion (λ (attribute : Attribute). is_declaration attribute.name ≡ false) attributes

abbrev pub AreInner : Written → Type 0
AreInner written.end = Unit {0}
AreInner (written.text t rest) = AreInner rest
AreInner (written.comment t rest) = AreInner rest
AreInner (written.element name attributes content rest) = DeclareNone attributes × AreInner content × AreInner rest

attributes-inner : (spaces : List Space) (attributes : List Attribute) (before more : List (List ℕ)) → AreNamed attributes → 2 ≤ length (open_elements before)
    → fault_behind spaces before (map attribute_bytes attributes ++ more) ≡ None → DeclareNone attributes
attributes-inner spaces [] before more named deep h = tt
attributes-inner spaces (a ∷ attributes) before more named deep h =
    let said = tag_of-attribute a.name a.value named.0 in
    let both = fault_behind-parts spaces before (attribute_bytes a) (map attribute_bytes attributes ++ more) h in
    let kept : attribute_fault (left_open spaces before) a.name a.value ≡ None = sym (ap (said_fault (left_open spaces before)) said) ∙ (line_fault-parts spaces before (attribute_bytes a) both.0).1 in
    let still : length (open_elements (attribute_bytes a ∷ before)) ≡ length (open_elements before) = ap (λ t. length (opened (length before) t (open_elements before))) said in
    (inner-pair spaces before a.name a.value deep kept, attributes-inner spaces attributes (attribute_bytes a ∷ before) more named.1 (omega (arith, deep, still)) both.1)

regrouped : (one other more : List (List ℕ)) (ends : List ℕ) (rest : List (List ℕ)) → (one ++ (other ++ (ends ∷ rest))) ++ more ≡ one ++ (other ++ (ends ∷ (rest ++ more)))
regrouped one other more ends rest = append_assoc one (other ++ (ends ∷ rest)) more ∙ ap (λ (x : List (List ℕ)). one ++ x) (append_assoc other (ends ∷ rest) more)

are_inner : (spaces : List Space) (w : Written) (before more : List (List ℕ)) → AreParted w → 1 ≤ length (open_elements before)
    → fault_behind spaces before (written_lines w ++ more) ≡ None → AreInner w
are_inner spaces written.end before more named deep h = tt
are_inner spaces (written.text t rest) before more named deep h = are_inner spaces rest ((45 ∷ t) ∷ before) more named deep (fault_behind-parts spaces before (45 ∷ t) (written_lines rest ++ more) h).1
are_inner spaces (written.comment t rest) before more named deep h = are_inner spaces rest ((67 ∷ t) ∷ before) more named deep (fault_behind-parts spaces before (67 ∷ t) (written_lines rest ++ more) h).1
are_inner spaces (written.element name attributes content rest) before more named deep h =
    let begun : List (List ℕ) = (40 ∷ name) ∷ before in
    let attributed : List (List ℕ) = past (map attribute_bytes attributes) begun in
    let filled : List (List ℕ) = past (written_lines content) attributed in
    let behind : List (List ℕ) = (41 ∷ name) ∷ (written_lines rest ++ more) in
    let lines = regrouped (map attribute_bytes attributes) (written_lines content) more (41 ∷ name) (written_lines rest) in
    let one : fault_behind spaces begun (map attribute_bytes attributes ++ (written_lines content ++ behind)) ≡ None =
    ap (fault_behind spaces begun) (sym lines) ∙ (fault_behind-parts spaces before (40 ∷ name) _ h).1 in
    let two = none-past spaces (map attribute_bytes attributes) (written_lines content ++ behind) begun one in
    let three = none-past spaces (written_lines content) behind attributed two in
    let opens : open_elements attributed ≡ open_elements begun = opens-attributes attributes begun named.0 in
    let depth : length (open_elements begun) ≡ 1 + length (open_elements before) = omega arith in
    let inside : length (open_elements attributed) ≡ 1 + length (open_elements before) = ap length opens ∙ depth in
    let outside : length (open_elements ((41 ∷ name) ∷ filled)) ≡ length (open_elements before) = ap (λ o. length (without_innermost o)) (opens-past content attributed named.1 ∙ opens) in (
      attributes-inner spaces attributes begun (written_lines content ++ behind) named.0 (omega (arith, deep, depth)) one,
      are_inner spaces content attributed behind named.1 (omega (arith, deep, inside)) two,
      are_inner spaces rest ((41 ∷ name) ∷ filled) more named.2 (omega (arith, deep, outside)) (fault_behind-parts spaces filled (41 ∷ name) (written_lines rest ++ more) three).1,
    )

-- the outermost element, with comments beside it
pub comments-inner : (w : Written) → AreComments w → AreInner w
comments-inner written.end h = tt
comments-inner (written.text t rest) h = absurd h
comments-inner (written.comment t rest) h = comments-inner rest h
comments-inner (written.element name attributes content rest) h = absurd h

abbrev pub IsInside : Written → Type 0
IsInside written.end = Unit {0}
IsInside (written.text t rest) = Unit {0}
IsInside (written.comment t rest) = IsInside rest
IsInside (written.element name attributes content rest) = AreInner content

pub is_inside : (spaces : List Space) (w : Written) (before : List (List ℕ)) → AreParted w → fault_behind spaces before (written_lines w) ≡ None → IsInside w
is_inside spaces written.end before named h = tt
is_inside spaces (written.text t rest) before named h = tt
is_inside spaces (written.comment t rest) before named h = is_inside spaces rest ((67 ∷ t) ∷ before) named (fault_behind-parts spaces before (67 ∷ t) (written_lines rest) h).1
is_inside spaces (written.element name attributes content rest) before named h =
    let begun : List (List ℕ) = (40 ∷ name) ∷ before in
    let behind : List (List ℕ) = (41 ∷ name) ∷ written_lines rest in
    let one = (fault_behind-parts spaces before (40 ∷ name) (map attribute_bytes attributes ++ (written_lines content ++ behind)) h).1 in
    let depth : length (open_elements (past (map attribute_bytes attributes) begun)) ≡ length (open_elements begun) = ap length (opens-attributes attributes begun named.0) in
    let begins : length (open_elements begun) ≡ 1 + length (open_elements before) = omega arith in
    are_inner spaces content (past (map attribute_bytes attributes) begun) behind named.1 (omega (arith, depth, begins))
    (none-past spaces (map attribute_bytes attributes) (written_lines content ++ behind) begun one)
