-- Lines as they are written break no rule, behind lines that let them stand there.
use Rattle.std.proofs.Common.{◌≡◌, ◌≢◌, ℕ, ◌+◌, ◌<◌, Bool, true, false, List, [], ◌∷◌, ◌++◌, Option, Some, None, length, refl, sym, ap, ◌∙◌, arith, encode_utf8_all}
use Rattle.std.specs.Prelude.{◌==◌, ◌&&◌, not, nat_le, nat_lt, is_some, if◌then◌else◌}
use Rattle.std.specs.Str.{chars, is_utf8}
use Rattle.std.proofs.lemmas.Bool.{lt-leb, le-ltb, lt-ltb, eq-eqb, and_from, and_right, not_from_true}
use Rattle.std.proofs.lemmas.Str.{chars-nil, encodes-chars, encodes_same, IsUtf8-from_is_utf8}
use Rattle.serna_kinds.specs.Names.{Space}
use Rattle.serna_kinds.specs.Qualified.{prefix_of, is_name, element_uri, attribute_uri}
use Rattle.tree_lines.specs.declared.rules.LineRule.{LineRule}
use Rattle.tree_lines.specs.declared.rules.LineRule.TheVariants as rule
use Rattle.tree_lines.specs.Texts.{is_line, meant, unescaped_behind, size_of}
use Rattle.tree_lines.specs.Tags.{Tag, tag_of, is_declaration, declared_prefix}
use Rattle.tree_lines.specs.Tags as tag
use Rattle.tree_lines.specs.Before.{open_elements, has_element, takes_attribute, text_size, begins_text, node_count}
use Rattle.tree_lines.specs.LeftOpen.{declares_already, has_already, left_open}
use Rattle.tree_lines.specs.Faults.{is_nothing, is_innermost, tag_fault, said_fault, line_fault, declaration_fault, inner_declaration_fault, pair_fault}
use Rattle.tree_lines.specs.Given.{IsShort}
use Rattle.tree_lines.specs.Canonical.{declaring_name, text_line, comment_line, declaration_line}
use Rattle.tree_lines.specs.Writable.{IsText, IsPrefix}
use Rattle.tree_lines.proofs.WrittenTexts.{written_text, has_escapes-written, meant-written, is_line-written}
use Rattle.tree_lines.proofs.Parts.{tag_of-attribute}
use Rattle.tree_lines.proofs.WrittenNames.{is_name-declaring, is_declaration-declaring, is_line-declaring, is_line-begin, is_line-finish, is_line-text, is_line-comment, is_line-attribute}

-- a rule that is kept
kept : {broken : Bool} {later : Option LineRule} (at : LineRule) → broken ≡ false → later ≡ None → (if broken then Some at else later) ≡ None
kept {later = later} at e h = ap (λ b. if b then Some at else later) e ∙ h

line_fault-said : (spaces : List Space) (before : List (List ℕ)) (line : List ℕ) (t : Tag) → is_line line ≡ true → tag_of line ≡ Some t
    → tag_fault (left_open spaces before) t ≡ None → line_fault (left_open spaces before) line ≡ None
line_fault-said spaces before line t good said h =
    ap (λ b. if b then said_fault (left_open spaces before) (tag_of line) else Some rule.BadLine) good ∙ ap (said_fault (left_open spaces before)) said ∙ h

pub line_fault-begin : (spaces : List Space) (before : List (List ℕ)) (name : List ℕ) → is_name name ≡ true → is_line name ≡ true
    → (has_element before && is_nothing (open_elements before)) ≡ false → length (open_elements before) < 120 → node_count before < 1000000
    → is_some (element_uri spaces (prefix_of name)) ≡ true → line_fault (left_open spaces before) (40 ∷ name) ≡ None
line_fault-begin spaces before name named good one shallow few bound =
    line_fault-said spaces before (40 ∷ name) (tag.Begin name) (is_line-begin name good) refl
    (kept rule.BadName (not_from_true (is_name name) named)
    (kept rule.TwoRoots one
    (kept rule.TooDeep (lt-leb 120 (length (open_elements before)) shallow)
    (kept rule.TooManyNodes (lt-leb 1000000 (node_count before) few) (kept rule.UnboundPrefix (not_from_true (is_some (element_uri spaces (prefix_of name))) bound) refl)))))

pub line_fault-finish : (spaces : List Space) (before : List (List ℕ)) (name : List ℕ) → is_name name ≡ true → is_line name ≡ true
    → is_innermost (open_elements before) name ≡ true → line_fault (left_open spaces before) (41 ∷ name) ≡ None
line_fault-finish spaces before name named good innermost =
    line_fault-said spaces before (41 ∷ name) (tag.Finish name) (is_line-finish name good) refl
    (kept rule.BadName (not_from_true (is_name name) named) (kept rule.WrongClose (not_from_true (is_innermost (open_elements before) name) innermost) refl))

pub line_fault-comment : (spaces : List Space) (before : List (List ℕ)) (t : List ℕ) → IsText t → node_count before < 1000000 → line_fault (left_open spaces before) (comment_line t) ≡ None
line_fault-comment spaces before t good few =
    line_fault-said spaces before (comment_line t) (tag.Comment (written_text t)) (is_line-comment (written_text t) (is_line-written t good)) refl
    (kept rule.BadEscape (not_from_true _ (has_escapes-written t good)) (kept rule.TooManyNodes (lt-leb 1000000 (node_count before) few) refl))

size_of-written : (t : List ℕ) → IsText t → size_of (meant (written_text t)) ≡ size_of t
size_of-written t good = ap size_of (meant-written t good)

pub line_fault-text : (spaces : List Space) (before : List (List ℕ)) (t : List ℕ) → IsText t → IsShort t → is_nothing (open_elements before) ≡ false
    → text_size before ≡ 0 → node_count before < 1000000 → line_fault (left_open spaces before) (text_line t) ≡ None
line_fault-text spaces before t good short inside first few =
    line_fault-said spaces before (text_line t) (tag.Text (written_text t)) (is_line-text (written_text t) (is_line-written t good)) refl
    (kept rule.BadLine inside
    (kept rule.BadEscape (not_from_true _ (has_escapes-written t good))
    (kept rule.TooManyNodes (and_right (begins_text (text_size before) (written_text t)) (nat_le 1000000 (node_count before)) (lt-leb 1000000 (node_count before) few))
    (kept rule.TextTooLong (le-ltb 16384 (text_size before + size_of (meant (written_text t))) (omega (arith, first, short, size_of-written t good))) refl))))

-- a text with characters begins at such a line
some_length : (bytes : List ℕ) → (bytes ≢ []) → nat_lt 0 (length bytes) ≡ true
some_length [] some = absurd (some refl)
some_length (b ∷ bs) some = lt-ltb 0 (length (b ∷ bs)) (omega arith)

pub begins_text-written : (size : ℕ) (t : List ℕ) → size ≡ 0 → IsText t → (t ≢ []) → begins_text size (written_text t) ≡ true
begins_text-written size t first good some =
    let bytes : encode_utf8_all t ≢ [] = λ (e : encode_utf8_all t ≡ []). some (encodes_same t [] e) in
    and_from (size == 0) (nat_lt 0 (size_of (meant (written_text t)))) (eq-eqb size 0 first) (ap (nat_lt 0) (size_of-written t good) ∙ some_length (encode_utf8_all t) bytes)

-- an attribute that declares no namespace
pub line_fault-pair : (spaces : List Space) (before : List (List ℕ)) (name t : List ℕ) → is_name name ≡ true → is_line name ≡ true → is_declaration name ≡ false
    → is_some (attribute_uri spaces (prefix_of name)) ≡ true → IsText t → IsShort t → takes_attribute before ≡ true → has_already spaces before name ≡ false
    → line_fault (left_open spaces before) (65 ∷ (name ++ 32 ∷ written_text t)) ≡ None
line_fault-pair spaces before name t named good pair bound text short takes fresh =
    let value : List ℕ = written_text t in
    line_fault-said spaces before (65 ∷ (name ++ 32 ∷ value)) (tag.Attribute name value) (is_line-attribute name value good (is_line-written t text)) (tag_of-attribute name value named)
    (ap (λ b. if b then (if length (open_elements before) == 1 then declaration_fault (left_open spaces before) name value else inner_declaration_fault (left_open spaces before) name value) else pair_fault (left_open spaces before) name value) pair
    ∙ kept rule.BadLine (not_from_true (takes_attribute before) takes)
    (kept rule.BadName (not_from_true (is_name name) named)
    (kept rule.BadEscape (not_from_true _ (has_escapes-written t text))
    (kept rule.DuplicateAttribute fresh
    (kept rule.TextTooLong (le-ltb 16384 (size_of (meant value)) (omega (arith, short, size_of-written t text)))
    (kept rule.UnboundPrefix (not_from_true (is_some (attribute_uri spaces (prefix_of name))) bound) refl))))))

-- a prefix has a URI
some_bytes : (bytes : List ℕ) → (bytes ≢ []) → is_nothing bytes ≡ false
some_bytes [] some = absurd (some refl)
some_bytes (b ∷ bs) some = refl

some_uri : (uri : List ℕ) → is_utf8 uri ≡ true → IsText (chars uri) → (uri ≢ []) → (written_text (chars uri) ≢ [])
some_uri uri utf8 good some = λ (e : written_text (chars uri) ≡ []).
    let none : meant [] ≡ [] = ap (unescaped_behind false) chars-nil in
    let empty : chars uri ≡ [] = sym (meant-written (chars uri) good) ∙ ap meant e ∙ none in
    some (sym (encodes-chars uri (IsUtf8-from_is_utf8 uri utf8)) ∙ ap encode_utf8_all empty)

bound_prefix : (prefix uri : List ℕ) → IsPrefix prefix uri → is_utf8 uri ≡ true → IsText (chars uri)
    → (not (is_nothing (declared_prefix (declaring_name prefix))) && is_nothing (written_text (chars uri))) ≡ false
bound_prefix [] uri h utf8 good = refl
bound_prefix (b ∷ bs) uri h utf8 good =
    and_right (not (is_nothing (declared_prefix (declaring_name (b ∷ bs))))) (is_nothing (written_text (chars uri)))
    (some_bytes (written_text (chars uri)) (some_uri uri utf8 good h.1))

pub line_fault-declaration : (spaces : List Space) (before : List (List ℕ)) (space : Space) → IsPrefix space.prefix space.uri → is_utf8 space.uri ≡ true → IsText (chars space.uri)
    → takes_attribute before ≡ true → length (open_elements before) ≡ 1 → declares_already before (declaring_name space.prefix) ≡ false
    → line_fault (left_open spaces before) (declaration_line space) ≡ None
line_fault-declaration spaces before space prefix utf8 text takes outermost fresh =
    let name : List ℕ = declaring_name space.prefix in
    let value : List ℕ = written_text (chars space.uri) in
    let named : is_name name ≡ true = is_name-declaring space.prefix space.uri prefix in
    let own : (length (open_elements before) == 1) ≡ true = eq-eqb (length (open_elements before)) 1 outermost in
    line_fault-said spaces before (declaration_line space) (tag.Attribute name value)
    (is_line-attribute name value (is_line-declaring space.prefix space.uri prefix) (is_line-written (chars space.uri) text)) (tag_of-attribute name value named)
    (ap (λ b. if b then (if length (open_elements before) == 1 then declaration_fault (left_open spaces before) name value else inner_declaration_fault (left_open spaces before) name value) else pair_fault (left_open spaces before) name value)
    (is_declaration-declaring space.prefix)
    ∙ ap (λ b. if b then declaration_fault (left_open spaces before) name value else inner_declaration_fault (left_open spaces before) name value) own
    ∙ kept rule.BadLine (not_from_true (takes_attribute before) takes)
    (kept rule.BadName (not_from_true (is_name name) named)
    (kept rule.BadEscape (not_from_true _ (has_escapes-written (chars space.uri) text)) (kept rule.DuplicateAttribute fresh (kept rule.UnboundPrefix (bound_prefix space.prefix space.uri prefix utf8 text) refl)))))
