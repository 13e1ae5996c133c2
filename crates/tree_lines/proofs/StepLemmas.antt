-- What a reader holds behind a line, over plain values.
use Rattle.std.proofs.Common.{◌≡◌, ℕ, ◌+◌, ◌<◌, ◌≤◌, Bool, true, false, not, ◌&&◌, List, [], ◌∷◌, ◌++◌, map, reverse, length, None, Some, refl, sym, ap, ◌∙◌, append-nil, arith, true≢false, ◌↔◌}
use Rattle.std.specs.Prelude.{is_some, nat_lt, nat_le, if◌then◌else◌, ◌==◌}
use Rattle.std.proofs.lemmas.Bool.{false≢true, not-false, leb-false, ltb-false}
use Rattle.std.proofs.lemmas.List.{length-reverse, length-map, nil_from_length}
use Rattle.std.proofs.lemmas.Str.{length-le-encodes}
use Rattle.serna_kinds.specs.Names.{NameParts}
use Rattle.tree_lines.specs.declared.rules.LineRule.{LineRule}
use Rattle.tree_lines.specs.declared.rules.LineRule.TheVariants as rule
use Rattle.tree_lines.specs.declared.tree.TreeItem.{TreeItem}
use Rattle.tree_lines.specs.Texts.{has_escapes, meant, size_of}
use Rattle.tree_lines.proofs.Characters.{size_of-append}
use Rattle.tree_lines.proofs.LineFacts.{first-kept}
use Rattle.serna_kinds.specs.Qualified.{prefix_of, is_name, attribute_uri}
use Rattle.tree_lines.specs.Tags.{is_declaration, declared_prefix}
use Rattle.tree_lines.specs.Tags as tag
use Rattle.tree_lines.specs.Faults.{first_broken, is_nothing, declaration_fault, inner_declaration_fault, pair_fault, attribute_fault, text_fault, comment_fault}
use Rattle.tree_lines.specs.Given.{pair_for}
use Rattle.tree_lines.specs.Tokens.{names_by, with_names}
use Rattle.tree_lines.specs.Keys.{Key, declaration_key, pair_key, key_of}
use Rattle.tree_lines.specs.Reading.{Reading, has_key, held, begins, text_nodes, text_item, ended_text, after_attribute}

-- whether nothing is open
nothing_from_true : {X Y : Type 0} (f : X → Y) (xs : List X) → xs ≡ [] → true ≡ is_nothing (reverse (map f xs))
nothing_from_true f xs e = sym (ap (λ l. is_nothing (reverse (map f l))) e)

nothing_by : {Y : Type 0} (ys : List Y) → (ys ≡ [] → ⊥) → false ≡ is_nothing ys
nothing_by [] some = absurd (some refl)
nothing_by (y ∷ ys) some = refl

none_open : {X Y : Type 0} (f : X → Y) (xs : List X) → reverse (map f xs) ≡ [] → xs ≡ []
none_open f xs e =
    let none : length xs ≡ 0 = sym (length-map xs f) ∙ sym (length-reverse (map f xs)) ∙ ap length e in
    nil_from_length xs none

pub is_nothing-opened : {X Y : Type 0} (f : X → Y) (xs : List X) (b : Bool) → ((b ≡ true) ↔ (xs ≡ [])) → b ≡ is_nothing (reverse (map f xs))
is_nothing-opened f xs true e = nothing_from_true f xs (e.0 refl)
is_nothing-opened f xs false e = nothing_by (reverse (map f xs)) (λ none. false≢true (e.1 (none_open f xs none)))

-- a text without bytes is empty
pub nothing-size : (t : List ℕ) → size_of t ≡ 0 → t ≡ []
nothing-size [] e = refl
nothing-size (c ∷ cs) e = absurd (omega (arith, length-le-encodes (c ∷ cs), e))

pub ended_text-nothing : (r : Reading) → size_of r.text ≡ 0 → r ≡ ended_text r
ended_text-nothing r none =
    let e = nothing-size r.text none in
    let text : ended_text r ≡ record r { items = r.items ++ []; text = [] } = ap (λ (t : List ℕ). record r { items = r.items ++ text_item t; text = [] }) e in
    let items : (let x : Reading = record r { items = r.items ++ []; text = [] } in x) ≡ record r { items = r.items; text = [] } =
    ap (λ (i : List TreeItem). record r { items = i; text = [] }) (append-nil r.items) in
    let back : (let x : Reading = record r { items = r.items; text = [] } in x) ≡ r = ap (λ (t : List ℕ). record r { items = r.items; text = t }) (sym e) in
    sym (text ∙ items ∙ back)

-- an attribute that breaks no rule has a new key
fourth : (b1 b2 b3 b4 : Bool) (x1 x2 x3 x4 : LineRule) (rest : List (Bool × LineRule)) → first_broken ((b1, x1) ∷ (b2, x2) ∷ (b3, x3) ∷ (b4, x4) ∷ rest) ≡ None → b4 ≡ false
fourth b1 b2 b3 b4 x1 x2 x3 x4 rest e =
    let one = first-kept b1 x1 ((b2, x2) ∷ (b3, x3) ∷ (b4, x4) ∷ rest) e in
    let two = first-kept b2 x2 ((b3, x3) ∷ (b4, x4) ∷ rest) one.1 in
    let three = first-kept b3 x3 ((b4, x4) ∷ rest) two.1 in
    (first-kept b4 x4 rest three.1).0

unbroken_declaration : (r : Reading) (name value : List ℕ) → declaration_fault (held r) name value ≡ None → has_key r (declaration_key name) ≡ false
unbroken_declaration r name value e =
    fourth (not (is_some r.begun)) (not (is_name name)) (not (has_escapes value)) (has_key r (declaration_key name)) rule.BadLine rule.BadName rule.BadEscape rule.DuplicateAttribute
    ((not (is_nothing (declared_prefix name)) && is_nothing value, rule.UnboundPrefix) ∷ []) e

unbroken_pair : (r : Reading) (name value : List ℕ) → pair_fault (held r) name value ≡ None → has_key r (pair_key name (attribute_uri r.spaces (prefix_of name))) ≡ false
unbroken_pair r name value e =
    fourth (not (is_some r.begun)) (not (is_name name)) (not (has_escapes value)) (has_key r (pair_key name (attribute_uri r.spaces (prefix_of name)))) rule.BadLine rule.BadName rule.BadEscape rule.DuplicateAttribute
    ((nat_lt 16384 (size_of (meant value)), rule.TextTooLong) ∷ (not (is_some (attribute_uri r.spaces (prefix_of name))), rule.UnboundPrefix) ∷ []) e

inner_never : (r : Reading) (name value : List ℕ) → inner_declaration_fault (held r) name value ≡ None → ⊥
inner_never r name value e =
    true≢false (fourth (not (is_some r.begun)) (not (is_name name)) (not (has_escapes value)) true rule.BadLine rule.BadName rule.BadEscape rule.InnerNamespace [] e)

pub has_key-unbroken : (r : Reading) (name value : List ℕ) → attribute_fault (held r) name value ≡ None → has_key r (key_of r.spaces name) ≡ false
has_key-unbroken r name value e = by (is_declaration name) (length r.opened == 1) e
  where
    by : (d o : Bool) → (if d then (if o then declaration_fault (held r) name value else inner_declaration_fault (held r) name value) else pair_fault (held r) name value) ≡ None
        → has_key r (if d then declaration_key name else pair_key name (attribute_uri r.spaces (prefix_of name))) ≡ false
    by true true f = unbroken_declaration r name value f
    by true false f = absurd (inner_never r name value f)
    by false o f = unbroken_pair r name value f

-- an attribute with its key
pub attribute_read : (names : List NameParts) (r s new : Reading) (k : Key) (name value : List ℕ) → s ≡ record r { keys = r.keys ++ k ∷ [] } → k ≡ key_of r.spaces name → new ≡ record s { pairs = s.pairs ++ pair_for names s.spaces name value } → new ≡ after_attribute names r name value
attribute_read names r s new k name value e f g =
    g
    ∙ ap (λ (x : Reading). record x { pairs = x.pairs ++ pair_for names x.spaces name value }) e
    ∙ ap (λ (x : Key). record r { pairs = r.pairs ++ pair_for names r.spaces name value; keys = r.keys ++ x ∷ [] }) f

pub attribute_names-read : (names : List NameParts) (r s : Reading) (k : Key) (name value : List ℕ) → s ≡ record r { keys = r.keys ++ k ∷ [] } → with_names names (names_by s.spaces (Some (tag.Attribute name value))) ≡ with_names names (names_by r.spaces (Some (tag.Attribute name value)))
attribute_names-read names r s k name value e = ap (λ (x : Reading). with_names names (names_by x.spaces (Some (tag.Attribute name value)))) e

-- a text that breaks no rule has room
third : (b1 b2 b3 : Bool) (x1 x2 x3 : LineRule) (rest : List (Bool × LineRule)) → first_broken ((b1, x1) ∷ (b2, x2) ∷ (b3, x3) ∷ rest) ≡ None → b3 ≡ false
third b1 b2 b3 x1 x2 x3 rest e =
    let one = first-kept b1 x1 ((b2, x2) ∷ (b3, x3) ∷ rest) e in
    let two = first-kept b2 x2 ((b3, x3) ∷ rest) one.1 in
    (first-kept b3 x3 rest two.1).0

pub text_few : (r : Reading) (t more : List ℕ) → more ≡ meant t → text_fault (held r) t ≡ None → (begins r.text more && nat_le 1000000 r.nodes) ≡ false
text_few r t more e f =
    ap (λ (m : List ℕ). begins r.text m && nat_le 1000000 r.nodes) e
    ∙ third (is_nothing r.opened) (not (has_escapes t)) (begins r.text (meant t) && nat_le 1000000 r.nodes) rule.BadLine rule.BadEscape rule.TooManyNodes
    ((nat_lt 16384 (size_of r.text + size_of (meant t)), rule.TextTooLong) ∷ []) f

pub text_short : (r : Reading) (t more : List ℕ) → more ≡ meant t → text_fault (held r) t ≡ None → nat_lt 16384 (size_of r.text + size_of more) ≡ false
text_short r t more e f =
    ap (λ (m : List ℕ). nat_lt 16384 (size_of r.text + size_of m)) e
    ∙ fourth (is_nothing r.opened) (not (has_escapes t)) (begins r.text (meant t) && nat_le 1000000 r.nodes) (nat_lt 16384 (size_of r.text + size_of (meant t)))
    rule.BadLine rule.BadEscape rule.TooManyNodes rule.TextTooLong [] f

nodes_by : (b : Bool) (n : ℕ) → (b && nat_le 1000000 n) ≡ false → n ≤ 1000000 → n + (if b then 1 else 0) ≤ 1000000
nodes_by true n e le = let more = leb-false 1000000 n e in omega arith
nodes_by false n e le = omega arith

pub text_nodes-few : (text more : List ℕ) (n : ℕ) → (begins text more && nat_le 1000000 n) ≡ false → n ≤ 1000000 → n + text_nodes text more ≤ 1000000
text_nodes-few text more n e le = nodes_by (begins text more) n e le

pub text-short : (text more new : List ℕ) → nat_lt 16384 (size_of text + size_of more) ≡ false → new ≡ text ++ more → size_of new ≤ 16384
text-short text more new e n =
    let all : size_of new ≡ size_of text + size_of more = ap size_of n ∙ size_of-append text more in
    let le = ltb-false 16384 (size_of text + size_of more) e in
    omega arith

-- a comment that breaks no rule is not past the last node
pub comment_few : (r : Reading) (t : List ℕ) → comment_fault (held r) t ≡ None → r.nodes < 1000000
comment_few r t e =
    let one = first-kept (not (has_escapes t)) rule.BadEscape ((nat_le 1000000 r.nodes, rule.TooManyNodes) ∷ []) e in
    leb-false 1000000 r.nodes (first-kept (nat_le 1000000 r.nodes) rule.TooManyNodes [] one.1).0

-- and stands behind an element's beginning
declaration_begun : (r : Reading) (name value : List ℕ) → declaration_fault (held r) name value ≡ None → is_some r.begun ≡ true
declaration_begun r name value e =
    not-false (is_some r.begun) (first-kept (not (is_some r.begun)) rule.BadLine ((not (is_name name), rule.BadName) ∷ (not (has_escapes value), rule.BadEscape) ∷ (has_key r (declaration_key name), rule.DuplicateAttribute)
    ∷ (not (is_nothing (declared_prefix name)) && is_nothing value, rule.UnboundPrefix) ∷ []) e).0

pair_begun : (r : Reading) (name value : List ℕ) → pair_fault (held r) name value ≡ None → is_some r.begun ≡ true
pair_begun r name value e =
    not-false (is_some r.begun) (first-kept (not (is_some r.begun)) rule.BadLine ((not (is_name name), rule.BadName) ∷ (not (has_escapes value), rule.BadEscape) ∷ (has_key r (pair_key name (attribute_uri r.spaces (prefix_of name))), rule.DuplicateAttribute)
    ∷ (nat_lt 16384 (size_of (meant value)), rule.TextTooLong) ∷ (not (is_some (attribute_uri r.spaces (prefix_of name))), rule.UnboundPrefix) ∷ []) e).0

pub begun_some : (r : Reading) (name value : List ℕ) → attribute_fault (held r) name value ≡ None → is_some r.begun ≡ true
begun_some r name value e = by (is_declaration name) (length r.opened == 1) e
  where
    by : (d o : Bool) → (if d then (if o then declaration_fault (held r) name value else inner_declaration_fault (held r) name value) else pair_fault (held r) name value) ≡ None → is_some r.begun ≡ true
    by true true f = declaration_begun r name value f
    by true false f = absurd (inner_never r name value f)
    by false o f = pair_begun r name value f
