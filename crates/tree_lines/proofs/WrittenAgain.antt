-- What lines say is written again as it stands in them: their texts with the escapes, and their names.
use Rattle.std.proofs.Common.{◌≡◌, ℕ, Bool, true, false, List, [], ◌∷◌, ◌++◌, refl, sym, ap, ◌∙◌, encode_utf8_all, inl, inr, true≢false}
use Rattle.std.specs.Prelude.{◌==◌, ◌||◌, bytes_eq, if◌then◌else◌}
use Rattle.std.specs.List.{list_all}
use Rattle.std.specs.Str.{chars, is_utf8}
use Rattle.std.proofs.lemmas.Bool.{and_parts, false≢true, eqb-true, ne_eqb}
use Rattle.std.proofs.lemmas.Bool.Decides.{eqb_tells}
use Rattle.std.proofs.lemmas.Grind.{flat_map-append}
use Rattle.std.proofs.lemmas.Slice.Eq.{bytes_eq-Decides}
use Rattle.std.proofs.lemmas.Str.{encodes-append, encodes-chars, IsUtf8-from_is_utf8}
use Rattle.serna_kinds.specs.Names.{NameParts, Space, id_of}
use Rattle.serna_kinds.specs.Qualified.{prefix_of, local_of, is_local_name, is_name, element_name, attribute_name}
use Rattle.tree_lines.specs.Texts.{is_allowed, is_line, is_backslash, is_escape, are_escaped, unescaped, unescaped_behind, has_escapes, meant}
use Rattle.tree_lines.specs.Tags.{xmlns, is_declaration, declared_prefix}
use Rattle.tree_lines.specs.Faults.{is_nothing}
use Rattle.tree_lines.specs.Canonical.{qualified, spelling_of, declaring_name, escape_of, escaped}
use Rattle.tree_lines.proofs.Parts.{NameCase, plain, prefixed, name_case}
use Rattle.tree_lines.proofs.Stored.{IsStored}
use Rattle.tree_lines.proofs.WasRead.{qualified-parts}
use Rattle.tree_lines.proofs.WrittenTexts.{written_text}
use Rattle.tree_lines.proofs.WrittenNames.{spelling_of-stored}

-- the escapes of what a text means are its own
plain_escape : (c : ℕ) → is_backslash c ≡ false → is_allowed c ≡ true → escape_of c ≡ c ∷ []
plain_escape c other good =
    let no_feed : (c == 10) ≡ false = ne_eqb c 10 (λ (e : c ≡ 10). let bad : is_allowed 10 ≡ true = rw e at good in false≢true bad) in
    let no_tab : (c == 9) ≡ false = ne_eqb c 9 (λ (e : c ≡ 9). let bad : is_allowed 9 ≡ true = rw e at good in false≢true bad) in
    rw (other, no_feed, no_tab) refl

escape-back : (c : ℕ) (rest : List ℕ) → is_escape c ≡ true → escaped (unescaped c ++ rest) ≡ 92 ∷ c ∷ escaped rest
escape-back c rest good = elim (eqb_tells c 92) [
  | inl is ↦ rw is.1 refl
  | inr no_slash ↦ elim (eqb_tells c 110) [
    | inl is ↦ rw is.1 refl
    | inr no_feed ↦ elim (eqb_tells c 116) [
      | inl is ↦ rw is.1 refl
      | inr no_tab ↦ absurd (false≢true (rw (no_slash.0, no_feed.0, no_tab.0) at good))
    ]
  ]
]

text-back : (behind : Bool) (cs : List ℕ) → list_all is_allowed cs ≡ true → are_escaped behind cs ≡ true → escaped (unescaped_behind behind cs) ≡ (if behind then 92 ∷ cs else cs)
text-back false [] good h = refl
text-back true [] good h = absurd (false≢true h)
text-back false (c ∷ cs) good h =
    let parts = and_parts (is_allowed c) (list_all is_allowed cs) good in
    by (is_backslash c) refl h (text-back true cs parts.1) (text-back false cs parts.1)
  where
    by : (slash : Bool) → is_backslash c ≡ slash → are_escaped slash cs ≡ true → (are_escaped true cs ≡ true → escaped (unescaped_behind true cs) ≡ 92 ∷ cs)
        → (are_escaped false cs ≡ true → escaped (unescaped_behind false cs) ≡ cs)
        → escaped (if is_backslash c then unescaped_behind true cs else c ∷ unescaped_behind false cs) ≡ c ∷ cs
    by true e h one other = ap (λ b. escaped (if b then unescaped_behind true cs else c ∷ unescaped_behind false cs)) e ∙ one h ∙ ap (λ (x : ℕ). x ∷ cs) (sym (eqb-true c 92 e))
    by false e h one other =
        ap (λ b. escaped (if b then unescaped_behind true cs else c ∷ unescaped_behind false cs)) e
        ∙ ap (λ (x : List ℕ). x ++ escaped (unescaped_behind false cs)) (plain_escape c e (and_parts (is_allowed c) (list_all is_allowed cs) good).0)
        ∙ ap (λ (x : List ℕ). c ∷ x) (other h)
text-back true (c ∷ cs) good h =
    let parts = and_parts (is_allowed c) (list_all is_allowed cs) good in
    let both = and_parts (is_escape c) (are_escaped false cs) h in
    escape-back c (unescaped_behind false cs) both.0 ∙ ap (λ (x : List ℕ). 92 ∷ c ∷ x) (text-back false cs parts.1 both.1)

-- a text of a line
pub record IsLineText (bytes : List ℕ) : Type 0 where
  pub good : is_line bytes ≡ true
  pub escapes : has_escapes bytes ≡ true

pub written-meant : (bytes : List ℕ) → IsLineText bytes → written_text (meant bytes) ≡ bytes
written-meant bytes h =
    let parts = and_parts (is_utf8 bytes) (list_all is_allowed (chars bytes)) h.good in
    ap encode_utf8_all (text-back false (chars bytes) parts.1 h.escapes) ∙ encodes-chars bytes (IsUtf8-from_is_utf8 bytes parts.0)

pub written_text-append : (one other : List ℕ) → written_text (one ++ other) ≡ written_text one ++ written_text other
written_text-append one other = ap encode_utf8_all (flat_map-append escape_of one other) ∙ encodes-append (escaped one) (escaped other)

-- names
pub element-spelling : (table : List NameParts) (spaces : List Space) (name : List ℕ) → is_name name ≡ true → IsStored table (element_name spaces name)
    → spelling_of table (id_of table (element_name spaces name)) ≡ name
element-spelling table spaces name good stored =
    spelling_of-stored table (id_of table (element_name spaces name)) (element_name spaces name) stored ∙ qualified-parts name good

pub attribute-spelling : (table : List NameParts) (spaces : List Space) (name : List ℕ) → is_name name ≡ true → IsStored table (attribute_name spaces name)
    → spelling_of table (id_of table (attribute_name spaces name)) ≡ name
attribute-spelling table spaces name good stored =
    spelling_of-stored table (id_of table (attribute_name spaces name)) (attribute_name spaces name) stored ∙ qualified-parts name good

qualified-declaring : (local : List ℕ) → is_local_name local ≡ true → declaring_name local ≡ qualified xmlns local
qualified-declaring [] h = absurd (false≢true h)
qualified-declaring (b ∷ bs) h = refl

pub declaring-back : (name : List ℕ) → is_name name ≡ true → is_declaration name ≡ true → declaring_name (declared_prefix name) ≡ name
declaring-back name good declares = by (bytes_eq name xmlns) refl
  where
    apart : bytes_eq name xmlns ≡ false → prefix_of name ≡ xmlns
    apart e = (bytes_eq-Decides (prefix_of name) xmlns).0 (sym (ap (λ b. b || bytes_eq (prefix_of name) xmlns) e) ∙ declares)

    prefixed_by : NameCase name → prefix_of name ≡ xmlns → declaring_name (local_of name) ≡ name
    prefixed_by (plain is front behind) own = absurd (true≢false (ap is_nothing (sym front ∙ own)))
    prefixed_by (prefixed prefix local e first second front behind) own =
        ap declaring_name behind ∙ qualified-declaring local second ∙ (λ i. qualified (sym own i) (sym behind i)) ∙ qualified-parts name good

    by : (same : Bool) → bytes_eq name xmlns ≡ same → declaring_name (declared_prefix name) ≡ name
    by true e = ap (λ b. declaring_name (if b then [] else local_of name)) e ∙ sym ((bytes_eq-Decides name xmlns).0 e)
    by false e = ap (λ b. declaring_name (if b then [] else local_of name)) e ∙ prefixed_by (name_case name good) (apart e)
