-- The name that was interned is the one that the pattern's text stands for.
use Rattle.std.proofs.Common.{◌≡◌, ℕ, false, List, Some, sym, ap, ◌∙◌, rules, encode_utf8_all}
use Rattle.serna_kinds.specs.declared.cells.NameId.{NameId}
use Rattle.serna_kinds.specs.Names.{NameParts, Space, name_parts, id_of}
use Rattle.serna_kinds.specs.Qualified.{prefix_of, local_of, attribute_uri, attribute_name, uri_or_none}
use Rattle.style_sheet.specs.declared.style.Pattern.TheVariants as pattern
use Rattle.style_sheet.specs.Styles.{pattern_of, is_word, root_pattern}
use Rattle.style_sheet.proofs.names.intern_pattern.Goals as goal

named_pattern : (table : List NameParts) (spaces : List Space) (text bytes prefix local uri : List ℕ) (id : NameId) →
    is_word text root_pattern ≡ false → bytes ≡ encode_utf8_all text → prefix ≡ prefix_of bytes → local ≡ local_of bytes →
    attribute_uri spaces prefix ≡ Some uri →
    id ≡ id_of table (name_parts uri local prefix) → pattern_of table spaces text ≡ pattern.Named id
named_pattern table spaces text bytes prefix local uri id is_not is_bytes is_prefix is_local found number =
    let same_uri : uri_or_none (attribute_uri spaces (prefix_of bytes)) ≡ uri =
    ap (λ p. uri_or_none (attribute_uri spaces p)) (sym is_prefix) ∙ ap uri_or_none found in
    let same_local : local_of bytes ≡ local = sym is_local in
    let same_prefix : prefix_of bytes ≡ prefix = sym is_prefix in
    let name : attribute_name spaces bytes ≡ name_parts uri local prefix = λ i. name_parts (same_uri i) (same_local i) (same_prefix i) in
    rw is_not (ap pattern.Named (ap (λ (b : List ℕ). id_of table (attribute_name spaces b)) (sym is_bytes) ∙ ap (id_of table) name
    ∙ sym number))

pub returns-clause-found : goal.returns-clause-found
returns-clause-found c table grown =
    named_pattern table c.args.spaces.now c.args.text.now c.as_text-text.result.now c.parts.result.prefix.now c.parts.result.local.now c.in-Some.uri.now c.in_ok-intern.field-0
    (search rules) c.as_text-text.ensures.bytes c.parts.ensures.prefix c.parts.ensures.local (search rules)
    (c.in_ok-intern.ensures.number table grown)
