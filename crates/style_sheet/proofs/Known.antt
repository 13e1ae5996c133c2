-- The names that rules are for are those of the table that grew by them.
use Rattle.std.proofs.Common.{◌≡◌, ℕ, suc, ◌+◌, Bool, true, false, List, [], ◌∷◌, ◌++◌, Some, IsSome, slice_get, refl, sym, ap, ◌∙◌, subst, true≢false, arith, encode_utf8_all}
use Rattle.std.specs.Prelude.{if◌then◌else◌}
use Rattle.std.specs.List.{AllByRecursion, list_any, position_or_len}
use Rattle.std.proofs.lemmas.List.Folds.{list_any-append}
use Rattle.std.proofs.lemmas.List.Sums.{fold-append}
use Rattle.serna_kinds.specs.Names.{NameParts, Space, Grows, is_same_name, with_name, id_of}
use Rattle.serna_kinds.specs.Qualified.{attribute_name}
use Rattle.serna_kinds.proofs.NameLemmas.{Grows-refl, Grows-trans, is_same_name-laws}
use Rattle.tree_lines.specs.Given.{Given}
use Rattle.tree_lines.specs.Given as given
use Rattle.tree_lines.specs.Tokens.{with_names}
use Rattle.style_sheet.specs.declared.style.Pattern.TheVariants as pattern
use Rattle.style_sheet.specs.declared.style.Rule.{Rule}
use Rattle.style_sheet.specs.Sheet.{HasPattern, IsNamedBy}
use Rattle.style_sheet.specs.Styles.{is_word, root_pattern, pattern_of, match_of, rules_in, style_of, matched_name, matched_in, matched_names}

-- a table with further names has grown
Grows-with_name : (names : List NameParts) (name : NameParts) → Grows names (with_name names name)
Grows-with_name names name = by (list_any (is_same_name name) names)
  where
    by : (b : Bool) → Grows names (if b then names else names ++ name ∷ [])
    by true = Grows-refl names
    by false = (name ∷ [], refl)

Grows-with_names : (names more : List NameParts) → Grows names (with_names names more)
Grows-with_names names [] = Grows-refl names
Grows-with_names names (name ∷ more) =
    Grows-trans names (with_name names name) (with_names (with_name names name) more) (Grows-with_name names name)
    (Grows-with_names (with_name names name) more)

-- the table with a name has it
has_name : (names : List NameParts) (name : NameParts) → list_any (is_same_name name) (with_name names name) ≡ true
has_name names name = by (list_any (is_same_name name) names) refl
  where
    by : (b : Bool) → list_any (is_same_name name) names ≡ b → list_any (is_same_name name) (if b then names else names ++ name ∷ []) ≡ true
    by true e = e
    by false e = list_any-append (is_same_name name) names (name ∷ []) ∙ rw (e, is_same_name-laws.refl name) refl

-- what passes stands at the first place that passes
at_number : (p : NameParts → Bool) (names : List NameParts) → list_any p names ≡ true → IsSome (slice_get names (position_or_len p names))
at_number p [] found = absurd (true≢false (sym found))
at_number p (name ∷ names) found = by (p name) refl (at_number p names)
  where
    by : (b : Bool) → p name ≡ b → (list_any p names ≡ true → IsSome (slice_get names (position_or_len p names))) →
        IsSome (slice_get (name ∷ names) (position_or_len p (name ∷ names)))
    by true e further = rw e refl
    by false e further =
        let later : suc (position_or_len p names) ≡ 1 + position_or_len p names = omega arith in
        rw e (subst (λ (n : ℕ). IsSome (slice_get (name ∷ names) n)) later (further (rw e at found)))

has_number : (known table : List NameParts) (name : NameParts) → Grows (with_name known name) table →
    IsSome (slice_get table (id_of table name).0)
has_number known table name grown =
    at_number (is_same_name name) table
    (ap (list_any (is_same_name name)) grown.1 ∙ list_any-append (is_same_name name) (with_name known name) grown.0
    ∙ rw (has_name known name) refl)

pattern-known : (table known : List NameParts) (spaces : List Space) (text : List ℕ) →
    Grows (with_names known (matched_name spaces text)) table → HasPattern table (Some (pattern_of table spaces text))
pattern-known table known spaces text = by (is_word text root_pattern)
  where
    by : (b : Bool) → Grows (with_names known (if b then [] else attribute_name spaces (encode_utf8_all text) ∷ [])) table →
        HasPattern table (Some (if b then pattern.Root else pattern.Named (id_of table (attribute_name spaces (encode_utf8_all text)))))
    by true grown = tt
    by false grown = has_number known table (attribute_name spaces (encode_utf8_all text)) grown

rules-known : (table known : List NameParts) (spaces : List Space) (n : ℕ) (tree : Given) →
    Grows (with_names known (matched_in spaces tree)) table →
    AllByRecursion (λ (rule : Rule). HasPattern table rule.pattern) (rules_in table spaces n tree)
rules-known table known spaces n given.end grown = tt
rules-known table known spaces n (given.text t rest) grown = rules-known table known spaces n rest grown
rules-known table known spaces n (given.comment t rest) grown = rules-known table known spaces n rest grown
rules-known table known spaces n (given.element name attributes line content rest) grown =
    let first : List NameParts = matched_name spaces (match_of attributes) in
    let then_more : Grows (with_names (with_names known first) (matched_in spaces rest)) table =
    subst (λ (names : List NameParts). Grows names table) (fold-append with_name known first (matched_in spaces rest)) grown in (
      pattern-known table known spaces (match_of attributes)
          (Grows-trans (with_names known first) (with_names (with_names known first) (matched_in spaces rest)) table
          (Grows-with_names (with_names known first) (matched_in spaces rest)) then_more),
      rules-known table (with_names known first) spaces (n + 1) rest then_more,
    )

pub style-known : (table known : List NameParts) (spaces : List Space) (tree : Given) →
    Grows (with_names known (matched_names spaces tree)) table → IsNamedBy table (style_of table spaces tree)
style-known table known spaces given.end grown = tt
style-known table known spaces (given.text t rest) grown = style-known table known spaces rest grown
style-known table known spaces (given.comment t rest) grown = style-known table known spaces rest grown
style-known table known spaces (given.element name attributes line content rest) grown = rules-known table known spaces 0 content grown
