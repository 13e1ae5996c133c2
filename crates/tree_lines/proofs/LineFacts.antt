-- What lines without a fault say one by one.
use Rattle.std.proofs.Common.{◌≡◌, ℕ, Bool, true, false, List, [], ◌∷◌, length, Option, Some, None, refl, sym, ap, true≢false}
use Rattle.std.specs.Prelude.{IsTrue, is_some, not, ◌&&◌, ◌==◌, if◌then◌else◌}
use Rattle.std.specs.List.{AllByRecursion}
use Rattle.std.proofs.lemmas.Bool.{not-false}
use Rattle.std.specs.Option.{option_map}
use Rattle.std.proofs.lemmas.Option.{none-some}
use Rattle.serna_kinds.specs.Names.{Space}
use Rattle.serna_kinds.specs.Qualified.{prefix_of, is_name, element_uri, attribute_uri}
use Rattle.tree_lines.specs.declared.tree.Line.{Line}
use Rattle.tree_lines.specs.declared.rules.LineRule.{LineRule}
use Rattle.tree_lines.specs.declared.rules.LineRule.TheVariants as rule
use Rattle.tree_lines.specs.Texts.{is_line}
use Rattle.tree_lines.specs.Tags.{tag_of, is_declaration, declared_prefix}
use Rattle.tree_lines.specs.Before.{open_elements}
use Rattle.tree_lines.specs.LeftOpen.{has_already, declares_already, left_open}
use Rattle.tree_lines.specs.Faults.{first_broken, is_nothing, begin_fault, declaration_fault, inner_declaration_fault, pair_fault, attribute_fault, said_fault, line_fault, or_later, fault_behind, fault_of, first_fault, bytes_of, number_at}

-- where no rule is broken, the first one is kept, and so is each
pub first-kept : (broken : Bool) (at : LineRule) (more : List (Bool × LineRule)) → first_broken ((broken, at) ∷ more) ≡ None → (broken ≡ false) × (first_broken more ≡ None)
first-kept true at more none = absurd (none-some at (sym none))
first-kept false at more none = (refl, none)

abbrev pub AreKept : List (Bool × LineRule) → Type 0
AreKept rules = AllByRecursion (λ (x : Bool × LineRule). x.0 ≡ false) rules

pub first_broken-kept : (rules : List (Bool × LineRule)) → first_broken rules ≡ None → AreKept rules
first_broken-kept [] none = tt
first_broken-kept (x ∷ xs) none =
    let both = first-kept x.0 x.1 xs none in
    (both.0, first_broken-kept xs both.1)

-- the rules of a line that begins an element, and those of them that its name keeps
abbrev begin_rules : Bool → Bool → Bool → Bool → Bool → List (Bool × LineRule)
begin_rules a b c d e = (a, rule.BadName) ∷ (b, rule.TwoRoots) ∷ (c, rule.TooDeep) ∷ (d, rule.TooManyNodes) ∷ (e, rule.UnboundPrefix) ∷ []

begin_kept : (a b c d e : Bool) → first_broken (begin_rules a b c d e) ≡ None → (a ≡ false) × (e ≡ false)
begin_kept a b c d e none = let kept = first_broken-kept (begin_rules a b c d e) none in (kept.0, kept.1.1.1.1.0)

pub begin_fault-parts : (spaces : List Space) (before : List (List ℕ)) (name : List ℕ) → begin_fault (left_open spaces before) name ≡ None
    → IsTrue (is_name name) × IsTrue (is_some (element_uri spaces (prefix_of name)))
begin_fault-parts spaces before name none =
    let kept = begin_kept _ _ _ _ _ none in
    (not-false (is_name name) kept.0, not-false (is_some (element_uri spaces (prefix_of name))) kept.1)

-- and of one with an attribute that declares no namespace
abbrev pair_rules : Bool → Bool → Bool → Bool → Bool → Bool → List (Bool × LineRule)
pair_rules a b c d e f =
    (a, rule.BadLine) ∷ (b, rule.BadName) ∷ (c, rule.BadEscape) ∷ (d, rule.DuplicateAttribute) ∷ (e, rule.TextTooLong) ∷ (f, rule.UnboundPrefix) ∷ []

pair_kept : (a b c d e f : Bool) → first_broken (pair_rules a b c d e f) ≡ None → (d ≡ false) × (f ≡ false)
pair_kept a b c d e f none = let kept = first_broken-kept (pair_rules a b c d e f) none in (kept.1.1.1.0, kept.1.1.1.1.1.0)

pub pair_fault-parts : (spaces : List Space) (before : List (List ℕ)) (name value : List ℕ) → pair_fault (left_open spaces before) name value ≡ None
    → (has_already spaces before name ≡ false) × IsTrue (is_some (attribute_uri spaces (prefix_of name)))
pair_fault-parts spaces before name value none =
    let kept = pair_kept _ _ _ _ _ _ none in
    (kept.0, not-false (is_some (attribute_uri spaces (prefix_of name))) kept.1)

-- and of one with an attribute that does
abbrev declaration_rules : Bool → Bool → Bool → Bool → Bool → List (Bool × LineRule)
declaration_rules a b c d e = (a, rule.BadLine) ∷ (b, rule.BadName) ∷ (c, rule.BadEscape) ∷ (d, rule.DuplicateAttribute) ∷ (e, rule.UnboundPrefix) ∷ []

declaration_kept : (a b c d e : Bool) → first_broken (declaration_rules a b c d e) ≡ None → (b ≡ false) × (d ≡ false) × (e ≡ false)
declaration_kept a b c d e none = let kept = first_broken-kept (declaration_rules a b c d e) none in (kept.1.0, kept.1.1.1.0, kept.1.1.1.1.0)

pub declaration_fault-parts : (spaces : List Space) (before : List (List ℕ)) (name value : List ℕ) → declaration_fault (left_open spaces before) name value ≡ None
    → IsTrue (is_name name) × (declares_already before name ≡ false) × ((not (is_nothing (declared_prefix name)) && is_nothing value) ≡ false)
declaration_fault-parts spaces before name value none =
    let kept = declaration_kept _ _ _ _ _ none in
    (not-false (is_name name) kept.0, kept.1, kept.2)

-- the first of the lines has no fault, and neither have the others
pub fault_behind-parts : (spaces : List Space) (before : List (List ℕ)) (line : List ℕ) (lines : List (List ℕ)) → fault_behind spaces before (line ∷ lines) ≡ None
    → (line_fault (left_open spaces before) line ≡ None) × (fault_behind spaces (line ∷ before) lines ≡ None)
fault_behind-parts spaces before line lines none = by (line_fault (left_open spaces before) line) none
  where
    by : (first : Option LineRule) → or_later (length before) first (fault_behind spaces (line ∷ before) lines) ≡ None
        → (first ≡ None) × (fault_behind spaces (line ∷ before) lines ≡ None)
    by None none = (refl, none)
    by (Some broken) none = absurd (none-some (length before, broken) (sym none))

-- its characters are allowed, and it says something
pub line_fault-parts : (spaces : List Space) (before : List (List ℕ)) (line : List ℕ) → line_fault (left_open spaces before) line ≡ None
    → IsTrue (is_line line) × (said_fault (left_open spaces before) (tag_of line) ≡ None)
line_fault-parts spaces before line none = by (is_line line) none
  where
    by : (good : Bool) → (if good then said_fault (left_open spaces before) (tag_of line) else Some rule.BadLine) ≡ None → IsTrue good × (said_fault (left_open spaces before) (tag_of line) ≡ None)
    by true none = (refl, none)
    by false none = absurd (none-some rule.BadLine (sym none))

-- an attribute that declares no namespace
pub pair_fault-from : (spaces : List Space) (before : List (List ℕ)) (name value : List ℕ) → is_declaration name ≡ false
    → attribute_fault (left_open spaces before) name value ≡ None → pair_fault (left_open spaces before) name value ≡ None
pair_fault-from spaces before name value pair none = rw pair at none

-- one that does stands on the outermost element
pub declaration_fault-from : (spaces : List Space) (before : List (List ℕ)) (name value : List ℕ) → is_declaration name ≡ true
    → attribute_fault (left_open spaces before) name value ≡ None → declaration_fault (left_open spaces before) name value ≡ None
declaration_fault-from spaces before name value declares none = by (length (open_elements before) == 1) (rw declares at none)
  where
    inner : (a b c : Bool) → first_broken ((a, rule.BadLine) ∷ (b, rule.BadName) ∷ (c, rule.BadEscape) ∷ (true, rule.InnerNamespace) ∷ []) ≡ None → ⊥
    inner a b c none =
        true≢false (first_broken-kept ((a, rule.BadLine) ∷ (b, rule.BadName) ∷ (c, rule.BadEscape) ∷ (true, rule.InnerNamespace) ∷ []) none).1.1.1.0

    by : (outermost : Bool) → (if outermost then declaration_fault (left_open spaces before) name value else inner_declaration_fault (left_open spaces before) name value) ≡ None → declaration_fault (left_open spaces before) name value ≡ None
    by true none = none
    by false none = absurd (inner _ _ _ none)

-- lines have no fault where none is named
pub fault_none : (lines : List Line) → first_fault lines ≡ None → fault_of (bytes_of lines) ≡ None
fault_none lines none = by (fault_of (bytes_of lines)) none
  where
    by : (found : Option (ℕ × LineRule)) → option_map {U = ℕ × LineRule} (λ (fault : ℕ × LineRule). (number_at lines fault.0, fault.1)) found ≡ None → found ≡ None
    by None none = refl
    by (Some fault) none = absurd (none-some (number_at lines fault.0, fault.1) (sym none))

pub first_fault_none : (lines : List Line) → fault_of (bytes_of lines) ≡ None → first_fault lines ≡ None
first_fault_none lines none = ap (λ (found : Option (ℕ × LineRule)). option_map {U = ℕ × LineRule} (λ (fault : ℕ × LineRule). (number_at lines fault.0, fault.1)) found) none
