-- Which rule answers a request (XSLT 1.0, sections 5.3, 5.5, 5.6 and 5.7): of the rules of its mode that match its node the greatest by
-- import precedence, priority and place.
use Rattle.std.specs.Prelude.{◌≡◌, ℕ, ◌+◌, ◌==◌, ◌&&◌, not, nat_lt, Bool, true, false, List, [], ◌∷◌, Option, Some, None, is_some, slice_get, if◌then◌else◌}
use Rattle.serna_kinds.specs.declared.cells.NameId.{NameId}
use Rattle.style_sheet.specs.declared.style.Rule.{Rule}
use Rattle.style_sheet.specs.declared.style.Choice.{Choice}
use Rattle.style_sheet.specs.declared.style.Choice.TheVariants as choice
use Rattle.style_sheet.specs.Order.{is_less}
use Rattle.style_sheet.specs.Sheet.{StyleValue}
use Rattle.instance_store.specs.declared.request.Call.{Call}
use Rattle.instance_store.specs.declared.request.Call.TheVariants as call
use Rattle.instance_store.specs.declared.request.Request.{Request}

-- a rule with its number
pub record Numbered : Type 0 where
  pub number : ℕ
  pub rule : Rule

-- the greater of two rules, of equals the first
abbrev pub greater : Numbered → Option Numbered → Option Numbered
greater one None = Some one
greater one (Some other) = if is_less one.rule other.rule then Some other else Some one

-- the greatest of the rules that pass a test, the first of them having this number; of equals the first
abbrev pub greatest : (ℕ → Rule → Bool) → ℕ → List Rule → Option Numbered
greatest test number [] = None
greatest test number (rule ∷ rules) =
    if test number rule then greater (record { number = number; rule = rule }) (greatest test (number + 1) rules) else greatest test (number + 1) rules

-- the same mode, or none twice; a stylesheet has one number for each mode
abbrev pub is_mode : Option NameId → Option NameId → Bool
is_mode None None = true
is_mode None (Some b) = false
is_mode (Some a) None = false
is_mode (Some a) (Some b) = a.0 == b.0

-- a rule is imported into the module of another (section 5.6)
abbrev pub is_imported : Rule → Rule → Bool
is_imported asking rule = not (nat_lt rule.precedence asking.lowest) && nat_lt rule.precedence asking.precedence

-- a rule can answer: it has a pattern, is of the mode, and is imported into the module of the rule that asks, if one does
abbrev pub can_answer : Option NameId → Option Rule → Rule → Bool
can_answer mode None rule = is_some rule.pattern && is_mode mode rule.mode
can_answer mode (Some asking) rule = is_some rule.pattern && is_mode mode rule.mode && is_imported asking rule

abbrev pub choice_of : Option Numbered → Choice
choice_of None = choice.BuiltIn
choice_of (Some found) = choice.Rule found.number

-- the greatest of the rules that can answer and, by their numbers, fit the node
abbrev pub best_of : StyleValue → (ℕ → Bool) → Option NameId → Option Rule → Choice
best_of style fits mode asking = choice_of (greatest (λ number rule. can_answer mode asking rule && fits number) 0 style.rules)

-- the current rule of a request, if it has one
abbrev pub rule_asking : StyleValue → Request → Option Rule
rule_asking style request = elim request.rule [ None ↦ None | Some number ↦ slice_get style.rules number ]

abbrev pub imported : StyleValue → (ℕ → Bool) → Option NameId → Option Rule → Choice
imported style fits mode None = choice.BuiltIn
imported style fits mode (Some asking) = best_of style fits mode (Some asking)

-- what a call of a request is answered by, where these rules fit its node
abbrev pub chosen_by : Call → StyleValue → (ℕ → Bool) → Request → Choice
chosen_by call.Apply style fits request = best_of style fits request.mode None
chosen_by (call.Named number) style fits request = choice.Rule number
chosen_by call.Imports style fits request = imported style fits request.mode (rule_asking style request)

abbrev pub chosen : StyleValue → (ℕ → Bool) → Request → Choice
chosen style fits request = chosen_by request.call style fits request

-- The choice by what it has to be

-- the rule of a number can answer and fits, and no other that does is greater
pub record IsGreatest (style : StyleValue) (fits : ℕ → Bool) (mode : Option NameId) (asking : Option Rule) (number : ℕ) : Type 0 where
  pub rule : Rule
  pub there : slice_get style.rules number ≡ Some rule
  pub answers : can_answer mode asking rule ≡ true
  pub fitting : fits number ≡ true
  pub none_greater : (n : ℕ) (other : Rule) → slice_get style.rules n ≡ Some other → can_answer mode asking other ≡ true → fits n ≡ true → is_less rule other ≡ false

-- no rule can answer and fits
abbrev pub NoneFits : StyleValue → (ℕ → Bool) → Option NameId → Option Rule → Type 0
NoneFits style fits mode asking = (n : ℕ) (rule : Rule) → slice_get style.rules n ≡ Some rule → can_answer mode asking rule ≡ true → fits n ≡ false
