-- A stylesheet that was read, and when its names are a table's (XSLT 1.0, section 2.2).
use Rattle.std.specs.Prelude.{◌≡◌, ℕ, ◌<◌, ◌^◌, List, [], length, IsSome, Option, Some, None, slice_get}
use Rattle.std.specs.List.{AllByRecursion}
use Rattle.serna_kinds.specs.Names.{NameParts}
use Rattle.style_sheet.specs.declared.style.Pattern.{Pattern}
use Rattle.style_sheet.specs.declared.style.Pattern.TheVariants as pattern
use Rattle.style_sheet.specs.declared.style.Rule.{Rule}
use Rattle.style_sheet.specs.Instructions.{Instructions}

-- the rules, and the bodies that they name, each at its number
pub record StyleValue : Type 0 where
  pub rules : List Rule
  pub bodies : List Instructions

-- without rules the built-in ones alone hold
abbrev pub no_style : StyleValue
no_style = record { rules = []; bodies = [] }

-- a name that a pattern asks for is in the table
abbrev pub HasPattern : List NameParts → Option Pattern → Type 0
HasPattern names None = Unit {0}
HasPattern names (Some pattern.Root) = Unit {0}
HasPattern names (Some (pattern.Named id)) = IsSome (slice_get names id.0)

-- the names that rules are for are the table's
abbrev pub IsNamedBy : List NameParts → StyleValue → Type 0
IsNamedBy names style = AllByRecursion (λ (rule : Rule). HasPattern names rule.pattern) style.rules

-- rules are fewer than numbers, each has its number as its place, and a body
pub record AreNumbered (style : StyleValue) : Type 0 where
  pub few : length style.rules < 2 ^ 32
  pub places : (n : ℕ) (rule : Rule) → slice_get style.rules n ≡ Some rule → rule.place ≡ n
  pub bodies : (n : ℕ) (rule : Rule) → slice_get style.rules n ≡ Some rule → rule.body < length style.bodies
