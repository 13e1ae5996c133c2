-- Which sources a tape sees, and what is known of their nodes.
use Rattle.std.proofs.Common.{◌≡◌, ℕ, zero, suc, ◌++◌, List, [], ◌∷◌, Option, Some, None, IsSome, slice_get, bytes_eq, ◌&&◌, Bool, false, refl, ap, ◌∙◌, subst}
use Rattle.std.proofs.lemmas.Option.{none-some}
use Rattle.std.specs.List.{AllByRecursion}
use Rattle.serna_kinds.specs.declared.cells.Cell.{Cell}
use Rattle.serna_kinds.specs.declared.cells.NameId.{NameId}
use Rattle.serna_kinds.specs.Content.{Content}
use Rattle.serna_kinds.specs.Names.{NameParts, Grows, are_same}
use Rattle.serna_kinds.specs.Tape.{SeenBefore}
use Rattle.source_model.specs.Source.{Source}
use Rattle.source_model.specs.Cells.{cell_of}
use Rattle.source_model.specs.Sees.{Sees}
use Rattle.style_sheet.specs.declared.style.Rule.{Rule}
use Rattle.style_sheet.specs.Sheet.{StyleValue, HasPattern, IsNamedBy}
use Rattle.template_run.specs.Labels.{KeepsNames}

-- what a later tape sees an earlier one saw
pub sees_earlier : (names : List NameParts) (old new : List Cell) (view : Cell → Option Content) (table : List NameParts) (source : Source) → SeenBefore old new view →
    Sees names new view table source → Sees names old view table source
sees_earlier names old new view table source before s = record {
  grows = s.grows;
  proper = s.proper;
  agrees = before (cell_of source) s.agrees;
  home = s.home;
  home_proper = s.home_proper;
  home_agrees = before (cell_of s.home) s.home_agrees;
}

-- the table itself keeps its names
pub keeps_itself : (names : List NameParts) (style : StyleValue) → KeepsNames names names style
keeps_itself names style n rule id name at is known = refl

-- a name keeps its number
pub same_number : (names table : List NameParts) (n : ℕ) → Grows names table → IsSome (slice_get names n) → slice_get table n ≡ slice_get names n
same_number names table n grows known = ap (λ ns. slice_get ns n) grows.1 ∙ in_front names grows.0 n known
  where
    in_front : (names more : List NameParts) (n : ℕ) → IsSome (slice_get names n) → slice_get (names ++ more) n ≡ slice_get names n
    in_front [] more n known = cc
    in_front (x ∷ names) more zero known = refl
    in_front (x ∷ names) more (suc n) known = in_front names more n known

same_names : (names table : List NameParts) (a b : NameId) → Grows names table → IsSome (slice_get names a.0) → IsSome (slice_get names b.0) → are_same table a b ≡ are_same names a b
same_names names table a b grows known_a known_b =
    ap
    (λ (x : Option NameParts). elim x as (λ _. Bool) [ None ↦ false | Some p ↦ elim (slice_get table b.0) as (λ _. Bool) [ None ↦ false | Some q ↦ bytes_eq p.uri q.uri && bytes_eq p.local q.local ] ])
    (same_number names table a.0 grows known_a)
    ∙ ap
    (λ (y : Option NameParts). elim (slice_get names a.0) as (λ _. Bool) [ None ↦ false | Some p ↦ elim y as (λ _. Bool) [ None ↦ false | Some q ↦ bytes_eq p.uri q.uri && bytes_eq p.local q.local ] ])
    (same_number names table b.0 grows known_b)

named_at : (names : List NameParts) (rules : List Rule) → AllByRecursion (λ (rule : Rule). HasPattern names rule.pattern) rules → (n : ℕ) (rule : Rule) → slice_get rules n ≡ Some rule →
    HasPattern names rule.pattern
named_at names [] all n rule at = absurd (none-some rule at)
named_at names (x ∷ rules) all zero rule at = subst (λ (r : Rule). HasPattern names r.pattern) (first x rule at) all.0
  where
    first : (a b : Rule) → Some a ≡ Some b → a ≡ b
    first a b e = cc
named_at names (x ∷ rules) all (suc n) rule at = named_at names rules all.1 n rule at

-- a later table keeps the names of a style that is this one's
pub keeps_while_it_grows : (names table : List NameParts) (style : StyleValue) → Grows names table → IsNamedBy names style → KeepsNames names table style
keeps_while_it_grows names table style grows named n rule id name at is known =
    same_names names table id name grows (subst (HasPattern names) is (named_at names style.rules named n rule at)) known
