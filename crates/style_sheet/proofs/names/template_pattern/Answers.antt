use Rattle.std.proofs.Common.{◌≡◌, ℕ, List, IfOk, subst}
use Rattle.serna_kinds.specs.Names.{NameParts, Grows}
use Rattle.style_sheet.specs.Styles.{pattern_of}
use Rattle.style_sheet.proofs.names.template_pattern.Goals as goal

pub returns-clause-found : goal.returns-clause-found
returns-clause-found c =
    subst (λ (t : List ℕ). IfOk c.intern_pattern.result
    (λ pattern. (table : List NameParts) → Grows c.intern_pattern.new.names table → pattern_of table c.args.spaces.now t ≡ pattern))
    c.in-Some.ensures.value c.intern_pattern.ensures.found
