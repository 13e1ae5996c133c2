-- The modules are the one that is read.
use Rattle.std.proofs.Common.{◌≡◌, ◌<◌, ◌≤◌, List, [], ◌∷◌, length, get_or, IfOk, ap, subst, arith}
use Rattle.serna_kinds.specs.Names.{NameParts, Grows}
use Rattle.style_sheet.specs.declared.reading.Module.{Module}
use Rattle.style_sheet.specs.Modules.{IsStyle}
use Rattle.style_sheet.proofs.reading.compile.Goals as goal

alone : (modules : List Module) (module_ : Module) → 1 ≤ length modules → length modules < 2 → module_ ≡ get_or modules 0 module_ →
    module_ ∷ [] ≡ modules
alone [] module_ some few is = absurd (omega arith)
alone (x ∷ []) module_ some few is = ap (λ m. m ∷ []) is
alone (x ∷ y ∷ modules) module_ some few is = absurd (omega arith)

pub returns-in-len1-clause-style : goal.returns-in-len1-clause-style
returns-in-len1-clause-style c =
    subst (λ (modules : List Module). IfOk c.style_of.result
    (λ style. (table : List NameParts) → Grows c.style_of.new.names table → IsStyle table modules style))
    (alone c.args.modules.now c.module-item.result c.in-len1.len_at_least c.in-len1.len_below c.module-item.is) c.style_of.ensures.style
