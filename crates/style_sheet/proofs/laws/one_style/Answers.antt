use Rattle.std.proofs.Common.{◌≡◌, List, [], ◌∷◌, sym, ◌∙◌}
use Rattle.std.specs.List.{AllByRecursion}
use Rattle.serna_kinds.specs.Names.{NameParts}
use Rattle.tree_lines.specs.Given.{Given}
use Rattle.style_sheet.specs.declared.reading.Module.{Module}
use Rattle.style_sheet.specs.Sheet.{StyleValue}
use Rattle.style_sheet.specs.Modules.{IsTreeOf, IsStyle}
use Rattle.style_sheet.proofs.laws.one_style.Goals as goal

alone : (names : List NameParts) (modules : List Module) (one other : StyleValue) →
    AllByRecursion (λ (module_ : Module). (tree : Given) × IsTreeOf module_ tree) modules →
    IsStyle names modules one → IsStyle names modules other → one ≡ other
alone names [] one other trees first second = first ∙ sym second
alone names (module_ ∷ []) one other trees first second = first trees.0.0 trees.0.1 ∙ sym (second trees.0.0 trees.0.1)
alone names (module_ ∷ more ∷ modules) one other trees first second = absurd first

pub returns : goal.returns
returns c = alone
