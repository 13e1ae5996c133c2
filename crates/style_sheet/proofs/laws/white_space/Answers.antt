use Rattle.std.proofs.Common.{◌≡◌, Bool, true, false, not, ◌&&◌, refl}
use Rattle.std.specs.Prelude.{if◌then◌else◌}
use Rattle.serna_kinds.specs.Blanks.{is_blank}
use Rattle.style_sheet.specs.Instructions.{Instructions}
use Rattle.style_sheet.specs.Instructions as instruction
use Rattle.style_sheet.specs.Styles.{body_in}
use Rattle.style_sheet.proofs.laws.white_space.Goals as goal

kept : (blank : Bool) (none said : Instructions) → (if blank && not true then none else said) ≡ said
kept true none said = refl
kept false none said = refl

pub returns-clause-stripped : goal.returns-clause-stripped
returns-clause-stripped c names t rest blank = rw blank refl

pub returns-clause-preserved : goal.returns-clause-preserved
returns-clause-preserved c names t rest = kept (is_blank t) (body_in names true rest) (instruction.text t (body_in names true rest))

pub returns-clause-verbatim : goal.returns-clause-verbatim
returns-clause-verbatim c names kept name line t rest is = rw is refl
