use Rattle.std.proofs.Common.{◌≡◌, ℕ, List, ◌++◌, OnOk, sym, ◌∙◌, subst}
use Rattle.std.specs.Str.{IsUtf8}
use Rattle.serna_kinds.specs.Names.{Space}
use Rattle.tree_lines.proofs.Declaring.{declared_by-no_text, declared_by-text}
use Rattle.tree_lines.proofs.declarations.declare_line.Goals as goal

pub returns-in_default : goal.returns-in_default
returns-in_default c =
    declared_by-no_text c.args.spaces.now c.args.line.now.bytes (λ utf8. c.in_default.ensures.cases.0 (subst (λ (b : List ℕ). IsUtf8 b) (sym c.as_slice.ensures) utf8))

pub returns-in-Some : goal.returns-in-Some
returns-in-Some c =
    let utf8 = subst (λ (b : List ℕ). IsUtf8 b) c.as_slice.ensures c.in-Ok.ensures.cases.1 in
    let declared = declared_by-text c.args.line.now.bytes c.in-Ok.text.now c.in-Some.rest.now (c.in-Ok.ensures.cases.0 ∙ c.as_slice.ensures) utf8 c.requires c.in-Some.ensures.back in
    subst (λ (s : List Space). OnOk c.declare_behind.result (c.declare_behind.new.spaces ≡ c.args.spaces.now ++ s)) (sym declared) c.declare_behind.ensures
