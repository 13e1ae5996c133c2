use Rattle.std.proofs.Common.{List, Err, ap, sym, subst}
use Rattle.std.specs.Option.{IfSome}
use Rattle.serna_kinds.specs.Names.{NameParts}
use Rattle.serna_kinds.proofs.NameLemmas.{Grows-refl}
use Rattle.style_sheet.specs.declared.reading.Module.{Module}
use Rattle.style_sheet.specs.Modules.{AreNamedModules, AreBuilt, IsStyle, HasMatched}
use Rattle.serna_main.specs.Sections.{IsRead}
use Rattle.serna_main.proofs.Replies.{bytes_of}
use Rattle.serna_main.proofs.Openings.{styled_by, not_built}
use Rattle.serna_main.proofs.opening.compiled.Goals as goal

pub compile-requires : goal.compile-requires
compile-requires c =
    let read : IsRead (bytes_of c.args.lines.now) c.new-names.result c.tree_of.new.names c.in-Some.tree =
    subst (λ o. IfSome o (IsRead (bytes_of c.args.lines.now) c.new-names.result c.tree_of.new.names)) c.in-Some.is c.in_ok-tree.ensures.read in
    record { named = subst (AreNamedModules c.tree_of.new.names) (sym c.from_ref.ensures.value) (read.named c.tree_of.new.names (Grows-refl c.tree_of.new.names), tt) }

pub returns-in-Ok-clause-styled : goal.returns-in-Ok-clause-styled
returns-in-Ok-clause-styled c =
    let old : List NameParts = c.new-names.result in
    let names : List NameParts = c.tree_of.new.names in
    let new : List NameParts = c.compile.new.names in
    let read : IsRead (bytes_of c.args.lines.now) old names c.in-Some.tree =
    subst (λ o. IfSome o (IsRead (bytes_of c.args.lines.now) old names)) c.in-Some.is c.in_ok-tree.ensures.read in
    let one : Module = record { name = c.in_ok-from_text.field-0; tree = c.in-Some.tree } in
    styled_by c.args.name.now (bytes_of c.args.lines.now) old names new c.in-Ok.style one c.requires c.new-names.ensures read
    (subst (AreBuilt names) c.from_ref.ensures.value c.in-Ok.ensures.built)
    (λ table grown. subst (λ ms. IsStyle table ms c.in-Ok.style) c.from_ref.ensures.value (c.in-Ok.ensures.style table grown))
    (subst (λ ms. HasMatched names ms new) c.from_ref.ensures.value c.in-Ok.ensures.table) c.in-Ok.ensures.grows

pub returns-in-Err-NotBuilt-clause-none : goal.returns-in-Err-NotBuilt-clause-none
returns-in-Err-NotBuilt-clause-none c =
    let old : List NameParts = c.new-names.result in
    let names : List NameParts = c.tree_of.new.names in
    let read : IsRead (bytes_of c.args.lines.now) old names c.in-Some.tree =
    subst (λ o. IfSome o (IsRead (bytes_of c.args.lines.now) old names)) c.in-Some.is c.in_ok-tree.ensures.read in
    let one : Module = record { name = c.in_ok-from_text.field-0; tree = c.in-Some.tree } in
    not_built c.args.name.now (bytes_of c.args.lines.now) old names one c.new-names.ensures read
    (λ built. c.in-Err-NotBuilt.ensures.refused (ap Err c.in-Err-NotBuilt.field-0-is) (subst (AreBuilt names) (sym c.from_ref.ensures.value) built))
