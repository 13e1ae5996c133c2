use Rattle.std.proofs.Common.{◌+◌, ◌-◌, List, length, take, drop, subst}
use Rattle.std.proofs.lemmas.List.{take_rest}
use Rattle.std.specs.Option.{IfSome, IfNone}
use Rattle.tree_lines.specs.declared.tree.Line.{Line}
use Rattle.serna_main.specs.Sections.{IsStyled, IsNoStyle, Begins, IsNoDocument}
use Rattle.serna_main.proofs.Replies.{bytes_of}
use Rattle.serna_main.proofs.Cuts.{cut_at}
use Rattle.plain_editor.specs.Input.{document_head}
use Rattle.serna_main.proofs.Openings.{is_opening, no_opening, no_opening_style, no_opening_document}
use Rattle.serna_main.proofs.opening.opening_of.Goals as goal

pub returns-in_default-clause-none : goal.returns-in_default-clause-none
returns-in_default-clause-none c = no_opening c.args.lines.now c.in_default.ensures

pub returns-in_default-2-clause-none : goal.returns-in_default-2-clause-none
returns-in_default-2-clause-none c =
    no_opening_style c.args.lines.now c.in-Some.place c.in-Some.ensures
    (subst (λ o. IfNone o (IsNoStyle (bytes_of (take c.in-Some.place c.args.lines.now)))) c.in_default-2.is c.in_ok-names.ensures.none)

pub returns-in_default-3-clause-none : goal.returns-in_default-3-clause-none
returns-in_default-3-clause-none c =
    let place = c.in-Some.place in
    let lines : List Line = c.args.lines.now in
    let behind : List Line = take (length lines - (place + 1)) (drop (place + 1) lines) in
    no_opening_document lines place c.in-Some.ensures
    (subst (λ ls. IsNoDocument (bytes_of ls)) (take_rest lines (place + 1))
    (subst (λ o. IfNone o (IsNoDocument (bytes_of behind))) c.in_default-3.is c.in_ok-source.ensures.none))

pub returns-clause-begun : goal.returns-clause-begun
returns-clause-begun c =
    let place = c.in-Some.place in
    let lines : List Line = c.args.lines.now in
    let behind : List Line = take (length lines - (place + 1)) (drop (place + 1) lines) in
    let styled : IsStyled (bytes_of (take place lines)) c.in-Some-2.names c.in-Some-2.style =
    subst (λ o. IfSome o (λ read. IsStyled (bytes_of (take place lines)) read.0 read.1)) c.in-Some-2.is c.in_ok-names.ensures.styled in
    let begins : Begins (bytes_of behind) c.in-Some-2.names c.document_of.new.names c.in-Some-3.source.source =
    subst (λ o. IfSome o (λ tree. Begins (bytes_of behind) c.in-Some-2.names c.document_of.new.names tree.source)) c.in-Some-3.is c.in_ok-source.ensures.begun in
    is_opening (bytes_of lines) (bytes_of (take place lines)) (bytes_of (drop (place + 1) lines)) c.in-Some-2.names c.document_of.new.names c.in-Some-2.style c.in-Some-3.source
    (cut_at document_head lines place c.in-Some.ensures) styled
    (subst (λ ls. Begins (bytes_of ls) c.in-Some-2.names c.document_of.new.names c.in-Some-3.source.source) (take_rest lines (place + 1)) begins)
