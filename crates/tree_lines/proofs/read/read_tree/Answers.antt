-- What is read is a document, and only want of memory keeps one from being read.
use Rattle.std.proofs.Common.{List, ◌∙◌, ap}
use Rattle.serna_kinds.specs.Names.{Space}
use Rattle.serna_kinds.proofs.NameLemmas.{Grows-refl}
use Rattle.tree_lines.specs.Tokens.{items_in}
use Rattle.tree_lines.specs.Whole.{ReadTree}
use Rattle.tree_lines.proofs.Documented.{items-given, document-read, tree-read, items-named, only_memory}
use Rattle.tree_lines.proofs.Whole.{refused_on}
use Rattle.tree_lines.proofs.read.read_tree.Goals as goal

pub returns-in_err-items-clause-refused : goal.returns-in_err-items-clause-refused
returns-in_err-items-clause-refused c =
    refused_on c.from_residual-in_err-items.result c.in_err-items.field-0.0 c.args.lines.now c.from_residual-in_err-items.ensures.1 c.in_err-items.ensures.refused

pub returns-in_err-items-clause-only : goal.returns-in_err-items-clause-only
returns-in_err-items-clause-only c document d e =
    only_memory c.from_residual-in_err-items.result c.in_err-items.field-0.0 c.args.lines.now document c.from_residual-in_err-items.ensures.1 d e c.in_err-items.ensures.refused

pub from_parts-requires : goal.from_parts-requires
from_parts-requires c =
    let names = c.read_items.new.names in
    let lines = c.args.lines.now in
    let ok = c.in_ok-items.ensures in
    tree-read names lines c.in_ok-items.items ok.faultless (ok.items names (Grows-refl names) ∙ ap (λ (s : List Space). items_in names s lines) c.in_ok-spaces.ensures)

pub returns-clause-document : goal.returns-clause-document
returns-clause-document c = document-read c.args.lines.now c.in_ok-items.ensures.faultless

pub returns-clause-items : goal.returns-clause-items
returns-clause-items c table g =
    ap (λ (t : ReadTree). t.items) c.from_parts.ensures ∙ c.in_ok-items.ensures.items table g ∙ ap (λ (s : List Space). items_in table s c.args.lines.now) c.in_ok-spaces.ensures

pub returns-clause-given : goal.returns-clause-given
returns-clause-given c table g document d e =
    let items = ap (λ (t : ReadTree). t.items) c.from_parts.ensures ∙ c.in_ok-items.ensures.items table g ∙ ap (λ (s : List Space). items_in table s c.args.lines.now) c.in_ok-spaces.ensures in
    items-given table c.args.lines.now c.from_parts.result.items document d e items

pub returns-clause-named : goal.returns-clause-named
returns-clause-named c table g =
    let items = ap (λ (t : ReadTree). t.items) c.from_parts.ensures ∙ c.in_ok-items.ensures.items table g ∙ ap (λ (s : List Space). items_in table s c.args.lines.now) c.in_ok-spaces.ensures in
    items-named c.args.names.now c.read_items.new.names table c.args.lines.now c.from_parts.result.items c.in_ok-items.ensures.faultless c.in_ok-items.ensures.table g items
