use Rattle.std.proofs.Common.{◌≡◌, Some, None, option_map, subst}
use Rattle.frozen_tree.specs.Frozen.{cells_of}
use Rattle.source_steps.specs.declared.read.Said.TheVariants as said
use Rattle.source_steps.specs.Said.{Says, body_said}
use Rattle.source_tree.proofs.TextWritten.{no_first, no_document_first, element_first, text_first, comment_first}
use Rattle.source_tree.proofs.lines.write_first.Goals as goal

-- what the node's cells were found to say
pub returns-in_default : goal.returns-in_default
returns-in_default c =
    let e0 = c.in_default.is in
    let e : c.body_at.result ≡ None = cc in
    let says = subst (λ r. Says (cells_of c.args.cells.now) c.args.number (option_map body_said r)) e c.body_at.ensures in
    no_first (cells_of c.args.cells.now) c.args.number c.args.names.now c.args.spaces.now c.args.writer.now says

pub returns-in-Root : goal.returns-in-Root
returns-in-Root c =
    let e0 = c.in-Some.is in
    let e1 = c.in-Root.is in
    let e : c.body_at.result ≡ Some said.Root = cc in
    let says = subst (λ r. Says (cells_of c.args.cells.now) c.args.number (option_map body_said r)) e c.body_at.ensures in
    no_document_first (cells_of c.args.cells.now) c.args.number c.args.names.now c.args.spaces.now c.args.writer.now says

pub returns-in_ok-write_outermost-in-Element : goal.returns-in_ok-write_outermost-in-Element
returns-in_ok-write_outermost-in-Element c =
    let e0 = c.in-Some.is in
    let e1 = c.in-Element.is in
    let e2 = c.in-Element.name-is in
    let e3 = c.in-Element.attributes-is in
    let e : c.body_at.result ≡ Some (said.Element c.in-Element.name c.in-Element.attributes) = cc in
    let says = subst (λ r. Says (cells_of c.args.cells.now) c.args.number (option_map body_said r)) e c.body_at.ensures in
    element_first (cells_of c.args.cells.now) c.args.number c.args.names.now c.args.spaces.now c.args.writer.now c.write_outermost.new.writer c.in-Element.name c.in-Element.attributes.now c.kids_in-kids.result.now says c.kids_in-kids.ensures c.in_ok-write_outermost-in-Element.ensures

pub returns-in_ok-text-in-Text : goal.returns-in_ok-text-in-Text
returns-in_ok-text-in-Text c =
    let e0 = c.in-Some.is in
    let e1 = c.in-Text.is in
    let e2 = c.in-Text.text-is in
    let e : c.body_at.result ≡ Some (said.Text c.in-Text.text) = cc in
    let says = subst (λ r. Says (cells_of c.args.cells.now) c.args.number (option_map body_said r)) e c.body_at.ensures in
    text_first (cells_of c.args.cells.now) c.args.number c.args.names.now c.args.spaces.now c.args.writer.now c.text.new.self c.in-Text.text.now says c.in_ok-text-in-Text.ensures

pub returns-in_ok-comment-in-Comment : goal.returns-in_ok-comment-in-Comment
returns-in_ok-comment-in-Comment c =
    let e0 = c.in-Some.is in
    let e1 = c.in-Comment.is in
    let e2 = c.in-Comment.text-is in
    let e : c.body_at.result ≡ Some (said.Comment c.in-Comment.text) = cc in
    let says = subst (λ r. Says (cells_of c.args.cells.now) c.args.number (option_map body_said r)) e c.body_at.ensures in
    comment_first (cells_of c.args.cells.now) c.args.number c.args.names.now c.args.spaces.now c.args.writer.now c.comment.new.self c.in-Comment.text.now says c.in_ok-comment-in-Comment.ensures
