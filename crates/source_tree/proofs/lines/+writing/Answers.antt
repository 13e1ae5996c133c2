use Rattle.std.proofs.Common.{◌≡◌, get_or, ◌∷◌, ◌++◌, Some, None, option_map, subst}
use Rattle.std.proofs.lemmas.List.{drop_more}
use Rattle.std.proofs.lemmas.Result.{on_ok_weaker}
use Rattle.tree_lines.specs.Canonical.{begin_lines, end_line, canonical_lines}
use Rattle.frozen_tree.specs.Frozen.{cells_of}
use Rattle.source_steps.specs.declared.read.Said.TheVariants as said
use Rattle.source_steps.specs.Said.{Says, body_said}
use Rattle.source_tree.specs.Unnumbered.{unnumbered}
use Rattle.source_tree.specs.Lines.{lines_text}
use Rattle.source_tree.proofs.TextWritten.{begun_then, one_more, all_written, no_node, no_document_node, element_node, text_node, comment_node}
use Rattle.source_tree.proofs.lines.+writing.Goals as goal

pub write_kids-neighbours-preserved : goal.write_kids-neighbours-preserved
write_kids-neighbours-preserved t c = λ up forest w is.
    one_more (cells_of c.args.cells.now) up c.args.left c.args.kids.now c.neighbours.kid-index (get_or c.args.kids.now c.neighbours.kid-index (record { 0 = 0 })) c.args.names.now c.args.writer.now
    c.neighbours.writer c.write_node.new.writer forest (drop_more c.args.kids.now c.neighbours.kid-index (record { 0 = 0 }) c.neighbours-test.true) (c.neighbours.invariant up forest w is)
    c.in_ok-write_node.ensures

pub write_kids-returns : goal.write_kids-returns
write_kids-returns t c = λ up forest w is.
    all_written (cells_of c.args.cells.now) up c.args.left c.args.kids.now c.neighbours.kid-index c.args.names.now c.args.writer.now c.neighbours.writer forest c.neighbours-test.false
    (c.neighbours.invariant up forest w is)

pub write_element-returns : goal.write_element-returns
write_element-returns t c =
    on_ok_weaker c.write_content.result
    (λ writes up below rest some w is.
    begun_then (begin_lines c.args.names.now c.args.name c.args.attributes.now)
    (canonical_lines c.args.names.now (unnumbered below) ++ (end_line c.args.names.now c.args.name ∷ canonical_lines c.args.names.now rest)) c.args.writer.now c.begin.new.self c.write_content.new.writer
    (lines_text c.args.names.now rest) c.in_ok-begin.ensures (writes up below rest w is))
    c.write_content.ensures

-- what the node's cells were found to say
pub write_node-returns-in_default : goal.write_node-returns-in_default
write_node-returns-in_default t c =
    let e0 = c.in_default.is in
    let e : c.body_at.result ≡ None = cc in
    let says = subst (λ r. Says (cells_of c.args.cells.now) c.args.number (option_map body_said r)) e c.body_at.ensures in
    no_node (cells_of c.args.cells.now) c.args.number c.args.left c.args.names.now c.args.writer.now says

pub write_node-returns-in-Root : goal.write_node-returns-in-Root
write_node-returns-in-Root t c =
    let e0 = c.in-Some.is in
    let e1 = c.in-Root.is in
    let e : c.body_at.result ≡ Some said.Root = cc in
    let says = subst (λ r. Says (cells_of c.args.cells.now) c.args.number (option_map body_said r)) e c.body_at.ensures in
    no_document_node (cells_of c.args.cells.now) c.args.number c.args.left c.args.names.now c.args.writer.now says

pub write_node-returns-in-Element : goal.write_node-returns-in-Element
write_node-returns-in-Element t c =
    let e0 = c.in-Some.is in
    let e1 = c.in-Element.is in
    let e2 = c.in-Element.name-is in
    let e3 = c.in-Element.attributes-is in
    let e : c.body_at.result ≡ Some (said.Element c.in-Element.name c.in-Element.attributes) = cc in
    let says = subst (λ r. Says (cells_of c.args.cells.now) c.args.number (option_map body_said r)) e c.body_at.ensures in
    on_ok_weaker c.write_element.result
    (λ writes. element_node (cells_of c.args.cells.now) c.args.number c.args.left c.args.names.now c.args.writer.now c.write_element.new.writer c.in-Element.name c.in-Element.attributes.now c.kids_in-kids.result.now says c.kids_in-kids.ensures writes)
    c.write_element.ensures

pub write_node-returns-in-Text : goal.write_node-returns-in-Text
write_node-returns-in-Text t c =
    let e0 = c.in-Some.is in
    let e1 = c.in-Text.is in
    let e2 = c.in-Text.text-is in
    let e : c.body_at.result ≡ Some (said.Text c.in-Text.text) = cc in
    let says = subst (λ r. Says (cells_of c.args.cells.now) c.args.number (option_map body_said r)) e c.body_at.ensures in
    on_ok_weaker c.text.result (λ written. text_node (cells_of c.args.cells.now) c.args.number c.args.left c.args.names.now c.args.writer.now c.text.new.self c.in-Text.text.now says written) c.text.ensures

pub write_node-returns-in-Comment : goal.write_node-returns-in-Comment
write_node-returns-in-Comment t c =
    let e0 = c.in-Some.is in
    let e1 = c.in-Comment.is in
    let e2 = c.in-Comment.text-is in
    let e : c.body_at.result ≡ Some (said.Comment c.in-Comment.text) = cc in
    let says = subst (λ r. Says (cells_of c.args.cells.now) c.args.number (option_map body_said r)) e c.body_at.ensures in
    on_ok_weaker c.comment.result (λ written. comment_node (cells_of c.args.cells.now) c.args.number c.args.left c.args.names.now c.args.writer.now c.comment.new.self c.in-Comment.text.now says written) c.comment.ensures
