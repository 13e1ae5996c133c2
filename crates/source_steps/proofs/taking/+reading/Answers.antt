use Rattle.std.proofs.Common.{◌≡◌, get_or, ◌-◌, [], ◌∷◌, ◌++◌, Some, None, option_map, subst, ap, ◌∙◌, arith}
use Rattle.std.proofs.lemmas.List.{drop_more}
use Rattle.std.proofs.lemmas.Result.{on_ok_weaker}
use Rattle.frozen_tree.specs.Frozen.{cells_of}
use Rattle.source_primitives.specs.declared.primitive.SubItem.TheVariants as item
use Rattle.source_steps.specs.declared.read.Said.TheVariants as said
use Rattle.source_steps.specs.Said.{Says, body_said}
use Rattle.source_steps.proofs.ItemsRead.{one_more, all_read, no_node, no_document_node, element_node, text_node, comment_node, element_read}
use Rattle.source_steps.proofs.taking.+reading.Goals as goal

pub read_all-neighbours-preserved : goal.read_all-neighbours-preserved
read_all-neighbours-preserved t c = λ up forest w is.
    one_more (cells_of c.args.cells.now) up c.args.left c.args.kids.now c.neighbours.kid-index (get_or c.args.kids.now c.neighbours.kid-index (record { 0 = 0 })) c.args.items.now
    c.neighbours.items c.read_node.new.items forest (drop_more c.args.kids.now c.neighbours.kid-index (record { 0 = 0 }) c.neighbours-test.true) (c.neighbours.invariant up forest w is)
    c.in_ok-read_node.ensures

pub read_all-returns : goal.read_all-returns
read_all-returns t c = λ up forest w is.
    all_read (cells_of c.args.cells.now) up c.args.left c.args.kids.now c.neighbours.kid-index c.args.items.now c.neighbours.items forest c.neighbours-test.false
    (c.neighbours.invariant up forest w is)

-- what the node's cells were found to say
pub read_node-returns-in_default : goal.read_node-returns-in_default
read_node-returns-in_default t c =
    let e0 = c.in_default.is in
    let e : c.body_at.result ≡ None = cc in
    let says = subst (λ r. Says (cells_of c.args.cells.now) c.args.number (option_map body_said r)) e c.body_at.ensures in
    no_node (cells_of c.args.cells.now) c.args.number c.args.left c.args.items.now says

pub read_node-returns-in-Root : goal.read_node-returns-in-Root
read_node-returns-in-Root t c =
    let e0 = c.in-Some.is in
    let e1 = c.in-Root.is in
    let e : c.body_at.result ≡ Some said.Root = cc in
    let says = subst (λ r. Says (cells_of c.args.cells.now) c.args.number (option_map body_said r)) e c.body_at.ensures in
    no_document_node (cells_of c.args.cells.now) c.args.number c.args.left c.args.items.now says

pub read_node-returns-in-Element : goal.read_node-returns-in-Element
read_node-returns-in-Element t c =
    let e0 = c.in-Some.is in
    let e1 = c.in-Element.is in
    let e2 = c.in-Element.name-is in
    let e3 = c.in-Element.pairs-is in
    let e : c.body_at.result ≡ Some (said.Element c.in-Element.name c.in-Element.pairs) = cc in
    let says = subst (λ r. Says (cells_of c.args.cells.now) c.args.number (option_map body_said r)) e c.body_at.ensures in
    on_ok_weaker c.read_element.result
    (λ reads. element_node (cells_of c.args.cells.now) c.args.number c.args.left c.args.items.now c.read_element.new.items c.in-Element.name c.in-Element.pairs.now says reads)
    c.read_element.ensures

pub read_node-returns-in_ok-copy-in-Text : goal.read_node-returns-in_ok-copy-in-Text
read_node-returns-in_ok-copy-in-Text t c =
    let e0 = c.in-Some.is in
    let e1 = c.in-Text.is in
    let e2 = c.in-Text.text-is in
    let e : c.body_at.result ≡ Some (said.Text c.in-Text.text) = cc in
    let says = subst (λ r. Says (cells_of c.args.cells.now) c.args.number (option_map body_said r)) e c.body_at.ensures in
    on_ok_weaker c.push.result
    (λ pushed. text_node (cells_of c.args.cells.now) c.args.number c.args.left c.args.items.now c.push.new.self c.in-Text.text.now says
    (pushed ∙ ap (λ text. c.args.items.now ++ item.Text c.args.number text ∷ []) c.in_ok-copy-in-Text.ensures))
    c.push.ensures.ok

pub read_node-returns-in_ok-copy-in-Comment : goal.read_node-returns-in_ok-copy-in-Comment
read_node-returns-in_ok-copy-in-Comment t c =
    let e0 = c.in-Some.is in
    let e1 = c.in-Comment.is in
    let e2 = c.in-Comment.text-is in
    let e : c.body_at.result ≡ Some (said.Comment c.in-Comment.text) = cc in
    let says = subst (λ r. Says (cells_of c.args.cells.now) c.args.number (option_map body_said r)) e c.body_at.ensures in
    on_ok_weaker c.push-in-Comment.result
    (λ pushed. comment_node (cells_of c.args.cells.now) c.args.number c.args.left c.args.items.now c.push-in-Comment.new.self c.in-Comment.text.now says
    (pushed ∙ ap (λ text. c.args.items.now ++ item.Comment c.args.number text ∷ []) c.in_ok-copy-in-Comment.ensures))
    c.push-in-Comment.ensures.ok

pub read_element-returns : goal.read_element-returns
read_element-returns t c =
    on_ok_weaker c.push-2.result
    (λ closed.
    element_read (cells_of c.args.cells.now) c.args.number c.args.name c.args.pairs.now c.in_ok-own.own c.args.left (c.args.left - 1) c.kids_in.result.now c.args.items.now c.push.new.self c.read_all.new.items
    c.push-2.new.self (omega arith) c.kids_in.ensures c.in_ok-own.ensures c.in_ok-push.ensures.ok
    c.in_ok-read_all.ensures closed)
    c.push-2.ensures.ok
