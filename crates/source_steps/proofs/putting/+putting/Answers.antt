use Rattle.std.proofs.Common.{◌≡◌, ◌++◌, length, drop, arith, refl, ap, ◌∙◌, subst, slice_get, Some}
use Rattle.std.proofs.lemmas.Bool.{false≢true}
use Rattle.std.proofs.lemmas.Option.{slice_get_read}
use Rattle.source_primitives.specs.declared.primitive.SubItem.TheVariants as item
use Rattle.source_steps.specs.Putting.{EndHere}
use Rattle.source_steps.proofs.NodesPut.{begin_piece, goes_on_then, all_put, ends_at_end, ends_at_finish, element_put, text_put, comment_put}
use Rattle.source_steps.proofs.putting.+putting.Goals as goal
use Rattle.source_steps.proofs.putting.+putting.Goals.{put_all-else-neighbours-test, put_all-then-neighbours-test+then-is_finish}

pub put_all-neighbours-preserved : goal.put_all-neighbours-preserved
put_all-neighbours-preserved t c =
    let inv = c.neighbours.invariant in
    let further = c.in_ok-to.ensures.further in (
      omega (arith, inv.0, further.0),
      further.1,
      λ old more ends stand.
          goes_on_then c.args.items.now c.args.up c.args.at c.args.changes.now c.new-kids.result.items more old c.neighbours.to c.neighbours.changes c.neighbours.kids.items
          c.in_ok-to.to c.put_one.new.changes c.put_one.new.kids.items c.index-items-to.result
          (slice_get_read c.args.items.now (length c.args.items.now) c.neighbours.to c.index-items-to.result refl c.neighbours-test.true c.index-items-to.is)
          (λ e. false≢true (c.if-is_finish.ensures.1 e)) ends (inv.2 old more ends stand) c.in_ok-to.ensures.puts,
    )

pub put_all-returns-clause-all : goal.put_all-returns-clause-all
put_all-returns-clause-all t c = λ old more ends stand.
    let here : EndHere (drop c.neighbours.to c.args.items.now) = elim c.neighbours-test.branch [
      | put_all-else-neighbours-test w ↦ ends_at_end c.args.items.now c.neighbours.to w.neighbours-test.false
      | put_all-then-neighbours-test+then-is_finish w ↦ ends_at_finish c.args.items.now c.neighbours.to
          (subst (λ x. slice_get c.args.items.now c.neighbours.to ≡ Some x) (w.if-is_finish.ensures.0 refl)
          (slice_get_read c.args.items.now (length c.args.items.now) c.neighbours.to w.index-items-to.result refl w.neighbours-test.true w.index-items-to.is))
    ] in
    all_put c.args.items.now c.args.up c.args.at c.args.changes.now c.new-kids.result.items more old c.neighbours.to c.neighbours.changes c.neighbours.kids.items
    c.new-kids.ensures.items here (c.neighbours.invariant.2 old more ends stand)

pub put_one-returns-in_ok-push-in-Begin-clause-puts : goal.put_one-returns-in_ok-push-in-Begin-clause-puts
put_one-returns-in_ok-push-in-Begin-clause-puts t c =
    let here : slice_get c.args.items.now c.args.at ≡ Some (item.Begin c.in-Begin.node c.in-Begin.name c.in-Begin.pairs) =
    slice_get_read c.args.items.now (length c.args.items.now) c.args.at c.index-items-at.result refl c.requires c.index-items-at.is ∙ ap Some c.in-Begin.is in
    element_put c.args.items.now c.args.up c.args.at c.args.changes.now c.put_beginning.new.changes c.put_all.new.changes c.put_children.new.changes c.args.kids.now.items
    c.in_ok-below-in-Begin.below.kids.items c.push.new.self.items c.in_ok-below-in-Begin.below.to c.behind.result c.in-Begin.node c.in-Begin.name c.in-Begin.pairs here
    (c.in_ok-put_beginning-in-Begin.ensures ∙ ap (λ ps. c.args.changes.now ++ begin_piece c.args.up c.in-Begin.node c.in-Begin.name ps) c.as_slice.ensures)
    c.in_ok-below-in-Begin.ensures.all c.in_ok-put_children-in-Begin.ensures c.in_ok-push-in-Begin.ensures.items c.behind.ensures.next

pub put_one-returns-in_ok-push-in-Text-clause-puts : goal.put_one-returns-in_ok-push-in-Text-clause-puts
put_one-returns-in_ok-push-in-Text-clause-puts t c =
    let here : slice_get c.args.items.now c.args.at ≡ Some (item.Text c.in-Text.node c.in-Text.text) =
    slice_get_read c.args.items.now (length c.args.items.now) c.args.at c.index-items-at.result refl c.requires c.index-items-at.is ∙ ap Some c.in-Text.is in
    text_put c.args.items.now c.args.up c.args.at c.args.changes.now c.args.kids.now.items c.in-Text.node c.in-Text.text c.put_leaf.new.changes c.push-in-Text.new.self.items here
    c.in_ok-put_leaf-in-Text.ensures c.in_ok-push-in-Text.ensures.items

pub put_one-returns-in_ok-push-in-Comment-clause-puts : goal.put_one-returns-in_ok-push-in-Comment-clause-puts
put_one-returns-in_ok-push-in-Comment-clause-puts t c =
    let here : slice_get c.args.items.now c.args.at ≡ Some (item.Comment c.in-Comment.node c.in-Comment.text) =
    slice_get_read c.args.items.now (length c.args.items.now) c.args.at c.index-items-at.result refl c.requires c.index-items-at.is ∙ ap Some c.in-Comment.is in
    comment_put c.args.items.now c.args.up c.args.at c.args.changes.now c.args.kids.now.items c.in-Comment.node c.in-Comment.text c.put_leaf-in-Comment.new.changes c.push-in-Comment.new.self.items here
    c.in_ok-put_leaf-in-Comment.ensures c.in_ok-push-in-Comment.ensures.items
