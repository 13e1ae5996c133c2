use Rattle.std.proofs.Common.{◌≡◌, ap, ◌∙◌, arith}
use Rattle.revision_lock.specs.Order.{at_stage}
use Rattle.revision_lock.specs.declared.view.Stage.TheVariants.{Waits}
use Rattle.revision_lock.proofs.Steps.{draws_allowed, looks_allowed}
use Rattle.revision_lock.proofs.lock.TurnLock.await_turn.Goals as goal

pub fetch_add-ticket-requires : goal.fetch_add-ticket-requires
fetch_add-ticket-requires g c =
    let wide : c.args.self.now.board.shared.table_id.words ≡ 3 = c.args.self.now.shaped.0 in
    (c.requires.table, omega arith, draws_allowed _ _ _ _ _ _ _ _ c.requires.idle c.requires.shares)

pub loop-init : goal.loop-init
loop-init g c =
    let drawn = c.fetch_add-ticket.ensures in record {
      table = drawn.0 ∙ c.requires.table;
      waits = (drawn.2.0, drawn.2.1, drawn.2.2 ∙ ap (λ l. (at_stage (Waits drawn.2.0) c.args.pass.now.place.me.0, l)) c.requires.empty_handed);
    }

pub load-serving-requires : goal.load-serving-requires
load-serving-requires g c =
    let wide : c.args.self.now.board.shared.table_id.words ≡ 3 = c.args.self.now.shaped.0 in
    let i = c.loop.invariant in
    (i.table, omega arith, looks_allowed _ _ _ _ _ _ _ _ i.waits.0 (ap (λ m. m.0.stage) i.waits.2))

pub loop-preserved : goal.loop-preserved
loop-preserved g c =
    let i = c.loop.invariant in
    let look = c.load-serving.ensures in
    let stays = (look.2 i.waits.0 (ap (λ m. m.0.stage) i.waits.2)).1 (λ come. c.if-serving-ticket.false (come ∙ i.waits.1)) in
    record { table = look.0 ∙ i.table; waits = (i.waits.0, i.waits.1, stays ∙ i.waits.2) }
