use Rattle.std.proofs.Common.{◌≡◌, arith, ap, sym, ◌∙◌}
use Rattle.revision_lock.proofs.Steps.{passes_allowed}
use Rattle.revision_lock.proofs.turn.Turn.leave.Goals as goal

pub fetch_add-requires : goal.fetch_add-requires
fetch_add-requires g c =
    let lock = c.args.self.lock.now in
    let wide : lock.board.shared.table_id.words ≡ 3 = lock.shaped.0 in
    let h = c.put_back.ensures.home in
    (h.table, omega arith, passes_allowed _ _ _ _ _ _ _ c.args.self.value h.works.0 _ h.holds h.works.1 c.requires.start (c.requires.list ∙ ap (λ v. v.seen) (sym c.put_back.ensures.same)))
