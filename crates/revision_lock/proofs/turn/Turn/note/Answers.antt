use Rattle.std.proofs.Common.{◌≡◌, [], ◌∷◌, ◌++◌, ◌-◌, length, length-append, arith, refl, ap, ◌∙◌}
use Rattle.revision_lock.proofs.Steps.{counts_allowed}
use Rattle.revision_lock.proofs.turn.Turn.note.Goals as goal

pub compare_exchange_with-requires : goal.compare_exchange_with-requires
compare_exchange_with-requires g c =
    let lock = c.args.self.now.lock.now in
    let wide : lock.board.shared.table_id.words ≡ 3 = lock.shaped.0 in
    let turn = c.requires.turn.1 in
    let seen = c.args.self.now.pass.now.place.me.0.seen in
    let entry = c.requires.grown.0 in
    let counted : c.entries-count.result ≡ length (seen ++ entry ∷ []) = c.entries-count.ensures ∙ ap length c.requires.grown.1 in
    let before : c.entries-count.result - 1 ≡ length seen = omega (arith, length-append seen (entry ∷ [])) in
    (turn.table, omega arith, counts_allowed _ _ _ _ _ _ _ _ turn.works.0 _ _ _ c.of.result entry turn.works.1 refl (ap g.V.Chronicle.list c.of.ensures ∙ c.requires.grown.1) before counted)
