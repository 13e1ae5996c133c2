use Rattle.std.proofs.Common.{◌≡◌, arith}
use Rattle.revision_lock.proofs.Passing.{splits}
use Rattle.revision_lock.proofs.lock.TurnLock.split_pass.Goals as goal

pub split_seat-requires : goal.split_seat-requires
split_seat-requires g c =
    let wide : c.args.self.now.board.shared.table_id.words ≡ 3 = c.args.self.now.shaped.0 in
    (c.requires.pass.table, omega arith, splits _ _ _ _ _ _ c.requires.pass.idle c.requires.share)
