use Rattle.std.proofs.Common.{◌≡◌, ap, subst, ◌∙◌, arith}
use Rattle.revision_lock.specs.Histories.{IsInOrder, merged}
use Rattle.revision_lock.specs.Passes.{seen_by, own_of}
use Rattle.revision_lock.proofs.Lists.{met_fronts}
use Rattle.revision_lock.proofs.Parts.{apart}
use Rattle.revision_lock.proofs.Passing.{joins}
use Rattle.revision_lock.proofs.Steps.{reads_allowed}
use Rattle.revision_lock.proofs.lock.TurnLock.join_pass.Goals as goal

pub join_seat-requires : goal.join_seat-requires
join_seat-requires g c =
    let wide : c.args.self.now.board.shared.table_id.words ≡ 3 = c.args.self.now.shaped.0 in
    let mine = c.requires.pass in
    let other = c.requires.other in
    (mine.table, other.table, other.empty_handed, omega arith, joins _ _ _ _ _ _ _ _ mine.idle mine.shares other.idle)

pub load-requires : goal.load-requires
load-requires g c =
    let wide : c.args.self.now.board.shared.table_id.words ≡ 3 = c.args.self.now.shaped.0 in
    (c.join_seat.ensures.0 ∙ c.requires.pass.table, omega arith, reads_allowed _ _ _ _ _ _ _ _)

pub returns-clause-apart : goal.returns-clause-apart
returns-clause-apart g c =
    let mine = own_of c.args.pass.now in
    let other = own_of c.args.other in
    let own : c.join_seat.new.seat.me.0.own ≡ merged mine other = ap (λ m. m.0.own) c.join_seat.ensures.2 in
    apart 0 mine other (subst IsInOrder own c.load.ensures.2.1)

pub returns-clause-remembers : goal.returns-clause-remembers
returns-clause-remembers g c =
    (met_fronts (seen_by c.args.pass.now) (seen_by c.args.other) c.join_seat.new.seat.me.0.met c.join_seat.new.seat.me.0.seen c.load.new.seat.me.0.seen
    (ap (λ m. m.0.met) c.join_seat.ensures.2) (ap (λ m. m.0.seen) c.join_seat.ensures.2) (ap (λ m. m.0.seen) c.load.ensures.2.0) c.load.ensures.2.2).0

pub returns-clause-learns : goal.returns-clause-learns
returns-clause-learns g c =
    (met_fronts (seen_by c.args.pass.now) (seen_by c.args.other) c.join_seat.new.seat.me.0.met c.join_seat.new.seat.me.0.seen c.load.new.seat.me.0.seen
    (ap (λ m. m.0.met) c.join_seat.ensures.2) (ap (λ m. m.0.seen) c.join_seat.ensures.2) (ap (λ m. m.0.seen) c.load.ensures.2.0) c.load.ensures.2.2).1
