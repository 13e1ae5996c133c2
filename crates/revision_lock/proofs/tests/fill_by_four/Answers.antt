use Rattle.std.proofs.Common.{List, [], ◌∷◌, codes}
use mir.Syntax.{named}
use contract.Lifetimes.{Lfts}
use denote.Param.{param}
use denote.Param.Send.{IsSync, IsSend, sendable, param_send, recorded_send, struct_send, shr_send}
use denote.Struct.Struct.{Struct}
use denote.Struct.Declared.{shape}
use denote.RattleType.{RattleType}
use denote.Struct.Field.{shr_ref_field, u64-field}
use denote.Struct.Tuple.{TupleAt, type_at}
use Rattle.revision_lock.specs.contracts.lock.TurnLock as lock
use Rattle.revision_lock.specs.contracts.lock.Pass as pass
use Rattle.revision_lock.specs.contracts.tests.Numbers as numbers_type
use Rattle.revision_lock.specs.contracts.tests.NumbersChronicle.TheImpl as chronicle
use Rattle.revision_lock.proofs.Crossing.{pass_send, lock_sync}
use Rattle.revision_lock.proofs.tests.Numbers.TheSendSync as numbers
use Rattle.revision_lock.proofs.tests.fill_by_four.Lts as lts
use Rattle.revision_lock.proofs.tests.fill_by_four.Goals as goal

abbrev number : RattleType
number = (u64-field).row

abbrev lock_row : RattleType
lock_row = lock.the_row numbers_type.the_row number number chronicle.ghosts

abbrev pass_row : RattleType
pass_row = pass.the_row numbers_type.the_row number number

shared : IsSync lock_row
shared = lock_sync numbers_type.the_row number number chronicle.ghosts numbers.the_send

mine : IsSend pass_row
mine = pass_send numbers_type.the_row number number numbers.the_send

abbrev rows : RattleType → Lfts 10 → List RattleType
rows R κs =
    (shr_ref_field (record { mir = named 6; lft = κs.1.1.1.1.1.1.0 }) (param 0 R) tt).row
    ∷ (shr_ref_field (record { mir = named 7; lft = κs.1.1.1.1.1.1.1.0 }) lock_row tt).row
    ∷ pass_row
    ∷ pass_row
    ∷ []

-- what the closure has captured
captured : (R : RattleType) → IsSync (param 0 R) → (κs : Lfts 10) → IsSend (TupleAt (codes "revision_lock::tests::fn::fill_by_four::join+arg2") (rows R κs))
captured R sync κs =
    let T = type_at (codes "revision_lock::tests::fn::fill_by_four::join+arg2") (rows R κs) in
    recorded_send (Struct (shape T)) _ _ T.to_one (struct_send (shape T) (shr_send _ _ _ sync, (shr_send _ _ _ shared, (mine, (mine, tt)))))

pub join-left-requires-send-F : goal.join-left-requires-send-F
join-left-requires-send-F g c κs within =
    let inner = captured g.row.R c.type_bounds.sync-R κs in
    param_send 1 (lts.arg-1-1 g.row.R g.R.laws g.R.Threads-dict g.R.Wait-dict κs) (search inner)

pub join-left-requires-send-A : goal.join-left-requires-send-A
join-left-requires-send-A g c κs within = search (sendable, pass_send, numbers.the_send) depth 12
