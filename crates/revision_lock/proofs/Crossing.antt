-- A pass and a lock may go to another thread where the value may. An answer to a goal `IsSend` or `IsSync` of a type that has one of them lists these.
use Rattle.std.proofs.Common.{rules}
use denote.RattleType.{RattleType}
use denote.Param.Send.{IsSend, IsSync, sendable, recorded_sync, struct_sync}
use denote.Struct.Declared.{shape}
use Rattle.std.proofs.Crossing.{frees}
use Rattle.std.proofs.alloc.Global.TheSendSync as heap
use Rattle.atomic_table.proofs.shared.Seat.TheSendSync as seat
use Rattle.atomic_table.proofs.owned.Table.TheSendSync as table
use Rattle.revision_lock.specs.declared.chronicle.Chronicle.{Ghosts}
use Rattle.revision_lock.specs.contracts.view.Slot as slot
use Rattle.revision_lock.specs.contracts.lock.Pass as pass
use Rattle.revision_lock.specs.contracts.lock.TurnLock as lock

pub slot_send : (V : RattleType) → IsSend V → IsSend (slot.the_row V)
slot_send V v = search (rules, sendable) depth 30

pub pass_send : (V B E : RattleType) → IsSend V → IsSend (pass.the_row V B E)
pass_send V B E v = search (sendable, slot_send, seat.the_send)

pub lock_sync : (V B E : RattleType) (g : Ghosts V.Denot B.Denot E.Denot) → IsSend V → IsSync (lock.the_row V B E g)
lock_sync V B E g v =
    recorded_sync (lock.the_field V B E g).row _ _ (lock.the_type V B E g).to_one
    (struct_sync (shape (lock.the_type V B E g)) (search (slot_send, table.the_field_sync, heap.the_send, heap.the_sync, frees), tt))
