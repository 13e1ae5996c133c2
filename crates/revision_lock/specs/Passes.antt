-- What contracts read of a lock, of its passes and of a turn. All of it is this project's own.
use Rattle.std.specs.Prelude.{◌≡◌, ℕ, ◌<◌, ◌%◌, ◌^◌, List, [], ◌∷◌, Some}
use Rattle.std.specs.Borrow.{Lends, MutBor, Fml}
use mathlib.Core.List.{IsPrefix}
use mir.Syntax.{named}
use denote.RattleType.{RattleType}
use Rattle.revision_lock.specs.declared.chronicle.Chronicle.{Ghosts}
use Rattle.revision_lock.specs.contracts.turn.Turn.{the_row}
use Rattle.revision_lock.specs.declared.lock.TurnLock.{TurnLock}
use Rattle.revision_lock.specs.declared.lock.Pass.{Pass}
use Rattle.revision_lock.specs.declared.turn.Turn.{Turn}
use Rattle.revision_lock.specs.declared.view.Stage.TheVariants.{Idle, Waits, Works}
use Rattle.revision_lock.specs.declared.view.Slot.{Slot}
use Rattle.revision_lock.specs.Order.{at_stage}
use Rattle.revision_lock.specs.declared.view.Slot.TheVariants.{Home, Away, Shown}

-- the value is not in the slot
abbrev pub IsOut : {V : Type 0} → Slot V → Type 0
IsOut (Home x) = ⊥
IsOut Away = Unit {0}
IsOut (Shown x) = Unit {0}

module _ {V B E : Type 0} where
  -- the value that the lock was made with
  abbrev pub first_value : TurnLock V B E → V
  first_value lock = lock.board.shared.key.first.value

  -- the number of seats that the lock was made with
  abbrev pub seats_of : TurnLock V B E → ℕ
  seats_of lock = lock.board.shared.key.seats

  -- the part of the seats that a pass has
  abbrev pub share_of : Pass V B E → ℕ
  share_of pass = pass.place.me.0.share

  -- the entries that a pass has seen, in the order of the one list
  abbrev pub seen_by : Pass V B E → List E
  seen_by pass = pass.place.me.0.seen

  -- the entries that a pass noted, each with its place in the one list
  abbrev pub own_of : Pass V B E → List (ℕ × E)
  own_of pass = pass.place.me.0.own

-- the pass is one of this lock, and in no turn
pub record IsPassOf {V B E : Type 0} (lock : TurnLock V B E) (pass : Pass V B E) : Type 0 where
  pub table : pass.place.table_id ≡ lock.board.shared.table_id
  pub knows : pass.place.me.0.first ≡ Some (first_value lock)
  pub shares : 0 < pass.place.me.0.share
  pub idle : pass.place.me.0.stage ≡ Idle
  pub empty_handed : pass.place.me.1 ≡ []

-- the pass has the turn of this lock, and its value is out of the slot
pub record HasTurn {V B E : Type 0} (lock : TurnLock V B E) (pass : Pass V B E) : Type 0 where
  pub table : pass.place.table_id ≡ lock.board.shared.table_id
  pub knows : pass.place.me.0.first ≡ Some (first_value lock)
  pub shares : 0 < pass.place.me.0.share
  pub works : (ticket : ℕ) × (pass.place.me.0.stage ≡ Works ticket)
  pub holds : (slot : Slot V) × (pass.place.me.1 ≡ (0, slot) ∷ []) × IsOut slot

-- the pass has the turn of this lock, and x is in the slot
pub record HasHome {V B E : Type 0} (lock : TurnLock V B E) (pass : Pass V B E) (x : V) : Type 0 where
  pub table : pass.place.table_id ≡ lock.board.shared.table_id
  pub knows : pass.place.me.0.first ≡ Some (first_value lock)
  pub shares : 0 < pass.place.me.0.share
  pub works : (ticket : ℕ) × (pass.place.me.0.stage ≡ Works ticket)
  pub holds : pass.place.me.1 ≡ (0, Home x) ∷ []

-- the pass has drawn the ticket that is kept as this number, and knows what it knew
pub record IsWaiting {V B E : Type 0} (lock : TurnLock V B E) (number : ℕ) (before after : Pass V B E) : Type 0 where
  pub table : after.place.table_id ≡ lock.board.shared.table_id
  pub waits : (ticket : ℕ) × (ticket % 2 ^ 64 ≡ number) × (after.place.me ≡ (at_stage (Waits ticket) before.place.me.0, []))

-- the turn of the pass has come, with the value x
pub record HasCome {V B E : Type 0} (start_of : V → B) (list_of : V → List E) (lock : TurnLock V B E) (before after : Pass V B E) (x : V) : Type 0 where
  pub home : HasHome lock after x
  pub start : start_of x ≡ start_of (first_value lock)
  pub list : list_of x ≡ seen_by after
  pub seen : IsPrefix (seen_by before) (seen_by after)
  pub own : own_of after ≡ own_of before
  pub share : share_of after ≡ share_of before

module _ {V B E : Type 0} where
  -- the view stayed as it was
  abbrev pub IsSameView : Pass V B E → Pass V B E → Type 0
  IsSameView before after = after.place.me.0 ≡ before.place.me.0

  -- the value, as it stands in the turn
  abbrev pub value_in : Turn V B E → V
  value_in turn = turn.value

  -- the list as it was at the entry or the last note
  abbrev pub noted_in : Turn V B E → List E
  noted_in turn = seen_by turn.pass.now

  -- the own entries of the turn's pass
  abbrev pub own_in : Turn V B E → List (ℕ × E)
  own_in turn = own_of turn.pass.now

  -- the share of the turn's pass
  abbrev pub share_in : Turn V B E → ℕ
  share_in turn = share_of turn.pass.now

  -- the turn is one of this lock
  abbrev pub IsTurnOf : TurnLock V B E → Turn V B E → Type 0
  IsTurnOf lock turn = (turn.lock.now ≡ lock) × HasTurn lock turn.pass.now

  -- the lock whose turn it is
  abbrev pub lock_of : Turn V B E → TurnLock V B E
  lock_of turn = turn.lock.now

  -- which pass the turn has borrowed
  abbrev pub borrowed_by : Turn V B E → ℕ
  borrowed_by turn = turn.pass.ghost_name

  -- the turn with x for its value
  abbrev pub with_value : Turn V B E → V → Turn V B E
  with_value turn x = record turn { value = x }

module _ (V B E : RattleType) (g : Ghosts V.Denot B.Denot E.Denot) where
  -- once the borrow r ends, the turn has the last value that was written through r. The turn's lifetime is the first of the signature
  abbrev pub LendsValue : MutBor (Turn V.Denot B.Denot E.Denot) → MutBor V.Denot → Fml
  LendsValue turn r = Lends (the_row (record { mir = named 1; lft = [] }) V B E g) V turn r (with_value turn.now)
