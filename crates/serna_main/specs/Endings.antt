-- Bookkeeping: what the crate's own functions tell one another of how an input is answered and a run ends. No clause of the top
-- call stands on this file, and nothing in it need be believed (this project's own).
use Rattle.std.specs.Prelude.{◌≡◌, ◌≢◌, ℕ, List, Option}
use Rattle.serna_outside.specs.Outside.{Appends, Rose}
use Rattle.page_print.specs.Outside.{AppendsFront}
use Rattle.serna_main.specs.declared.status.Status.{Status}
use Rattle.serna_main.specs.declared.status.Status.TheVariants as status
use Rattle.serna_main.specs.Out.{IsReplied}

-- the input was read and answered, with no fault and no want of memory
abbrev pub IsWhole : Status → Type 0
IsWhole status.Ok = Unit {0}
IsWhole status.InputRefused = Unit {0}
IsWhole status.BadWords = ⊥
IsWhole status.ReadFault = ⊥
IsWhole status.WriteFault = ⊥
IsWhole status.NoMemory = ⊥

-- an input that was read is answered so: what the sink held and holds, its count of faults, and that it is finished
pub record IsAnswered (input : List ℕ) (ended : Status) (held held₁ : Option (List ℕ)) (faults faults₁ : ℕ) (finished : Type 0) : Type 0 where
  pub out : IsWhole ended → (bytes : List ℕ) × IsReplied input bytes ended × Appends held held₁ bytes
  pub front : (bytes : List ℕ) (other : Status) → IsReplied input bytes other → AppendsFront held held₁ bytes
  pub closed : ended ≢ status.WriteFault → finished
  pub kept : ended ≡ status.Ok → faults₁ ≡ faults
  pub write_fault : ended ≡ status.WriteFault → Rose faults faults₁
  pub spoiled : ended ≡ status.WriteFault → finished → (bytes : List ℕ) × IsReplied input bytes status.Ok × Appends held held₁ bytes
  pub no_read_fault : ended ≡ status.ReadFault → ⊥
  pub no_words : ended ≡ status.BadWords → ⊥

-- how a run is closed, by its status before and after finish: it stays, but for an Ok where finish answers false
abbrev pub IsClosed : Status → Status → ℕ → ℕ → Type 0
IsClosed status.Ok status.Ok faults faults₁ = faults₁ ≡ faults
IsClosed status.Ok status.WriteFault faults faults₁ = Rose faults faults₁
IsClosed status.Ok status.BadWords faults faults₁ = ⊥
IsClosed status.Ok status.InputRefused faults faults₁ = ⊥
IsClosed status.Ok status.ReadFault faults faults₁ = ⊥
IsClosed status.Ok status.NoMemory faults faults₁ = ⊥
IsClosed status.BadWords ended faults faults₁ = ended ≡ status.BadWords
IsClosed status.InputRefused ended faults faults₁ = ended ≡ status.InputRefused
IsClosed status.ReadFault ended faults faults₁ = ended ≡ status.ReadFault
IsClosed status.WriteFault ended faults faults₁ = ended ≡ status.WriteFault
IsClosed status.NoMemory ended faults faults₁ = ended ≡ status.NoMemory

-- a script's run ends so
abbrev pub IsRun : Status → Type 0
IsRun status.Ok = Unit {0}
IsRun status.WriteFault = Unit {0}
IsRun status.NoMemory = Unit {0}
IsRun status.BadWords = ⊥
IsRun status.InputRefused = ⊥
IsRun status.ReadFault = ⊥

-- the status where finish answers false
abbrev pub spoiled_status : Status → Status
spoiled_status status.Ok = status.WriteFault
spoiled_status status.BadWords = status.BadWords
spoiled_status status.InputRefused = status.InputRefused
spoiled_status status.ReadFault = status.ReadFault
spoiled_status status.WriteFault = status.WriteFault
spoiled_status status.NoMemory = status.NoMemory
