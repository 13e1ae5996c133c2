-- A sink that keeps its bytes in memory (this project's own).
use Rattle.std.specs.Prelude.{ℕ, ◌-◌, ◌||◌, min, Bool, true, false, nat_le, List, ◌++◌, length, take, if◌then◌else◌}
use Rattle.serna_outside.specs.declared.traits.Put.{Put}
use Rattle.serna_outside.specs.declared.traits.Put.TheVariants as put
use Rattle.serna_outside.specs.Outside.{raised}
use Rattle.serna_outside.specs.Counts.{faults_after_write, faults_after_finish, is_to_fail}

-- the bytes that are held, the numbers of the calls that fail, the most bytes that can be held, how many calls and faults
-- there were, and whether finish was the last call
pub record SinkState : Type 0 where
  pub held : List ℕ
  pub failing : List ℕ
  pub room : ℕ
  pub calls : ℕ
  pub faults : ℕ
  pub finished : Bool

-- whether the next call, of write or of finish, is to fail: calls are numbered together, from 1
abbrev pub next_is_to_fail : SinkState → Bool
next_is_to_fail sink = is_to_fail sink.failing (raised sink.calls)

-- what a write of so many bytes answers: a fault where it is to fail or no room is left, and else as many as fit
abbrev pub write_answer : SinkState → ℕ → Put
write_answer sink count =
    if next_is_to_fail sink || nat_le sink.room (length sink.held) then put.Failed
    else put.Took (min count (sink.room - length sink.held))

-- how many bytes a write took
abbrev pub taken_of : Put → ℕ
taken_of (put.Took n) = n
taken_of put.Failed = 0

-- what a write leaves: the bytes that it took stand after those held, with one call more, which is not finish, and one fault
-- more where it failed
abbrev pub after_write : SinkState → List ℕ → Put → SinkState
after_write sink piece result = record {
  held = sink.held ++ take (taken_of result) piece;
  failing = sink.failing;
  room = sink.room;
  calls = raised sink.calls;
  faults = faults_after_write sink.faults result;
  finished = false;
}

-- what finish leaves: the same bytes, one call more, which is finish, and one fault more where it answered false
abbrev pub after_finish : SinkState → Bool → SinkState
after_finish sink result = record {
  held = sink.held;
  failing = sink.failing;
  room = sink.room;
  calls = raised sink.calls;
  faults = faults_after_finish sink.faults result;
  finished = true;
}
