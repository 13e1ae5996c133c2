-- Sources that give bytes from memory (this project's own).
use Rattle.std.specs.Prelude.{ℕ, ◌==◌, min, List, length, drop, if◌then◌else◌}
use Rattle.serna_outside.specs.declared.traits.Got.{Got}
use Rattle.serna_outside.specs.declared.traits.Got.TheVariants as got
use Rattle.serna_outside.specs.Outside.{raised}
use Rattle.serna_outside.specs.Counts.{faults_after_read, is_to_fail}

-- the bytes that are left, the numbers of the calls that fail, the most bytes that a read gives, and how many calls and
-- faults there were
pub record SourceState : Type 0 where
  pub left : List ℕ
  pub failing : List ℕ
  pub most : ℕ
  pub calls : ℕ
  pub faults : ℕ

-- of a source that never fails: the bytes that are left, and how many calls there were
pub record SureState : Type 0 where
  pub left : List ℕ
  pub calls : ℕ

-- so many bytes; none is the end
abbrev pub got_of : ℕ → Got
got_of count = if count == 0 then got.End else got.Bytes count

-- how many bytes a read gave
abbrev pub count_of : Got → ℕ
count_of (got.Bytes n) = n
count_of got.End = 0
count_of got.Failed = 0

-- what a read answers to a buffer of so many bytes: a fault where its number, from 1, is to fail, and else as many bytes
-- as `most`, the buffer and what is left allow
abbrev pub read_answer : SourceState → ℕ → Got
read_answer source room = if is_to_fail source.failing (raised source.calls) then got.Failed else got_of (min (min source.most room) (length source.left))

-- what a read leaves: the bytes past those that it gave, one call more, and one fault more where it failed
abbrev pub after_read : SourceState → Got → SourceState
after_read source result = record {
  left = drop (count_of result) source.left;
  failing = source.failing;
  most = source.most;
  calls = raised source.calls;
  faults = faults_after_read source.faults result;
}
