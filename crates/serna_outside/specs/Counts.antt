-- How the sources and sinks of this crate count their faults, and which calls fail (this project's own).
use Rattle.std.specs.Prelude.{ℕ, ◌==◌, Bool, true, false, List}
use Rattle.std.specs.List.{list_any}
use Rattle.serna_outside.specs.declared.traits.Got.{Got}
use Rattle.serna_outside.specs.declared.traits.Got.TheVariants as got
use Rattle.serna_outside.specs.declared.traits.Put.{Put}
use Rattle.serna_outside.specs.declared.traits.Put.TheVariants as put
use Rattle.serna_outside.specs.Outside.{raised}

-- the faults after a read: a failed one is one more
abbrev pub faults_after_read : ℕ → Got → ℕ
faults_after_read faults (got.Bytes n) = faults
faults_after_read faults got.End = faults
faults_after_read faults got.Failed = raised faults

-- the faults after a write: a failed one is one more
abbrev pub faults_after_write : ℕ → Put → ℕ
faults_after_write faults (put.Took n) = faults
faults_after_write faults put.Failed = raised faults

-- the faults after `finish`: false is one more
abbrev pub faults_after_finish : ℕ → Bool → ℕ
faults_after_finish faults true = faults
faults_after_finish faults false = raised faults

-- whether a call is one of those that are to fail, by its number
abbrev pub is_to_fail : List ℕ → ℕ → Bool
is_to_fail failing call = list_any (λ number. number == call) failing
