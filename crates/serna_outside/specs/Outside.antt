-- What a read takes from a source and a write leaves in a sink, each where it tells its bytes, and how calls and faults are
-- counted (this project's own).
use Rattle.std.specs.Prelude.{◌≡◌, ℕ, ◌+◌, ◌-◌, ◌^◌, ◌<◌, ◌≤◌, Bool, true, false, min, List, [], ◌++◌, length, take, Option, Some, None}
use Rattle.serna_outside.specs.declared.traits.Got.{Got}
use Rattle.serna_outside.specs.declared.traits.Got.TheVariants as got
use Rattle.serna_outside.specs.declared.traits.Put.{Put}
use Rattle.serna_outside.specs.declared.traits.Put.TheVariants as put

-- the bytes were the front of what was left, and the rest of it is left
abbrev pub Consumes : Option (List ℕ) → Option (List ℕ) → List ℕ → Type 0
Consumes None None bytes = Unit {0}
Consumes None (Some after) bytes = ⊥
Consumes (Some before) None bytes = ⊥
Consumes (Some before) (Some after) bytes = before ≡ bytes ++ after

-- the bytes stand after what was held
abbrev pub Appends : Option (List ℕ) → Option (List ℕ) → List ℕ → Type 0
Appends None None bytes = Unit {0}
Appends None (Some after) bytes = ⊥
Appends (Some before) None bytes = ⊥
Appends (Some before) (Some after) bytes = after ≡ before ++ bytes

-- nothing is left, where that is told
abbrev pub IsAtEnd : Option (List ℕ) → Type 0
IsAtEnd None = Unit {0}
IsAtEnd (Some left) = left ≡ []

abbrev pub Reads : Option (List ℕ) → Option (List ℕ) → List ℕ → Got → Type 0
Reads before after into (got.Bytes n) = (0 < n) × (n ≤ length into) × Consumes before after (take n into)
Reads before after into got.End = IsAtEnd before × (after ≡ before)
Reads before after into got.Failed = after ≡ before

abbrev pub Writes : Option (List ℕ) → Option (List ℕ) → List ℕ → Put → Type 0
Writes before after piece (put.Took n) = (0 < n) × (n ≤ length piece) × Appends before after (take n piece)
Writes before after piece put.Failed = after ≡ before

-- one more, up to the last value of a `u64`
abbrev pub raised : ℕ → ℕ
raised count = min (count + 1) (2 ^ 64 - 1)

-- a count of faults has risen: one that stands at its last value counts as risen
abbrev pub Rose : ℕ → ℕ → Type 0
Rose before after = raised before ≤ after

abbrev pub CountsRead : ℕ → ℕ → Got → Type 0
CountsRead before after (got.Bytes n) = after ≡ before
CountsRead before after got.End = after ≡ before
CountsRead before after got.Failed = Rose before after

abbrev pub CountsWrite : ℕ → ℕ → Put → Type 0
CountsWrite before after (put.Took n) = after ≡ before
CountsWrite before after put.Failed = Rose before after

abbrev pub CountsFinish : ℕ → ℕ → Bool → Type 0
CountsFinish before after true = after ≡ before
CountsFinish before after false = Rose before after
