-- What an adapter means, and what it hands on between a caller and a reader or a writer of std, where that tells its bytes
-- (this project's own, in the words of std).
use Rattle.std.specs.Prelude.{ℕ, Bool, List, take, Option}
use Rattle.std.specs.Io.KnownBytes.{Keeps, Appends, Consumes, IsAtEnd}
use Rattle.serna_outside.specs.declared.traits.Got.{Got}
use Rattle.serna_outside.specs.declared.traits.Got.TheVariants as got
use Rattle.serna_outside.specs.declared.traits.Put.{Put}
use Rattle.serna_outside.specs.declared.traits.Put.TheVariants as put

-- the reader, and how many calls of read and how many faults there were
pub record ReaderState (R : Type 0) : Type 0 where
  pub reader : R
  pub calls : ℕ
  pub faults : ℕ

-- the writer, how many faults there were, and whether finish was the last call
pub record WriterState (W : Type 0) : Type 0 where
  pub writer : W
  pub faults : ℕ
  pub finished : Bool

-- the bytes given are those that the reader lost; at the end it has none, and a failed read loses none
abbrev pub HandsOnRead : Option (List ℕ) → Option (List ℕ) → List ℕ → Got → Type 0
HandsOnRead before after into (got.Bytes n) = Consumes before after (take n into)
HandsOnRead before after into got.End = Keeps before after × IsAtEnd after
HandsOnRead before after into got.Failed = Keeps before after

-- the bytes taken are those that the writer gained; a failed write gains none
abbrev pub HandsOnWrite : Option (List ℕ) → Option (List ℕ) → List ℕ → Put → Type 0
HandsOnWrite before after piece (put.Took n) = Appends before after (take n piece)
HandsOnWrite before after piece put.Failed = Keeps before after
