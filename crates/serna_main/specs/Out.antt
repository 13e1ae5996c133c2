-- To be believed: what the program writes for its words and an input, and the status that it ends with (this project's own). The
-- clauses of the top call stand on this file; what only the crate's own functions tell one another stands in `Endings`.
use Rattle.std.specs.Prelude.{◌≡◌, ◌≢◌, ℕ, List, [], ◌∷◌, ◌++◌, codes}
use Rattle.plain_editor.specs.Input.{IsInput}
use Rattle.plain_editor.specs.Sections.{Sections}
use Rattle.plain_editor.specs.Answers.{answers}
use Rattle.serna_main.specs.declared.status.Status.{Status}
use Rattle.serna_main.specs.declared.status.Status.TheVariants as status

-- the line that refuses an input
abbrev pub refusal : List ℕ
refusal = codes "input refused 1 NotBuilt" ++ (10 ∷ [])

-- the line that refuses the words of the command line
abbrev pub words_refusal : List ℕ
words_refusal = codes "words refused" ++ (10 ∷ [])

-- the input says something: it is a stylesheet or none, a document and a script, of the built form
abbrev pub IsAccepted : List ℕ → Type 0
IsAccepted input = (sections : Sections) × IsInput input sections

-- the input says nothing
abbrev pub IsRefused : List ℕ → Type 0
IsRefused input = (sections : Sections) → IsInput input sections → ⊥

-- an accepted input is answered command by command, and every other one is refused
abbrev pub IsReplied : List ℕ → List ℕ → Status → Type 0
IsReplied input bytes status.Ok = (sections : Sections) × IsInput input sections × (bytes ≡ answers sections)
IsReplied input bytes status.InputRefused = IsRefused input × (bytes ≡ refusal)
IsReplied input bytes status.BadWords = ⊥
IsReplied input bytes status.ReadFault = ⊥
IsReplied input bytes status.WriteFault = ⊥
IsReplied input bytes status.NoMemory = ⊥

-- the empty list of words is accepted, and the input is answered; every other list is refused, whatever the input; nothing else is
-- written for words and an input
abbrev pub IsOut : {A : Type 0} → List A → List ℕ → List ℕ → Status → Type 0
IsOut words input bytes status.Ok = (words ≡ []) × IsReplied input bytes status.Ok
IsOut words input bytes status.BadWords = (words ≢ []) × (bytes ≡ words_refusal)
IsOut words input bytes status.InputRefused = (words ≡ []) × IsReplied input bytes status.InputRefused
IsOut words input bytes status.ReadFault = ⊥
IsOut words input bytes status.WriteFault = ⊥
IsOut words input bytes status.NoMemory = ⊥

-- the run was not ended by a fault or by want of memory
abbrev pub IsEnded : Status → Type 0
IsEnded status.Ok = Unit {0}
IsEnded status.BadWords = Unit {0}
IsEnded status.InputRefused = Unit {0}
IsEnded status.ReadFault = ⊥
IsEnded status.WriteFault = ⊥
IsEnded status.NoMemory = ⊥
