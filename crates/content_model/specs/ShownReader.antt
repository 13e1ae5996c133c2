-- How the reader's place in a text shows in the code. No public clause speaks of it.
use Rattle.std.specs.Prelude.{◌≡◌, ℕ, ◌≤◌, ◌==◌, Bool, true, false, List, [], ◌∷◌, Option, Some, None, slice_range}
use Rattle.std.specs.Borrow.{Bor}
use Rattle.content_model.specs.declared.reader.Token.{Token}
use Rattle.content_model.specs.declared.reader.Token.TheVariants as token
use Rattle.content_model.specs.declared.reader.Reader.{Reader}
use Rattle.content_model.specs.declared.reader.NamePart.{NamePart}
use Rattle.content_model.specs.declared.reader.NamePart.TheVariants.{First, Colon, Local}
use Rattle.content_model.specs.Symbols.{number_in, Grows}
use Rattle.content_model.specs.Machine.{slot_state, Reading, At, Fixed, InName}
use Rattle.content_model.specs.Shown.{Shows}

-- the reader has this of the text, up to a place in it, with these numbers for the names
abbrev pub ReadsAs : (List ℕ → ℕ) → List ℕ → ℕ → Reader → Reading → Type 0
ReadsAs number text at r (At s) = (r.token ≡ token.None) × Shows number r.builder s
ReadsAs number text at r (Fixed rest s) = (word : Bor (List ℕ)) × (r.token ≡ token.Fixed word) × (word.now ≡ rest) × Shows number r.builder s
ReadsAs number text at r (InName part name slot) = (from : ℕ) × (r.token ≡ token.Name part from) × (name ≡ slice_range text from at) × Shows number r.builder (slot_state slot)

-- the same, whatever names the table gets later
abbrev pub Reads : List (List ℕ) → List ℕ → ℕ → Reader → Reading → Type 0
Reads table text at r reading = (later : List (List ℕ)) → Grows table later → ReadsAs (number_in later) text at r reading

-- a byte is taken exactly where the machine takes it
abbrev pub GoesAs : (List ℕ → ℕ) → List ℕ → ℕ → Bool → Reader → Option Reading → Type 0
GoesAs number text at ok r None = ok ≡ false
GoesAs number text at ok r (Some reading) = (ok ≡ true) × ReadsAs number text at r reading

abbrev pub Goes : List (List ℕ) → List ℕ → ℕ → Bool → Reader → Option Reading → Type 0
Goes table text at ok r None = ok ≡ false
Goes table text at ok r (Some reading) = (ok ≡ true) × Reads table text at r reading

-- a name that is being read began no later than this place
abbrev pub BeganBy : ℕ → Token → Type 0
BeganBy at token.None = Unit {0}
BeganBy at (token.Fixed word) = Unit {0}
BeganBy at (token.Name part from) = from ≤ at

-- what is left of a fixed word
abbrev pub IsLeft : List ℕ → Token → Type 0
IsLeft [] t = t ≡ token.None
IsLeft (b ∷ bs) t = (word : Bor (List ℕ)) × (t ≡ token.Fixed word) × (word.now ≡ b ∷ bs)

-- the word does not go on with this byte
abbrev pub IsOff : List ℕ → ℕ → Type 0
IsOff [] b = Unit {0}
IsOff (c ∷ cs) b = (c == b) ≡ false

-- whether a name has ended in its colon
abbrev pub is_colon : NamePart → Bool
is_colon First = false
is_colon Colon = true
is_colon Local = false
