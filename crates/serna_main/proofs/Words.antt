-- What follows from the words of the command line, and how a run ends.
use Rattle.std.proofs.Common.{◌≡◌, ◌≢◌, ℕ, List, [], ◌∷◌, Option, Some, None, IfSome, inl, inr, ◌⊎◌, length, arith, refl, sym, subst, ◌∙◌}
use Rattle.serna_outside.specs.Outside.{Appends, Rose}
use Rattle.serna_main.specs.declared.status.Status.{Status}
use Rattle.serna_main.specs.declared.status.Status.TheVariants as status
use Rattle.page_print.specs.Outside.{AppendsFront}
use Rattle.serna_main.specs.Out.{IsReplied, IsOut, IsEnded, IsAccepted, words_refusal}
use Rattle.serna_main.specs.Endings.{IsWhole}

-- with no words, what is out is what is replied
pub out_replied : {A : Type 0} (words : List A) (input bytes : List ℕ) (ended : Status) → words ≡ [] → IsReplied input bytes ended → IsOut words input bytes ended
out_replied words input bytes status.Ok empty replied = (empty, replied)
out_replied words input bytes status.BadWords empty replied = absurd replied
out_replied words input bytes status.InputRefused empty replied = (empty, replied)
out_replied words input bytes status.ReadFault empty replied = replied
out_replied words input bytes status.WriteFault empty replied = replied
out_replied words input bytes status.NoMemory empty replied = replied

pub replied_out : {A : Type 0} (words : List A) (input bytes : List ℕ) (ended : Status) → words ≡ [] → IsOut words input bytes ended → IsReplied input bytes ended
replied_out words input bytes status.Ok empty out = out.1
replied_out words input bytes status.BadWords empty out = absurd (out.0 empty)
replied_out words input bytes status.InputRefused empty out = out.1
replied_out words input bytes status.ReadFault empty out = out
replied_out words input bytes status.WriteFault empty out = out
replied_out words input bytes status.NoMemory empty out = out

-- a run that no refused words ended was whole
pub whole_of_ended : (ended : Status) → (ended ≡ status.BadWords → ⊥) → IsEnded ended → IsWhole ended
whole_of_ended status.Ok other is = tt
whole_of_ended status.BadWords other is = other refl
whole_of_ended status.InputRefused other is = tt
whole_of_ended status.ReadFault other is = is
whole_of_ended status.WriteFault other is = is
whole_of_ended status.NoMemory other is = is

pub out_read : {A : Type 0} (words : List A) (left h h₁ : Option (List ℕ)) (ended : Status) → words ≡ [] →
    IfSome left (λ input. (bytes : List ℕ) × IsReplied input bytes ended × Appends h h₁ bytes) → IfSome left (λ input. (bytes : List ℕ) × IsOut words input bytes ended × Appends h h₁ bytes)
out_read words None h h₁ ended empty out = tt
out_read words (Some input) h h₁ ended empty out = (out.0, out_replied words input out.0 ended empty out.1, out.2)

pub front_read : {A : Type 0} (words : List A) (left h h₁ : Option (List ℕ)) → words ≡ [] →
    IfSome left (λ input. (bytes : List ℕ) (ended : Status) → IsReplied input bytes ended → AppendsFront h h₁ bytes) →
    IfSome left (λ input. (bytes : List ℕ) (ended : Status) → IsOut words input bytes ended → AppendsFront h h₁ bytes)
front_read words None h h₁ empty front = tt
front_read words (Some input) h h₁ empty front = λ bytes ended out. front bytes ended (replied_out words input bytes ended empty out)

-- where the words were refused, their line is out
pub out_words : {A : Type 0} (words : List A) (input : List ℕ) (h h₁ : Option (List ℕ)) (ended : Status) → words ≢ [] → (ended ≡ status.BadWords → Appends h h₁ words_refusal) →
    (ended ≡ status.BadWords) ⊎ (ended ≡ status.WriteFault) → IsEnded ended → (bytes : List ℕ) × IsOut words input bytes ended × Appends h h₁ bytes
out_words words input h h₁ ended some written (inl bad) is = (words_refusal, subst (IsOut words input words_refusal) (sym bad) (some, refl), written bad)
out_words words input h h₁ ended some written (inr fault) is = absurd (subst IsEnded fault is)

pub front_words : {A : Type 0} (words : List A) (input : List ℕ) (h h₁ : Option (List ℕ)) → words ≢ [] → AppendsFront h h₁ words_refusal →
    (bytes : List ℕ) (ended : Status) → IsOut words input bytes ended → AppendsFront h h₁ bytes
front_words words input h h₁ some front bytes status.Ok out = absurd (some out.0)
front_words words input h h₁ some front bytes status.BadWords out = subst (AppendsFront h h₁) (sym out.1) front
front_words words input h h₁ some front bytes status.InputRefused out = absurd (some out.0)
front_words words input h h₁ some front bytes status.ReadFault out = absurd out
front_words words input h h₁ some front bytes status.WriteFault out = absurd out
front_words words input h h₁ some front bytes status.NoMemory out = absurd out

-- an accepted input that no fault ended was answered with Ok, or memory ran out
complete_at : (input : List ℕ) (ended : Status) (h h₁ : Option (List ℕ)) (f f₁ k k₁ : ℕ) → (IsWhole ended → (bytes : List ℕ) × IsReplied input bytes ended × Appends h h₁ bytes) →
    (ended ≡ status.BadWords → ⊥) → (ended ≡ status.ReadFault → Rose f f₁) → (ended ≡ status.WriteFault → Rose k k₁) → IsAccepted input → (Rose f f₁ → ⊥) × (Rose k k₁ → ⊥) →
    (ended ≡ status.Ok) ⊎ (ended ≡ status.NoMemory)
complete_at input status.Ok h h₁ f f₁ k k₁ out words read write accepted calm = inl refl
complete_at input status.BadWords h h₁ f f₁ k k₁ out words read write accepted calm = absurd (words refl)
complete_at input status.InputRefused h h₁ f f₁ k k₁ out words read write accepted calm = let refused = out tt in absurd (refused.1.0 accepted.0 accepted.1)
complete_at input status.ReadFault h h₁ f f₁ k k₁ out words read write accepted calm = absurd (calm.0 (read refl))
complete_at input status.WriteFault h h₁ f f₁ k k₁ out words read write accepted calm = absurd (calm.1 (write refl))
complete_at input status.NoMemory h h₁ f f₁ k k₁ out words read write accepted calm = inr refl

pub complete_read : (left : Option (List ℕ)) (ended : Status) (h h₁ : Option (List ℕ)) (f f₁ k k₁ : ℕ) →
    (IsWhole ended → IfSome left (λ input. (bytes : List ℕ) × IsReplied input bytes ended × Appends h h₁ bytes)) →
    (ended ≡ status.BadWords → ⊥) → (ended ≡ status.ReadFault → Rose f f₁) → (ended ≡ status.WriteFault → Rose k k₁) →
    IfSome left (λ input. IsAccepted input → (Rose f f₁ → ⊥) × (Rose k k₁ → ⊥) → (ended ≡ status.Ok) ⊎ (ended ≡ status.NoMemory))
complete_read None ended h h₁ f f₁ k k₁ out words read write = tt
complete_read (Some input) ended h h₁ f f₁ k k₁ out words read write = complete_at input ended h h₁ f f₁ k k₁ out words read write

-- whether there are words
pub some_words : {A : Type 0} (words : List A) → (length words ≡ 0 → ⊥) → words ≢ []
some_words [] some = λ e. some refl
some_words (word ∷ words) some = λ e. cc

pub empty_words : {A : Type 0} (words : List A) → length words ≡ 0 → words ≡ []
empty_words [] is = refl
empty_words (word ∷ words) is = absurd (omega arith)

-- a run that the words ended has neither of these statuses
pub not_ok : (ended : Status) → (ended ≡ status.BadWords) ⊎ (ended ≡ status.WriteFault) → ended ≡ status.Ok → ⊥
not_ok ended (inl bad) e = let f : status.BadWords ≡ status.Ok = sym bad ∙ e in cc
not_ok ended (inr fault) e = let f : status.WriteFault ≡ status.Ok = sym fault ∙ e in cc

pub not_read : (ended : Status) → (ended ≡ status.BadWords) ⊎ (ended ≡ status.WriteFault) → ended ≡ status.ReadFault → ⊥
not_read ended (inl bad) e = let f : status.BadWords ≡ status.ReadFault = sym bad ∙ e in cc
not_read ended (inr fault) e = let f : status.WriteFault ≡ status.ReadFault = sym fault ∙ e in cc
