-- How an input is answered, from how its script was run and how the run was closed.
use Rattle.std.proofs.Common.{◌≡◌, ℕ, ◌≤◌, ◌<◌, Bool, false, IsTrue, List, [], ◌++◌, Option, Some, None, IfSome, inl, inr, length, refl, sym, ap, ◌∙◌, subst, arith, length-append}
use Rattle.std.proofs.lemmas.Bool.{cases_lt, false≢true}
use Rattle.std.proofs.lemmas.List.{append-nil}
use Rattle.serna_outside.specs.Outside.{Appends, Consumes, IsAtEnd, Rose}
use Rattle.plain_editor.specs.Input.{IsInput, input_limit}
use Rattle.plain_editor.specs.Sections.{Sections}
use Rattle.plain_editor.proofs.Readings.{AreToldByLines, one_reading}
use Rattle.serna_main.specs.declared.status.Status.{Status}
use Rattle.serna_main.specs.declared.status.Status.TheVariants as status
use Rattle.page_print.specs.Outside.{AppendsFront}
use Rattle.plain_editor.specs.Answers.{answers}
use Rattle.serna_main.specs.Out.{refusal, IsRefused, IsReplied}
use Rattle.serna_main.specs.Endings.{IsAnswered, IsClosed}
use Rattle.page_print.proofs.Bytes.{front_all}

-- what is a front of the replies to one reading is a front of whatever is out for the input
pub front_accepted : AreToldByLines → (input : List ℕ) (sections : Sections) (h h₁ : Option (List ℕ)) → IsInput input sections → AppendsFront h h₁ (answers sections) →
    (bytes : List ℕ) (other : Status) → IsReplied input bytes other → AppendsFront h h₁ bytes
front_accepted told input sections h h₁ is f bytes status.Ok out =
    subst (AppendsFront h h₁) (sym (out.2 ∙ ap answers (one_reading told input out.0 sections out.1 is))) f
front_accepted told input sections h h₁ is f bytes status.InputRefused out = absurd (out.0 sections is)
front_accepted told input sections h h₁ is f bytes status.BadWords out = absurd out
front_accepted told input sections h h₁ is f bytes status.ReadFault out = absurd out
front_accepted told input sections h h₁ is f bytes status.WriteFault out = absurd out
front_accepted told input sections h h₁ is f bytes status.NoMemory out = absurd out

pub front_refused : (input : List ℕ) (h h₁ : Option (List ℕ)) → IsRefused input → AppendsFront h h₁ refusal → (bytes : List ℕ) (other : Status) → IsReplied input bytes other → AppendsFront h h₁ bytes
front_refused input h h₁ is f bytes status.Ok out = absurd (is out.0 out.1)
front_refused input h h₁ is f bytes status.InputRefused out = subst (AppendsFront h h₁) (sym out.1) f
front_refused input h h₁ is f bytes status.BadWords out = absurd out
front_refused input h h₁ is f bytes status.ReadFault out = absurd out
front_refused input h h₁ is f bytes status.WriteFault out = absurd out
front_refused input h h₁ is f bytes status.NoMemory out = absurd out

-- a script that was answered whole, and closed
pub answered_ok : AreToldByLines → (input : List ℕ) (sections : Sections) (h h₁ : Option (List ℕ)) (f f₁ : ℕ) (finished : Type 0) (ended : Status) → IsInput input sections →
    Appends h h₁ (answers sections) → finished → IsClosed status.Ok ended f f₁ → IsAnswered input ended h h₁ f f₁ finished
answered_ok told input sections h h₁ f f₁ finished status.Ok is written done closed = record {
  out = λ w. (answers sections, (sections, is, refl), written);
  front = front_accepted told input sections h h₁ is (front_all h h₁ (answers sections) written);
  closed = λ e. done;
  kept = λ e. closed;
  write_fault = λ e. cc;
  spoiled = λ e. cc;
  no_read_fault = λ e. cc;
  no_words = λ e. cc;
}
answered_ok told input sections h h₁ f f₁ finished status.WriteFault is written done closed = record {
  out = λ w. absurd w;
  front = front_accepted told input sections h h₁ is (front_all h h₁ (answers sections) written);
  closed = λ e. done;
  kept = λ e. cc;
  write_fault = λ e. closed;
  spoiled = λ e f. (answers sections, (sections, is, refl), written);
  no_read_fault = λ e. cc;
  no_words = λ e. cc;
}
answered_ok told input sections h h₁ f f₁ finished status.BadWords is written done closed = absurd closed
answered_ok told input sections h h₁ f f₁ finished status.InputRefused is written done closed = absurd closed
answered_ok told input sections h h₁ f f₁ finished status.ReadFault is written done closed = absurd closed
answered_ok told input sections h h₁ f f₁ finished status.NoMemory is written done closed = absurd closed

-- a run that want of memory ended
pub answered_no_memory : (input : List ℕ) (h h₁ : Option (List ℕ)) (f f₁ : ℕ) (finished : Type 0) (ended : Status) →
    ((bytes : List ℕ) (other : Status) → IsReplied input bytes other → AppendsFront h h₁ bytes) → finished → ended ≡ status.NoMemory → IsAnswered input ended h h₁ f f₁ finished
answered_no_memory input h h₁ f f₁ finished ended front done is =
    subst (λ e. IsAnswered input e h h₁ f f₁ finished) (sym is) (record {
      out = λ w. absurd w;
      front = front;
      closed = λ e. done;
      kept = λ e. cc;
      write_fault = λ e. cc;
      spoiled = λ e. cc;
      no_read_fault = λ e. cc;
      no_words = λ e. cc;
    })

-- a run that a failed write ended, after which finish is not called
pub answered_write_fault : (input : List ℕ) (h h₁ : Option (List ℕ)) (f f₁ : ℕ) (finished : Type 0) →
    ((bytes : List ℕ) (other : Status) → IsReplied input bytes other → AppendsFront h h₁ bytes) → Rose f f₁ → (finished → ⊥) → IsAnswered input status.WriteFault h h₁ f f₁ finished
answered_write_fault input h h₁ f f₁ finished front rose unfinished = record {
  out = λ w. absurd w;
  front = front;
  closed = λ e. absurd (e refl);
  kept = λ e. cc;
  write_fault = λ e. rose;
  spoiled = λ e f. absurd (unfinished f);
  no_read_fault = λ e. cc;
  no_words = λ e. cc;
}

-- an input that was refused
pub answered_refused : (input : List ℕ) (h h₁ : Option (List ℕ)) (f f₁ : ℕ) (finished : Type 0) (ended : Status) → IsRefused input → Appends h h₁ refusal → finished → ended ≡ status.InputRefused →
    IsAnswered input ended h h₁ f f₁ finished
answered_refused input h h₁ f f₁ finished ended refused written done is =
    subst (λ e. IsAnswered input e h h₁ f f₁ finished) (sym is) (record {
      out = λ w. (refusal, (refused, refl), written);
      front = front_refused input h h₁ refused (front_all h h₁ refusal written);
      closed = λ e. done;
      kept = λ e. cc;
      write_fault = λ e. cc;
      spoiled = λ e. cc;
      no_read_fault = λ e. cc;
      no_words = λ e. cc;
    })

-- what is false is not true
pub not_finished : (finished : Bool) → finished ≡ false → IsTrue finished → ⊥
not_finished finished is true_too = false≢true (sym is ∙ true_too)

-- what holds of each value holds of the value that is there
pub if_some_all : {A : Type 0} (o : Option A) (P : A → Type 0) → ((x : A) → P x) → IfSome o P
if_some_all None P all = tt
if_some_all (Some x) P all = all x

-- what was read is the whole input, or the input is too long
pub data Whole (bytes input : List ℕ) : Type 0 where
  read_whole : input ≡ bytes → Whole bytes input
  too_long : input_limit < length bytes → input_limit < length input → Whole bytes input

whole_of : (bytes input rest : List ℕ) → input ≡ bytes ++ rest → (length bytes ≤ input_limit → rest ≡ []) → Whole bytes input
whole_of bytes input rest is at_end = elim (cases_lt input_limit (length bytes)) [
  | inl long ↦ too_long long (omega (arith, ap length is, length-append bytes rest))
  | inr short ↦ read_whole (is ∙ ap (λ r. bytes ++ r) (at_end short) ∙ append-nil bytes)
]

out_whole : (bytes input : List ℕ) (ended : Status) (h h₁ : Option (List ℕ)) → Whole bytes input → ((b : List ℕ) × IsReplied bytes b ended × Appends h h₁ b) → (b : List ℕ) × IsReplied input b ended × Appends h h₁ b
out_whole bytes input ended h h₁ (read_whole is) out = (out.0, subst (λ i. IsReplied i out.0 ended) (sym is) out.1, out.2)
out_whole bytes input status.Ok h h₁ (too_long long longer) out = let short = out.1.1.short in absurd (omega arith)
out_whole bytes input status.InputRefused h h₁ (too_long long longer) out = (out.0, ((λ sections is. let short = is.short in absurd (omega arith)), out.1.1), out.2)
out_whole bytes input status.BadWords h h₁ (too_long long longer) out = absurd out.1
out_whole bytes input status.ReadFault h h₁ (too_long long longer) out = absurd out.1
out_whole bytes input status.WriteFault h h₁ (too_long long longer) out = absurd out.1
out_whole bytes input status.NoMemory h h₁ (too_long long longer) out = absurd out.1

front_whole : (bytes input : List ℕ) (h h₁ : Option (List ℕ)) → Whole bytes input → ((b : List ℕ) (other : Status) → IsReplied bytes b other → AppendsFront h h₁ b) → (b : List ℕ) (other : Status) → IsReplied input b other → AppendsFront h h₁ b
front_whole bytes input h h₁ (read_whole is) front b other out = front b other (subst (λ i. IsReplied i b other) is out)
front_whole bytes input h h₁ (too_long long longer) front b status.Ok out = let short = out.1.short in absurd (omega arith)
front_whole bytes input h h₁ (too_long long longer) front b status.InputRefused out = front b status.InputRefused ((λ sections is. let short = is.short in absurd (omega arith)), out.1)
front_whole bytes input h h₁ (too_long long longer) front b status.BadWords out = absurd out
front_whole bytes input h h₁ (too_long long longer) front b status.ReadFault out = absurd out
front_whole bytes input h h₁ (too_long long longer) front b status.WriteFault out = absurd out
front_whole bytes input h h₁ (too_long long longer) front b status.NoMemory out = absurd out

pub out_of_left : (left left₁ : Option (List ℕ)) (bytes : List ℕ) (ended : Status) (h h₁ : Option (List ℕ)) → Consumes left left₁ bytes → (length bytes ≤ input_limit → IsAtEnd left₁) →
    ((b : List ℕ) × IsReplied bytes b ended × Appends h h₁ b) → IfSome left (λ input. (b : List ℕ) × IsReplied input b ended × Appends h h₁ b)
out_of_left None left₁ bytes ended h h₁ consumed at_end out = tt
out_of_left (Some input) None bytes ended h h₁ consumed at_end out = absurd consumed
out_of_left (Some input) (Some rest) bytes ended h h₁ consumed at_end out = out_whole bytes input ended h h₁ (whole_of bytes input rest consumed at_end) out

pub front_of_left : (left left₁ : Option (List ℕ)) (bytes : List ℕ) (h h₁ : Option (List ℕ)) → Consumes left left₁ bytes → (length bytes ≤ input_limit → IsAtEnd left₁) →
    ((b : List ℕ) (other : Status) → IsReplied bytes b other → AppendsFront h h₁ b) → IfSome left (λ input. (b : List ℕ) (other : Status) → IsReplied input b other → AppendsFront h h₁ b)
front_of_left None left₁ bytes h h₁ consumed at_end front = tt
front_of_left (Some input) None bytes h h₁ consumed at_end front = absurd consumed
front_of_left (Some input) (Some rest) bytes h h₁ consumed at_end front = front_whole bytes input h h₁ (whole_of bytes input rest consumed at_end) front

-- an input that was answered with Ok was read whole
pub end_of_left : (left left₁ : Option (List ℕ)) (bytes : List ℕ) (h h₁ : Option (List ℕ)) → (length bytes ≤ input_limit → IsAtEnd left₁) → ((b : List ℕ) × IsReplied bytes b status.Ok × Appends h h₁ b) → IsAtEnd left₁
end_of_left left left₁ bytes h h₁ at_end out = at_end out.1.1.short
