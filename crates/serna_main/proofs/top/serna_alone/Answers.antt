use Rattle.std.proofs.Common.{arith, ◌≡◌, ◌≢◌, refl, ◌≤◌, List, [], ℕ, IfSome, length, sym, subst, ap, ◌∙◌, Err}
use Rattle.std.proofs.lemmas.Bool.{eqb-false, eqb-true}
use Rattle.plain_editor.specs.Input.{input_limit}
use Rattle.serna_outside.specs.Outside.{Appends, Consumes, IsAtEnd, Rose}
use Rattle.serna_main.specs.declared.status.Status.TheVariants as status
use Rattle.serna_main.specs.Out.{IsEnded, IsReplied}
use Rattle.serna_main.specs.Endings.{IsWhole}
use Rattle.page_print.specs.Outside.{AppendsFront}
use Rattle.page_print.proofs.Bytes.{front_none}
use Rattle.serna_main.proofs.Answered.{not_finished, if_some_all, out_of_left, front_of_left, end_of_left}
use Rattle.serna_main.proofs.Words.{whole_of_ended, out_read, front_read, out_words, front_words, complete_read, some_words, empty_words, not_ok, not_read}
use Rattle.serna_main.proofs.Bytes.{no_calls}
use Rattle.serna_main.proofs.top.serna_alone.Goals as goal

pub returns-then-not-is_empty : goal.returns-then-not-is_empty
returns-then-not-is_empty g c =
    let r = c.refuse_words.ensures in
    let held = g.K.Sink.held c.args.sink.now in
    let held₁ = g.K.Sink.held c.refuse_words.new.sink in
    let some : c.args.words.now ≢ [] = some_words c.args.words.now (eqb-false (length c.args.words.now) 0 (sym c.if-not-is_empty.ensures)) in
    let no_ok : c.refuse_words.result ≡ status.Ok → ⊥ = not_ok c.refuse_words.result r.only in
    let no_read : c.refuse_words.result ≡ status.ReadFault → ⊥ = not_read c.refuse_words.result r.only in
    record {
      out = λ w. if_some_all (g.S.Source.left c.args.source.now) _ (λ input. out_words c.args.words.now input held held₁ c.refuse_words.result some r.refused r.only w);
      front = if_some_all (g.S.Source.left c.args.source.now) _ (λ input. front_words c.args.words.now input held held₁ some r.front);
      end = λ e. absurd (no_ok e);
      finished = r.finished;
      kept_source = λ w. refl;
      kept_sink = λ e. absurd (no_ok e);
      read_fault = λ e. absurd (no_read e);
      read_nothing = λ e. absurd (no_read e);
      write_fault = r.write_fault;
      spoiled = λ e f. absurd (not_finished (g.K.Sink.is_finished c.refuse_words.new.sink) (r.unfinished e) f);
      bad_words = λ e. (some, r.refused e);
      words_first = λ h. r.only;
      unread = λ h. refl;
      calls = no_calls (g.S.Source.left c.args.source.now) (g.S.Source.calls c.args.source.now);
      calls_in_all = omega arith;
      complete = λ none. absurd (some none);
    }

pub returns-in-Err-Failed : goal.returns-in-Err-Failed
returns-in-Err-Failed g c =
    let is : c.close.result ≡ status.ReadFault = c.close.ensures.status in
    let empty : c.args.words.now ≡ [] = empty_words c.args.words.now (eqb-true (length c.args.words.now) 0 (sym c.if-not-is_empty.ensures)) in
    let no_ok : c.close.result ≡ status.Ok → ⊥ = λ e. let f : status.ReadFault ≡ status.Ok = sym is ∙ e in cc in
    let no_words : c.close.result ≡ status.BadWords → ⊥ = λ e. let f : status.ReadFault ≡ status.BadWords = sym is ∙ e in cc in
    let read_fault : c.close.result ≡ status.ReadFault → Rose (g.S.Source.faults c.args.source.now) (g.S.Source.faults c.read_input.new.source) = λ e. c.in-Err-Failed.ensures.failed (ap Err c.in-Err-Failed.field-0-is) in
    let no_write : c.close.result ≡ status.WriteFault → ⊥ = λ e. let f : status.ReadFault ≡ status.WriteFault = sym is ∙ e in cc in
    let write_fault : c.close.result ≡ status.WriteFault → Rose (g.K.Sink.faults c.args.sink.now) (g.K.Sink.faults c.close.new.sink) = λ e. absurd (no_write e) in
    record {
      out = λ w. absurd (subst IsEnded is w);
      front = if_some_all (g.S.Source.left c.args.source.now) _ (λ input bytes other out.
          subst (λ h. AppendsFront (g.K.Sink.held c.args.sink.now) h bytes) (sym c.close.ensures.held) (front_none (g.K.Sink.held c.args.sink.now) bytes));
      end = λ e. absurd (no_ok e);
      finished = λ e. c.close.ensures.finished;
      kept_source = λ w. absurd (subst IsEnded is w);
      kept_sink = λ e. absurd (no_ok e);
      read_fault = read_fault;
      read_nothing = λ e. c.close.ensures.held;
      write_fault = write_fault;
      spoiled = λ e f. absurd (no_write e);
      bad_words = λ e. absurd (no_words e);
      words_first = λ some. absurd (some empty);
      unread = λ some. absurd (some empty);
      calls = c.in-Err-Failed.ensures.calls;
      calls_in_all = c.in-Err-Failed.ensures.calls_in_all;
      complete = λ none. complete_read (g.S.Source.left c.args.source.now) c.close.result (g.K.Sink.held c.args.sink.now) (g.K.Sink.held c.close.new.sink) (g.S.Source.faults c.args.source.now)
          (g.S.Source.faults c.read_input.new.source) (g.K.Sink.faults c.args.sink.now) (g.K.Sink.faults c.close.new.sink) (λ w. absurd (subst IsWhole is w)) no_words read_fault write_fault;
    }

pub returns-in-Err-NoMemory : goal.returns-in-Err-NoMemory
returns-in-Err-NoMemory g c =
    let is : c.close-in-Err-NoMemory.result ≡ status.NoMemory = c.close-in-Err-NoMemory.ensures.status in
    let empty : c.args.words.now ≡ [] = empty_words c.args.words.now (eqb-true (length c.args.words.now) 0 (sym c.if-not-is_empty.ensures)) in
    let no_ok : c.close-in-Err-NoMemory.result ≡ status.Ok → ⊥ = λ e. let f : status.NoMemory ≡ status.Ok = sym is ∙ e in cc in
    let no_words : c.close-in-Err-NoMemory.result ≡ status.BadWords → ⊥ = λ e. let f : status.NoMemory ≡ status.BadWords = sym is ∙ e in cc in
    let read_fault : c.close-in-Err-NoMemory.result ≡ status.ReadFault → Rose (g.S.Source.faults c.args.source.now) (g.S.Source.faults c.read_input.new.source) = λ e. let f : status.NoMemory ≡ status.ReadFault = sym is ∙ e in cc in
    let no_write : c.close-in-Err-NoMemory.result ≡ status.WriteFault → ⊥ = λ e. let f : status.NoMemory ≡ status.WriteFault = sym is ∙ e in cc in
    let write_fault : c.close-in-Err-NoMemory.result ≡ status.WriteFault → Rose (g.K.Sink.faults c.args.sink.now) (g.K.Sink.faults c.close-in-Err-NoMemory.new.sink) = λ e. absurd (no_write e) in
    record {
      out = λ w. absurd (subst IsEnded is w);
      front = if_some_all (g.S.Source.left c.args.source.now) _ (λ input bytes other out.
          subst (λ h. AppendsFront (g.K.Sink.held c.args.sink.now) h bytes) (sym c.close-in-Err-NoMemory.ensures.held) (front_none (g.K.Sink.held c.args.sink.now) bytes));
      end = λ e. absurd (no_ok e);
      finished = λ e. c.close-in-Err-NoMemory.ensures.finished;
      kept_source = λ w. absurd (subst IsEnded is w);
      kept_sink = λ e. absurd (no_ok e);
      read_fault = read_fault;
      read_nothing = λ e. c.close-in-Err-NoMemory.ensures.held;
      write_fault = write_fault;
      spoiled = λ e f. absurd (no_write e);
      bad_words = λ e. absurd (no_words e);
      words_first = λ some. absurd (some empty);
      unread = λ some. absurd (some empty);
      calls = c.in-Err-NoMemory.ensures.calls;
      calls_in_all = c.in-Err-NoMemory.ensures.calls_in_all;
      complete = λ none. complete_read (g.S.Source.left c.args.source.now) c.close-in-Err-NoMemory.result (g.K.Sink.held c.args.sink.now) (g.K.Sink.held c.close-in-Err-NoMemory.new.sink) (g.S.Source.faults c.args.source.now)
          (g.S.Source.faults c.read_input.new.source) (g.K.Sink.faults c.args.sink.now) (g.K.Sink.faults c.close-in-Err-NoMemory.new.sink) (λ w. absurd (subst IsWhole is w)) no_words read_fault write_fault;
    }

pub returns-in-Ok : goal.returns-in-Ok
returns-in-Ok g c =
    let a = c.answer.ensures in
    let ended = c.answer.result in
    let left = g.S.Source.left c.args.source.now in
    let left₁ = g.S.Source.left c.read_input.new.source in
    let held = g.K.Sink.held c.args.sink.now in
    let held₁ = g.K.Sink.held c.answer.new.sink in
    let bytes : List ℕ = c.as_slice.result.now in
    let empty : c.args.words.now ≡ [] = empty_words c.args.words.now (eqb-true (length c.args.words.now) 0 (sym c.if-not-is_empty.ensures)) in
    let consumed : Consumes left left₁ bytes = subst (Consumes left left₁) (sym c.as_slice.ensures.value) c.in-Ok.ensures.read in
    let at_end : length bytes ≤ input_limit → IsAtEnd left₁ = subst (λ b. length b ≤ input_limit → IsAtEnd left₁) (sym c.as_slice.ensures.value) c.in-Ok.ensures.whole in
    let whole : IsWhole ended → IfSome left (λ input. (b : List ℕ) × IsReplied input b ended × Appends held held₁ b) = λ w. out_of_left left left₁ bytes ended held held₁ consumed at_end (a.out w) in
    let read_fault : ended ≡ status.ReadFault → Rose (g.S.Source.faults c.args.source.now) (g.S.Source.faults c.read_input.new.source) = λ e. absurd (a.no_read_fault e) in
    record {
      out = λ w. out_read c.args.words.now left held held₁ ended empty (whole (whole_of_ended ended a.no_words w));
      front = front_read c.args.words.now left held held₁ empty (front_of_left left left₁ bytes held held₁ consumed at_end a.front);
      end = λ e. end_of_left left left₁ bytes held held₁ at_end
          (subst (λ s. (b : List ℕ) × IsReplied bytes b s × Appends held held₁ b) e (a.out (subst IsWhole (sym e) tt)));
      finished = a.closed;
      kept_source = λ w. c.in-Ok.ensures.kept;
      kept_sink = a.kept;
      read_fault = read_fault;
      read_nothing = λ e. absurd (a.no_read_fault e);
      write_fault = a.write_fault;
      spoiled = λ e f. out_read c.args.words.now left held held₁ status.Ok empty (out_of_left left left₁ bytes status.Ok held held₁ consumed at_end (a.spoiled e f));
      bad_words = λ e. absurd (a.no_words e);
      words_first = λ some. absurd (some empty);
      unread = λ some. absurd (some empty);
      calls = c.in-Ok.ensures.calls;
      calls_in_all = c.in-Ok.ensures.calls_in_all;
      complete = λ none. complete_read left ended held held₁ (g.S.Source.faults c.args.source.now) (g.S.Source.faults c.read_input.new.source) (g.K.Sink.faults c.args.sink.now) (g.K.Sink.faults c.answer.new.sink)
          whole a.no_words read_fault a.write_fault;
    }
