use Rattle.std.proofs.Common.{◌≡◌, ◌+◌, refl, sym, ap, ◌∙◌, subst, arith, length, get_or}
use Rattle.content_model.specs.Particle.{with_names}
use Rattle.content_model.specs.Symbols.{number_in}
use Rattle.content_model.specs.Grammar.{IsFirstFault}
use Rattle.content_model.specs.Machine.{start, step}
use Rattle.content_model.specs.ShownReader.{BeganBy}
use Rattle.content_model.proofs.Reading.{grows_refl, grows_trans}
use Rattle.content_model.proofs.Bytes.{is_text}
use Rattle.content_model.proofs.Faults.{fault_at, fault_end}
use Rattle.content_model.proofs.Knowing.{went, stopped, next_read, all_read, same_model, names_positive}
use Rattle.content_model.proofs.model.read_rule.Goals as goal

pub loop-at-init : goal.loop-at-init
loop-at-init c = record {
  grown = grows_refl c.args.symbols.now;
  began = subst (BeganBy 0) (sym c.new-reader.ensures.token) tt;
  read = (start, refl, λ later g. (c.new-reader.ensures.token, c.new-reader.ensures.builder (number_in later)));
}

pub loop-at-preserved : goal.loop-at-preserved
loop-at-preserved c =
    let text = c.args.bytes.now in
    let at = c.loop-at.at in
    let read = c.loop-at.invariant.read in
    let on = went c.byte.new.symbols text (at + 1) c.in-Ok-true.field-0 c.byte.new.self (step read.0 (get_or text at 0)) (c.in-Ok-true.ensures.goes read.0 read.2) c.in-Ok-true.field-0-test in
    record {
      grown = grows_trans c.args.symbols.now c.loop-at.symbols c.byte.new.symbols c.loop-at.invariant.grown c.byte.ensures.grows;
      began = c.in-Ok-true.ensures.later;
      read = (on.0, next_read text at read.0 on.0 (omega arith) read.1 on.1, on.2);
    }

pub returns-in-Ok-false-clause-fault : goal.returns-in-Ok-false-clause-fault
returns-in-Ok-false-clause-fault c = λ place e.
    let text = c.args.bytes.now in
    let at = c.loop-at.at in
    let read = c.loop-at.invariant.read in
    let same : at ≡ place = cc in
    let stop = stopped c.byte.new.symbols text (at + 1) c.in-Ok-false.field-0 c.byte.new.self (step read.0 (get_or text at 0)) (c.in-Ok-false.ensures.goes read.0 read.2) c.in-Ok-false.field-0-test in
    subst (IsFirstFault text) same (fault_at text at read.0 (omega arith) read.1 stop)

pub returns-in-Some-clause-kept : goal.returns-in-Some-clause-kept
returns-in-Some-clause-kept c =
    let read = c.loop-at.invariant.read in
    let table = c.loop-at.symbols in
    (c.in-Some.ensures (number_in table) c.args.bytes.now c.loop-at.at read.0 (read.2 table (grows_refl table))).3

pub returns-in-Some-clause-model : goal.returns-in-Some-clause-model
returns-in-Some-clause-model c =
    let text = c.args.bytes.now in
    let read = c.loop-at.invariant.read in
    let table = c.loop-at.symbols in
    let end = c.in-Some.ensures (number_in table) text c.loop-at.at read.0 (read.2 table (grows_refl table)) in
    let whole = all_read text c.loop-at.at read.0 (omega arith) read.1 in
    (end.0, is_text text read.0 end.0 whole end.1, end.2)

pub returns-in-Some-clause-only : goal.returns-in-Some-clause-only
returns-in-Some-clause-only c = λ written is.
    let text = c.args.bytes.now in
    let read = c.loop-at.invariant.read in
    let table = c.loop-at.symbols in
    let end = c.in-Some.ensures (number_in table) text c.loop-at.at read.0 (read.2 table (grows_refl table)) in
    let whole = all_read text c.loop-at.at read.0 (omega arith) read.1 in
    end.2 ∙ ap (with_names (number_in table)) (same_model text read.0 end.0 written whole end.1 is)

pub returns-in-Some-clause-named : goal.returns-in-Some-clause-named
returns-in-Some-clause-named c =
    let text = c.args.bytes.now in
    let read = c.loop-at.invariant.read in
    let table = c.loop-at.symbols in
    let end = c.in-Some.ensures (number_in table) text c.loop-at.at read.0 (read.2 table (grows_refl table)) in
    let whole = all_read text c.loop-at.at read.0 (omega arith) read.1 in
    let is = is_text text read.0 end.0 whole end.1 in
    names_positive table _ end.0 (λ later g.
    let there = c.in-Some.ensures (number_in later) text c.loop-at.at read.0 (read.2 later g) in
    there.2 ∙ ap (with_names (number_in later)) (same_model text read.0 there.0 end.0 whole there.1 is)) (grows_refl table)

pub returns-in-None-clause-fault : goal.returns-in-None-clause-fault
returns-in-None-clause-fault c = λ place e.
    let text = c.args.bytes.now in
    let read = c.loop-at.invariant.read in
    let table = c.loop-at.symbols in
    let same : length text ≡ place = cc in
    let whole = all_read text c.loop-at.at read.0 (omega arith) read.1 in
    let stop = c.in-None.ensures (number_in table) text c.loop-at.at read.0 (read.2 table (grows_refl table)) in
    subst (IsFirstFault text) same (fault_end text read.0 whole stop)
