use Rattle.std.proofs.Common.{get_or, ◌+◌, true, false, subst}
use Rattle.std.proofs.lemmas.List.{drop_more, take_rest}
use Rattle.std.proofs.lemmas.Result.{on_ok_weaker}
use Rattle.serna_kinds.specs.Limits.{depth_limit}
use Rattle.frozen_tree.specs.Frozen.{cells_of}
use Rattle.source_tree.specs.Lines.{Writes}
use Rattle.source_tree.proofs.TextWritten.{one_more_at_top, all_before, all_behind}
use Rattle.source_tree.proofs.lines.write_top.Goals as goal

pub neighbours-preserved : goal.neighbours-preserved
neighbours-preserved c = λ up forest w is.
    one_more_at_top (cells_of c.args.cells.now) up c.args.kids.now c.neighbours.place (get_or c.args.kids.now c.neighbours.place (record { 0 = 0 })) c.args.names.now c.args.spaces.now c.args.writer.now
    c.neighbours.writer c.write_first.new.writer false c.in_ok-declared.declared forest c.if-declared.false (drop_more c.args.kids.now c.neighbours.place (record { 0 = 0 }) c.neighbours-test.true)
    (c.neighbours.invariant up forest w is) c.in_ok-declared.ensures

pub returns-then-declared : goal.returns-then-declared
returns-then-declared c =
    on_ok_weaker c.write_kids.result
    (λ writes up forest w is.
    all_behind (cells_of c.args.cells.now) up c.args.kids.now (c.neighbours.place + 1) c.args.names.now c.args.spaces.now c.args.writer.now c.write_first.new.writer c.write_kids.new.writer forest
    (one_more_at_top (cells_of c.args.cells.now) up c.args.kids.now c.neighbours.place (get_or c.args.kids.now c.neighbours.place (record { 0 = 0 })) c.args.names.now c.args.spaces.now c.args.writer.now
    c.neighbours.writer c.write_first.new.writer true c.in_ok-declared.declared forest c.if-declared.true (drop_more c.args.kids.now c.neighbours.place (record { 0 = 0 }) c.neighbours-test.true)
    (c.neighbours.invariant up forest w is) c.in_ok-declared.ensures)
    (subst (λ part. Writes (cells_of c.args.cells.now) part depth_limit c.args.names.now c.write_first.new.writer c.write_kids.new.writer) (take_rest c.args.kids.now (c.neighbours.place + 1)) writes))
    c.write_kids.ensures

pub returns : goal.returns
returns c = λ up forest w is.
    all_before (cells_of c.args.cells.now) up c.args.kids.now c.neighbours.place c.args.names.now c.args.spaces.now c.args.writer.now c.neighbours.writer forest c.neighbours-test.false
    (c.neighbours.invariant up forest w is)
