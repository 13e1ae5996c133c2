use Rattle.std.proofs.Common.{◌≡◌, ℕ, ◌+◌, ◌≤◌, List, ◌++◌, length, take, sym, subst, arith, length-append}
use Rattle.serna_outside.specs.Outside.{Consumes, raised}
use Rattle.serna_main.proofs.Bytes.{calls_for, consumes_then}
use Rattle.serna_main.proofs.read.read_input.Goals as goal

-- a call more is not too many, whatever it gave
few : (bytes more : List ℕ) (first calls last : ℕ) → last ≡ raised calls → calls ≤ first + length bytes → last ≤ first + length (bytes ++ more) + 1
few bytes more first calls last is less = omega (arith, length-append bytes more)

pub returns-clause-calls : goal.returns-clause-calls
returns-clause-calls g c =
    calls_for (g.S.Source.left c.args.source.now) (g.S.Source.left c.pieces.source) c.pieces.bytes.items (g.S.Source.calls c.args.source.now) (g.S.Source.calls c.pieces.source) c.pieces.invariant.taken (omega arith)

pub returns-in-End-clause-calls : goal.returns-in-End-clause-calls
returns-in-End-clause-calls g c =
    calls_for (g.S.Source.left c.args.source.now) (g.S.Source.left c.read.new.self) c.pieces.bytes.items (g.S.Source.calls c.args.source.now) (g.S.Source.calls c.read.new.self)
    (subst (λ left. Consumes (g.S.Source.left c.args.source.now) left c.pieces.bytes.items) (sym c.in-End.ensures.bytes.1) c.pieces.invariant.taken) (omega (arith, c.in-End.ensures.called))

pub returns-in-Failed-clause-calls : goal.returns-in-Failed-clause-calls
returns-in-Failed-clause-calls g c =
    calls_for (g.S.Source.left c.args.source.now) (g.S.Source.left c.read.new.self) c.pieces.bytes.items (g.S.Source.calls c.args.source.now) (g.S.Source.calls c.read.new.self)
    (subst (λ left. Consumes (g.S.Source.left c.args.source.now) left c.pieces.bytes.items) (sym c.in-Failed.ensures.bytes) c.pieces.invariant.taken) (omega (arith, c.in-Failed.ensures.called))

pub returns-then-is_err-clause-calls : goal.returns-then-is_err-clause-calls
returns-then-is_err-clause-calls g c =
    calls_for (g.S.Source.left c.args.source.now) (g.S.Source.left c.read.new.self) (c.pieces.bytes.items ++ take c.in-Bytes.n c.read.new.into) (g.S.Source.calls c.args.source.now) (g.S.Source.calls c.read.new.self)
    (consumes_then (g.S.Source.left c.args.source.now) (g.S.Source.left c.pieces.source) (g.S.Source.left c.read.new.self) c.pieces.bytes.items (take c.in-Bytes.n c.read.new.into) c.pieces.invariant.taken c.in-Bytes.ensures.bytes.2)
    (few c.pieces.bytes.items (take c.in-Bytes.n c.read.new.into) (g.S.Source.calls c.args.source.now) (g.S.Source.calls c.pieces.source) (g.S.Source.calls c.read.new.self) c.in-Bytes.ensures.called (omega arith))
