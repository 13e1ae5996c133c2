use Rattle.std.proofs.Common.{◌≡◌, ◌+◌, ◌-◌, ◌≤◌, vec_len}
use Rattle.plain_editor.specs.Input.{input_limit}
use Rattle.serna_outside.specs.Outside.{Consumes}
use Rattle.serna_main.proofs.read.read_input.Given as goal

-- so much is read, with no fault, and each call so far gave a byte
abbrev pub invariant-pieces : goal.invariant-pieces
invariant-pieces g l = record {
  taken : Consumes (g.S.Source.left l.initial.source) (g.S.Source.left l.source) l.bytes.items;
  faults : g.S.Source.faults l.source ≡ g.S.Source.faults l.initial.source;
  calls : g.S.Source.calls l.source ≤ g.S.Source.calls l.initial.source + vec_len l.bytes;
  calls_in_all : g.S.Source.calls l.source ≤ g.S.Source.calls l.initial.source + (input_limit + 1);
}

abbrev pub decreases-pieces : goal.decreases-pieces
decreases-pieces g l = input_limit + 1 - vec_len l.bytes
