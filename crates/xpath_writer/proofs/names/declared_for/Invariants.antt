-- None of the declarations so far stands for the URI.
use Rattle.std.proofs.Common.{◌≡◌, drop}
use Rattle.xpath_writer.specs.Writing.{prefix_among}
use Rattle.xpath_writer.proofs.names.declared_for.Given as goal

abbrev pub invariant-loop-place : goal.invariant-loop-place
invariant-loop-place l = prefix_among l.spaces l.uri (drop l.place l.spaces) ≡ prefix_among l.spaces l.uri l.spaces
