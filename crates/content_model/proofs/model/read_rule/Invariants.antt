use Rattle.std.proofs.Common.{◌≡◌, take, Some}
use Rattle.content_model.specs.Symbols.{Grows}
use Rattle.content_model.specs.Machine.{Reading, start, run}
use Rattle.content_model.specs.ShownReader.{Reads, BeganBy}
use Rattle.content_model.proofs.model.read_rule.Given as goal

abbrev pub invariant-loop-at : goal.invariant-loop-at
invariant-loop-at l = record {
  grown : Grows l.fn.symbols l.symbols;
  began : BeganBy l.at l.reader.token;
  read : (reading : Reading) × (run (Some start) (take l.at l.bytes) ≡ Some reading) × Reads l.symbols l.bytes l.at l.reader reading;
}
