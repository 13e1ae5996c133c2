-- A document begins a source that can be printed, and a keystroke puts in characters that lines may have.
use Rattle.std.proofs.Common.{[]}
use Rattle.serna_kinds.proofs.NameLemmas.{Grows-refl}
use Rattle.source_tree.proofs.PrintedBack.{begun_printable}
use Rattle.plain_editor.specs.Sheets.{sheet_names, names_of}
use Rattle.plain_editor.proofs.Printing.{step_prints}
use Rattle.plain_editor.proofs.laws.what_is_printed_stays_readable.Goals as goal

pub returns : goal.returns
returns c = record {
  started = λ style document is. begun_printable (sheet_names style) (names_of style document) [] document is (Grows-refl (names_of style document));
  step = step_prints;
}
