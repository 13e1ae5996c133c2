-- What is printed so far, with what is left as it is to be printed.
use Rattle.std.proofs.Common.{◌≡◌, ◌++◌, map}
use Rattle.std.specs.Str.{IsUtf8}
use Rattle.std.specs.String.{string_bytes}
use Rattle.page_print.specs.Print.{printed}
use Rattle.page_print.proofs.lines.push_printed.Given as goal

abbrev pub invariant-loop-character : goal.invariant-loop-character
invariant-loop-character l = record {
  utf8 : IsUtf8 l.character-iterator.rest.now;
  so_far : string_bytes l.out ++ map printed l.character-iterator.rest.now ≡ string_bytes l.initial.out ++ map printed l.text;
}
