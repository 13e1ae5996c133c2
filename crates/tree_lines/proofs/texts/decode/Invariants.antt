-- What is read so far, with what is left, means what the text means.
use Rattle.std.proofs.Common.{◌≡◌}
use Rattle.std.specs.Str.{chars, IsUtf8}
use Rattle.tree_lines.specs.Texts.{has_escapes, meant}
use Rattle.tree_lines.specs.Decoding.{text_with, right_with}
use Rattle.tree_lines.proofs.texts.decode.Given as goal

abbrev pub invariant-loop-c : goal.invariant-loop-c
invariant-loop-c l =
    IsUtf8 l.c-iterator.rest.now
    × (text_with l.decoder (chars l.c-iterator.rest.now) ≡ meant l.text)
    × (right_with l.decoder (chars l.c-iterator.rest.now) ≡ has_escapes l.text)
