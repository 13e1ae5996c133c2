-- The bytes so far are digits, and the number is what they say.
use Rattle.std.proofs.Common.{◌≡◌, true, ◌<◌, ◌^◌, take}
use Rattle.std.specs.List.{list_all}
use Rattle.serna_kinds.specs.Qualified.{is_digit}
use Rattle.plain_editor.specs.Commands.{number_of}
use Rattle.live_editor.proofs.command.read_number.Given as goal

abbrev pub invariant-loop-digit : goal.invariant-loop-digit
invariant-loop-digit l = record {
  digits : list_all is_digit (take l.digit-index l.digits) ≡ true;
  number : l.number ≡ number_of (take l.digit-index l.digits);
  below : l.number < 10 ^ l.digit-index;
}
