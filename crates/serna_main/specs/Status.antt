-- The exit status of the program (this project's own).
use Rattle.std.specs.Prelude.{ℕ}
use Rattle.serna_main.specs.declared.status.Status.{Status}
use Rattle.serna_main.specs.declared.status.Status.TheVariants as status

abbrev pub number_of : Status → ℕ
number_of status.Ok = 0
number_of status.BadWords = 2
number_of status.InputRefused = 3
number_of status.ReadFault = 4
number_of status.WriteFault = 5
number_of status.NoMemory = 6
