-- What the reader of a command line answers, in the plain editor's words.
use Rattle.live_editor.specs.declared.command.Command.{Command}
use Rattle.live_editor.specs.declared.command.Command.TheVariants as code
use Rattle.plain_editor.specs.Commands as command

abbrev pub said : Command → command.Command
said code.Show = command.Show
said (code.At page line column) = command.At page line column
said (code.Typing text) = command.Typing text
said code.Where = command.Where
said code.Source = command.Tree
said code.NotBuilt = command.NotBuilt
