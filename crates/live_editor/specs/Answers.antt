-- What a command is answered, in the plain editor's words.
use Rattle.std.specs.Prelude.{Option, Some, None, Result, Ok, Err}
use Rattle.live_editor.specs.declared.view.Boundary.{Boundary}
use Rattle.live_editor.specs.declared.reply.Standing.{Standing}
use Rattle.live_editor.specs.declared.reply.Standing.TheVariants as standing
use Rattle.live_editor.specs.declared.reply.Rule.{Rule}
use Rattle.live_editor.specs.declared.reply.Rule.TheVariants as code
use Rattle.plain_editor.specs.Editor as editor

abbrev pub rule_of : Rule → editor.Rule
rule_of code.NotBuilt = editor.NotBuilt
rule_of code.NoView = editor.NoView
rule_of code.NoPlace = editor.NoPlace
rule_of code.FixedText = editor.FixedText
rule_of code.ComputedText = editor.ComputedText
rule_of code.AttributeText = editor.AttributeText
rule_of code.Gone = editor.Gone
rule_of code.NoCaret = editor.NoCaret
rule_of code.Long = editor.Long
rule_of code.Nodes = editor.Nodes
rule_of code.Revisions = editor.Revisions

abbrev pub reply_of : Result (Unit {0}) Rule → editor.Reply
reply_of (Ok done) = editor.Done
reply_of (Err rule) = editor.Refused (rule_of rule)

abbrev pub standing_of : Standing → editor.Standing
standing_of standing.Stale = editor.Stale
standing_of standing.Hidden = editor.Hidden
standing_of (standing.Shown page line column) = editor.Shown page line column

-- where a boundary is, or nowhere in the view
abbrev pub shown_at : Option Boundary → editor.Standing
shown_at None = editor.Hidden
shown_at (Some here) = editor.Shown here.page here.line here.column
