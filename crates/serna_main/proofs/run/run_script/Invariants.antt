use Rattle.std.proofs.Common.{◌≡◌, take}
use Rattle.serna_outside.specs.Outside.{Appends}
use Rattle.plain_editor.specs.Editor.{opened, replies}
use Rattle.serna_main.proofs.Replies.{bytes_of, after}
use Rattle.serna_main.proofs.run.run_script.Given as goal

-- the replies to the commands so far are written, and the editor has obeyed them
abbrev pub invariant-commands : goal.invariant-commands
invariant-commands g l = record {
  written : Appends (g.K.Sink.held l.initial.sink) (g.K.Sink.held l.sink) (replies l.style (opened l.fn.names l.fn.source.source) (bytes_of (take l.line-index l.script)));
  editor : l.editor ≡ after l.style (opened l.fn.names l.fn.source.source) (bytes_of (take l.line-index l.script));
  faults : g.K.Sink.faults l.sink ≡ g.K.Sink.faults l.initial.sink;
}
