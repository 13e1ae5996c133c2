use Rattle.std.proofs.Common.{◌∷◌, ◌++◌}
use Rattle.std.proofs.lemmas.Result.{on_ok_weaker}
use Rattle.tree_lines.specs.Canonical.{outermost_lines, end_line, canonical_lines}
use Rattle.frozen_tree.specs.Frozen.{cells_of}
use Rattle.source_tree.specs.Unnumbered.{unnumbered}
use Rattle.source_tree.specs.Lines.{lines_text}
use Rattle.source_tree.proofs.TextWritten.{begun_then}
use Rattle.source_tree.proofs.lines.write_outermost.Goals as goal

pub returns : goal.returns
returns c =
    on_ok_weaker c.write_content.result
    (λ writes up below rest w is.
    begun_then (outermost_lines c.args.names.now c.args.spaces.now c.args.name c.args.attributes.now)
    (canonical_lines c.args.names.now (unnumbered below) ++ (end_line c.args.names.now c.args.name ∷ canonical_lines c.args.names.now rest)) c.args.writer.now c.begin_outermost.new.self
    c.write_content.new.writer (lines_text c.args.names.now rest) c.in_ok-begin_outermost.ensures (writes up below rest w is))
    c.write_content.ensures
