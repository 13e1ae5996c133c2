use Rattle.std.proofs.Common.{◌∙◌, ap, sym}
use Rattle.tree_lines.specs.Faults.{bytes_of}
use Rattle.tree_lines.proofs.Declaring.{declared_more, drop-item}
use Rattle.tree_lines.proofs.declarations.read_spaces.Goals as goal

pub loop-line-preserved : goal.loop-line-preserved
loop-line-preserved c =
    declared_more _ _ _ c.line-item.result.bytes _ _ (ap bytes_of (drop-item _ c.loop-line.line-index c.line-item.result c.line-item.is c.loop-line-test.true))
    (sym c.begins_with.ensures ∙ c.if-not-begins_with.false) c.in_ok-declare_line.ensures c.loop-line.invariant
