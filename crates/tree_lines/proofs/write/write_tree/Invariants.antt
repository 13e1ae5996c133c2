-- What is written with what is left to write is the whole.
use Rattle.std.proofs.Common.{◌≡◌, [], drop}
use Rattle.tree_lines.specs.Writing.{items_text, written_with}
use Rattle.tree_lines.proofs.write.write_tree.Given as goal

abbrev pub invariant-loop-item : goal.invariant-loop-item
invariant-loop-item l = written_with l.names l.walk (drop l.item-index l.item-items) ≡ items_text l.names l.tree.spaces [] l.item-items
