use Rattle.source_model.proofs.PathOrder.{in_order_entries}
use Rattle.source_model.proofs.Placed.{entries_placed}
use Rattle.source_model.proofs.laws.entries_are_in_document_order.Goals as goal

pub returns : goal.returns
returns c = record { sorted = λ source. in_order_entries 0 source.tree; placed = entries_placed }
