use Rattle.source_model.proofs.PathOrder.{not_before_itself, before_onward, same_where_neither}
use Rattle.source_model.proofs.laws.document_order_is_strict.Goals as goal

pub returns : goal.returns
returns c = record { not_itself = not_before_itself; onward = before_onward; one_first = same_where_neither }
