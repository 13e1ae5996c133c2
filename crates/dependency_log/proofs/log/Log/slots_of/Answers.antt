use Rattle.std.proofs.Common.{cond, sym, ap, ◌∙◌}
use Rattle.std.specs.List.{list_any}
use Rattle.index_lists.specs.Lists.{times}
use Rattle.serna_kinds.specs.Tape.{is_cell}
use Rattle.dependency_log.specs.Logged.{cells_of}
use Rattle.dependency_log.specs.Edges.{cell_number, slots_from}
use Rattle.dependency_log.proofs.EdgeLemmas.{cells_of-log}
use Rattle.dependency_log.proofs.SlotLemmas.{slots_told, slots_from_first}
use Rattle.dependency_log.proofs.log.Log.slots_of.Goals as goal

pub returns : goal.returns
returns c = record {
  each_once = λ slot.
      ap (times slot) (c.from.ensures ∙ ap (slots_from c.self.inside.edges) c.first.ensures.first ∙ slots_from_first c.self.inside.edges c.self.invariant (cell_number c.self.inside.edges c.args.cell))
      ∙ slots_told c.self.inside.edges c.self.invariant c.args.cell slot
      ∙ ap (λ cells. cond (list_any (is_cell c.args.cell) cells) 1 0) (sym (cells_of-log c.self.inside.edges slot c.self.invariant) ∙ ap (λ log. cells_of log slot) c.self.view_is);
}
