use Rattle.std.proofs.Common.{ap, ◌∙◌}
use Rattle.serna_kinds.specs.Names.{id_of}
use Rattle.serna_kinds.proofs.NameLemmas.{id_of-with_name}
use Rattle.serna_kinds.proofs.names.NameTable.intern.Goals as goal

pub returns-clause-number : goal.returns-clause-number
returns-clause-number c table grown =
    let added = c.in_ok-index.ensures in
    id_of-with_name _ _ table _ c.in_ok-index.index added.keys added.index grown ∙ ap (id_of table) c.in_ok-name.ensures
