-- What fills the holes of an instance.
use Rattle.std.specs.Prelude.{ℕ, zero, suc, List, []}
use Rattle.serna_kinds.specs.Names.{NameParts}
use Rattle.source_model.specs.Source.{Source}
use Rattle.result_origin.specs.Parts.{Mark}
use Rattle.style_sheet.specs.Sheet.{StyleValue}
use Rattle.instance_store.specs.declared.request.Asked.{Asked}
use Rattle.template_run.specs.Batch.{whole}

-- where so many levels are left at the instance: each hole is filled with the whole of what it asks for, a level deeper
abbrev pub filling : List NameParts → StyleValue → ℕ → Source → Asked → List Mark
filling names style zero source asked = []
filling names style (suc left) source asked = whole names style left asked.request asked.place source
