-- By the place that the origin is.
use Rattle.std.proofs.Common.{Option, Some, None, false, ap, ◌∙◌}
use Rattle.source_primitives.specs.declared.primitive.CaretPlace.{CaretPlace}
use Rattle.plain_editor.specs.Stops.{is_same_place}
use Rattle.live_editor.proofs.editor.comes_from.Goals as goal

pub returns-in-Some : goal.returns-in-Some
returns-in-Some c = c.is_same_place.ensures ∙ ap (λ (o : Option CaretPlace). elim o [ Some other ↦ is_same_place c.args.place other | None ↦ false ]) c.in-Some.ensures
