use Rattle.result_origin.proofs.PartLemmas.{boundary}
use Rattle.result_origin.proofs.pages.Part.text.Goals as goal

pub range-requires-clause-start_boundary : goal.range-requires-clause-start_boundary
range-requires-clause-start_boundary c _ =
    boundary c.self.inside.run.text c.self.inside.start c.as_text.result.now c.as_text.ensures.bytes c.as_text.utf8 c.self.invariant.from

pub range-requires-clause-end_boundary : goal.range-requires-clause-end_boundary
range-requires-clause-end_boundary c =
    boundary c.self.inside.run.text c.self.inside.finish c.as_text.result.now c.as_text.ensures.bytes c.as_text.utf8 c.self.invariant.to
