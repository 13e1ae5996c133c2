use Rattle.std.proofs.Common.{◌≡◌, ◌+◌, ◌*◌, List, ◌∷◌, [], Bool, take}
use Rattle.serna_kinds.specs.declared.cells.Cell.{Cell}
use Rattle.serna_kinds.specs.Names.{NameParts}
use Rattle.serna_kinds.specs.Tape.{Agrees, SeenBefore, Within}
use Rattle.source_model.specs.Source.{Source}
use Rattle.source_model.specs.Cells.{cell_of}
use Rattle.style_sheet.specs.Bodies.{body_of, size_of}
use Rattle.template_run.specs.Instances.{Context, body_parts}
use Rattle.template_run.specs.Labels.{IsLabelIfKnown}
use Rattle.template_run.specs.Results.{GrowsBy}
use Rattle.template_run.specs.Allowed.{own_cells}
use Rattle.template_run.proofs.body.Site.+instructions.Given as goal

-- an element has more instructions than its content
abbrev pub decreases-add_body : goal.decreases-add_body
decreases-add_body g l = 2 * size_of l.body.now + 1

abbrev pub decreases-add_instruction : goal.decreases-add_instruction
decreases-add_instruction g l = 2 * size_of (body_of (l.instruction.now ∷ []))

-- the instructions so far are obeyed
abbrev pub invariant-add_body-loop-instruction : goal.invariant-add_body-loop-instruction
invariant-add_body-loop-instruction g l =
    SeenBefore l.initial.tape.cells l.tape.cells (g.V.SourceView.cells l.self.view.now)
    × (l.tape.place_read ≡ l.initial.tape.place_read)
    × ((table : List NameParts) (source : Source) (context : Context) → Agrees l.tape.cells (g.V.SourceView.cells l.self.view.now) (cell_of source) → IsLabelIfKnown source l.self.node l.self.known →
    context.current ≡ l.self.node →
    GrowsBy l.initial.out l.out (body_parts table source l.rule context (body_of (take l.instruction-index l.instruction-items))))
    × ((allowed : Cell → Bool) → Within allowed (own_cells l.self.node) → Within allowed l.initial.tape.cells → Within allowed l.tape.cells)
