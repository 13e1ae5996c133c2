use Rattle.std.proofs.Common.{◌≡◌, [], ◌∷◌, ◌++◌, ap, ◌∙◌, subst}
use Rattle.fo_tables.specs.declared.cells.GridCell.{GridCell}
use Rattle.fo_tables.specs.Cells.{first_free}
use Rattle.fo_tables.specs.Taken.{IsFirstFit}
use Rattle.fo_tables.proofs.Taken.{placed_column, placed_cells, placed_taken}
use Rattle.fo_tables.proofs.cells.Filling.place.Goals as goal

pub returns-clause-column : goal.returns-clause-column
returns-clause-column c =
    placed_column c.args.self.now.cells c.args.self.now.until c.args.row c.args.rows_left c.args.from c.first_fit-column.result c.args.span c.cut_span-span.result
    c.cut_span-span.ensures c.requires.taken c.requires.searched
    (subst (λ until. IsFirstFit until c.args.row c.args.from c.cut_span-span.result.columns c.first_fit-column.result) c.as_slice.ensures c.first_fit-column.ensures)

pub returns-clause-cells : goal.returns-clause-cells
returns-clause-cells c =
    let fit : IsFirstFit c.args.self.now.until c.args.row c.args.from c.cut_span-span.result.columns c.first_fit-column.result
    = subst (λ until. IsFirstFit until c.args.row c.args.from c.cut_span-span.result.columns c.first_fit-column.result) c.as_slice.ensures c.first_fit-column.ensures in
    let cell : GridCell = record { row = c.args.row; column = c.first_fit-column.result; span = c.cut_span-span.result } in
    let first : c.first_fit-column.result ≡ first_free c.args.self.now.cells c.args.row c.args.span.columns
    = placed_column c.args.self.now.cells c.args.self.now.until c.args.row c.args.rows_left c.args.from c.first_fit-column.result c.args.span c.cut_span-span.result
    c.cut_span-span.ensures c.requires.taken c.requires.searched fit in
    placed_cells c.args.self.now.cells c.push.new.self c.args.row c.args.rows_left c.first_fit-column.result c.args.span c.cut_span-span.result c.cut_span-span.ensures first
    (c.in_ok-push.ensures.ok ∙ ap (λ cells. cells ++ cell ∷ []) c.take.ensures.cells)

pub returns-clause-taken : goal.returns-clause-taken
returns-clause-taken c =
    let fit : IsFirstFit c.args.self.now.until c.args.row c.args.from c.cut_span-span.result.columns c.first_fit-column.result
    = subst (λ until. IsFirstFit until c.args.row c.args.from c.cut_span-span.result.columns c.first_fit-column.result) c.as_slice.ensures c.first_fit-column.ensures in
    let cell : GridCell = record { row = c.args.row; column = c.first_fit-column.result; span = c.cut_span-span.result } in
    placed_taken c.args.self.now.cells c.push.new.self c.args.self.now.until c.take.new.self.until c.args.row c.args.from c.first_fit-column.result c.cut_span-span.result
    c.requires.taken fit c.in_ok-take.ensures.until
    (c.in_ok-push.ensures.ok ∙ ap (λ cells. cells ++ cell ∷ []) c.take.ensures.cells)
