-- The first line, a line more, a line that breaks a rule, and the end.
use Rattle.std.proofs.Common.{ℕ, Some, ◌∙◌, ap}
use Rattle.tree_lines.proofs.Whole.{reading_init, reading_next, reading_refused, refused_on}
use Rattle.tree_lines.proofs.read.read_lines.Goals as goal

pub loop-place-init : goal.loop-place-init
loop-place-init c = reading_init c.args.spaces.now c.args.lines.now c.new-reader.result c.args.names.now c.new-reader.ensures

pub loop-place-preserved : goal.loop-place-preserved
loop-place-preserved c =
    let read = c.in_ok-read_line.ensures in
    reading_next c.args.spaces.now c.args.lines.now c.loop-place.place c.loop-place.reader c.read_line.new.reader c.args.names.now c.loop-place.names c.read_line.new.names c.index-lines-place.result
    c.loop-place.invariant c.index-lines-place.is c.loop-place-test.true read.none read.read read.names c.read_line.ensures.grows

pub returns-in_err-read_line-clause-refused : goal.returns-in_err-read_line-clause-refused
returns-in_err-read_line-clause-refused c =
    refused_on c.from_residual.result c.in_err-read_line.field-0.0 c.args.lines.now c.from_residual.ensures.1 (λ number rule e.
    let broken = c.in_err-read_line.ensures.refused number rule e in
    reading_refused c.args.spaces.now c.args.lines.now c.loop-place.place c.loop-place.reader c.args.names.now c.loop-place.names c.index-lines-place.result rule
    c.loop-place.invariant c.requires c.index-lines-place.is c.loop-place-test.true broken.1 ∙ ap (λ (n : ℕ). Some (n, rule)) broken.0)
