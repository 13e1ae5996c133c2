-- What is read of all lines.
use Rattle.std.proofs.Common.{ℕ, ◌∙◌, ap, sym}
use Rattle.std.specs.Option.{option_map}
use Rattle.tree_lines.specs.declared.rules.LineRule.{LineRule}
use Rattle.tree_lines.specs.Faults.{number_at}
use Rattle.tree_lines.proofs.Whole.{reading_fault, reading_items, refused_on}
use Rattle.tree_lines.proofs.read.read_items.Goals as goal

pub returns-in_err-reader-clause-refused : goal.returns-in_err-reader-clause-refused
returns-in_err-reader-clause-refused c =
    refused_on c.from_residual.result c.in_err-reader.field-0.0 c.args.lines.now c.from_residual.ensures.1 c.in_err-reader.ensures.refused

pub returns-clause-faultless : goal.returns-clause-faultless
returns-clause-faultless c =
    reading_fault c.args.spaces.now c.args.lines.now c.in_ok-reader.reader c.args.names.now c.read_lines.new.names c.in_ok-reader.ensures.read c.requires
    ∙ ap (option_map (λ (f : ℕ × LineRule). (number_at c.args.lines.now f.0, f.1))) (sym c.end_fault.ensures ∙ c.in_default.is)

pub returns-clause-items : goal.returns-clause-items
returns-clause-items c table g =
    c.in_ok-items.ensures ∙ reading_items c.args.spaces.now c.args.lines.now c.in_ok-reader.reader c.args.names.now c.read_lines.new.names table c.in_ok-reader.ensures.read g
