use Rattle.std.proofs.Common.{not, sym, ◌∙◌, ap}
use Rattle.xpath_values.specs.Values.{is_empty, operand_truth}
use Rattle.xpath_values.specs.Sides.{operand_of}
use Rattle.xpath_values.proofs.Characters.{empty_text}
use Rattle.xpath_values.proofs.side.Side.truth.Goals as goal

pub returns-in-Text : goal.returns-in-Text
returns-in-Text c =
    ap not (c.is_empty.ensures ∙ (sym (empty_text _ c.as_text.utf8) ∙ ap is_empty c.as_text.ensures.characters)) ∙ ap (λ side. operand_truth (operand_of side)) (sym c.in-Text.is)
