-- A side of a comparison that the code has borrowed, as an operand.
use Rattle.xpath_values.specs.declared.value.Operand.{Operand}
use Rattle.xpath_values.specs.declared.value.Operand.TheVariants as operand
use Rattle.xpath_values.specs.declared.side.Side.{Side}
use Rattle.xpath_values.specs.declared.side.Side.TheVariants as side

abbrev pub operand_of : Side → Operand
operand_of (side.Text text) = operand.Text text.now
operand_of (side.Number number) = operand.Number number
operand_of (side.Truth holds) = operand.Truth holds
