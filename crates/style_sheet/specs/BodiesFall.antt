-- An element of the result has more instructions than its content, and a body as many as each of its instructions.
use Rattle.std.specs.Prelude.{◌≡◌, ℕ, ◌<◌, ◌≤◌, max, List, [], ◌∷◌, length}
use Rattle.std.proofs.Common.{arith, zero, suc, get_or, sym, subst}
use Rattle.style_sheet.specs.declared.style.Instruction.{Instruction}
use Rattle.style_sheet.specs.declared.style.Instruction.TheVariants as instruction
use Rattle.style_sheet.specs.declared.style.Body.TheDeep.{deep-Instruction}
use Rattle.style_sheet.specs.Bodies.{body_of, size_of}
use denote.Param.Weighed.{most}

deep_le-size : (one : Instruction) (more : List Instruction) → deep-Instruction one ≤ size_of (body_of (one ∷ more))
deep_le-size (instruction.Text t) more = omega arith
deep_le-size (instruction.Element name attributes content) more = omega arith
deep_le-size instruction.ApplyTemplates more = omega arith

rest_le-size : (one : Instruction) (more : List Instruction) → size_of (body_of more) ≤ size_of (body_of (one ∷ more))
rest_le-size (instruction.Text t) more = omega arith
rest_le-size (instruction.Element name attributes content) more = omega arith
rest_le-size instruction.ApplyTemplates more = omega arith

pub most_le-size : (instructions : List Instruction) → max (most deep-Instruction instructions) 0 ≤ size_of (body_of instructions)
most_le-size [] = omega arith
most_le-size (one ∷ more) = omega (arith, deep_le-size one more, rest_le-size one more, most_le-size more)

-- the instruction at a number
pub at_le-size : (instructions : List Instruction) (i : ℕ) (one : Instruction) → i < length instructions →
    one ≡ get_or instructions i one → deep-Instruction one ≤ size_of (body_of instructions)
at_le-size [] i one few is = omega arith
at_le-size (first ∷ more) zero one few is =
    subst (λ (x : Instruction). deep-Instruction x ≤ size_of (body_of (first ∷ more))) (sym is) (deep_le-size first more)
at_le-size (first ∷ more) (suc i) one few is = omega (arith, rest_le-size first more, at_le-size more i one (omega arith) is)
