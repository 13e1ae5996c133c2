-- Bodies as they are stored: the instructions of a body, one after another.
use Rattle.std.specs.Prelude.{ℕ, suc, ◌+◌, List, [], ◌∷◌}
use Rattle.style_sheet.specs.declared.style.Instruction.{Instruction}
use Rattle.style_sheet.specs.declared.style.Instruction.TheVariants as instruction
use Rattle.style_sheet.specs.Instructions.{Instructions, nothing, text, element, apply_templates}

abbrev pub body_of : List Instruction → Instructions
body_of [] = nothing
body_of (instruction.Text t ∷ more) = text t (body_of more)
body_of (instruction.Element name attributes content ∷ more) = element name attributes content (body_of more)
body_of (instruction.ApplyTemplates ∷ more) = apply_templates (body_of more)

-- how many instructions there are, those in elements of the result too
abbrev pub size_of : Instructions → ℕ
size_of nothing = 0
size_of (text t rest) = suc (size_of rest)
size_of (element name attributes content rest) = suc (size_of content + size_of rest)
size_of (apply_templates rest) = suc (size_of rest)
