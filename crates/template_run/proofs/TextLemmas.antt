-- Texts that are not empty.
use Rattle.std.proofs.Common.{◌≡◌, ℕ, List, [], ◌∷◌, length, Some, sym, ap, ◌∙◌, arith}
use Rattle.std.specs.Str.{chars}
use Rattle.std.proofs.lemmas.Str.{chars-nil}
use Rattle.serna_kinds.specs.declared.cells.NodeName.{NodeName}
use Rattle.serna_kinds.specs.declared.cells.NameId.{NameId}
use Rattle.template_run.specs.Instances.{fixed_text, value_parts}

pub fixed_none : {H : Type 0} (rule : ℕ) (text bytes : List ℕ) → chars bytes ≡ text → length bytes ≡ 0 → [] ≡ fixed_text {H = H} rule text
fixed_none {H} rule text [] is empty = ap (fixed_text {H = H} rule) (sym chars-nil ∙ is)
fixed_none {H} rule text (b ∷ bytes) is empty = absurd (omega (arith, empty))

pub value_none : (n : NodeName) (name : NameId) (text bytes : List ℕ) → chars bytes ≡ text → length bytes ≡ 0 → [] ≡ value_parts n name (Some text)
value_none n name text [] is empty = ap (λ t. value_parts n name (Some t)) (sym chars-nil ∙ is)
value_none n name text (b ∷ bytes) is empty = absurd (omega (arith, empty))
