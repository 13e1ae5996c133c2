-- What stands in a template (XSLT 1.0, section 5.3).
use Rattle.std.specs.Prelude.{ℕ, List}
use Rattle.serna_kinds.specs.declared.cells.NameId.{NameId}
use Rattle.serna_kinds.specs.declared.cells.AttrPair.{AttrPair}

-- the first of these instructions, with what stands behind it: a text; an element of the result with its attributes and its content
-- (section 7.1.1); templates are applied to all children (section 5.4)
pub data Instructions : Type 0 where
  nothing : Instructions
  text : List ℕ → Instructions → Instructions
  element : NameId → List AttrPair → Instructions → Instructions → Instructions
  apply_templates : Instructions → Instructions

-- instructions, and then others
abbrev pub followed_by : Instructions → Instructions → Instructions
followed_by nothing more = more
followed_by (text t rest) more = text t (followed_by rest more)
followed_by (element name attributes content rest) more = element name attributes content (followed_by rest more)
followed_by (apply_templates rest) more = apply_templates (followed_by rest more)
