-- How the canonical text of a source is written along its cells (this project's own).
use Rattle.std.specs.Prelude.{◌≡◌, ℕ, ◌-◌, ◌<◌, ◌≤◌, Bool, true, false, List, ◌∷◌, ◌++◌, map, drop, Option}
use Rattle.serna_kinds.specs.Limits.{depth_limit}
use Rattle.serna_kinds.specs.declared.cells.NameId.{NameId}
use Rattle.serna_kinds.specs.declared.cells.AttrPair.{AttrPair}
use Rattle.serna_kinds.specs.declared.cells.NodeName.{NodeName}
use Rattle.serna_kinds.specs.declared.cells.Cell.{Cell}
use Rattle.serna_kinds.specs.Content.{Content}
use Rattle.serna_kinds.specs.Names.{NameParts, Space}
use Rattle.tree_lines.specs.Given.{Given}
use Rattle.tree_lines.specs.Given as given
use Rattle.tree_lines.specs.Canonical.{end_line, text_of_lines, canonical_lines, canonical_text}
use Rattle.source_model.specs.Source.{Body, Forest, numbers}
use Rattle.source_model.specs.Source as source
use Rattle.source_model.specs.Cells.{named}
use Rattle.source_model.specs.Proper.{depth_of}
use Rattle.source_model.specs.Consistent.{AreLeaves}
use Rattle.source_model.specs.Told.{AreTold}
use Rattle.source_steps.specs.Taking.{AreWithin}
use Rattle.source_tree.specs.Unnumbered.{unnumbered}

-- what is written of neighbours and of all below them, apart from what the document declares
abbrev pub lines_text : List NameParts → Given → List ℕ
lines_text names tree = text_of_lines (canonical_lines names tree)

abbrev pub forest_text : List NameParts → Forest → List ℕ
forest_text names forest = lines_text names (unnumbered forest)

-- the neighbours of these numbers are written behind what was
abbrev pub Writes : (Cell → Option Content) → List NodeName → ℕ → List NameParts → List ℕ → List ℕ → Type 0
Writes view kids left names old new =
    (up : Option ℕ) (forest : Forest) → AreWithin view up left forest → kids ≡ map named (numbers forest) → new ≡ old ++ forest_text names forest

-- the node of a number is written: with the text of whatever follows it, what was written is as if both are still to write
abbrev pub WritesNode : (Cell → Option Content) → NodeName → ℕ → List NameParts → List ℕ → List ℕ → Type 0
WritesNode view number left names old new =
    (up : Option ℕ) (body : Body) (kids rest : Forest) → AreWithin view up left (source.node number.0 body kids rest) →
    new ++ forest_text names rest ≡ old ++ forest_text names (source.node number.0 body kids rest)

-- an element of this name, these attributes and these children's numbers is written
abbrev pub WritesElement : (Cell → Option Content) → NameId → List AttrPair → List NodeName → ℕ → List NameParts → List ℕ → List ℕ → Type 0
WritesElement view name attributes kids left names old new =
    (up : Option ℕ) (below : Forest) (rest : Given) → 0 < left → AreWithin view up (left - 1) below → kids ≡ map named (numbers below) →
    new ++ lines_text names rest ≡ old ++ lines_text names (given.element name attributes 0 (unnumbered below) rest)

-- the nodes of the children's numbers are written, and the end of the element around them
abbrev pub WritesContent : (Cell → Option Content) → NameId → List NodeName → ℕ → List NameParts → List ℕ → List ℕ → Type 0
WritesContent view name kids left names old new =
    (up : Option ℕ) (below : Forest) (rest : Given) → AreWithin view up left below → kids ≡ map named (numbers below) →
    new ++ lines_text names rest ≡ old ++ text_of_lines (canonical_lines names (unnumbered below) ++ (end_line names name ∷ canonical_lines names rest))

-- some neighbours are written, and the rest, whose numbers begin at a place, is still to write
pub record StillToWrite (view : Cell → Option Content) (up : Option ℕ) (left : ℕ) (kids : List NodeName) (at : ℕ) (names : List NameParts) (old new : List ℕ) (forest : Forest) : Type 0 where
  pub rest : Forest
  pub within : AreWithin view up left rest
  pub next : drop at kids ≡ map named (numbers rest)
  pub written : new ++ forest_text names rest ≡ old ++ forest_text names forest

-- what is written of neighbours at the top and of all below them: the first element among them has what the document declares
abbrev pub document_text : List NameParts → List Space → Forest → List ℕ
document_text names spaces forest = canonical_text names spaces (unnumbered forest)

-- what is written behind a node at the top, by whether an element has had the declarations
abbrev pub text_behind : Bool → List NameParts → List Space → Forest → List ℕ
text_behind true names spaces rest = forest_text names rest
text_behind false names spaces rest = document_text names spaces rest

-- the neighbours of these numbers are written at the top, behind what was
abbrev pub WritesTop : (Cell → Option Content) → List NodeName → List NameParts → List Space → List ℕ → List ℕ → Type 0
WritesTop view kids names spaces old new =
    (up : Option ℕ) (forest : Forest) → AreWithin view up depth_limit forest → kids ≡ map named (numbers forest) → new ≡ old ++ document_text names spaces forest

-- the node of a number is written at the top, where no element has had the declarations
abbrev pub WritesFirst : (Cell → Option Content) → NodeName → List NameParts → List Space → List ℕ → Bool → List ℕ → Type 0
WritesFirst view number names spaces old declared new =
    (up : Option ℕ) (body : Body) (kids rest : Forest) → AreWithin view up depth_limit (source.node number.0 body kids rest) →
    new ++ text_behind declared names spaces rest ≡ old ++ document_text names spaces (source.node number.0 body kids rest)

-- the outermost element is written, with the declarations
abbrev pub WritesOutermost : (Cell → Option Content) → NameId → List AttrPair → List NodeName → List NameParts → List Space → List ℕ → List ℕ → Type 0
WritesOutermost view name attributes kids names spaces old new =
    (up : Option ℕ) (below : Forest) (rest : Given) → AreWithin view up (depth_limit - 1) below → kids ≡ map named (numbers below) →
    new ++ lines_text names rest ≡ old ++ canonical_text names spaces (given.element name attributes 0 (unnumbered below) rest)

-- some neighbours at the top are written, and the rest, whose numbers begin at a place, is still to write
pub record StillAtTop (view : Cell → Option Content) (up : Option ℕ) (kids : List NodeName) (at : ℕ) (names : List NameParts) (spaces : List Space) (old : List ℕ) (declared : Bool) (new : List ℕ)
    (forest : Forest) : Type 0 where
  pub rest : Forest
  pub within : AreWithin view up depth_limit rest
  pub next : drop at kids ≡ map named (numbers rest)
  pub written : new ++ text_behind declared names spaces rest ≡ old ++ document_text names spaces forest
