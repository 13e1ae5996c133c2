-- Lines that are read are those of a document, and no document is refused.
use Rattle.std.proofs.Common.{◌≡◌, ℕ, List, None, Some, refl, sym, ap, ◌∙◌, subst}
use Rattle.std.specs.Prelude.{Result, Ok, Err, MatchResult}
use Rattle.std.specs.Result.{IsErrAnd}
use Rattle.serna_kinds.specs.Names.{NameParts, Grows}
use Rattle.tree_lines.specs.declared.rules.LineRule.{LineRule}
use Rattle.tree_lines.specs.declared.rules.LineFault.{LineFault}
use Rattle.tree_lines.specs.declared.rules.LineFault.TheVariants as fault
use Rattle.tree_lines.specs.declared.tree.Line.{Line}
use Rattle.tree_lines.specs.declared.tree.TreeItem.{TreeItem}
use Rattle.tree_lines.specs.Written.{Written, written_lines}
use Rattle.tree_lines.specs.Documents.{IsDocument}
use Rattle.tree_lines.specs.Declarations.{spaces_in}
use Rattle.tree_lines.specs.Given.{items_of, given_of, numbers_of}
use Rattle.tree_lines.specs.Faults.{fault_of, bytes_of, first_fault}
use Rattle.tree_lines.specs.Tokens.{items_in, names_with, AreNamed}
use Rattle.tree_lines.specs.Whole.{IsTree}
use Rattle.tree_lines.proofs.Faultless.{document_from_faultless, document_whole}
use Rattle.tree_lines.proofs.Said.{lines_said, lines_named, fault_none, first_fault_none}

pub items-given : (table : List NameParts) (lines : List Line) (items : List TreeItem) (document : Written) → IsDocument document → bytes_of lines ≡ written_lines document
    → items ≡ items_in table (spaces_in (bytes_of lines)) lines → items ≡ items_of (given_of table (numbers_of lines) document)
items-given table lines items document d e same =
    same
    ∙ ap (λ (l : List (List ℕ)). items_in table (spaces_in l) lines) e
    ∙ lines_said table lines document d.parted e

pub document-read : (lines : List Line) → first_fault lines ≡ None → (document : Written) × IsDocument document × (bytes_of lines ≡ written_lines document)
document-read lines e = document_from_faultless (bytes_of lines) (fault_none lines e)

pub tree-read : (names : List NameParts) (lines : List Line) (items : List TreeItem) → first_fault lines ≡ None → items ≡ items_in names (spaces_in (bytes_of lines)) lines → IsTree items
tree-read names lines items none same =
    let read = document-read lines none in
    record { given = given_of names (numbers_of lines) read.0; same = items-given names lines items read.0 read.1 read.2 same; whole = document_whole names (numbers_of lines) read.0 read.1 }

pub items-named : (old names table : List NameParts) (lines : List Line) (items : List TreeItem) → first_fault lines ≡ None → names ≡ names_with old (bytes_of lines) → Grows names table
    → items ≡ items_in table (spaces_in (bytes_of lines)) lines → AreNamed table items
items-named old names table lines items none got g same =
    subst (AreNamed table) (sym same) (lines_named old table lines (fault_none lines none) (subst (λ (n : List NameParts). Grows n table) got g))

-- a document has no fault
never : (lines : List Line) (document : Written) (number : ℕ) (broken : LineRule) → IsDocument document → bytes_of lines ≡ written_lines document → first_fault lines ≡ Some (number, broken) → ⊥
never lines document number broken d e f =
    let none : fault_of (bytes_of lines) ≡ None = ap fault_of e ∙ d.faultless in
    let g = sym f ∙ first_fault_none lines none in
    absurd (cc)

memory_by : (f : LineFault) (lines : List Line) (document : Written) → IsDocument document → bytes_of lines ≡ written_lines document
    → ((number : ℕ) (broken : LineRule) → f ≡ fault.Refused number broken → first_fault lines ≡ Some (number, broken)) → f ≡ fault.NoMemory
memory_by (fault.Refused number broken) lines document d e g = absurd (never lines document number broken d e (g number broken refl))
memory_by fault.NoMemory lines document d e g = refl

-- so that only want of memory keeps one from being read
pub only_memory : {T : Type 0} (r : Result T LineFault) (f : LineFault) (lines : List Line) (document : Written) → IsErrAnd r (λ y. y ≡ f) → IsDocument document → bytes_of lines ≡ written_lines document
    → ((number : ℕ) (broken : LineRule) → f ≡ fault.Refused number broken → first_fault lines ≡ Some (number, broken)) → MatchResult r (λ x. Unit {0}) (λ y. y ≡ fault.NoMemory)
only_memory (Ok x) f lines document h d e g = tt
only_memory (Err y) f lines document h d e g = h ∙ memory_by f lines document d e g
