-- What the lines of a document say one by one is its tree, whose names are the table's.
use Rattle.std.proofs.Common.{◌≡◌, List, [], None, ℕ, sym, ap, ◌∙◌, subst}
use Rattle.std.specs.List.{AllByRecursion}
use Rattle.std.proofs.lemmas.List.{append-nil}
use Rattle.serna_kinds.specs.Names.{NameParts, Space, Grows}
use Rattle.tree_lines.specs.declared.tree.Line.{Line}
use Rattle.tree_lines.specs.Declarations.{spaces_in}
use Rattle.tree_lines.specs.Written.{Written, written_lines}
use Rattle.tree_lines.specs.Documents.{AreParted, IsDocument}
use Rattle.tree_lines.specs.Faults.{fault_of, bytes_of, first_fault}
use Rattle.tree_lines.specs.Given.{items_of, spaces_of, given_of, numbers_of}
use Rattle.tree_lines.specs.Tokens.{items_in, names_with, line_names, AreNamed}
use Rattle.tree_lines.proofs.Stored.{IsStored, IsStored-with_names}
use Rattle.tree_lines.proofs.PlainItems.{plain_items, plain_items-lines, plain_items-written}
use Rattle.tree_lines.proofs.Apart.{plain_items-named}
use Rattle.tree_lines.proofs.LineFacts as facts

-- a document's lines say its items
whole_items : (names : List NameParts) (numbers : List ℕ) (document : Written) → AreParted document
    → plain_items names (spaces_of document) numbers (written_lines document) ≡ items_of (given_of names numbers document)
whole_items names numbers document good =
    ap (plain_items names (spaces_of document) numbers) (sym (append-nil (written_lines document)))
    ∙ plain_items-written names (spaces_of document) numbers document [] good (λ last. tt)
    ∙ append-nil (items_of (given_of names numbers document))

pub lines_said : (names : List NameParts) (lines : List Line) (document : Written) → AreParted document → bytes_of lines ≡ written_lines document
    → items_in names (spaces_of document) lines ≡ items_of (given_of names (numbers_of lines) document)
lines_said names lines document good same =
    plain_items-lines names (spaces_of document) lines ∙ ap (plain_items names (spaces_of document) (numbers_of lines)) same ∙ whole_items names (numbers_of lines) document good

-- the names of lines without a fault, in each table that grows from the one with them
pub names_stored : (names table : List NameParts) (lines : List (List ℕ)) → Grows (names_with names lines) table → AllByRecursion (IsStored table) (line_names (spaces_in lines) lines)
names_stored names table lines grown = IsStored-with_names names (line_names (spaces_in lines) lines) table grown

pub document_named : (names table : List NameParts) (numbers : List ℕ) (document : Written) → IsDocument document → Grows (names_with names (written_lines document)) table
    → AreNamed table (items_of (given_of table numbers document))
document_named names table numbers document is grown =
    subst (AreNamed table) (whole_items table numbers document is.parted)
    (plain_items-named table (spaces_of document) numbers [] (written_lines document) is.faultless (names_stored names table (written_lines document) grown))

pub lines_named : (names table : List NameParts) (lines : List Line) → fault_of (bytes_of lines) ≡ None → Grows (names_with names (bytes_of lines)) table
    → AreNamed table (items_in table (spaces_in (bytes_of lines)) lines)
lines_named names table lines none grown =
    let spaces : List Space = spaces_in (bytes_of lines) in
    subst (AreNamed table) (sym (plain_items-lines table spaces lines))
    (plain_items-named table spaces (numbers_of lines) [] (bytes_of lines) none (names_stored names table (bytes_of lines) grown))

pub fault_none : (lines : List Line) → first_fault lines ≡ None → fault_of (bytes_of lines) ≡ None
fault_none = facts.fault_none

pub first_fault_none : (lines : List Line) → fault_of (bytes_of lines) ≡ None → first_fault lines ≡ None
first_fault_none = facts.first_fault_none
