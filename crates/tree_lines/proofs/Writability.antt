-- A document's tree can be written so that it reads back.
use Rattle.std.proofs.Common.{ℕ, List, []}
use Rattle.serna_kinds.specs.Names.{NameParts, Grows}
use Rattle.tree_lines.specs.Written.{Written, written_lines}
use Rattle.tree_lines.specs.Documents.{IsDocument}
use Rattle.tree_lines.specs.Given.{IsWhole, spaces_of, given_of}
use Rattle.tree_lines.specs.Tokens.{names_with}
use Rattle.tree_lines.specs.Writable.{IsWritable}
use Rattle.tree_lines.proofs.Said.{names_stored, document_named}
use Rattle.tree_lines.proofs.WasRead.{lines_read, written_nodes}
use Rattle.tree_lines.proofs.DeclaredSpaces.{spaces_declared}

pub document_writable : (names table : List NameParts) (numbers : List ℕ) (document : Written) → IsDocument document → Grows (names_with names (written_lines document)) table
    → IsWhole (given_of table numbers document) → IsWritable table (spaces_of document) (given_of table numbers document)
document_writable names table numbers document is grown whole =
    let spaces = spaces_of document in
    let stored = names_stored names table (written_lines document) grown in
    record {
      whole = whole;
      nodes = written_nodes table spaces numbers document (lines_read table spaces [] (written_lines document) is.faultless stored) is.parted (document_named names table numbers document is grown);
      declared = spaces_declared spaces [] (written_lines document) is.faultless;
    }
