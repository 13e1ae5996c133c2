-- The canonical text of a tree (this project's own form): what is written of it, the same for the same tree. Each line is ended by LF:
-- `(NAME` begins an element, a line `ANAME VALUE` is each of its attributes, then its content comes, and `)NAME` ends it; `-TEXT` is a
-- text and `CTEXT` a comment. What a document declares stands directly behind the beginning of its outermost element.
use Rattle.std.specs.Prelude.{ℕ, ◌==◌, List, [], ◌∷◌, ◌++◌, map, slice_get, encode_utf8_all, if◌then◌else◌}
use Rattle.std.specs.List.{flat_map}
use Rattle.std.specs.Option.{option_map_or}
use Rattle.std.specs.Str.{chars}
use Rattle.serna_kinds.specs.declared.cells.NameId.{NameId}
use Rattle.serna_kinds.specs.declared.cells.AttrPair.{AttrPair}
use Rattle.serna_kinds.specs.Names.{NameParts, Space}
use Rattle.tree_lines.specs.Tags.{xmlns}
use Rattle.tree_lines.specs.Given.{Given}
use Rattle.tree_lines.specs.Given as given

-- a local name behind its prefix and a colon, or alone where the prefix is empty (Namespaces in XML 1.0, QName)
abbrev pub qualified : List ℕ → List ℕ → List ℕ
qualified [] local = local
qualified (c ∷ prefix) local = (c ∷ prefix) ++ 58 ∷ local

-- a name as it is written
abbrev pub spelled : NameParts → List ℕ
spelled name = qualified name.prefix name.local

-- the name under a number, as it is written; nothing for a number that the table does not have
abbrev pub spelling_of : List NameParts → NameId → List ℕ
spelling_of names id = option_map_or spelled (slice_get names id.0) []

-- a character as it is written: `\\` for a backslash, `\n` for LF, `\t` for a tab, and every other as it is
abbrev pub escape_of : ℕ → List ℕ
escape_of c = if c == 92 then 92 ∷ 92 ∷ [] else (if c == 10 then 92 ∷ 110 ∷ [] else (if c == 9 then 92 ∷ 116 ∷ [] else c ∷ []))

-- the characters of a text as they are written
abbrev pub escaped : List ℕ → List ℕ
escaped text = flat_map escape_of text

-- `-TEXT`, `CTEXT`, `ANAME VALUE`, `(NAME` and `)NAME`
abbrev pub text_line : List ℕ → List ℕ
text_line text = 45 ∷ encode_utf8_all (escaped text)

abbrev pub comment_line : List ℕ → List ℕ
comment_line text = 67 ∷ encode_utf8_all (escaped text)

abbrev pub attribute_line : List NameParts → AttrPair → List ℕ
attribute_line names pair = 65 ∷ (spelling_of names pair.name ++ 32 ∷ encode_utf8_all (escaped pair.value))

abbrev pub begin_line : List NameParts → NameId → List ℕ
begin_line names name = 40 ∷ spelling_of names name

abbrev pub end_line : List NameParts → NameId → List ℕ
end_line names name = 41 ∷ spelling_of names name

-- an element's beginning, with its attributes in their order
abbrev pub begin_lines : List NameParts → NameId → List AttrPair → List (List ℕ)
begin_lines names name attributes = begin_line names name ∷ map (attribute_line names) attributes

-- the lines of a tree, in document order
abbrev pub canonical_lines : List NameParts → Given → List (List ℕ)
canonical_lines names given.end = []
canonical_lines names (given.text t rest) = text_line t ∷ canonical_lines names rest
canonical_lines names (given.comment t rest) = comment_line t ∷ canonical_lines names rest
canonical_lines names (given.element name attributes line content rest) =
    begin_lines names name attributes ++ (canonical_lines names content ++ (end_line names name ∷ canonical_lines names rest))

-- `Axmlns URI` for the default namespace, and `Axmlns:PREFIX URI`
abbrev pub declaring_name : List ℕ → List ℕ
declaring_name [] = xmlns
declaring_name (b ∷ prefix) = qualified xmlns (b ∷ prefix)

abbrev pub declaration_line : Space → List ℕ
declaration_line space = 65 ∷ (declaring_name space.prefix ++ 32 ∷ encode_utf8_all (escaped (chars space.uri)))

-- the outermost element's beginning, with what the document declares and then its attributes
abbrev pub outermost_lines : List NameParts → List Space → NameId → List AttrPair → List (List ℕ)
outermost_lines names spaces name attributes =
    begin_line names name ∷ (map declaration_line spaces ++ map (attribute_line names) attributes)

-- the lines of a whole document: of its outermost element with what it declares, and of the comments beside it
abbrev pub document_lines : List NameParts → List Space → Given → List (List ℕ)
document_lines names spaces given.end = []
document_lines names spaces (given.text t rest) = text_line t ∷ document_lines names spaces rest
document_lines names spaces (given.comment t rest) = comment_line t ∷ document_lines names spaces rest
document_lines names spaces (given.element name attributes line content rest) =
    outermost_lines names spaces name attributes ++ (canonical_lines names content ++ (end_line names name ∷ canonical_lines names rest))

-- a line with its LF, and lines one after another
abbrev pub line_text : List ℕ → List ℕ
line_text line = line ++ 10 ∷ []

abbrev pub text_of_lines : List (List ℕ) → List ℕ
text_of_lines lines = flat_map line_text lines

-- the canonical text of a document's tree, in UTF-8
abbrev pub canonical_text : List NameParts → List Space → Given → List ℕ
canonical_text names spaces tree = text_of_lines (document_lines names spaces tree)
