-- Worked examples of the definitions: four inputs with what is answered to them, three that are no input, and scripts that type.
use Rattle.std.specs.Prelude.{ℕ, List, [], ◌∷◌, ◌++◌, Some, codes}
use Rattle.tree_lines.specs.Written.{Written, Attribute, written_lines}
use Rattle.tree_lines.specs.Written as written
use Rattle.plain_editor.specs.Input.{document_head, script_head}
use Rattle.plain_editor.specs.Sheets.{Sheet, sheet_lines}
use Rattle.plain_editor.specs.Commands.{show_word}

abbrev pub doc : List ℕ
doc = codes "doc"

abbrev pub oak : List ℕ
oak = codes "Oak"

-- lines, each with its LF
abbrev pub text_of_lines : List (List ℕ) → List ℕ
text_of_lines [] = []
text_of_lines (line ∷ lines) = line ++ (10 ∷ text_of_lines lines)

-- `!document`, `(doc`, `)doc`, `!script`, `show`
abbrev pub empty_document : List ℕ
empty_document = text_of_lines (document_head ∷ (40 ∷ doc) ∷ (41 ∷ doc) ∷ script_head ∷ show_word ∷ [])

-- the same with the line `-Oak`
abbrev pub one_text : List ℕ
one_text = text_of_lines (document_head ∷ (40 ∷ doc) ∷ (45 ∷ oak) ∷ (41 ∷ doc) ∷ script_head ∷ show_word ∷ [])

-- cut off in the document; a text outside the outermost element; another head
abbrev pub cut_off : List ℕ
cut_off = text_of_lines (document_head ∷ (40 ∷ doc) ∷ [])

abbrev pub text_outside : List ℕ
text_outside = text_of_lines (document_head ∷ (45 ∷ oak) ∷ (40 ∷ doc) ∷ (41 ∷ doc) ∷ script_head ∷ [])

abbrev pub another_head : List ℕ
another_head = text_of_lines (script_head ∷ (40 ∷ doc) ∷ (41 ∷ doc) ∷ script_head ∷ [])

abbrev pub empty_doc : Written
empty_doc = written.element doc [] written.end written.end

abbrev pub oak_doc : Written
oak_doc = written.element doc [] (written.text oak written.end) written.end

-- `plain` and a space, a text, and LF
abbrev pub plain : List ℕ → List ℕ
plain text = codes "plain " ++ (text ++ (10 ∷ []))

-- a script that types at the end of the text, and what it is answered; one that types twice into the empty element
abbrev pub types_at_end : List (List ℕ)
types_at_end = codes "at 1 1 3" ∷ show_word ∷ codes "at 1 1 3" ∷ codes "type s" ∷ codes "at 2 1 0" ∷ codes "type x" ∷ show_word ∷ []

abbrev pub typed_at_end : List ℕ
typed_at_end = text_of_lines (codes "refused no-view" ∷ codes "plain Oak" ∷ codes "ok" ∷ codes "ok" ∷ codes "refused no-place" ∷ codes "ok" ∷ codes "plain Oaksx" ∷ [])

abbrev pub types_into : List (List ℕ)
types_into = codes "type a" ∷ show_word ∷ codes "at 1 1 0" ∷ codes "type a" ∷ codes "at 1 1 0" ∷ codes "type b" ∷ show_word ∷ codes "at 1 1 3" ∷ codes "nowhere" ∷ []

abbrev pub typed_into : List ℕ
typed_into =
    text_of_lines (codes "refused no-caret" ∷ codes "plain " ∷ codes "ok" ∷ codes "ok" ∷ codes "ok" ∷ codes "ok" ∷ codes "plain ba" ∷ codes "refused no-place" ∷ codes "refused not-built" ∷ [])

-- a script that asks where the caret is and for the source, and what it is answered
abbrev pub asks : List (List ℕ)
asks = codes "where" ∷ show_word ∷ codes "at 1 1 0" ∷ codes "where" ∷ codes "type a" ∷ codes "where" ∷ codes "source" ∷ show_word ∷ codes "where" ∷ []

abbrev pub told_what_it_asks : List ℕ
told_what_it_asks =
    text_of_lines (codes "refused no-caret" ∷ codes "plain " ∷ codes "ok" ∷ codes "caret 1 into 1 1 0" ∷ codes "ok" ∷ codes "caret 2 1 stale" ∷ codes "(doc" ∷ codes "-a" ∷ codes ")doc" ∷ codes "plain a" ∷ codes "caret 2 1 1 1 1" ∷ [])

-- a document with a comment, a prefix that it declares, an attribute, a text and an empty element; and a script that shows it, asks for
-- its lines, types a tab and a backslash behind the text, asks where the caret is, and shows it again
abbrev pub attribute : List ℕ → List ℕ → Attribute
attribute name value = record { name = name; value = value }

abbrev pub full_doc : Written
full_doc =
    written.comment (codes "note") (written.element (codes "p:doc") (attribute (codes "xmlns:p") (codes "urn:p") ∷ attribute (codes "id") (codes "a\\n1") ∷ [])
    (written.text oak (written.element (codes "b") [] written.end written.end)) written.end)

abbrev pub full_lines : List (List ℕ)
full_lines =
    codes "Cnote" ∷ codes "(p:doc" ∷ codes "Axmlns:p urn:p" ∷ codes "Aid a\\n1" ∷ codes "-Oak" ∷ codes "(b" ∷ codes ")b" ∷ codes ")p:doc" ∷ []

abbrev pub full_script : List (List ℕ)
full_script = show_word ∷ codes "source" ∷ codes "at 1 1 3" ∷ codes "type \\t\\\\" ∷ codes "where" ∷ codes "type \\q" ∷ show_word ∷ []

abbrev pub full_document : List ℕ
full_document = text_of_lines (document_head ∷ (full_lines ++ (script_head ∷ full_script)))

abbrev pub full_answers : List ℕ
full_answers =
    text_of_lines (codes "plain Oak" ∷ (full_lines ++ (codes "ok" ∷ codes "ok" ∷ codes "caret 3 5 stale" ∷ codes "refused not-built" ∷ codes "plain Oak \\" ∷ [])))

-- a stylesheet with two rules: the document node gives one flow of a page, and `p` a block with a text of the rule in front of its own
abbrev pub leaf : List ℕ → Written → Written
leaf name rest = written.element name [] written.end rest

abbrev pub apply_templates : Written → Written
apply_templates rest = leaf (codes "xsl:apply-templates") rest

abbrev pub template : List ℕ → Written → Written → Written
template match content rest = written.element (codes "xsl:template") (attribute (codes "match") match ∷ []) content rest

abbrev pub block_sheet : Sheet
block_sheet = record {
  name = codes "t";
  document = written.element (codes "xsl:stylesheet")
      (attribute (codes "version") (codes "1.0") ∷ attribute (codes "xmlns:xsl") (codes "http://www.w3.org/1999/XSL/Transform")
      ∷ attribute (codes "xmlns:fo") (codes "http://www.w3.org/1999/XSL/Format") ∷ [])
      (template (codes "/")
      (written.element (codes "fo:root") [] (written.element (codes "fo:page-sequence") []
      (written.element (codes "fo:flow") (attribute (codes "flow-name") (codes "xsl-region-body") ∷ []) (apply_templates written.end) written.end)
      written.end) written.end)
      (template (codes "p") (written.element (codes "fo:block") [] (written.text (codes "x:") (apply_templates written.end)) written.end) written.end))
      written.end;
}

-- a document with two `p`, the second of them empty; and a script that shows it, types into the empty one, tries to put the caret at the
-- rule's text, and shows it again
abbrev pub two_doc : Written
two_doc = written.element doc [] (written.element (codes "p") [] (written.text oak written.end) (leaf (codes "p") written.end)) written.end

abbrev pub block_script : List (List ℕ)
block_script = show_word ∷ codes "at 1 2 2" ∷ codes "type Red" ∷ codes "at 1 1 0" ∷ show_word ∷ []

abbrev pub block_input : List ℕ
block_input =
    text_of_lines (sheet_lines (Some block_sheet) ++ (document_head ∷ (written_lines two_doc ++ (script_head ∷ block_script))))

abbrev pub block_answers : List ℕ
block_answers =
    text_of_lines (codes "page 1" ∷ codes "line 1 0 0 x:Oak" ∷ codes "line 2 0 14400 x:" ∷ codes "ok" ∷ codes "ok" ∷ codes "refused fixed"
    ∷ codes "page 1" ∷ codes "line 1 0 0 x:Oak" ∷ codes "line 2 0 14400 x:Red" ∷ [])
