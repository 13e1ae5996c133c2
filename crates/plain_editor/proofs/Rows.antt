-- The worked examples, computed.
use Rattle.std.proofs.Common.{◌≡◌, ℕ, ◌==◌, ◌||◌, Bool, true, false, List, [], ◌∷◌, ◌++◌, Option, Some, None, refl, ap, sym, ◌∙◌, lit≤}
use Rattle.std.proofs.lemmas.Bool.{false≢true, and_parts}
use Rattle.std.specs.List.{list_all, AllByRecursion}
use Rattle.std.specs.Prelude.{IsTrue}
use Rattle.std.specs.Str.{bytes_eq, chars, is_utf8}
use Rattle.std.specs.Fmt.{digits}
use Rattle.template_run.specs.Batch.{whole, batch}
use Rattle.tree_lines.specs.Written.{Written, written_lines}
use Rattle.tree_lines.specs.Written as written
use Rattle.tree_lines.specs.Documents.{IsTop}
use Rattle.source_tree.specs.Begun.{begun}
use Rattle.plain_editor.specs.Plain.{is_plain}
use Rattle.plain_editor.specs.Sheets.{Sheet, sheet_lines, IsSheet}
use Rattle.plain_editor.specs.Input.{lines_of, document_head, script_head, IsInput}
use Rattle.plain_editor.specs.Sections.{Sections, sections_of}
use Rattle.plain_editor.specs.Commands.{show_word}
use Rattle.plain_editor.specs.Stops.{view_stops}
use Rattle.plain_editor.specs.Answers.{answers}
use Rattle.plain_editor.specs.Rows.{oak, empty_document, one_text, cut_off, text_outside, another_head, empty_doc, oak_doc, plain, types_at_end, typed_at_end, types_into, typed_into, asks, told_what_it_asks, full_doc, full_document, full_script, full_answers, block_sheet, two_doc, block_input, block_script, block_answers}

plain_lines : (lines : List (List ℕ)) → list_all is_plain lines ≡ true → AllByRecursion (λ line. IsTrue (is_plain line)) lines
plain_lines [] all = tt
plain_lines (line ∷ lines) all = let both = and_parts (is_plain line) (list_all is_plain lines) all in (both.0, plain_lines lines both.1)

pub empty_is_input : IsInput empty_document (sections_of None empty_doc (show_word ∷ []))
unfolding chars is_utf8 lib.Utf8.encode
empty_is_input = record {
  sheet = None;
  document = empty_doc;
  lines = refl;
  styled = tt;
  built = record { top = tt; parted = (tt, tt, tt); faultless = refl };
  plain = plain_lines (written_lines empty_doc) refl;
  short = lit≤ tt;
  names = refl;
  style = refl;
  source = refl;
}

pub oak_is_input : IsInput one_text (sections_of None oak_doc (show_word ∷ []))
unfolding chars is_utf8 lib.Utf8.encode
oak_is_input = record {
  sheet = None;
  document = oak_doc;
  lines = refl;
  styled = tt;
  built = record { top = tt; parted = (tt, tt, tt); faultless = refl };
  plain = plain_lines (written_lines oak_doc) refl;
  short = lit≤ tt;
  names = refl;
  style = refl;
  source = refl;
}

pub full_is_input : IsInput full_document (sections_of None full_doc full_script)
unfolding chars is_utf8 lib.Utf8.encode
full_is_input = record {
  sheet = None;
  document = full_doc;
  lines = refl;
  styled = tt;
  built = record { top = tt; parted = ((refl, (refl, tt)), (tt, tt, tt), tt); faultless = refl };
  plain = plain_lines (written_lines full_doc) refl;
  short = lit≤ tt;
  names = refl;
  style = refl;
  source = refl;
}

pub block_is_sheet : IsSheet block_sheet
unfolding chars is_utf8 lib.Utf8.encode
block_is_sheet = record {
  named = refl;
  written = record {
    top = tt;
    parted = ((refl, (refl, (refl, tt))), ((refl, tt), (tt, (tt, ((refl, tt), (tt, tt, tt), tt), tt), tt), ((refl, tt), (tt, (tt, tt, tt), tt), tt)), tt);
    faultless = refl;
  };
  plain = plain_lines (written_lines block_sheet.document) refl;
  built = refl;
}

pub block_is_input : IsInput block_input (sections_of (Some block_sheet) two_doc block_script)
unfolding chars is_utf8 lib.Utf8.encode
block_is_input = record {
  sheet = Some block_sheet;
  document = two_doc;
  lines = refl;
  styled = block_is_sheet;
  built = record { top = tt; parted = (tt, (tt, tt, (tt, tt, tt)), tt); faultless = refl };
  plain = plain_lines (written_lines two_doc) refl;
  short = lit≤ tt;
  names = refl;
  style = refl;
  source = refl;
}

pub empty_answered : answers (sections_of None empty_doc (show_word ∷ [])) ≡ plain []
unfolding digits view_stops batch whole begun chars is_utf8 lib.Utf8.encode
empty_answered = refl

pub oak_answered : answers (sections_of None oak_doc (show_word ∷ [])) ≡ plain oak
unfolding digits view_stops batch whole begun chars is_utf8 lib.Utf8.encode
oak_answered = refl

pub at_end_answered : answers (sections_of None oak_doc types_at_end) ≡ typed_at_end
unfolding digits view_stops batch whole begun chars is_utf8 lib.Utf8.encode
at_end_answered = refl

pub into_answered : answers (sections_of None empty_doc types_into) ≡ typed_into
unfolding digits view_stops batch whole begun chars is_utf8 lib.Utf8.encode
into_answered = refl

pub asks_answered : answers (sections_of None empty_doc asks) ≡ told_what_it_asks
unfolding digits view_stops batch whole begun chars is_utf8 lib.Utf8.encode
asks_answered = refl

pub full_answered : answers (sections_of None full_doc full_script) ≡ full_answers
unfolding digits view_stops batch whole begun chars is_utf8 lib.Utf8.encode
full_answered = refl

pub block_answered : answers (sections_of (Some block_sheet) two_doc block_script) ≡ block_answers
unfolding digits view_stops batch whole begun chars is_utf8 lib.Utf8.encode
block_answered = refl

-- what every input has: a head first, the document's with a comment or the beginning of an element behind it, and the script's head
abbrev first_is : List ℕ → List (List ℕ) → Bool
first_is head [] = false
first_is head (line ∷ lines) = bytes_eq line head

abbrev is_outside : List ℕ → Bool
is_outside [] = false
is_outside (c ∷ cs) = c == 40 || c == 67

abbrev second_is_outside : List (List ℕ) → Bool
second_is_outside [] = false
second_is_outside (line ∷ []) = false
second_is_outside (line ∷ next ∷ lines) = is_outside next

top_is_outside : (head : List ℕ) (d : Written) (more : List (List ℕ)) → IsTop d → second_is_outside (head ∷ (written_lines d ++ more)) ≡ true
top_is_outside head written.end more top = absurd top
top_is_outside head (written.text t rest) more top = absurd top
top_is_outside head (written.comment t rest) more top = refl
top_is_outside head (written.element name attributes content rest) more top = refl

abbrev has_script : List (List ℕ) → Bool
has_script [] = false
has_script (line ∷ lines) = bytes_eq line script_head || has_script lines

or_true : (b : Bool) → (b || true) ≡ true
or_true true = refl
or_true false = refl

has_script-behind : (xs ys : List (List ℕ)) → has_script ys ≡ true → has_script (xs ++ ys) ≡ true
has_script-behind [] ys h = h
has_script-behind (x ∷ xs) ys h = ap (λ b. bytes_eq x script_head || b) (has_script-behind xs ys h) ∙ or_true (bytes_eq x script_head)

pub cut_is_none : (sections : Sections) → IsInput cut_off sections → ⊥
cut_is_none sections is =
    let behind : List (List ℕ) = document_head ∷ (written_lines is.document ++ (script_head ∷ sections.script)) in
    false≢true (ap has_script is.lines
    ∙ has_script-behind (sheet_lines is.sheet) behind (has_script-behind (document_head ∷ written_lines is.document) (script_head ∷ sections.script) refl))

-- a text is no first line of a document, and a stylesheet's head is another line than the document's
outside_none : (sheet : Option Sheet) (d : Written) (s : List (List ℕ)) → IsTop d
    → lines_of text_outside ≡ sheet_lines sheet ++ (document_head ∷ (written_lines d ++ (script_head ∷ s))) → ⊥
outside_none None d s top lines = false≢true (ap second_is_outside lines ∙ top_is_outside document_head d (script_head ∷ s) top)
outside_none (Some sheet) d s top lines = false≢true (sym (ap (first_is document_head) lines))

pub outside_is_none : (sections : Sections) → IsInput text_outside sections → ⊥
outside_is_none sections is = outside_none is.sheet is.document sections.script is.built.top is.lines

-- the script's head is neither a stylesheet's nor the document's
head_none : (sheet : Option Sheet) (d : Written) (s : List (List ℕ))
    → lines_of another_head ≡ sheet_lines sheet ++ (document_head ∷ (written_lines d ++ (script_head ∷ s))) → ⊥
head_none None d s lines = false≢true (ap (first_is document_head) lines)
head_none (Some sheet) d s lines = false≢true (sym (ap (first_is script_head) lines))

pub head_is_none : (sections : Sections) → IsInput another_head sections → ⊥
head_is_none sections is = head_none is.sheet is.document sections.script is.lines
