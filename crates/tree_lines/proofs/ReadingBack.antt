-- What is written of a tree is a document that declares the same, and the document's tree is that tree.
use Rattle.std.proofs.Common.{◌≡◌, ◌≢◌, ℕ, true, false, List, [], ◌∷◌, None, eqb, sym, ap, ◌∙◌, arith}
use Rattle.std.specs.List.{All, list_all}
use Rattle.std.specs.Str.{chars, is_utf8, NonePass}
use Rattle.std.proofs.lemmas.Bool.{and_parts, ne_eqb, false≢true}
use Rattle.std.proofs.lemmas.List.{get_or_default}
use Rattle.std.proofs.lemmas.List.Elements.{All-nil, All-cons}
use Rattle.std.proofs.lemmas.Str.{encodes-chars, IsUtf8-from_is_utf8}
use Rattle.std.proofs.lemmas.Str.Pattern.{NoCharPasses-char}
use Rattle.serna_kinds.specs.Names.{NameParts, Space, AreDistinct}
use Rattle.tree_lines.specs.Texts.{is_allowed, is_line}
use Rattle.tree_lines.specs.Written.{Written, written_lines}
use Rattle.tree_lines.specs.Declarations.{spaces_in}
use Rattle.tree_lines.specs.Faults.{fault_behind, fault_of}
use Rattle.tree_lines.specs.Given.{Given, without_lines, given_in}
use Rattle.tree_lines.specs.Canonical.{document_lines}
use Rattle.tree_lines.specs.Writable.{IsWritable, ReadsBack}
use Rattle.tree_lines.proofs.LineFacts.{fault_behind-parts, line_fault-parts}
use Rattle.tree_lines.proofs.WrittenFaultless.{document-faultless}
use Rattle.tree_lines.proofs.WrittenDocuments.{document_of, lines-written, top-written, parted-written, spaces-written, tree-again}

pub reads_back-writable : (names : List NameParts) (spaces : List Space) (tree : Given) → AreDistinct names → IsWritable names spaces tree → ReadsBack names spaces tree
reads_back-writable names spaces tree distinct h =
    let document : Written = document_of names spaces tree in
    let lines : document_lines names spaces tree ≡ written_lines document = lines-written names spaces tree in
    let declared : spaces_in (document_lines names spaces tree) ≡ spaces = spaces-written names spaces tree h.declared h.nodes h.whole.top in
    let read : spaces_in (written_lines document) ≡ spaces = sym (ap spaces_in lines) ∙ declared in
    let faultless : fault_of (written_lines document) ≡ None =
    sym (ap fault_of lines) ∙ ap (λ s. fault_behind s [] (document_lines names spaces tree)) declared ∙ document-faultless names spaces tree h in
    record {
      document = document;
      built = record { top = top-written names spaces tree h.whole.top; parted = parted-written names spaces tree h.declared h.nodes; faultless = faultless };
      lines = lines;
      declared = read;
      same = λ table grown numbers. ap (λ s. without_lines (given_in table s numbers document)) read ∙ tree-again names table spaces numbers tree distinct grown h.nodes h.whole.texts;
    }

-- a line that breaks no rule has no LF within it
abbrev IsInLine : ℕ → Type 0
IsInLine c = c ≢ 10

none_feed : (text : List ℕ) → list_all is_allowed text ≡ true → NonePass (λ c. eqb c 10) text
none_feed [] h = tt
none_feed (c ∷ cs) h =
    let parts = and_parts (is_allowed c) (list_all is_allowed cs) h in
    let other : eqb c 10 ≡ false = ne_eqb c 10 (λ (e : c ≡ 10). let bad : is_allowed 10 ≡ true = rw e at parts.0 in false≢true bad) in
    (other, none_feed cs parts.1)

in_line : (line : List ℕ) → is_line line ≡ true → All IsInLine line
in_line line good =
    let parts = and_parts (is_utf8 line) (list_all is_allowed (chars line)) good in
    let text = encodes-chars line (IsUtf8-from_is_utf8 line parts.0) in
    λ i d within e. NoCharPasses-char 10 line i (chars line, text, none_feed (chars line) parts.1) (omega arith) within (get_or_default line i 0 d within ∙ e)

lines_kept : (spaces : List Space) (before lines : List (List ℕ)) → fault_behind spaces before lines ≡ None → All (All IsInLine) lines
lines_kept spaces before [] h = All-nil (All IsInLine)
lines_kept spaces before (line ∷ lines) h =
    let both = fault_behind-parts spaces before line lines h in
    All-cons (All IsInLine) line lines (in_line line (line_fault-parts spaces before line both.0).0) (lines_kept spaces (line ∷ before) lines both.1)

pub in_lines-writable : (names : List NameParts) (spaces : List Space) (tree : Given) → IsWritable names spaces tree → All (All (λ (c : ℕ). c ≢ 10)) (document_lines names spaces tree)
in_lines-writable names spaces tree h = lines_kept spaces [] (document_lines names spaces tree) (document-faultless names spaces tree h)
