-- A stylesheet and a document as they are read, and both together.
use Rattle.std.proofs.Common.{◌≡◌, ℕ, ◌+◌, ◌==◌, ◌&&◌, not, Bool, length, List, [], ◌∷◌, ◌++◌, take, drop, IsTrue, Some, None, true, refl, sym, ap, ◌∙◌, append_assoc}
use Rattle.std.proofs.lemmas.Bool.{and_parts, true≢false}
use Rattle.std.specs.List.{position, list_any}
use Rattle.serna_kinds.specs.Names.{NameParts, Grows}
use Rattle.serna_kinds.proofs.NameLemmas.{Grows-refl, Grows-trans}
use Rattle.tree_lines.specs.declared.tree.Line.{Line}
use Rattle.tree_lines.specs.declared.tree.TreeItem.{TreeItem}
use Rattle.tree_lines.specs.declared.tree.TreeItem.TheVariants as item
use Rattle.tree_lines.specs.Written.{Written, written_lines}
use Rattle.tree_lines.specs.Given.{Given, items_of, spaces_of, given_of}
use Rattle.tree_lines.specs.Given as given
use Rattle.tree_lines.specs.Tokens.{names_with, with_names, AreNamed}
use Rattle.tree_lines.specs.Whole.{ReadTree}
use Rattle.source_model.specs.Source.{Source}
use Rattle.source_model.specs.Proper.{IsProper}
use Rattle.source_tree.specs.Begun.{begun}
use Rattle.source_tree.specs.Seen.{SeenTree}
use Rattle.style_sheet.specs.Sheet.{StyleValue, no_style}
use Rattle.style_sheet.specs.declared.reading.Module.{Module}
use Rattle.style_sheet.specs.Modules.{AreBuilt, IsStyle, HasMatched}
use Rattle.style_sheet.specs.Styles.{style_of, matched_names}
use Rattle.style_sheet.specs.Built.{is_built}
use Rattle.plain_editor.specs.Sheets.{Sheet, is_sheet_name, sheet_head, sheet_lines, sheet_numbers, sheet_tree, own_names, names_of, style_in}
use Rattle.plain_editor.specs.Plain.{is_plain}
use Rattle.plain_editor.specs.Input.{document_head}
use Rattle.serna_main.specs.Sections.{IsRead, IsNoDocument, IsStyled, IsNoStyle, IsNoStyleHead, Begins, IsOpening, IsNoOpening}
use Rattle.serna_main.proofs.Replies.{bytes_of}
use Rattle.serna_main.proofs.Lineless.{built_lineless, style_lineless, matched_lineless, begun_lineless}
use Rattle.serna_main.proofs.Cuts.{IsCut, is_line, one_cut, cut_at, stands_nowhere, sheet_other}

-- a tree is told by its items
same_items : (a b : Given) (r s : List TreeItem) → items_of a ++ (item.Finish ∷ r) ≡ items_of b ++ (item.Finish ∷ s) → (a ≡ b) × (r ≡ s)
same_items given.end given.end r s e = (refl, cc)
same_items given.end (given.text t rest) r s e = cc
same_items given.end (given.comment t rest) r s e = cc
same_items given.end (given.element n pairs l content rest) r s e = cc
same_items (given.text t rest) given.end r s e = cc
same_items (given.text t rest) (given.text u more) r s e =
    let first : t ≡ u = cc in
    let tail : items_of rest ++ (item.Finish ∷ r) ≡ items_of more ++ (item.Finish ∷ s) = cc in
    let same = same_items rest more r s tail in
    (ap (λ x. given.text x rest) first ∙ ap (given.text u) same.0, same.1)
same_items (given.text t rest) (given.comment u more) r s e = cc
same_items (given.text t rest) (given.element n pairs l content more) r s e = cc
same_items (given.comment t rest) given.end r s e = cc
same_items (given.comment t rest) (given.text u more) r s e = cc
same_items (given.comment t rest) (given.comment u more) r s e =
    let first : t ≡ u = cc in
    let tail : items_of rest ++ (item.Finish ∷ r) ≡ items_of more ++ (item.Finish ∷ s) = cc in
    let same = same_items rest more r s tail in
    (ap (λ x. given.comment x rest) first ∙ ap (given.comment u) same.0, same.1)
same_items (given.comment t rest) (given.element n pairs l content more) r s e = cc
same_items (given.element n pairs l content rest) given.end r s e = cc
same_items (given.element n pairs l content rest) (given.text u more) r s e = cc
same_items (given.element n pairs l content rest) (given.comment u more) r s e = cc
same_items (given.element n pairs l content rest) (given.element m others k inner more) r s e =
    let name : n ≡ m = cc in
    let attributes : pairs ≡ others = cc in
    let line : l ≡ k = cc in
    let tail : (items_of content ++ (item.Finish ∷ items_of rest)) ++ (item.Finish ∷ r) ≡ (items_of inner ++ (item.Finish ∷ items_of more)) ++ (item.Finish ∷ s) = cc in
    let within = same_items content inner (items_of rest ++ (item.Finish ∷ r)) (items_of more ++ (item.Finish ∷ s))
    (sym (append_assoc (items_of content) (item.Finish ∷ items_of rest) (item.Finish ∷ r)) ∙ tail ∙ append_assoc (items_of inner) (item.Finish ∷ items_of more) (item.Finish ∷ s)) in
    let behind = same_items rest more r s within.1 in
    (λ i. given.element (name i) (attributes i) (line i) (within.0 i) (behind.0 i), behind.1)

pub one_tree : (a b : Given) → items_of a ≡ items_of b → a ≡ b
one_tree a b e = (same_items a b [] [] (ap (λ items. items ++ (item.Finish ∷ [])) e)).0

-- the name of a stylesheet, by its tests
pub named_by : (name : List ℕ) (result : Bool) → (length name ≡ 0 → ⊥) → result ≡ (is_plain name && not (list_any (λ c. c == 32) name)) → result ≡ is_sheet_name name
named_by [] result some e = absurd (some refl)
named_by (x ∷ xs) result some e = e

pub plain_name : (name : List ℕ) → is_sheet_name name ≡ true → is_plain name ≡ true
plain_name [] e = absurd (true≢false (sym e))
plain_name (x ∷ xs) e = (and_parts (is_plain (x ∷ xs)) (not (list_any (λ c. c == 32) (x ∷ xs))) e).0

-- no lines are those of no stylesheet
pub styled_by_none : IsStyled [] [] no_style
styled_by_none = record { style = None; styled = tt; spelled = refl; table = refl; read = λ later grown. refl }

-- lines whose first is no head are no stylesheet, and neither are those whose rest is no document
pub no_head : (line : List ℕ) (lines : List (List ℕ)) → IsNoStyleHead line → IsNoStyle (line ∷ lines)
no_head line lines none None styled e = cc
no_head line lines none (Some sheet) styled e = let first : line ≡ sheet_head sheet.name = cc in none sheet.name styled.named first

pub no_sheet : (name : List ℕ) (lines : List (List ℕ)) → IsNoDocument lines → IsNoStyle (sheet_head name ∷ lines)
no_sheet name lines none None styled e = cc
no_sheet name lines none (Some sheet) styled e =
    let rest : lines ≡ written_lines sheet.document = cc in none sheet.document styled.written styled.plain rest

-- a document that is not of the built form is none
pub not_built : (name : List ℕ) (lines : List (List ℕ)) (old names : List NameParts) (m : Module) → old ≡ [] → IsRead lines old names m.tree → (AreBuilt names (m ∷ []) → ⊥) → IsNoStyle (sheet_head name ∷ lines)
not_built name lines old names m empty read other None styled e = cc
not_built name lines old names m empty read other (Some sheet) styled e =
    let rest : lines ≡ written_lines sheet.document = cc in
    let own : own_names sheet ≡ names = ap (λ ls. names_with [] ls) (sym rest ∙ read.spelled) ∙ ap (λ o. names_with o (written_lines read.document)) (sym empty) ∙ sym read.table in
    other (λ tree is.
    let same : tree ≡ given_of names read.numbers sheet.document =
    one_tree tree (given_of names read.numbers sheet.document) (sym is ∙ read.items names (Grows-refl names) sheet.document styled.written rest) in
    ap (is_built names m.tree.spaces) same ∙ built_lineless names m.tree.spaces read.numbers (sheet_numbers sheet) sheet.document
    ∙ ap (λ s. is_built names s (sheet_tree names sheet)) (read.spaces sheet.document rest)
    ∙ ap (λ n. is_built n (spaces_of sheet.document) (sheet_tree n sheet)) (sym own) ∙ styled.built)

-- a document that was compiled is a stylesheet
pub styled_by : (name : List ℕ) (lines : List (List ℕ)) (old names new : List NameParts) (said : StyleValue) (m : Module) → IsTrue (is_sheet_name name) → old ≡ [] → IsRead lines old names m.tree → AreBuilt names (m ∷ []) →
    ((table : List NameParts) → Grows new table → IsStyle table (m ∷ []) said) → HasMatched names (m ∷ []) new → Grows names new → IsStyled (sheet_head name ∷ lines) new said
styled_by name lines old names new said m good empty read built is matched grown =
    let d : Written = read.document in
    let sheet : Sheet = record { name = name; document = d } in
    let own : names ≡ own_names sheet = read.table ∙ ap (λ o. names_with o (written_lines d)) empty in
    let spaces : m.tree.spaces ≡ spaces_of d = read.spaces d read.spelled in
    let items : (later : List NameParts) → Grows names later → m.tree.items ≡ items_of (given_of later read.numbers d) = λ later g. read.items later g d read.built read.spelled in
    record {
      style = Some sheet;
      styled = record {
        named = good;
        written = read.built;
        plain = read.plain;
        built = ap (λ n. is_built n (spaces_of d) (sheet_tree n sheet)) (sym own) ∙ ap (λ s. is_built names s (sheet_tree names sheet)) (sym spaces)
            ∙ sym (built_lineless names m.tree.spaces read.numbers (sheet_numbers sheet) d) ∙ built (given_of names read.numbers d) (items names (Grows-refl names));
      };
      spelled = ap (λ ls. sheet_head name ∷ ls) read.spelled;
      table = matched (given_of names read.numbers d) (items names (Grows-refl names)) ∙ ap (λ s. with_names names (matched_names s (given_of names read.numbers d))) spaces
          ∙ ap (with_names names) (matched_lineless names (spaces_of d) read.numbers (sheet_numbers sheet) d)
          ∙ ap (λ n. with_names n (matched_names (spaces_of d) (sheet_tree n sheet))) own;
      read = λ later g. is later g (given_of later read.numbers d) (items later (Grows-trans names new later grown g)) ∙ ap (λ s. style_of later s (given_of later read.numbers d)) spaces
          ∙ style_lineless later (spaces_of d) read.numbers (sheet_numbers sheet) d;
    }

-- the source that a document's tree begins
pub begins_by : (lines : List (List ℕ)) (old new : List NameParts) (tree : ReadTree) (source : Source) → IsRead lines old new tree →
    ((g : Given) → tree.items ≡ items_of g → source ≡ begun tree.spaces g) → ((names : List NameParts) → AreNamed names tree.items → IsProper names source) → Begins lines old new source
begins_by lines old new tree source read is proper = record {
  document = read.document;
  built = read.built;
  plain = read.plain;
  spelled = read.spelled;
  table = read.table;
  grows = read.grows;
  begins = is (given_of new read.numbers read.document) (read.items new (Grows-refl new) read.document read.built read.spelled)
      ∙ ap (λ s. begun s (given_of new read.numbers read.document)) (read.spaces read.document read.spelled)
      ∙ begun_lineless new (spaces_of read.document) read.numbers read.document;
  proper = proper new (read.named new (Grows-refl new));
}

-- a stylesheet or none before the document's head, and a document behind it
pub is_opening : (lines before behind : List (List ℕ)) (names new : List NameParts) (said : StyleValue) (tree : SeenTree) → IsCut document_head lines before behind → IsStyled before names said → Begins behind names new tree.source →
    IsOpening lines (record { names = new; style = said; source = tree })
is_opening lines before behind names new said tree cut s b =
    let table : new ≡ names_of s.style b.document = b.table ∙ ap (λ n. names_with n (written_lines b.document)) s.table in
    record {
      style = s.style;
      document = b.document;
      styled = s.styled;
      built = b.built;
      plain = b.plain;
      spelled = cut.whole ∙ ap (λ ls. ls ++ (document_head ∷ behind)) s.spelled ∙ ap (λ ls. sheet_lines s.style ++ (document_head ∷ ls)) b.spelled;
      table = table;
      compiled = s.read new b.grows ∙ ap (λ n. style_in n s.style) table;
      begins = b.begins ∙ ap (λ n. begun (spaces_of b.document) (given_of n [] b.document)) table;
      proper = b.proper;
    }

-- without the head, without a stylesheet before it, or without a document behind it there is no opening
pub no_opening : (lines : List Line) → None ≡ position (λ (line : Line). is_line document_head line.bytes) lines → IsNoOpening (bytes_of lines)
no_opening lines none style d styled built plain e = stands_nowhere document_head lines none (sheet_lines style) (written_lines d) e

pub no_opening_style : (lines : List Line) (k : ℕ) → Some k ≡ position (λ (line : Line). is_line document_head line.bytes) lines → IsNoStyle (bytes_of (take k lines)) → IsNoOpening (bytes_of lines)
no_opening_style lines k at none style d styled built plain e =
    let same = one_cut document_head (bytes_of lines) (bytes_of (take k lines)) (bytes_of (drop (k + 1) lines)) (cut_at document_head lines k at) (sheet_lines style) (written_lines d) (sheet_other style) e in
    none style styled same.0

pub no_opening_document : (lines : List Line) (k : ℕ) → Some k ≡ position (λ (line : Line). is_line document_head line.bytes) lines → IsNoDocument (bytes_of (drop (k + 1) lines)) → IsNoOpening (bytes_of lines)
no_opening_document lines k at none style d styled built plain e =
    let same = one_cut document_head (bytes_of lines) (bytes_of (take k lines)) (bytes_of (drop (k + 1) lines)) (cut_at document_head lines k at) (sheet_lines style) (written_lines d) (sheet_other style) e in
    none d built plain same.1
