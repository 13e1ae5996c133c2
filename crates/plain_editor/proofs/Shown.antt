-- The text of the view is what the text lines of the document say, one after another.
use Rattle.std.proofs.Common.{◌≡◌, ℕ, zero, suc, ◌+◌, ◌<◌, ◌≤◌, drop, length, List, [], ◌∷◌, ◌++◌, Option, Some, None, refl, ap, ◌∙◌, inl, inr, arith, append_assoc}
use Rattle.std.specs.List.{flat_map}
use Rattle.serna_kinds.specs.Names.{NameParts, Space}
use Rattle.tree_lines.specs.Texts.{meant}
use Rattle.tree_lines.specs.Written.{Written, written_lines}
use Rattle.tree_lines.specs.Written as written
use Rattle.tree_lines.specs.Documents.{IsDocument}
use Rattle.tree_lines.specs.Given.{Given, count_of, with_text, given_in, spaces_of, given_of, IsWhole}
use Rattle.tree_lines.specs.Given as given
use Rattle.source_model.specs.Source.{Source, numbers}
use Rattle.source_model.specs.Source as source
use Rattle.source_model.specs.Cells.{Spot, or_else, spot_in, spot_of}
use Rattle.source_model.specs.PlainText.{spot_text, node_text, view_text}
use Rattle.source_tree.specs.Begun.{numbered, begun}
use Rattle.source_model.proofs.Spots.{if_same, if_other, spot_in-unused}
use Rattle.source_tree.proofs.Numbering.{uses-outside}
use Rattle.style_sheet.specs.Sheet.{no_style}
use Rattle.template_run.specs.Batch.{batch}
use Rattle.plain_editor.specs.Sheets.{names_of, start}
use Rattle.plain_editor.specs.Views.{texts_of}
use Rattle.plain_editor.specs.Texts.{written_text}
use Rattle.plain_editor.proofs.SaidTexts.{texts_of-batch}

-- the texts of a tree, one after another
abbrev text_in : Given → List ℕ
text_in given.end = []
text_in (given.text t rest) = t ++ text_in rest
text_in (given.comment t rest) = text_in rest
text_in (given.element name attributes line content rest) = text_in content ++ text_in rest

-- under each number of neighbours stands the node that was numbered so
abbrev Placed : (ℕ → Option Spot) → ℕ → Given → Type 0
Placed look k given.end = Unit {0}
Placed look k (given.text t rest) = ((up : Option ℕ) × (look k ≡ Some (record { up = up; body = source.Text t; kids = source.none }))) × Placed look (k + 1) rest
Placed look k (given.comment t rest) = ((up : Option ℕ) × (look k ≡ Some (record { up = up; body = source.Comment t; kids = source.none }))) × Placed look (k + 1) rest
Placed look k (given.element name attributes line content rest) =
    ((up : Option ℕ) × (look k ≡ Some (record { up = up; body = source.Element name attributes; kids = numbered (k + 1) content })))
    × Placed look (k + 1) content × Placed look (k + 1 + count_of content) rest

-- looking up agrees with the search among neighbours numbered from k
abbrev Agrees : (ℕ → Option Spot) → Option ℕ → ℕ → Given → Type 0
Agrees look up k g = (n : ℕ) → k ≤ n → n < k + count_of g → look n ≡ spot_in up n (numbered k g)

or_else-none : (x : Option Spot) → or_else x None ≡ x
or_else-none None = refl
or_else-none (Some x) = refl

placed : (look : ℕ → Option Spot) (up : Option ℕ) (k : ℕ) (g : Given) → Agrees look up k g → Placed look k g
placed look up k given.end agrees = tt
placed look up k (given.text t rest) agrees = (
  (up, agrees k (omega arith) (omega arith) ∙ if_same k k _ _ refl),
  placed look up (k + 1) rest (λ n from to. agrees n (omega arith) (omega arith) ∙ if_other n k _ _ (λ e. absurd (omega arith))),
)
placed look up k (given.comment t rest) agrees = (
  (up, agrees k (omega arith) (omega arith) ∙ if_same k k _ _ refl),
  placed look up (k + 1) rest (λ n from to. agrees n (omega arith) (omega arith) ∙ if_other n k _ _ (λ e. absurd (omega arith))),
)
placed look up k (given.element name attributes line content rest) agrees = (
  (up, agrees k (omega arith) (omega arith) ∙ if_same k k _ _ refl),
  placed look (Some k) (k + 1) content (λ n from to.
      agrees n (omega arith) (omega arith) ∙ if_other n k _ _ (λ e. absurd (omega arith))
      ∙ ap (or_else (spot_in (Some k) n (numbered (k + 1) content))) (spot_in-unused up n (numbered (k + 1 + count_of content) rest) (uses-outside n (k + 1 + count_of content) rest (inl to)))
      ∙ or_else-none (spot_in (Some k) n (numbered (k + 1) content))),
  placed look up (k + 1 + count_of content) rest (λ n from to.
      agrees n (omega arith) (omega arith) ∙ if_other n k _ _ (λ e. absurd (omega arith))
      ∙ ap (λ o. or_else o (spot_in up n (numbered (k + 1 + count_of content) rest))) (spot_in-unused (Some k) n (numbered (k + 1) content) (uses-outside n (k + 1) content (inr from)))),
)

node_text-suc : (left : ℕ) (s : Source) (n : ℕ) → node_text (suc left) s n ≡ spot_text (node_text left s) (spot_of s n)
unfolding node_text
node_text-suc left s n = refl

-- what neighbours give together, where enough levels are left
kids_text : (g : Given) (s : Source) (k left : ℕ) → Placed (spot_of s) k g → given.depth_of g < left → flat_map (node_text left s) (numbers (numbered k g)) ≡ text_in g
kids_text given.end s k left p d = refl
kids_text (given.text t rest) s k zero p d = absurd (omega arith)
kids_text (given.text t rest) s k (suc left) p d =
    ap (λ x. x ++ flat_map (node_text (suc left) s) (numbers (numbered (k + 1) rest))) (node_text-suc left s k ∙ ap (spot_text (node_text left s)) p.0.1)
    ∙ ap (λ x. t ++ x) (kids_text rest s (k + 1) (suc left) p.1 d)
kids_text (given.comment t rest) s k zero p d = absurd (omega arith)
kids_text (given.comment t rest) s k (suc left) p d =
    ap (λ x. x ++ flat_map (node_text (suc left) s) (numbers (numbered (k + 1) rest))) (node_text-suc left s k ∙ ap (spot_text (node_text left s)) p.0.1)
    ∙ kids_text rest s (k + 1) (suc left) p.1 d
kids_text (given.element name attributes line content rest) s k zero p d = absurd (omega arith)
kids_text (given.element name attributes line content rest) s k (suc left) p d =
    ap (λ x. x ++ flat_map (node_text (suc left) s) (numbers (numbered (k + 1 + count_of content) rest)))
    (node_text-suc left s k ∙ ap (spot_text (node_text left s)) p.0.1 ∙ kids_text content s (k + 1) left p.1 (omega arith))
    ∙ ap (λ x. text_in content ++ x) (kids_text rest s (k + 1 + count_of content) (suc left) p.2 (omega arith))

view_text-begun : (spaces : List Space) (g : Given) → given.depth_of g ≤ 120 → view_text (begun spaces g) ≡ text_in g
unfolding view_text begun
view_text-begun spaces g d =
    let s : Source = record { tree = source.node 0 source.Root (numbered 1 g) source.none; made = count_of g; spaces = spaces } in
    let all : Placed (spot_of s) 1 g =
    placed (spot_of s) (Some 0) 1 g (λ n from to. if_other n 0 _ _ (λ e. absurd (omega arith)) ∙ or_else-none (spot_in (Some 0) n (numbered 1 g))) in
    node_text-suc 199 s 0 ∙ kids_text g s 1 199 all (omega arith)

-- joining neighbours, and numbering names, keep the text
text_in-with_text : (t : List ℕ) (g : Given) → text_in (with_text t g) ≡ t ++ text_in g
text_in-with_text [] g = refl
text_in-with_text (c ∷ cs) given.end = refl
text_in-with_text (c ∷ cs) (given.text t rest) = append_assoc (c ∷ cs) t (text_in rest)
text_in-with_text (c ∷ cs) (given.comment t rest) = refl
text_in-with_text (c ∷ cs) (given.element name attributes line content rest) = refl

text_in-given_in : (names : List NameParts) (spaces : List Space) (lines : List ℕ) (d : Written) → text_in (given_in names spaces lines d) ≡ written_text d
text_in-given_in names spaces lines written.end = refl
text_in-given_in names spaces lines (written.text t rest) =
    text_in-with_text (meant t) (given_in names spaces (drop 1 lines) rest) ∙ ap (λ x. meant t ++ x) (text_in-given_in names spaces (drop 1 lines) rest)
text_in-given_in names spaces lines (written.comment t rest) = text_in-given_in names spaces (drop 1 lines) rest
text_in-given_in names spaces lines (written.element name attributes content rest) =
    let inner : List ℕ = drop (1 + length attributes) lines in
    let behind : List ℕ = drop (1 + length (written_lines content)) inner in
    ap (λ x. x ++ text_in (given_in names spaces behind rest)) (text_in-given_in names spaces inner content)
    ∙ ap (λ x. written_text content ++ x) (text_in-given_in names spaces behind rest)

-- the tree of a document is whole
abbrev pub AreWhole : Type 0
AreWhole = (names : List NameParts) (lines : List ℕ) (document : Written) → IsDocument document → IsWhole (given_of names lines document)

view_text-start : AreWhole → (d : Written) → IsDocument d → view_text (start None d) ≡ written_text d
view_text-start whole d is =
    let w = whole (names_of None d) [] d is in
    view_text-begun (spaces_of d) (given_of (names_of None d) [] d) w.shallow ∙ text_in-given_in (names_of None d) (spaces_of d) [] d

pub texts_of-start : AreWhole → (names : List NameParts) (d : Written) → IsDocument d → texts_of (batch names no_style (start None d)) ≡ written_text d
texts_of-start whole names d is = texts_of-batch names (start None d) ∙ view_text-start whole d is
