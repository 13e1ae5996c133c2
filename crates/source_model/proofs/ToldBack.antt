-- The cells of a source tell the source.
use Rattle.std.proofs.Common.{◌≡◌, ℕ, zero, suc, ◌+◌, ◌<◌, ◌≤◌, ◌==◌, List, [], ◌∷◌, map, Option, Some, None, if◌then◌else◌, refl, sym, ap, ◌∙◌, subst, arith}
use Rattle.std.specs.Option.{option_and_then}
use Rattle.serna_kinds.specs.declared.cells.NodeName.{NodeName}
use Rattle.serna_kinds.specs.declared.cells.Cell.{Cell}
use Rattle.serna_kinds.specs.declared.cells.Facet.{Facet}
use Rattle.serna_kinds.specs.declared.cells.Facet.TheVariants as facet
use Rattle.serna_kinds.specs.Content.{Content}
use Rattle.serna_kinds.specs.Limits.{depth_limit}
use Rattle.source_model.specs.Source.{Body, Root, Element, Text, Comment, Forest, none, node, Source, numbers}
use Rattle.source_model.specs.Cells.{Spot, named, or_else, spot_in, spot_of, kids_of, facet_of, cell_of}
use Rattle.source_model.specs.Proper.{uses, depth_of}
use Rattle.source_model.specs.Consistent.{AreLeaves, IsLinked}
use Rattle.source_model.specs.Told.{told_pairs, told_text, told_kids, told_body, body_at, kids_at, planted, neighbours, told, told_tree, AreSameCells, AreTold}
use Rattle.source_model.specs.Logged.{cell_at}
use Rattle.source_model.proofs.Spots.{if_same, if_other, spot_in-unused, used-from_spot}

told-nil : (view : Cell → Option Content) (left : ℕ) → told view left [] ≡ none
unfolding told
told-nil view zero = refl
told-nil view (suc left) = refl

told-suc : (view : Cell → Option Content) (left : ℕ) (ns : List NodeName) → told view (suc left) ns ≡ neighbours view (told view left) ns
unfolding told
told-suc view left ns = refl

-- what a node is, by its own cells
own_body : (body : Body) (kids : Forest) (up : Option ℕ) →
    told_body (facet_of facet.Label (record { up = up; body = body; kids = kids })) (told_pairs (facet_of facet.Attrs (record { up = up; body = body; kids = kids })))
    (told_text (facet_of facet.Text (record { up = up; body = body; kids = kids }))) ≡ Some body
own_body Root kids up = refl
own_body (Element name pairs) kids up = refl
own_body (Text text) kids up = refl
own_body (Comment text) kids up = refl

body_told : (view : Cell → Option Content) (n : ℕ) (up : Option ℕ) (body : Body) (kids : Forest) →
    ((facet : Facet) → view (cell_at facet (named n)) ≡ facet_of facet (record { up = up; body = body; kids = kids })) → body_at view (named n) ≡ Some body
body_told view n up body kids own =
    ap (λ l. told_body l (told_pairs (view (cell_at facet.Attrs (named n)))) (told_text (view (cell_at facet.Text (named n))))) (own facet.Label)
    ∙ ap (λ a. told_body (facet_of facet.Label (record { up = up; body = body; kids = kids })) (told_pairs a) (told_text (view (cell_at facet.Text (named n))))) (own facet.Attrs)
    ∙ ap (λ t. told_body (facet_of facet.Label (record { up = up; body = body; kids = kids })) (told_pairs (facet_of facet.Attrs (record { up = up; body = body; kids = kids }))) (told_text t)) (own facet.Text)
    ∙ own_body body kids up

-- one node reads back, where its children and its later siblings do
read_node : (view : Cell → Option Content) (up : Option ℕ) (n : ℕ) (body : Body) (kids rest : Forest) (left : ℕ) →
    ((facet : Facet) → view (cell_at facet (named n)) ≡ facet_of facet (record { up = up; body = body; kids = kids })) →
    told view left (told_kids (kids_of body kids)) ≡ kids → told view (suc left) (map named (numbers rest)) ≡ rest → told view (suc left) (map named (numbers (node n body kids rest))) ≡ node n body kids rest
read_node view up n body kids rest left own below later =
    let ns : List NodeName = map named (numbers rest) in
    told-suc view left (named n ∷ ns)
    ∙ ap (λ b. planted n b (told view left (kids_at view (named n))) (neighbours view (told view left) ns)) (body_told view n up body kids own)
    ∙ ap (λ ks. node n body (told view left (told_kids ks)) (neighbours view (told view left) ns)) (own facet.Kids)
    ∙ ap (λ f. node n body f (neighbours view (told view left) ns)) below
    ∙ ap (node n body kids) (sym (told-suc view left ns) ∙ later)

-- a text or a comment has nothing below it
read_leaf : (view : Cell → Option Content) (left : ℕ) (kids : Forest) → kids ≡ none → told view left [] ≡ kids
read_leaf view left kids e = told-nil view left ∙ sym e

pub reads_back : (f : Forest) (view : Cell → Option Content) (up : Option ℕ) (left : ℕ) → AreTold view up f → AreLeaves f → depth_of f ≤ left → told view (suc left) (map named (numbers f)) ≡ f
reads_back none view up left are leaves d = told-suc view left []
reads_back (node n Root kids rest) view up left are leaves d = absurd leaves
reads_back (node n (Text text) kids rest) view up left are leaves d =
    read_node view up n (Text text) kids rest left are.0 (read_leaf view left kids leaves.0) (reads_back rest view up left are.2 leaves.1 (omega (arith, d)))
reads_back (node n (Comment text) kids rest) view up left are leaves d =
    read_node view up n (Comment text) kids rest left are.0 (read_leaf view left kids leaves.0) (reads_back rest view up left are.2 leaves.1 (omega (arith, d)))
reads_back (node n (Element name pairs) kids rest) view up zero are leaves d = absurd (omega (arith, d))
reads_back (node n (Element name pairs) kids rest) view up (suc left) are leaves d =
    read_node view up n (Element name pairs) kids rest (suc left) are.0 (reads_back kids view (Some n) left are.1 leaves.0 (omega (arith, d)))
    (reads_back rest view up (suc left) are.2 leaves.1 (omega (arith, d)))

pub reads_tree : (view : Cell → Option Content) (top : Forest) → AreTold view None (node 0 Root top none) → AreLeaves top → depth_of top ≤ depth_limit → told_tree view ≡ node 0 Root top none
reads_tree view top are leaves d = read_node view None 0 Root top none 121 are.0 (reads_back top view (Some 0) 120 are.1 leaves d) (told-suc view 121 [])

-- a part of a source in which each number stands once: what is found in the part is found in the whole
abbrev IsPart : Source → Option ℕ → Forest → Type 0
IsPart s up f = (m : ℕ) (spot : Spot) → spot_in up m f ≡ Some spot → spot_of s m ≡ Some spot

first_found : (o p : Option Spot) (spot : Spot) → o ≡ Some spot → or_else o p ≡ Some spot
first_found o p spot e = ap (λ q. or_else q p) e

second_found : (o p : Option Spot) (spot : Spot) → o ≡ None → p ≡ Some spot → or_else o p ≡ Some spot
second_found o p spot e q = ap (λ z. or_else z p) e ∙ q

not_own : (m k : ℕ) (kids rest : Forest) → uses m (node k Root kids rest) ≤ 1 → 0 < uses m kids + uses m rest → (m ≡ k → ⊥)
not_own m k kids rest once used same = let own : ◌≡◌ {A = ℕ} (if m == k then 1 else 0) 1 = if_same {A = ℕ} m k 1 0 same in absurd (omega (arith, own, once, used))

pub part_told : (s : Source) (up : Option ℕ) (f : Forest) → ((m : ℕ) → uses m f ≤ 1) → IsPart s up f → AreTold (cell_of s) up f
part_told s up none once part = tt
part_told s up (node k body kids rest) once part =
    let own : Spot = record { up = up; body = body; kids = kids } in
    let here : spot_of s k ≡ Some own = part k own (if_same k k (Some own) (or_else (spot_in (Some k) k kids) (spot_in up k rest)) refl) in (
      λ facet. ap (option_and_then (facet_of facet)) here,
      part_told s (Some k) kids (λ m. let h = once m in omega (arith, h))
          (λ m spot e.
          let used = used-from_spot (Some k) m spot kids e in
          let all = once m in
          part m spot (if_other m k (Some own) (or_else (spot_in (Some k) m kids) (spot_in up m rest)) (not_own m k kids rest all (omega (arith, used)))
          ∙ first_found (spot_in (Some k) m kids) (spot_in up m rest) spot e)),
      part_told s up rest (λ m. let h = once m in omega (arith, h))
          (λ m spot e.
          let used = used-from_spot up m spot rest e in
          let all = once m in
          let outside : uses m kids ≡ 0 = omega (arith, used, all) in
          part m spot (if_other m k (Some own) (or_else (spot_in (Some k) m kids) (spot_in up m rest)) (not_own m k kids rest all (omega (arith, used)))
          ∙ second_found (spot_in (Some k) m kids) (spot_in up m rest) spot (spot_in-unused (Some k) m kids outside) e)),
    )

told_same : (view other : Cell → Option Content) (up : Option ℕ) (f : Forest) → AreSameCells view other → AreTold other up f → AreTold view up f
told_same view other up none same are = tt
told_same view other up (node n body kids rest) same are =
    (λ facet. same (cell_at facet (named n)) ∙ are.0 facet, told_same view other (Some n) kids same are.1, told_same view other up rest same are.2)

-- the cells of a source tell its tree
pub told_back : (s : Source) (view : Cell → Option Content) → IsLinked s → AreSameCells view (cell_of s) → told_tree view ≡ s.tree
told_back s view c same =
    let whole : AreTold (cell_of s) None s.tree = part_told s None s.tree c.distinct (λ m spot e. e) in
    let deep = ap depth_of c.rooted in
    let shallow = c.shallow in
    reads_tree view c.top (told_same view (cell_of s) None (node 0 Root c.top none) same (subst (AreTold (cell_of s) None) c.rooted whole)) c.leaves (omega (arith, deep, shallow))
    ∙ sym c.rooted

pub same_tree : (s t : Source) → IsLinked s → IsLinked t → AreSameCells (cell_of s) (cell_of t) → s.tree ≡ t.tree
same_tree s t c d same = sym (told_back s (cell_of s) c (λ cell. refl)) ∙ told_back t (cell_of s) d same
