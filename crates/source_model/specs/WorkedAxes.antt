-- Worked examples of paths, axes, node tests and string-values (XPath 1.0, sections 2.2, 2.3 and 5) on one tree of ten nodes:
-- `<!--c--><doc x="1" y="2"><p z="3">ab<!--d--></p><q><r/>ef</q></doc>`, numbered in document order: the document node 0, comment 1,
-- doc 2, p 3, text 4, comment 5, q 6, r 7, text 8; and a comment 9 behind doc
use Rattle.std.specs.Prelude.{◌≡◌, ℕ, List, [], ◌∷◌, codes}
use Rattle.serna_kinds.specs.declared.cells.NodeRef.{NodeRef}
use Rattle.serna_kinds.specs.declared.cells.NodeRef.TheVariants as ref
use Rattle.serna_kinds.specs.declared.cells.AttrPair.{AttrPair}
use Rattle.serna_kinds.specs.declared.expressions.Axis.{Axis}
use Rattle.serna_kinds.specs.declared.expressions.Axis.TheVariants as axis
use Rattle.serna_kinds.specs.declared.expressions.NodeTest.TheVariants as test
use Rattle.serna_kinds.specs.Names.{NameParts, plain_name, name_parts}
use Rattle.source_model.specs.Source.{Root, Element, Text, Comment, none, node, Source}
use Rattle.source_model.specs.Cells.{named}
use Rattle.source_model.specs.Axes.{axis_of, string_of}
use Rattle.source_model.specs.Logged.{axis_cells, cell_at}
use Rattle.serna_kinds.specs.declared.cells.Facet.TheVariants as facet

abbrev pub pair : ℕ → List ℕ → AttrPair
pair n value = record { name = record { 0 = n }; value = value }

abbrev pub names : List NameParts
names = plain_name (codes "doc") ∷ plain_name (codes "p") ∷ plain_name (codes "q") ∷ name_parts (codes "u") (codes "r") (codes "n")
    ∷ plain_name (codes "x") ∷ plain_name (codes "y") ∷ name_parts (codes "u") (codes "p") (codes "n") ∷ []

abbrev pub tree : Source
tree = record {
  tree = node 0 Root
      (node 1 (Comment (codes "c")) none
      (node 2 (Element (record { 0 = 0 }) (pair 4 (codes "1") ∷ pair 5 (codes "2") ∷ []))
      (node 3 (Element (record { 0 = 1 }) (pair 6 (codes "3") ∷ [])) (node 4 (Text (codes "ab")) none (node 5 (Comment (codes "d")) none none))
      (node 6 (Element (record { 0 = 2 }) []) (node 7 (Element (record { 0 = 3 }) []) none (node 8 (Text (codes "ef")) none none))
      none))
      (node 9 (Comment (codes "e")) none none)))
      none;
  made = 9;
  spaces = [];
}

abbrev pub n : ℕ → NodeRef
n k = ref.Node (named k)

abbrev pub a : ℕ → ℕ → NodeRef
a k name = ref.Attr (named k) (record { 0 = name })

abbrev pub all : Axis → NodeRef → List NodeRef
all along from = axis_of names along test.AnyNode tree from

-- from an element, q
abbrev pub FromElement : Type 0
FromElement =
    (all axis.Child (n 6) ≡ n 7 ∷ n 8 ∷ []) × (all axis.Descendant (n 2) ≡ n 3 ∷ n 4 ∷ n 5 ∷ n 6 ∷ n 7 ∷ n 8 ∷ [])
    × (all axis.DescendantOrSelf (n 6) ≡ n 6 ∷ n 7 ∷ n 8 ∷ []) × (all axis.Itself (n 6) ≡ n 6 ∷ []) × (all axis.Parent (n 6) ≡ n 2 ∷ [])
    × (all axis.Ancestor (n 6) ≡ n 2 ∷ n 0 ∷ []) × (all axis.AncestorOrSelf (n 6) ≡ n 6 ∷ n 2 ∷ n 0 ∷ [])
    × (all axis.FollowingSibling (n 3) ≡ n 6 ∷ []) × (all axis.PrecedingSibling (n 9) ≡ n 2 ∷ n 1 ∷ [])
    × (all axis.Following (n 3) ≡ n 6 ∷ n 7 ∷ n 8 ∷ n 9 ∷ []) × (all axis.Preceding (n 6) ≡ n 5 ∷ n 4 ∷ n 3 ∷ n 1 ∷ [])
    × (all axis.Attribute (n 2) ≡ a 2 4 ∷ a 2 5 ∷ [])

-- from a text, `ef`
abbrev pub FromText : Type 0
FromText =
    (all axis.Child (n 8) ≡ []) × (all axis.Descendant (n 8) ≡ []) × (all axis.DescendantOrSelf (n 8) ≡ n 8 ∷ []) × (all axis.Itself (n 8) ≡ n 8 ∷ [])
    × (all axis.Parent (n 8) ≡ n 6 ∷ []) × (all axis.Ancestor (n 8) ≡ n 6 ∷ n 2 ∷ n 0 ∷ []) × (all axis.AncestorOrSelf (n 8) ≡ n 8 ∷ n 6 ∷ n 2 ∷ n 0 ∷ [])
    × (all axis.FollowingSibling (n 8) ≡ []) × (all axis.PrecedingSibling (n 8) ≡ n 7 ∷ []) × (all axis.Following (n 8) ≡ n 9 ∷ [])
    × (all axis.Preceding (n 8) ≡ n 7 ∷ n 5 ∷ n 4 ∷ n 3 ∷ n 1 ∷ []) × (all axis.Attribute (n 8) ≡ [])

-- from an attribute, y: what follows it are also the children of its element
abbrev pub FromAttribute : Type 0
FromAttribute =
    (all axis.Child (a 2 5) ≡ []) × (all axis.Descendant (a 2 5) ≡ []) × (all axis.DescendantOrSelf (a 2 5) ≡ a 2 5 ∷ []) × (all axis.Itself (a 2 5) ≡ a 2 5 ∷ [])
    × (all axis.Parent (a 2 5) ≡ n 2 ∷ []) × (all axis.Ancestor (a 2 5) ≡ n 2 ∷ n 0 ∷ []) × (all axis.AncestorOrSelf (a 2 5) ≡ a 2 5 ∷ n 2 ∷ n 0 ∷ [])
    × (all axis.FollowingSibling (a 2 5) ≡ []) × (all axis.PrecedingSibling (a 2 5) ≡ [])
    × (all axis.Following (a 2 5) ≡ n 3 ∷ n 4 ∷ n 5 ∷ n 6 ∷ n 7 ∷ n 8 ∷ n 9 ∷ []) × (all axis.Preceding (a 2 5) ≡ n 1 ∷ []) × (all axis.Attribute (a 2 5) ≡ [])

-- from the document node
abbrev pub FromDocument : Type 0
FromDocument =
    (all axis.Child (n 0) ≡ n 1 ∷ n 2 ∷ n 9 ∷ []) × (all axis.Descendant (n 0) ≡ n 1 ∷ n 2 ∷ n 3 ∷ n 4 ∷ n 5 ∷ n 6 ∷ n 7 ∷ n 8 ∷ n 9 ∷ [])
    × (all axis.DescendantOrSelf (n 0) ≡ n 0 ∷ n 1 ∷ n 2 ∷ n 3 ∷ n 4 ∷ n 5 ∷ n 6 ∷ n 7 ∷ n 8 ∷ n 9 ∷ []) × (all axis.Itself (n 0) ≡ n 0 ∷ [])
    × (all axis.Parent (n 0) ≡ []) × (all axis.Ancestor (n 0) ≡ []) × (all axis.AncestorOrSelf (n 0) ≡ n 0 ∷ [])
    × (all axis.FollowingSibling (n 0) ≡ []) × (all axis.PrecedingSibling (n 0) ≡ []) × (all axis.Following (n 0) ≡ []) × (all axis.Preceding (n 0) ≡ [])
    × (all axis.Attribute (n 0) ≡ [])

-- node tests: `*`, `u:*`, a name, `text()` and `comment()`, the first three on the attribute axis too; a node that is not there
abbrev pub TakenByTests : Type 0
TakenByTests =
    (axis_of names axis.Child test.AnyName tree (n 6) ≡ n 7 ∷ []) × (axis_of names axis.Descendant (test.Within (codes "u")) tree (n 0) ≡ n 7 ∷ [])
    × (axis_of names axis.Ancestor (test.Named (record { 0 = 0 })) tree (n 8) ≡ n 2 ∷ []) × (axis_of names axis.Following test.AnyText tree (n 3) ≡ n 8 ∷ [])
    × (axis_of names axis.Preceding test.AnyComment tree (n 8) ≡ n 5 ∷ n 1 ∷ []) × (axis_of names axis.Attribute test.AnyName tree (n 2) ≡ a 2 4 ∷ a 2 5 ∷ [])
    × (axis_of names axis.Attribute (test.Named (record { 0 = 5 })) tree (n 2) ≡ a 2 5 ∷ []) × (axis_of names axis.Attribute (test.Within (codes "u")) tree (n 3) ≡ a 3 6 ∷ [])
    × (axis_of names axis.Itself test.AnyName tree (a 2 5) ≡ []) × (axis_of names axis.Child test.AnyNode tree (n 10) ≡ []) × (axis_of names axis.Parent test.AnyNode tree (a 2 6) ≡ [])

abbrev pub Strings : Type 0
Strings =
    (string_of tree (n 0) ≡ codes "abef") × (string_of tree (n 6) ≡ codes "ef") × (string_of tree (n 5) ≡ codes "d") × (string_of tree (a 3 6) ≡ codes "3") × (string_of tree (a 3 5) ≡ [])

-- what may be logged
abbrev pub LogBounds : Type 0
LogBounds =
    (axis_cells axis.Child tree (n 6) ≡ cell_at facet.Label (named 6) ∷ cell_at facet.Kids (named 6) ∷ cell_at facet.Label (named 7) ∷ cell_at facet.Label (named 8) ∷ [])
    × (axis_cells axis.Parent tree (a 2 5) ≡ cell_at facet.Attrs (named 2) ∷ cell_at facet.Label (named 2) ∷ [])
    × (axis_cells axis.PrecedingSibling tree (n 8) ≡ cell_at facet.Label (named 8) ∷ cell_at facet.Up (named 8) ∷ cell_at facet.Kids (named 6) ∷ cell_at facet.Label (named 7) ∷ [])
