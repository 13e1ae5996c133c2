-- The source that cells tell (this project's own): nodes are read off their cells, each with its children, level by level.
use Rattle.std.specs.Prelude.{◌≡◌, ℕ, zero, suc, List, [], ◌∷◌, Option, Some, None}
use Rattle.serna_kinds.specs.declared.cells.NameId.{NameId}
use Rattle.serna_kinds.specs.declared.cells.NodeName.{NodeName}
use Rattle.serna_kinds.specs.declared.cells.AttrPair.{AttrPair}
use Rattle.serna_kinds.specs.declared.cells.Cell.{Cell}
use Rattle.serna_kinds.specs.declared.cells.Facet.{Facet}
use Rattle.serna_kinds.specs.declared.cells.Facet.TheVariants as facet
use Rattle.serna_kinds.specs.declared.cells.Kind.TheVariants as kind
use Rattle.serna_kinds.specs.Content.{Content}
use Rattle.serna_kinds.specs.Content as content
use Rattle.source_model.specs.Source.{Body, Root, Element, Text, Comment, Forest, none, node}
use Rattle.source_model.specs.Logged.{cell_at}
use Rattle.source_model.specs.Cells.{named, facet_of}

abbrev pub told_pairs : Option Content → List AttrPair
told_pairs None = []
told_pairs (Some (content.Label kind name)) = []
told_pairs (Some (content.Kids kids)) = []
told_pairs (Some (content.Up up)) = []
told_pairs (Some (content.Attrs pairs)) = pairs
told_pairs (Some (content.Text text)) = []

abbrev pub told_text : Option Content → List ℕ
told_text None = []
told_text (Some (content.Label kind name)) = []
told_text (Some (content.Kids kids)) = []
told_text (Some (content.Up up)) = []
told_text (Some (content.Attrs pairs)) = []
told_text (Some (content.Text text)) = text

abbrev pub told_kids : Option Content → List NodeName
told_kids None = []
told_kids (Some (content.Label kind name)) = []
told_kids (Some (content.Kids kids)) = kids
told_kids (Some (content.Up up)) = []
told_kids (Some (content.Attrs pairs)) = []
told_kids (Some (content.Text text)) = []

-- an element with its name, where it has one
abbrev pub told_element : Option NameId → List AttrPair → Option Body
told_element None pairs = None
told_element (Some name) pairs = Some (Element name pairs)

-- what a node is by its label, with these attributes or characters; nothing where there is no label
abbrev pub told_body : Option Content → List AttrPair → List ℕ → Option Body
told_body None pairs text = None
told_body (Some (content.Label kind.Root name)) pairs text = Some Root
told_body (Some (content.Label kind.Element name)) pairs text = told_element name pairs
told_body (Some (content.Label kind.Text name)) pairs text = Some (Text text)
told_body (Some (content.Label kind.Comment name)) pairs text = Some (Comment text)
told_body (Some (content.Kids kids)) pairs text = None
told_body (Some (content.Up up)) pairs text = None
told_body (Some (content.Attrs attributes)) pairs text = None
told_body (Some (content.Text characters)) pairs text = None

abbrev pub body_at : (Cell → Option Content) → NodeName → Option Body
body_at map n = told_body (map (cell_at facet.Label n)) (told_pairs (map (cell_at facet.Attrs n))) (told_text (map (cell_at facet.Text n)))

abbrev pub kids_at : (Cell → Option Content) → NodeName → List NodeName
kids_at map n = told_kids (map (cell_at facet.Kids n))

-- a node in front of its later siblings, with the nodes of its children's numbers below it
abbrev pub planted : ℕ → Option Body → Forest → Forest → Forest
planted n None kids rest = rest
planted n (Some body) kids rest = node n body kids rest

abbrev pub neighbours : (Cell → Option Content) → (List NodeName → Forest) → List NodeName → Forest
neighbours map below [] = none
neighbours map below (n ∷ ns) = planted n.0 (body_at map n) (below (kids_at map n)) (neighbours map below ns)

-- the nodes of some numbers, with so many levels
unfoldable pub told : (Cell → Option Content) → ℕ → List NodeName → Forest
told map zero ns = none
told map (suc levels) ns = neighbours map (told map levels) ns

-- elements stand at most 120 deep in one another, so with the document node and the texts below them there are 122 levels
abbrev pub levels : ℕ
levels = 122

-- the nodes of a source that has these cells
abbrev pub told_tree : (Cell → Option Content) → Forest
told_tree map = told map levels (named 0 ∷ [])

-- two views have the same at each cell
abbrev pub AreSameCells : (Cell → Option Content) → (Cell → Option Content) → Type 0
AreSameCells map other = (cell : Cell) → map cell ≡ other cell

-- the cells of neighbours below a node, and of all below them
abbrev pub AreTold : (Cell → Option Content) → Option ℕ → Forest → Type 0
AreTold map up none = Unit {0}
AreTold map up (node n body kids rest) =
    ((facet : Facet) → map (cell_at facet (named n)) ≡ facet_of facet (record { up = up; body = body; kids = kids })) × AreTold map (Some n) kids × AreTold map up rest
