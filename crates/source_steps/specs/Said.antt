-- What cells say that a node is, as the code reads it.
use Rattle.std.specs.Prelude.{◌≡◌, Option, Some}
use Rattle.serna_kinds.specs.declared.cells.NodeName.{NodeName}
use Rattle.serna_kinds.specs.declared.cells.Cell.{Cell}
use Rattle.serna_kinds.specs.declared.cells.Facet.TheVariants as facet
use Rattle.serna_kinds.specs.Content.{Content}
use Rattle.serna_kinds.specs.Content as content
use Rattle.source_model.specs.Source.{Body}
use Rattle.source_model.specs.Source as source
use Rattle.source_model.specs.Cells.{kind_of, name_of, attributes_of, text_of}
use Rattle.source_model.specs.Logged.{cell_at}
use Rattle.source_steps.specs.declared.read.Said.{Said}
use Rattle.source_steps.specs.declared.read.Said.TheVariants as said

abbrev pub body_said : Said → Body
body_said said.Root = source.Root
body_said (said.Element name attributes) = source.Element name attributes.now
body_said (said.Text text) = source.Text text.now
body_said (said.Comment text) = source.Comment text.now

-- a node's own cells, apart from those that link it with others, are those of such a node
pub record HasBody (view : Cell → Option Content) (node : NodeName) (body : Body) : Type 0 where
  pub label : view (cell_at facet.Label node) ≡ Some (content.Label (kind_of body) (name_of body))
  pub attributes : view (cell_at facet.Attrs node) ≡ attributes_of body
  pub text : view (cell_at facet.Text node) ≡ text_of body

-- a node is found to be what its cells say
abbrev pub Says : (Cell → Option Content) → NodeName → Option Body → Type 0
Says view node found = (body : Body) → HasBody view node body → found ≡ Some body
