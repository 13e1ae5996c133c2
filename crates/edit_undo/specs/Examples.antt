-- A worked example: in the text `Ask` a change puts `ed` in at the end and then takes `Ask` out.
use Rattle.std.specs.Prelude.{ℕ, List, [], ◌∷◌, None, codes}
use Rattle.serna_kinds.specs.declared.cells.NodeName.{NodeName}
use Rattle.source_model.specs.Source.{Root, Element, Text, none, node, Source}
use Rattle.source_primitives.specs.declared.primitive.Primitive.TheVariants.{InsertText, RemoveText}
use Rattle.edit_undo.specs.declared.change.Change.{Change}

-- a document of one element with one text, node 2
abbrev pub document_with : List ℕ → Source
document_with text = record { tree = node 0 Root (node 1 (Element (record { 0 = 0 }) []) (node 2 (Text text) none none) none) none; made = 2; spaces = [] }

abbrev the_text : NodeName
the_text = record { 0 = 2 }

abbrev pub ed_for_ask : Change
ed_for_ask = record {
  prims = InsertText the_text 3 (codes "ed") ∷ RemoveText the_text 0 3 ∷ [];
  inverses = RemoveText the_text 3 5 ∷ InsertText the_text 0 (codes "Ask") ∷ [];
  before = None;
  after = None;
}
