-- What reads back over a table does so over each table that grows from it.
use Rattle.std.proofs.Common.{List, [], ◌∷◌}
use Rattle.std.specs.List.{AllByRecursion}
use Rattle.serna_kinds.specs.declared.cells.NameId.{NameId}
use Rattle.serna_kinds.specs.declared.cells.AttrPair.{AttrPair}
use Rattle.serna_kinds.specs.Names.{NameParts, Space, Grows}
use Rattle.serna_kinds.proofs.NameLemmas.{slice_get-grown}
use Rattle.tree_lines.specs.Given.{Given}
use Rattle.tree_lines.specs.Given as given
use Rattle.tree_lines.specs.Writable.{IsElementName, IsAttributeName, IsPair, AreNodes}
use Rattle.source_model.specs.Source.{Source}
use Rattle.source_model.proofs.NamesGrown.{AreApart-grown}
use Rattle.source_tree.specs.Unnumbered.{document_of}
use Rattle.source_tree.specs.Printing.{IsPrintable}

element_grown : (old new : List NameParts) (spaces : List Space) (id : NameId) → Grows old new → IsElementName old spaces id → IsElementName new spaces id
element_grown old new spaces id grows is = record {
  parts = is.parts;
  stored = slice_get-grown old new is.parts id.0 grows is.stored;
  good = is.good;
  bound = is.bound;
  same = is.same;
}

attribute_grown : (old new : List NameParts) (spaces : List Space) (id : NameId) → Grows old new → IsAttributeName old spaces id → IsAttributeName new spaces id
attribute_grown old new spaces id grows is = record {
  parts = is.parts;
  stored = slice_get-grown old new is.parts id.0 grows is.stored;
  good = is.good;
  pair = is.pair;
  bound = is.bound;
  same = is.same;
}

pairs_grown : (old new : List NameParts) (spaces : List Space) (pairs : List AttrPair) → Grows old new → AllByRecursion (IsPair old spaces) pairs → AllByRecursion (IsPair new spaces) pairs
pairs_grown old new spaces [] grows are = tt
pairs_grown old new spaces (pair ∷ pairs) grows are = ((attribute_grown old new spaces pair.name grows are.0.0, are.0.1), pairs_grown old new spaces pairs grows are.1)

nodes_grown : (old new : List NameParts) (spaces : List Space) (g : Given) → Grows old new → AreNodes old spaces g → AreNodes new spaces g
nodes_grown old new spaces given.end grows are = tt
nodes_grown old new spaces (given.text t rest) grows are = (are.0, nodes_grown old new spaces rest grows are.1)
nodes_grown old new spaces (given.comment t rest) grows are = (are.0, nodes_grown old new spaces rest grows are.1)
nodes_grown old new spaces (given.element name attributes line content rest) grows are = (
  element_grown old new spaces name grows are.0,
  pairs_grown old new spaces attributes grows are.1,
  AreApart-grown old new attributes grows are.2,
  nodes_grown old new spaces content grows are.3,
  nodes_grown old new spaces rest grows are.4,
)

pub printable_grown : (old new : List NameParts) (source : Source) → Grows old new → IsPrintable old source → IsPrintable new source
printable_grown old new source grows is = record {
  whole = is.whole;
  nodes = nodes_grown old new source.spaces (document_of source) grows is.nodes;
  declared = is.declared;
}
