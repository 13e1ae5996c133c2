-- The document of a source without the numbers of its nodes, which is what its tree lines say. The number of each line is 0.
use Rattle.tree_lines.specs.Given.{Given}
use Rattle.tree_lines.specs.Given as given
use Rattle.source_model.specs.Source.{Forest, Source}
use Rattle.source_model.specs.Source as source

-- neighbours without their numbers
abbrev pub unnumbered : Forest → Given
unnumbered source.none = given.end
unnumbered (source.node n source.Root kids rest) = unnumbered rest
unnumbered (source.node n (source.Element name attributes) kids rest) = given.element name attributes 0 (unnumbered kids) (unnumbered rest)
unnumbered (source.node n (source.Text t) kids rest) = given.text t (unnumbered rest)
unnumbered (source.node n (source.Comment t) kids rest) = given.comment t (unnumbered rest)

-- what stands below the document node
abbrev pub below_document : Forest → Given
below_document source.none = given.end
below_document (source.node n body kids rest) = unnumbered kids

abbrev pub document_of : Source → Given
document_of source = below_document source.tree
