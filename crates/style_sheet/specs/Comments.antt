-- A tree without its comments.
use Rattle.tree_lines.specs.Given.{Given}
use Rattle.tree_lines.specs.Given as given

abbrev pub without_comments : Given → Given
without_comments given.end = given.end
without_comments (given.text t rest) = given.text t (without_comments rest)
without_comments (given.comment t rest) = without_comments rest
without_comments (given.element name attributes line content rest) =
    given.element name attributes line (without_comments content) (without_comments rest)
