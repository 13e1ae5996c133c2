-- The text of a document as it is written: what its text lines say, one after another, whatever elements stand around them.
use Rattle.std.specs.Prelude.{ℕ, List, [], ◌++◌}
use Rattle.tree_lines.specs.Texts.{meant}
use Rattle.tree_lines.specs.Written.{Written}
use Rattle.tree_lines.specs.Written as written

abbrev pub written_text : Written → List ℕ
written_text written.end = []
written_text (written.text t rest) = meant t ++ written_text rest
written_text (written.comment t rest) = written_text rest
written_text (written.element name attributes content rest) = written_text content ++ written_text rest
