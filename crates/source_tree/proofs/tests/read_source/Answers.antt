use Rattle.std.proofs.Common.{◌≡◌, ℕ, List, [], map, sym, ap, ◌∙◌, subst}
use Rattle.std.proofs.lemmas.List.{append-nil}
use Rattle.serna_kinds.specs.Names.{NameParts, Space}
use Rattle.tree_lines.specs.declared.tree.Line.{Line}
use Rattle.tree_lines.specs.Written.{written_lines}
use Rattle.tree_lines.specs.Given.{given_of, numbers_of}
use Rattle.source_model.specs.Source.{Source}
use Rattle.source_model.specs.Changes.{text_at}
use Rattle.source_primitives.specs.Primitives.{HasPlace}
use Rattle.source_tree.specs.Begun.{begun}
use Rattle.source_tree.proofs.Small.{document, is_document, begun_text, begun_inner, begun_made}
use Rattle.source_tree.proofs.tests.read_source.Goals as goal

-- the source is the one that the document's tree begins
pub returns : goal.returns
returns c =
    let table : List NameParts = c.read_tree.new.names in
    let spaces : List Space = c.in_ok-tree.tree.spaces in
    let numbers : List ℕ = numbers_of c.as_slice.result.now in
    let lines : map (λ (line : Line). line.bytes) c.as_slice.result.now ≡ written_lines document = ap (map (λ (line : Line). line.bytes)) c.as_slice.ensures.value ∙ c.in_ok-lines.ensures in
    let begins : c.in_ok-source.source.source ≡ begun spaces (given_of table numbers document) =
    c.in_ok-source.ensures.source (given_of table numbers document) (c.in_ok-tree.ensures.given table ([], sym (append-nil table)) document is_document lines) in
    record {
      text = ap (λ s. text_at s 3) begins ∙ begun_text table spaces numbers;
      inner = subst (λ s. HasPlace s 4 0) (sym begins) (begun_inner table spaces numbers);
      made = ap (λ (s : Source). s.made) begins ∙ begun_made table spaces numbers;
    }
