-- The numbers of lines do not show in the source that a tree begins.
use Rattle.std.proofs.Common.{◌≡◌, ℕ, ◌+◌, List, refl, ap, ◌∙◌}
use Rattle.serna_kinds.specs.Names.{Space}
use Rattle.tree_lines.specs.Given.{Given, without_lines, count_of}
use Rattle.tree_lines.specs.Given as given
use Rattle.source_model.specs.Source as source
use Rattle.source_tree.specs.Begun.{numbered, begun}

count_of-lineless : (g : Given) → count_of (without_lines g) ≡ count_of g
count_of-lineless given.end = refl
count_of-lineless (given.text t rest) = ap (λ n. 1 + n) (count_of-lineless rest)
count_of-lineless (given.comment t rest) = ap (λ n. 1 + n) (count_of-lineless rest)
count_of-lineless (given.element name attributes line content rest) =
    let inner = count_of-lineless content in
    let behind = count_of-lineless rest in
    λ i. 1 + inner i + behind i

numbered-lineless : (k : ℕ) (g : Given) → numbered k (without_lines g) ≡ numbered k g
numbered-lineless k given.end = refl
numbered-lineless k (given.text t rest) = ap (source.node k (source.Text t) source.none) (numbered-lineless (k + 1) rest)
numbered-lineless k (given.comment t rest) = ap (source.node k (source.Comment t) source.none) (numbered-lineless (k + 1) rest)
numbered-lineless k (given.element name attributes line content rest) =
    let inner = numbered-lineless (k + 1) content in
    let behind : numbered (k + 1 + count_of (without_lines content)) (without_lines rest) ≡ numbered (k + 1 + count_of content) rest =
    ap (λ n. numbered (k + 1 + n) (without_lines rest)) (count_of-lineless content) ∙ numbered-lineless (k + 1 + count_of content) rest in
    λ i. source.node k (source.Element name attributes) (inner i) (behind i)

pub begun-lineless : (spaces : List Space) (g : Given) → begun spaces (without_lines g) ≡ begun spaces g
unfolding begun
begun-lineless spaces g =
    let nodes = numbered-lineless 1 g in
    let made = count_of-lineless g in
    λ i. record { tree = source.node 0 source.Root (nodes i) source.none; made = made i; spaces = spaces }
