-- A document's tree without the numbers of its lines is one, whatever these are.
use Rattle.std.proofs.Common.{◌≡◌, ℕ, ◌+◌, List, [], ◌∷◌, drop, length, refl, sym, ap, ◌∙◌}
use Rattle.std.specs.List.{flat_map}
use Rattle.serna_kinds.specs.Names.{NameParts, Space, id_of}
use Rattle.serna_kinds.specs.Qualified.{element_name}
use Rattle.tree_lines.specs.Texts.{meant}
use Rattle.tree_lines.specs.Written.{Written, written_lines}
use Rattle.tree_lines.specs.Written as written
use Rattle.tree_lines.specs.Given.{Given, with_text, without_lines, pair_in, given_in, spaces_of, given_of}
use Rattle.tree_lines.specs.Given as given

lineless-with_text : (t : List ℕ) (g : Given) → without_lines (with_text t g) ≡ with_text t (without_lines g)
lineless-with_text [] g = refl
lineless-with_text (c ∷ cs) given.end = refl
lineless-with_text (c ∷ cs) (given.text t rest) = refl
lineless-with_text (c ∷ cs) (given.comment t rest) = refl
lineless-with_text (c ∷ cs) (given.element name attributes line content rest) = refl

lineless-given_in : (names : List NameParts) (spaces : List Space) (numbers others : List ℕ) (d : Written)
    → without_lines (given_in names spaces numbers d) ≡ without_lines (given_in names spaces others d)
lineless-given_in names spaces numbers others written.end = refl
lineless-given_in names spaces numbers others (written.text t rest) =
    lineless-with_text (meant t) (given_in names spaces (drop 1 numbers) rest)
    ∙ ap (with_text (meant t)) (lineless-given_in names spaces (drop 1 numbers) (drop 1 others) rest)
    ∙ sym (lineless-with_text (meant t) (given_in names spaces (drop 1 others) rest))
lineless-given_in names spaces numbers others (written.comment t rest) =
    ap (given.comment (meant t)) (lineless-given_in names spaces (drop 1 numbers) (drop 1 others) rest)
lineless-given_in names spaces numbers others (written.element name attributes content rest) =
    let inner = lineless-given_in names spaces (drop (1 + length attributes) numbers) (drop (1 + length attributes) others) content in
    let behind = lineless-given_in names spaces (drop (1 + length (written_lines content)) (drop (1 + length attributes) numbers))
    (drop (1 + length (written_lines content)) (drop (1 + length attributes) others)) rest in
    λ i. given.element (id_of names (element_name spaces name)) (flat_map (pair_in names spaces) attributes) 0 (inner i) (behind i)

pub lineless-given_of : (names : List NameParts) (numbers others : List ℕ) (d : Written)
    → without_lines (given_of names numbers d) ≡ without_lines (given_of names others d)
lineless-given_of names numbers others d = lineless-given_in names (spaces_of d) numbers others d
