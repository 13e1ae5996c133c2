use Rattle.std.proofs.Common.{◌≡◌, ◌+◌, ◌≤◌, List, length, refl, sym, ap, ◌∙◌, subst, arith}
use Rattle.std.specs.Arc.{arc_value}
use Rattle.tree_lines.specs.Given.{Given, items_of}
use Rattle.tree_lines.specs.Whole.{IsTree}
use Rattle.source_model.specs.Proper.{IsProper}
use Rattle.frozen_tree.specs.Frozen.{cells_of}
use Rattle.frozen_tree.specs.Maps.{changed_by}
use Rattle.source_tree.specs.Begun.{begun, numbering, nodes_in}
use Rattle.source_tree.specs.Kept.{source_told}
use Rattle.source_tree.proofs.BegunSource.{length-items_of}
use Rattle.source_tree.proofs.Beginning.{Begins, begins}
use Rattle.source_tree.proofs.tree.SourceTree.begin.Goals as goal

pub numbered-requires : goal.numbered-requires
numbered-requires c =
    let tree : IsTree c.args.tree.now.items = c.items.ensures.whole in
    let same : length c.items.result.now ≡ length c.args.tree.now.items = ap length c.items.ensures.value in
    let long : length c.args.tree.now.items ≡ length (items_of tree.given) = ap length tree.same in
    let few = tree.whole.few in
    omega (arith, length-items_of tree.given, long, same, few)

pub invariant_of-result : goal.invariant_of-result
invariant_of-result c =
    let new = cells_of c.in_ok-cells.cells in
    let made = c.in_ok-numbered.numbered.made in
    let numbered = c.in_ok-numbered.numbered.items in
    let items = c.args.tree.now.items in
    let spaces = c.args.tree.now.spaces in
    let b : Begins new made spaces items =
    begins new made spaces items c.items.ensures.whole numbered c.in_ok-changes.changes (c.in_ok-numbered.ensures.items ∙ ap (numbering 1) c.items.ensures.value)
    (c.in_ok-numbered.ensures.made ∙ ap nodes_in c.items.ensures.value)
    (λ source linked e. c.in_ok-changes.ensures source linked (c.as_slice.ensures ∙ e))
    (c.in_ok-cells.ensures.cells ∙ ap (λ cs. changed_by cs (cells_of c.new.result)) c.as_slice-2.ensures ∙ ap (changed_by c.in_ok-changes.changes) c.new.ensures.cells) in
    b.kept

pub returns-clause-source : goal.returns-clause-source
returns-clause-source c = λ given is.
    let new = cells_of c.in_ok-cells.cells in
    let made = c.in_ok-numbered.numbered.made in
    let numbered = c.in_ok-numbered.numbered.items in
    let items = c.args.tree.now.items in
    let spaces = c.args.tree.now.spaces in
    let b : Begins new made spaces items =
    begins new made spaces items c.items.ensures.whole numbered c.in_ok-changes.changes (c.in_ok-numbered.ensures.items ∙ ap (numbering 1) c.items.ensures.value)
    (c.in_ok-numbered.ensures.made ∙ ap nodes_in c.items.ensures.value)
    (λ source linked e. c.in_ok-changes.ensures source linked (c.as_slice.ensures ∙ e))
    (c.in_ok-cells.ensures.cells ∙ ap (λ cs. changed_by cs (cells_of c.new.result)) c.as_slice-2.ensures ∙ ap (changed_by c.in_ok-changes.changes) c.new.ensures.cells) in
    let same : arc_value c.in_ok-spaces.spaces ≡ spaces = c.in_ok-spaces.ensures.ok ∙ c.in_ok-copy.ensures ∙ c.spaces.ensures in
    ap (source_told new made) same ∙ b.source given is

pub returns-clause-proper : goal.returns-clause-proper
returns-clause-proper c = λ names named.
    let new = cells_of c.in_ok-cells.cells in
    let made = c.in_ok-numbered.numbered.made in
    let numbered = c.in_ok-numbered.numbered.items in
    let items = c.args.tree.now.items in
    let spaces = c.args.tree.now.spaces in
    let b : Begins new made spaces items =
    begins new made spaces items c.items.ensures.whole numbered c.in_ok-changes.changes (c.in_ok-numbered.ensures.items ∙ ap (numbering 1) c.items.ensures.value)
    (c.in_ok-numbered.ensures.made ∙ ap nodes_in c.items.ensures.value)
    (λ source linked e. c.in_ok-changes.ensures source linked (c.as_slice.ensures ∙ e))
    (c.in_ok-cells.ensures.cells ∙ ap (λ cs. changed_by cs (cells_of c.new.result)) c.as_slice-2.ensures ∙ ap (changed_by c.in_ok-changes.changes) c.new.ensures.cells) in
    let same : arc_value c.in_ok-spaces.spaces ≡ spaces = c.in_ok-spaces.ensures.ok ∙ c.in_ok-copy.ensures ∙ c.spaces.ensures in
    subst (λ sp. IsProper names (source_told new made sp)) (sym same) (b.proper names named)
