-- The node is changed in its leaf, the leaf in its branch, and the branch in the top list.
use Rattle.std.proofs.Common.{◌∙◌, [], ap, refl, unwrap_or}
use Rattle.std.proofs.lemmas.Result.{on_ok_weaker}
use Rattle.frozen_tree.specs.Nodes.{no_cells, next_state, state_of, with_state}
use Rattle.frozen_tree.specs.Shelves.{place_in}
use Rattle.frozen_tree.proofs.PlaceLemmas.{filled, put_along, state_at-put}
use Rattle.frozen_tree.proofs.frozen.put.Goals as goal

pub returns : goal.returns
returns c =
    let top = c.args.top.now in
    let cell = c.args.change.now.cell in
    let place = c.of-place.result in
    let the_branch = c.in_ok-branch.ensures.value ∙ ap (place_in [] top) c.of-place.ensures.branch in
    let the_leaf = c.in_ok-leaf.ensures.value ∙ (λ i. place_in [] (the_branch i) (c.of-place.ensures.leaf i)) in
    let the_node = c.in_ok-node.ensures.value ∙ (λ i. place_in no_cells (the_leaf i) (c.of-place.ensures.node i)) in
    let in_leaf = filled place.node _ (place_in no_cells c.in_ok-leaf.leaf) (place_in no_cells c.take-3.new.self) (place_in no_cells c.put.new.self) c.in_ok-node.ensures.others c.in_ok-put.ensures in
    let in_branch = filled place.leaf _ (place_in [] c.in_ok-branch.branch) (place_in [] c.take-2.new.self) (place_in [] c.put-2.new.self) c.in_ok-leaf.ensures.others c.in_ok-put-2.ensures in
    on_ok_weaker c.put-3.result
    (λ put. state_at-put top c.put-3.new.self c.put-2.new.self c.put.new.self c.change.new.self cell
    (put_along place.branch _ _ (place_in [] top) _ _ c.of-place.ensures.branch (λ k. refl)
    (filled place.branch _ (place_in [] top) (place_in [] c.take.new.self) (place_in [] c.put-3.new.self) c.in_ok-branch.ensures.others put))
    (put_along place.leaf _ _ _ _ _ c.of-place.ensures.leaf (λ k i. place_in [] (the_branch i) k) in_branch)
    (put_along place.node _ _ _ _ _ c.of-place.ensures.node (λ k i. place_in no_cells (the_leaf i) k) in_leaf)
    (next_state c.args.revision c.args.change.now)
    (c.change.ensures
    ∙ (λ i. with_state cell.facet (record { value = c.in_ok-value.ensures i; stamp = unwrap_or c.args.revision (state_of (the_node i) cell.facet).stamp }) (the_node i))))
    c.put-3.ensures
