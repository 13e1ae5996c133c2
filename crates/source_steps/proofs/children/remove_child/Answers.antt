use Rattle.std.proofs.Common.{◌≡◌, suc, ◌+◌, ◌∷◌, ◌++◌, [], Some, length, take, drop, map, get_or, sym, ap, ◌∙◌, arith, subst}
use Rattle.std.specs.Prelude.{remove}
use Rattle.std.proofs.lemmas.List.{length-map}
use Rattle.serna_kinds.specs.Limits.{depth_limit}
use Rattle.serna_kinds.specs.declared.cells.Facet.TheVariants as facet
use Rattle.serna_kinds.specs.declared.cells.NodeName.{NodeName}
use Rattle.source_model.specs.Source.{numbers}
use Rattle.source_model.specs.Cells.{named}
use Rattle.source_model.specs.Changes.{alone_at}
use Rattle.source_model.specs.Told.{kids_at}
use Rattle.frozen_tree.specs.Frozen.{cells_of}
use Rattle.frozen_tree.specs.declared.kept.KeptValue.TheVariants as kept
use Rattle.source_primitives.specs.declared.primitive.Primitive.TheVariants.{InsertChild}
use Rattle.source_primitives.specs.Primitives.{items_of}
use Rattle.source_steps.specs.CellChanges.{put, takes}
use Rattle.source_steps.specs.Taking.{ReadsNode}
use Rattle.source_steps.proofs.ChildTaken.{child_read}
use Rattle.source_steps.proofs.children.remove_child.Goals as goal

pub returns-clause-changes : goal.returns-clause-changes
returns-clause-changes c = λ kids w told.
    let old = c.kids_in-old.result.now in
    let place = c.args.place in
    let number : NodeName = get_or old place (record { 0 = 0 }) in
    let are : old ≡ map named (numbers kids) = c.kids_in-old.ensures ∙ told in
    let long = ap length told in
    let as_long = length-map (numbers kids) named in
    let within = c.requires in
    let read : c.read_node.new.items ≡ items_of (alone_at place kids) =
    child_read (cells_of c.args.cells.now) (Some c.args.parent.0) depth_limit kids place number c.read_node.new.items w (omega (arith, long, as_long, within))
    (ap (λ ks. get_or ks place (record { 0 = 0 })) (sym are))
    (subst (λ was. ReadsNode (cells_of c.args.cells.now) number depth_limit was c.read_node.new.items) c.new-items.ensures c.in_ok-read_node.ensures) in
    let taken : c.take_all.new.changes ≡ takes (items_of (alone_at place kids)) =
    c.in_ok-take_all.ensures ∙ ap (λ cs. cs ++ takes c.as_slice.result.now) c.new-changes.ensures ∙ ap takes (c.as_slice.ensures ∙ read) in
    let next : place + 1 ≡ suc place = omega arith in
    let others : c.in_ok-kids.kids.items ≡ remove (kids_at (cells_of c.args.cells.now) c.args.parent) place =
    c.in_ok-kids.ensures ∙ ap (λ n. take place old ++ drop n old) next ∙ ap (λ ks. remove ks place) c.kids_in-old.ensures in
    c.in_ok-put_children.ensures
    ∙ ap (λ cs. cs ++ put facet.Kids c.args.parent.0 (kept.Kids c.in_ok-kids.kids.items) ∷ []) taken
    ∙ ap (λ ks. takes (items_of (alone_at place kids)) ++ put facet.Kids c.args.parent.0 (kept.Kids ks) ∷ []) others

pub returns-clause-undoing : goal.returns-clause-undoing
returns-clause-undoing c = λ kids w told.
    let old = c.kids_in-old.result.now in
    let place = c.args.place in
    let number : NodeName = get_or old place (record { 0 = 0 }) in
    let are : old ≡ map named (numbers kids) = c.kids_in-old.ensures ∙ told in
    let long = ap length told in
    let as_long = length-map (numbers kids) named in
    let within = c.requires in
    let read : c.read_node.new.items ≡ items_of (alone_at place kids) =
    child_read (cells_of c.args.cells.now) (Some c.args.parent.0) depth_limit kids place number c.read_node.new.items w (omega (arith, long, as_long, within))
    (ap (λ ks. get_or ks place (record { 0 = 0 })) (sym are))
    (subst (λ was. ReadsNode (cells_of c.args.cells.now) number depth_limit was c.read_node.new.items) c.new-items.ensures c.in_ok-read_node.ensures) in
    ap (InsertChild c.args.parent place) read
