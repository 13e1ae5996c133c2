-- An element's beginning.
use Rattle.std.proofs.Common.{List, ◌∷◌, sym, ap, ◌∙◌}
use Rattle.serna_kinds.specs.declared.cells.AttrPair.{AttrPair}
use Rattle.tree_lines.specs.declared.tree.TreeItem.{TreeItem}
use Rattle.tree_lines.specs.declared.tree.TreeItem.TheVariants as item
use Rattle.tree_lines.specs.Writing.{written_with}
use Rattle.tree_lines.proofs.write.TreeWalk.step.Goals as goal

pub returns-in_ok-begin-in-Begin : goal.returns-in_ok-begin-in-Begin
returns-in_ok-begin-in-Begin c = λ rest.
    let same = ap (λ (pairs : List AttrPair). item.Begin c.in-Begin.name pairs c.in-Begin.field-2) c.as_slice.ensures ∙ sym c.in-Begin.is in
    c.in_ok-begin-in-Begin.ensures rest c.in-Begin.field-2
    ∙ ap (λ (x : TreeItem). written_with c.args.names.now c.args.self.now (x ∷ rest)) same
