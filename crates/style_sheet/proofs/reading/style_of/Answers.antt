-- What the items say is what the tree says, whose items they are.
use Rattle.std.proofs.Common.{◌<◌, ◌^◌, List, length, sym, ◌∙◌, subst, true≢false}
use Rattle.tree_lines.specs.declared.tree.TreeItem.{TreeItem}
use Rattle.tree_lines.specs.Whole.{IsTree}
use Rattle.serna_kinds.proofs.NameLemmas.{Grows-refl}
use Rattle.style_sheet.specs.Sheet.{IsNamedBy}
use Rattle.style_sheet.proofs.Running.{read_told}
use Rattle.style_sheet.proofs.Told.{built_before, refused_before, handed_on, tree_few, told-numbered, told-known}
use Rattle.style_sheet.proofs.reading.style_of.Goals as goal

pub read_items-requires-clause-few : goal.read_items-requires-clause-few
read_items-requires-clause-few c =
    subst (λ (items : List TreeItem). length items < 2 ^ 32) (sym c.items.ensures.value) (tree_few _ c.items.ensures.whole)

pub returns-in_err-rules-clause-refused : goal.returns-in_err-rules-clause-refused
returns-in_err-rules-clause-refused c is built =
    let fault = handed_on _ _ _ _ is c.from_residual.ensures.1 c.in_err-rules.was in
    let tree : IsTree c.args.tree.now.items = c.items.ensures.whole in
    let read = rw (c.items.ensures.value, c.spaces.ensures) at (c.read_items.ensures.refused fault) in
    true≢false (sym (built tree.given tree.same)
    ∙ refused_before _ _ _ _ tree.given c.requires.named c.read_items.ensures.grows tree.same read)

pub from_parts-requires : goal.from_parts-requires
from_parts-requires c =
    let new = c.read_items.new.names in
    let tree : IsTree c.args.tree.now.items = c.items.ensures.whole in
    let read = rw (c.items.ensures.value, c.spaces.ensures) at c.in_ok-rules.ensures.done in
    told-numbered new _ _ tree _ _ new (read_told new _ _ tree.given _ _ _ (read new (Grows-refl new)) tree.same)

pub returns-clause-built : goal.returns-clause-built
returns-clause-built c tree same =
    let read = rw (c.items.ensures.value, c.spaces.ensures) at c.in_ok-rules.ensures.done in
    built_before _ _ _ _ tree _ c.requires.named c.in_ok-rules.ensures.grows same read

pub returns-clause-style : goal.returns-clause-style
returns-clause-style c table grown tree same =
    let read = rw (c.items.ensures.value, c.spaces.ensures) at c.in_ok-rules.ensures.done in
    c.in_ok-from_parts.ensures ∙ (read_told table _ _ tree _ _ _ (read table grown) same).said

pub returns-clause-names : goal.returns-clause-names
returns-clause-names c =
    let new = c.read_items.new.names in
    let tree : IsTree c.args.tree.now.items = c.items.ensures.whole in
    let read = rw (c.items.ensures.value, c.spaces.ensures) at c.in_ok-rules.ensures.done in
    subst (IsNamedBy new) (sym c.in_ok-from_parts.ensures)
    (told-known new _ tree.given _ _ (read_told new _ _ tree.given _ _ _ (read new (Grows-refl new)) tree.same))

pub returns-clause-table : goal.returns-clause-table
returns-clause-table c tree same =
    let new = c.read_items.new.names in
    let read = rw (c.items.ensures.value, c.spaces.ensures) at c.in_ok-rules.ensures.done in
    (read_told new _ _ tree _ _ _ (read new (Grows-refl new)) same).matched
