-- All the items are written.
use Rattle.std.proofs.Common.{◌≡◌, ap, sym, ◌∙◌, encode_utf8_all}
use Rattle.std.proofs.lemmas.List.{drop_all}
use Rattle.std.proofs.lemmas.Result.{IfOk-weaker}
use Rattle.tree_lines.specs.Given.{Given, items_of}
use Rattle.tree_lines.specs.Canonical.{canonical_text}
use Rattle.tree_lines.specs.Writing.{written_with}
use Rattle.tree_lines.proofs.Canonical.{canonical_text-from_items}
use Rattle.tree_lines.proofs.write.write_tree.Goals as goal

pub returns : goal.returns
returns c =
    let items = c.items-item-items.result.now in
    let walk = c.loop-item.walk in
    let names = c.args.names.now in
    let spaces = c.args.tree.now.spaces in
    let none = drop_all c.loop-item.item-index items c.loop-item-test.false in
    record {
      text = IfOk-weaker c.into_chars.result (λ text. encode_utf8_all text ≡ walk.text)
          (λ text. (tree : Given) → c.args.tree.now.items ≡ items_of tree → encode_utf8_all text ≡ canonical_text names spaces tree)
          (λ text written tree same.
          written
          ∙ canonical_text-from_items names spaces items tree walk.text (ap (written_with names walk) (sym none) ∙ c.loop-item.invariant) (c.items-item-items.ensures.value ∙ same))
          c.into_chars.ensures;
    }
