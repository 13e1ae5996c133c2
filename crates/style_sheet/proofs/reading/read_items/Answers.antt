-- An item is read, and what is left is read as all is.
use Rattle.std.proofs.Common.{◌≡◌, ◌+◌, ◌≤◌, ◌∷◌, drop, length, sym, ap, ◌∙◌, subst, arith}
use Rattle.std.specs.Option.{option_and_then}
use Rattle.std.proofs.lemmas.List.{drop_more}
use Rattle.serna_kinds.proofs.NameLemmas.{Grows-refl, Grows-trans}
use Rattle.tree_lines.specs.declared.tree.TreeItem.{TreeItem}
use Rattle.tree_lines.specs.Tokens.{AreNamed}
use Rattle.style_sheet.specs.Steps.{run, progress}
use Rattle.style_sheet.proofs.Grown.{AreNamed-grown}
use Rattle.style_sheet.proofs.Told.{one_more}
use Rattle.style_sheet.proofs.reading.read_items.Goals as goal

pub loop-item-preserved : goal.loop-item-preserved
loop-item-preserved c =
    let at = c.loop-item.item-index in
    let items = c.args.items.now in
    let x : TreeItem = c.item-item.result in
    let next : drop at items ≡ x ∷ drop (at + 1) items =
    drop_more items at x c.loop-item-test.true ∙ ap (λ y. y ∷ drop (at + 1) items) (sym c.item-item.is) in
    let known : AreNamed c.loop-item.names (x ∷ drop (at + 1) items) =
    subst (AreNamed c.loop-item.names) next c.loop-item.invariant.named in
    let before = progress c.loop-item.reader c.loop-item.names in
    let behind = progress c.read.new.self c.read.new.names in
    let rules : length c.read.new.self.rules ≤ length c.loop-item.reader.rules + 1 =
    one_more c.read.new.names c.args.spaces.now before behind x
    (c.in_ok-read.ensures.done c.read.new.names (Grows-refl c.read.new.names)) in
    record {
      grown = Grows-trans _ _ _ c.loop-item.invariant.grown c.in_ok-read.ensures.grows;
      named = AreNamed-grown _ _ _ c.in_ok-read.ensures.grows known.1;
      few = omega (arith, c.loop-item.invariant.few);
      same = λ table grown.
          c.loop-item.invariant.same table (Grows-trans _ _ _ c.in_ok-read.ensures.grows grown)
          ∙ ap (run table c.args.spaces.now before) next
          ∙ ap (option_and_then (λ q. run table c.args.spaces.now q (drop (at + 1) items))) (c.in_ok-read.ensures.done table grown);
    }
