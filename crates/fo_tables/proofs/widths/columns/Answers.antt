use Rattle.std.proofs.Common.{◌≡◌, ℕ, List, map, pos, IfOk, ap, subst, ◌∙◌, w64}
use Rattle.std.proofs.lemmas.Int.{to_z-of_z}
use Rattle.fo_tables.specs.Sizes.{size}
use Rattle.fo_tables.proofs.Shares.{columns_are}
use Rattle.fo_tables.proofs.widths.columns.Goals as goal

pub returns : goal.returns
returns c =
    subst (λ (widths : List ℕ). IfOk c.share_out.result (λ found. found ≡ map pos widths))
    (columns_are c.args.given.now c.args.needed c.args.width c.size-table.result c.left_over-left.result c.as_slice.result.now c.as_slice-2.result.now
    (c.size-table.ensures ∙ ap size (to_z-of_z w64 c.args.width c.ranges.width)) (c.as_slice.ensures ∙ c.in_ok-columns.ensures) (c.as_slice-2.ensures ∙ c.in_ok-columns.ensures) c.left_over-left.ensures)
    c.share_out.ensures
