use Rattle.std.proofs.Common.{refl, sym, ap, subst}
use Rattle.result_origin.specs.declared.pages.Page.{Page}
use Rattle.plain_editor.specs.Stops.{line_boundaries, page_boundaries}
use Rattle.live_editor.specs.Shown.{AreLinesAtStart}
use Rattle.live_editor.proofs.Loops.{none_given, one_given, all_given, all_at}
use Rattle.live_editor.proofs.view.push_pages.Goals as goal

pub loop-page-init : goal.loop-page-init
loop-page-init c = none_given page_boundaries c.args.pages.now _ _ refl

pub push_lines-requires : goal.push_lines-requires
push_lines-requires c =
    subst AreLinesAtStart (sym c.as_slice.ensures) (all_at (λ (page : Page). AreLinesAtStart page.lines) c.args.pages.now c.loop-page.page-index c.page-item.result c.loop-page-test.true c.page-item.is c.requires)

pub loop-page-preserved : goal.loop-page-preserved
loop-page-preserved c =
    one_given page_boundaries c.args.pages.now c.loop-page.page-index c.page-item.result _ _ _ _ c.loop-page-test.true c.page-item.is c.loop-page.invariant c.in_ok-push_lines.ensures
    (ap (line_boundaries c.page-item.result.number 1) c.as_slice.ensures)

pub returns : goal.returns
returns c = all_given page_boundaries c.args.pages.now c.loop-page.page-index _ _ c.loop-page-test.false c.loop-page.invariant
