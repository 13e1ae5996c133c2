-- The source itself has what the view has.
use Rattle.std.proofs.Common.{◌++◌, List, refl, sym, ap, ◌∙◌, subst}
use Rattle.std.specs.List.{flat_map}
use Rattle.serna_kinds.specs.declared.cells.Cell.{Cell}
use Rattle.serna_kinds.specs.Names.{NameParts}
use Rattle.serna_kinds.proofs.NameLemmas.{Grows-refl}
use Rattle.source_model.specs.Source.{Source}
use Rattle.source_model.specs.Cells.{cell_of}
use Rattle.source_model.specs.Proper.{IsProper}
use Rattle.source_model.specs.Sees.{Sees}
use Rattle.result_origin.specs.Parts.{Mark, marks_in}
use Rattle.result_origin.proofs.FilledLemmas.{marks_in-said}
use Rattle.simple_pages.specs.Groups.{is_root}
use Rattle.simple_pages.specs.Pages.{pages_of}
use Rattle.template_run.specs.Batch.{batch}
use Rattle.plain_editor.specs.Stops.{page_boundaries}
use Rattle.live_editor.specs.Shown.{boundaries_of, ArePagesAtStart}
use Rattle.live_editor.proofs.Printing.{laid_said}
use Rattle.live_editor.proofs.Starts.{pages_start}
use Rattle.live_editor.proofs.view.view_of.Goals as goal

-- a proper source sees itself
own_view : (names : List NameParts) (log : List Cell) (s : Source) → IsProper names s → Sees names log (cell_of s) names s
own_view names log s is =
    record { grows = Grows-refl names; proper = is; agrees = λ cell _. refl; home = s; home_proper = is; home_agrees = λ cell _. refl }

pub push_pages-requires : goal.push_pages-requires
push_pages-requires c =
    let marks : List Mark = batch c.args.names.now c.args.style.now c.args.source.now.source in
    let sees = own_view c.args.names.now c.transform.new.tape.cells c.args.source.now.source c.requires in
    let whole = ap marks_in (c.in_ok-whole.ensures.value c.args.source.now.source sees) ∙ marks_in-said marks in
    let pages = c.in_ok-laid.ensures.pages ∙ ap (λ (ms : List Mark). pages_of c.args.names.now ms) whole in
    subst ArePagesAtStart (sym (c.as_slice.ensures ∙ pages)) (pages_start c.args.names.now c.args.style.now c.args.source.now.source)

pub returns : goal.returns
returns c =
    let marks : List Mark = batch c.args.names.now c.args.style.now c.args.source.now.source in
    let sees = own_view c.args.names.now c.transform.new.tape.cells c.args.source.now.source c.requires in
    let whole = ap marks_in (c.in_ok-whole.ensures.value c.args.source.now.source sees) ∙ marks_in-said marks in
    let pages = c.in_ok-laid.ensures.pages ∙ ap (λ (ms : List Mark). pages_of c.args.names.now ms) whole in
    let rooted = c.in_ok-laid.ensures.rooted ∙ ap (λ (ms : List Mark). is_root c.args.names.now ms) whole in
    record {
      text = c.in_ok-text-2.ensures.ok ∙ c.as_text.ensures.bytes ∙ c.in_ok-text.ensures ∙ laid_said c.args.names.now marks _ _ rooted pages;
      boundaries = c.in_ok-push_pages.ensures ∙ ap (λ bs. boundaries_of bs ++ flat_map page_boundaries c.as_slice.result.now) c.new-boundaries.ensures.items
          ∙ ap (flat_map page_boundaries) (c.as_slice.ensures ∙ pages);
    }
