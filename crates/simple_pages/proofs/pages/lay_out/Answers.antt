use Rattle.std.proofs.Common.{◌≡◌, List, ℕ, [], ◌∷◌, ◌++◌, false, refl, sym, ap, ◌∙◌}
use Rattle.result_origin.specs.declared.pages.Line.{Line}
use Rattle.result_origin.specs.declared.pages.Page.{Page}
use Rattle.result_origin.specs.Parts.{Mark, ResultPart, marks_in}
use Rattle.simple_pages.specs.Groups.{is_root, runs_in}
use Rattle.simple_pages.specs.Pages.{line_at, page_lines}
use Rattle.simple_pages.proofs.pages.lay_out.Goals as goal

unfoldable page : List Line → Page
page lines = record { number = 1; lines = lines }

pub returns-in_ok-push-in-None-clause-pages : goal.returns-in_ok-push-in-None-clause-pages
unfolding page
returns-in_ok-push-in-None-clause-pages c =
    let marks : List Mark = marks_in c.args.whole.now in
    let plain : is_root c.args.names.now marks ≡ false =
    ap (λ (ps : List (ResultPart ℕ)). is_root c.args.names.now (marks_in ps)) (sym c.items.ensures) ∙ c.in-None.ensures.other in
    let lines_are : page_lines c.args.names.now marks ≡ line_at 0 (runs_in marks) ∷ [] = rw plain refl in
    let lines = c.in_ok-lines-in-None.ensures ∙ (ap (λ (ps : List (ResultPart ℕ)). line_at 0 (runs_in (marks_in ps)) ∷ []) c.items-in-None.ensures ∙ sym lines_are) in
    c.in_ok-push-in-None.ensures.ok ∙ (ap (λ ps. ps ++ page c.in_ok-lines-in-None.lines ∷ []) c.new-pages.ensures ∙ ap (λ ls. page ls ∷ []) lines)
