-- Groups that are closed one by one are the groups in a row.
use Rattle.std.proofs.Common.{◌≡◌, ℕ, zero, suc, ◌+◌, Bool, true, false, List, [], ◌∷◌, ◌++◌, length, map, refl, sym, ap, ◌∙◌, cond, append_assoc, append-nil, length-append, eqb, rules, tests}
use Rattle.std.specs.List.{filter, list_any, onto_first}
use Rattle.result_origin.specs.Parts.{Mark, Run}
use Rattle.result_origin.specs.declared.origin.Origin.{Origin}
use Rattle.result_origin.specs.declared.pages.Line.{Line}
use Rattle.simple_pages.specs.declared.runs.Shown.{Shown}
use Rattle.simple_pages.specs.Groups.{ShownRun, shown_run, groups_in, up_to_end, is_seen, is_line}
use Rattle.simple_pages.specs.Pages.{line_at, lines_from}
use Rattle.simple_pages.specs.Shown.{shown_of}
use Rattle.simple_pages.specs.Laying.{LayingValue, with_run, with_group, behind_group, finished, finished_with}

pub any_shown : (runs : List Shown) → list_any (λ run. is_seen (shown_of run)) runs ≡ list_any is_seen (map shown_of runs)
any_shown [] = refl
any_shown (run ∷ runs) = rw (any_shown runs) refl

behind_run : (group : List ShownRun) (run : ShownRun) (groups : List (List ShownRun)) → behind_group group (onto_first run groups) ≡ behind_group (group ++ run ∷ []) groups
behind_run group run [] = refl
behind_run group run (first ∷ groups) = ap (λ g. g ∷ groups) (sym (append_assoc group (run ∷ []) first))

pub lines_behind_none : (groups : List (List ShownRun)) → filter is_line (behind_group [] groups) ≡ filter is_line groups
lines_behind_none [] = refl
lines_behind_none (first ∷ groups) = refl

closing_line : (lines : List Line) (group : List ShownRun) (groups : List (List ShownRun)) (b : Bool) →
    lines ++ lines_from (length lines) (cond b (group ∷ groups) groups)
    ≡ cond b (lines ++ line_at (length lines) group ∷ []) lines ++ lines_from (length (cond b (lines ++ line_at (length lines) group ∷ []) lines)) groups
closing_line lines group groups false = refl
closing_line lines group groups true =
    let one : List Line = line_at (length lines) group ∷ [] in
    sym (append_assoc lines one (lines_from (length lines + 1) groups)) ∙ ap (λ n. (lines ++ one) ++ lines_from n groups) (sym (length-append lines one))

-- a group that ends is a line, or is none
pub closing : (lines : List Line) (group : List ShownRun) (groups : List (List ShownRun)) → finished lines group ([] ∷ groups) ≡ finished (with_group lines group) [] groups
closing lines group groups =
    ap (λ g. lines ++ lines_from (length lines) (filter is_line (g ∷ groups))) (append-nil group)
    ∙ (closing_line lines group (filter is_line groups) (is_line group)
    ∙ ap (λ gs. with_group lines group ++ lines_from (length (with_group lines group)) gs) (sym (lines_behind_none groups)))

-- a run goes to its group, outside attributes
pub adding : (so_far : LayingValue) (text : List ℕ) (origin : Origin) (marks : List Mark) →
    finished_with so_far (Run text origin ∷ marks) ≡ finished_with (with_run so_far (shown_run text origin)) marks
adding so_far text origin marks = by_attributes so_far.attributes
  where
    by_attributes : (n : ℕ) →
        finished so_far.lines so_far.group (groups_in n (Run text origin ∷ up_to_end so_far.elements marks))
        ≡ finished_with (with_run (record so_far { attributes = n }) (shown_run text origin)) marks
    by_attributes zero = ap (λ gs. so_far.lines ++ lines_from (length so_far.lines) (filter is_line gs)) (behind_run so_far.group (shown_run text origin) (groups_in 0 (up_to_end so_far.elements marks)))
    by_attributes (suc n) = let some : eqb (suc n) 0 ≡ false = search (rules, tests) in rw some refl

-- where nothing follows, the last group is closed
pub ending : (so_far : LayingValue) → finished_with so_far [] ≡ with_group so_far.lines so_far.group
ending so_far = closing so_far.lines so_far.group [] ∙ append-nil (with_group so_far.lines so_far.group)

-- an item is gone past, or is the end: what is said of all by what was left is said of all by what is left
pub past_item : (goes_on : Bool) (old new last all : List Line) → old ≡ cond goes_on new last → goes_on ≡ true → old ≡ all → new ≡ all
past_item true old new last all is on so_far = sym is ∙ so_far
past_item false old new last all is on so_far = absurd (cc)

pub at_end : (goes_on : Bool) (old new last all : List Line) → old ≡ cond goes_on new last → goes_on ≡ false → old ≡ all → last ≡ all
at_end true old new last all is off so_far = absurd (cc)
at_end false old new last all is off so_far = sym is ∙ so_far
