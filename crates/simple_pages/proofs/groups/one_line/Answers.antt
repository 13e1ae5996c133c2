use Rattle.std.proofs.Common.{◌≡◌, ◌+◌, List, ℕ, [], ◌∷◌, ◌++◌, map, drop, refl, sym, ap, ◌∙◌, append-nil, arith}
use Rattle.std.proofs.lemmas.List.{drop_all}
use Rattle.result_origin.specs.declared.items.Item.{Item}
use Rattle.result_origin.specs.Parts.{ResultPart, marks_in}
use Rattle.result_origin.specs.Items.{part_of}
use Rattle.result_origin.proofs.ItemLemmas.{left_parts}
use Rattle.simple_pages.specs.Groups.{groups_in, runs_in}
use Rattle.simple_pages.specs.Pages.{line_at}
use Rattle.simple_pages.specs.Shown.{shown_of}
use Rattle.simple_pages.specs.Laying.{joined}
use Rattle.simple_pages.proofs.groups.one_line.Goals as goal

pub loop-item-preserved : goal.loop-item-preserved
loop-item-preserved c =
    let left = left_parts c.args.items.now c.loop-item.item-index c.item-item.result (omega arith) c.item-item.is in
    sym (c.in_ok-attributes.ensures (map part_of (drop (c.loop-item.item-index + 1) c.args.items.now)))
    ∙ (ap (λ (ps : List (ResultPart ℕ)). map shown_of c.loop-item.runs ++ joined (groups_in c.loop-item.attributes (marks_in ps))) (sym left) ∙ c.loop-item.invariant)

pub returns : goal.returns
returns c =
    let runs = c.loop-item.runs in
    let all : map shown_of runs ≡ runs_in (marks_in (map part_of c.args.items.now)) =
    sym (append-nil (map shown_of runs))
    ∙ (ap (λ (items : List Item). map shown_of runs ++ joined (groups_in c.loop-item.attributes (marks_in (map part_of items))))
    (sym (drop_all c.loop-item.item-index c.args.items.now c.loop-item-test.false)) ∙ c.loop-item.invariant) in
    let one : c.in_ok-line_of.field-0 ≡ line_at 0 (runs_in (marks_in (map part_of c.args.items.now))) =
    c.in_ok-line_of.ensures 0 refl ∙ ap (line_at 0) (ap (map shown_of) c.as_slice.ensures ∙ all) in
    c.in_ok-push.ensures.ok ∙ (ap (λ ls. ls ++ c.in_ok-line_of.field-0 ∷ []) c.new-lines.ensures ∙ ap (λ l. l ∷ []) one)
