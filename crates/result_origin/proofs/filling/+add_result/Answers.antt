use Rattle.std.proofs.Common.{◌≡◌, ◌+◌, ◌-◌, ◌++◌, ◌∷◌, [], List, ℕ, Some, map, drop, sym, ap, ◌∙◌, subst, arith}
use Rattle.std.specs.List.{AllByRecursion}
use Rattle.std.specs.Option.{option_copied}
use Rattle.result_origin.specs.declared.items.Item.{Item}
use Rattle.result_origin.specs.Parts.{ResultPart, filled, said}
use Rattle.result_origin.specs.Items.{part_of}
use Rattle.result_origin.specs.Stored.{kept}
use Rattle.result_origin.specs.Assembled.{resolved, HoleEnds, Ends}
use Rattle.result_origin.proofs.ItemLemmas.{left_parts}
use Rattle.result_origin.proofs.FilledLemmas.{past_hole, past_mark, some_behind, a_level, is_kept, entered}
use Rattle.result_origin.proofs.filling.+add_result.Goals as goal
use Rattle.result_origin.proofs.filling.+add_result.Goals.{in-Hole+in_ok-add_result-in-Hole, in_default+in_ok-copy-in_default+in_ok-push-in_default}

pub unwrap-fragment-requires : goal.unwrap-fragment-requires
unwrap-fragment-requires t c =
    let there = is_kept (kept c.args.fragments.now.stored) c.args.levels c.args.id c.requires in
    some_behind c.get.result there.0 (c.get.ensures ∙ there.1)

pub loop-item-init : goal.loop-item-init
loop-item-init t c =
    let parts : List (ResultPart ℕ) = map part_of c.items-item-items.result.now in
    let there : kept c.args.fragments.now.stored c.args.id ≡ Some parts =
    sym c.get.ensures ∙ (ap option_copied c.unwrap-fragment.ensures ∙ ap (λ ps. Some ps) (sym c.items-item-items.ensures)) in
    let inside = entered (kept c.args.fragments.now.stored) c.args.levels c.args.id parts c.requires there in
    record { said = ap (λ ms. c.args.whole.now ++ said ms) (sym inside.is); ends = inside.ends }

pub overflow_sub-levels : goal.overflow_sub-levels
overflow_sub-levels t c = a_level (kept c.args.fragments.now.stored) c.args.levels c.args.id c.requires

pub add_result-requires : goal.add_result-requires
add_result-requires t c =
    let rest : List (ResultPart ℕ) = map part_of (drop (c.loop-item.item-index + 1) c.items-item-items.result.now) in
    let left =
    left_parts c.items-item-items.result.now c.loop-item.item-index c.item-item.result (omega arith) c.item-item.is ∙ ap (λ (it : Item). part_of it ∷ rest) c.in-Hole.is in (
      omega (arith, a_level (kept c.args.fragments.now.stored) c.args.levels c.args.id c.requires),
      (subst (AllByRecursion (HoleEnds (Ends (kept c.args.fragments.now.stored) (c.args.levels - 1)))) left c.loop-item.invariant.ends).0,
    )

pub loop-item-preserved : goal.loop-item-preserved
loop-item-preserved t c =
    let rest : List (ResultPart ℕ) = map part_of (drop (c.loop-item.item-index + 1) c.items-item-items.result.now) in
    let fill = resolved (kept c.args.fragments.now.stored) (c.args.levels - 1) in
    let all : List (ResultPart ℕ) = c.args.whole.now ++ said (resolved (kept c.args.fragments.now.stored) c.args.levels c.args.id) in
    let left = left_parts c.items-item-items.result.now c.loop-item.item-index c.item-item.result (omega arith) c.item-item.is in
    let so_far : c.loop-item.whole ++ said (filled fill (part_of c.item-item.result ∷ rest)) ≡ all =
    ap (λ (ps : List (ResultPart ℕ)). c.loop-item.whole ++ said (filled fill ps)) (sym left) ∙ c.loop-item.invariant.said in
    record {
      said =
          elim c.match-item.branch [
            | in-Hole+in_ok-add_result-in-Hole w ↦
                ap (λ (ps : List (ResultPart ℕ)). ps ++ said (filled fill rest)) (w.whole-is ∙ w.in_ok-add_result-in-Hole.ensures)
                ∙ past_hole fill w.in-Hole.id c.loop-item.whole all rest (ap (λ (it : Item). c.loop-item.whole ++ said (filled fill (part_of it ∷ rest))) (sym w.in-Hole.is) ∙ so_far)
            | in_default+in_ok-copy-in_default+in_ok-push-in_default w ↦
                ap (λ (ps : List (ResultPart ℕ)). ps ++ said (filled fill rest))
                (w.whole-is ∙ (w.in_ok-push-in_default.ensures.ok ∙ ap (λ (it : Item). c.loop-item.whole ++ part_of it ∷ []) w.in_ok-copy-in_default.ensures))
                ∙ past_mark fill c.item-item.result c.loop-item.whole all rest w.in_default.not-Hole so_far
          ];
      ends = (subst (AllByRecursion (HoleEnds (Ends (kept c.args.fragments.now.stored) (c.args.levels - 1)))) left c.loop-item.invariant.ends).1;
    }
