-- A declaration more.
use Rattle.std.proofs.Common.{[], sym, ap, ◌∙◌, arith}
use Rattle.std.specs.Option.{option_map}
use Rattle.std.specs.String.{string_bytes}
use Rattle.std.proofs.lemmas.Option.{none-some, slice_get-get_or}
use Rattle.serna_kinds.specs.Names.{space}
use Rattle.tree_lines.proofs.Canonical.{declared-more}
use Rattle.tree_lines.proofs.write.push_declarations.Goals as goal
use Rattle.tree_lines.proofs.write.push_declarations.Goals.{in-Some+in_ok-push_declaration, in_default}

pub loop-place-preserved : goal.loop-place-preserved
loop-place-preserved c = elim c.match-declaration.branch [
  | in-Some+in_ok-push_declaration w ↦
      let at = sym c.declaration.ensures ∙ ap (option_map (λ d. space d.0.now d.1.now)) w.in-Some.is in
      declared-more _ _ _ c.args.spaces.now c.loop-place.place _ at c.loop-place.invariant (ap string_bytes w.out-is ∙ w.in_ok-push_declaration.ensures)
  | in_default w ↦
      let at = sym c.declaration.ensures ∙ ap (option_map (λ d. space d.0.now d.1.now)) w.in_default.is in
      let within = slice_get-get_or c.args.spaces.now c.loop-place.place (space [] []) (omega (arith, c.loop-place-test.true, c.len-place-end.ensures)) in
      absurd (none-some _ (sym at ∙ within))
]
