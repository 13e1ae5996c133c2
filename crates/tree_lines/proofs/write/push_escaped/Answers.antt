-- A character more, and all of them.
use Rattle.std.proofs.Common.{◌++◌, List, ℕ, sym, ap, ◌∙◌, encode_utf8_all}
use Rattle.std.specs.String.{string_bytes}
use Rattle.std.proofs.lemmas.List.{map-id}
use Rattle.std.proofs.lemmas.Iterator.{YieldsList-from_chars}
use Rattle.std.proofs.lemmas.Iterator.Consumers.{YieldsList-end}
use Rattle.tree_lines.specs.Canonical.{escaped}
use Rattle.tree_lines.proofs.Canonical.{escaped-more}
use Rattle.tree_lines.proofs.write.push_escaped.Goals as goal

pub loop-c-preserved : goal.loop-c-preserved
loop-c-preserved c =
    escaped-more (string_bytes c.args.out.now) (string_bytes c.loop-c.out) _ c.loop-c.yielded c.in-Some.c c.loop-c.invariant c.in_ok-push_escape.ensures

pub returns : goal.returns
returns c =
    let all = (YieldsList-end (YieldsList-from_chars c.args.text.now c.utf8.text cc) c.loop-c.yielded _ c.loop-c.yielded_by _ _ c.in-None.is c.next.ensures.steps).0 in
    c.loop-c.invariant ∙ ap (λ (cs : List ℕ). string_bytes c.args.out.now ++ encode_utf8_all (escaped cs)) (sym (map-id c.loop-c.yielded) ∙ all)
