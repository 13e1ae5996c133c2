-- The nodes and the text stay within their limits.
use Rattle.std.proofs.Common.{◌≡◌, ◌≤◌, ◌+◌, ℕ, List, ◌++◌, ◌∙◌, ap, subst, arith}
use Rattle.tree_lines.specs.Reading.{Reading, text_nodes}
use Rattle.tree_lines.proofs.StepLemmas.{text_nodes-few, text-short}
use Rattle.tree_lines.proofs.reader.Reader.add_text.Goals as goal

pub invariant_of-self : goal.invariant_of-self
invariant_of-self c = (c.self.invariant.0, rw c.in_err-push_text.ensures.err c.self.invariant.1)

pub invariant_of-self-2 : goal.invariant_of-self-2
invariant_of-self-2 c =
    let old = c.args.self.now in
    let more = c.args.more.now in
    let same = c.self.view_is ∙ c.in_ok-end_begun.ensures in
    let text : c.self.inside.text ≡ old.text = ap (λ (r : Reading). r.text) same in
    let nodes : c.self.inside.nodes ≡ old.nodes = ap (λ (r : Reading). r.nodes) same in
    let few : old.nodes + text_nodes old.text more ≤ 1000000 =
    text_nodes-few old.text more old.nodes c.requires.few (subst (λ (n : ℕ). n ≤ 1000000) nodes c.self.invariant.0) in
    let added = c.text_nodes-nodes.ensures in (
      omega (arith, nodes, added, few),
      text-short old.text more c.push_text.new.self c.requires.short (c.in_ok-push_text.ensures.ok ∙ ap (λ (t : List ℕ). t ++ more) text),
    )
