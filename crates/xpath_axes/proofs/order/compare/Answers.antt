use Rattle.std.proofs.Common.{ap, ◌∙◌}
use Rattle.std.specs.Ordering.{is_lt}
use Rattle.std.specs.Cmp.Lexicographic.{slice_cmp}
use Rattle.xpath_axes.proofs.OrderLemmas.{step_cmp, path_less}
use Rattle.xpath_axes.proofs.order.compare.Goals as goal

pub returns : goal.returns
returns c = ap is_lt c.cmp.ensures ∙ (λ i. is_lt (slice_cmp step_cmp (c.as_slice.ensures i) (c.as_slice-2.ensures i))) ∙ path_less c.args.a.now.path c.args.b.now.path
