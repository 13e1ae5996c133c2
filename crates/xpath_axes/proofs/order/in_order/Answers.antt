-- The list is sorted by paths.
use Rattle.std.proofs.Common.{◌≡◌, rules, ap, ◌∙◌}
use Rattle.std.proofs.lemmas.List.Sorted.{answers_always}
use Rattle.std.proofs.lemmas.Result.{IfOk-weaker}
use Rattle.xpath_axes.specs.Ordered.{stands_before, each_once, AreSortedFrom}
use Rattle.xpath_axes.proofs.OrderLemmas.{placed-ranks}
use Rattle.xpath_axes.proofs.order.in_order.Goals as goal

pub returns : goal.returns
returns c =
    let answers = answers_always _ _ _ (λ f a r g called. search rules) in
    IfOk-weaker c.of_each_path.result
    (λ found. found ≡ each_once c.deref.result.now)
    (λ found. AreSortedFrom c.args.placed.items found)
    (λ found e. record {
      sorted = c.sort_by.new.self.items;
      moved = c.in_ok-sort_by.ensures.permutation;
      rising = c.in_ok-sort_by.ensures.sorted stands_before placed-ranks answers;
      nodes = e ∙ ap each_once c.deref.ensures.value;
    })
    c.of_each_path.ensures
