use Rattle.std.proofs.Common.{subst, arith}
use Rattle.xpath_machine.specs.Advance.{Refuses, Advances, IsAdvanced}
use Rattle.xpath_machine.proofs.Stopping.{stops_refused, stands_on, stands_first, reads_all, ends_early}
use Rattle.xpath_machine.proofs.reading.parse.Goals as goal

pub loop-symbol-init : goal.loop-symbol-init
loop-symbol-init g c = record {
  shallow = omega arith;
  few = omega arith;
  stands = stands_first g.M.Machine.run g.M.Machine.leads g.M.Machine.ends g.M.Machine.grammar c.requires c.args.symbols c.beginning-machine.result c.beginning-machine.ensures;
}

pub returns-in-None : goal.returns-in-None
returns-in-None g c =
    let refused : Refuses g.M.Machine.leads c.loop-symbol.machine c.loop-symbol.depth c.in-Some.symbol = subst (IsAdvanced g.M.Machine.leads c.loop-symbol.machine c.loop-symbol.depth c.in-Some.symbol) c.in-None.is c.in_ok-next.ensures in
    stops_refused g.M.Machine.run g.M.Machine.leads g.M.Machine.ends g.M.Machine.grammar c.requires c.args.symbols c.loop-symbol.count c.loop-symbol.symbols c.loop-symbol.machine c.loop-symbol.depth c.in-Some.symbol c.pop.new.self
    c.loop-symbol.invariant.stands c.in-Some.ensures refused

pub loop-symbol-preserved : goal.loop-symbol-preserved
loop-symbol-preserved g c =
    let step : Advances g.M.Machine.leads c.loop-symbol.machine c.loop-symbol.depth c.in-Some.symbol c.in-Some-2.next c.in-Some-2.open =
    subst (IsAdvanced g.M.Machine.leads c.loop-symbol.machine c.loop-symbol.depth c.in-Some.symbol) c.in-Some-2.is c.in_ok-next.ensures in
    let on =
    stands_on g.M.Machine.run g.M.Machine.leads g.M.Machine.ends g.M.Machine.grammar c.requires c.args.symbols c.loop-symbol.count c.loop-symbol.symbols c.loop-symbol.machine c.loop-symbol.depth c.in-Some.symbol c.pop.new.self
    c.loop-symbol.invariant.stands c.in-Some.ensures c.in-Some-2.next c.in-Some-2.open step in
    record {
      shallow = step.shallow;
      few = omega (arith, on.within);
      stands = on;
    }

pub returns-in-Some-3 : goal.returns-in-Some-3
returns-in-Some-3 g c =
    reads_all g.M.Machine.run g.M.Machine.leads g.M.Machine.ends g.M.Machine.grammar c.requires c.args.symbols c.loop-symbol.count c.loop-symbol.symbols c.loop-symbol.machine c.loop-symbol.depth c.in-Some-3.tree c.in_ok-tree.field-0
    c.loop-symbol.invariant.stands c.in_default.ensures.0 c.in-Some-3.is c.in_ok-tree.ensures

pub returns : goal.returns
returns g c =
    ends_early g.M.Machine.run g.M.Machine.leads g.M.Machine.ends g.M.Machine.grammar c.requires c.args.symbols c.loop-symbol.count c.loop-symbol.symbols c.loop-symbol.machine c.loop-symbol.depth c.in_ok-tree.field-0
    c.loop-symbol.invariant.stands c.in_default.ensures.0 c.in-None-2.is c.in_ok-tree.ensures
