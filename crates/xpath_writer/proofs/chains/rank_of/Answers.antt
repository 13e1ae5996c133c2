-- The rank of each kind of expression.
use Rattle.std.proofs.Common.{ap, ◌∙◌, sym}
use Rattle.xpath_writer.specs.Writing.{compares_rank, ariths_rank, shown}
use Rattle.xpath_writer.proofs.Writes.{compares_rank-map, ariths_rank-map}
use Rattle.xpath_writer.proofs.Shown.{ranked, shown-Or, shown-And, shown-Compare, shown-Arith, shown-Negate, shown-Union, shown-Path, shown-Filter, shown-Text, shown-Number, shown-Variable, shown-Call}
use Rattle.xpath_writer.proofs.chains.rank_of.Goals as goal

pub returns-in-Or : goal.returns-in-Or
returns-in-Or c = ranked c.args.spaces.now c.args.names.now _ _ _ c.in-Or.is (shown-Or c.args.spaces.now c.args.names.now c.in-Or.field-0)

pub returns-in-And : goal.returns-in-And
returns-in-And c = ranked c.args.spaces.now c.args.names.now _ _ _ c.in-And.is (shown-And c.args.spaces.now c.args.names.now c.in-And.field-0)

pub returns-in-Negate : goal.returns-in-Negate
returns-in-Negate c = ranked c.args.spaces.now c.args.names.now _ _ _ c.in-Negate.is (shown-Negate c.args.spaces.now c.args.names.now c.in-Negate.field-0 c.in-Negate.field-1)

pub returns-in-Union : goal.returns-in-Union
returns-in-Union c = ranked c.args.spaces.now c.args.names.now _ _ _ c.in-Union.is (shown-Union c.args.spaces.now c.args.names.now c.in-Union.field-0)

pub returns-in-Path : goal.returns-in-Path
returns-in-Path c = ranked c.args.spaces.now c.args.names.now _ _ _ c.in-Path.is (shown-Path c.args.spaces.now c.args.names.now c.in-Path.field-0 c.in-Path.field-1)

pub returns-in-Filter : goal.returns-in-Filter
returns-in-Filter c = ranked c.args.spaces.now c.args.names.now _ _ _ c.in-Filter.is (shown-Filter c.args.spaces.now c.args.names.now c.in-Filter.field-0 c.in-Filter.field-1)

pub returns-in-Text : goal.returns-in-Text
returns-in-Text c = ranked c.args.spaces.now c.args.names.now _ _ _ c.in-Text.is (shown-Text c.args.spaces.now c.args.names.now c.in-Text.field-0)

pub returns-in-Number : goal.returns-in-Number
returns-in-Number c = ranked c.args.spaces.now c.args.names.now _ _ _ c.in-Number.is (shown-Number c.args.spaces.now c.args.names.now c.in-Number.field-0)

pub returns-in-Variable : goal.returns-in-Variable
returns-in-Variable c = ranked c.args.spaces.now c.args.names.now _ _ _ c.in-Variable.is (shown-Variable c.args.spaces.now c.args.names.now c.in-Variable.field-0)

pub returns-in-Call : goal.returns-in-Call
returns-in-Call c = ranked c.args.spaces.now c.args.names.now _ _ _ c.in-Call.is (shown-Call c.args.spaces.now c.args.names.now c.in-Call.field-0 c.in-Call.field-1)

pub returns-in-Compare : goal.returns-in-Compare
returns-in-Compare c =
    c.compares_rank.ensures
    ∙ ap compares_rank c.as_slice.ensures
    ∙ sym (compares_rank-map (shown c.args.spaces.now c.args.names.now) c.in-Compare.others)
    ∙ ranked c.args.spaces.now c.args.names.now _ _ _ c.in-Compare.is (shown-Compare c.args.spaces.now c.args.names.now c.in-Compare.field-0 c.in-Compare.others)

pub returns-in-Arith : goal.returns-in-Arith
returns-in-Arith c =
    c.ariths_rank.ensures
    ∙ ap ariths_rank c.as_slice-in-Arith.ensures
    ∙ sym (ariths_rank-map (shown c.args.spaces.now c.args.names.now) c.in-Arith.others)
    ∙ ranked c.args.spaces.now c.args.names.now _ _ _ c.in-Arith.is (shown-Arith c.args.spaces.now c.args.names.now c.in-Arith.field-0 c.in-Arith.others)
