use Rattle.fo_tables.specs.Sizes.{size}
use Rattle.fo_tables.specs.Widths.{all_columns}
use Rattle.fo_tables.proofs.Shares.{filled, alone, count, are_columns}
use Rattle.fo_tables.proofs.laws.columns_add_up.Goals as goal

pub returns : goal.returns
returns c = record {
  filled = λ given needed width are e. filled (size width) (all_columns given needed) (are_columns given needed are) e;
  alone = λ given needed width e. alone (size width) (all_columns given needed) e;
  count = count;
}
