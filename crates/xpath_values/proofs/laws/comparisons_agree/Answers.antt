use Rattle.std.proofs.Common.{refl}
use Rattle.xpath_values.proofs.Members.{pair_law, nan_law}
use Rattle.xpath_values.proofs.Mirrors.{equal_turned, not_equal_turned, less_turned, less_or_equal_turned}
use Rattle.xpath_values.proofs.laws.comparisons_agree.Goals as goal

pub returns : goal.returns
returns c = record { pair = pair_law; nan = nan_law; nan_differs = λ number. refl; equal = equal_turned; not_equal = not_equal_turned; less = less_turned; less_or_equal = less_or_equal_turned }
