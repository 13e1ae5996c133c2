-- The comparisons of order of a node-set, as the code asks them.
use Rattle.std.proofs.Common.{◌≡◌, ℕ, Bool, List, sym, ◌∙◌, ap}
use Rattle.std.specs.List.{list_any}
use Rattle.serna_kinds.specs.declared.expressions.CompareOp.{CompareOp}
use Rattle.serna_kinds.specs.declared.expressions.CompareOp.TheVariants.{Less, LessOrEqual, Greater, GreaterOrEqual}
use Rattle.xpath_values.specs.declared.number.Num.{Num}
use Rattle.xpath_values.specs.declared.value.Operand.{Operand}
use Rattle.xpath_values.specs.declared.value.Operand.TheVariants.{Text}
use Rattle.xpath_values.specs.Numbers.{is_below, is_up_to}
use Rattle.xpath_values.specs.Values.{operand_number}
use Rattle.xpath_values.specs.Comparisons.{holds}
use Rattle.xpath_values.specs.Extremes.{least_number, greatest_number}
use Rattle.xpath_values.proofs.Extremes.{least_below, least_up_to, below_greatest, up_to_greatest, pair_below, pair_up_to, pair_above, pair_from}

-- the test of two numbers that are told by other names
same_test : (test : Num → Num → Bool) (r : Bool) (a a' b b' : Num) → r ≡ test a b → a ≡ a' → b ≡ b' → r ≡ test a' b'
same_test test r a a' b b' e f g = e ∙ (ap (λ x. test x b) f ∙ ap (test a') g)

-- ---- a node-set on the left
pub left_less : (op : CompareOp) (members : List (List ℕ)) (right : Operand) (r : Bool) (a b : Num) → op ≡ Less → r ≡ is_below a b → a ≡ least_number members → b ≡ operand_number right → r ≡ list_any (λ member. holds op (Text member) right) members
left_less op members right r a b o e f g =
    same_test is_below r a (least_number members) b (operand_number right) e f g ∙ (least_below members (operand_number right) ∙ ap (λ o'. list_any (λ member. holds o' (Text member) right) members) (sym o))

pub left_less_or_equal : (op : CompareOp) (members : List (List ℕ)) (right : Operand) (r : Bool) (a b : Num) → op ≡ LessOrEqual → r ≡ is_up_to a b → a ≡ least_number members → b ≡ operand_number right → r ≡ list_any (λ member. holds op (Text member) right) members
left_less_or_equal op members right r a b o e f g =
    same_test is_up_to r a (least_number members) b (operand_number right) e f g ∙ (least_up_to members (operand_number right) ∙ ap (λ o'. list_any (λ member. holds o' (Text member) right) members) (sym o))

pub left_greater : (op : CompareOp) (members : List (List ℕ)) (right : Operand) (r : Bool) (a b : Num) → op ≡ Greater → r ≡ is_below a b → a ≡ operand_number right → b ≡ greatest_number members → r ≡ list_any (λ member. holds op (Text member) right) members
left_greater op members right r a b o e f g =
    same_test is_below r a (operand_number right) b (greatest_number members) e f g ∙ (below_greatest (operand_number right) members ∙ ap (λ o'. list_any (λ member. holds o' (Text member) right) members) (sym o))

pub left_greater_or_equal : (op : CompareOp) (members : List (List ℕ)) (right : Operand) (r : Bool) (a b : Num) → op ≡ GreaterOrEqual → r ≡ is_up_to a b → a ≡ operand_number right → b ≡ greatest_number members → r ≡ list_any (λ member. holds op (Text member) right) members
left_greater_or_equal op members right r a b o e f g =
    same_test is_up_to r a (operand_number right) b (greatest_number members) e f g ∙ (up_to_greatest (operand_number right) members ∙ ap (λ o'. list_any (λ member. holds o' (Text member) right) members) (sym o))

-- ---- a node-set on the right
pub right_less : (op : CompareOp) (members : List (List ℕ)) (left : Operand) (r : Bool) (a b : Num) → op ≡ Less → r ≡ is_below a b → a ≡ operand_number left → b ≡ greatest_number members → r ≡ list_any (λ member. holds op left (Text member)) members
right_less op members left r a b o e f g =
    same_test is_below r a (operand_number left) b (greatest_number members) e f g ∙ (below_greatest (operand_number left) members ∙ ap (λ o'. list_any (λ member. holds o' left (Text member)) members) (sym o))

pub right_less_or_equal : (op : CompareOp) (members : List (List ℕ)) (left : Operand) (r : Bool) (a b : Num) → op ≡ LessOrEqual → r ≡ is_up_to a b → a ≡ operand_number left → b ≡ greatest_number members → r ≡ list_any (λ member. holds op left (Text member)) members
right_less_or_equal op members left r a b o e f g =
    same_test is_up_to r a (operand_number left) b (greatest_number members) e f g ∙ (up_to_greatest (operand_number left) members ∙ ap (λ o'. list_any (λ member. holds o' left (Text member)) members) (sym o))

pub right_greater : (op : CompareOp) (members : List (List ℕ)) (left : Operand) (r : Bool) (a b : Num) → op ≡ Greater → r ≡ is_below a b → a ≡ least_number members → b ≡ operand_number left → r ≡ list_any (λ member. holds op left (Text member)) members
right_greater op members left r a b o e f g =
    same_test is_below r a (least_number members) b (operand_number left) e f g ∙ (least_below members (operand_number left) ∙ ap (λ o'. list_any (λ member. holds o' left (Text member)) members) (sym o))

pub right_greater_or_equal : (op : CompareOp) (members : List (List ℕ)) (left : Operand) (r : Bool) (a b : Num) → op ≡ GreaterOrEqual → r ≡ is_up_to a b → a ≡ least_number members → b ≡ operand_number left → r ≡ list_any (λ member. holds op left (Text member)) members
right_greater_or_equal op members left r a b o e f g =
    same_test is_up_to r a (least_number members) b (operand_number left) e f g ∙ (least_up_to members (operand_number left) ∙ ap (λ o'. list_any (λ member. holds o' left (Text member)) members) (sym o))

-- ---- two node-sets
pub pair_less : (op : CompareOp) (lefts rights : List (List ℕ)) (r : Bool) (a b : Num) → op ≡ Less → r ≡ is_below a b → a ≡ least_number lefts → b ≡ greatest_number rights → r ≡ list_any (λ left. list_any (λ right. holds op (Text left) (Text right)) rights) lefts
pair_less op lefts rights r a b o e f g =
    same_test is_below r a (least_number lefts) b (greatest_number rights) e f g ∙ (pair_below lefts rights ∙ ap (λ o'. list_any (λ left. list_any (λ right. holds o' (Text left) (Text right)) rights) lefts) (sym o))

pub pair_less_or_equal : (op : CompareOp) (lefts rights : List (List ℕ)) (r : Bool) (a b : Num) → op ≡ LessOrEqual → r ≡ is_up_to a b → a ≡ least_number lefts → b ≡ greatest_number rights → r ≡ list_any (λ left. list_any (λ right. holds op (Text left) (Text right)) rights) lefts
pair_less_or_equal op lefts rights r a b o e f g =
    same_test is_up_to r a (least_number lefts) b (greatest_number rights) e f g ∙ (pair_up_to lefts rights ∙ ap (λ o'. list_any (λ left. list_any (λ right. holds o' (Text left) (Text right)) rights) lefts) (sym o))

pub pair_greater : (op : CompareOp) (lefts rights : List (List ℕ)) (r : Bool) (a b : Num) → op ≡ Greater → r ≡ is_below a b → a ≡ least_number rights → b ≡ greatest_number lefts → r ≡ list_any (λ left. list_any (λ right. holds op (Text left) (Text right)) rights) lefts
pair_greater op lefts rights r a b o e f g =
    same_test is_below r a (least_number rights) b (greatest_number lefts) e f g ∙ (pair_above lefts rights ∙ ap (λ o'. list_any (λ left. list_any (λ right. holds o' (Text left) (Text right)) rights) lefts) (sym o))

pub pair_greater_or_equal : (op : CompareOp) (lefts rights : List (List ℕ)) (r : Bool) (a b : Num) → op ≡ GreaterOrEqual → r ≡ is_up_to a b → a ≡ least_number rights → b ≡ greatest_number lefts → r ≡ list_any (λ left. list_any (λ right. holds op (Text left) (Text right)) rights) lefts
pair_greater_or_equal op lefts rights r a b o e f g =
    same_test is_up_to r a (least_number rights) b (greatest_number lefts) e f g ∙ (pair_from lefts rights ∙ ap (λ o'. list_any (λ left. list_any (λ right. holds o' (Text left) (Text right)) rights) lefts) (sym o))
