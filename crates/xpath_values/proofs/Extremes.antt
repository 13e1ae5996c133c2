-- A comparison of order holds of some member where it holds of the least or the greatest.
use Rattle.std.proofs.Common.{◌≡◌, ℕ, Bool, true, false, not, ◌||◌, ◌&&◌, List, [], ◌∷◌, ℤ, bytes_eq, eqb, length, refl, sym, ◌∙◌, ap, arith}
use Rattle.std.specs.Int.{int_min, int_max}
use Rattle.std.specs.Int.RustNames.{int_lt, int_le}
use Rattle.std.specs.List.{fold, list_any}
use Rattle.std.proofs.lemmas.Bool.{or_parts, not-false, eqb-true, eqb-false}
use Rattle.std.proofs.lemmas.Int.{ints, clamps}
use Rattle.std.proofs.lemmas.Slice.Eq.{bytes_eq-Decides}
use Rattle.xpath_values.specs.declared.number.Num.{Num}
use Rattle.xpath_values.specs.declared.number.Num.TheVariants.{NaN, Whole}
use Rattle.xpath_values.specs.Numbers.{is_below, is_up_to}
use Rattle.xpath_values.specs.Numerals.{text_number}
use Rattle.xpath_values.specs.Extremes.{lesser, greater, least_number, greatest_number}
use Rattle.xpath_values.specs.Values.{is_empty}

-- ---- Bool
or_false : (b : Bool) → (b || false) ≡ b
or_false true = refl
or_false false = refl

or_assoc : (a b c : Bool) → ((a || b) || c) ≡ (a || (b || c))
or_assoc true b c = refl
or_assoc false b c = refl

or_again : (b more : Bool) → (b || (more && b)) ≡ b
or_again true more = refl
or_again false true = refl
or_again false false = refl

pub any_same : {X : Type 0} (p q : X → Bool) → ((x : X) → p x ≡ q x) → (xs : List X) → list_any p xs ≡ list_any q xs
any_same p q h [] = refl
any_same p q h (x ∷ xs) = ap (λ b. b || list_any p xs) (h x) ∙ ap (λ b. q x || b) (any_same p q h xs)

-- ---- one more number
lt_min : (a b g : ℤ) → int_lt (int_min a b) g ≡ (int_lt a g || int_lt b g)
lt_min a b g = grind (arith, ints, clamps)

le_min : (a b g : ℤ) → int_le (int_min a b) g ≡ (int_le a g || int_le b g)
le_min a b g = grind (arith, ints, clamps)

lt_max : (x a b : ℤ) → int_lt x (int_max a b) ≡ (int_lt x a || int_lt x b)
lt_max x a b = grind (arith, ints, clamps)

le_max : (x a b : ℤ) → int_le x (int_max a b) ≡ (int_le x a || int_le x b)
le_max x a b = grind (arith, ints, clamps)

pub below_nan : (x : Num) → is_below x NaN ≡ false
below_nan NaN = refl
below_nan (Whole a) = refl

pub up_to_nan : (x : Num) → is_up_to x NaN ≡ false
up_to_nan NaN = refl
up_to_nan (Whole a) = refl

below_lesser : (x y g : Num) → is_below (lesser x y) g ≡ (is_below x g || is_below y g)
below_lesser NaN y g = refl
below_lesser (Whole a) NaN g = sym (or_false (is_below (Whole a) g))
below_lesser (Whole a) (Whole b) NaN = refl
below_lesser (Whole a) (Whole b) (Whole c) = lt_min a b c

up_to_lesser : (x y g : Num) → is_up_to (lesser x y) g ≡ (is_up_to x g || is_up_to y g)
up_to_lesser NaN y g = refl
up_to_lesser (Whole a) NaN g = sym (or_false (is_up_to (Whole a) g))
up_to_lesser (Whole a) (Whole b) NaN = refl
up_to_lesser (Whole a) (Whole b) (Whole c) = le_min a b c

below_greater : (x y z : Num) → is_below x (greater y z) ≡ (is_below x y || is_below x z)
below_greater NaN y z = refl
below_greater (Whole a) NaN z = refl
below_greater (Whole a) (Whole b) NaN = sym (or_false (int_lt a b))
below_greater (Whole a) (Whole b) (Whole c) = lt_max a b c

up_to_greater : (x y z : Num) → is_up_to x (greater y z) ≡ (is_up_to x y || is_up_to x z)
up_to_greater NaN y z = refl
up_to_greater (Whole a) NaN z = refl
up_to_greater (Whole a) (Whole b) NaN = sym (or_false (int_le a b))
up_to_greater (Whole a) (Whole b) (Whole c) = le_max a b c

-- ---- a fold of choices: P is a test that a choice of two passes where one of them does
fold_any : (choose : Num → Num → Num) (P : Num → Bool) → ((x y : Num) → P (choose x y) ≡ (P x || P y)) → (best : Num) (texts : List (List ℕ)) →
    P (fold (λ b text. choose b (text_number text)) best texts) ≡ (P best || list_any (λ text. P (text_number text)) texts)
fold_any choose P h best [] = sym (or_false (P best))
fold_any choose P h best (text ∷ texts) =
    fold_any choose P h (choose best (text_number text)) texts
    ∙ (ap (λ b. b || list_any (λ t. P (text_number t)) texts) (h best (text_number text)) ∙ or_assoc (P best) (P (text_number text)) (list_any (λ t. P (text_number t)) texts))

-- ---- what the code asks is what some member says
pub least_below : (texts : List (List ℕ)) (g : Num) → is_below (least_number texts) g ≡ list_any (λ text. is_below (text_number text) g) texts
least_below texts g = fold_any lesser (λ x. is_below x g) (λ x y. below_lesser x y g) NaN texts

pub least_up_to : (texts : List (List ℕ)) (g : Num) → is_up_to (least_number texts) g ≡ list_any (λ text. is_up_to (text_number text) g) texts
least_up_to texts g = fold_any lesser (λ x. is_up_to x g) (λ x y. up_to_lesser x y g) NaN texts

pub below_greatest : (x : Num) (texts : List (List ℕ)) → is_below x (greatest_number texts) ≡ list_any (λ text. is_below x (text_number text)) texts
below_greatest x texts = fold_any greater (λ y. is_below x y) (below_greater x) NaN texts ∙ ap (λ b. b || list_any (λ text. is_below x (text_number text)) texts) (below_nan x)

pub up_to_greatest : (x : Num) (texts : List (List ℕ)) → is_up_to x (greatest_number texts) ≡ list_any (λ text. is_up_to x (text_number text)) texts
up_to_greatest x texts = fold_any greater (λ y. is_up_to x y) (up_to_greater x) NaN texts ∙ ap (λ b. b || list_any (λ text. is_up_to x (text_number text)) texts) (up_to_nan x)

pub pair_below : (lefts rights : List (List ℕ)) → is_below (least_number lefts) (greatest_number rights) ≡ list_any (λ left. list_any (λ right. is_below (text_number left) (text_number right)) rights) lefts
pair_below lefts rights = least_below lefts (greatest_number rights) ∙ any_same _ _ (λ left. below_greatest (text_number left) rights) lefts

pub pair_up_to : (lefts rights : List (List ℕ)) → is_up_to (least_number lefts) (greatest_number rights) ≡ list_any (λ left. list_any (λ right. is_up_to (text_number left) (text_number right)) rights) lefts
pair_up_to lefts rights = least_up_to lefts (greatest_number rights) ∙ any_same _ _ (λ left. up_to_greatest (text_number left) rights) lefts

-- the other way round: the right is below the left
pub pair_above : (lefts rights : List (List ℕ)) → is_below (least_number rights) (greatest_number lefts) ≡ list_any (λ left. list_any (λ right. is_below (text_number right) (text_number left)) rights) lefts
pair_above lefts rights = below_greatest (least_number rights) lefts ∙ any_same _ _ (λ left. least_below rights (text_number left)) lefts

pub pair_from : (lefts rights : List (List ℕ)) → is_up_to (least_number rights) (greatest_number lefts) ≡ list_any (λ left. list_any (λ right. is_up_to (text_number right) (text_number left)) rights) lefts
pair_from lefts rights = up_to_greatest (least_number rights) lefts ∙ any_same _ _ (λ left. least_up_to rights (text_number left)) lefts

-- ---- texts that differ
abbrev pub differ : List ℕ → List ℕ → Bool
differ left right = not (bytes_eq left right)

none_differs : (first : List ℕ) (left : List ℕ) (rights : List (List ℕ)) → list_any (λ right. differ first right) rights ≡ false → list_any (λ right. differ left right) rights ≡ (not (is_empty rights) && differ left first)
none_differs first left [] h = refl
none_differs first left (right ∷ rights) h =
    let parts = or_parts (differ first right) (list_any (λ r. differ first r) rights) h in
    let same : first ≡ right = (bytes_eq-Decides first right).0 (not-false (bytes_eq first right) parts.0) in
    ap (λ r. differ left r || list_any (λ r'. differ left r') rights) (sym same)
    ∙ (ap (λ b. differ left first || b) (none_differs first left rights parts.1) ∙ or_again (differ left first) (not (is_empty rights)))

and_any : (b : Bool) (p : List ℕ → Bool) (xs : List (List ℕ)) → list_any (λ x. b && p x) xs ≡ (b && list_any p xs)
and_any true p xs = refl
and_any false p [] = refl
and_any false p (x ∷ xs) = and_any false p xs

-- where no right one differs from the first left one
pub differ_by_first : (first : List ℕ) (lefts rights : List (List ℕ)) → list_any (λ right. differ first right) rights ≡ false →
    (not (is_empty rights) && list_any (λ left. differ left first) lefts) ≡ list_any (λ left. list_any (λ right. differ left right) rights) lefts
differ_by_first first lefts rights h =
    sym (and_any (not (is_empty rights)) (λ left. differ left first) lefts) ∙ any_same _ _ (λ left. sym (none_differs first left rights h)) lefts

pub differ_none : (first : List ℕ) (lefts rights : List (List ℕ)) → list_any (λ right. differ first right) rights ≡ false → true ≡ eqb (length rights) 0 → false ≡ list_any (λ left. list_any (λ right. differ left right) rights) lefts
differ_none first lefts [] h e = differ_by_first first lefts [] h
differ_none first lefts (right ∷ rights) h e = absurd (omega (arith, eqb-true (length (right ∷ rights)) 0 (sym e)))

pub differ_some : (first : List ℕ) (lefts rights : List (List ℕ)) (r : Bool) → list_any (λ right. differ first right) rights ≡ false → false ≡ eqb (length rights) 0 → r ≡ list_any (λ left. differ left first) lefts →
    r ≡ list_any (λ left. list_any (λ right. differ left right) rights) lefts
differ_some first lefts [] r h e f = absurd (eqb-false 0 0 (sym e) refl)
differ_some first lefts (right ∷ rights) r h e f = f ∙ differ_by_first first lefts (right ∷ rights) h
