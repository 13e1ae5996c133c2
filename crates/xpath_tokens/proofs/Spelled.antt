-- The tokens of a text make it up, each written as its kind is.
use Rattle.std.proofs.Common.{◌≡◌, ◌<◌, ◌≤◌, ◌+◌, ◌⊎◌, ◌==◌, ◌&&◌, ◌||◌, ℕ, zero, suc, pred, Bool, true, false, not, cond, nat_lt, IsTrue, List, [], ◌∷◌, ◌++◌, length, take, drop, get_or, Option, Some, None, sym, refl, ap, ◌∙◌, subst, inl, inr, append_assoc, append-nil, length-append, codes, arith}
use Rattle.std.specs.List.{AllByRecursion, prefix_len, position_or_len}
use Rattle.std.specs.Str.{bytes_eq}
use Rattle.std.proofs.lemmas.Bool.Decides.{nat_tests}
use Rattle.std.proofs.lemmas.List.{drop_at, take_at}
use Rattle.std.proofs.lemmas.Slice.Eq.{bytes_eq-Decides}
use Rattle.std.proofs.lemmas.List.Sums.{passes_at_first}
use Rattle.xpath_tokens.specs.declared.tokens.Kind.{Kind}
use Rattle.xpath_tokens.specs.declared.tokens.Kind.TheVariants as kind
use Rattle.xpath_tokens.specs.declared.tokens.Token.{Token}
use Rattle.serna_kinds.specs.Blanks.{is_space}
use Rattle.serna_kinds.specs.Qualified.{is_digit, begins_name, continues_name}
use Rattle.xpath_tokens.specs.Tokens.{run, local_length, qualified, name_length, begins_any, literal, counted, pointed, number, variable, operator_named, operator_or_wrong, name_before, without_spaces, named, word, pair_at, single_at, single_or_wrong, pair_or_single, mark, begins_digit, begins_number, star, front, wrong, ends_operand, token_at, tokens_from, tokens_of}
use Rattle.xpath_tokens.specs.Spelling.{AreDigits, IsLocalName, IsName, IsSpelled, MakeUp}
use Rattle.xpath_tokens.proofs.Comparing.{less, equal_number as equal}
use Rattle.xpath_tokens.proofs.Cuts.{is_at}

-- the longest front that passes a test
record Split (q : ℕ → Bool) (text : List ℕ) : Type 0 where
  run_is : List ℕ
  rest : List ℕ
  whole : text ≡ run_is ++ rest
  size : length run_is ≡ prefix_len q text
  passes : AllByRecursion (λ b. q b ≡ true) run_is

split : (q : ℕ → Bool) (text : List ℕ) → Split q text
split q [] = record { run_is = []; rest = []; whole = refl; size = refl; passes = tt }
split q (b ∷ bs) = go (q b) refl (split q bs)
  where
    go : (v : Bool) → q b ≡ v → Split q bs → Split q (b ∷ bs)
    go true e s = record {
      run_is = b ∷ s.run_is;
      rest = s.rest;
      whole = ap (λ l. b ∷ l) s.whole;
      size = (let n = s.size in let sum : suc (length s.run_is) ≡ 1 + prefix_len q bs = omega arith in sum ∙ sym (ap (λ w. cond w (1 + prefix_len q bs) 0) e));
      passes = (e, s.passes);
    }
    go false e s = record { run_is = []; rest = b ∷ bs; whole = refl; size = sym (ap (λ w. cond w (1 + prefix_len q bs) 0) e); passes = tt }

not_not : (b : Bool) → not (not b) ≡ true → IsTrue b
not_not true e = refl
not_not false e = cc

is_false : (b : Bool) → not b ≡ true → b ≡ false
is_false true e = cc
is_false false e = refl

-- the same for a run
pub record Run (p : ℕ → Bool) (text : List ℕ) : Type 0 where
  pub run_is : List ℕ
  pub rest : List ℕ
  pub whole : text ≡ run_is ++ rest
  pub size : length run_is ≡ run p text
  pub behind : drop (run p text) text ≡ rest
  pub passes : AllByRecursion (λ b. IsTrue (p b)) run_is

all_true : (p : ℕ → Bool) (xs : List ℕ) → AllByRecursion (λ b. not (not (p b)) ≡ true) xs → AllByRecursion (λ b. IsTrue (p b)) xs
all_true p [] all = tt
all_true p (x ∷ xs) all = (not_not (p x) all.0, all_true p xs all.1)

pub run_of : (p : ℕ → Bool) (text : List ℕ) → Run p text
run_of p text =
    let s = split (λ b. not (not (p b))) text in
    record {
      run_is = s.run_is;
      rest = s.rest;
      whole = s.whole;
      size = s.size;
      behind = ap (drop (run p text)) s.whole ∙ drop_at s.run_is s.rest (run p text) s.size;
      passes = all_true p s.run_is s.passes;
    }

-- The token at the front of a text

pub record Front (text : List ℕ) (t : Kind × ℕ) : Type 0 where
  pub written : List ℕ
  pub rest : List ℕ
  pub whole : text ≡ written ++ rest
  pub size : length written ≡ t.1
  pub some : 1 ≤ length written
  pub spelled : IsSpelled t.0 written

front_wrong : (b : ℕ) (bs : List ℕ) → Front (b ∷ bs) (kind.Wrong, suc (length bs))
front_wrong b bs = record { written = b ∷ bs; rest = []; whole = sym (append-nil (b ∷ bs)); size = refl; some = omega arith; spelled = tt }

choice : (text : List ℕ) (v : Bool) (x y : Kind × ℕ) → (v ≡ true → Front text x) → (v ≡ false → Front text y) → Front text (cond v x y)
choice text true x y f g = f refl
choice text false x y f g = g refl

below : (a b : ℕ) → nat_lt a b ≡ true → a < b
below a b h = grind (arith, nat_tests)

at_most : (a b : ℕ) → nat_lt a b ≡ false → b ≤ a
at_most a b h = grind (arith, nat_tests)

both : (a b : Bool) → (a && b) ≡ true → (a ≡ true) × (b ≡ true)
both true b e = (refl, e)
both false b e = cc

either : (a b : Bool) → (a || b) ≡ true → (a ≡ true) ⊎ (b ≡ true)
either true b e = inl refl
either false b e = inr e

-- literals

none_is : (quote : ℕ) (xs : List ℕ) → AllByRecursion (λ b. not (b == quote) ≡ true) xs → AllByRecursion (λ b. (b == quote) ≡ false) xs
none_is quote [] all = tt
none_is quote (x ∷ xs) all = (is_false (x == quote) all.0, none_is quote xs all.1)

front_literal : (quote : ℕ) (rest : List ℕ) → (quote ≡ 34) ⊎ (quote ≡ 39) → Front (quote ∷ rest) (literal quote rest)
front_literal quote rest is =
    choice (quote ∷ rest) (nat_lt n (length rest)) (kind.Literal, n + 2) (kind.Wrong, suc (length rest)) (λ e. closed_so (below n (length rest) e) s.rest refl) (λ e. front_wrong quote rest)
  where
    n : ℕ
    n = position_or_len (λ c. c == quote) rest

    s : Split (λ b. not (b == quote)) rest
    s = split (λ b. not (b == quote)) rest

    closed_so : n < length rest → (tail : List ℕ) → s.rest ≡ tail → Front (quote ∷ rest) (kind.Literal, n + 2)
    closed_so lt [] e = let none : length rest ≡ length s.run_is = ap length (s.whole ∙ ap (λ l. s.run_is ++ l) e ∙ append-nil s.run_is) in let size = s.size in absurd (omega arith)
    closed_so lt (c ∷ cs) e =
        let whole : rest ≡ s.run_is ++ (c ∷ cs) = s.whole ∙ ap (λ l. s.run_is ++ l) e in
        let at : drop n rest ≡ c ∷ cs = ap (drop n) whole ∙ drop_at s.run_is (c ∷ cs) n s.size in
        let here = is_at rest n c cs at in
        let found : c ≡ quote = sym here.byte ∙ equal (get_or rest n 0) quote (passes_at_first (λ b. b == quote) rest 0 lt) in
        let size = s.size in
        let length_is = length-append s.run_is (quote ∷ []) in
        record {
          written = quote ∷ (s.run_is ++ quote ∷ []);
          rest = cs;
          whole = ap (λ l. quote ∷ l) (whole ∙ ap (λ x. s.run_is ++ (x ∷ cs)) found ∙ sym (append_assoc s.run_is (quote ∷ []) cs));
          size = omega arith;
          some = omega arith;
          spelled = record { quote = quote; text = s.run_is; quote_is = is; text_is = none_is quote s.run_is s.passes; written = refl };
        }

-- numbers

front_counted : (b : ℕ) (bs : List ℕ) (k : Kind) (digits size : ℕ) → (digits ≤ 15 → Front (b ∷ bs) (k, size)) → Front (b ∷ bs) (counted k digits size (b ∷ bs))
front_counted b bs k digits size f = choice (b ∷ bs) (nat_lt 15 digits) (wrong (b ∷ bs)) (k, size) (λ e. front_wrong b bs) (λ e. f (at_most 15 digits e))

-- digits before a point, and behind it
front_fraction : (b : ℕ) (bs : List ℕ) (xs cs : List ℕ) → b ∷ bs ≡ xs ++ (46 ∷ cs) → AreDigits xs → 1 ≤ length xs + run is_digit cs
    → Front (b ∷ bs) (counted kind.Fraction (length xs + run is_digit cs) (length xs + suc (run is_digit cs)) (b ∷ bs))
front_fraction b bs xs cs whole all some = front_counted b bs kind.Fraction (length xs + run is_digit cs) (length xs + suc (run is_digit cs)) go
  where
    more : Run is_digit cs
    more = run_of is_digit cs

    go : length xs + run is_digit cs ≤ 15 → Front (b ∷ bs) (kind.Fraction, length xs + suc (run is_digit cs))
    go few =
        let size = more.size in
        let sum = length-append xs (46 ∷ more.run_is) in
        record {
          written = xs ++ (46 ∷ more.run_is);
          rest = more.rest;
          whole = whole ∙ ap (λ l. xs ++ (46 ∷ l)) more.whole ∙ sym (append_assoc xs (46 ∷ more.run_is) more.rest);
          size = omega arith;
          some = omega arith;
          spelled = record { before = xs; after = more.run_is; before_are = all; after_are = more.passes; some = omega arith; few = omega arith; written = refl };
        }

front_digits : (b : ℕ) (bs : List ℕ) → is_digit b ≡ true → Front (b ∷ bs) (number (b ∷ bs))
front_digits b bs e = go s.rest refl
  where
    s : Run is_digit (b ∷ bs)
    s = run_of is_digit (b ∷ bs)

    n : ℕ
    n = run is_digit (b ∷ bs)

    some : 1 ≤ run is_digit (b ∷ bs)
    some = let first : 1 + run is_digit bs ≡ run is_digit (b ∷ bs) = sym (ap (λ v. cond (not (not v)) (1 + run is_digit bs) 0) e) in omega arith

    plain : Front (b ∷ bs) (counted kind.Number (run is_digit (b ∷ bs)) (run is_digit (b ∷ bs)) (b ∷ bs))
    plain = front_counted b bs kind.Number (run is_digit (b ∷ bs)) (run is_digit (b ∷ bs)) (λ few. (let size = s.size in let is_some = some in record {
      written = s.run_is;
      rest = s.rest;
      whole = s.whole;
      size = s.size;
      some = omega arith;
      spelled = (s.passes, omega arith);
    }))

    go : (tail : List ℕ) → s.rest ≡ tail → Front (b ∷ bs) (number (b ∷ bs))
    go tail f = subst (λ l. Front (b ∷ bs) (pointed (run is_digit (b ∷ bs)) l (b ∷ bs))) (sym (s.behind ∙ f)) (parts tail f)
      where
        parts : (t : List ℕ) → s.rest ≡ t → Front (b ∷ bs) (pointed (run is_digit (b ∷ bs)) t (b ∷ bs))
        parts [] g = plain
        parts (c ∷ cs) g =
            choice (b ∷ bs) (c == 46) (counted kind.Fraction (n + run is_digit cs) (n + suc (run is_digit cs)) (b ∷ bs)) (counted kind.Number n n (b ∷ bs))
            (λ h. (let is_some = some in let size = s.size in
            subst (λ m. Front (b ∷ bs) (counted kind.Fraction (m + run is_digit cs) (m + suc (run is_digit cs)) (b ∷ bs))) s.size
            (front_fraction b bs s.run_is cs (s.whole ∙ ap (λ l. s.run_is ++ l) (g ∙ ap (λ x. x ∷ cs) (equal c 46 h))) s.passes (omega arith))))
            (λ h. plain)

some_digits : (bs : List ℕ) → begins_digit bs ≡ true → 1 ≤ run is_digit bs
some_digits [] e = cc
some_digits (b ∷ bs) e = let first : 1 + run is_digit bs ≡ run is_digit (b ∷ bs) = sym (ap (λ v. cond (not (not v)) (1 + run is_digit bs) 0) e) in omega arith

front_point : (b : ℕ) (bs : List ℕ) → is_digit b ≡ false → (b == 46) ≡ true → begins_digit bs ≡ true → Front (b ∷ bs) (number (b ∷ bs))
front_point b bs none point some =
    let zero_run : run is_digit (b ∷ bs) ≡ 0 = ap (λ v. cond (not (not v)) (1 + run is_digit bs) 0) none in
    let few = some_digits bs some in
    subst (λ n. Front (b ∷ bs) (pointed n (drop n (b ∷ bs)) (b ∷ bs))) (sym zero_run)
    (subst (λ v. Front (b ∷ bs) (cond v (counted kind.Fraction (0 + run is_digit bs) (0 + suc (run is_digit bs)) (b ∷ bs)) (counted kind.Number 0 0 (b ∷ bs)))) (sym point)
    (front_fraction b bs [] bs (ap (λ x. x ∷ bs) (equal b 46 point)) tt (omega arith)))

front_number : (b : ℕ) (bs : List ℕ) → begins_number (b ∷ bs) ≡ true → Front (b ∷ bs) (number (b ∷ bs))
front_number b bs e = go (is_digit b) refl
  where
    go : (v : Bool) → is_digit b ≡ v → Front (b ∷ bs) (number (b ∷ bs))
    go true f = front_digits b bs f
    go false f = let parts = both (b == 46) (begins_digit bs) (sym (ap (λ v. v || ((b == 46) && begins_digit bs)) f) ∙ e) in front_point b bs f parts.0 parts.1

-- names

-- the local name at the front
record Local (text : List ℕ) : Type 0 where
  written : List ℕ
  rest : List ℕ
  whole : text ≡ written ++ rest
  size : length written ≡ local_length text
  behind : drop (local_length text) text ≡ rest
  is : IsLocalName written

local_of : (text : List ℕ) → 0 < local_length text → Local text
local_of [] some = absurd (omega arith)
local_of (b ∷ bs) some = go (begins_name b) refl
  where
    s : Run continues_name bs
    s = run_of continues_name bs

    go : (v : Bool) → begins_name b ≡ v → Local (b ∷ bs)
    go true e =
        let long : local_length (b ∷ bs) ≡ suc (run continues_name bs) = ap (λ v. cond v (suc (run continues_name bs)) 0) e in
        let size = s.size in
        record {
          written = b ∷ s.run_is;
          rest = s.rest;
          whole = ap (λ l. b ∷ l) s.whole;
          size = omega arith;
          behind = ap (λ n. drop n (b ∷ bs)) long ∙ s.behind;
          is = (e, s.passes);
        }
    go false e = let short : local_length (b ∷ bs) ≡ 0 = ap (λ v. cond v (suc (run continues_name bs)) 0) e in absurd (omega arith)

pub record Named (text : List ℕ) (n : ℕ) : Type 0 where
  pub written : List ℕ
  pub rest : List ℕ
  pub whole : text ≡ written ++ rest
  pub size : length written ≡ n
  pub some : 1 ≤ length written
  pub is : IsName written

pub local_some : (s : List ℕ) → IsLocalName s → 1 ≤ length s
local_some [] is = absurd is
local_some (b ∷ bs) is = omega arith

pub name_of : (text : List ℕ) → 0 < name_length text → Named text (name_length text)
name_of text some = go (nat_lt 0 (local_length text)) refl
  where
    go : (v : Bool) → nat_lt 0 (local_length text) ≡ v → Named text (name_length text)
    go false e = let none : name_length text ≡ 0 = ap (λ v. cond v (qualified (local_length text) (drop (local_length text) text)) 0) e in absurd (omega arith)
    go true e =
        subst (Named text) (sym (ap (λ v. cond v (qualified (local_length text) (drop (local_length text) text)) 0) e))
        (subst (λ l. Named text (qualified (local_length text) l)) (sym first.behind) (parts first.rest first.whole))
      where
        first : Local text
        first = local_of text (below 0 (local_length text) e)

        plain : (tail : List ℕ) → text ≡ first.written ++ tail → Named text (local_length text)
        plain tail w = record { written = first.written; rest = tail; whole = w; size = first.size; some = local_some first.written first.is; is = inl first.is }

        parts : (tail : List ℕ) → text ≡ first.written ++ tail → Named text (qualified (local_length text) tail)
        parts [] w = plain [] w
        parts (c ∷ cs) w = colon ((c == 58) && nat_lt 0 (local_length cs)) refl
          where
            colon : (v : Bool) → ((c == 58) && nat_lt 0 (local_length cs)) ≡ v → Named text (cond v (local_length text + suc (local_length cs)) (local_length text))
            colon false f = plain (c ∷ cs) w
            colon true f =
                let tests = both (c == 58) (nat_lt 0 (local_length cs)) f in
                let second = local_of cs (below 0 (local_length cs) tests.1) in
                let one = first.size in
                let two = second.size in
                let sum = length-append first.written (58 ∷ second.written) in
                record {
                  written = first.written ++ (58 ∷ second.written);
                  rest = second.rest;
                  whole = w ∙ ap (λ x. first.written ++ (x ∷ cs)) (equal c 58 tests.0) ∙ ap (λ l. first.written ++ (58 ∷ l)) second.whole ∙ sym (append_assoc first.written (58 ∷ second.written) second.rest);
                  size = omega arith;
                  some = omega arith;
                  is = inr (first.written, second.written, first.is, second.is, refl);
                }

front_variable : (b : ℕ) (bs : List ℕ) → b ≡ 36 → Front (b ∷ bs) (variable bs)
front_variable b bs is =
    choice (b ∷ bs) (nat_lt 0 (name_length bs)) (kind.Variable, suc (name_length bs)) (kind.Wrong, suc (length bs))
    (λ e. (let w = name_of bs (below 0 (name_length bs) e) in let size = w.size in record {
      written = b ∷ w.written;
      rest = w.rest;
      whole = ap (λ l. b ∷ l) w.whole;
      size = omega arith;
      some = omega arith;
      spelled = (w.written, w.is, ap (λ x. x ∷ w.written) is);
    }))
    (λ e. front_wrong b bs)

-- words

name_some : (text : List ℕ) → 0 < local_length text → 0 < name_length text
name_some text some =
    subst (λ n. 0 < n) (sym (ap (λ v. cond v (qualified (local_length text) (drop (local_length text) text)) 0) (less 0 (local_length text) some))) (go (drop (local_length text) text))
  where
    go : (l : List ℕ) → 0 < qualified (local_length text) l
    go [] = some
    go (c ∷ cs) = colon ((c == 58) && nat_lt 0 (local_length cs))
      where
        colon : (v : Bool) → 0 < cond v (local_length text + suc (local_length cs)) (local_length text)
        colon true = omega arith
        colon false = some

called : (w word : List ℕ) (k0 k : Kind) (x : Option Kind) → (w ≡ word → IsSpelled k0 w) → (x ≡ Some k → IsSpelled k w) → cond (bytes_eq w word) (Some k0) x ≡ Some k → IsSpelled k w
called w word k0 k x first other e = go (bytes_eq w word) refl e
  where
    go : (v : Bool) → bytes_eq w word ≡ v → cond v (Some k0) x ≡ Some k → IsSpelled k w
    go true f g = let same : k0 ≡ k = cc in subst (λ i. IsSpelled i w) same (first ((bytes_eq-Decides w word).0 f))
    go false f g = other g

operator_spelled : (w : List ℕ) (k : Kind) → operator_named w ≡ Some k → IsSpelled k w
operator_spelled w k =
    called w (codes "and") kind.And k _ (λ e. e) (called w (codes "or") kind.Or k _ (λ e. e) (called w (codes "mod") kind.Mod k _ (λ e. e) (λ e. cc)))

name_before_spelled : (w text : List ℕ) → IsName w → IsSpelled (name_before text) w
name_before_spelled w [] is = is
name_before_spelled w (b ∷ []) is = go (b == 40)
  where
    go : (v : Bool) → IsSpelled (cond v kind.Callee kind.Name) w
    go true = is
    go false = is
name_before_spelled w (b ∷ c ∷ rest) is = go (b == 40) ((b == 58) && (c == 58))
  where
    go : (v u : Bool) → IsSpelled (cond v kind.Callee (cond u kind.AxisName kind.Name)) w
    go true u = is
    go false true = is
    go false false = is

front_named : (behind : Bool) (b : ℕ) (bs : List ℕ) → 0 < name_length (b ∷ bs) → Front (b ∷ bs) (named behind (name_length (b ∷ bs)) (b ∷ bs))
front_named false b bs some =
    let w = name_of (b ∷ bs) some in
    record { written = w.written; rest = w.rest; whole = w.whole; size = w.size; some = w.some; spelled = name_before_spelled w.written (without_spaces (drop (name_length (b ∷ bs)) (b ∷ bs))) w.is }
front_named true b bs some = go (operator_named (take (name_length (b ∷ bs)) (b ∷ bs))) refl
  where
    w : Named (b ∷ bs) (name_length (b ∷ bs))
    w = name_of (b ∷ bs) some

    front_of : take (name_length (b ∷ bs)) (b ∷ bs) ≡ w.written
    front_of = ap (take (name_length (b ∷ bs))) w.whole ∙ take_at w.written w.rest (name_length (b ∷ bs)) w.size

    go : (o : Option Kind) → operator_named (take (name_length (b ∷ bs)) (b ∷ bs)) ≡ o → Front (b ∷ bs) (operator_or_wrong o (name_length (b ∷ bs)) (b ∷ bs))
    go None e = front_wrong b bs
    go (Some k) e = record {
      written = w.written;
      rest = w.rest;
      whole = w.whole;
      size = w.size;
      some = w.some;
      spelled = operator_spelled w.written k (ap operator_named (sym front_of) ∙ e);
    }

front_word : (behind : Bool) (b : ℕ) (bs : List ℕ) → begins_name b ≡ true → Front (b ∷ bs) (word behind (b ∷ bs))
front_word behind b bs e =
    choice (b ∷ bs) (begins_any (drop (local_length (b ∷ bs)) (b ∷ bs))) (kind.Within, local_length (b ∷ bs) + 2) (named behind (name_length (b ∷ bs)) (b ∷ bs))
    (λ any. wildcard first.rest (sym (ap begins_any first.behind) ∙ any) first.whole) (λ none. front_named behind b bs (name_some (b ∷ bs) long))
  where
    long : 0 < local_length (b ∷ bs)
    long = let size : local_length (b ∷ bs) ≡ suc (run continues_name bs) = ap (λ v. cond v (suc (run continues_name bs)) 0) e in omega arith

    first : Local (b ∷ bs)
    first = local_of (b ∷ bs) long

    wildcard : (tail : List ℕ) → begins_any tail ≡ true → b ∷ bs ≡ first.written ++ tail → Front (b ∷ bs) (kind.Within, local_length (b ∷ bs) + 2)
    wildcard [] any w = cc
    wildcard (c ∷ []) any w = cc
    wildcard (c ∷ d ∷ rest) any w =
        let tests = both (c == 58) (d == 42) any in
        let size = first.size in
        let sum = length-append first.written (codes ":*") in
        record {
          written = first.written ++ codes ":*";
          rest = rest;
          whole = w ∙ ap (λ x. first.written ++ (x ∷ d ∷ rest)) (equal c 58 tests.0) ∙ ap (λ x. first.written ++ (58 ∷ x ∷ rest)) (equal d 42 tests.1) ∙ sym (append_assoc first.written (codes ":*") rest);
          size = omega arith;
          some = omega arith;
          spelled = (first.written, first.is, refl);
        }

-- marks

single_found : (b n : ℕ) (k0 k : Kind) (x : Option Kind) → IsSpelled k0 (n ∷ []) → (x ≡ Some k → IsSpelled k (b ∷ [])) → cond (b == n) (Some k0) x ≡ Some k → IsSpelled k (b ∷ [])
single_found b n k0 k x is other e = go (b == n) refl e
  where
    go : (v : Bool) → (b == n) ≡ v → cond v (Some k0) x ≡ Some k → IsSpelled k (b ∷ [])
    go true f g = let same : k0 ≡ k = cc in subst (λ i. IsSpelled i (b ∷ [])) same (subst (λ c. IsSpelled k0 (c ∷ [])) (sym (equal b n f)) is)
    go false f g = other g

single_spelled : (b : ℕ) (k : Kind) → single_at b ≡ Some k → IsSpelled k (b ∷ [])
single_spelled b k =
    (single_found b 40 kind.Open k _ refl
    (single_found b 41 kind.Close k _ refl
    (single_found b 91 kind.OpenBracket k _ refl
    (single_found b 93 kind.CloseBracket k _ refl
    (single_found b 46 kind.Dot k _ refl
    (single_found b 64 kind.At k _ refl
    (single_found b 44 kind.Comma k _ refl
    (single_found b 47 kind.Slash k _ refl
    (single_found b 124 kind.Bar k _ refl
    (single_found b 43 kind.Plus k _ refl
    (single_found b 45 kind.Minus k _ refl
    (single_found b 61 kind.Equal k _ refl
    (single_found b 60 kind.Less k _ refl
    (single_found b 62 kind.Greater k _ refl
    (λ e. cc)))))))))))))))

pair_found : (a b m n : ℕ) (k0 k : Kind) (x : Option Kind) → IsSpelled k0 (m ∷ n ∷ []) → (x ≡ Some k → IsSpelled k (a ∷ b ∷ [])) → cond ((a == m) && (b == n)) (Some k0) x ≡ Some k → IsSpelled k (a ∷ b ∷ [])
pair_found a b m n k0 k x is other e = go ((a == m) && (b == n)) refl e
  where
    go : (v : Bool) → ((a == m) && (b == n)) ≡ v → cond v (Some k0) x ≡ Some k → IsSpelled k (a ∷ b ∷ [])
    go true f g =
        let same : k0 ≡ k = cc in
        let tests = both (a == m) (b == n) f in
        subst (λ i. IsSpelled i (a ∷ b ∷ [])) same (subst (λ c. IsSpelled k0 (c ∷ b ∷ [])) (sym (equal a m tests.0)) (subst (λ c. IsSpelled k0 (m ∷ c ∷ [])) (sym (equal b n tests.1)) is))
    go false f g = other g

pair_spelled : (a b : ℕ) (k : Kind) → pair_at a b ≡ Some k → IsSpelled k (a ∷ b ∷ [])
pair_spelled a b k =
    (pair_found a b 58 58 kind.Colons k _ refl
    (pair_found a b 46 46 kind.DotDot k _ refl
    (pair_found a b 47 47 kind.DoubleSlash k _ refl
    (pair_found a b 33 61 kind.NotEqual k _ refl
    (pair_found a b 60 61 kind.LessOrEqual k _ refl
    (pair_found a b 62 61 kind.GreaterOrEqual k _ refl
    (λ e. cc)))))))

front_single : (b : ℕ) (bs : List ℕ) → Front (b ∷ bs) (single_or_wrong (single_at b) (b ∷ bs))
front_single b bs = go (single_at b) refl
  where
    go : (o : Option Kind) → single_at b ≡ o → Front (b ∷ bs) (single_or_wrong o (b ∷ bs))
    go None e = front_wrong b bs
    go (Some k) e = record { written = b ∷ []; rest = bs; whole = refl; size = refl; some = omega arith; spelled = single_spelled b k e }

front_mark : (b : ℕ) (bs : List ℕ) → Front (b ∷ bs) (mark (b ∷ bs))
front_mark b [] = front_single b []
front_mark b (c ∷ cs) = go (pair_at b c) refl
  where
    go : (o : Option Kind) → pair_at b c ≡ o → Front (b ∷ c ∷ cs) (pair_or_single o b (b ∷ c ∷ cs))
    go None e = front_single b (c ∷ cs)
    go (Some k) e = record { written = b ∷ c ∷ []; rest = cs; whole = refl; size = refl; some = omega arith; spelled = pair_spelled b c k e }

star_spelled : (behind : Bool) → IsSpelled (star behind) (codes "*")
star_spelled true = refl
star_spelled false = refl

quote_is : (b : ℕ) → ((b == 34) || (b == 39)) ≡ true → (b ≡ 34) ⊎ (b ≡ 39)
quote_is b e = elim (either (b == 34) (b == 39) e) [ inl f ↦ inl (equal b 34 f) | inr f ↦ inr (equal b 39 f) ]

pub front_spelled : (behind : Bool) (b : ℕ) (bs : List ℕ) → Front (b ∷ bs) (front behind (b ∷ bs))
front_spelled behind b bs =
    choice (b ∷ bs) ((b == 34) || (b == 39)) _ _ (λ e. front_literal b bs (quote_is b e))
    (λ _. choice (b ∷ bs) (begins_number (b ∷ bs)) _ _ (λ e. front_number b bs e)
    (λ _. choice (b ∷ bs) (b == 36) _ _ (λ e. front_variable b bs (equal b 36 e))
    (λ _. choice (b ∷ bs) (begins_name b) _ _ (λ e. front_word behind b bs e)
    (λ _. choice (b ∷ bs) (b == 42) _ _
    (λ e. record { written = b ∷ []; rest = bs; whole = refl; size = refl; some = omega arith; spelled = subst (λ c. IsSpelled (star behind) (c ∷ [])) (sym (equal b 42 e)) (star_spelled behind) })
    (λ _. front_mark b bs)))))

-- The tokens of a text

-- white space before what is made up
after_space : (at b : ℕ) (ts : List Token) (rest : List ℕ) → is_space b ≡ true → MakeUp (suc at) ts rest → MakeUp at ts (b ∷ rest)
after_space at b [] rest e up = (e, up)
after_space at b (t ∷ ts) rest e (gap, written, more, spaces, whole, spelled, some, start, end, up) =
    let next : suc at + length gap ≡ at + suc (length gap) = omega arith in
    (b ∷ gap, written, more, (e, spaces), ap (λ l. b ∷ l) whole, spelled, some, start ∙ next, end, up)

made_up : (text : List ℕ) (skip : ℕ) (behind : Bool) (at : ℕ) → MakeUp (at + skip) (tokens_from skip behind at text) (drop skip text)
unfolding tokens_from
made_up [] zero behind at = tt
made_up [] (suc skip) behind at = tt
made_up (b ∷ rest) (suc skip) behind at =
    let next : suc at + skip ≡ at + suc skip = omega arith in subst (λ n. MakeUp n (tokens_from skip behind (suc at) rest) (drop skip rest)) next (made_up rest skip behind (suc at))
made_up (b ∷ rest) zero behind at =
    subst (λ n. MakeUp n (tokens_from zero behind at (b ∷ rest)) (b ∷ rest)) here
    (go (is_space b) refl (made_up rest zero behind (suc at)) (made_up rest (pred (front behind (b ∷ rest)).1) (ends_operand (front behind (b ∷ rest)).0) (suc at)))
  where
    here : at ≡ at + 0
    here = omega arith

    t : Kind × ℕ
    t = front behind (b ∷ rest)

    later : suc at + 0 ≡ suc at
    later = omega arith

    token : (x : Kind × ℕ) (ts : List Token) → Front (b ∷ rest) x → MakeUp (suc at + pred x.1) ts (drop (pred x.1) rest) → MakeUp at (token_at at x ∷ ts) (b ∷ rest)
    token (k, zero) ts f up = let some = f.some in let size = f.size in absurd (omega arith)
    token (k, suc n) ts f up =
        let size = f.size in
        let back : drop n rest ≡ f.rest = ap (drop (suc n)) f.whole ∙ drop_at f.written f.rest (suc n) f.size in
        let place : suc at + n ≡ at + suc n = omega arith in
        let first : at ≡ at + 0 = omega arith in
        let last : at + suc n ≡ at + length f.written = omega arith in
        ([], f.written, f.rest, tt, f.whole, f.spelled, f.some, first, last, subst (λ l. MakeUp (at + suc n) ts l) back (subst (λ p. MakeUp p ts (drop n rest)) place up))

    go : (v : Bool) → is_space b ≡ v → MakeUp (suc at + 0) (tokens_from zero behind (suc at) rest) rest
        → MakeUp (suc at + pred t.1) (tokens_from (pred t.1) (ends_operand t.0) (suc at) rest) (drop (pred t.1) rest)
        → MakeUp at (cond v (tokens_from zero behind (suc at) rest) (token_at at t ∷ tokens_from (pred t.1) (ends_operand t.0) (suc at) rest)) (b ∷ rest)
    go true e space after = after_space at b (tokens_from zero behind (suc at) rest) rest e (subst (λ n. MakeUp n (tokens_from zero behind (suc at) rest) rest) later space)
    go false e space after = token t (tokens_from (pred t.1) (ends_operand t.0) (suc at) rest) (front_spelled behind b rest) after

pub make_up : (text : List ℕ) → MakeUp 0 (tokens_of text) text
make_up text = made_up text 0 false 0
