-- The token at the front of a text is as long as any that is spelled there, and Wrong only where none can stand.
use Rattle.std.proofs.Common.{◌≡◌, ◌<◌, ◌≤◌, ◌+◌, ◌-◌, ◌⊎◌, ◌==◌, ◌&&◌, ℕ, zero, suc, pred, Bool, true, false, not, cond, nat_lt, IsTrue, List, [], ◌∷◌, ◌++◌, length, take, drop, Option, Some, None, sym, refl, ap, ◌∙◌, subst, inl, inr, append_assoc, length-append, codes, arith}
use Rattle.std.specs.List.{AllByRecursion, position_or_len}
use Rattle.std.proofs.Math.Seq.{drop-append_seam, take-append_seam}
use Rattle.serna_kinds.specs.Blanks.{is_space}
use Rattle.serna_kinds.specs.Qualified.{is_digit, continues_name}
use Rattle.xpath_tokens.specs.declared.tokens.Kind.{Kind}
use Rattle.xpath_tokens.specs.declared.tokens.Kind.TheVariants as kind
use Rattle.xpath_tokens.specs.declared.tokens.Token.{Token}
use Rattle.xpath_tokens.specs.Tokens.{run, local_length, qualified, name_length, begins_any, begins_digit, literal, counted, pointed, number, operator_named, operator_or_wrong, name_before, without_spaces, named, word, pair_at, single_at, single_or_wrong, pair_or_single, mark, star, front, wrong, ends_operand, token_at, tokens_from, tokens_of}
use Rattle.xpath_tokens.specs.Spelling.{AreDigits, IsLocalName, IsName, IsLiteral, IsFraction, IsSpelled, IsLongest, IsNumeral, may_stand, CanStand, AreWrongWhereNoneStands}
use Rattle.xpath_tokens.proofs.Comparing.{less, not_less, same_number, equal_number}
use Rattle.xpath_tokens.proofs.Cuts.{is_at}
use Rattle.xpath_tokens.proofs.Spelled.{Run, run_of, name_of, local_some, front_spelled}
use Rattle.xpath_tokens.proofs.WordFronts.{run_stops, local_stops, some_local, colon_any, within_word, name_first, digit_first, before_by}

-- Runs, names and numbers are as long as what they begin with

run_reaches : (p : ℕ → Bool) (xs l : List ℕ) → AllByRecursion (λ b. IsTrue (p b)) xs → length xs ≤ run p (xs ++ l)
run_reaches p [] l all = omega arith
run_reaches p (x ∷ xs) l all =
    let here : run p (x ∷ (xs ++ l)) ≡ 1 + run p (xs ++ l) = ap (λ v. cond (not (not v)) (1 + run p (xs ++ l)) 0) all.0 in
    let rest = run_reaches p xs l all.1 in
    omega arith

local_reaches : (s l : List ℕ) → IsLocalName s → length s ≤ local_length (s ++ l)
local_reaches [] l is = absurd is
local_reaches (b ∷ bs) l is =
    let here : local_length (b ∷ (bs ++ l)) ≡ suc (run continues_name (bs ++ l)) = ap (λ v. cond v (suc (run continues_name (bs ++ l))) 0) is.0 in
    let rest = run_reaches continues_name bs l is.1 in
    omega arith

qualified_more : (n : ℕ) (l : List ℕ) → n ≤ qualified n l
qualified_more n [] = omega arith
qualified_more n (c ∷ rest) = go ((c == 58) && nat_lt 0 (local_length rest))
  where
    go : (v : Bool) → n ≤ cond v (n + suc (local_length rest)) n
    go true = omega arith
    go false = omega arith

at_least_local : (text : List ℕ) → 0 < local_length text → local_length text ≤ name_length text
at_least_local text some =
    subst (λ v. local_length text ≤ cond v (qualified (local_length text) (drop (local_length text) text)) 0) (sym (less 0 (local_length text) some)) (qualified_more (local_length text) (drop (local_length text) text))

local_in_name : (s l : List ℕ) → IsLocalName s → length s ≤ name_length (s ++ l)
local_in_name s l is = let one = local_reaches s l is in let some = local_some s is in let two = at_least_local (s ++ l) (omega arith) in omega arith

-- the name that begins with a prefix and a local name
prefixed_reaches : (p s l : List ℕ) → IsLocalName p → IsLocalName s → length p + suc (length s) ≤ name_length (p ++ (58 ∷ (s ++ l)))
prefixed_reaches p s l p_is s_is =
    let rest = s ++ l in
    let one = local_reaches s l s_is in
    let some = local_some s s_is in
    let size : name_length (p ++ (58 ∷ rest)) ≡ length p + suc (local_length rest) =
    ap (λ k. cond (nat_lt 0 k) (qualified k (drop k (p ++ (58 ∷ rest)))) 0) (local_stops p 58 rest p_is refl)
    ∙ ap (λ v. cond v (qualified (length p) (drop (length p) (p ++ (58 ∷ rest)))) 0) (some_local p p_is)
    ∙ ap (qualified (length p)) (drop-append_seam p (58 ∷ rest))
    ∙ ap (λ v. cond v (length p + suc (local_length rest)) (length p)) (less 0 (local_length rest) (omega arith)) in
    omega arith

prefixed_size : (p s : List ℕ) → length (p ++ (58 ∷ s)) ≡ length p + suc (length s)
prefixed_size p s = length-append p (58 ∷ s)

name_reaches : (s l : List ℕ) → IsName s → length s ≤ name_length (s ++ l)
name_reaches s l (inl is) = local_in_name s l is
name_reaches s l (inr (p, local, p_is, local_is, whole)) =
    let size : length s ≡ length p + suc (length local) = ap (λ (x : List ℕ). length x) whole ∙ prefixed_size p local in
    let text : s ++ l ≡ p ++ (58 ∷ (local ++ l)) = ap (λ x. x ++ l) whole ∙ append_assoc p (58 ∷ local) l in
    let long = prefixed_reaches p local l p_is local_is in
    let same : name_length (s ++ l) ≡ name_length (p ++ (58 ∷ (local ++ l))) = ap name_length text in
    omega arith

counted_reaches : (k : Kind) (digits size m : ℕ) (text : List ℕ) → m ≤ size → m ≤ length text → m ≤ (counted k digits size text).1
counted_reaches k digits size m text a b = go (nat_lt 15 digits)
  where
    go : (v : Bool) → m ≤ (let t : Kind × ℕ = cond v (wrong text) (k, size) in t).1
    go true = b
    go false = a

pointed_reaches : (n m : ℕ) (l text : List ℕ) → m ≤ n → m ≤ length text → m ≤ (pointed n l text).1
pointed_reaches n m [] text a b = counted_reaches kind.Number n n m text a b
pointed_reaches n m (c ∷ cs) text a b = go (c == 46)
  where
    go : (v : Bool) → m ≤ (cond v (counted kind.Fraction (n + run is_digit cs) (n + suc (run is_digit cs)) text) (counted kind.Number n n text)).1
    go true = counted_reaches kind.Fraction (n + run is_digit cs) (n + suc (run is_digit cs)) m text (omega arith) b
    go false = counted_reaches kind.Number n n m text a b

-- a number with a point at the front
fraction_number : (before l : List ℕ) → AreDigits before
    → number (before ++ (46 ∷ l)) ≡ counted kind.Fraction (length before + run is_digit l) (length before + suc (run is_digit l)) (before ++ (46 ∷ l))
fraction_number before l all =
    let text = before ++ (46 ∷ l) in
    ap (λ n. pointed n (drop n text) text) (run_stops is_digit before 46 l all refl) ∙ ap (λ t. pointed (length before) t text) (drop-append_seam before (46 ∷ l))

fraction_first : (behind : Bool) (before after rest : List ℕ) → AreDigits before → AreDigits after → 1 ≤ length before + length after → front behind (before ++ (46 ∷ (after ++ rest))) ≡ number (before ++ (46 ∷ (after ++ rest)))
fraction_first behind [] [] rest all more some = absurd (omega arith)
fraction_first behind [] (d ∷ ds) rest all more some = ap (λ v. cond v (number (46 ∷ (d ∷ (ds ++ rest)))) (mark (46 ∷ (d ∷ (ds ++ rest))))) more.0
fraction_first behind (b ∷ bs) after rest all more some = digit_first behind b (bs ++ (46 ∷ (after ++ rest))) all.0

-- a literal at the front
quote_stops : (q : ℕ) (t l : List ℕ) → AllByRecursion (λ b. (b == q) ≡ false) t → position_or_len (λ b. b == q) (t ++ q ∷ l) ≡ length t
quote_stops q [] l all = ap (λ v. cond (not v) (1 + position_or_len (λ b. b == q) l) 0) (same_number q)
quote_stops q (b ∷ bs) l all =
    let more : 1 + length bs ≡ suc (length bs) = omega arith in
    ap (λ v. cond (not v) (1 + position_or_len (λ c. c == q) (bs ++ q ∷ l)) 0) all.0 ∙ ap (λ n. 1 + n) (quote_stops q bs l all.1) ∙ more

literal_closes : (q : ℕ) (t l : List ℕ) → AllByRecursion (λ b. (b == q) ≡ false) t → literal q (t ++ q ∷ l) ≡ (kind.Literal, length t + 2)
literal_closes q t l all =
    let rest = t ++ q ∷ l in
    let size : length t < length rest = omega (arith, length-append t (q ∷ l)) in
    ap (λ n. cond (nat_lt n (length rest)) (kind.Literal, n + 2) (kind.Wrong, suc (length rest))) (quote_stops q t l all)
    ∙ ap (λ v. cond v (kind.Literal, length t + 2) (kind.Wrong, suc (length rest))) (less (length t) (length rest) size)

quote_first : (behind : Bool) (q : ℕ) (l : List ℕ) → (q ≡ 34) ⊎ (q ≡ 39) → front behind (q ∷ l) ≡ literal q l
quote_first behind q l (inl e) = ap (λ c. front behind (c ∷ l)) e ∙ sym (ap (λ c. literal c l) e)
quote_first behind q l (inr e) = ap (λ c. front behind (c ∷ l)) e ∙ sym (ap (λ c. literal c l) e)

literal_first : (behind : Bool) (s rest : List ℕ) (is : IsLiteral s) → front behind (s ++ rest) ≡ (kind.Literal, length s)
literal_first behind s rest is =
    let q = is.quote in
    let t = is.text in
    let text : s ++ rest ≡ q ∷ (t ++ q ∷ rest) = ap (λ x. x ++ rest) is.written ∙ ap (λ l. q ∷ l) (append_assoc t (q ∷ []) rest) in
    let size : length t + 2 ≡ length (q ∷ (t ++ q ∷ [])) = omega (arith, length-append t (q ∷ [])) in
    ap (front behind) text ∙ quote_first behind q (t ++ q ∷ rest) is.quote_is ∙ literal_closes q t rest is.text_is ∙ ap (λ n. (kind.Literal, n)) (size ∙ sym (ap (λ (x : List ℕ). length x) is.written))

-- a name or `p:*` at the front
name_word : (behind : Bool) (s rest : List ℕ) → IsName s → front behind (s ++ rest) ≡ word behind (s ++ rest)
name_word behind s rest (inl is) = name_first behind s rest is
name_word behind s rest (inr (p, local, p_is, local_is, whole)) =
    let text : s ++ rest ≡ p ++ ((58 ∷ local) ++ rest) = ap (λ x. x ++ rest) whole ∙ append_assoc p (58 ∷ local) rest in
    ap (front behind) text ∙ name_first behind p ((58 ∷ local) ++ rest) p_is ∙ sym (ap (word behind) text)

within_first : (behind : Bool) (p rest : List ℕ) → IsLocalName p → front behind ((p ++ codes ":*") ++ rest) ≡ (kind.Within, length p + 2)
within_first behind p rest is = ap (front behind) (append_assoc p (codes ":*") rest) ∙ name_first behind p (58 ∷ 42 ∷ rest) is ∙ within_word behind p rest is

named_reaches : (behind : Bool) (n m : ℕ) (text : List ℕ) → m ≤ n → m ≤ length text → m ≤ (named behind n text).1
named_reaches false n m text a b = a
named_reaches true n m text a b = go (operator_named (take n text))
  where
    go : (o : Option Kind) → m ≤ (operator_or_wrong o n text).1
    go None = b
    go (Some k) = a

local_word : (behind : Bool) (s l : List ℕ) → IsLocalName s → length s ≤ (word behind (s ++ l)).1
local_word behind s l is = go (begins_any (drop (local_length (s ++ l)) (s ++ l)))
  where
    go : (v : Bool) → length s ≤ (let t : Kind × ℕ = cond v (kind.Within, local_length (s ++ l) + 2) (named behind (name_length (s ++ l)) (s ++ l)) in t).1
    go true = let one = local_reaches s l is in omega arith
    go false = named_reaches behind (name_length (s ++ l)) (length s) (s ++ l) (local_in_name s l is) (omega (arith, length-append s l))

-- behind a prefix and a local name there is no `:*`
prefixed_named : (behind : Bool) (p s l : List ℕ) → IsLocalName p → IsLocalName s → word behind (p ++ (58 ∷ (s ++ l))) ≡ named behind (name_length (p ++ (58 ∷ (s ++ l)))) (p ++ (58 ∷ (s ++ l)))
prefixed_named behind p s l p_is s_is =
    let text = p ++ (58 ∷ (s ++ l)) in
    let other = named behind (name_length text) text in
    ap (λ k. cond (begins_any (drop k text)) (kind.Within, k + 2) other) (local_stops p 58 (s ++ l) p_is refl)
    ∙ ap (λ t. cond (begins_any t) (kind.Within, length p + 2) other) (drop-append_seam p (58 ∷ (s ++ l)))
    ∙ ap (λ v. cond v (kind.Within, length p + 2) other) (colon_any s l s_is)

name_in_word : (behind : Bool) (s l : List ℕ) → IsName s → length s ≤ (word behind (s ++ l)).1
name_in_word behind s l (inl is) = local_word behind s l is
name_in_word behind s l (inr (p, local, p_is, local_is, whole)) =
    let size : length s ≡ length p + suc (length local) = ap (λ (x : List ℕ). length x) whole ∙ prefixed_size p local in
    let text : s ++ l ≡ p ++ (58 ∷ (local ++ l)) = ap (λ x. x ++ l) whole ∙ append_assoc p (58 ∷ local) l in
    let long = prefixed_reaches p local l p_is local_is in
    let fits : length s ≤ length (p ++ (58 ∷ (local ++ l))) = omega (arith, length-append p (58 ∷ (local ++ l)), length-append local l) in
    subst (λ (x : List ℕ). length s ≤ (word behind x).1) (sym text)
    (subst (λ (t : Kind × ℕ). length s ≤ t.1) (sym (prefixed_named behind p local l p_is local_is))
    (named_reaches behind (name_length (p ++ (58 ∷ (local ++ l)))) (length s) (p ++ (58 ∷ (local ++ l))) (omega arith) fits))

-- The token at the front is as long as any

some_front : (behind : Bool) (s rest : List ℕ) → 1 ≤ length s → 1 ≤ (front behind (s ++ rest)).1
some_front behind [] rest some = absurd (omega arith)
some_front behind (b ∷ bs) rest some = let f = front_spelled behind b (bs ++ rest) in let size = f.size in let long = f.some in omega arith

abbrev Reaches : Bool → List ℕ → List ℕ → Type 0
Reaches behind s rest = length s ≤ (front behind (s ++ rest)).1

written_so : (behind : Bool) (s w rest : List ℕ) → s ≡ w → Reaches behind w rest → Reaches behind s rest
written_so behind s w rest e is = subst (λ (x : List ℕ). length x ≤ (front behind (x ++ rest)).1) (sym e) is

one_byte : (behind : Bool) (s w rest : List ℕ) → s ≡ w → length w ≡ 1 → 1 ≤ length s → Reaches behind s rest
one_byte behind s w rest e one some = let size : length s ≡ 1 = ap (λ (x : List ℕ). length x) e ∙ one in let first = some_front behind s rest some in omega arith

named_front : (behind : Bool) (s rest : List ℕ) → IsName s → Reaches behind s rest
named_front behind s rest is = subst (λ (t : Kind × ℕ). length s ≤ t.1) (sym (name_word behind s rest is)) (name_in_word behind s rest is)

digits_front : (behind : Bool) (s rest : List ℕ) → AreDigits s → 1 ≤ length s → Reaches behind s rest
digits_front behind [] rest all some = absurd (omega arith)
digits_front behind (d ∷ ds) rest all some =
    let text = d ∷ (ds ++ rest) in
    subst (λ (t : Kind × ℕ). suc (length ds) ≤ t.1) (sym (digit_first behind d (ds ++ rest) all.0))
    (pointed_reaches (run is_digit text) (suc (length ds)) (drop (run is_digit text) text) text (run_reaches is_digit (d ∷ ds) rest all) (omega (arith, length-append ds rest)))

fraction_front : (behind : Bool) (s rest : List ℕ) → IsFraction s → Reaches behind s rest
fraction_front behind s rest is =
    let l = is.after ++ rest in
    let text : s ++ rest ≡ is.before ++ (46 ∷ l) = ap (λ x. x ++ rest) is.written ∙ append_assoc is.before (46 ∷ is.after) rest in
    let size : length s ≡ length is.before + suc (length is.after) = ap (λ (x : List ℕ). length x) is.written ∙ length-append is.before (46 ∷ is.after) in
    let long = run_reaches is_digit is.after rest is.after_are in
    let fits : length s ≤ length (is.before ++ (46 ∷ l)) = omega (arith, length-append is.before (46 ∷ l), length-append is.after rest) in
    subst (λ (x : List ℕ). length s ≤ (front behind x).1) (sym text)
    (subst (λ (t : Kind × ℕ). length s ≤ t.1) (sym (fraction_first behind is.before is.after rest is.before_are is.after_are is.some ∙ fraction_number is.before l is.before_are))
    (counted_reaches kind.Fraction (length is.before + run is_digit l) (length is.before + suc (run is_digit l)) (length s) (is.before ++ (46 ∷ l)) (omega arith) fits))

name_bytes : (s : List ℕ) → IsName s → 1 ≤ length s
name_bytes s (inl is) = local_some s is
name_bytes s (inr (p, local, p_is, local_is, whole)) = let size : length s ≡ length p + suc (length local) = ap (λ (x : List ℕ). length x) whole ∙ prefixed_size p local in omega arith

variable_front : (behind : Bool) (name rest : List ℕ) → IsName name → Reaches behind (36 ∷ name) rest
variable_front behind name rest is =
    let long = name_reaches name rest is in
    let some = name_bytes name is in
    subst (λ v. suc (length name) ≤ (let t : Kind × ℕ = cond v (kind.Variable, suc (name_length (name ++ rest))) (kind.Wrong, suc (length (name ++ rest))) in t).1) (sym (less 0 (name_length (name ++ rest)) (omega arith))) (omega arith)

two_bytes : (behind : Bool) (a b : ℕ) (k : Kind) (rest : List ℕ) → front behind (a ∷ b ∷ rest) ≡ (k, 2) → Reaches behind (a ∷ b ∷ []) rest
two_bytes behind a b k rest e = subst (λ (t : Kind × ℕ). 2 ≤ t.1) (sym e) (omega arith)

within_front : (behind : Bool) (p rest : List ℕ) → IsLocalName p → Reaches behind (p ++ codes ":*") rest
within_front behind p rest is = subst (λ (t : Kind × ℕ). length (p ++ codes ":*") ≤ t.1) (sym (within_first behind p rest is)) (omega (arith, length-append p (codes ":*")))

literal_front : (behind : Bool) (s rest : List ℕ) → IsLiteral s → Reaches behind s rest
literal_front behind s rest is = subst (λ (t : Kind × ℕ). length s ≤ t.1) (sym (literal_first behind s rest is)) (omega arith)

spelled_reaches : (behind : Bool) (k : Kind) (s rest : List ℕ) → 1 ≤ length s → IsSpelled k s → (k ≡ kind.Wrong) ⊎ Reaches behind s rest
spelled_reaches behind kind.Open s rest some is = inr (one_byte behind s (codes "(") rest is refl some)
spelled_reaches behind kind.Close s rest some is = inr (one_byte behind s (codes ")") rest is refl some)
spelled_reaches behind kind.OpenBracket s rest some is = inr (one_byte behind s (codes "[") rest is refl some)
spelled_reaches behind kind.CloseBracket s rest some is = inr (one_byte behind s (codes "]") rest is refl some)
spelled_reaches behind kind.Dot s rest some is = inr (one_byte behind s (codes ".") rest is refl some)
spelled_reaches behind kind.DotDot s rest some is = inr (written_so behind s (codes "..") rest is (two_bytes behind 46 46 kind.DotDot rest refl))
spelled_reaches behind kind.At s rest some is = inr (one_byte behind s (codes "@") rest is refl some)
spelled_reaches behind kind.Comma s rest some is = inr (one_byte behind s (codes ",") rest is refl some)
spelled_reaches behind kind.Colons s rest some is = inr (written_so behind s (codes "::") rest is (two_bytes behind 58 58 kind.Colons rest refl))
spelled_reaches behind kind.Slash s rest some is = inr (one_byte behind s (codes "/") rest is refl some)
spelled_reaches behind kind.DoubleSlash s rest some is = inr (written_so behind s (codes "//") rest is (two_bytes behind 47 47 kind.DoubleSlash rest refl))
spelled_reaches behind kind.Bar s rest some is = inr (one_byte behind s (codes "|") rest is refl some)
spelled_reaches behind kind.Plus s rest some is = inr (one_byte behind s (codes "+") rest is refl some)
spelled_reaches behind kind.Minus s rest some is = inr (one_byte behind s (codes "-") rest is refl some)
spelled_reaches behind kind.Equal s rest some is = inr (one_byte behind s (codes "=") rest is refl some)
spelled_reaches behind kind.NotEqual s rest some is = inr (written_so behind s (codes "!=") rest is (two_bytes behind 33 61 kind.NotEqual rest refl))
spelled_reaches behind kind.Less s rest some is = inr (one_byte behind s (codes "<") rest is refl some)
spelled_reaches behind kind.LessOrEqual s rest some is = inr (written_so behind s (codes "<=") rest is (two_bytes behind 60 61 kind.LessOrEqual rest refl))
spelled_reaches behind kind.Greater s rest some is = inr (one_byte behind s (codes ">") rest is refl some)
spelled_reaches behind kind.GreaterOrEqual s rest some is = inr (written_so behind s (codes ">=") rest is (two_bytes behind 62 61 kind.GreaterOrEqual rest refl))
spelled_reaches behind kind.Multiply s rest some is = inr (one_byte behind s (codes "*") rest is refl some)
spelled_reaches behind kind.And s rest some is = inr (written_so behind s (codes "and") rest is (named_front behind (codes "and") rest (inl (refl, (refl, (refl, tt))))))
spelled_reaches behind kind.Or s rest some is = inr (written_so behind s (codes "or") rest is (named_front behind (codes "or") rest (inl (refl, (refl, tt)))))
spelled_reaches behind kind.Mod s rest some is = inr (written_so behind s (codes "mod") rest is (named_front behind (codes "mod") rest (inl (refl, (refl, (refl, tt))))))
spelled_reaches behind kind.Star s rest some is = inr (one_byte behind s (codes "*") rest is refl some)
spelled_reaches behind kind.Within s rest some (p, p_is, e) =
    inr (written_so behind s (p ++ codes ":*") rest e (within_front behind p rest p_is))
spelled_reaches behind kind.Name s rest some is = inr (named_front behind s rest is)
spelled_reaches behind kind.Callee s rest some is = inr (named_front behind s rest is)
spelled_reaches behind kind.AxisName s rest some is = inr (named_front behind s rest is)
spelled_reaches behind kind.Literal s rest some is = inr (literal_front behind s rest is)
spelled_reaches behind kind.Number s rest some is = inr (digits_front behind s rest is.0 some)
spelled_reaches behind kind.Fraction s rest some is = inr (fraction_front behind s rest is)
spelled_reaches behind kind.Variable s rest some (name, name_is, e) = inr (written_so behind s (36 ∷ name) rest e (variable_front behind name rest name_is))
spelled_reaches behind kind.Wrong s rest some is = inl refl

pub front_longest : (behind : Bool) (text : List ℕ) → IsLongest text (front behind text).1
front_longest behind text k [] rest whole is = inr (omega arith)
front_longest behind text k (b ∷ bs) rest whole is =
    elim (spelled_reaches behind k (b ∷ bs) rest (omega arith) is) [
      | inl wrong_is ↦ inl wrong_is
      | inr long ↦ inr (subst (λ (x : List ℕ). suc (length bs) ≤ (front behind x).1) (sym whole) long)
    ]

-- Where a token can stand, the one at the front is not Wrong

abbrev is_wrong : Kind → Bool
is_wrong kind.Wrong = true
is_wrong _ = false

abbrev IsRight : Kind × ℕ → Type 0
IsRight t = is_wrong t.0 ≡ false

clash : true ≡ false → ⊥
clash h = cc

pick : (v : Bool) (k0 k : Kind) (x : Option Kind) → is_wrong k0 ≡ false → (x ≡ Some k → is_wrong k ≡ false) → cond v (Some k0) x ≡ Some k → is_wrong k ≡ false
pick true k0 k x right other e = let same : k0 ≡ k = cc in subst (λ i. is_wrong i ≡ false) same right
pick false k0 k x right other e = other e

no_kind : (k : Kind) → ◌≡◌ {A = Option Kind} None (Some k) → is_wrong k ≡ false
no_kind k e = cc

pair_right : (a b : ℕ) (k : Kind) → pair_at a b ≡ Some k → is_wrong k ≡ false
pair_right a b k =
    (pick _ kind.Colons k _ refl (pick _ kind.DotDot k _ refl (pick _ kind.DoubleSlash k _ refl (pick _ kind.NotEqual k _ refl (pick _ kind.LessOrEqual k _ refl (pick _ kind.GreaterOrEqual k _ refl (no_kind k)))))))

single_right : (b : ℕ) (k : Kind) (rest : List ℕ) → single_at b ≡ Some k → is_wrong k ≡ false → IsRight (mark (b ∷ rest))
single_right b k [] e right = ap (λ (o : Option Kind). is_wrong (single_or_wrong o (b ∷ [])).0) e ∙ right
single_right b k (c ∷ cs) e right = go (pair_at b c) refl
  where
    go : (o : Option Kind) → pair_at b c ≡ o → IsRight (pair_or_single o b (b ∷ c ∷ cs))
    go None f = ap (λ (o : Option Kind). is_wrong (single_or_wrong o (b ∷ c ∷ cs)).0) e ∙ right
    go (Some m) f = pair_right b c m f

right_so : (behind : Bool) (s w rest : List ℕ) → s ≡ w → IsRight (front behind (w ++ rest)) → IsRight (front behind (s ++ rest))
right_so behind s w rest e is = subst (λ (x : List ℕ). IsRight (front behind (x ++ rest))) (sym e) is

counted_right : (k : Kind) (digits size : ℕ) (text : List ℕ) → digits ≤ 15 → is_wrong k ≡ false → IsRight (counted k digits size text)
counted_right k digits size text few right = ap (λ v. is_wrong (let t : Kind × ℕ = cond v (wrong text) (k, size) in t).0) (not_less 15 digits few) ∙ right

-- what the text of a token that can stand begins with
abbrev IsWholeNumber : List ℕ → ℕ → Type 0
IsWholeNumber text n = (longer more : List ℕ) → text ≡ longer ++ more → IsNumeral longer → length longer ≤ n

dot_right : (behind : Bool) (rest : List ℕ) → IsWholeNumber (46 ∷ rest) 1 → IsRight (front behind (46 ∷ rest))
dot_right behind rest only = go (begins_digit rest) refl
  where
    digit : (l : List ℕ) → rest ≡ l → begins_digit l ≡ true → ⊥
    digit [] e f = clash (sym f)
    digit (d ∷ ds) e f =
        let le : 2 ≤ 1 = only (46 ∷ d ∷ []) ds (ap (λ x. 46 ∷ x) e) (record { before = []; after = d ∷ []; before_are = tt; after_are = (f, tt); some = omega arith; written = inr refl }) in
        omega arith

    go : (v : Bool) → begins_digit rest ≡ v → IsRight (cond v (number (46 ∷ rest)) (mark (46 ∷ rest)))
    go true e = absurd (digit rest refl e)
    go false e = single_right 46 kind.Dot rest refl refl

plain_right : (text : List ℕ) (n : ℕ) → IsWholeNumber text n → n ≤ 15 → n ≤ run is_digit text → 1 ≤ n → IsRight (number text)
plain_right text n only few long some = subst (λ l. IsRight (pointed (run is_digit text) l text)) (sym r.behind) (go r.rest r.whole)
  where
    r : Run is_digit text
    r = run_of is_digit text

    size : run is_digit text ≤ n
    size = let same = r.size in let le = only r.run_is r.rest r.whole (record { before = r.run_is; after = []; before_are = r.passes; after_are = tt; some = omega arith; written = inl refl }) in omega arith

    go : (l : List ℕ) → text ≡ r.run_is ++ l → IsRight (pointed (run is_digit text) l text)
    go [] e = let le = size in counted_right kind.Number (run is_digit text) (run is_digit text) text (omega arith) refl
    go (c ∷ cs) e = point (c == 46) refl
      where
        point : (v : Bool) → (c == 46) ≡ v → IsRight (cond v (counted kind.Fraction (run is_digit text + run is_digit cs) (run is_digit text + suc (run is_digit cs)) text) (counted kind.Number (run is_digit text) (run is_digit text) text))
        point false f = let le = size in counted_right kind.Number (run is_digit text) (run is_digit text) text (omega arith) refl
        point true f =
            let same = r.size in
            let longer = r.run_is ++ 46 ∷ [] in
            let whole : text ≡ longer ++ cs = e ∙ ap (λ x. r.run_is ++ (x ∷ cs)) (equal_number c 46 f) ∙ sym (append_assoc r.run_is (46 ∷ []) cs) in
            let le = only longer cs whole (record { before = r.run_is; after = []; before_are = r.passes; after_are = tt; some = omega arith; written = inr refl }) in
            absurd (omega (arith, length-append r.run_is (46 ∷ [])))

digits_right : (behind : Bool) (s rest : List ℕ) → AreDigits s → 1 ≤ length s → length s ≤ 15 → IsWholeNumber (s ++ rest) (length s) → IsRight (front behind (s ++ rest))
digits_right behind [] rest all some few only = absurd (omega arith)
digits_right behind (d ∷ ds) rest all some few only =
    ap (λ (t : Kind × ℕ). is_wrong t.0) (digit_first behind d (ds ++ rest) all.0) ∙ plain_right (d ∷ (ds ++ rest)) (suc (length ds)) only few (run_reaches is_digit (d ∷ ds) rest all) some

fraction_right : (behind : Bool) (s rest : List ℕ) → IsFraction s → IsWholeNumber (s ++ rest) (length s) → IsRight (front behind (s ++ rest))
fraction_right behind s rest is only =
    let l = is.after ++ rest in
    let text : s ++ rest ≡ is.before ++ (46 ∷ l) = ap (λ x. x ++ rest) is.written ∙ append_assoc is.before (46 ∷ is.after) rest in
    let size : length s ≡ length is.before + suc (length is.after) = ap (λ (x : List ℕ). length x) is.written ∙ length-append is.before (46 ∷ is.after) in
    let more = run_of is_digit l in
    let more_size = more.size in
    let longer = is.before ++ (46 ∷ more.run_is) in
    let long_size = length-append is.before (46 ∷ more.run_is) in
    let reach = run_reaches is_digit is.after rest is.after_are in
    let some = is.some in
    let few = is.few in
    let whole : s ++ rest ≡ longer ++ more.rest = text ∙ ap (λ x. is.before ++ (46 ∷ x)) more.whole ∙ sym (append_assoc is.before (46 ∷ more.run_is) more.rest) in
    let le = only longer more.rest whole (record { before = is.before; after = more.run_is; before_are = is.before_are; after_are = more.passes; some = omega arith; written = inr refl }) in
    ap (λ (t : Kind × ℕ). is_wrong t.0) (ap (front behind) text ∙ fraction_first behind is.before is.after rest is.before_are is.after_are is.some ∙ fraction_number is.before l is.before_are)
    ∙ counted_right kind.Fraction (length is.before + run is_digit l) (length is.before + suc (run is_digit l)) (is.before ++ (46 ∷ l)) (omega arith) refl

-- an operator's name behind an operand
operator_right : (s rest : List ℕ) (k : Kind) → IsLocalName s → operator_named s ≡ Some k → is_wrong k ≡ false → IsLongest (s ++ rest) (length s) → IsRight (front true (s ++ rest))
operator_right s rest k is named_so right longest = ap (λ (t : Kind × ℕ). is_wrong t.0) (name_first true s rest is) ∙ go (begins_any (drop (local_length (s ++ rest)) (s ++ rest)))
  where
    no_name : kind.Name ≡ kind.Wrong → ⊥
    no_name e = clash (sym (ap is_wrong e))

    size : name_length (s ++ rest) ≡ length s
    size =
        let long = local_in_name s rest is in
        let some = local_some s is in
        let w = name_of (s ++ rest) (omega arith) in
        let w_size = w.size in
        elim (longest kind.Name w.written w.rest w.whole w.is) [ inl e ↦ absurd (no_name e) | inr le ↦ omega arith ]

    go : (v : Bool) → IsRight (cond v (kind.Within, local_length (s ++ rest) + 2) (named true (name_length (s ++ rest)) (s ++ rest)))
    go true = refl
    go false =
        ap (λ m. is_wrong (operator_or_wrong (operator_named (take m (s ++ rest))) m (s ++ rest)).0) size
        ∙ ap (λ x. is_wrong (operator_or_wrong (operator_named x) (length s) (s ++ rest)).0) (take-append_seam s rest)
        ∙ ap (λ (o : Option Kind). is_wrong (operator_or_wrong o (length s) (s ++ rest)).0) named_so
        ∙ right

before_right : (l : List ℕ) → is_wrong (name_before l) ≡ false
before_right = before_by (λ k. is_wrong k ≡ false) refl refl refl

-- a name where an operand is wanted
name_right : (behind : Bool) (s rest : List ℕ) → IsName s → not behind ≡ true → IsRight (front behind (s ++ rest))
name_right true s rest is e = cc
name_right false s rest is e = ap (λ (t : Kind × ℕ). is_wrong t.0) (name_word false s rest is) ∙ go (begins_any (drop (local_length (s ++ rest)) (s ++ rest)))
  where
    go : (v : Bool) → IsRight (cond v (kind.Within, local_length (s ++ rest) + 2) (named false (name_length (s ++ rest)) (s ++ rest)))
    go true = refl
    go false = before_right (without_spaces (drop (name_length (s ++ rest)) (s ++ rest)))

variable_right : (behind : Bool) (name rest : List ℕ) → IsName name → IsRight (front behind (36 ∷ (name ++ rest)))
variable_right behind name rest is =
    let long = name_reaches name rest is in
    let some = name_bytes name is in
    ap (λ v. is_wrong (let t : Kind × ℕ = cond v (kind.Variable, suc (name_length (name ++ rest))) (kind.Wrong, suc (length (name ++ rest))) in t).0) (less 0 (name_length (name ++ rest)) (omega arith))

operator_so : (behind : Bool) (s w rest : List ℕ) (k : Kind) → behind ≡ true → s ≡ w → IsLocalName w → operator_named w ≡ Some k → is_wrong k ≡ false → IsLongest (s ++ rest) (length s) → IsRight (front behind (s ++ rest))
operator_so behind s w rest k flag e is named_so right longest =
    subst (λ v. IsRight (front v (s ++ rest))) (sym flag)
    (right_so true s w rest e (operator_right w rest k is named_so right (subst (λ (x : List ℕ). IsLongest (x ++ rest) (length x)) e longest)))

star_right : (behind : Bool) → is_wrong (star behind) ≡ false
star_right true = refl
star_right false = refl

stands_right : (behind : Bool) (k : Kind) (s rest : List ℕ) → 1 ≤ length s → IsSpelled k s → IsTrue (may_stand behind k) → IsLongest (s ++ rest) (length s) → IsWholeNumber (s ++ rest) (length s) → IsRight (front behind (s ++ rest))
stands_right behind kind.Open s rest some is may longest only = right_so behind s (codes "(") rest is (single_right 40 kind.Open rest refl refl)
stands_right behind kind.Close s rest some is may longest only = right_so behind s (codes ")") rest is (single_right 41 kind.Close rest refl refl)
stands_right behind kind.OpenBracket s rest some is may longest only = right_so behind s (codes "[") rest is (single_right 91 kind.OpenBracket rest refl refl)
stands_right behind kind.CloseBracket s rest some is may longest only = right_so behind s (codes "]") rest is (single_right 93 kind.CloseBracket rest refl refl)
stands_right behind kind.Dot s rest some is may longest only =
    right_so behind s (codes ".") rest is (dot_right behind rest (subst (λ (x : List ℕ). IsWholeNumber (x ++ rest) (length x)) is only))
stands_right behind kind.DotDot s rest some is may longest only = right_so behind s (codes "..") rest is refl
stands_right behind kind.At s rest some is may longest only = right_so behind s (codes "@") rest is (single_right 64 kind.At rest refl refl)
stands_right behind kind.Comma s rest some is may longest only = right_so behind s (codes ",") rest is (single_right 44 kind.Comma rest refl refl)
stands_right behind kind.Colons s rest some is may longest only = right_so behind s (codes "::") rest is refl
stands_right behind kind.Slash s rest some is may longest only = right_so behind s (codes "/") rest is (single_right 47 kind.Slash rest refl refl)
stands_right behind kind.DoubleSlash s rest some is may longest only = right_so behind s (codes "//") rest is refl
stands_right behind kind.Bar s rest some is may longest only = right_so behind s (codes "|") rest is (single_right 124 kind.Bar rest refl refl)
stands_right behind kind.Plus s rest some is may longest only = right_so behind s (codes "+") rest is (single_right 43 kind.Plus rest refl refl)
stands_right behind kind.Minus s rest some is may longest only = right_so behind s (codes "-") rest is (single_right 45 kind.Minus rest refl refl)
stands_right behind kind.Equal s rest some is may longest only = right_so behind s (codes "=") rest is (single_right 61 kind.Equal rest refl refl)
stands_right behind kind.NotEqual s rest some is may longest only = right_so behind s (codes "!=") rest is refl
stands_right behind kind.Less s rest some is may longest only = right_so behind s (codes "<") rest is (single_right 60 kind.Less rest refl refl)
stands_right behind kind.LessOrEqual s rest some is may longest only = right_so behind s (codes "<=") rest is refl
stands_right behind kind.Greater s rest some is may longest only = right_so behind s (codes ">") rest is (single_right 62 kind.Greater rest refl refl)
stands_right behind kind.GreaterOrEqual s rest some is may longest only = right_so behind s (codes ">=") rest is refl
stands_right behind kind.Multiply s rest some is may longest only = right_so behind s (codes "*") rest is (star_right behind)
stands_right behind kind.And s rest some is may longest only = operator_so behind s (codes "and") rest kind.And may is (refl, (refl, (refl, tt))) refl refl longest
stands_right behind kind.Or s rest some is may longest only = operator_so behind s (codes "or") rest kind.Or may is (refl, (refl, tt)) refl refl longest
stands_right behind kind.Mod s rest some is may longest only = operator_so behind s (codes "mod") rest kind.Mod may is (refl, (refl, (refl, tt))) refl refl longest
stands_right behind kind.Star s rest some is may longest only = right_so behind s (codes "*") rest is (star_right behind)
stands_right behind kind.Within s rest some (p, p_is, e) may longest only = right_so behind s (p ++ codes ":*") rest e (ap (λ (t : Kind × ℕ). is_wrong t.0) (within_first behind p rest p_is))
stands_right behind kind.Name s rest some is may longest only = name_right behind s rest is may
stands_right behind kind.Callee s rest some is may longest only = name_right behind s rest is may
stands_right behind kind.AxisName s rest some is may longest only = name_right behind s rest is may
stands_right behind kind.Literal s rest some is may longest only = ap (λ (t : Kind × ℕ). is_wrong t.0) (literal_first behind s rest is)
stands_right behind kind.Number s rest some is may longest only = digits_right behind s rest is.0 some is.1 only
stands_right behind kind.Fraction s rest some is may longest only = fraction_right behind s rest is only
stands_right behind kind.Variable s rest some (name, name_is, e) may longest only = right_so behind s (36 ∷ name) rest e (variable_right behind name rest name_is)
stands_right behind kind.Wrong s rest some is may longest only = cc

front_in_need : (behind : Bool) (text : List ℕ) → (front behind text).0 ≡ kind.Wrong → CanStand behind text → ⊥
front_in_need behind text e can =
    let whole = can.whole in
    let right : IsRight (front behind (can.written ++ can.rest)) =
    stands_right behind can.is can.written can.rest can.some can.spelled can.stands (subst (λ (x : List ℕ). IsLongest x (length can.written)) whole can.longest) (subst (λ (x : List ℕ). IsWholeNumber x (length can.written)) whole can.whole_number) in
    clash (sym (ap (λ (x : List ℕ). is_wrong (front behind x).0) (sym whole) ∙ ap is_wrong e) ∙ right)

-- The tokens of a text

next_drop : (text : List ℕ) (at b : ℕ) (rest : List ℕ) → drop at text ≡ b ∷ rest → drop (suc at) text ≡ rest
next_drop text at b rest e =
    let one : at + 1 ≡ suc at = omega arith in
    ap (λ n. drop n text) (sym one) ∙ (is_at text at b rest e).behind

abbrev AreLongest : List ℕ → List Token → Type 0
AreLongest text = AllByRecursion (λ (t : Token). IsLongest (drop t.start text) (t.end - t.start))

longest_from : (text l : List ℕ) (skip : ℕ) (behind : Bool) (at : ℕ) → drop at text ≡ l → AreLongest text (tokens_from skip behind at l)
unfolding tokens_from
longest_from text [] zero behind at e = tt
longest_from text [] (suc skip) behind at e = tt
longest_from text (b ∷ rest) (suc skip) behind at e = longest_from text rest skip behind (suc at) (next_drop text at b rest e)
longest_from text (b ∷ rest) zero behind at e =
    go (is_space b) (longest_from text rest zero behind (suc at) (next_drop text at b rest e)) (longest_from text rest (pred (front behind (b ∷ rest)).1) (ends_operand (front behind (b ∷ rest)).0) (suc at) (next_drop text at b rest e))
  where
    t : Kind × ℕ
    t = front behind (b ∷ rest)

    size : (n : ℕ) → (at + n) - at ≡ n
    size n = omega arith

    here : IsLongest (drop at text) ((at + t.1) - at)
    here = subst (λ (x : List ℕ). IsLongest x ((at + t.1) - at)) (sym e) (subst (IsLongest (b ∷ rest)) (sym (size t.1)) (front_longest behind (b ∷ rest)))

    go : (v : Bool) → AreLongest text (tokens_from zero behind (suc at) rest) → AreLongest text (tokens_from (pred t.1) (ends_operand t.0) (suc at) rest)
        → AreLongest text (cond v (tokens_from zero behind (suc at) rest) (token_at at t ∷ tokens_from (pred t.1) (ends_operand t.0) (suc at) rest))
    go true space token = space
    go false space token = (here, token)

pub all_longest : (text : List ℕ) → AreLongest text (tokens_of text)
all_longest text = longest_from text text zero false 0 refl

need_from : (text l : List ℕ) (skip : ℕ) (behind : Bool) (at : ℕ) → drop at text ≡ l → AreWrongWhereNoneStands text behind (tokens_from skip behind at l)
unfolding tokens_from
need_from text [] zero behind at e = tt
need_from text [] (suc skip) behind at e = tt
need_from text (b ∷ rest) (suc skip) behind at e = need_from text rest skip behind (suc at) (next_drop text at b rest e)
need_from text (b ∷ rest) zero behind at e =
    go (is_space b) (need_from text rest zero behind (suc at) (next_drop text at b rest e)) (need_from text rest (pred (front behind (b ∷ rest)).1) (ends_operand (front behind (b ∷ rest)).0) (suc at) (next_drop text at b rest e))
  where
    t : Kind × ℕ
    t = front behind (b ∷ rest)

    here : t.0 ≡ kind.Wrong → CanStand behind (drop at text) → ⊥
    here is can = front_in_need behind (b ∷ rest) is (subst (CanStand behind) e can)

    go : (v : Bool) → AreWrongWhereNoneStands text behind (tokens_from zero behind (suc at) rest) → AreWrongWhereNoneStands text (ends_operand t.0) (tokens_from (pred t.1) (ends_operand t.0) (suc at) rest)
        → AreWrongWhereNoneStands text behind (cond v (tokens_from zero behind (suc at) rest) (token_at at t ∷ tokens_from (pred t.1) (ends_operand t.0) (suc at) rest))
    go true space token = space
    go false space token = (here, token)

pub all_in_need : (text : List ℕ) → AreWrongWhereNoneStands text false (tokens_of text)
all_in_need text = need_from text text zero false 0 refl
