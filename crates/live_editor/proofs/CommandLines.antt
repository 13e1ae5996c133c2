-- How a command line is cut into its parts, and its numbers read.
use Rattle.std.proofs.Common.{◌≡◌, ◌≢◌, ◌⊎◌, ℕ, suc, ◌+◌, ◌-◌, ◌^◌, ◌<◌, ◌≤◌, ◌==◌, ◌&&◌, nat_le, nat_lt, Bool, true, false, cond, List, [], ◌∷◌, ◌++◌, length, take, drop, position, Option, Some, None, Bor, refl, sym, ap, ◌∙◌, inl, inr, arith, if◌then◌else◌}
use Rattle.std.specs.List.{onto_first, list_all, position_or_len}
use Rattle.std.specs.Option.{option_map, MatchOption}
use Rattle.std.proofs.lemmas.Bool.{false≢true, eqb-true, eq-eqb, ltb-true, ltb-false, and_right, cond-true, cond-false}
use Rattle.std.proofs.lemmas.List.{take_rest}
use Rattle.std.proofs.lemmas.List.Recursion.{is_position_or_len}
use Rattle.std.proofs.Math.Nat.{pow-le-pow_right}
use Rattle.serna_kinds.specs.Qualified.{is_digit}
use Rattle.tree_lines.specs.Texts.{has_escapes, meant}
use Rattle.plain_editor.specs.Plain.{is_plain}
use Rattle.plain_editor.specs.Commands.{Command, NotBuilt, Typing, behind_front, parts_of, read_number, at_place, at_parts, typing}

-- what follows a front

behind_front-append : (front rest : List ℕ) → behind_front front (front ++ rest) ≡ Some rest
behind_front-append [] rest = refl
behind_front-append (c ∷ front) rest = cond-true (c == c) _ _ (eq-eqb c c refl) ∙ behind_front-append front rest

cut_off : (b : Bool) (o : Option (List ℕ)) → (b ≡ true → o ≡ None) → (if b then o else None) ≡ None
cut_off true o h = h refl
cut_off false o h = refl

behind_front-none : (front line : List ℕ) → ((rest : List ℕ) → line ≢ front ++ rest) → behind_front front line ≡ None
behind_front-none [] line other = absurd (other line refl)
behind_front-none (c ∷ front) [] other = refl
behind_front-none (c ∷ front) (d ∷ line) other =
    cut_off (c == d) (behind_front front line) (λ same. behind_front-none front line (λ rest e. other rest (let first : c ≡ d = eqb-true c d same in cc)))

pub behind_front-from : (front line : List ℕ) (r : Option (Bor (List ℕ))) → MatchOption r ((rest : List ℕ) → line ≢ front ++ rest) (λ x. line ≡ front ++ x.now) → option_map (λ (x : Bor (List ℕ)). x.now) r ≡ behind_front front line
behind_front-from front line None other = sym (behind_front-none front line other)
behind_front-from front line (Some x) e = sym (ap (behind_front front) e ∙ behind_front-append front x.now)

-- the place of the first space, or the length
abbrev space_at : List ℕ → ℕ
space_at [] = 0
space_at (c ∷ cs) = if c == 32 then 0 else suc (space_at cs)

space_at-position : (xs : List ℕ) → space_at xs ≡ position_or_len (λ b. b == 32) xs
space_at-position xs = is_position_or_len space_at (λ b. b == 32) refl (λ c cs. ap (λ (n : ℕ). cond (c == 32) 0 n) (let e : suc (space_at cs) ≡ 1 + space_at cs = omega arith in e)) xs

-- the parts, cut at a place, or one where that is behind the end
record IsCutAt (xs : List ℕ) (parts : List (List ℕ)) (place : ℕ) : Type 0 where
  pub cut : place < length xs → parts ≡ take place xs ∷ parts_of (drop (suc place) xs)
  pub whole : length xs ≤ place → parts ≡ xs ∷ []

cut_further : (b : Bool) (c : ℕ) (cs : List ℕ) → IsCutAt cs (parts_of cs) (space_at cs) → IsCutAt (c ∷ cs) (if b then [] ∷ parts_of cs else onto_first c (parts_of cs)) (if b then 0 else suc (space_at cs))
cut_further true c cs h = record { cut = λ _. refl; whole = λ few. absurd (omega arith) }
cut_further false c cs h = record {
  cut = λ more. ap (onto_first c) (h.cut (omega arith));
  whole = λ few. ap (onto_first c) (h.whole (omega arith));
}

cut_at_space : (xs : List ℕ) → IsCutAt xs (parts_of xs) (space_at xs)
cut_at_space [] = record { cut = λ more. absurd (omega arith); whole = λ _. refl }
cut_at_space (c ∷ cs) = cut_further (c == 32) c cs (cut_at_space cs)

-- what `position` says of the place of the first space

some_place : (b : Bool) (k i : ℕ) → (if b then Some k else None) ≡ Some i → (b ≡ true) × (k ≡ i)
some_place true k i e = (refl, cc)
some_place false k i e = absurd (cc)

no_place : (b : Bool) (k : ℕ) → (if b then Some k else None) ≡ None → b ≡ false
no_place true k e = absurd (cc)
no_place false k e = refl

pub parts-cut : (xs : List ℕ) (i : ℕ) → position (λ b. b == 32) xs ≡ Some i → parts_of xs ≡ take i xs ∷ parts_of (take (length xs - (i + 1)) (drop (i + 1) xs))
parts-cut xs i e =
    let place : ℕ = position_or_len (λ b. b == 32) xs in
    let found : (nat_lt place (length xs) ≡ true) × (place ≡ i) = some_place (nat_lt place (length xs)) place i e in
    let here : space_at xs ≡ i = space_at-position xs ∙ found.1 in
    let inside : place < length xs = ltb-true place (length xs) found.0 in
    let next : suc i ≡ i + 1 = omega arith in
    (cut_at_space xs).cut (omega (arith, here, found.1, inside))
    ∙ ap (λ (n : ℕ). take n xs ∷ parts_of (drop (suc n) xs)) here
    ∙ ap (λ (rest : List ℕ). take i xs ∷ parts_of rest) (ap (λ (n : ℕ). drop n xs) next ∙ sym (take_rest xs (i + 1)))

pub parts-whole : (xs : List ℕ) → position (λ b. b == 32) xs ≡ None → parts_of xs ≡ xs ∷ []
parts-whole xs e =
    let place : ℕ = position_or_len (λ b. b == 32) xs in
    let behind : length xs ≤ place = ltb-false place (length xs) (no_place (nat_lt place (length xs)) place e) in
    (cut_at_space xs).whole (omega (arith, space_at-position xs, behind))

-- a text of one part, or one with a space

record HasMore (xs : List ℕ) (parts : List (List ℕ)) : Type 0 where
  pub first : List ℕ
  pub second : List ℕ
  pub others : List (List ℕ)
  pub parts_are : parts ≡ first ∷ second ∷ others
  pub no_number : list_all is_digit xs ≡ false

part_further : (b : Bool) (c : ℕ) (cs : List ℕ) → (c == 32) ≡ b → (parts_of cs ≡ cs ∷ []) ⊎ HasMore cs (parts_of cs) → ((if b then [] ∷ parts_of cs else onto_first c (parts_of cs)) ≡ (c ∷ cs) ∷ []) ⊎ HasMore (c ∷ cs) (if b then [] ∷ parts_of cs else onto_first c (parts_of cs))
part_further true c cs space (inl one) = inr (record { first = []; second = cs; others = []; parts_are = ap (λ (x : List (List ℕ)). [] ∷ x) one; no_number = ap (λ (d : ℕ). is_digit d && list_all is_digit cs) (eqb-true c 32 space) })
part_further true c cs space (inr more) = inr (record { first = []; second = more.first; others = more.second ∷ more.others; parts_are = ap (λ (x : List (List ℕ)). [] ∷ x) more.parts_are; no_number = and_right (is_digit c) (list_all is_digit cs) more.no_number })
part_further false c cs other (inl one) = inl (ap (onto_first c) one)
part_further false c cs other (inr more) = inr (record { first = c ∷ more.first; second = more.second; others = more.others; parts_are = ap (onto_first c) more.parts_are; no_number = and_right (is_digit c) (list_all is_digit cs) more.no_number })

one_or_more : (xs : List ℕ) → (parts_of xs ≡ xs ∷ []) ⊎ HasMore xs (parts_of xs)
one_or_more [] = inl refl
one_or_more (c ∷ cs) = part_further (c == 32) c cs refl (one_or_more cs)

-- a text with something other than a digit is no number
no_number : (digits : List ℕ) → list_all is_digit digits ≡ false → read_number digits ≡ None
no_number digits e = cond-false _ _ _ (and_right (nat_le 1 (length digits) && nat_le (length digits) 9) (list_all is_digit digits) e)

pub at_place-none : (page line : Option ℕ) → at_place page line None ≡ NotBuilt
at_place-none None line = refl
at_place-none (Some page) None = refl
at_place-none (Some page) (Some line) = refl

third_part : (page line column : List ℕ) → at_place (read_number page) (read_number line) (read_number column) ≡ at_parts (page ∷ line ∷ parts_of column)
third_part page line column = elim (one_or_more column) [
  | inl one ↦ sym (ap (λ (x : List (List ℕ)). at_parts (page ∷ line ∷ x)) one)
  | inr more ↦ ap (at_place (read_number page) (read_number line)) (no_number column more.no_number) ∙ at_place-none (read_number page) (read_number line) ∙ sym (ap (λ (x : List (List ℕ)). at_parts (page ∷ line ∷ x)) more.parts_are)
]

-- three parts that were read, the last of what is left
pub at_three : (text page rest line column : List ℕ) (first second third : Option ℕ) → parts_of text ≡ page ∷ parts_of rest → parts_of rest ≡ line ∷ parts_of column → first ≡ read_number page → second ≡ read_number line → third ≡ read_number column → at_place first second third ≡ at_parts (parts_of text)
at_three text page rest line column first second third cut again p l c =
    let read : at_place first second third ≡ at_place (read_number page) (read_number line) (read_number column) = rw (p, l, c) refl in
    read ∙ third_part page line column ∙ sym (ap at_parts (cut ∙ ap (λ (x : List (List ℕ)). page ∷ x) again))

-- the digits so far say a number below a power of ten
pub below_billion : (i n : ℕ) → i < 9 → n < 10 ^ i → n < 100000000
below_billion i n few below = omega (arith, pow-le-pow_right {n = 10} (omega arith) (let e : i ≤ 8 = omega arith in e))

-- what is typed, of a text that is plain and not empty
abbrev pub typed_as : Option (List ℕ) → Command
typed_as None = NotBuilt
typed_as (Some text) = Typing text

typed_by : (b : Bool) (text : List ℕ) → typed_as (if b then Some text else None) ≡ (if b then Typing text else NotBuilt)
typed_by true text = refl
typed_by false text = refl

pub typing_is : (text said : List ℕ) (found : Option (List ℕ)) → false ≡ (length text == 0) → is_plain text ≡ true → said ≡ text →
    found ≡ (if has_escapes said then Some (meant said) else None) → typed_as found ≡ typing text
typing_is [] said found some plain same e = absurd (false≢true some)
typing_is (c ∷ cs) said found some plain same e =
    ap typed_as (e ∙ ap (λ (text : List ℕ). if has_escapes text then Some (meant text) else None) same) ∙ typed_by (has_escapes (c ∷ cs)) (meant (c ∷ cs))
    ∙ ap (λ (p : Bool). if p && has_escapes (c ∷ cs) then Typing (meant (c ∷ cs)) else NotBuilt) (sym plain)
