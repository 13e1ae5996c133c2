-- The table of names as a list of keys.
use Rattle.std.proofs.Common.{◌≡◌, ◌<◌, ◌≤◌, ◌+◌, ℕ, suc, Bool, true, false, not, cond, ◌||◌, List, [], ◌∷◌, ◌++◌, map, Option, Some, None, sym, refl, ap, ◌∙◌, arith, is_some, nat_lt, length}
use Rattle.std.specs.List.{position_or_len, position, list_any}
use Rattle.std.specs.Option.{MatchOption}
use Rattle.std.specs.Str.{bytes_eq}
use Rattle.std.proofs.lemmas.Bool.Decides.{nat_tests}
use Rattle.std.proofs.lemmas.Slice.Eq.{bytes_eq-Decides}
use Rattle.content_model.specs.Symbols.{symbol_from, symbol_in}

module _ {K : Type 0} (items : K → List ℕ) (w : List ℕ) where
  -- whether the key is the name w
  abbrev pub is_key : K → Bool
  is_key k = bytes_eq w (items k)

  first_or_next : (b : Bool) (p l n : ℕ) (rest : Option ℕ) → rest ≡ cond (nat_lt p l) (Some (p + (n + 1))) None
      → cond b (Some n) rest ≡ cond (nat_lt (cond (not b) (1 + p) 0) (suc l)) (Some (cond (not b) (1 + p) 0 + n)) None
  first_or_next true p l n rest e = grind (arith, nat_tests)
  first_or_next false p l n rest e =
      let sum : p + (n + 1) ≡ 1 + p + n = omega arith in
      e ∙ ap (λ m. cond (nat_lt p l) (Some m) None) sum ∙ grind (arith, nat_tests)

  pub symbol_from-position : (n : ℕ) (ks : List K) → symbol_from n (map items ks) w ≡ cond (nat_lt (position_or_len is_key ks) (length ks)) (Some (position_or_len is_key ks + n)) None
  symbol_from-position n [] = grind (arith, nat_tests)
  symbol_from-position n (k ∷ ks) = first_or_next (is_key k) (position_or_len is_key ks) (length ks) n _ (symbol_from-position (n + 1) ks)

  either_way : (b : Bool) (p : ℕ) (o m : Option ℕ) → o ≡ cond b (Some p) None → m ≡ cond b (Some (p + 1)) None → MatchOption o (None ≡ m) (λ i. Some (i + 1) ≡ m)
  either_way true p None m e f = cc
  either_way true p (Some i) m e f = let same : i ≡ p = cc in ap (λ j. Some (j + 1)) same ∙ sym f
  either_way false p None m e f = sym f
  either_way false p (Some i) m e f = cc

  -- a key that is found has its place and one as its number
  pub found : (ks : List K) (o : Option ℕ) → o ≡ position is_key ks → MatchOption o (None ≡ symbol_in (map items ks) w) (λ i. Some (i + 1) ≡ symbol_in (map items ks) w)
  found ks o e = either_way (nat_lt (position_or_len is_key ks) (length ks)) (position_or_len is_key ks) o _ e (symbol_from-position 1 ks)

  some_or : (b : Bool) (n : ℕ) (rest : Option ℕ) (r : Bool) → is_some rest ≡ r → is_some (cond b (Some n) rest) ≡ b || r
  some_or true n rest r e = refl
  some_or false n rest r e = e

  -- a name has a number where a key is it
  pub has_number : (n : ℕ) (ks : List K) → is_some (symbol_from n (map items ks) w) ≡ list_any is_key ks
  has_number n [] = refl
  has_number n (k ∷ ks) = some_or (is_key k) n _ _ (has_number (n + 1) ks)

  was_there : (b : Bool) (p n : ℕ) (rest : Option ℕ) (r : Bool) → b || r ≡ true → (r ≡ true → rest ≡ Some (p + (n + 1))) → cond b (Some n) rest ≡ Some (cond (not b) (1 + p) 0 + n)
  was_there true p n rest r e f = ap Some (omega arith)
  was_there false p n rest r e f = f e ∙ ap Some (omega arith)

  -- the number of a key that is there
  pub number_there : (n : ℕ) (ks : List K) → list_any is_key ks ≡ true → symbol_from n (map items ks) w ≡ Some (position_or_len is_key ks + n)
  number_there n [] e = cc
  number_there n (k ∷ ks) e = was_there (is_key k) (position_or_len is_key ks) n _ (list_any is_key ks) e (number_there (n + 1) ks)

  was_new : (b : Bool) (p n : ℕ) (rest : Option ℕ) (r : Bool) → b || r ≡ false → (r ≡ false → rest ≡ Some (p + (n + 1))) → cond b (Some n) rest ≡ Some (cond (not b) (1 + p) 0 + n)
  was_new true p n rest r e f = cc
  was_new false p n rest r e f = f e ∙ ap Some (omega arith)

  -- the number of a key that is put behind the others
  pub number_new : (n : ℕ) (ks : List K) (v : K) → is_key v ≡ true → list_any is_key ks ≡ false → symbol_from n (map items (ks ++ v ∷ [])) w ≡ Some (position_or_len is_key ks + n)
  number_new n [] v h e = ap (λ b. cond b (Some n) None) h ∙ ap Some (omega arith)
  number_new n (k ∷ ks) v h e = was_new (is_key k) (position_or_len is_key ks) n _ (list_any is_key ks) e (number_new (n + 1) ks v h)

  map-push : (ks : List K) (v : K) → map items (ks ++ v ∷ []) ≡ map items ks ++ items v ∷ []
  map-push [] v = refl
  map-push (k ∷ ks) v = ap (λ l. items k ∷ l) (map-push ks v)

  -- what an insert leaves
  pub inserted : (ks : List K) (v : K) → items v ≡ w → (b : Bool) → list_any is_key ks ≡ b
      → (symbol_in (map items (cond b ks (ks ++ v ∷ []))) w ≡ Some (position_or_len is_key ks + 1)) × (map items (cond b ks (ks ++ v ∷ [])) ≡ cond b (map items ks) (map items ks ++ w ∷ []))
  inserted ks v h true e = (number_there 1 ks e, refl)
  inserted ks v h false e =
      (number_new 1 ks v ((bytes_eq-Decides w (items v)).1 (sym h)) e, map-push ks v ∙ ap (λ l. map items ks ++ l ∷ []) h)

-- the number of a name is no less than the first
number_from : (n : ℕ) (names : List (List ℕ)) (w : List ℕ) (k : ℕ) → symbol_from n names w ≡ Some k → n ≤ k
number_from n [] w k e = cc
number_from n (name ∷ names) w k e = go (bytes_eq w name) e (number_from (n + 1) names w k)
  where
    go : (b : Bool) → cond b (Some n) (symbol_from (n + 1) names w) ≡ Some k → (symbol_from (n + 1) names w ≡ Some k → n + 1 ≤ k) → n ≤ k
    go true e f = let same : n ≡ k = cc in omega arith
    go false e f = let more : n + 1 ≤ k = f e in omega arith

-- a number is never 0
pub symbol_positive : (names : List (List ℕ)) (w : List ℕ) (n : ℕ) → symbol_in names w ≡ Some n → 0 < n
symbol_positive names w n e = let more : 1 ≤ n = number_from 1 names w n e in omega arith

apart_from : (n : ℕ) (names : List (List ℕ)) (v w : List ℕ) (k : ℕ) → symbol_from n names v ≡ Some k → symbol_from n names w ≡ Some k → v ≡ w
apart_from n [] v w k e f = cc
apart_from n (name ∷ names) v w k e f = go (bytes_eq v name) (bytes_eq w name) refl refl e f (apart_from (n + 1) names v w k)
  where
    go : (a b : Bool) → bytes_eq v name ≡ a → bytes_eq w name ≡ b → cond a (Some n) (symbol_from (n + 1) names v) ≡ Some k → cond b (Some n) (symbol_from (n + 1) names w) ≡ Some k
        → (symbol_from (n + 1) names v ≡ Some k → symbol_from (n + 1) names w ≡ Some k → v ≡ w) → v ≡ w
    go true true x y e f _ = (bytes_eq-Decides v name).0 x ∙ sym ((bytes_eq-Decides w name).0 y)
    go true false x y e f _ = let same : n ≡ k = cc in let more : n + 1 ≤ k = number_from (n + 1) names w k f in absurd (omega arith)
    go false true x y e f _ = let same : n ≡ k = cc in let more : n + 1 ≤ k = number_from (n + 1) names v k e in absurd (omega arith)
    go false false x y e f g = g e f

-- different names have different numbers
pub symbols_apart : (names : List (List ℕ)) (v w : List ℕ) (n : ℕ) → symbol_in names v ≡ Some n → symbol_in names w ≡ Some n → v ≡ w
symbols_apart names v w n e f = apart_from 1 names v w n e f

lasting_from : (n : ℕ) (names more : List (List ℕ)) (w : List ℕ) (k : ℕ) → symbol_from n names w ≡ Some k → symbol_from n (names ++ more) w ≡ Some k
lasting_from n [] more w k e = cc
lasting_from n (name ∷ names) more w k e = go (bytes_eq w name) e (lasting_from (n + 1) names more w k)
  where
    go : (b : Bool) → cond b (Some n) (symbol_from (n + 1) names w) ≡ Some k → (symbol_from (n + 1) names w ≡ Some k → symbol_from (n + 1) (names ++ more) w ≡ Some k)
        → cond b (Some n) (symbol_from (n + 1) (names ++ more) w) ≡ Some k
    go true e f = e
    go false e f = f e

-- a name keeps its number
pub symbol_lasting : (names more : List (List ℕ)) (w : List ℕ) (n : ℕ) → symbol_in names w ≡ Some n → symbol_in (names ++ more) w ≡ Some n
symbol_lasting names more w n e = lasting_from 1 names more w n e
