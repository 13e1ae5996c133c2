-- A text has one value without spaces at its ends.
use Rattle.std.proofs.Common.{◌≡◌, ◌≢◌, ℕ, ◌<◌, ◌≤◌, List, [], ◌∷◌, ◌++◌, arith, refl, sym, ◌∙◌, ap, subst}
use Rattle.std.specs.List.{AllByRecursion}
use Rattle.std.specs.Char.{digit_value}
use Rattle.std.specs.Str.Parse.{AllDigits}
use Rattle.fo_lengths.specs.Padding.{AreSpaces, IsPadded}
use Rattle.fo_lengths.specs.Scan.{BeginsWithout}

-- the text does not end in a space
abbrev pub EndsWithoutSpace : List ℕ → Type 0
EndsWithoutSpace text = (front : List ℕ) → text ≢ front ++ (32 ∷ [])

-- the text has no space at its ends
pub record IsTight (text : List ℕ) : Type 0 where
  pub start : BeginsWithout 32 text
  pub end : EndsWithoutSpace text

pub spaces-append : (xs ys : List ℕ) → AreSpaces xs → AreSpaces ys → AreSpaces (xs ++ ys)
spaces-append [] ys p q = q
spaces-append (x ∷ xs) ys p q = (p.0, spaces-append xs ys p.1 q)

pub spaces_right : (xs ys : List ℕ) → AreSpaces (xs ++ ys) → AreSpaces ys
spaces_right [] ys p = p
spaces_right (x ∷ xs) ys p = spaces_right xs ys p.1

pub spaces_left : (xs ys : List ℕ) → AreSpaces (xs ++ ys) → AreSpaces xs
spaces_left [] ys p = tt
spaces_left (x ∷ xs) ys p = (p.0, spaces_left xs ys p.1)

-- spaces, one at least, end in a space
spaces_end : (x : ℕ) (xs : List ℕ) → AreSpaces (x ∷ xs) → EndsWithoutSpace (x ∷ xs) → ⊥
spaces_end x [] p h = h [] (cc (p.0))
spaces_end x (y ∷ xs) p h = spaces_end y xs p.1 (λ front e. h (x ∷ front) (ap (λ t. x ∷ t) e))

tail_end : (x : ℕ) (xs : List ℕ) → EndsWithoutSpace (x ∷ xs) → EndsWithoutSpace xs
tail_end x xs h front e = h (x ∷ front) (ap (λ t. x ∷ t) e)

-- what follows the spaces at the front
past_spaces : (s t xs ys : List ℕ) → AreSpaces s → AreSpaces t → BeginsWithout 32 xs → BeginsWithout 32 ys → s ++ xs ≡ t ++ ys → xs ≡ ys
past_spaces [] [] xs ys p q f g e = e
past_spaces [] (b ∷ t) xs ys p q f g e = absurd (f (t ++ ys) (cc (q.0)))
past_spaces (a ∷ s) [] xs ys p q f g e = absurd (g (s ++ xs) (cc (p.0)))
past_spaces (a ∷ s) (b ∷ t) xs ys p q f g e = past_spaces s t xs ys p.1 q.1 f g (cc)

-- what comes before the spaces at the end
before_spaces : (xs ys s t : List ℕ) → AreSpaces s → AreSpaces t → EndsWithoutSpace xs → EndsWithoutSpace ys → xs ++ s ≡ ys ++ t → xs ≡ ys
before_spaces [] [] s t p q f g e = refl
before_spaces [] (y ∷ ys) s t p q f g e = absurd (spaces_end y ys (spaces_left (y ∷ ys) t (let P : List ℕ → Type 0 = AreSpaces in subst P e p)) g)
before_spaces (x ∷ xs) [] s t p q f g e = absurd (spaces_end x xs (spaces_left (x ∷ xs) s (let P : List ℕ → Type 0 = AreSpaces in subst P (sym e) q)) f)
before_spaces (x ∷ xs) (y ∷ ys) s t p q f g e =
    let tails : xs ≡ ys = before_spaces xs ys s t p q (tail_end x xs f) (tail_end y ys g) (cc) in cc

-- a text of spaces alone has no value that begins with another character
no_value : (text : List ℕ) (c : ℕ) (cs : List ℕ) → IsPadded text [] → IsPadded text (c ∷ cs) → IsTight (c ∷ cs) → ⊥
no_value text c cs p q tight =
    let blank : AreSpaces (p.before ++ p.after) = spaces-append p.before p.after p.spaces_before p.spaces_after in
    let seen : AreSpaces (q.before ++ (c ∷ (cs ++ q.after))) = (let P : List ℕ → Type 0 = AreSpaces in subst P (sym p.whole ∙ q.whole) blank) in
    tight.start cs (ap (λ b. b ∷ cs) (spaces_right q.before (c ∷ (cs ++ q.after)) seen).0)

begins_append : (c : ℕ) (cs ys : List ℕ) → BeginsWithout 32 (c ∷ cs) → BeginsWithout 32 (c ∷ (cs ++ ys))
begins_append c cs ys h rest e = h cs (let head : c ≡ 32 = cc in ap (λ b. b ∷ cs) head)

-- a text has one value without spaces at its ends
pub values_same : (text x y : List ℕ) → IsPadded text x → IsTight x → IsPadded text y → IsTight y → x ≡ y
values_same text [] [] p f q g = refl
values_same text [] (c ∷ cs) p f q g = absurd (no_value text c cs p q g)
values_same text (c ∷ cs) [] p f q g = absurd (no_value text c cs q p f)
values_same text (c ∷ cs) (d ∷ ds) p f q g =
    before_spaces (c ∷ cs) (d ∷ ds) p.after q.after p.spaces_after q.spaces_after f.end g.end
    (past_spaces p.before q.before (c ∷ (cs ++ p.after)) (d ∷ (ds ++ q.after)) p.spaces_before q.spaces_before
    (begins_append c cs p.after f.start) (begins_append d ds q.after g.start) (sym p.whole ∙ q.whole))

-- no character is a space
abbrev pub HasNoSpace : List ℕ → Type 0
HasNoSpace text = AllByRecursion (λ byte. byte ≢ 32) text

pub no_space-append : (xs ys : List ℕ) → HasNoSpace xs → HasNoSpace ys → HasNoSpace (xs ++ ys)
no_space-append [] ys p q = q
no_space-append (x ∷ xs) ys p q = (p.0, no_space-append xs ys p.1 q)

no_space_right : (xs ys : List ℕ) → HasNoSpace (xs ++ ys) → HasNoSpace ys
no_space_right [] ys p = p
no_space_right (x ∷ xs) ys p = no_space_right xs ys p.1

pub tight : (x : List ℕ) → HasNoSpace x → IsTight x
tight x h = record {
  start = λ rest e. (let P : List ℕ → Type 0 = HasNoSpace in subst P e h).0 refl;
  end = λ front e. (no_space_right front (32 ∷ []) (let P : List ℕ → Type 0 = HasNoSpace in subst P e h)).0 refl;
}

-- a space is no digit
pub digits_no_space : (radix : ℕ) → radix ≤ 36 → (ds : List ℕ) → AllDigits radix ds → HasNoSpace ds
digits_no_space radix le [] all = tt
digits_no_space radix le (d ∷ ds) all = (λ e. (let below : digit_value 32 < radix = (let P : ℕ → Type 0 = λ k. digit_value k < radix in subst P e all.0) in omega arith), digits_no_space radix le ds all.1)
