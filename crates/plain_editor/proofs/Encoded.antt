-- Characters are read back from their bytes, whatever numbers they are.
use Rattle.std.proofs.Common.{◌≡◌, ℕ, zero, suc, ◌+◌, ◌-◌, ◌*◌, ◌/◌, ◌<◌, ◌≤◌, Bool, true, false, cond, ltb, List, [], ◌∷◌, ◌++◌, length, take, drop, encode_utf8_all, refl, sym, ap, ◌∙◌, arith}
use Rattle.std.proofs.lemmas.Bool.{ltb-true, ltb-false}
use Rattle.std.proofs.lemmas.Str.{chars-nil}
use Rattle.std.proofs.Math.Seq.{take-length}
use Rattle.std.specs.Char.{encode_utf8}
use Rattle.std.specs.Str.{chars, chars_after, continuation_len, lead_bits}
use lib.Utf8.{next}

after_last : (c : ℕ) (bs : List ℕ) → chars_after zero c bs ≡ c ∷ chars bs
unfolding chars
after_last c [] = refl
after_last c (b ∷ bs) = refl

led_by : (a n v : ℕ) (bs : List ℕ) → n ≡ continuation_len a → v ≡ lead_bits a → chars (a ∷ bs) ≡ chars_after n v bs
unfolding chars
led_by a n v bs p q = λ i. chars_after (sym p i) (sym q i) bs

of_one : (c : ℕ) (rest : List ℕ) → c < 128 → chars (c ∷ rest) ≡ c ∷ chars rest
of_one c rest h = led_by c zero c rest (grind arith) (grind arith) ∙ after_last c rest

of_two : (c a b : ℕ) (rest : List ℕ) → 192 ≤ a → a < 224 → (a - 192) * 64 + (b - 128) ≡ c → chars (a ∷ b ∷ rest) ≡ c ∷ chars rest
of_two c a b rest l h e = led_by a (suc zero) (a - 192) (b ∷ rest) (grind arith) (grind arith) ∙ after_last _ rest ∙ ap (λ x. x ∷ chars rest) e

of_three : (c a b d : ℕ) (rest : List ℕ) → 224 ≤ a → a < 240 → ((a - 224) * 64 + (b - 128)) * 64 + (d - 128) ≡ c → chars (a ∷ b ∷ d ∷ rest) ≡ c ∷ chars rest
of_three c a b d rest l h e = led_by a (suc (suc zero)) (a - 224) (b ∷ d ∷ rest) (grind arith) (grind arith) ∙ after_last _ rest ∙ ap (λ x. x ∷ chars rest) e

of_four : (c a b d f : ℕ) (rest : List ℕ) → 240 ≤ a → (((a - 240) * 64 + (b - 128)) * 64 + (d - 128)) * 64 + (f - 128) ≡ c → chars (a ∷ b ∷ d ∷ f ∷ rest) ≡ c ∷ chars rest
of_four c a b d f rest l e = led_by a (suc (suc (suc zero))) (a - 240) (b ∷ d ∷ f ∷ rest) (grind arith) (grind arith) ∙ after_last _ rest ∙ ap (λ x. x ∷ chars rest) e

by_cond : (P : List ℕ → Type 0) (b : Bool) (x y : List ℕ) → (b ≡ true → P x) → (b ≡ false → P y) → P (cond b x y)
by_cond P true x y p q = p refl
by_cond P false x y p q = q refl

reads_one : (c : ℕ) (rest : List ℕ) → chars (encode_utf8 c ++ rest) ≡ c ∷ chars rest
unfolding lib.Utf8.encode
reads_one c rest =
    by_cond (λ bs. chars (bs ++ rest) ≡ c ∷ chars rest) (ltb c 128) _ _ (λ e. of_one c rest (ltb-true c 128 e))
    (λ e. by_cond (λ bs. chars (bs ++ rest) ≡ c ∷ chars rest) (ltb c 2048) _ _
    (λ f. let low = ltb-false c 128 e in let high = ltb-true c 2048 f in of_two c (192 + c / 64) (next c) rest (omega arith) (omega (arith, low, high)) (omega (arith, low, high)))
    (λ f. by_cond (λ bs. chars (bs ++ rest) ≡ c ∷ chars rest) (ltb c 65536) _ _
    (λ g. let high = ltb-true c 65536 g in of_three c (224 + c / 4096) (next (c / 64)) (next c) rest (omega arith) (omega (arith, high)) (omega (arith, high)))
    (λ g. of_four c (240 + c / 262144) (next (c / 4096)) (next (c / 64)) (next c) rest (omega arith) (omega arith))))

pub reads_back : (text : List ℕ) → chars (encode_utf8_all text) ≡ text
reads_back [] = chars-nil
reads_back (c ∷ cs) = reads_one c (encode_utf8_all cs) ∙ ap (λ l. c ∷ l) (reads_back cs)

-- what a whole text shows
pub reads_whole : (text : List ℕ) → chars (take (length (encode_utf8_all text) - 0) (drop 0 (encode_utf8_all text))) ≡ text
reads_whole text =
    let all : length (encode_utf8_all text) - 0 ≡ length (encode_utf8_all text) = omega arith in
    ap (λ n. chars (take n (encode_utf8_all text))) all ∙ ap chars (take-length (encode_utf8_all text)) ∙ reads_back text

pub ruleset all = reads_whole
