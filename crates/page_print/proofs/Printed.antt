-- What is printed of a character's bytes is what is printed of the character.
use Rattle.std.proofs.Common.{◌≡◌, ℕ, ◌+◌, ◌/◌, ◌<◌, ◌≤◌, ◌||◌, inl, inr, false, List, [], ◌∷◌, map, refl, sym, ap, ◌∙◌, cond, ltb, eqb, arith, tests}
use Rattle.std.proofs.lemmas.Bool.{cases_lt, cond_both}
use Rattle.std.proofs.lemmas.Str.{encode_ascii}
use Rattle.std.specs.Char.{encode_utf8}
use Rattle.page_print.specs.Print.{printed}

high : (b : ℕ) → 128 ≤ b → printed b ≡ b
high b h =
    let tab : eqb b 9 ≡ false = grind (arith, tests) in
    let feed : eqb b 10 ≡ false = grind (arith, tests) in
    rw (tab, feed) refl

low : (c : ℕ) → c < 128 → printed c < 128
low c h = cond_both (eqb c 9 || eqb c 10) 32 c (λ b. b < 128) (λ e. omega arith) (λ e. h)

-- bytes that are printed as they are
abbrev IsSame : List ℕ → Type 0
IsSame bs = map printed bs ≡ bs

more : (b : ℕ) (bs : List ℕ) → 128 ≤ b → IsSame bs → IsSame (b ∷ bs)
more b bs h e = ap (λ x. x ∷ map printed bs) (high b h) ∙ ap (λ t. b ∷ t) e

high_bytes : (c : ℕ) → 128 ≤ c → IsSame (encode_utf8 c)
unfolding lib.Utf8.encode
high_bytes c h =
    let last : List ℕ = lib.Utf8.next c ∷ [] in
    let two : List ℕ = (192 + c / 64) ∷ last in
    let three : List ℕ = (224 + c / 4096) ∷ lib.Utf8.next (c / 64) ∷ last in
    let four : List ℕ = (240 + c / 262144) ∷ lib.Utf8.next (c / 4096) ∷ lib.Utf8.next (c / 64) ∷ last in
    let ends : IsSame last = more (lib.Utf8.next c) [] (omega arith) refl in
    let ends_two : IsSame (lib.Utf8.next (c / 64) ∷ last) = more (lib.Utf8.next (c / 64)) last (omega arith) ends in
    let ends_three : IsSame (lib.Utf8.next (c / 4096) ∷ lib.Utf8.next (c / 64) ∷ last) = more (lib.Utf8.next (c / 4096)) (lib.Utf8.next (c / 64) ∷ last) (omega arith) ends_two in
    cond_both (ltb c 128) (c ∷ []) (cond (ltb c 2048) two (cond (ltb c 65536) three four)) IsSame (λ e. more c [] h refl)
    (λ e. cond_both (ltb c 2048) two (cond (ltb c 65536) three four) IsSame (λ f. more (192 + c / 64) last (omega arith) ends)
    (λ f. cond_both (ltb c 65536) three four IsSame (λ g. more (224 + c / 4096) (lib.Utf8.next (c / 64) ∷ last) (omega arith) ends_two)
    (λ g. more (240 + c / 262144) (lib.Utf8.next (c / 4096) ∷ lib.Utf8.next (c / 64) ∷ last) (omega arith) ends_three)))

pub encode_printed : (c : ℕ) → map printed (encode_utf8 c) ≡ encode_utf8 (printed c)
encode_printed c = elim (cases_lt c 128) [
  | inl less ↦ ap (map printed) (encode_ascii c less) ∙ sym (encode_ascii (printed c) (low c less))
  | inr above ↦ high_bytes c above ∙ ap encode_utf8 (sym (high c above))
]
