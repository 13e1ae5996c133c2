-- What `normalized` leaves: the words of the text, each without white space and with a character.
use Rattle.std.proofs.Common.{◌≡◌, ℕ, ◌≤◌, false, not, List, [], ◌∷◌, ◌++◌, filter, length, refl, sym, ◌∙◌, ap, subst, arith, inl, inr, append-nil}
use Rattle.std.specs.List.{AllByRecursion, slice_split, onto_first, join_with_byte}
use Rattle.std.proofs.lemmas.Bool.{cases_Bool, cond-true, cond-false}
use Rattle.xpath_values.specs.Values.{is_empty}
use Rattle.serna_kinds.specs.Blanks.{is_space}
use Rattle.xpath_values.specs.Texts.{words, normalized, IsWord}

-- ---- the parts between white space have none
abbrev HasInk : List ℕ → Type 0
HasInk part = AllByRecursion (λ c. is_space c ≡ false) part

abbrev split : List ℕ → List (List ℕ)
split text = slice_split is_space text

ink_first : (c : ℕ) (parts : List (List ℕ)) → is_space c ≡ false → AllByRecursion HasInk parts → AllByRecursion HasInk (onto_first c parts)
ink_first c [] e all = ((e, tt), tt)
ink_first c (part ∷ parts) e all = ((e, all.0), all.1)

split_has_ink : (text : List ℕ) → AllByRecursion HasInk (split text)
split_has_ink [] = (tt, tt)
split_has_ink (c ∷ cs) =
    elim (cases_Bool (is_space c)) [
      | inl e ↦ subst (AllByRecursion HasInk) (sym (cond-true (is_space c) ([] ∷ split cs) (onto_first c (split cs)) e)) (tt, split_has_ink cs)
      | inr e ↦ subst (AllByRecursion HasInk) (sym (cond-false (is_space c) ([] ∷ split cs) (onto_first c (split cs)) e)) (ink_first c (split cs) e (split_has_ink cs))
    ]

abbrev full : List (List ℕ) → List (List ℕ)
full parts = filter (λ word. not (is_empty word)) parts

full_words : (parts : List (List ℕ)) → AllByRecursion HasInk parts → AllByRecursion IsWord (full parts)
full_words [] all = tt
full_words ([] ∷ parts) all = full_words parts all.1
full_words ((c ∷ part) ∷ parts) all = (record { some = omega arith; ink = all.0 }, full_words parts all.1)

pub words_law : (text : List ℕ) → AllByRecursion IsWord (words text)
words_law text = full_words (split text) (split_has_ink text)

-- ---- words in a row, cut again
split_word : (w rest part : List ℕ) (parts : List (List ℕ)) → HasInk w → split rest ≡ part ∷ parts → split (w ++ rest) ≡ (w ++ part) ∷ parts
split_word [] rest part parts ink e = e
split_word (c ∷ w) rest part parts ink e =
    cond-false (is_space c) ([] ∷ split (w ++ rest)) (onto_first c (split (w ++ rest))) ink.0 ∙ ap (onto_first c) (split_word w rest part parts ink.1 e)

full_some : (w : List ℕ) (parts : List (List ℕ)) → 1 ≤ length w → full (w ∷ parts) ≡ w ∷ full parts
full_some [] parts some = absurd (omega arith)
full_some (c ∷ w) parts some = refl

split_again : (ws : List (List ℕ)) → AllByRecursion IsWord ws → full (split (join_with_byte 32 ws)) ≡ ws
split_again [] all = refl
split_again (w ∷ []) all =
    ap full (ap split (sym (append-nil w)) ∙ split_word w [] [] [] all.0.ink refl) ∙ (full_some (w ++ []) [] (omega (arith, all.0.some, ap length (append-nil w))) ∙ ap (λ t. t ∷ []) (append-nil w))
split_again (w ∷ v ∷ ws) all =
    let rest : List ℕ = join_with_byte 32 (v ∷ ws) in
    ap full (split_word w (32 ∷ rest) [] (split rest) all.0.ink refl)
    ∙ (full_some (w ++ []) (split rest) (omega (arith, all.0.some, ap length (append-nil w))) ∙ (ap (λ t. t ∷ full (split rest)) (append-nil w) ∙ ap (λ t. w ∷ t) (split_again (v ∷ ws) all.1)))

pub normal_law : (text : List ℕ) → words (normalized text) ≡ words text
normal_law text = split_again (words text) (words_law text)
