-- The words of a text, written down one character after another.
use Rattle.std.proofs.Common.{◌≡◌, ℕ, Bool, true, false, not, List, [], ◌∷◌, ◌++◌, filter, refl, sym, ◌∙◌, ap, append_assoc, append-nil}
use Rattle.std.specs.List.{slice_split, onto_first, join_with_byte}
use Rattle.std.proofs.lemmas.Bool.{cond-true, cond-false}
use Rattle.xpath_values.specs.Values.{is_empty}
use Rattle.serna_kinds.specs.Blanks.{is_space}
use Rattle.xpath_values.specs.Texts.{words, normalized, of_word}

-- words, each behind a space
abbrev pub spaced : List (List ℕ) → List ℕ
spaced [] = []
spaced (w ∷ ws) = 32 ∷ (w ++ spaced ws)

abbrev full : List (List ℕ) → List (List ℕ)
full parts = filter (λ word. not (is_empty word)) parts

-- what follows within a word
abbrev pub inside : List (List ℕ) → List ℕ
inside [] = []
inside (part ∷ parts) = part ++ spaced (full parts)

-- the text that comes of what is written and what is to come, between words or in one
abbrev pub finished : List ℕ → Bool → List ℕ → List ℕ
finished [] between rest = normalized rest
finished (c ∷ cs) true rest = (c ∷ cs) ++ spaced (words rest)
finished (c ∷ cs) false rest = (c ∷ cs) ++ inside (slice_split is_space rest)

join_spaced : (w : List ℕ) (ws : List (List ℕ)) → join_with_byte 32 (w ∷ ws) ≡ w ++ spaced ws
join_spaced w [] = sym (append-nil w)
join_spaced w (v ∷ ws) = ap (λ t. w ++ (32 ∷ t)) (join_spaced v ws)

split_space : (c : ℕ) (rest : List ℕ) → is_space c ≡ true → slice_split is_space (c ∷ rest) ≡ [] ∷ slice_split is_space rest
split_space c rest e = cond-true (is_space c) _ _ e

split_ink : (c : ℕ) (rest : List ℕ) → is_space c ≡ false → slice_split is_space (c ∷ rest) ≡ onto_first c (slice_split is_space rest)
split_ink c rest e = cond-false (is_space c) _ _ e

-- white space ends a word
pub finished_space : (out : List ℕ) (between : Bool) (c : ℕ) (rest : List ℕ) → is_space c ≡ true → finished out between (c ∷ rest) ≡ finished out true rest
finished_space [] between c rest e = ap (λ parts. join_with_byte 32 (full parts)) (split_space c rest e)
finished_space (d ∷ ds) true c rest e = ap (λ parts. (d ∷ ds) ++ spaced (full parts)) (split_space c rest e)
finished_space (d ∷ ds) false c rest e = ap (λ parts. (d ∷ ds) ++ inside parts) (split_space c rest e)

first_word : (c : ℕ) (parts : List (List ℕ)) → join_with_byte 32 (full (onto_first c parts)) ≡ (c ∷ []) ++ inside parts
first_word c [] = refl
first_word c (part ∷ parts) = join_spaced (c ∷ part) (full parts)

next_word : (out : List ℕ) (c : ℕ) (parts : List (List ℕ)) → out ++ spaced (full (onto_first c parts)) ≡ (out ++ 32 ∷ c ∷ []) ++ inside parts
next_word out c [] = sym (append-nil (out ++ 32 ∷ c ∷ []))
next_word out c (part ∷ parts) = sym (append_assoc out (32 ∷ c ∷ []) (part ++ spaced (full parts)))

same_word : (out : List ℕ) (c : ℕ) (parts : List (List ℕ)) → out ++ inside (onto_first c parts) ≡ (out ++ c ∷ []) ++ inside parts
same_word out c [] = sym (append-nil (out ++ c ∷ []))
same_word out c (part ∷ parts) = sym (append_assoc out (c ∷ []) (part ++ spaced (full parts)))

-- another character goes on with a word or begins one
pub finished_ink : (out : List ℕ) (between : Bool) (c : ℕ) (rest : List ℕ) → is_space c ≡ false → finished out between (c ∷ rest) ≡ finished (out ++ of_word out between c) false rest
finished_ink [] true c rest e = ap (λ parts. join_with_byte 32 (full parts)) (split_ink c rest e) ∙ first_word c (slice_split is_space rest)
finished_ink [] false c rest e = ap (λ parts. join_with_byte 32 (full parts)) (split_ink c rest e) ∙ first_word c (slice_split is_space rest)
finished_ink (d ∷ ds) true c rest e = ap (λ parts. (d ∷ ds) ++ spaced (full parts)) (split_ink c rest e) ∙ next_word (d ∷ ds) c (slice_split is_space rest)
finished_ink (d ∷ ds) false c rest e = ap (λ parts. (d ∷ ds) ++ inside parts) (split_ink c rest e) ∙ same_word (d ∷ ds) c (slice_split is_space rest)

-- when nothing is to come, the text is what is written
pub finished_end : (out : List ℕ) (between : Bool) → finished out between [] ≡ out
finished_end [] between = refl
finished_end (d ∷ ds) true = append-nil (d ∷ ds)
finished_end (d ∷ ds) false = append-nil (d ∷ ds)
