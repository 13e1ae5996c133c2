-- The lines of an input from its front, and whether they are plain.
use Rattle.std.proofs.Common.{◌≡◌, ℕ, suc, ◌+◌, ◌<◌, ◌≤◌, ◌==◌, inl, inr, not, ◌&&◌, Bool, true, false, List, [], ◌∷◌, ◌++◌, take, drop, length, unwrap_or, Some, None, if◌then◌else◌, refl, sym, ap, ◌∙◌, arith, append_assoc}
use Rattle.std.proofs.lemmas.Bool.{and_parts, true≢false, cases_lt, lt-ltb, le-ltb}
use Rattle.std.specs.List.{list_all, onto_first, position_or_len, position}
use Rattle.tree_lines.specs.declared.tree.Line.{Line}
use Rattle.plain_editor.specs.Input.{lines_of}
use Rattle.plain_editor.specs.Plain.{is_plain}
use Rattle.serna_main.specs.Lines.{numbered_lines}
use Rattle.serna_main.specs.Sections.{ArePlain}
use Rattle.serna_main.proofs.Replies.{bytes_of}

abbrev is_end : ℕ → Bool
is_end b = b == 10

-- the first line, and the lines behind it
first_line_by : (b : ℕ) (bs : List ℕ) (t : Bool) → is_end b ≡ t →
    ((c : ℕ) (cs : List ℕ) → bs ≡ c ∷ cs → lines_of bs ≡ take (position_or_len is_end bs) bs ∷ lines_of (drop (position_or_len is_end bs + 1) bs)) →
    (if t then [] ∷ lines_of bs else onto_first b (lines_of bs)) ≡
    take (if not t then 1 + position_or_len is_end bs else 0) (b ∷ bs) ∷ lines_of (drop ((if not t then 1 + position_or_len is_end bs else 0) + 1) (b ∷ bs))
first_line_by b bs true e later = refl
first_line_by b [] false e later = refl
first_line_by b (c ∷ cs) false e later =
    let n : ℕ = position_or_len is_end (c ∷ cs) in
    let one : 1 + n ≡ suc n = omega arith in
    let two : 1 + n + 1 ≡ suc (n + 1) = omega arith in
    ap (onto_first b) (later c cs refl) ∙ ap (λ k. take k (b ∷ c ∷ cs) ∷ lines_of (drop (n + 1) (c ∷ cs))) (sym one)
    ∙ ap (λ k. take (1 + n) (b ∷ c ∷ cs) ∷ lines_of (drop k (b ∷ c ∷ cs))) (sym two)

pub lines_of-first : (b : ℕ) (bs : List ℕ) → lines_of (b ∷ bs) ≡ take (position_or_len is_end (b ∷ bs)) (b ∷ bs) ∷ lines_of (drop (position_or_len is_end (b ∷ bs) + 1) (b ∷ bs))
lines_of-first b [] = first_line_by b [] (is_end b) refl (λ c cs e. cc)
lines_of-first b (d ∷ ds) = first_line_by b (d ∷ ds) (is_end b) refl (λ c cs e. lines_of-first d ds)

pub lines_of-rest : (bytes : List ℕ) (n : ℕ) → 0 < length bytes → n ≡ position_or_len is_end bytes → lines_of bytes ≡ take n bytes ∷ lines_of (drop (n + 1) bytes)
lines_of-rest [] n h e = absurd (omega arith)
lines_of-rest (b ∷ bs) n h e = lines_of-first b bs ∙ ap (λ k. take k (b ∷ bs) ∷ lines_of (drop (k + 1) (b ∷ bs))) (sym e)

-- the bytes of numbered lines
pub bytes_of-numbered : (number : ℕ) (lines : List (List ℕ)) → bytes_of (numbered_lines number lines) ≡ lines
bytes_of-numbered number [] = refl
bytes_of-numbered number (line ∷ lines) = ap (λ ls. line ∷ ls) (bytes_of-numbered (number + 1) lines)

-- the place of the first, or the length
pub place_le : {A : Type 0} (p : A → Bool) (xs : List A) → position_or_len p xs ≤ length xs
place_le p [] = omega arith
place_le p (x ∷ xs) = elim (p x) as (λ t. (if not t then 1 + position_or_len p xs else 0) ≤ length (x ∷ xs)) [ true ↦ omega arith | false ↦ let h = place_le p xs in omega arith ]

pub unwrap_position : {A : Type 0} (p : A → Bool) (xs : List A) → unwrap_or (position p xs) (length xs) ≡ position_or_len p xs
unwrap_position p xs = elim (cases_lt (position_or_len p xs) (length xs)) [
  | inl less ↦ ap (λ t. unwrap_or (if t then Some (position_or_len p xs) else None) (length xs)) (lt-ltb (position_or_len p xs) (length xs) less)
  | inr more ↦ ap (λ t. unwrap_or (if t then Some (position_or_len p xs) else None) (length xs)) (le-ltb (position_or_len p xs) (length xs) more) ∙ (let h = place_le p xs in omega arith)
]

-- one line more
pub next_line : (so_far : List Line) (rest : List ℕ) (len number : ℕ) (line : Line) (all : List Line) → 0 < length rest → len ≡ position_or_len is_end rest → line ≡ record { number = number; bytes = take len rest } →
    so_far ++ numbered_lines number (lines_of rest) ≡ all → (so_far ++ line ∷ []) ++ numbered_lines (number + 1) (lines_of (drop (len + 1) rest)) ≡ all
next_line so_far rest len number line all some is-len is-line inv =
    append_assoc so_far (line ∷ []) (numbered_lines (number + 1) (lines_of (drop (len + 1) rest)))
    ∙ ap (λ l. so_far ++ (l ∷ numbered_lines (number + 1) (lines_of (drop (len + 1) rest)))) is-line
    ∙ ap (λ ls. so_far ++ numbered_lines number ls) (sym (lines_of-rest rest len some is-len)) ∙ inv

-- lines that are plain by the test
pub plain_lines : (lines : List Line) → list_all (λ (line : Line). is_plain line.bytes) lines ≡ true → ArePlain (bytes_of lines)
plain_lines [] e = tt
plain_lines (x ∷ xs) e =
    let parts = and_parts (is_plain x.bytes) (list_all (λ (line : Line). is_plain line.bytes) xs) e in
    (parts.0, plain_lines xs parts.1)

-- lines that are not
pub not_plain : (lines : List Line) → list_all (λ (line : Line). is_plain line.bytes) lines ≡ false → ArePlain (bytes_of lines) → ⊥
not_plain [] e plain = true≢false e
not_plain (x ∷ xs) e plain = not_plain xs (sym (ap (λ b. b && list_all (λ (line : Line). is_plain line.bytes) xs) plain.0) ∙ e) plain.1
