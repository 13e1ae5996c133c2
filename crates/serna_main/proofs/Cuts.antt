-- Where a line stands first, what is before it and behind it, and the sections that this makes.
use Rattle.std.proofs.Common.{◌≡◌, ℕ, suc, ◌+◌, ◌<◌, ◌≤◌, ◌==◌, inl, inr, not, Bool, true, false, List, [], ◌∷◌, ◌++◌, take, drop, length, get_or, Option, Some, None, if◌then◌else◌, refl, sym, ap, ◌∙◌, subst, arith, append_assoc}
use Rattle.std.proofs.lemmas.Bool.{false≢true, cases_Bool, cases_lt, lt-ltb, le-ltb}
use Rattle.std.proofs.lemmas.List.{take-map, drop-map, length-map}
use Rattle.std.proofs.lemmas.Slice.Eq.{bytes_eq-Decides}
use Rattle.std.proofs.lemmas.List.Sums.{passes_at_first, split_at_first}
use Rattle.std.specs.List.{AllByRecursion, position_or_len, position}
use Rattle.std.specs.Str.{bytes_eq}
use Rattle.tree_lines.specs.declared.tree.Line.{Line}
use Rattle.tree_lines.specs.Written.{Written, written_lines}
use Rattle.plain_editor.specs.Sheets.{Sheet, sheet_head, sheet_lines}
use Rattle.plain_editor.specs.Sections.{Sections}
use Rattle.plain_editor.specs.Input.{lines_of, document_head, script_head, input_limit, IsInput}
use Rattle.plain_editor.proofs.Readings.{is_head, AreNoHeads, written_no_heads, no_style}
use Rattle.serna_main.specs.declared.opening.Opening.{Opening}
use Rattle.serna_main.specs.Out.{IsRefused}
use Rattle.serna_main.specs.Sections.{opening_lines, IsOpening, IsNoOpening}
use Rattle.serna_main.proofs.Replies.{bytes_of}

-- a line is this one, by the test
abbrev pub is_line : List ℕ → List ℕ → Bool
is_line head line = bytes_eq line head

-- no line is this one
abbrev pub AreOther : List ℕ → List (List ℕ) → Type 0
AreOther head lines = AllByRecursion (λ line. is_line head line ≡ false) lines

-- the lines before the first of these, and those behind it
pub record IsCut (head : List ℕ) (all before behind : List (List ℕ)) : Type 0 where
  pub whole : all ≡ before ++ (head ∷ behind)
  pub first : AreOther head before

is_same : (head : List ℕ) → is_line head head ≡ true
is_same head = (bytes_eq-Decides head head).1 refl

other : (head line : List ℕ) → (line ≡ head → ⊥) → is_line head line ≡ false
other head line differs = elim (cases_Bool (is_line head line)) [
  | inl same ↦ absurd (differs ((bytes_eq-Decides line head).0 same))
  | inr not_same ↦ not_same
]

not_other : (head line : List ℕ) → is_line head line ≡ false → head ≡ line → ⊥
not_other head line differs e = false≢true (sym differs ∙ ap (is_line head) (sym e) ∙ is_same head)

-- lines are cut in one way
same_parts : (head : List ℕ) (xs ys s t : List (List ℕ)) → AreOther head xs → AreOther head ys → xs ++ (head ∷ s) ≡ ys ++ (head ∷ t) → (xs ≡ ys) × (s ≡ t)
same_parts head [] [] s t no_x no_y e = (refl, cc)
same_parts head [] (y ∷ ys) s t no_x no_y e = let f : head ≡ y = cc in absurd (not_other head y no_y.0 f)
same_parts head (x ∷ xs) [] s t no_x no_y e = let f : head ≡ x = cc in absurd (not_other head x no_x.0 f)
same_parts head (x ∷ xs) (y ∷ ys) s t no_x no_y e =
    let first : x ≡ y = cc in
    let tail : xs ++ (head ∷ s) ≡ ys ++ (head ∷ t) = cc in
    let same = same_parts head xs ys s t no_x.1 no_y.1 tail in
    (ap (λ z. z ∷ xs) first ∙ ap (λ zs. y ∷ zs) same.0, same.1)

pub one_cut : (head : List ℕ) (all xs s : List (List ℕ)) → IsCut head all xs s → (ys t : List (List ℕ)) → AreOther head ys → all ≡ ys ++ (head ∷ t) → (xs ≡ ys) × (s ≡ t)
one_cut head all xs s cut ys t none e = same_parts head xs ys s t cut.first none (sym cut.whole ∙ e)

-- before the first place none passes
before_first : (p : List ℕ → Bool) (xs : List (List ℕ)) → AllByRecursion (λ x. p x ≡ false) (take (position_or_len p xs) xs)
before_first p [] = tt
before_first p (x ∷ xs) = elim (cases_Bool (p x)) [
  | inl passes ↦ subst (λ n. AllByRecursion (λ y. p y ≡ false) (take n (x ∷ xs))) (sym (ap (λ b. if not b then 1 + position_or_len p xs else 0) passes)) tt
  | inr fails ↦
      let next : 1 + position_or_len p xs ≡ suc (position_or_len p xs) = omega arith in
      subst (λ n. AllByRecursion (λ y. p y ≡ false) (take n (x ∷ xs))) (sym (ap (λ b. if not b then 1 + position_or_len p xs else 0) fails ∙ next)) (fails, before_first p xs)
]

place-map : (head : List ℕ) (lines : List Line) → position_or_len (λ (line : Line). is_line head line.bytes) lines ≡ position_or_len (is_line head) (bytes_of lines)
place-map head [] = refl
place-map head (line ∷ lines) = ap (λ n. if not (is_line head line.bytes) then 1 + n else 0) (place-map head lines)

-- a place that was found cuts the lines
pub found_at : (head : List ℕ) (lines : List Line) (k : ℕ) → Some k ≡ position (λ (line : Line). is_line head line.bytes) lines → (k ≡ position_or_len (is_line head) (bytes_of lines)) × (k < length lines)
found_at head lines k e = elim (cases_lt (position_or_len (λ (line : Line). is_line head line.bytes) lines) (length lines)) [
  | inl less ↦
      let n : ℕ = position_or_len (λ (line : Line). is_line head line.bytes) lines in
      let found : Some k ≡ Some n = e ∙ ap (λ t. if t then Some n else None) (lt-ltb n (length lines) less) in
      let same : k ≡ n = cc in
      (same ∙ place-map head lines, subst (λ m. m < length lines) (sym same) less)
  | inr more ↦
      let n : ℕ = position_or_len (λ (line : Line). is_line head line.bytes) lines in
      let none : Some k ≡ None = e ∙ ap (λ t. if t then Some n else None) (le-ltb n (length lines) more) in
      cc
]

pub cut_at : (head : List ℕ) (lines : List Line) (k : ℕ) → Some k ≡ position (λ (line : Line). is_line head line.bytes) lines → IsCut head (bytes_of lines) (bytes_of (take k lines)) (bytes_of (drop (k + 1) lines))
cut_at head lines k e =
    let at = found_at head lines k e in
    let place : k ≡ position_or_len (is_line head) (bytes_of lines) = at.0 in
    let within = at.1 in
    let all : List (List ℕ) = bytes_of lines in
    let n : ℕ = position_or_len (is_line head) all in
    let less : n < length all = omega (arith, place, within, length-map lines (λ (line : Line). line.bytes)) in
    let here : get_or all n [] ≡ head = (bytes_eq-Decides (get_or all n []) head).0 (passes_at_first (is_line head) all [] less) in
    let front : take n all ≡ bytes_of (take k lines) = ap (λ m. take m all) (sym place) ∙ take-map (λ (line : Line). line.bytes) k lines in
    let rest : drop (n + 1) all ≡ bytes_of (drop (k + 1) lines) = ap (λ m. drop (m + 1) all) (sym place) ∙ drop-map (λ (line : Line). line.bytes) (k + 1) lines in
    record {
      whole = split_at_first (is_line head) all [] less ∙ ap (λ xs. xs ++ (get_or all n [] ∷ drop (n + 1) all)) front
          ∙ ap (λ x. bytes_of (take k lines) ++ (x ∷ drop (n + 1) all)) here ∙ ap (λ xs. bytes_of (take k lines) ++ (head ∷ xs)) rest;
      first = subst (AreOther head) front (before_first (is_line head) all);
    }

-- where none was found, the line stands nowhere
stands : (head : List ℕ) (xs ys : List (List ℕ)) → position_or_len (is_line head) (xs ++ (head ∷ ys)) < length (xs ++ (head ∷ ys))
stands head [] ys = subst (λ b. (if not b then 1 + position_or_len (is_line head) ys else 0) < length (head ∷ ys)) (sym (is_same head)) (omega arith)
stands head (x ∷ xs) ys =
    elim (is_line head x) as (λ t. (if not t then 1 + position_or_len (is_line head) (xs ++ (head ∷ ys)) else 0) < length (x ∷ (xs ++ (head ∷ ys)))) [ true ↦ omega arith | false ↦ let h = stands head xs ys in omega arith ]

pub stands_nowhere : (head : List ℕ) (lines : List Line) → None ≡ position (λ (line : Line). is_line head line.bytes) lines → (xs ys : List (List ℕ)) → bytes_of lines ≡ xs ++ (head ∷ ys) → ⊥
stands_nowhere head lines e xs ys whole =
    let n : ℕ = position_or_len (λ (line : Line). is_line head line.bytes) lines in
    let place : n ≡ position_or_len (is_line head) (xs ++ (head ∷ ys)) = place-map head lines ∙ ap (position_or_len (is_line head)) whole in
    let size : length lines ≡ length (xs ++ (head ∷ ys)) = sym (length-map lines (λ (line : Line). line.bytes)) ∙ ap length whole in
    let here = stands head xs ys in
    let less : n < length lines = omega (arith, place, size, here) in
    let found : None ≡ Some n = e ∙ ap (λ t. if t then Some n else None) (lt-ltb n (length lines) less) in
    cc

-- no line of a document, and no head of a stylesheet, is another head
no_heads_other : (head : List ℕ) → is_head head ≡ true → (xs : List (List ℕ)) → AreNoHeads xs → AreOther head xs
no_heads_other head is [] none = tt
no_heads_other head is (x ∷ xs) none =
    (other head x (λ e. false≢true (sym none.0 ∙ ap is_head e ∙ is)), no_heads_other head is xs none.1)

other-append : (head : List ℕ) (xs ys : List (List ℕ)) → AreOther head xs → AreOther head ys → AreOther head (xs ++ ys)
other-append head [] ys none more = more
other-append head (x ∷ xs) ys none more = (none.0, other-append head xs ys none.1 more)

abbrev is_style : List ℕ → Bool
is_style [] = false
is_style (a ∷ []) = false
is_style (a ∷ b ∷ []) = false
is_style (a ∷ b ∷ c ∷ line) = c == 116

no_script : (name : List ℕ) → sheet_head name ≡ script_head → ⊥
no_script name e = false≢true (sym (ap is_style e))

pub sheet_other : (style : Option Sheet) → AreOther document_head (sheet_lines style)
sheet_other None = tt
sheet_other (Some sheet) =
    (other document_head (sheet_head sheet.name) (no_style sheet.name), no_heads_other document_head refl (written_lines sheet.document) (written_no_heads sheet.document))

pub opening_other : (style : Option Sheet) (d : Written) → AreOther script_head (opening_lines style d)
opening_other None d = (refl, no_heads_other script_head refl (written_lines d) (written_no_heads d))
opening_other (Some sheet) d = (
  other script_head (sheet_head sheet.name) (no_script sheet.name),
  other-append script_head (written_lines sheet.document) (document_head ∷ written_lines d) (no_heads_other script_head refl (written_lines sheet.document) (written_no_heads sheet.document))
      (refl, no_heads_other script_head refl (written_lines d) (written_no_heads d)),
)

-- the lines of an input, by its opening
pub behind_opening : (style : Option Sheet) (d : Written) (s : List (List ℕ)) → opening_lines style d ++ (script_head ∷ s) ≡ sheet_lines style ++ (document_head ∷ (written_lines d ++ (script_head ∷ s)))
behind_opening style d s = append_assoc (sheet_lines style) (document_head ∷ written_lines d) (script_head ∷ s)

-- without the script's head, or without an opening before it, nothing is the input
pub refused_without_script : (bytes : List ℕ) (lines : List Line) → bytes_of lines ≡ lines_of bytes → None ≡ position (λ (line : Line). is_line script_head line.bytes) lines → IsRefused bytes
refused_without_script bytes lines is none sections input =
    stands_nowhere script_head lines none (opening_lines input.sheet input.document) sections.script (is ∙ input.lines ∙ sym (behind_opening input.sheet input.document sections.script))

pub refused_opening : (bytes : List ℕ) (lines : List Line) (k : ℕ) → bytes_of lines ≡ lines_of bytes → Some k ≡ position (λ (line : Line). is_line script_head line.bytes) lines → IsNoOpening (bytes_of (take k lines)) → IsRefused bytes
refused_opening bytes lines k is at none sections input =
    let cut = cut_at script_head lines k at in
    let same = one_cut script_head (bytes_of lines) (bytes_of (take k lines)) (bytes_of (drop (k + 1) lines)) cut (opening_lines input.sheet input.document) sections.script
    (opening_other input.sheet input.document) (is ∙ input.lines ∙ sym (behind_opening input.sheet input.document sections.script)) in
    none input.sheet input.document input.styled input.built input.plain same.0

-- what an opening and the script behind it say
abbrev sections_behind : Opening → List (List ℕ) → Sections
sections_behind opening script = record { names = opening.names; style = opening.style; source = opening.source.source; script = script }

-- an opening before the script's head: that is the input
pub is_input : (bytes : List ℕ) (lines : List Line) (k : ℕ) → bytes_of lines ≡ lines_of bytes → Some k ≡ position (λ (line : Line). is_line script_head line.bytes) lines → length bytes ≤ input_limit →
    (opening : Opening) (o : IsOpening (bytes_of (take k lines)) opening) → IsInput bytes (sections_behind opening (bytes_of (drop (k + 1) lines)))
is_input bytes lines k is at short opening o =
    let cut = cut_at script_head lines k at in
    record {
      sheet = o.style;
      document = o.document;
      lines = sym is ∙ cut.whole ∙ ap (λ xs. xs ++ (script_head ∷ bytes_of (drop (k + 1) lines))) o.spelled ∙ behind_opening o.style o.document (bytes_of (drop (k + 1) lines));
      styled = o.styled;
      built = o.built;
      plain = o.plain;
      short = short;
      names = o.table;
      style = o.compiled;
      source = o.begins;
    }
