-- The escapes can be undone, and they leave no LF.
use Rattle.std.proofs.Common.{◌≡◌, ◌≢◌, ℕ, Bool, true, false, List, [], ◌∷◌, ◌++◌, eqb, refl, sym, ap, ◌∙◌, inl, inr}
use Rattle.std.specs.Prelude.{◌==◌, if◌then◌else◌}
use Rattle.std.specs.List.{All}
use Rattle.std.proofs.lemmas.Bool.{eqb-false}
use Rattle.std.proofs.lemmas.Bool.Decides.{eqb_tells}
use Rattle.std.proofs.lemmas.List.Elements.{All-nil, All-cons, All-append}
use Rattle.tree_lines.specs.Canonical.{escape_of, escaped}

-- the character that a letter behind a backslash stands for
abbrev stands_for : ℕ → ℕ
stands_for c = if c == 110 then 10 else (if c == 116 then 9 else c)

-- the characters that are written so; the flag tells that a backslash stood before
abbrev unescaped : Bool → List ℕ → List ℕ
unescaped flag [] = []
unescaped true (c ∷ cs) = stands_for c ∷ unescaped false cs
unescaped false (c ∷ cs) = if c == 92 then unescaped true cs else (c ∷ unescaped false cs)

-- a character is one of the three that are escaped, or else it is none of them
pub data Case (c : ℕ) : Type 0 where
  slash : c ≡ 92 → Case c
  feed : c ≡ 10 → Case c
  tab : c ≡ 9 → Case c
  plain : eqb c 92 ≡ false → eqb c 10 ≡ false → eqb c 9 ≡ false → (c ≢ 10) → Case c

pub case_of : (c : ℕ) → Case c
case_of c = elim (eqb_tells c 92) [
  | inl is_slash ↦ slash is_slash.1
  | inr no_slash ↦ elim (eqb_tells c 10) [
    | inl is_feed ↦ feed is_feed.1
    | inr no_feed ↦ elim (eqb_tells c 9) [ inl is_tab ↦ tab is_tab.1 | inr no_tab ↦ plain no_slash.0 no_feed.0 no_tab.0 no_feed.1 ]
  ]
]

unescaped-escape_of : (c : ℕ) (rest : List ℕ) → unescaped false (escape_of c ++ rest) ≡ c ∷ unescaped false rest
unescaped-escape_of c rest = elim (case_of c) [
  | slash e ↦ rw e refl
  | feed e ↦ rw e refl
  | tab e ↦ rw e refl
  | plain no_slash no_feed no_tab apart ↦ rw (no_slash, no_feed, no_tab) (rw no_slash refl)
]

unescaped-escaped : (text : List ℕ) → unescaped false (escaped text) ≡ text
unescaped-escaped [] = refl
unescaped-escaped (c ∷ cs) = unescaped-escape_of c (escaped cs) ∙ ap (λ (x : List ℕ). c ∷ x) (unescaped-escaped cs)

pub escaped-apart : (one other : List ℕ) → escaped one ≡ escaped other → one ≡ other
escaped-apart one other e = sym (unescaped-escaped one) ∙ ap (unescaped false) e ∙ unescaped-escaped other

-- not LF
abbrev pub IsInLine : ℕ → Type 0
IsInLine c = c ≢ 10

one_line_char : (c : ℕ) → All IsInLine (escape_of c)
one_line_char c = elim (case_of c) [
  | slash e ↦ rw e (pair 92 92 (eqb-false 92 10 refl) (eqb-false 92 10 refl))
  | feed e ↦ rw e (pair 92 110 (eqb-false 92 10 refl) (eqb-false 110 10 refl))
  | tab e ↦ rw e (pair 92 116 (eqb-false 92 10 refl) (eqb-false 116 10 refl))
  | plain no_slash no_feed no_tab apart ↦ rw (no_slash, no_feed, no_tab) (All-cons IsInLine c [] apart (All-nil IsInLine))
]
  where
    pair : (a b : ℕ) → IsInLine a → IsInLine b → All IsInLine (a ∷ b ∷ [])
    pair a b first last = All-cons IsInLine a (b ∷ []) first (All-cons IsInLine b [] last (All-nil IsInLine))

pub escaped-one_line : (text : List ℕ) → All (λ (c : ℕ). c ≢ 10) (escaped text)
escaped-one_line [] = All-nil IsInLine
escaped-one_line (c ∷ cs) = All-append IsInLine (escape_of c) (escaped cs) (one_line_char c) (escaped-one_line cs)
