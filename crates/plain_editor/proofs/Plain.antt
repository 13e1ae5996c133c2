-- Printable ASCII, and what it means.
use Rattle.std.proofs.Common.{◌≡◌, ℕ, ◌<◌, ◌≤◌, ◌==◌, ◌&&◌, nat_le, Bool, true, false, List, [], ◌∷◌, ◌++◌, if◌then◌else◌, refl, sym, ap, ◌∙◌, arith}
use Rattle.std.proofs.lemmas.Bool.{and_parts, leb-true, ne_eqb, false≢true}
use Rattle.std.proofs.lemmas.Str.{chars-IsAscii, IsUtf8-from_ascii, is_utf8-from_IsUtf8}
use Rattle.std.proofs.lemmas.Str.Ascii.{IsAscii-nil, IsAscii-cons}
use Rattle.std.specs.List.{list_all}
use Rattle.std.specs.Str.{IsAscii, IsUtf8}
use Rattle.tree_lines.specs.Texts.{is_allowed, is_line, unescaped_behind, meant}
use Rattle.plain_editor.specs.Plain.{is_plain}

ascii_byte : (c : ℕ) → (nat_le 32 c && nat_le c 126) ≡ true → c < 128
ascii_byte c h = let last = leb-true c 126 (and_parts (nat_le 32 c) (nat_le c 126) h).1 in omega arith

pub IsAscii-plain : (t : List ℕ) → is_plain t ≡ true → IsAscii t
IsAscii-plain [] h = IsAscii-nil
IsAscii-plain (c ∷ cs) h =
    let parts = and_parts (nat_le 32 c && nat_le c 126) (is_plain cs) h in
    IsAscii-cons c cs (ascii_byte c parts.0) (IsAscii-plain cs parts.1)

pub IsUtf8-plain : (t : List ℕ) → is_plain t ≡ true → IsUtf8 t
IsUtf8-plain t h = IsUtf8-from_ascii t (IsAscii-plain t h)

abbrev is_none : List ℕ → Bool
is_none [] = true
is_none (c ∷ cs) = false

-- characters mean some, behind a backslash and elsewhere
escape_some : (c : ℕ) (rest : List ℕ) (a b d : Bool) → is_none ((if a then 92 ∷ [] else (if b then 10 ∷ [] else (if d then 9 ∷ [] else 92 ∷ c ∷ []))) ++ rest) ≡ false
escape_some c rest true b d = refl
escape_some c rest false true d = refl
escape_some c rest false false true = refl
escape_some c rest false false false = refl

behind_some : (cs : List ℕ) → is_none (unescaped_behind true cs) ≡ false
behind_some [] = refl
behind_some (c ∷ cs) = escape_some c (unescaped_behind false cs) (c == 92) (c == 110) (c == 116)

if_some : (b : Bool) (x y : List ℕ) → is_none x ≡ false → is_none y ≡ false → is_none (if b then x else y) ≡ false
if_some true x y p q = p
if_some false x y p q = q

meant_some : (c : ℕ) (cs : List ℕ) → is_none (unescaped_behind false (c ∷ cs)) ≡ false
meant_some c cs = if_some (c == 92) (unescaped_behind true cs) (c ∷ unescaped_behind false cs) (behind_some cs) refl

pub plain_meant : (c : ℕ) (cs : List ℕ) → is_plain (c ∷ cs) ≡ true → meant (c ∷ cs) ≡ [] → ⊥
plain_meant c cs plain e =
    false≢true (sym (meant_some c cs) ∙ ap (λ t. is_none (unescaped_behind false t)) (sym (chars-IsAscii (c ∷ cs) (IsAscii-plain (c ∷ cs) plain))) ∙ ap is_none e)

-- a line may have it
allowed_byte : (c : ℕ) → (nat_le 32 c && nat_le c 126) ≡ true → is_allowed c ≡ true
allowed_byte c h =
    let parts = and_parts (nat_le 32 c) (nat_le c 126) h in
    let last : c ≤ 126 = leb-true c 126 parts.1 in
    let one : (c == 65534) ≡ false = ne_eqb c 65534 (λ e. absurd (omega arith)) in
    let other : (c == 65535) ≡ false = ne_eqb c 65535 (λ e. absurd (omega arith)) in
    rw (parts.0, one, other) refl

all_allowed : (t : List ℕ) → is_plain t ≡ true → list_all is_allowed t ≡ true
all_allowed [] h = refl
all_allowed (c ∷ cs) h =
    let parts = and_parts (nat_le 32 c && nat_le c 126) (is_plain cs) h in
    rw (allowed_byte c parts.0) (all_allowed cs parts.1)

pub is_line-plain : (t : List ℕ) → is_plain t ≡ true → is_line t ≡ true
is_line-plain t h =
    rw (is_utf8-from_IsUtf8 t (IsUtf8-plain t h)) (ap (list_all is_allowed) (chars-IsAscii t (IsAscii-plain t h)) ∙ all_allowed t h)
