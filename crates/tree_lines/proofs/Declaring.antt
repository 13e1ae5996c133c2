-- What the lines of a document declare, line by line.
use Rattle.std.proofs.Common.{◌≡◌, ℕ, suc, cond, ◌+◌, ◌<◌, Bool, true, false, List, [], ◌∷◌, ◌++◌, length, drop, get_or, refl, sym, ap, ◌∙◌, append-nil, append_assoc, drop-cons, arith}
use Rattle.std.specs.List.{flat_map, take_while}
use Rattle.std.specs.Str.{IsUtf8, is_utf8}
use Rattle.std.proofs.lemmas.Bool.{false≢true}
use Rattle.std.proofs.lemmas.List.Sums.{take_while-cons}
use Rattle.std.proofs.lemmas.Str.{IsUtf8-from_is_utf8, is_utf8-from_IsUtf8}
use Rattle.serna_kinds.specs.Names.{Space}
use Rattle.tree_lines.specs.Declarations.{begins_with, declared_behind, declared_by}

-- a line that is not UTF-8 declares nothing
pub declared_by-no_text : (spaces : List Space) (bytes : List ℕ) → (IsUtf8 bytes → ⊥) → spaces ≡ spaces ++ declared_by bytes
declared_by-no_text spaces [] bad = sym (append-nil spaces)
declared_by-no_text spaces (b ∷ rest) bad = by (is_utf8 (b ∷ rest)) refl
  where
    by : (c : Bool) → is_utf8 (b ∷ rest) ≡ c → spaces ≡ spaces ++ declared_by (b ∷ rest)
    by true e = absurd (bad (IsUtf8-from_is_utf8 (b ∷ rest) e))
    by false e = rw e (sym (append-nil spaces))

-- and any other declares what stands behind its first byte
pub declared_by-text : (bytes text rest : List ℕ) → text ≡ bytes → IsUtf8 bytes → begins_with 65 bytes ≡ true → rest ≡ drop 1 text → declared_by bytes ≡ declared_behind rest
declared_by-text [] text rest same utf8 mark cut = absurd (false≢true mark)
declared_by-text (b ∷ bytes) text rest same utf8 mark cut =
    let e : declared_by (b ∷ bytes) ≡ declared_behind bytes = rw (is_utf8-from_IsUtf8 (b ∷ bytes) utf8) refl in
    e ∙ ap declared_behind (sym (cut ∙ ap (λ (t : List ℕ). drop 1 t) same))

-- the element at an index stands before what follows it
pub drop-item : {X : Type 0} (xs : List X) (i : ℕ) (x : X) → x ≡ get_or xs i x → i < length xs → drop i xs ≡ x ∷ drop (i + 1) xs
drop-item xs i x at within =
    let next : suc i ≡ i + 1 = omega arith in
    drop-cons xs i x within ∙ ap (λ y. y ∷ drop (suc i) xs) (sym at) ∙ ap (λ n. x ∷ drop n xs) next

-- an attribute's line more
pub declared_more : (spaces new total : List Space) (line : List ℕ) (lines rest : List (List ℕ)) → lines ≡ line ∷ rest → begins_with 65 line ≡ true → new ≡ spaces ++ declared_by line
    → spaces ++ flat_map declared_by (take_while (begins_with 65) lines) ≡ total → new ++ flat_map declared_by (take_while (begins_with 65) rest) ≡ total
declared_more spaces new total line lines rest cut mark added before =
    let all : take_while (begins_with 65) lines ≡ line ∷ take_while (begins_with 65) rest = ap (take_while (begins_with 65)) cut ∙ take_while-cons (begins_with 65) line rest ∙ ap (λ (b : Bool). cond b (line ∷ take_while (begins_with 65) rest) []) mark in
    ap (λ (s : List Space). s ++ flat_map declared_by (take_while (begins_with 65) rest)) added
    ∙ append_assoc spaces (declared_by line) (flat_map declared_by (take_while (begins_with 65) rest))
    ∙ ap (λ (l : List (List ℕ)). spaces ++ flat_map declared_by l) (sym all)
    ∙ before
