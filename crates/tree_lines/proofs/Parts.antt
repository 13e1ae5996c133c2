-- Texts cut at a mark, and the bytes that a written name lacks.
use Rattle.std.proofs.Common.{◌≡◌, ℕ, ◌+◌, Bool, true, false, List, [], ◌∷◌, ◌++◌, length, take, drop, eqb, ltb, Option, Some, None, refl, sym, ap, ◌∙◌, arith, take_at, drop_at, append_assoc, length-append, true≢false, subst}
use Rattle.std.specs.Prelude.{IsTrue, ◌==◌}
use Rattle.std.specs.List.{AllByRecursion, list_all, position_or_len}
use Rattle.std.proofs.lemmas.Bool.{eq-eqb, eqb-true, lt-ltb, le-ltb, and_parts, false_from_ne_true}
use Rattle.tree_lines.specs.Tags.{tag_of}
use Rattle.tree_lines.specs.Tags as tag
use Rattle.serna_kinds.specs.Qualified.{parted, begins_name, continues_name, is_local_name, is_name, prefix_of, local_of}

-- none of the bytes is the mark
abbrev pub Lacks : ℕ → List ℕ → Type 0
Lacks mark text = AllByRecursion (λ (b : ℕ). eqb b mark ≡ false) text

Lacks-append : (mark : ℕ) (a b : List ℕ) → Lacks mark a → Lacks mark b → Lacks mark (a ++ b)
Lacks-append mark [] b none rest = rest
Lacks-append mark (c ∷ cs) b none rest = (none.0, Lacks-append mark cs b none.1 rest)

place_at : (mark : ℕ) (a b : List ℕ) → Lacks mark a → position_or_len (λ (c : ℕ). c == mark) (a ++ mark ∷ b) ≡ length a
place_at mark [] b none = rw (eq-eqb mark mark refl) refl
place_at mark (c ∷ cs) b none = rw none.0 (omega (arith, place_at mark cs b none.1))

place_past : (mark : ℕ) (a : List ℕ) → Lacks mark a → position_or_len (λ (c : ℕ). c == mark) a ≡ length a
place_past mark [] none = refl
place_past mark (c ∷ cs) none = rw none.0 (omega (arith, place_past mark cs none.1))

-- the text is cut at its first mark
pub parted-at : (mark : ℕ) (a b : List ℕ) → Lacks mark a → parted mark (a ++ mark ∷ b) ≡ Some (a, b)
parted-at mark a b none =
    let whole : List ℕ = a ++ mark ∷ b in
    let within : ltb (length a) (length whole) ≡ true = lt-ltb (length a) (length whole) (omega (arith, length-append a (mark ∷ b))) in
    let front : take (length a) whole ≡ a = take_at a (mark ∷ b) (length a) refl in
    let behind : drop (length a + 1) whole ≡ b =
    ap (drop (length a + 1)) (sym (append_assoc a (mark ∷ []) b)) ∙ drop_at (a ++ mark ∷ []) b (length a + 1) (length-append a (mark ∷ [])) in
    rw (place_at mark a b none, within, front, behind) refl

pub parted-past : (mark : ℕ) (a : List ℕ) → Lacks mark a → parted mark a ≡ None
parted-past mark a none = rw (place_past mark a none, le-ltb (length a) (length a) (omega arith)) refl

-- a text has the mark, or lacks it
pub data Cut (mark : ℕ) (text : List ℕ) : Type 0 where
  at : (a b : List ℕ) → text ≡ a ++ mark ∷ b → Lacks mark a → Cut mark text
  past : Lacks mark text → Cut mark text

cut_behind : (mark c : ℕ) (cs : List ℕ) → eqb c mark ≡ false → Cut mark cs → Cut mark (c ∷ cs)
cut_behind mark c cs other (at a b e none) = at (c ∷ a) b (ap (λ (x : List ℕ). c ∷ x) e) (other, none)
cut_behind mark c cs other (past none) = past (other, none)

pub cut_of : (mark : ℕ) (text : List ℕ) → Cut mark text
cut_of mark [] = past tt
cut_of mark (c ∷ cs) = by (eqb c mark) refl (cut_of mark cs)
  where
    by : (b : Bool) → eqb c mark ≡ b → Cut mark cs → Cut mark (c ∷ cs)
    by true same rest = at [] cs (ap (λ (x : ℕ). x ∷ cs) (eqb-true c mark same)) tt
    by false other rest = cut_behind mark c cs other rest

-- a byte that no name has
continues-lacks : (mark : ℕ) (text : List ℕ) → continues_name mark ≡ false → list_all continues_name text ≡ true → Lacks mark text
continues-lacks mark [] never all = tt
continues-lacks mark (c ∷ cs) never all =
    let parts = and_parts (continues_name c) (list_all continues_name cs) all in
    (false_from_ne_true (eqb c mark) (λ same. true≢false (sym parts.0 ∙ ap continues_name (eqb-true c mark same) ∙ never)), continues-lacks mark cs never parts.1)

pub local-lacks : (mark : ℕ) (text : List ℕ) → continues_name mark ≡ false → is_local_name text ≡ true → Lacks mark text
local-lacks mark [] never good = tt
local-lacks mark (c ∷ cs) never good =
    let parts = and_parts (begins_name c) (list_all continues_name cs) good in
    continues-lacks mark (c ∷ cs) never (rw (begins-continues c parts.0) parts.1)
  where
    begins-continues : (b : ℕ) → begins_name b ≡ true → continues_name b ≡ true
    begins-continues b begun = rw begun refl

-- a name is a local name, or a prefix, a colon and a local name
pub data NameCase (name : List ℕ) : Type 0 where
  plain : is_local_name name ≡ true → prefix_of name ≡ [] → local_of name ≡ name → NameCase name
  prefixed : (prefix local : List ℕ) → name ≡ prefix ++ 58 ∷ local → is_local_name prefix ≡ true → is_local_name local ≡ true
      → prefix_of name ≡ prefix → local_of name ≡ local → NameCase name

pub name_case : (name : List ℕ) → IsTrue (is_name name) → NameCase name
name_case name good = by (cut_of 58 name)
  where
    by : Cut 58 name → NameCase name
    by (past none) =
        let none_at = parted-past 58 name none in
        plain (rw (none_at, is_name) at good) (rw (none_at, prefix_of) refl) (rw (none_at, local_of) refl)
    by (at a b e none) =
        let cut = ap (parted 58) e ∙ parted-at 58 a b none in
        let parts = and_parts (is_local_name a) (is_local_name b) (rw (cut, is_name) at good) in
        prefixed a b e parts.0 parts.1 (rw (cut, prefix_of) refl) (rw (cut, local_of) refl)

-- a name lacks what no local name has, but for the colon
pub name-lacks : (mark : ℕ) (name : List ℕ) → continues_name mark ≡ false → eqb 58 mark ≡ false → IsTrue (is_name name) → Lacks mark name
name-lacks mark name never other good = by (name_case name good)
  where
    by : NameCase name → Lacks mark name
    by (plain local front behind) = local-lacks mark name never local
    by (prefixed prefix local e first second front behind) =
        subst (Lacks mark) (sym e) (Lacks-append mark prefix (58 ∷ local) (local-lacks mark prefix never first) (other, local-lacks mark local never second))

-- a name and a value stand on both sides of the first space
pub parted-name : (name value : List ℕ) → IsTrue (is_name name) → parted 32 (name ++ 32 ∷ value) ≡ Some (name, value)
parted-name name value good = parted-at 32 name value (name-lacks 32 name refl refl good)

pub tag_of-attribute : (name value : List ℕ) → IsTrue (is_name name) → tag_of (65 ∷ (name ++ 32 ∷ value)) ≡ Some (tag.Attribute name value)
tag_of-attribute name value good =
    ap (λ (o : Option (List ℕ × List ℕ)). elim o [ None ↦ None | Some p ↦ Some (tag.Attribute p.0 p.1) ]) (parted-name name value good)
