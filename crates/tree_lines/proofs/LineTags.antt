-- What a line says, and the line that says it.
use Rattle.std.proofs.Common.{◌≡◌, ℕ, ◌+◌, ◌<◌, Bool, true, false, List, [], ◌∷◌, ◌++◌, Option, Some, None, length, get_or, suc, refl, sym, ap, ◌∙◌, arith, inl, inr}
use Rattle.std.specs.Prelude.{◌==◌, nat_lt, if◌then◌else◌}
use Rattle.std.specs.List.{position_or_len, before_first, after_first}
use Rattle.std.proofs.lemmas.Bool.{ltb-true, eqb-true}
use Rattle.std.proofs.lemmas.Bool.Decides.{eqb_tells}
use Rattle.std.proofs.lemmas.Option.{none-some, same_Some}
use Rattle.std.proofs.lemmas.List.Sums.{split_at_first}
use Rattle.serna_kinds.specs.Qualified.{parted}
use Rattle.tree_lines.specs.Tags.{Tag, attribute_tag, tag_of}
use Rattle.tree_lines.specs.Tags as tag

one_more : (n : ℕ) → 1 + n ≡ suc n
one_more n = omega arith

-- the first byte that is the mark
first_passes : (mark : ℕ) (text : List ℕ) → position_or_len (λ b. b == mark) text < length text → get_or text (position_or_len (λ b. b == mark) text) 0 ≡ mark
first_passes mark [] h = absurd (omega arith)
first_passes mark (b ∷ bs) h = by (b == mark) refl (first_passes mark bs)
  where
    by : (hit : Bool) → (b == mark) ≡ hit → (position_or_len (λ x. x == mark) bs < length bs → get_or bs (position_or_len (λ x. x == mark) bs) 0 ≡ mark)
        → get_or (b ∷ bs) (position_or_len (λ x. x == mark) (b ∷ bs)) 0 ≡ mark
    by true e later = rw e (eqb-true b mark e)
    by false e later =
        let within : 1 + position_or_len (λ x. x == mark) bs < suc (length bs) = rw e at h in
        rw e (rw (one_more (position_or_len (λ x. x == mark) bs)) (later (omega arith)))

parted_at : (mark : ℕ) (text : List ℕ) (parts : List ℕ × List ℕ) (within : Bool) → nat_lt (position_or_len (λ b. b == mark) text) (length text) ≡ within
    → (if within then Some (before_first (λ b. b == mark) text, after_first (λ b. b == mark) text) else None) ≡ Some parts → text ≡ parts.0 ++ mark ∷ parts.1
parted_at mark text parts true w e =
    let within = ltb-true (position_or_len (λ b. b == mark) text) (length text) w in
    let is : (before_first (λ b. b == mark) text, after_first (λ b. b == mark) text) ≡ parts = same_Some (before_first (λ b. b == mark) text, after_first (λ b. b == mark) text) parts e in
    split_at_first (λ b. b == mark) text 0 within
    ∙ ap (λ x. before_first (λ b. b == mark) text ++ x ∷ after_first (λ b. b == mark) text) (first_passes mark text within)
    ∙ ap (λ (p : List ℕ × List ℕ). p.0 ++ mark ∷ p.1) is
parted_at mark text parts false w e = absurd (none-some parts e)

-- the parts with the mark between them are the whole
pub parted-whole : (mark : ℕ) (text : List ℕ) (parts : List ℕ × List ℕ) → parted mark text ≡ Some parts → text ≡ parts.0 ++ mark ∷ parts.1
parted-whole mark text parts e = parted_at mark text parts (nat_lt (position_or_len (λ b. b == mark) text) (length text)) refl e

-- the line that says so
abbrev pub line_of : Tag → List ℕ
line_of (tag.Begin name) = 40 ∷ name
line_of (tag.Attribute name value) = 65 ∷ (name ++ 32 ∷ value)
line_of (tag.Text t) = 45 ∷ t
line_of (tag.Comment t) = 67 ∷ t
line_of (tag.Finish name) = 41 ∷ name

attribute_at : (rest : List ℕ) (t : Tag) (parts : Option (List ℕ × List ℕ)) → parted 32 rest ≡ parts → (elim parts [ None ↦ None | Some p ↦ Some (tag.Attribute p.0 p.1) ]) ≡ Some t → 65 ∷ rest ≡ line_of t
attribute_at rest t None e f = absurd (none-some t f)
attribute_at rest t (Some p) e f = ap (λ x. 65 ∷ x) (parted-whole 32 rest p e) ∙ ap line_of (same_Some (tag.Attribute p.0 p.1) t f)

pub line_of-tag : (line : List ℕ) (t : Tag) → tag_of line ≡ Some t → line ≡ line_of t
line_of-tag [] t e = absurd (none-some t e)
line_of-tag (b ∷ rest) t e = elim (eqb_tells b 40) [
  | inl is ↦ told b 40 rest (tag.Begin rest) t is.1 refl (rw is.1 at e)
  | inr begin ↦ let e1 = rw begin.0 at e in elim (eqb_tells b 65) [
    | inl is ↦ ap (λ x. x ∷ rest) is.1 ∙ attribute_at rest t (parted 32 rest) refl (rw is.1 at e1)
    | inr attribute ↦ let e2 = rw attribute.0 at e1 in elim (eqb_tells b 45) [
      | inl is ↦ told b 45 rest (tag.Text rest) t is.1 refl (rw is.1 at e2)
      | inr text ↦ let e3 = rw text.0 at e2 in elim (eqb_tells b 67) [
        | inl is ↦ told b 67 rest (tag.Comment rest) t is.1 refl (rw is.1 at e3)
        | inr comment ↦ let e4 = rw comment.0 at e3 in elim (eqb_tells b 41) [
          | inl is ↦ told b 41 rest (tag.Finish rest) t is.1 refl (rw is.1 at e4)
          | inr finish ↦ absurd (none-some t (rw finish.0 at e4))
        ]
      ]
    ]
  ]
]
  where
    told : (b mark : ℕ) (rest : List ℕ) (said t : Tag) → b ≡ mark → line_of said ≡ mark ∷ rest → Some said ≡ Some t → b ∷ rest ≡ line_of t
    told b mark rest said t is line e = ap (λ x. x ∷ rest) is ∙ sym line ∙ ap line_of (same_Some said t e)
