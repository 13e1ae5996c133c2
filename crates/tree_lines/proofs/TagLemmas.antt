-- What the first byte of a line says.
use Rattle.std.proofs.Common.{◌≡◌, ℕ, ◌<◌, eqb, Bool, true, false, List, [], ◌∷◌, None, refl, arith}
use Rattle.std.specs.Str.{IsUtf8, IsCharBoundary}
use Rattle.std.proofs.lemmas.Bool.{eqb-true}
use Rattle.std.proofs.lemmas.Str.{IsCharBoundary-after_ascii}
use Rattle.tree_lines.specs.Tags.{tag_of}

-- a text that cannot be cut behind its first byte says nothing
tag_by : (b : ℕ) (rest : List ℕ) → ((b < 128) → ⊥) → (b1 b2 b3 b4 b5 : Bool) → eqb b 40 ≡ b1 → eqb b 65 ≡ b2 → eqb b 45 ≡ b3 → eqb b 67 ≡ b4 → eqb b 41 ≡ b5 → tag_of (b ∷ rest) ≡ None
tag_by b rest high true b2 b3 b4 b5 e1 e2 e3 e4 e5 = let k = eqb-true b 40 e1 in absurd (high (omega arith))
tag_by b rest high false true b3 b4 b5 e1 e2 e3 e4 e5 = let k = eqb-true b 65 e2 in absurd (high (omega arith))
tag_by b rest high false false true b4 b5 e1 e2 e3 e4 e5 = let k = eqb-true b 45 e3 in absurd (high (omega arith))
tag_by b rest high false false false true b5 e1 e2 e3 e4 e5 = let k = eqb-true b 67 e4 in absurd (high (omega arith))
tag_by b rest high false false false false true e1 e2 e3 e4 e5 = let k = eqb-true b 41 e5 in absurd (high (omega arith))
tag_by b rest high false false false false false e1 e2 e3 e4 e5 = rw (e1, e2, e3, e4, e5) refl

pub tag_of-uncut : (text : List ℕ) → IsUtf8 text → (IsCharBoundary text 1 → ⊥) → tag_of text ≡ None
tag_of-uncut [] utf8 uncut = refl
tag_of-uncut (b ∷ rest) utf8 uncut =
    tag_by b rest (λ low. uncut (IsCharBoundary-after_ascii (b ∷ rest) 0 utf8 (omega arith) low)) (eqb b 40) (eqb b 65) (eqb b 45) (eqb b 67) (eqb b 41) refl refl refl refl refl
