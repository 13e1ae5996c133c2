-- A run of which some characters have their boundaries, and the others are left.
use Rattle.std.proofs.Common.{◌≡◌, ℕ, ◌+◌, List, [], ◌∷◌, ◌++◌, length, encode_utf8_all, refl, sym, ap, ◌∙◌, arith, append_assoc, length-append}
use Rattle.std.proofs.lemmas.List.{map-append}
use Rattle.std.proofs.lemmas.Str.{encode_same, length-encode, len_utf8_bounds, encodes-chars}
use Rattle.std.specs.Char.{encode_utf8}
use Rattle.std.specs.Str.{chars, IsUtf8}
use Rattle.result_origin.specs.declared.origin.Origin.{Origin}
use Rattle.plain_editor.specs.Stops.{Boundary, boundary, behind_start, run_boundaries}
use Rattle.live_editor.specs.declared.view.Boundary as view
use Rattle.live_editor.specs.Shown.{boundary_of, boundaries_of}

-- of a text that begins in a column and so many bytes behind the start of its run, the boundaries stand up to a column and a place, and
-- this is left of its bytes
pub record IsBegun (page line : ℕ) (origin : Origin) (text : List ℕ) (column first : ℕ) (old : List Boundary) (next at : ℕ) (rest : List ℕ) (now : List Boundary) : Type 0 where
  pub left : List ℕ
  pub encoded : encode_utf8_all left ≡ rest
  pub boundaries : now ++ run_boundaries page line next at origin left ≡ old ++ run_boundaries page line column first origin text
  pub columns : next + length left ≡ column + length text

pub begun_none : (page line : ℕ) (origin : Origin) (bytes : List ℕ) (column first : ℕ) (old : List Boundary) (at : ℕ) (rest : List ℕ) → IsUtf8 bytes → at ≡ first → rest ≡ bytes →
    IsBegun page line origin (chars bytes) column first old column at rest old
begun_none page line origin bytes column first old at rest utf8 none all = record {
  left = chars bytes;
  encoded = encodes-chars bytes utf8 ∙ sym all;
  boundaries = ap (λ n. old ++ run_boundaries page line column n origin (chars bytes)) none;
  columns = refl;
}

encode_some : (c : ℕ) (rest : List ℕ) → [] ≡ encode_utf8 c ++ rest → ⊥
encode_some c rest e = omega (arith, ap length e, length-append (encode_utf8 c) rest, length-encode c, (len_utf8_bounds c).0)

-- one character more
begun_by : (page line : ℕ) (origin : Origin) (text : List ℕ) (column first : ℕ) (old : List Boundary) (next at : ℕ) (left rest : List ℕ) (now : List Boundary) (c behind : ℕ) (more : List Boundary) →
    encode_utf8_all left ≡ encode_utf8 c ++ rest → now ++ run_boundaries page line next at origin left ≡ old ++ run_boundaries page line column first origin text → next + length left ≡ column + length text →
    behind ≡ at + length (encode_utf8 c) → more ≡ now ++ boundary page line next (behind_start at origin) ∷ [] → IsBegun page line origin text column first old (next + 1) behind rest more
begun_by page line origin text column first old next at [] rest now c behind more e boundaries columns moved pushed = absurd (encode_some c rest e)
begun_by page line origin text column first old next at (d ∷ left) rest now c behind more e boundaries columns moved pushed =
    let same : (d ≡ c) × (encode_utf8_all left ≡ rest) = encode_same d c (encode_utf8_all left) rest e in
    let at_next : behind ≡ at + length (encode_utf8 d) = moved ∙ ap (λ x. at + length (encode_utf8 x)) (sym same.0) in
    record {
      left = left;
      encoded = same.1;
      boundaries = ap (λ bs. bs ++ run_boundaries page line (next + 1) behind origin left) pushed
          ∙ append_assoc now (boundary page line next (behind_start at origin) ∷ []) (run_boundaries page line (next + 1) behind origin left)
          ∙ ap (λ n. now ++ (boundary page line next (behind_start at origin) ∷ run_boundaries page line (next + 1) n origin left)) at_next ∙ boundaries;
      columns = omega arith;
    }

pub begun_more : (page line : ℕ) (origin : Origin) (text : List ℕ) (column first : ℕ) (old : List Boundary) (next at : ℕ) (before rest : List ℕ) (now : List Boundary) (c behind : ℕ) (more : List Boundary) →
    IsBegun page line origin text column first old next at before now → before ≡ encode_utf8 c ++ rest → behind ≡ at + length (encode_utf8 c) → more ≡ now ++ boundary page line next (behind_start at origin) ∷ [] →
    IsBegun page line origin text column first old (next + 1) behind rest more
begun_more page line origin text column first old next at before rest now c behind more is e moved pushed =
    begun_by page line origin text column first old next at is.left rest now c behind more (is.encoded ∙ e) is.boundaries is.columns moved pushed

-- the last boundary
done_by : (page line : ℕ) (origin : Origin) (text : List ℕ) (column first : ℕ) (old : List Boundary) (next at : ℕ) (left : List ℕ) (now : List Boundary) → encode_utf8_all left ≡ [] →
    now ++ run_boundaries page line next at origin left ≡ old ++ run_boundaries page line column first origin text → next + length left ≡ column + length text →
    (now ++ boundary page line next (behind_start at origin) ∷ [] ≡ old ++ run_boundaries page line column first origin text) × (next ≡ column + length text)
done_by page line origin text column first old next at [] now e boundaries columns = (boundaries, omega arith)
done_by page line origin text column first old next at (c ∷ left) now e boundaries columns = absurd (encode_some c (encode_utf8_all left) (sym e))

pub begun_all : (page line : ℕ) (origin : Origin) (text : List ℕ) (column first : ℕ) (old : List Boundary) (next at : ℕ) (rest : List ℕ) (now : List Boundary) →
    IsBegun page line origin text column first old next at rest now → rest ≡ [] →
    (now ++ boundary page line next (behind_start at origin) ∷ [] ≡ old ++ run_boundaries page line column first origin text) × (next ≡ column + length text)
begun_all page line origin text column first old next at rest now is none = done_by page line origin text column first old next at is.left now (is.encoded ∙ none) is.boundaries is.columns

-- a boundary more in the code
pub length-more : {A : Type 0} (xs ys : List A) (x : A) → ys ≡ xs ++ x ∷ [] → length ys ≡ length xs + 1
length-more xs ys x e = ap length e ∙ length-append xs (x ∷ [])

pub boundaries_of-more : (here more : List view.Boundary) (page line column at : ℕ) (made origin : Origin) → more ≡ here ++ record { page = page; line = line; column = column; origin = made } ∷ [] →
    made ≡ behind_start at origin → boundaries_of more ≡ boundaries_of here ++ boundary page line column (behind_start at origin) ∷ []
boundaries_of-more here more page line column at made origin pushed e =
    ap boundaries_of pushed ∙ map-append boundary_of here (record { page = page; line = line; column = column; origin = made } ∷ []) ∙ ap (λ o. boundaries_of here ++ boundary page line column o ∷ []) e
