-- The lines of a document are those of no other.
use Rattle.std.proofs.Common.{◌≡◌, ℕ, true, false, List, [], ◌∷◌, ◌++◌, map, Some, get_or, eqb, refl, sym, ap, subst, ◌∙◌, append-nil}
use Rattle.std.specs.Prelude.{◌==◌, IsTrue}
use Rattle.std.specs.List.{AllByRecursion}
use Rattle.std.proofs.lemmas.Bool.{false≢true, true≢false, eqb-true, eq-eqb}
use Rattle.std.proofs.lemmas.Option.{same_Some}
use Rattle.serna_kinds.specs.Qualified.{parted, is_name}
use Rattle.tree_lines.specs.Written.{Written, Attribute, attribute_bytes, written_lines, end, text, comment, element}
use Rattle.tree_lines.specs.Documents.{AreParted, IsDocument}
use Rattle.tree_lines.proofs.Parts.{parted-name}
use Rattle.tree_lines.proofs.Closing.{regroup}

-- an attribute's name ends at the first space
attribute_apart : (x y : Attribute) → IsTrue (is_name x.name) → IsTrue (is_name y.name) → x.name ++ 32 ∷ x.value ≡ y.name ++ 32 ∷ y.value → x ≡ y
attribute_apart x y named other e =
    let both : Some (x.name, x.value) ≡ Some (y.name, y.value) =
    sym (parted-name x.name x.value named) ∙ ap (parted 32) e ∙ parted-name y.name y.value other in
    let attribute : List ℕ × List ℕ → Attribute = λ p. record { name = p.0; value = p.1 } in
    ap attribute (same_Some (x.name, x.value) (y.name, y.value) both)

-- the lines do not begin with an attribute
abbrev HasNone : List (List ℕ) → Type 0
HasNone [] = Unit {0}
HasNone ([] ∷ lines) = Unit {0}
HasNone ((b ∷ bs) ∷ lines) = (b == 65) ≡ false

attributes_apart : (xs ys : List Attribute) (p q : List (List ℕ)) → AllByRecursion (λ (x : Attribute). IsTrue (is_name x.name)) xs → AllByRecursion (λ (y : Attribute). IsTrue (is_name y.name)) ys
    → HasNone p → HasNone q → map attribute_bytes xs ++ p ≡ map attribute_bytes ys ++ q → (xs ≡ ys) × (p ≡ q)
attributes_apart [] [] p q named other none_p none_q e = (refl, e)
attributes_apart [] (y ∷ ys) p q named other none_p none_q e = absurd (true≢false (subst HasNone e none_p))
attributes_apart (x ∷ xs) [] p q named other none_p none_q e = absurd (true≢false (subst HasNone (sym e) none_q))
attributes_apart (x ∷ xs) (y ∷ ys) p q named other none_p none_q e =
    let first : x.name ++ 32 ∷ x.value ≡ y.name ++ 32 ∷ y.value = cc in
    let later : map attribute_bytes xs ++ p ≡ map attribute_bytes ys ++ q = cc in
    let same : x ≡ y = attribute_apart x y named.0 other.0 first in
    let more = attributes_apart xs ys p q named.1 other.1 none_p none_q later in
    (ap (λ z. z ∷ xs) same ∙ ap (λ zs. y ∷ zs) more.0, more.1)

-- the lines are none, or begin with an end
abbrev Stops : List (List ℕ) → Type 0
Stops [] = Unit {0}
Stops ([] ∷ lines) = ⊥
Stops ((b ∷ bs) ∷ lines) = (b == 41) ≡ true

none_stops : (lines : List (List ℕ)) → Stops lines → HasNone lines
none_stops [] stops = tt
none_stops ([] ∷ lines) stops = tt
none_stops ((b ∷ bs) ∷ lines) stops = rw (eqb-true b 41 stops) refl

none_written : (content : Written) (rest : List (List ℕ)) → Stops rest → HasNone (written_lines content ++ rest)
none_written end rest stops = none_stops rest stops
none_written (text t content) rest stops = refl
none_written (comment t content) rest stops = refl
none_written (element name attributes inside content) rest stops = refl

-- the first byte of the first line
abbrev first_byte : List (List ℕ) → ℕ
first_byte lines = get_or (get_or lines 0 []) 0 0

differ : (a b : ℕ) → a ≡ b → eqb a b ≡ false → ⊥
differ a b e f = false≢true (sym f ∙ eq-eqb a b e)

-- neighbours end where the first end comes that is none of theirs
pub written_apart : (a b : Written) (r s : List (List ℕ)) → AreParted a → AreParted b → Stops r → Stops s → written_lines a ++ r ≡ written_lines b ++ s → (a ≡ b) × (r ≡ s)
written_apart end end r s pa pb sr ss e = (refl, e)
written_apart end (text t b) r s pa pb sr ss e = absurd (false≢true (subst Stops e sr))
written_apart end (comment t b) r s pa pb sr ss e = absurd (false≢true (subst Stops e sr))
written_apart end (element n ys c b) r s pa pb sr ss e = absurd (false≢true (subst Stops e sr))
written_apart (text t a) end r s pa pb sr ss e = absurd (false≢true (subst Stops (sym e) ss))
written_apart (text t a) (text u b) r s pa pb sr ss e =
    let first : t ≡ u = cc in
    let later = written_apart a b r s pa pb sr ss (cc) in
    (ap (λ x. text x a) first ∙ ap (text u) later.0, later.1)
written_apart (text t a) (comment u b) r s pa pb sr ss e = absurd (differ 45 67 (ap first_byte e) refl)
written_apart (text t a) (element n ys c b) r s pa pb sr ss e = absurd (differ 45 40 (ap first_byte e) refl)
written_apart (comment t a) end r s pa pb sr ss e = absurd (false≢true (subst Stops (sym e) ss))
written_apart (comment t a) (text u b) r s pa pb sr ss e = absurd (differ 67 45 (ap first_byte e) refl)
written_apart (comment t a) (comment u b) r s pa pb sr ss e =
    let first : t ≡ u = cc in
    let later = written_apart a b r s pa pb sr ss (cc) in
    (ap (λ x. comment x a) first ∙ ap (comment u) later.0, later.1)
written_apart (comment t a) (element n ys c b) r s pa pb sr ss e = absurd (differ 67 40 (ap first_byte e) refl)
written_apart (element n xs c a) end r s pa pb sr ss e = absurd (false≢true (subst Stops (sym e) ss))
written_apart (element n xs c a) (text u b) r s pa pb sr ss e = absurd (differ 40 45 (ap first_byte e) refl)
written_apart (element n xs c a) (comment u b) r s pa pb sr ss e = absurd (differ 40 67 (ap first_byte e) refl)
written_apart (element n xs c a) (element m ys d b) r s pa pb sr ss e =
    let name : n ≡ m = cc in
    let lines : (map attribute_bytes xs ++ (written_lines c ++ ((41 ∷ n) ∷ written_lines a))) ++ r ≡ (map attribute_bytes ys ++ (written_lines d ++ ((41 ∷ m) ∷ written_lines b))) ++ s = cc in
    let grouped = regroup (map attribute_bytes xs) (written_lines c) (written_lines a) r (41 ∷ n) ∙ lines ∙ sym (regroup (map attribute_bytes ys) (written_lines d) (written_lines b) s (41 ∷ m)) in
    let left = (41 ∷ n) ∷ (written_lines a ++ r) in
    let right = (41 ∷ m) ∷ (written_lines b ++ s) in
    let attributes = attributes_apart xs ys (written_lines c ++ left) (written_lines d ++ right) pa.0 pb.0 (none_written c left refl) (none_written d right refl) grouped in
    let inside = written_apart c d left right pa.1 pb.1 refl refl attributes.1 in
    let behind : written_lines a ++ r ≡ written_lines b ++ s = tails (41 ∷ n) (41 ∷ m) (written_lines a ++ r) (written_lines b ++ s) inside.1 in
    let later = written_apart a b r s pa.2 pb.2 sr ss behind in
    (ap (λ x. element x xs c a) name ∙ ap (λ x. element m x c a) attributes.0 ∙ ap (λ x. element m ys x a) inside.0 ∙ ap (element m ys d) later.0, later.1)
  where
    tails : (x y : List ℕ) (xs ys : List (List ℕ)) → x ∷ xs ≡ y ∷ ys → xs ≡ ys
    tails x y xs ys e = cc

pub one_document : (document other : Written) → IsDocument document → IsDocument other → written_lines document ≡ written_lines other → document ≡ other
one_document document other d o e =
    (written_apart document other [] [] d.parted o.parted tt tt (append-nil (written_lines document) ∙ e ∙ sym (append-nil (written_lines other)))).0
