-- An input has one reading: no line of a document begins as a head does, and a document is told by its lines.
use Rattle.std.proofs.Common.{◌≡◌, ℕ, ◌==◌, Bool, true, false, List, [], ◌∷◌, ◌++◌, map, Option, Some, None, refl, sym, ap, ◌∙◌}
use Rattle.std.proofs.lemmas.Bool.{false≢true}
use Rattle.std.specs.List.{AllByRecursion}
use Rattle.tree_lines.specs.Written.{Written, Attribute, attribute_bytes, written_lines}
use Rattle.tree_lines.specs.Written as written
use Rattle.tree_lines.specs.Documents.{IsDocument}
use Rattle.plain_editor.specs.Sheets.{Sheet, sheet_head, sheet_lines, IsStyle, names_of, style_for, start}
use Rattle.plain_editor.specs.Sections.{Sections, sections_of}
use Rattle.plain_editor.specs.Input.{IsInput, document_head, script_head}

-- the line begins with `!`
abbrev pub is_head : List ℕ → Bool
is_head [] = false
is_head (c ∷ cs) = c == 33

abbrev pub AreNoHeads : List (List ℕ) → Type 0
AreNoHeads lines = AllByRecursion (λ line. is_head line ≡ false) lines

no_heads-append : (xs ys : List (List ℕ)) → AreNoHeads xs → AreNoHeads ys → AreNoHeads (xs ++ ys)
no_heads-append [] ys none more = more
no_heads-append (x ∷ xs) ys none more = (none.0, no_heads-append xs ys none.1 more)

attributes_no_heads : (attributes : List Attribute) → AreNoHeads (map attribute_bytes attributes)
attributes_no_heads [] = tt
attributes_no_heads (x ∷ xs) = (refl, attributes_no_heads xs)

pub written_no_heads : (d : Written) → AreNoHeads (written_lines d)
written_no_heads written.end = tt
written_no_heads (written.text t rest) = (refl, written_no_heads rest)
written_no_heads (written.comment t rest) = (refl, written_no_heads rest)
written_no_heads (written.element name attributes content rest) =
    let behind : AreNoHeads (written_lines content ++ ((41 ∷ name) ∷ written_lines rest)) =
    no_heads-append (written_lines content) ((41 ∷ name) ∷ written_lines rest) (written_no_heads content) (refl, written_no_heads rest) in
    (refl, no_heads-append (map attribute_bytes attributes) (written_lines content ++ ((41 ∷ name) ∷ written_lines rest)) (attributes_no_heads attributes) behind)

not_head : (head x : List ℕ) → is_head head ≡ true → is_head x ≡ false → head ≡ x → ⊥
not_head head x is none e = false≢true (sym none ∙ sym (ap is_head e) ∙ is)

-- what stands before the first head, and behind it
same_lines : (head : List ℕ) → is_head head ≡ true → (xs ys s t : List (List ℕ)) → AreNoHeads xs → AreNoHeads ys → xs ++ (head ∷ s) ≡ ys ++ (head ∷ t) → (xs ≡ ys) × (s ≡ t)
same_lines head is [] [] s t no_x no_y e = (refl, cc)
same_lines head is [] (y ∷ ys) s t no_x no_y e = let f : head ≡ y = cc in absurd (not_head head y is no_y.0 f)
same_lines head is (x ∷ xs) [] s t no_x no_y e = let f : head ≡ x = cc in absurd (not_head head x is no_x.0 f)
same_lines head is (x ∷ xs) (y ∷ ys) s t no_x no_y e =
    let first : x ≡ y = cc in
    let tail : xs ++ (head ∷ s) ≡ ys ++ (head ∷ t) = cc in
    let same = same_lines head is xs ys s t no_x.1 no_y.1 tail in
    (ap (λ z. z ∷ xs) first ∙ ap (λ zs. y ∷ zs) same.0, same.1)

-- documents are told by their lines
abbrev pub AreToldByLines : Type 0
AreToldByLines = (document other : Written) → IsDocument document → IsDocument other → written_lines document ≡ written_lines other → document ≡ other

-- the lines behind a stylesheet's
abbrev behind_sheet : Written → List (List ℕ) → List (List ℕ)
behind_sheet d s = document_head ∷ (written_lines d ++ (script_head ∷ s))

same_behind : AreToldByLines → (d e : Written) (s t : List (List ℕ)) → IsDocument d → IsDocument e → written_lines d ++ (script_head ∷ s) ≡ written_lines e ++ (script_head ∷ t) → (d ≡ e) × (s ≡ t)
same_behind one_document d e s t is_d is_e same =
    let lines = same_lines script_head refl (written_lines d) (written_lines e) s t (written_no_heads d) (written_no_heads e) same in
    (one_document d e is_d is_e lines.0, lines.1)

-- `!style NAME` is not `!document`, and has one name
abbrev is_style : List ℕ → Bool
is_style [] = false
is_style (a ∷ []) = false
is_style (a ∷ b ∷ line) = b == 115

abbrev behind_seven : List ℕ → List ℕ
behind_seven (a ∷ b ∷ c ∷ d ∷ e ∷ f ∷ g ∷ line) = line
behind_seven line = []

same_name : (x y : List ℕ) → sheet_head x ≡ sheet_head y → x ≡ y
same_name x y e = ap behind_seven e

pub no_style : (name : List ℕ) → sheet_head name ≡ document_head → ⊥
no_style name e = false≢true (sym (ap is_style e))

tails_same : {A : Type 0} (x y : A) (xs ys : List A) → x ∷ xs ≡ y ∷ ys → (x ≡ y) × (xs ≡ ys)
tails_same x y xs ys e = (cc, cc)

same_sheets : AreToldByLines → (x y : Sheet) → sheet_head x.name ≡ sheet_head y.name → IsDocument x.document → IsDocument y.document → written_lines x.document ≡ written_lines y.document → Some x ≡ Some y
same_sheets one_document x y head is_x is_y lines =
    let name : x.name ≡ y.name = same_name x.name y.name head in
    let document : x.document ≡ y.document = one_document x.document y.document is_x is_y lines in
    λ i. Some (record { name = name i; document = document i })

abbrev IsSame : Option Sheet → Option Sheet → Written → Written → List (List ℕ) → List (List ℕ) → Type 0
IsSame a b d e s t = (a ≡ b) × (d ≡ e) × (s ≡ t)

by_styles : AreToldByLines → (a b : Option Sheet) (d e : Written) (s t : List (List ℕ)) → IsStyle a → IsStyle b → IsDocument d → IsDocument e →
    sheet_lines a ++ behind_sheet d s ≡ sheet_lines b ++ behind_sheet e t → IsSame a b d e s t
by_styles one_document None None d e s t is_a is_b is_d is_e same =
    let both = tails_same document_head document_head (written_lines d ++ (script_head ∷ s)) (written_lines e ++ (script_head ∷ t)) same in
    let behind = same_behind one_document d e s t is_d is_e both.1 in
    (refl, behind.0, behind.1)
by_styles one_document None (Some y) d e s t is_a is_b is_d is_e same =
    let both = tails_same document_head (sheet_head y.name) (written_lines d ++ (script_head ∷ s)) (written_lines y.document ++ behind_sheet e t) same in
    absurd (no_style y.name (sym both.0))
by_styles one_document (Some x) None d e s t is_a is_b is_d is_e same =
    let both = tails_same (sheet_head x.name) document_head (written_lines x.document ++ behind_sheet d s) (written_lines e ++ (script_head ∷ t)) same in
    absurd (no_style x.name both.0)
by_styles one_document (Some x) (Some y) d e s t is_a is_b is_d is_e same =
    let both = tails_same (sheet_head x.name) (sheet_head y.name) (written_lines x.document ++ behind_sheet d s) (written_lines y.document ++ behind_sheet e t) same in
    let lines = same_lines document_head refl (written_lines x.document) (written_lines y.document) (written_lines d ++ (script_head ∷ s)) (written_lines e ++ (script_head ∷ t))
    (written_no_heads x.document) (written_no_heads y.document) both.1 in
    let behind = same_behind one_document d e s t is_d is_e lines.1 in
    (same_sheets one_document x y both.0 is_a.written is_b.written lines.0, behind.0, behind.1)

-- what an input says is told by its stylesheet, its document and its script
told_by : (sections : Sections) (sheet : Option Sheet) (d : Written) → sections.names ≡ names_of sheet d → sections.style ≡ style_for sheet d → sections.source ≡ start sheet d
    → sections ≡ sections_of sheet d sections.script
told_by sections sheet d names style source = λ i. record { names = names i; style = style i; source = source i; script = sections.script }

pub one_reading : AreToldByLines → (input : List ℕ) (a b : Sections) → IsInput input a → IsInput input b → a ≡ b
one_reading one_document input a b is other =
    let same = by_styles one_document is.sheet other.sheet is.document other.document a.script b.script is.styled other.styled is.built other.built (sym is.lines ∙ other.lines) in
    told_by a is.sheet is.document is.names is.style is.source
    ∙ (λ i. sections_of (same.0 i) (same.1 i) (same.2 i))
    ∙ sym (told_by b other.sheet other.document other.names other.style other.source)

pub written_once : AreToldByLines → (input : List ℕ) (a b : Sections) (is : IsInput input a) (other : IsInput input b) → (is.sheet ≡ other.sheet) × (is.document ≡ other.document)
written_once one_document input a b is other =
    let same = by_styles one_document is.sheet other.sheet is.document other.document a.script b.script is.styled other.styled is.built other.built (sym is.lines ∙ other.lines) in
    (same.0, same.1)
