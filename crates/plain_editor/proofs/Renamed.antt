-- The numbers of names do not show in the text of the view.
use Rattle.std.proofs.Common.{◌≡◌, ℕ, zero, suc, ◌+◌, ◌==◌, drop, length, List, [], ◌∷◌, ◌++◌, Bool, true, false, Option, Some, None, if◌then◌else◌, refl, sym, ap, ◌∙◌}
use Rattle.std.specs.List.{flat_map}
use Rattle.std.specs.Option.{option_map}
use Rattle.serna_kinds.specs.Names.{NameParts, Space}
use Rattle.tree_lines.specs.Written.{Written, written_lines}
use Rattle.tree_lines.specs.Written as written
use Rattle.tree_lines.specs.Texts.{meant}
use Rattle.tree_lines.specs.Given.{Given, count_of, with_text, given_in, spaces_of, given_of}
use Rattle.tree_lines.specs.Given as given
use Rattle.source_model.specs.Source.{Body, Forest, Source, numbers}
use Rattle.source_model.specs.Source as source
use Rattle.source_model.specs.Cells.{Spot, or_else, spot_in}
use Rattle.source_model.specs.PlainText.{own_text, spot_text, node_text, view_text}
use Rattle.source_tree.specs.Begun.{numbered, begun}

-- the forest with one name in place of every name
abbrev unnamed_body : Body → Body
unnamed_body source.Root = source.Root
unnamed_body (source.Element name attributes) = source.Element (record { 0 = 0 }) []
unnamed_body (source.Text t) = source.Text t
unnamed_body (source.Comment t) = source.Comment t

abbrev unnamed : Forest → Forest
unnamed source.none = source.none
unnamed (source.node n body kids rest) = source.node n (unnamed_body body) (unnamed kids) (unnamed rest)

abbrev unnamed_spot : Spot → Spot
unnamed_spot spot = record { up = spot.up; body = unnamed_body spot.body; kids = unnamed spot.kids }

numbers-unnamed : (f : Forest) → numbers (unnamed f) ≡ numbers f
numbers-unnamed source.none = refl
numbers-unnamed (source.node n body kids rest) = ap (λ ns. n ∷ ns) (numbers-unnamed rest)

or_else-map : (x y : Option Spot) → option_map unnamed_spot (or_else x y) ≡ or_else (option_map unnamed_spot x) (option_map unnamed_spot y)
or_else-map None y = refl
or_else-map (Some x) y = refl

map-if : (b : Bool) (x y : Option Spot) → option_map unnamed_spot (if b then x else y) ≡ (if b then option_map unnamed_spot x else option_map unnamed_spot y)
map-if true x y = refl
map-if false x y = refl

spot_in-unnamed : (up : Option ℕ) (n : ℕ) (f : Forest) → spot_in up n (unnamed f) ≡ option_map unnamed_spot (spot_in up n f)
spot_in-unnamed up n source.none = refl
spot_in-unnamed up n (source.node k body kids rest) =
    let later : or_else (spot_in (Some k) n (unnamed kids)) (spot_in up n (unnamed rest)) ≡ option_map unnamed_spot (or_else (spot_in (Some k) n kids) (spot_in up n rest)) =
    ap (λ o. or_else o (spot_in up n (unnamed rest))) (spot_in-unnamed (Some k) n kids) ∙ ap (or_else (option_map unnamed_spot (spot_in (Some k) n kids))) (spot_in-unnamed up n rest)
    ∙ sym (or_else-map (spot_in (Some k) n kids) (spot_in up n rest)) in
    ap (λ o. if n == k then Some (record { up = up; body = unnamed_body body; kids = unnamed kids }) else o) later
    ∙ sym (map-if (n == k) (Some (record { up = up; body = body; kids = kids })) (or_else (spot_in (Some k) n kids) (spot_in up n rest)))

own_text-unnamed : (body : Body) (inner : List ℕ) → own_text (unnamed_body body) inner ≡ own_text body inner
own_text-unnamed source.Root inner = refl
own_text-unnamed (source.Element name attributes) inner = refl
own_text-unnamed (source.Text t) inner = refl
own_text-unnamed (source.Comment t) inner = refl

flat_map-same : (f g : ℕ → List ℕ) → ((n : ℕ) → f n ≡ g n) → (ns : List ℕ) → flat_map f ns ≡ flat_map g ns
flat_map-same f g same [] = refl
flat_map-same f g same (n ∷ ns) = ap (λ xs. xs ++ flat_map f ns) (same n) ∙ ap (λ xs. g n ++ xs) (flat_map-same f g same ns)

spot_text-unnamed : (f g : ℕ → List ℕ) → ((n : ℕ) → f n ≡ g n) → (spot : Option Spot) → spot_text f (option_map unnamed_spot spot) ≡ spot_text g spot
spot_text-unnamed f g same None = refl
spot_text-unnamed f g same (Some spot) =
    own_text-unnamed spot.body (flat_map f (numbers (unnamed spot.kids)))
    ∙ ap (own_text spot.body) (ap (flat_map f) (numbers-unnamed spot.kids) ∙ flat_map-same f g same (numbers spot.kids))

node_text-unnamed : (left : ℕ) (s t : Source) (n : ℕ) → unnamed s.tree ≡ t.tree → node_text left t n ≡ node_text left s n
unfolding node_text
node_text-unnamed zero s t n same = refl
node_text-unnamed (suc left) s t n same =
    ap (λ f. spot_text (node_text left t) (spot_in None n f)) (sym same)
    ∙ ap (spot_text (node_text left t)) (spot_in-unnamed None n s.tree)
    ∙ spot_text-unnamed (node_text left t) (node_text left s) (λ m. node_text-unnamed left s t m same) (spot_in None n s.tree)

-- a tree with one name in place of every name, without attributes and without the numbers of lines
abbrev nameless : Given → Given
nameless given.end = given.end
nameless (given.text t rest) = given.text t (nameless rest)
nameless (given.comment t rest) = given.comment t (nameless rest)
nameless (given.element name attributes line content rest) = given.element (record { 0 = 0 }) [] 0 (nameless content) (nameless rest)

count_of-nameless : (g : Given) → count_of (nameless g) ≡ count_of g
count_of-nameless given.end = refl
count_of-nameless (given.text t rest) = ap (λ n. 1 + n) (count_of-nameless rest)
count_of-nameless (given.comment t rest) = ap (λ n. 1 + n) (count_of-nameless rest)
count_of-nameless (given.element name attributes line content rest) =
    ap (λ n. 1 + n + count_of (nameless rest)) (count_of-nameless content) ∙ ap (λ n. 1 + count_of content + n) (count_of-nameless rest)

unnamed-numbered : (k : ℕ) (g : Given) → unnamed (numbered k g) ≡ numbered k (nameless g)
unnamed-numbered k given.end = refl
unnamed-numbered k (given.text t rest) = ap (source.node k (source.Text t) source.none) (unnamed-numbered (k + 1) rest)
unnamed-numbered k (given.comment t rest) = ap (source.node k (source.Comment t) source.none) (unnamed-numbered (k + 1) rest)
unnamed-numbered k (given.element name attributes line content rest) =
    ap (λ f. source.node k (source.Element (record { 0 = 0 }) []) f (unnamed (numbered (k + 1 + count_of content) rest))) (unnamed-numbered (k + 1) content)
    ∙ ap (source.node k (source.Element (record { 0 = 0 }) []) (numbered (k + 1) (nameless content))) (unnamed-numbered (k + 1 + count_of content) rest)
    ∙ ap (λ n. source.node k (source.Element (record { 0 = 0 }) []) (numbered (k + 1) (nameless content)) (numbered (k + 1 + n) (nameless rest))) (sym (count_of-nameless content))

-- the tree without names is the same, whatever table numbers them
nameless-with_text : (t : List ℕ) (g : Given) → nameless (with_text t g) ≡ with_text t (nameless g)
nameless-with_text [] g = refl
nameless-with_text (c ∷ cs) given.end = refl
nameless-with_text (c ∷ cs) (given.text t rest) = refl
nameless-with_text (c ∷ cs) (given.comment t rest) = refl
nameless-with_text (c ∷ cs) (given.element name attributes line content rest) = refl

nameless-given_in : (names names₁ : List NameParts) (spaces : List Space) (lines lines₁ : List ℕ) (d : Written)
    → nameless (given_in names spaces lines d) ≡ nameless (given_in names₁ spaces lines₁ d)
nameless-given_in names names₁ spaces lines lines₁ written.end = refl
nameless-given_in names names₁ spaces lines lines₁ (written.text t rest) =
    nameless-with_text (meant t) (given_in names spaces (drop 1 lines) rest)
    ∙ ap (with_text (meant t)) (nameless-given_in names names₁ spaces (drop 1 lines) (drop 1 lines₁) rest)
    ∙ sym (nameless-with_text (meant t) (given_in names₁ spaces (drop 1 lines₁) rest))
nameless-given_in names names₁ spaces lines lines₁ (written.comment t rest) =
    ap (given.comment (meant t)) (nameless-given_in names names₁ spaces (drop 1 lines) (drop 1 lines₁) rest)
nameless-given_in names names₁ spaces lines lines₁ (written.element name attributes content rest) =
    let inner : List ℕ = drop (1 + length attributes) lines in
    let inner₁ : List ℕ = drop (1 + length attributes) lines₁ in
    let behind : List ℕ = drop (1 + length (written_lines content)) inner in
    let behind₁ : List ℕ = drop (1 + length (written_lines content)) inner₁ in
    ap (λ g. given.element (record { 0 = 0 }) [] 0 g (nameless (given_in names spaces behind rest))) (nameless-given_in names names₁ spaces inner inner₁ content)
    ∙ ap (given.element (record { 0 = 0 }) [] 0 (nameless (given_in names₁ spaces inner₁ content))) (nameless-given_in names names₁ spaces behind behind₁ rest)

view_text-nameless : (spaces : List Space) (g : Given) → view_text (begun spaces (nameless g)) ≡ view_text (begun spaces g)
unfolding view_text begun
view_text-nameless spaces g =
    node_text-unnamed 200 (record { tree = source.node 0 source.Root (numbered 1 g) source.none; made = count_of g; spaces = spaces })
    (record { tree = source.node 0 source.Root (numbered 1 (nameless g)) source.none; made = count_of (nameless g); spaces = spaces }) 0
    (ap (λ f. source.node 0 source.Root f source.none) (unnamed-numbered 1 g))

pub view_text-renamed : (names names₁ : List NameParts) (lines lines₁ : List ℕ) (spaces : List Space) (document : Written) →
    view_text (begun spaces (given_of names lines document)) ≡ view_text (begun spaces (given_of names₁ lines₁ document))
view_text-renamed names names₁ lines lines₁ spaces document =
    sym (view_text-nameless spaces (given_of names lines document))
    ∙ ap (λ g. view_text (begun spaces g)) (nameless-given_in names names₁ (spaces_of document) lines lines₁ document)
    ∙ view_text-nameless spaces (given_of names₁ lines₁ document)

pub ruleset all = view_text-renamed
