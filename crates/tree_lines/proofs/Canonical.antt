-- The canonical text part by part: what a writer adds to it, and what it is of an element and of a whole document.
use Rattle.std.proofs.Common.{◌≡◌, ℕ, List, [], ◌∷◌, ◌++◌, map, refl, sym, ap, ◌∙◌, append_assoc, append-nil, encode_utf8_all, zero, suc, ◌+◌, take, slice_get, Some, arith, encode_utf8_all}
use Rattle.std.proofs.lemmas.List.{map-append}
use Rattle.std.proofs.lemmas.Option.{none-some}
use Rattle.std.proofs.lemmas.Str.{encodes-append}
use Rattle.std.proofs.lemmas.Grind.{flat_map-append}
use Rattle.serna_kinds.specs.declared.cells.NameId.{NameId}
use Rattle.serna_kinds.specs.declared.cells.AttrPair.{AttrPair}
use Rattle.serna_kinds.specs.Names.{NameParts, Space}
use Rattle.tree_lines.specs.declared.tree.TreeItem.{TreeItem}
use Rattle.tree_lines.specs.declared.tree.TreeItem.TheVariants as item
use Rattle.tree_lines.specs.Given.{Given, items_of}
use Rattle.tree_lines.specs.Given as given
use Rattle.tree_lines.specs.Canonical.{escape_of, escaped, text_line, comment_line, begin_lines, outermost_lines, end_line, canonical_lines, line_text, text_of_lines, canonical_text, declaration_line}
use Rattle.tree_lines.specs.Writing.{items_text}

-- a character more
pub escaped-more : (old now new cs : List ℕ) (c : ℕ) → now ≡ old ++ encode_utf8_all (escaped cs) → new ≡ now ++ encode_utf8_all (escape_of c) → new ≡ old ++ encode_utf8_all (escaped (cs ++ c ∷ []))
escaped-more old now new cs c before after =
    let one : escaped (cs ++ c ∷ []) ≡ escaped cs ++ escape_of c =
    flat_map-append escape_of cs (c ∷ []) ∙ ap (λ (x : List ℕ). escaped cs ++ x) (append-nil (escape_of c)) in
    after ∙ ap (λ (x : List ℕ). x ++ encode_utf8_all (escape_of c)) before
    ∙ append_assoc old (encode_utf8_all (escaped cs)) (encode_utf8_all (escape_of c))
    ∙ ap (λ (x : List ℕ). old ++ x) (sym (encodes-append (escaped cs) (escape_of c)) ∙ ap encode_utf8_all (sym one))

-- the list up to one place more
take-more : {X : Type 0} (xs : List X) (i : ℕ) (x : X) → slice_get xs i ≡ Some x → take (1 + i) xs ≡ take i xs ++ x ∷ []
take-more [] i x at = absurd (none-some x at)
take-more (y ∷ ys) zero x at = let same : y ≡ x = cc in rw same refl
take-more {X = X} (y ∷ ys) (suc i) x at =
    let on : 1 + suc i ≡ suc (1 + i) = omega arith in
    ap (λ (n : ℕ). take n (y ∷ ys)) on ∙ ap (λ (zs : List X). y ∷ zs) (take-more ys i x at)

-- a declaration more
pub declared-more : (old now new : List ℕ) (spaces : List Space) (i : ℕ) (s : Space) → slice_get spaces i ≡ Some s
    → now ≡ old ++ text_of_lines (map declaration_line (take i spaces)) → new ≡ now ++ line_text (declaration_line s)
    → new ≡ old ++ text_of_lines (map declaration_line (take (i + 1) spaces))
declared-more old now new spaces i s at before after =
    let so_far : List Space = take i spaces in
    let last : List ℕ = line_text (declaration_line s) in
    let on : i + 1 ≡ 1 + i = omega arith in
    let more : take (i + 1) spaces ≡ so_far ++ s ∷ [] = ap (λ (n : ℕ). take n spaces) on ∙ take-more spaces i s at in
    let lines : map declaration_line (take (i + 1) spaces) ≡ map declaration_line so_far ++ declaration_line s ∷ [] =
    ap (map declaration_line) more ∙ map-append declaration_line so_far (s ∷ []) in
    let text : text_of_lines (map declaration_line (take (i + 1) spaces)) ≡ text_of_lines (map declaration_line so_far) ++ last =
    ap text_of_lines lines ∙ flat_map-append line_text (map declaration_line so_far) (declaration_line s ∷ [])
    ∙ ap (λ (x : List ℕ). text_of_lines (map declaration_line so_far) ++ x) (append-nil last) in
    after ∙ ap (λ (x : List ℕ). x ++ last) before ∙ append_assoc old (text_of_lines (map declaration_line so_far)) last
    ∙ ap (λ (x : List ℕ). old ++ x) (sym text)

-- the text of lines in front of others, and of those of an element and of what follows it
text-parts : (first inside rest : List (List ℕ)) (last : List ℕ) → text_of_lines (first ++ (inside ++ (last ∷ rest))) ≡ text_of_lines first ++ (text_of_lines inside ++ (line_text last ++ text_of_lines rest))
text-parts first inside rest last =
    flat_map-append line_text first (inside ++ (last ∷ rest)) ∙ ap (λ (x : List ℕ). text_of_lines first ++ x) (flat_map-append line_text inside (last ∷ rest))

-- the text of the lines of a tree, without what it declares
abbrev pub text_of : List NameParts → Given → List ℕ
text_of names tree = text_of_lines (canonical_lines names tree)

-- the canonical text of an element and what follows it
pub text_of-element : (names : List NameParts) (name : NameId) (attributes : List AttrPair) (line : ℕ) (content rest : Given)
    → text_of names (given.element name attributes line content rest)
    ≡ text_of_lines (begin_lines names name attributes) ++ (text_of names content ++ (line_text (end_line names name) ++ text_of names rest))
text_of-element names name attributes line content rest =
    text-parts (begin_lines names name attributes) (canonical_lines names content) (canonical_lines names rest) (end_line names name)

regrouped : (a b c d e : List ℕ) → a ++ (b ++ (c ++ (d ++ e))) ≡ (a ++ (b ++ (c ++ d))) ++ e
regrouped a b c d e = simp append_assoc

-- the items of a tree within an element are written as its lines
pub items_text-given : (names : List NameParts) (outer : List NameId) (tree : Given) (more : List TreeItem) → items_text names [] outer (items_of tree ++ more) ≡ text_of names tree ++ items_text names [] outer more
items_text-given names outer given.end more = refl
items_text-given names outer (given.text t rest) more =
    ap (λ (x : List ℕ). line_text (text_line t) ++ x) (items_text-given names outer rest more)
    ∙ sym (append_assoc (line_text (text_line t)) (text_of names rest) (items_text names [] outer more))
items_text-given names outer (given.comment t rest) more =
    ap (λ (x : List ℕ). line_text (comment_line t) ++ x) (items_text-given names outer rest more)
    ∙ sym (append_assoc (line_text (comment_line t)) (text_of names rest) (items_text names [] outer more))
items_text-given names outer (given.element n a l content rest) more =
    let first : List ℕ = text_of_lines (begin_lines names n a) in
    let inside : List ℕ = text_of names content in
    let last : List ℕ = line_text (end_line names n) in
    let behind : List ℕ = text_of names rest in
    let after : List ℕ = items_text names [] outer more in
    let split : (items_of content ++ (item.Finish ∷ items_of rest)) ++ more ≡ items_of content ++ (item.Finish ∷ (items_of rest ++ more)) =
    append_assoc (items_of content) (item.Finish ∷ items_of rest) more in
    ap (λ (x : List TreeItem). first ++ items_text names [] (n ∷ outer) x) split
    ∙ ap (λ (x : List ℕ). first ++ x) (items_text-given names (n ∷ outer) content (item.Finish ∷ (items_of rest ++ more)))
    ∙ ap (λ (x : List ℕ). first ++ (inside ++ (last ++ x))) (items_text-given names outer rest more)
    ∙ regrouped first inside last behind after
    ∙ ap (λ (x : List ℕ). x ++ after) (sym (text_of-element names n a l content rest))

-- the items of a whole tree are written as its canonical text
pub items_text-document : (names : List NameParts) (spaces : List Space) (tree : Given) → items_text names spaces [] (items_of tree) ≡ canonical_text names spaces tree
items_text-document names spaces given.end = refl
items_text-document names spaces (given.text t rest) = ap (λ (x : List ℕ). line_text (text_line t) ++ x) (items_text-document names spaces rest)
items_text-document names spaces (given.comment t rest) = ap (λ (x : List ℕ). line_text (comment_line t) ++ x) (items_text-document names spaces rest)
items_text-document names spaces (given.element n a l content rest) =
    let first : List ℕ = text_of_lines (outermost_lines names spaces n a) in
    let inside : List ℕ = text_of names content in
    let last : List ℕ = line_text (end_line names n) in
    let behind : items_text names [] [] (items_of rest) ≡ text_of names rest =
    ap (items_text names [] []) (sym (append-nil (items_of rest))) ∙ items_text-given names [] rest [] ∙ append-nil (text_of names rest) in
    ap (λ (x : List ℕ). first ++ x) (items_text-given names (n ∷ []) content (item.Finish ∷ items_of rest))
    ∙ ap (λ (x : List ℕ). first ++ (inside ++ (last ++ x))) behind
    ∙ sym (text-parts (outermost_lines names spaces n a) (canonical_lines names content) (canonical_lines names rest) (end_line names n))

-- so what was written of all the items is the canonical text of their tree
pub canonical_text-from_items : (names : List NameParts) (spaces : List Space) (items : List TreeItem) (tree : Given) (text : List ℕ)
    → text ++ [] ≡ items_text names spaces [] items → items ≡ items_of tree → text ≡ canonical_text names spaces tree
canonical_text-from_items names spaces items tree text written same =
    sym (append-nil text) ∙ written ∙ ap (items_text names spaces []) same ∙ items_text-document names spaces tree
