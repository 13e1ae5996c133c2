-- What is said of the names of a tree is the same in a table that has grown.
use Rattle.std.proofs.Common.{◌≡◌, ℕ, Bool, false, not, ◌&&◌, ◌||◌, List, [], ◌∷◌, ◌++◌, Option, Some, None, IsSome, slice_get, refl, sym, ap, ◌∙◌, subst, codes, bytes_eq}
use Rattle.std.specs.Prelude.{if◌then◌else◌}
use Rattle.std.specs.List.{AllByRecursion, list_all, list_any}
use Rattle.std.specs.Option.{option_map_or}
use Rattle.serna_kinds.specs.declared.cells.NameId.{NameId}
use Rattle.serna_kinds.specs.declared.cells.AttrPair.{AttrPair}
use Rattle.serna_kinds.specs.Apart.{AreApart}
use Rattle.serna_kinds.specs.Blanks.{is_blank}
use Rattle.serna_kinds.specs.Names.{NameParts, Space, Grows, are_same}
use Rattle.serna_kinds.proofs.NameLemmas.{slice_get-grown}
use Rattle.tree_lines.specs.declared.tree.TreeItem.{TreeItem}
use Rattle.tree_lines.specs.declared.tree.TreeItem.TheVariants as item
use Rattle.tree_lines.specs.Given.{Given, items_of}
use Rattle.tree_lines.specs.Given as given
use Rattle.tree_lines.specs.Tokens.{IsNamed, AreNamed}
use Rattle.style_sheet.specs.Styles.{xslt_uri, is_within, is_named, is_instruction, match_of}
use Rattle.style_sheet.specs.Built.{has_texts_alone, has_nothing, has_none, has_alone, is_brace, is_plain_attribute, is_body, is_pattern, are_templates, is_built}

-- a name that the table has is the same one later
agrees : (old new : List NameParts) (place : ℕ) → Grows old new → IsSome (slice_get old place) → slice_get new place ≡ slice_get old place
agrees old new place grown some = by (slice_get old place) refl some
  where
    by : (o : Option NameParts) → slice_get old place ≡ o → IsSome o → slice_get new place ≡ slice_get old place
    by None e some = cc
    by (Some name) e some = slice_get-grown old new name place grown e ∙ sym e

IsSome-grown : (old new : List NameParts) (place : ℕ) → Grows old new → IsSome (slice_get old place) → IsSome (slice_get new place)
IsSome-grown old new place grown some = subst (λ (o : Option NameParts). IsSome o) (sym (agrees old new place grown some)) some

within-grown : (old new : List NameParts) (uri : List ℕ) (id : NameId) → Grows old new → IsSome (slice_get old id.0) →
    is_within new uri id ≡ is_within old uri id
within-grown old new uri id grown some =
    ap (λ (o : Option NameParts). option_map_or (λ (name : NameParts). bytes_eq name.uri uri) o false) (agrees old new id.0 grown some)

named-grown : (old new : List NameParts) (uri local : List ℕ) (id : NameId) → Grows old new → IsSome (slice_get old id.0) →
    is_named new uri local id ≡ is_named old uri local id
named-grown old new uri local id grown some =
    ap (λ (o : Option NameParts). option_map_or (λ (name : NameParts). bytes_eq name.uri uri && bytes_eq name.local local) o false)
    (agrees old new id.0 grown some)

same-grown : (old new : List NameParts) (a b : NameId) → Grows old new → IsSome (slice_get old a.0) → IsSome (slice_get old b.0) →
    are_same new a b ≡ are_same old a b
same-grown old new a b grown some other =
    let x : slice_get new a.0 ≡ slice_get old a.0 = agrees old new a.0 grown some in
    let y : slice_get new b.0 ≡ slice_get old b.0 = agrees old new b.0 grown other in
    λ i. elim (x i) [ None ↦ false | Some n ↦ elim (y i) [ None ↦ false | Some m ↦ bytes_eq n.uri m.uri && bytes_eq n.local m.local ] ]

-- the table of a tree's names, grown, is one of its names too
apart-grown : (old new : List NameParts) (pairs : List AttrPair) → Grows old new → AreApart old pairs → AreApart new pairs
apart-grown old new [] grown apart = tt
apart-grown old new (pair ∷ pairs) grown apart =
    (IsSome-grown old new pair.name.0 grown apart.0, others pairs apart.1 apart.2, apart-grown old new pairs grown apart.2)
  where
    others : (more : List AttrPair) → AllByRecursion (λ (other : AttrPair). are_same old pair.name other.name ≡ false) more →
        AreApart old more →
        AllByRecursion (λ (other : AttrPair). are_same new pair.name other.name ≡ false) more
    others [] all known = tt
    others (other ∷ more) all known = (same-grown old new pair.name other.name grown apart.0 known.0 ∙ all.0, others more all.1 known.2)

item-grown : (old new : List NameParts) (x : TreeItem) → Grows old new → IsNamed old x → IsNamed new x
item-grown old new (item.Begin name attributes line) grown known =
    (IsSome-grown old new name.0 grown known.0, apart-grown old new attributes grown known.1)
item-grown old new (item.Text t) grown known = tt
item-grown old new (item.Comment t) grown known = tt
item-grown old new item.Finish grown known = tt

pub AreNamed-grown : (old new : List NameParts) (items : List TreeItem) → Grows old new → AreNamed old items → AreNamed new items
AreNamed-grown old new [] grown known = tt
AreNamed-grown old new (x ∷ items) grown known = (item-grown old new x grown known.0, AreNamed-grown old new items grown known.1)

front : (names : List NameParts) (xs ys : List TreeItem) → AreNamed names (xs ++ ys) → AreNamed names xs
front names [] ys known = tt
front names (x ∷ xs) ys known = (known.0, front names xs ys known.1)

behind : (names : List NameParts) (xs ys : List TreeItem) → AreNamed names (xs ++ ys) → AreNamed names ys
behind names [] ys known = known
behind names (x ∷ xs) ys known = behind names xs ys known.1

plain-grown : (old new : List NameParts) (pairs : List AttrPair) → Grows old new → AreApart old pairs →
    list_all (is_plain_attribute new) pairs ≡ list_all (is_plain_attribute old) pairs
plain-grown old new [] grown apart = refl
plain-grown old new (pair ∷ pairs) grown apart =
    let one : is_within new xslt_uri pair.name ≡ is_within old xslt_uri pair.name = within-grown old new xslt_uri pair.name grown apart.0 in
    let more : list_all (is_plain_attribute new) pairs ≡ list_all (is_plain_attribute old) pairs =
    plain-grown old new pairs grown apart.2 in
    let braces : Bool = not (list_any is_brace pair.value) in
    λ i. (not (one i) && braces) && more i

alone-grown : (old new : List NameParts) (local : List ℕ) (pairs : List AttrPair) → Grows old new → AreApart old pairs →
    has_alone new local pairs ≡ has_alone old local pairs
alone-grown old new local [] grown apart = refl
alone-grown old new local (pair ∷ pairs) grown apart = ap (λ b. b && has_none pairs) (named-grown old new [] local pair.name grown apart.0)

body-grown : (old new : List NameParts) (tree : Given) → Grows old new → AreNamed old (items_of tree) → is_body new tree ≡ is_body old tree
body-grown old new given.end grown known = refl
body-grown old new (given.text t rest) grown known = body-grown old new rest grown known.1
body-grown old new (given.comment t rest) grown known = body-grown old new rest grown known.1
body-grown old new (given.element name attributes line content rest) grown known =
    let verbatim : is_instruction new (codes "text") name ≡ is_instruction old (codes "text") name =
    named-grown old new xslt_uri (codes "text") name grown known.0.0 in
    let apply : is_instruction new (codes "apply-templates") name ≡ is_instruction old (codes "apply-templates") name =
    named-grown old new xslt_uri (codes "apply-templates") name grown known.0.0 in
    let inside : is_within new xslt_uri name ≡ is_within old xslt_uri name = within-grown old new xslt_uri name grown known.0.0 in
    let plain : list_all (is_plain_attribute new) attributes ≡ list_all (is_plain_attribute old) attributes =
    plain-grown old new attributes grown known.0.1 in
    let inner : is_body new content ≡ is_body old content =
    body-grown old new content grown (front old (items_of content) (item.Finish ∷ items_of rest) known.1) in
    let more : is_body new rest ≡ is_body old rest =
    body-grown old new rest grown (behind old (items_of content) (item.Finish ∷ items_of rest) known.1).1 in
    λ i. (if verbatim i then has_none attributes && has_texts_alone content
    else if apply i then has_none attributes && has_nothing content
    else not (inside i) && plain i && inner i) && more i

templates-grown : (old new : List NameParts) (spaces : List Space) (tree : Given) → Grows old new → AreNamed old (items_of tree) →
    are_templates new spaces tree ≡ are_templates old spaces tree
templates-grown old new spaces given.end grown known = refl
templates-grown old new spaces (given.text t rest) grown known =
    ap (λ b. is_blank t && b) (templates-grown old new spaces rest grown known.1)
templates-grown old new spaces (given.comment t rest) grown known = templates-grown old new spaces rest grown known.1
templates-grown old new spaces (given.element name attributes line content rest) grown known =
    let one : is_instruction new (codes "template") name ≡ is_instruction old (codes "template") name =
    named-grown old new xslt_uri (codes "template") name grown known.0.0 in
    let alone : has_alone new (codes "match") attributes ≡ has_alone old (codes "match") attributes =
    alone-grown old new (codes "match") attributes grown known.0.1 in
    let inner : is_body new content ≡ is_body old content =
    body-grown old new content grown (front old (items_of content) (item.Finish ∷ items_of rest) known.1) in
    let more : are_templates new spaces rest ≡ are_templates old spaces rest =
    templates-grown old new spaces rest grown (behind old (items_of content) (item.Finish ∷ items_of rest) known.1).1 in
    λ i. ((one i && alone i && is_pattern spaces (match_of attributes)) && inner i) && more i

pub built-grown : (old new : List NameParts) (spaces : List Space) (tree : Given) → Grows old new → AreNamed old (items_of tree) →
    is_built new spaces tree ≡ is_built old spaces tree
built-grown old new spaces given.end grown known = refl
built-grown old new spaces (given.text t rest) grown known = built-grown old new spaces rest grown known.1
built-grown old new spaces (given.comment t rest) grown known = built-grown old new spaces rest grown known.1
built-grown old new spaces (given.element name attributes line content rest) grown known =
    let sheet : is_instruction new (codes "stylesheet") name ≡ is_instruction old (codes "stylesheet") name =
    named-grown old new xslt_uri (codes "stylesheet") name grown known.0.0 in
    let other : is_instruction new (codes "transform") name ≡ is_instruction old (codes "transform") name =
    named-grown old new xslt_uri (codes "transform") name grown known.0.0 in
    let alone : has_alone new (codes "version") attributes ≡ has_alone old (codes "version") attributes =
    alone-grown old new (codes "version") attributes grown known.0.1 in
    let inner : are_templates new spaces content ≡ are_templates old spaces content =
    templates-grown old new spaces content grown (front old (items_of content) (item.Finish ∷ items_of rest) known.1) in
    λ i. ((sheet i || other i) && alone i) && inner i
