-- What the table of before says of a tree that is read while the table grows.
use Rattle.std.proofs.Common.{◌≡◌, ℕ, ◌+◌, ◌*◌, ◌^◌, ◌<◌, ◌≤◌, Bool, true, false, not, ◌&&◌, codes, List, [], ◌∷◌, length, Option, Some, None, Result, Ok, Err, IsErrAnd, refl, sym, ap, ◌∙◌, subst, arith, length-append}
use Rattle.std.specs.Prelude.{if◌then◌else◌}
use Rattle.std.specs.List.{list_all}
use Rattle.std.specs.Option.{option_map}
use Rattle.std.proofs.lemmas.List.{length_push}
use Rattle.serna_kinds.specs.declared.cells.NameId.{NameId}
use Rattle.serna_kinds.specs.declared.cells.AttrPair.{AttrPair}
use Rattle.serna_kinds.specs.Names.{NameParts, Space, Grows}
use Rattle.serna_kinds.proofs.NameLemmas.{Grows-refl}
use Rattle.tree_lines.specs.declared.tree.TreeItem.{TreeItem}
use Rattle.tree_lines.specs.declared.tree.TreeItem.TheVariants as item
use Rattle.tree_lines.specs.Given.{Given, items_of, count_of}
use Rattle.tree_lines.specs.Given as given
use Rattle.tree_lines.specs.Tokens.{AreNamed, with_names}
use Rattle.tree_lines.specs.Whole.{IsTree}
use Rattle.style_sheet.specs.Instructions.{Instructions}
use Rattle.style_sheet.specs.Instructions as instruction
use Rattle.style_sheet.specs.Sheet.{StyleValue, IsNamedBy, AreNumbered}
use Rattle.style_sheet.specs.declared.reader.Place.{Place}
use Rattle.style_sheet.specs.declared.reader.Place.TheVariants as place
use Rattle.style_sheet.specs.Styles.{xslt_uri, is_within, is_instruction, keeps, pattern_of, match_of, matched_name, rule_at}
use Rattle.style_sheet.specs.Built.{has_none, is_plain_attribute, is_template, is_sheet, is_built}
use Rattle.style_sheet.specs.Steps.{Opened, Reading, Progress, progress, no_reading, saying, opening, closing_in, within, at_place, text_at, after_inner, begin_at, finish_at, knowing, after, run, outcome}
use Rattle.style_sheet.proofs.Grown.{built-grown}
use Rattle.style_sheet.proofs.Known.{style-known}
use Rattle.style_sheet.proofs.Saying.{place_of, has_body, style-few}
use Rattle.style_sheet.proofs.Running.{IsTold, read_told, read_refused}

of_tree : (names : List NameParts) (items : List TreeItem) (tree : Given) → AreNamed names items → items ≡ items_of tree →
    AreNamed names (items_of tree)
of_tree names items tree known same = subst (AreNamed names) same known

pub built_before : (old new : List NameParts) (spaces : List Space) (items : List TreeItem) (tree : Given) (style : StyleValue) →
    AreNamed old items → Grows old new → items ≡ items_of tree →
    ((table : List NameParts) → Grows new table →
    option_map outcome (run table spaces (progress no_reading old) items) ≡ Some (style, new)) → is_built old spaces tree ≡ true
built_before old new spaces items tree style known grown same read =
    let told : IsTold new spaces tree old style new = read_told new spaces items tree old style new (read new (Grows-refl new)) same in
    sym (built-grown old new spaces tree grown (of_tree old items tree known same)) ∙ told.built

pub refused_before : (old new : List NameParts) (spaces : List Space) (items : List TreeItem) (tree : Given) → AreNamed old items →
    Grows old new → items ≡ items_of tree →
    ((table : List NameParts) → Grows new table → run table spaces (progress no_reading old) items ≡ None) →
    is_built old spaces tree ≡ false
refused_before old new spaces items tree known grown same read =
    sym (built-grown old new spaces tree grown (of_tree old items tree known same))
    ∙ read_refused new spaces items tree old (read new (Grows-refl new)) same

-- the fault that `?` hands on is the callee's
pub handed_on : {A B E : Type 0} (r : Result A E) (s : Result B E) (e f : E) → r ≡ Err e → IsErrAnd r (λ y. y ≡ f) → s ≡ Err f → s ≡ Err e
handed_on (Ok x) s e f is was other = cc
handed_on (Err y) s e f is was other = cc

-- a tree has two items a node at most
few_items : (tree : Given) → length (items_of tree) ≤ 2 * count_of tree
few_items given.end = omega arith
few_items (given.text t rest) = omega (arith, few_items rest)
few_items (given.comment t rest) = omega (arith, few_items rest)
few_items (given.element name attributes line content rest) =
    omega (arith, few_items content, few_items rest, length-append (items_of content) (item.Finish ∷ items_of rest))

pub tree_few : (items : List TreeItem) → IsTree items → length items < 2 ^ 32
tree_few items tree = omega (arith, ap length tree.same, few_items tree.given, tree.whole.few)

-- the rules of a tree's stylesheet are numbered, and they are for names of the table
pub told-numbered : (names : List NameParts) (spaces : List Space) (items : List TreeItem) (whole : IsTree items) (known : List NameParts)
    (style : StyleValue) (new : List NameParts) →
    IsTold names spaces whole.given known style new → AreNumbered style
told-numbered names spaces items whole known style new told =
    let few : length (items_of whole.given) < 2 ^ 32 = subst (λ (l : List TreeItem). length l < 2 ^ 32) whole.same (tree_few items whole) in
    subst AreNumbered (sym told.said)
    (record {
      few = omega (arith, few, style-few names spaces whole.given);
      places = place_of names spaces whole.given;
      bodies = has_body names spaces whole.given;
    })

pub told-known : (new : List NameParts) (spaces : List Space) (tree : Given) (known : List NameParts) (style : StyleValue) →
    IsTold new spaces tree known style new → IsNamedBy new style
told-known new spaces tree known style told =
    subst (IsNamedBy new) (sym told.said)
    (style-known new known spaces tree (subst (λ (names : List NameParts). Grows names new) told.matched (Grows-refl new)))

-- how many rules are read
abbrev count : Option Progress → ℕ
count None = 0
count (Some p) = length p.reading.rules

abbrev count_read : Option Reading → ℕ
count_read None = 0
count_read (Some s) = length s.rules

chosen : (a b c d : Bool) (x y z : Reading) (n : ℕ) → length x.rules ≤ n → length y.rules ≤ n → length z.rules ≤ n →
    count_read (if a then (if c then Some x else None) else if b then (if c then Some y else None) else if d then Some z else None) ≤ n
chosen true b true d x y z n first second third = first
chosen true b false d x y z n first second third = omega arith
chosen false true true d x y z n first second third = second
chosen false true false d x y z n first second third = omega arith
chosen false false c true x y z n first second third = third
chosen false false c false x y z n first second third = omega arith

one_of : (b : Bool) (x y : Option Progress) (n : ℕ) → count x ≤ n → count y ≤ n → count (if b then x else y) ≤ n
one_of true x y n one other = one
one_of false x y n one other = other

count-knowing : (known : List NameParts) (o : Option Reading) (n : ℕ) → count_read o ≤ n → count (knowing known o) ≤ n
count-knowing known None n few = omega arith
count-knowing known (Some s) n few = few

count-said : (s : Reading) (o : Option Instructions) → count_read (option_map (λ more. saying more s) o) ≤ length s.rules + 1
count-said s None = omega arith
count-said s (Some more) = omega arith

count-inner : (names : List NameParts) (kept : Bool) (s : Reading) (name : NameId) (attributes : List AttrPair) →
    count_read (after_inner names kept s name attributes) ≤ length s.rules + 1
count-inner names kept s name attributes =
    let few : length s.rules ≤ length s.rules + 1 = omega arith in
    chosen (is_instruction names (codes "text") name) (is_instruction names (codes "apply-templates") name) (has_none attributes)
    (not (is_within names xslt_uri name) && list_all (is_plain_attribute names) attributes) (within place.Verbatim s)
    (within place.Apply (saying (instruction.apply_templates instruction.nothing) s))
    (within (place.Literal (keeps names kept attributes)) (opening name attributes s)) (length s.rules + 1) few few few

count-begin : (here : Place) (names : List NameParts) (spaces : List Space) (p : Progress) (name : NameId) (attributes : List AttrPair) →
    count (begin_at here names spaces p name attributes) ≤ length p.reading.rules + 1
count-begin place.Before names spaces p name attributes =
    let few : length p.reading.rules ≤ length p.reading.rules + 1 = omega arith in
    let none : 0 ≤ length p.reading.rules + 1 = omega arith in
    one_of (is_sheet names name attributes) (Some (progress (at_place place.Sheet p.reading) p.known)) None
    (length p.reading.rules + 1) few none
count-begin place.Sheet names spaces p name attributes =
    let few : length p.reading.rules ≤ length p.reading.rules + 1 = omega arith in
    let none : 0 ≤ length p.reading.rules + 1 = omega arith in
    one_of (is_template names spaces name attributes)
    (Some (progress (within (place.Template (pattern_of names spaces (match_of attributes))) p.reading)
    (with_names p.known (matched_name spaces (match_of attributes))))) None
    (length p.reading.rules + 1) few none
count-begin (place.Template pattern) names spaces p name attributes =
    count-knowing p.known (after_inner names false p.reading name attributes) _ (count-inner names false p.reading name attributes)
count-begin (place.Literal kept) names spaces p name attributes =
    count-knowing p.known (after_inner names kept p.reading name attributes) _ (count-inner names kept p.reading name attributes)
count-begin place.Verbatim names spaces p name attributes = omega arith
count-begin place.Apply names spaces p name attributes = omega arith
count-begin place.Behind names spaces p name attributes = omega arith

count-closing : (opened : List Opened) (s : Reading) → length (closing_in opened s).rules ≡ length s.rules
count-closing [] s = refl
count-closing (one ∷ outer) s = refl

count-finish : (here : Place) (s : Reading) → length (finish_at here s).rules ≤ length s.rules + 1
count-finish place.Before s = omega arith
count-finish place.Sheet s = omega arith
count-finish (place.Template pattern) s = omega (arith, length_push s.rules (rule_at (length s.rules) pattern))
count-finish (place.Literal kept) s = omega (arith, count-closing s.opened s)
count-finish place.Verbatim s = omega arith
count-finish place.Apply s = omega arith
count-finish place.Behind s = omega arith

count-after : (names : List NameParts) (spaces : List Space) (p : Progress) (x : TreeItem) →
    count (after names spaces p x) ≤ length p.reading.rules + 1
count-after names spaces p (item.Begin name attributes line) = count-begin p.reading.here names spaces p name attributes
count-after names spaces p (item.Text t) =
    count-knowing p.known (option_map (λ more. saying more p.reading) (text_at p.reading.here t)) _
    (count-said p.reading (text_at p.reading.here t))
count-after names spaces p (item.Comment t) = omega arith
count-after names spaces p item.Finish = count-finish p.reading.here p.reading

-- an item adds a rule at most
pub one_more : (names : List NameParts) (spaces : List Space) (p q : Progress) (x : TreeItem) → after names spaces p x ≡ Some q →
    length q.reading.rules ≤ length p.reading.rules + 1
one_more names spaces p q x e = subst (λ (o : Option Progress). count o ≤ length p.reading.rules + 1) e (count-after names spaces p x)
