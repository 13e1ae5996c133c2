-- Items that are read one after another, and the tree whose items they are.
use Rattle.std.proofs.Common.{◌≡◌, ℕ, ◌+◌, Bool, true, false, not, ◌&&◌, List, [], ◌∷◌, ◌++◌, length, Option, Some, None, refl, sym, ap, ◌∙◌, codes, append_assoc}
use Rattle.std.specs.Prelude.{if◌then◌else◌}
use Rattle.std.specs.List.{list_all}
use Rattle.std.specs.Option.{option_map, option_and_then}
use Rattle.std.proofs.lemmas.List.{append-nil, length_push}
use Rattle.std.proofs.lemmas.List.Sums.{fold-append}
use Rattle.serna_kinds.specs.declared.cells.NameId.{NameId}
use Rattle.serna_kinds.specs.declared.cells.AttrPair.{AttrPair}
use Rattle.serna_kinds.specs.Blanks.{is_blank}
use Rattle.serna_kinds.specs.Names.{NameParts, Space, with_name}
use Rattle.tree_lines.specs.declared.tree.TreeItem.{TreeItem}
use Rattle.tree_lines.specs.declared.tree.TreeItem.TheVariants as item
use Rattle.tree_lines.specs.Given.{Given, items_of}
use Rattle.tree_lines.specs.Given as given
use Rattle.tree_lines.specs.Tokens.{with_names}
use Rattle.style_sheet.specs.declared.style.Pattern.{Pattern}
use Rattle.style_sheet.specs.declared.style.Rule.{Rule}
use Rattle.style_sheet.specs.declared.reader.Place.{Place}
use Rattle.style_sheet.specs.declared.reader.Place.TheVariants as place
use Rattle.style_sheet.specs.Instructions.{Instructions, followed_by}
use Rattle.style_sheet.specs.Instructions as instruction
use Rattle.style_sheet.specs.Sheet.{StyleValue}
use Rattle.style_sheet.specs.Styles.{xslt_uri, is_within, is_instruction, text_in, texts_in, keeps, body_in, pattern_of, match_of, rule_at, rules_in, bodies_in, style_of, matched_name, matched_in, matched_names}
use Rattle.style_sheet.specs.Built.{has_texts_alone, has_nothing, has_none, is_plain_attribute, is_body, is_template, are_templates, is_sheet, is_built}
use Rattle.style_sheet.specs.Steps.{Opened, Progress, progress, text_at, begin_at, after_inner, knowing, run, outcome, no_reading, saying}
use Rattle.style_sheet.proofs.Behind.{followed_by-nothing, followed_by-assoc, text-behind, inner_in, inner-behind}

-- what stands around the place, is kept while a body is read
record Outside : Type 0 where
  opened : List Opened
  rules : List Rule
  bodies : List Instructions
  known : List NameParts

abbrev outside : List Opened → List Rule → List Instructions → List NameParts → Outside
outside opened rules bodies known = record { opened = opened; rules = rules; bodies = bodies; known = known }

-- where the next item stands, and what is read
abbrev at : Place → List Place → Instructions → Outside → Progress
at here around body o = progress
    (record { here = here; around = around; opened = o.opened; body = body; rules = o.rules; bodies = o.bodies }) o.known

-- an element of the result is open
abbrev opened_in : NameId → List AttrPair → Instructions → Outside → Outside
opened_in name attributes before o =
    outside (record { name = name; attributes = attributes; before = before } ∷ o.opened) o.rules o.bodies o.known

-- what is read, where it may stand
abbrev only : Bool → Option Progress → Option Progress
only true read = read
only false read = None

only-only : (a b : Bool) (read : Option Progress) → only a (only b read) ≡ only (a && b) read
only-only true b read = refl
only-only false b read = refl

-- in `xsl:text`
verbatim : (names : List NameParts) (spaces : List Space) (tree : Given) (around : List Place) (body : Instructions) (o : Outside)
    (more : List TreeItem) →
    run names spaces (at place.Verbatim around body o) (items_of tree ++ more)
    ≡ only (has_texts_alone tree) (run names spaces
    (at place.Verbatim around (followed_by body (texts_in tree instruction.nothing)) o) more)
verbatim names spaces given.end around body o more =
    ap (λ (b : Instructions). run names spaces (at place.Verbatim around b o) more) (sym (followed_by-nothing body))
verbatim names spaces (given.text t rest) around body o more =
    verbatim names spaces rest around (followed_by body (instruction.text t instruction.nothing)) o more
    ∙ ap (λ (b : Instructions). only (has_texts_alone rest) (run names spaces (at place.Verbatim around b o) more))
    (followed_by-assoc body (instruction.text t instruction.nothing) (texts_in rest instruction.nothing))
verbatim names spaces (given.comment t rest) around body o more = verbatim names spaces rest around body o more
verbatim names spaces (given.element name attributes line content rest) around body o more = refl

-- in `xsl:apply-templates`
nothing : (names : List NameParts) (spaces : List Space) (tree : Given) (around : List Place) (body : Instructions) (o : Outside)
    (more : List TreeItem) →
    run names spaces (at place.Apply around body o) (items_of tree ++ more)
    ≡ only (has_nothing tree) (run names spaces (at place.Apply around body o) more)
nothing names spaces given.end around body o more = refl
nothing names spaces (given.text t rest) around body o more = by (is_blank t) refl (nothing names spaces rest around body o more)
  where
    by : (b : Bool) → is_blank t ≡ b →
        run names spaces (at place.Apply around body o) (items_of rest ++ more)
        ≡ only (has_nothing rest) (run names spaces (at place.Apply around body o) more) →
        run names spaces (at place.Apply around body o) (items_of (given.text t rest) ++ more)
        ≡ only (has_nothing (given.text t rest)) (run names spaces (at place.Apply around body o) more)
    by true e further = rw e (ap (λ (b : Instructions). run names spaces (at place.Apply around b o) (items_of rest ++ more))
        (followed_by-nothing body) ∙ further)
    by false e further = rw e refl
nothing names spaces (given.comment t rest) around body o more = nothing names spaces rest around body o more
nothing names spaces (given.element name attributes line content rest) around body o more = refl

-- a place in a body, where white space is kept or not
record IsBody (names : List NameParts) (spaces : List Space) (here : Place) (kept : Bool) : Type 0 where
  text : (t : List ℕ) → text_at here t ≡ Some (text_in kept t instruction.nothing)
  begin : (p : Progress) (name : NameId) (attributes : List AttrPair) →
      begin_at here names spaces p name attributes ≡ knowing p.known (after_inner names kept p.reading name attributes)

-- an element of a body may stand there
abbrev is_inner : List NameParts → NameId → List AttrPair → Given → Bool
is_inner names name attributes content =
    if is_instruction names (codes "text") name then has_none attributes && has_texts_alone content
    else if is_instruction names (codes "apply-templates") name then has_none attributes && has_nothing content
    else not (is_within names xslt_uri name) && list_all (is_plain_attribute names) attributes && is_body names content

-- a content is read in an element of the result
abbrev IsRead : List NameParts → List Space → Bool → Given → Type 0
IsRead names spaces kept content =
    (around : List Place) (o : Outside) (more : List TreeItem) →
    run names spaces (at (place.Literal kept) around instruction.nothing o) (items_of content ++ more)
    ≡ only (is_body names content) (run names spaces (at (place.Literal kept) around (body_in names kept content) o) more)

inner : (names : List NameParts) (spaces : List Space) (here : Place) (kept : Bool) (around : List Place) (body : Instructions)
    (o : Outside)
    (name : NameId) (attributes : List AttrPair) (content : Given) (tail : List TreeItem) →
    IsRead names spaces (keeps names kept attributes) content →
    option_and_then (λ q. run names spaces q (items_of content ++ (item.Finish ∷ tail)))
    (knowing o.known (after_inner names kept (at here around body o).reading name attributes))
    ≡ only (is_inner names name attributes content)
    (run names spaces (at here around (followed_by body (inner_in names kept name attributes content instruction.nothing)) o) tail)
inner names spaces here kept around body o name attributes content tail read =
    by (is_instruction names (codes "text") name) (is_instruction names (codes "apply-templates") name) (has_none attributes)
    (not (is_within names xslt_uri name) && list_all (is_plain_attribute names) attributes) refl refl refl refl
  where
    by : (a b h d : Bool) → is_instruction names (codes "text") name ≡ a → is_instruction names (codes "apply-templates") name ≡ b →
        has_none attributes ≡ h →
        (not (is_within names xslt_uri name) && list_all (is_plain_attribute names) attributes) ≡ d →
        option_and_then (λ q. run names spaces q (items_of content ++ (item.Finish ∷ tail)))
        (knowing o.known (after_inner names kept (at here around body o).reading name attributes))
        ≡ only (is_inner names name attributes content)
        (run names spaces (at here around (followed_by body (inner_in names kept name attributes content instruction.nothing)) o) tail)
    by true b true d text apply none plain = rw (text, none) (verbatim names spaces content (here ∷ around) body o (item.Finish ∷ tail))
    by true b false d text apply none plain = rw (text, none) refl
    by false true true d text apply none plain =
        rw (text, apply, none) (nothing names spaces content (here ∷ around)
        (followed_by body (instruction.apply_templates instruction.nothing)) o (item.Finish ∷ tail))
    by false true false d text apply none plain = rw (text, apply, none) refl
    by false false h true text apply none plain =
        rw (text, apply, plain) (read (here ∷ around) (opened_in name attributes body o) (item.Finish ∷ tail))
    by false false h false text apply none plain = rw (text, apply, plain) refl

in_literal : (names : List NameParts) (spaces : List Space) (kept : Bool) → IsBody names spaces (place.Literal kept) kept
in_literal names spaces kept = record { text = λ t. refl; begin = λ p name attributes. refl }

in_template : (names : List NameParts) (spaces : List Space) (pattern : Pattern) → IsBody names spaces (place.Template pattern) false
in_template names spaces pattern = record { text = λ t. refl; begin = λ p name attributes. refl }

-- in a body
bodied : (names : List NameParts) (spaces : List Space) (tree : Given) (here : Place) (kept : Bool) (around : List Place)
    (body : Instructions) (o : Outside) (more : List TreeItem) →
    IsBody names spaces here kept →
    run names spaces (at here around body o) (items_of tree ++ more)
    ≡ only (is_body names tree) (run names spaces (at here around (followed_by body (body_in names kept tree)) o) more)
bodied names spaces given.end here kept around body o more is =
    ap (λ (b : Instructions). run names spaces (at here around b o) more) (sym (followed_by-nothing body))
bodied names spaces (given.text t rest) here kept around body o more is =
    ap (λ (x : Option Instructions). option_and_then (λ q. run names spaces q (items_of rest ++ more))
    (knowing o.known (option_map (λ (y : Instructions). saying y (at here around body o).reading) x))) (is.text t)
    ∙ bodied names spaces rest here kept around (followed_by body (text_in kept t instruction.nothing)) o more is
    ∙ ap (λ (b : Instructions). only (is_body names rest) (run names spaces (at here around b o) more))
    (followed_by-assoc body (text_in kept t instruction.nothing) (body_in names kept rest)
    ∙ ap (followed_by body) (text-behind kept t (body_in names kept rest)))
bodied names spaces (given.comment t rest) here kept around body o more is = bodied names spaces rest here kept around body o more is
bodied names spaces (given.element name attributes line content rest) here kept around body o more is =
    let said : Instructions = inner_in names kept name attributes content instruction.nothing in
    let kept_inside : Bool = keeps names kept attributes in
    let tail : List TreeItem = items_of rest ++ more in
    ap (option_and_then (λ q. run names spaces q ((items_of content ++ (item.Finish ∷ items_of rest)) ++ more)))
    (is.begin (at here around body o) name attributes)
    ∙ ap (λ (l : List TreeItem). option_and_then (λ q. run names spaces q l)
    (knowing o.known (after_inner names kept (at here around body o).reading name attributes)))
    (append_assoc (items_of content) (item.Finish ∷ items_of rest) more)
    ∙ inner names spaces here kept around body o name attributes content tail
    (λ outer p further. bodied names spaces content (place.Literal kept_inside) kept_inside outer instruction.nothing p further
    (in_literal names spaces kept_inside))
    ∙ ap (only (is_inner names name attributes content)) (bodied names spaces rest here kept around (followed_by body said) o more is)
    ∙ only-only (is_inner names name attributes content) (is_body names rest)
    (run names spaces (at here around (followed_by (followed_by body said) (body_in names kept rest)) o) more)
    ∙ ap (λ (b : Instructions). only (is_body names (given.element name attributes line content rest))
    (run names spaces (at here around b o) more))
    (followed_by-assoc body said (body_in names kept rest)
    ∙ ap (followed_by body) (inner-behind names kept name attributes content (body_in names kept rest)))

-- directly in the outermost element, where these rules, bodies and names are read
abbrev in_sheet : List Place → List Rule → List Instructions → List NameParts → Progress
in_sheet around rules bodies known = at place.Sheet around instruction.nothing (outside [] rules bodies known)

-- and where the templates among these neighbours are read, too
abbrev behind : List NameParts → List Space → Given → List Place → List Rule → List Instructions → List NameParts → Progress
behind names spaces tree around rules bodies known =
    in_sheet around (rules ++ rules_in names spaces (length rules) tree) (bodies ++ bodies_in names tree)
    (with_names known (matched_in spaces tree))

-- the neighbours behind a template are read
abbrev IsFollowed : List NameParts → List Space → Given → List Place → List Rule → List Instructions → List NameParts → List TreeItem →
    Type 0
IsFollowed names spaces rest around rules bodies known more =
    run names spaces (in_sheet around rules bodies known) (items_of rest ++ more)
    ≡ only (are_templates names spaces rest) (run names spaces (behind names spaces rest around rules bodies known) more)

-- a template's rule
abbrev rule_for : List NameParts → List Space → List AttrPair → List Rule → Rule
rule_for names spaces attributes rules = rule_at (length rules) (pattern_of names spaces (match_of attributes))

-- what is read of a template and of what follows it, told by turns, and at once
one_by_one : (names : List NameParts) (spaces : List Space) (name : NameId) (attributes : List AttrPair) (line : ℕ) (content rest : Given)
    (around : List Place)
    (rules : List Rule) (bodies : List Instructions) (known : List NameParts) →
    behind names spaces rest around (rules ++ rule_for names spaces attributes rules ∷ []) (bodies ++ body_in names false content ∷ [])
    (with_names known (matched_name spaces (match_of attributes)))
    ≡ behind names spaces (given.element name attributes line content rest) around rules bodies known
one_by_one names spaces name attributes line content rest around rules bodies known =
    let rule : Rule = rule_for names spaces attributes rules in
    let all_rules : (rules ++ rule ∷ []) ++ rules_in names spaces (length (rules ++ rule ∷ [])) rest
    ≡ rules ++ (rule ∷ rules_in names spaces (length rules + 1) rest) =
    append_assoc rules (rule ∷ []) (rules_in names spaces (length (rules ++ rule ∷ [])) rest)
    ∙ ap (λ (n : ℕ). rules ++ (rule ∷ rules_in names spaces n rest)) (length_push rules rule) in
    let all_bodies : (bodies ++ body_in names false content ∷ []) ++ bodies_in names rest
    ≡ bodies ++ (body_in names false content ∷ bodies_in names rest) =
    append_assoc bodies (body_in names false content ∷ []) (bodies_in names rest) in
    let all_known : with_names (with_names known (matched_name spaces (match_of attributes))) (matched_in spaces rest)
    ≡ with_names known (matched_name spaces (match_of attributes) ++ matched_in spaces rest) =
    sym (fold-append with_name known (matched_name spaces (match_of attributes)) (matched_in spaces rest)) in
    λ i. in_sheet around (all_rules i) (all_bodies i) (all_known i)

-- a template, and what follows it
templated : (names : List NameParts) (spaces : List Space) (name : NameId) (attributes : List AttrPair) (line : ℕ) (content rest : Given)
    (around : List Place)
    (rules : List Rule) (bodies : List Instructions) (known : List NameParts) (more : List TreeItem) →
    IsFollowed names spaces rest around (rules ++ rule_for names spaces attributes rules ∷ []) (bodies ++ body_in names false content ∷ [])
    (with_names known (matched_name spaces (match_of attributes))) more →
    run names spaces (in_sheet around rules bodies known)
    (item.Begin name attributes line ∷ (items_of content ++ (item.Finish ∷ (items_of rest ++ more))))
    ≡ only (are_templates names spaces (given.element name attributes line content rest))
    (run names spaces (behind names spaces (given.element name attributes line content rest) around rules bodies known) more)
templated names spaces name attributes line content rest around rules bodies known more further =
    by (is_template names spaces name attributes) refl
  where
    by : (b : Bool) → is_template names spaces name attributes ≡ b →
        run names spaces (in_sheet around rules bodies known)
        (item.Begin name attributes line ∷ (items_of content ++ (item.Finish ∷ (items_of rest ++ more))))
        ≡ only (are_templates names spaces (given.element name attributes line content rest))
        (run names spaces (behind names spaces (given.element name attributes line content rest) around rules bodies known) more)
    by true e =
        let pattern : Pattern = pattern_of names spaces (match_of attributes) in
        let known_then : List NameParts = with_names known (matched_name spaces (match_of attributes)) in
        let body : Instructions = body_in names false content in
        let rules_then : List Rule = rules ++ rule_for names spaces attributes rules ∷ [] in
        rw e (
        bodied names spaces content (place.Template pattern) false (place.Sheet ∷ around) instruction.nothing
        (outside [] rules bodies known_then) (item.Finish ∷ (items_of rest ++ more)) (in_template names spaces pattern)
        ∙ ap (only (is_body names content)) further
        ∙ only-only (is_body names content) (are_templates names spaces rest)
        (run names spaces (behind names spaces rest around rules_then (bodies ++ body ∷ []) known_then) more)
        ∙ ap (λ (p : Progress). only (is_body names content && are_templates names spaces rest) (run names spaces p more))
        (one_by_one names spaces name attributes line content rest around rules bodies known))
    by false e = rw e refl

-- directly in the outermost element
sheeted : (names : List NameParts) (spaces : List Space) (tree : Given) (around : List Place) (rules : List Rule)
    (bodies : List Instructions) (known : List NameParts) (more : List TreeItem) →
    IsFollowed names spaces tree around rules bodies known more
sheeted names spaces given.end around rules bodies known more =
    let same : rules ++ [] ≡ rules = append-nil rules in
    let same_bodies : bodies ++ [] ≡ bodies = append-nil bodies in
    sym (λ i. run names spaces (in_sheet around (same i) (same_bodies i) known) more)
sheeted names spaces (given.text t rest) around rules bodies known more =
    by (is_blank t) refl (sheeted names spaces rest around rules bodies known more)
  where
    by : (b : Bool) → is_blank t ≡ b → IsFollowed names spaces rest around rules bodies known more →
        IsFollowed names spaces (given.text t rest) around rules bodies known more
    by true e further = rw e further
    by false e further = rw e refl
sheeted names spaces (given.comment t rest) around rules bodies known more = sheeted names spaces rest around rules bodies known more
sheeted names spaces (given.element name attributes line content rest) around rules bodies known more =
    ap (λ (l : List TreeItem). run names spaces (in_sheet around rules bodies known) (item.Begin name attributes line ∷ l))
    (append_assoc (items_of content) (item.Finish ∷ items_of rest) more)
    ∙ templated names spaces name attributes line content rest around rules bodies known more
    (sheeted names spaces rest around (rules ++ rule_for names spaces attributes rules ∷ []) (bodies ++ body_in names false content ∷ [])
    (with_names known (matched_name spaces (match_of attributes))) more)

-- the stylesheet, and the names that are known then
abbrev Told : Type 0
Told = StyleValue × List NameParts

abbrev telling : List Rule → List Instructions → List NameParts → Told
telling rules bodies known = (record { rules = rules; bodies = bodies }, known)

-- behind the outermost element nothing changes
behind_all : (names : List NameParts) (spaces : List Space) (items : List TreeItem) (around : List Place) (body : Instructions)
    (o : Outside) →
    option_map outcome (run names spaces (at place.Behind around body o) items) ≡ Some (telling o.rules o.bodies o.known)
behind_all names spaces [] around body o = refl
behind_all names spaces (item.Begin name attributes line ∷ items) around body o = behind_all names spaces items around body o
behind_all names spaces (item.Text t ∷ items) around body o = behind_all names spaces items around (followed_by body instruction.nothing) o
behind_all names spaces (item.Comment t ∷ items) around body o = behind_all names spaces items around body o
behind_all names spaces (item.Finish ∷ items) around body o = behind_all names spaces items around body o

abbrev told_if : Bool → Told → Option Told
told_if true told = Some told
told_if false told = None

abbrev told : List NameParts → List Space → Given → List NameParts → Option Told
told names spaces tree known =
    told_if (is_built names spaces tree) (style_of names spaces tree, with_names known (matched_names spaces tree))

last : (b : Bool) (read : Option Progress) (all : Told) → option_map outcome read ≡ Some all →
    option_map outcome (only b read) ≡ told_if b all
last true read all e = e
last false read all e = refl

topped : (names : List NameParts) (spaces : List Space) (tree : Given) (known : List NameParts) →
    option_map outcome (run names spaces (progress no_reading known) (items_of tree)) ≡ told names spaces tree known
topped names spaces given.end known = refl
topped names spaces (given.text t rest) known = topped names spaces rest known
topped names spaces (given.comment t rest) known = topped names spaces rest known
topped names spaces (given.element name attributes line content rest) known = by (is_sheet names name attributes) refl
  where
    by : (b : Bool) → is_sheet names name attributes ≡ b →
        option_map outcome (run names spaces (progress no_reading known) (items_of (given.element name attributes line content rest)))
        ≡ told names spaces (given.element name attributes line content rest) known
    by true e =
        let rules : List Rule = rules_in names spaces 0 content in
        let bodies : List Instructions = bodies_in names content in
        let known_then : List NameParts = with_names known (matched_in spaces content) in
        rw e (
        ap (option_map outcome) (sheeted names spaces content [] [] [] known (item.Finish ∷ items_of rest))
        ∙ last (are_templates names spaces content)
        (run names spaces (at place.Behind [] instruction.nothing (outside [] rules bodies known_then)) (items_of rest))
        (telling rules bodies known_then)
        (behind_all names spaces (items_of rest) [] instruction.nothing (outside [] rules bodies known_then)))
    by false e = rw e refl

whole : (names : List NameParts) (spaces : List Space) (items : List TreeItem) (tree : Given) (known : List NameParts) →
    items ≡ items_of tree →
    option_map outcome (run names spaces (progress no_reading known) items) ≡ told names spaces tree known
whole names spaces items tree known same =
    ap (option_map outcome) (ap (run names spaces (progress no_reading known)) same) ∙ topped names spaces tree known

-- what is read is of the built form, and says this stylesheet
pub record IsTold (names : List NameParts) (spaces : List Space) (tree : Given) (known : List NameParts) (style : StyleValue)
    (new : List NameParts) : Type 0 where
  pub built : is_built names spaces tree ≡ true
  pub said : style ≡ style_of names spaces tree
  pub matched : new ≡ with_names known (matched_names spaces tree)

abbrev style_told : StyleValue → Option Told → StyleValue
style_told other None = other
style_told other (Some all) = all.0

abbrev names_told : List NameParts → Option Told → List NameParts
names_told other None = other
names_told other (Some all) = all.1

found : (b : Bool) (style other : StyleValue) (known new : List NameParts) → told_if b (style, known) ≡ Some (other, new) →
    (b ≡ true) × (other ≡ style) × (new ≡ known)
found true style other known new e = (refl, ap (style_told other) (sym e), ap (names_told new) (sym e))
found false style other known new e = cc

refused : (b : Bool) (all : Told) → told_if b all ≡ None → b ≡ false
refused true all e = cc
refused false all e = refl

pub read_told : (names : List NameParts) (spaces : List Space) (items : List TreeItem) (tree : Given) (known : List NameParts)
    (style : StyleValue) (new : List NameParts) →
    option_map outcome (run names spaces (progress no_reading known) items) ≡ Some (style, new) → items ≡ items_of tree →
    IsTold names spaces tree known style new
read_told names spaces items tree known style new read same =
    let all = found (is_built names spaces tree) (style_of names spaces tree) style (with_names known (matched_names spaces tree)) new
    (sym (whole names spaces items tree known same) ∙ read) in
    record { built = all.0; said = all.1; matched = all.2 }

pub read_refused : (names : List NameParts) (spaces : List Space) (items : List TreeItem) (tree : Given) (known : List NameParts) →
    run names spaces (progress no_reading known) items ≡ None → items ≡ items_of tree → is_built names spaces tree ≡ false
read_refused names spaces items tree known read same =
    refused (is_built names spaces tree) (style_of names spaces tree, with_names known (matched_names spaces tree))
    (sym (whole names spaces items tree known same) ∙ ap (option_map outcome) read)
