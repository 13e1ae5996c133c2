-- Comments say nothing, and rules are numbered.
use Rattle.std.proofs.Common.{◌≡◌, ℕ, zero, suc, ◌+◌, ◌<◌, ◌≤◌, Bool, false, not, ◌&&◌, List, ◌∷◌, length, Some, slice_get, refl, ap, ◌∙◌, codes, arith, length-append}
use Rattle.std.specs.Prelude.{if◌then◌else◌}
use Rattle.std.specs.List.{list_all}
use Rattle.serna_kinds.specs.Blanks.{is_blank}
use Rattle.serna_kinds.specs.Names.{NameParts, Space}
use Rattle.tree_lines.specs.declared.tree.TreeItem.TheVariants as item
use Rattle.tree_lines.specs.Given.{Given, items_of}
use Rattle.tree_lines.specs.Given as given
use Rattle.style_sheet.specs.declared.style.Rule.{Rule}
use Rattle.style_sheet.specs.Instructions.{Instructions}
use Rattle.style_sheet.specs.Instructions as instruction
use Rattle.style_sheet.specs.Styles.{xslt_uri, is_within, is_instruction, text_in, texts_in, keeps, body_in, pattern_of, match_of, rule_at, rules_in, bodies_in, style_of}
use Rattle.style_sheet.specs.Built.{has_texts_alone, has_nothing, has_none, is_plain_attribute, is_body, is_template, are_templates, is_sheet, is_built}
use Rattle.style_sheet.specs.Comments.{without_comments}

texts-alone : (tree : Given) → has_texts_alone (without_comments tree) ≡ has_texts_alone tree
texts-alone given.end = refl
texts-alone (given.text t rest) = texts-alone rest
texts-alone (given.comment t rest) = texts-alone rest
texts-alone (given.element name attributes line content rest) = refl

nothing : (tree : Given) → has_nothing (without_comments tree) ≡ has_nothing tree
nothing given.end = refl
nothing (given.text t rest) = ap (λ b. is_blank t && b) (nothing rest)
nothing (given.comment t rest) = nothing rest
nothing (given.element name attributes line content rest) = refl

body-built : (names : List NameParts) (tree : Given) → is_body names (without_comments tree) ≡ is_body names tree
body-built names given.end = refl
body-built names (given.text t rest) = body-built names rest
body-built names (given.comment t rest) = body-built names rest
body-built names (given.element name attributes line content rest) =
    let texts : has_texts_alone (without_comments content) ≡ has_texts_alone content = texts-alone content in
    let none : has_nothing (without_comments content) ≡ has_nothing content = nothing content in
    let inner : is_body names (without_comments content) ≡ is_body names content = body-built names content in
    let more : is_body names (without_comments rest) ≡ is_body names rest = body-built names rest in
    λ i. (if is_instruction names (codes "text") name then has_none attributes && texts i
    else if is_instruction names (codes "apply-templates") name then has_none attributes && none i
    else not (is_within names xslt_uri name) && list_all (is_plain_attribute names) attributes && inner i) && more i

templates-built : (names : List NameParts) (spaces : List Space) (tree : Given) →
    are_templates names spaces (without_comments tree) ≡ are_templates names spaces tree
templates-built names spaces given.end = refl
templates-built names spaces (given.text t rest) = ap (λ b. is_blank t && b) (templates-built names spaces rest)
templates-built names spaces (given.comment t rest) = templates-built names spaces rest
templates-built names spaces (given.element name attributes line content rest) =
    let inner : is_body names (without_comments content) ≡ is_body names content = body-built names content in
    let more : are_templates names spaces (without_comments rest) ≡ are_templates names spaces rest = templates-built names spaces rest in
    λ i. (is_template names spaces name attributes && inner i) && more i

pub comments-built : (names : List NameParts) (spaces : List Space) (tree : Given) →
    is_built names spaces (without_comments tree) ≡ is_built names spaces tree
comments-built names spaces given.end = refl
comments-built names spaces (given.text t rest) = comments-built names spaces rest
comments-built names spaces (given.comment t rest) = comments-built names spaces rest
comments-built names spaces (given.element name attributes line content rest) =
    ap (λ b. is_sheet names name attributes && b) (templates-built names spaces content)

texts-said : (tree : Given) (more : Instructions) → texts_in (without_comments tree) more ≡ texts_in tree more
texts-said given.end more = refl
texts-said (given.text t rest) more = ap (instruction.text t) (texts-said rest more)
texts-said (given.comment t rest) more = texts-said rest more
texts-said (given.element name attributes line content rest) more = texts-said rest more

body-said : (names : List NameParts) (kept : Bool) (tree : Given) → body_in names kept (without_comments tree) ≡ body_in names kept tree
body-said names kept given.end = refl
body-said names kept (given.text t rest) = ap (text_in kept t) (body-said names kept rest)
body-said names kept (given.comment t rest) = body-said names kept rest
body-said names kept (given.element name attributes line content rest) =
    let inner : body_in names (keeps names kept attributes) (without_comments content)
    ≡ body_in names (keeps names kept attributes) content = body-said names (keeps names kept attributes) content in
    let more : body_in names kept (without_comments rest) ≡ body_in names kept rest = body-said names kept rest in
    let texts : texts_in (without_comments content) (body_in names kept (without_comments rest))
    ≡ texts_in content (body_in names kept rest) =
    texts-said content (body_in names kept (without_comments rest)) ∙ ap (texts_in content) more in
    λ i. if is_instruction names (codes "text") name then texts i
    else if is_instruction names (codes "apply-templates") name then instruction.apply_templates (more i)
    else instruction.element name attributes (inner i) (more i)

rules-said : (names : List NameParts) (spaces : List Space) (n : ℕ) (tree : Given) →
    rules_in names spaces n (without_comments tree) ≡ rules_in names spaces n tree
rules-said names spaces n given.end = refl
rules-said names spaces n (given.text t rest) = rules-said names spaces n rest
rules-said names spaces n (given.comment t rest) = rules-said names spaces n rest
rules-said names spaces n (given.element name attributes line content rest) =
    ap (λ (more : List Rule). rule_at n (pattern_of names spaces (match_of attributes)) ∷ more) (rules-said names spaces (n + 1) rest)

bodies-said : (names : List NameParts) (tree : Given) → bodies_in names (without_comments tree) ≡ bodies_in names tree
bodies-said names given.end = refl
bodies-said names (given.text t rest) = bodies-said names rest
bodies-said names (given.comment t rest) = bodies-said names rest
bodies-said names (given.element name attributes line content rest) =
    let inner : body_in names false (without_comments content) ≡ body_in names false content = body-said names false content in
    let more : bodies_in names (without_comments rest) ≡ bodies_in names rest = bodies-said names rest in
    λ i. inner i ∷ more i

pub comments-said : (names : List NameParts) (spaces : List Space) (tree : Given) →
    style_of names spaces (without_comments tree) ≡ style_of names spaces tree
comments-said names spaces given.end = refl
comments-said names spaces (given.text t rest) = comments-said names spaces rest
comments-said names spaces (given.comment t rest) = comments-said names spaces rest
comments-said names spaces (given.element name attributes line content rest) =
    let rules : rules_in names spaces 0 (without_comments content) ≡ rules_in names spaces 0 content = rules-said names spaces 0 content in
    let bodies : bodies_in names (without_comments content) ≡ bodies_in names content = bodies-said names content in
    λ i. record { rules = rules i; bodies = bodies i }

-- the rules of neighbours are numbered on
rule_in : (names : List NameParts) (spaces : List Space) (n : ℕ) (tree : Given) (number : ℕ) (rule : Rule) →
    slice_get (rules_in names spaces n tree) number ≡ Some rule →
    (rule.place ≡ n + number) × (rule.body ≡ n + number) × (number < length (bodies_in names tree))
rule_in names spaces n given.end number rule is = cc
rule_in names spaces n (given.text t rest) number rule is = rule_in names spaces n rest number rule is
rule_in names spaces n (given.comment t rest) number rule is = rule_in names spaces n rest number rule is
rule_in names spaces n (given.element name attributes line content rest) zero rule is =
    let first : rule_at n (pattern_of names spaces (match_of attributes)) ≡ rule = cc in
    let same_place : n ≡ rule.place = ap (λ (r : Rule). r.place) first in
    let same_body : n ≡ rule.body = ap (λ (r : Rule). r.body) first in
    (omega arith, omega arith, omega arith)
rule_in names spaces n (given.element name attributes line content rest) (suc number) rule is =
    let later = rule_in names spaces (n + 1) rest number rule is in
    (omega (arith, later.0), omega (arith, later.1), omega (arith, later.2))

pub place_of : (names : List NameParts) (spaces : List Space) (tree : Given) (number : ℕ) (rule : Rule) →
    slice_get (style_of names spaces tree).rules number ≡ Some rule → rule.place ≡ number
place_of names spaces given.end number rule is = cc
place_of names spaces (given.text t rest) number rule is = place_of names spaces rest number rule is
place_of names spaces (given.comment t rest) number rule is = place_of names spaces rest number rule is
place_of names spaces (given.element name attributes line content rest) number rule is =
    omega (arith, (rule_in names spaces 0 content number rule is).0)

pub has_body : (names : List NameParts) (spaces : List Space) (tree : Given) (number : ℕ) (rule : Rule) →
    slice_get (style_of names spaces tree).rules number ≡ Some rule →
    rule.body < length (style_of names spaces tree).bodies
has_body names spaces given.end number rule is = cc
has_body names spaces (given.text t rest) number rule is = has_body names spaces rest number rule is
has_body names spaces (given.comment t rest) number rule is = has_body names spaces rest number rule is
has_body names spaces (given.element name attributes line content rest) number rule is =
    let there = rule_in names spaces 0 content number rule is in
    omega (arith, there.1, there.2)

-- each rule has an item of its own
rules-few : (names : List NameParts) (spaces : List Space) (n : ℕ) (tree : Given) →
    length (rules_in names spaces n tree) ≤ length (items_of tree)
rules-few names spaces n given.end = omega arith
rules-few names spaces n (given.text t rest) = omega (arith, rules-few names spaces n rest)
rules-few names spaces n (given.comment t rest) = omega (arith, rules-few names spaces n rest)
rules-few names spaces n (given.element name attributes line content rest) =
    omega (arith, rules-few names spaces (n + 1) rest, length-append (items_of content) (item.Finish ∷ items_of rest))

pub style-few : (names : List NameParts) (spaces : List Space) (tree : Given) →
    length (style_of names spaces tree).rules ≤ length (items_of tree)
style-few names spaces given.end = omega arith
style-few names spaces (given.text t rest) = omega (arith, style-few names spaces rest)
style-few names spaces (given.comment t rest) = omega (arith, style-few names spaces rest)
style-few names spaces (given.element name attributes line content rest) =
    omega (arith, rules-few names spaces 0 content, length-append (items_of content) (item.Finish ∷ items_of rest))
