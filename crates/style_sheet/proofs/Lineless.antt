-- The numbers of lines do not show in what a stylesheet says.
use Rattle.std.proofs.Common.{◌≡◌, ℕ, ◌+◌, Bool, false, List, ◌∷◌, ◌++◌, ◌&&◌, not, codes, if◌then◌else◌, refl, ap, ◌∙◌}
use Rattle.std.specs.List.{list_all}
use Rattle.serna_kinds.specs.Blanks.{is_blank}
use Rattle.serna_kinds.specs.Names.{NameParts, Space}
use Rattle.tree_lines.specs.Given.{Given, without_lines}
use Rattle.tree_lines.specs.Given as given
use Rattle.style_sheet.specs.declared.style.Rule.{Rule}
use Rattle.style_sheet.specs.Instructions.{Instructions}
use Rattle.style_sheet.specs.Instructions as instruction
use Rattle.style_sheet.specs.Styles.{xslt_uri, is_within, is_instruction, keeps, text_in, texts_in, body_in, pattern_of, match_of, rule_at, rules_in, bodies_in, style_of, matched_name, matched_in, matched_names}
use Rattle.style_sheet.specs.Built.{has_texts_alone, has_nothing, has_none, is_plain_attribute, is_body, is_template, are_templates, is_sheet, is_built}

texts_in-lineless : (g : Given) (more : Instructions) → texts_in (without_lines g) more ≡ texts_in g more
texts_in-lineless given.end more = refl
texts_in-lineless (given.text t rest) more = ap (instruction.text t) (texts_in-lineless rest more)
texts_in-lineless (given.comment t rest) more = texts_in-lineless rest more
texts_in-lineless (given.element name attributes line content rest) more = texts_in-lineless rest more

body_in-lineless : (names : List NameParts) (kept : Bool) (g : Given) → body_in names kept (without_lines g) ≡ body_in names kept g
body_in-lineless names kept given.end = refl
body_in-lineless names kept (given.text t rest) = ap (text_in kept t) (body_in-lineless names kept rest)
body_in-lineless names kept (given.comment t rest) = body_in-lineless names kept rest
body_in-lineless names kept (given.element name attributes line content rest) =
    let inner = body_in-lineless names (keeps names kept attributes) content in
    let behind = body_in-lineless names kept rest in
    let texts : texts_in (without_lines content) (body_in names kept (without_lines rest)) ≡ texts_in content (body_in names kept rest) =
    texts_in-lineless content (body_in names kept (without_lines rest)) ∙ ap (texts_in content) behind in
    λ i. if is_instruction names (codes "text") name then texts i
    else if is_instruction names (codes "apply-templates") name then instruction.apply_templates (behind i)
    else instruction.element name attributes (inner i) (behind i)

rules_in-lineless : (names : List NameParts) (spaces : List Space) (place : ℕ) (g : Given) →
    rules_in names spaces place (without_lines g) ≡ rules_in names spaces place g
rules_in-lineless names spaces place given.end = refl
rules_in-lineless names spaces place (given.text t rest) = rules_in-lineless names spaces place rest
rules_in-lineless names spaces place (given.comment t rest) = rules_in-lineless names spaces place rest
rules_in-lineless names spaces place (given.element name attributes line content rest) =
    ap (λ (more : List Rule). rule_at place (pattern_of names spaces (match_of attributes)) ∷ more)
    (rules_in-lineless names spaces (place + 1) rest)

bodies_in-lineless : (names : List NameParts) (g : Given) → bodies_in names (without_lines g) ≡ bodies_in names g
bodies_in-lineless names given.end = refl
bodies_in-lineless names (given.text t rest) = bodies_in-lineless names rest
bodies_in-lineless names (given.comment t rest) = bodies_in-lineless names rest
bodies_in-lineless names (given.element name attributes line content rest) =
    let body = body_in-lineless names false content in
    let behind = bodies_in-lineless names rest in
    λ i. body i ∷ behind i

pub style_of-lineless : (names : List NameParts) (spaces : List Space) (g : Given) →
    style_of names spaces (without_lines g) ≡ style_of names spaces g
style_of-lineless names spaces given.end = refl
style_of-lineless names spaces (given.text t rest) = style_of-lineless names spaces rest
style_of-lineless names spaces (given.comment t rest) = style_of-lineless names spaces rest
style_of-lineless names spaces (given.element name attributes line content rest) =
    let rules = rules_in-lineless names spaces 0 content in
    let bodies = bodies_in-lineless names content in
    λ i. record { rules = rules i; bodies = bodies i }

matched_in-lineless : (spaces : List Space) (g : Given) → matched_in spaces (without_lines g) ≡ matched_in spaces g
matched_in-lineless spaces given.end = refl
matched_in-lineless spaces (given.text t rest) = matched_in-lineless spaces rest
matched_in-lineless spaces (given.comment t rest) = matched_in-lineless spaces rest
matched_in-lineless spaces (given.element name attributes line content rest) =
    ap (λ (xs : List NameParts). matched_name spaces (match_of attributes) ++ xs) (matched_in-lineless spaces rest)

pub matched_names-lineless : (spaces : List Space) (g : Given) → matched_names spaces (without_lines g) ≡ matched_names spaces g
matched_names-lineless spaces given.end = refl
matched_names-lineless spaces (given.text t rest) = matched_names-lineless spaces rest
matched_names-lineless spaces (given.comment t rest) = matched_names-lineless spaces rest
matched_names-lineless spaces (given.element name attributes line content rest) = matched_in-lineless spaces content

texts_alone-lineless : (g : Given) → has_texts_alone (without_lines g) ≡ has_texts_alone g
texts_alone-lineless given.end = refl
texts_alone-lineless (given.text t rest) = texts_alone-lineless rest
texts_alone-lineless (given.comment t rest) = texts_alone-lineless rest
texts_alone-lineless (given.element name attributes line content rest) = refl

nothing-lineless : (g : Given) → has_nothing (without_lines g) ≡ has_nothing g
nothing-lineless given.end = refl
nothing-lineless (given.text t rest) = ap (λ b. is_blank t && b) (nothing-lineless rest)
nothing-lineless (given.comment t rest) = nothing-lineless rest
nothing-lineless (given.element name attributes line content rest) = refl

is_body-lineless : (names : List NameParts) (g : Given) → is_body names (without_lines g) ≡ is_body names g
is_body-lineless names given.end = refl
is_body-lineless names (given.text t rest) = is_body-lineless names rest
is_body-lineless names (given.comment t rest) = is_body-lineless names rest
is_body-lineless names (given.element name attributes line content rest) =
    let texts = texts_alone-lineless content in
    let nothing = nothing-lineless content in
    let inner = is_body-lineless names content in
    let behind = is_body-lineless names rest in
    λ i. (if is_instruction names (codes "text") name then has_none attributes && texts i
    else if is_instruction names (codes "apply-templates") name then has_none attributes && nothing i
    else not (is_within names xslt_uri name) && list_all (is_plain_attribute names) attributes && inner i)
    && behind i

templates-lineless : (names : List NameParts) (spaces : List Space) (g : Given) →
    are_templates names spaces (without_lines g) ≡ are_templates names spaces g
templates-lineless names spaces given.end = refl
templates-lineless names spaces (given.text t rest) = ap (λ b. is_blank t && b) (templates-lineless names spaces rest)
templates-lineless names spaces (given.comment t rest) = templates-lineless names spaces rest
templates-lineless names spaces (given.element name attributes line content rest) =
    let inner = is_body-lineless names content in
    let behind = templates-lineless names spaces rest in
    λ i. is_template names spaces name attributes && inner i && behind i

pub is_built-lineless : (names : List NameParts) (spaces : List Space) (g : Given) →
    is_built names spaces (without_lines g) ≡ is_built names spaces g
is_built-lineless names spaces given.end = refl
is_built-lineless names spaces (given.text t rest) = is_built-lineless names spaces rest
is_built-lineless names spaces (given.comment t rest) = is_built-lineless names spaces rest
is_built-lineless names spaces (given.element name attributes line content rest) =
    ap (λ b. is_sheet names name attributes && b) (templates-lineless names spaces content)
