-- Which stylesheets are of the built form.
use Rattle.std.specs.Prelude.{ℕ, ◌==◌, ◌&&◌, ◌||◌, not, Bool, true, false, List, [], ◌∷◌, is_some, codes, encode_utf8_all, if◌then◌else◌}
use Rattle.std.specs.List.{list_all, list_any}
use Rattle.serna_kinds.specs.declared.cells.NameId.{NameId}
use Rattle.serna_kinds.specs.declared.cells.AttrPair.{AttrPair}
use Rattle.serna_kinds.specs.Blanks.{is_blank}
use Rattle.serna_kinds.specs.Names.{NameParts, Space}
use Rattle.serna_kinds.specs.Qualified.{prefix_of, is_name, attribute_uri}
use Rattle.tree_lines.specs.Given.{Given}
use Rattle.tree_lines.specs.Given as given
use Rattle.style_sheet.specs.Styles.{xslt_uri, is_within, is_named, is_instruction, is_word, root_pattern, match_of}

-- nothing but texts and comments
abbrev pub has_texts_alone : Given → Bool
has_texts_alone given.end = true
has_texts_alone (given.text t rest) = has_texts_alone rest
has_texts_alone (given.comment t rest) = has_texts_alone rest
has_texts_alone (given.element name attributes line content rest) = false

-- nothing but comments and texts of white space
abbrev pub has_nothing : Given → Bool
has_nothing given.end = true
has_nothing (given.text t rest) = is_blank t && has_nothing rest
has_nothing (given.comment t rest) = has_nothing rest
has_nothing (given.element name attributes line content rest) = false

abbrev pub has_none : List AttrPair → Bool
has_none [] = true
has_none (pair ∷ pairs) = false

-- `{` and `}`
abbrev pub is_brace : ℕ → Bool
is_brace c = c == 123 || c == 125

-- an attribute of a result's element: its value has no brace, so that it is no template (section 7.6.2), and its name is none of the
-- instructions' namespace
abbrev pub is_plain_attribute : List NameParts → AttrPair → Bool
is_plain_attribute names pair = not (is_within names xslt_uri pair.name) && not (list_any is_brace pair.value)

-- a body has texts, `xsl:text`, `xsl:apply-templates` without attributes and content, and elements of the result
abbrev pub is_body : List NameParts → Given → Bool
is_body names given.end = true
is_body names (given.text t rest) = is_body names rest
is_body names (given.comment t rest) = is_body names rest
is_body names (given.element name attributes line content rest) =
    (if is_instruction names (codes "text") name then has_none attributes && has_texts_alone content
    else if is_instruction names (codes "apply-templates") name then has_none attributes && has_nothing content
    else not (is_within names xslt_uri name) && list_all (is_plain_attribute names) attributes && is_body names content)
    && is_body names rest

-- `/`, or a name whose prefix is declared
abbrev pub is_pattern : List Space → List ℕ → Bool
is_pattern spaces text = is_word text root_pattern
    || (is_name (encode_utf8_all text) && is_some (attribute_uri spaces (prefix_of (encode_utf8_all text))))

-- the one attribute is this one, in no namespace
abbrev pub has_alone : List NameParts → List ℕ → List AttrPair → Bool
has_alone names local [] = false
has_alone names local (pair ∷ pairs) = is_named names [] local pair.name && has_none pairs

-- a template's one attribute is `match`
abbrev pub is_template : List NameParts → List Space → NameId → List AttrPair → Bool
is_template names spaces name attributes =
    is_instruction names (codes "template") name && has_alone names (codes "match") attributes && is_pattern spaces (match_of attributes)

-- in the outermost element there are templates, with comments and white space between them
abbrev pub are_templates : List NameParts → List Space → Given → Bool
are_templates names spaces given.end = true
are_templates names spaces (given.text t rest) = is_blank t && are_templates names spaces rest
are_templates names spaces (given.comment t rest) = are_templates names spaces rest
are_templates names spaces (given.element name attributes line content rest) =
    is_template names spaces name attributes && is_body names content && are_templates names spaces rest

-- the outermost element's one attribute is `version`
abbrev pub is_sheet : List NameParts → NameId → List AttrPair → Bool
is_sheet names name attributes =
    (is_instruction names (codes "stylesheet") name || is_instruction names (codes "transform") name)
    && has_alone names (codes "version") attributes

abbrev pub is_built : List NameParts → List Space → Given → Bool
is_built names spaces given.end = true
is_built names spaces (given.text t rest) = is_built names spaces rest
is_built names spaces (given.comment t rest) = is_built names spaces rest
is_built names spaces (given.element name attributes line content rest) =
    is_sheet names name attributes && are_templates names spaces content
