-- The rules that a stylesheet's tree says (XSLT 1.0, sections 2.2, 3.4, 5, 7.1.1 and 7.2), in the form that is built: rules for the
-- document node and for elements of a name, whose bodies have text, elements of the result and `xsl:apply-templates`.
use Rattle.std.specs.Prelude.{ℕ, ◌+◌, ◌++◌, ◌&&◌, not, Bool, true, false, List, [], ◌∷◌, slice_get, pos, bytes_eq, codes, encode_utf8_all, Option, Some, None, if◌then◌else◌}
use Rattle.std.specs.Option.{option_map_or}
use Rattle.serna_kinds.specs.declared.cells.NameId.{NameId}
use Rattle.serna_kinds.specs.declared.cells.AttrPair.{AttrPair}
use Rattle.serna_kinds.specs.Blanks.{is_blank}
use Rattle.serna_kinds.specs.Names.{NameParts, Space, id_of}
use Rattle.serna_kinds.specs.Qualified.{xml_uri, attribute_name}
use Rattle.tree_lines.specs.Given.{Given}
use Rattle.tree_lines.specs.Given as given
use Rattle.style_sheet.specs.declared.style.Pattern.{Pattern}
use Rattle.style_sheet.specs.declared.style.Pattern.TheVariants as pattern
use Rattle.style_sheet.specs.declared.style.Rule.{Rule}
use Rattle.style_sheet.specs.Instructions.{Instructions}
use Rattle.style_sheet.specs.Instructions as instruction
use Rattle.style_sheet.specs.Sheet.{StyleValue, no_style}

-- Names

-- the namespace of instructions (section 2.1)
abbrev pub xslt_uri : List ℕ
xslt_uri = codes "http://www.w3.org/1999/XSL/Transform"

-- the name of a number is in a namespace, and has a local name in it
abbrev pub is_within : List NameParts → List ℕ → NameId → Bool
is_within names uri id = option_map_or (λ (name : NameParts). bytes_eq name.uri uri) (slice_get names id.0) false

abbrev pub is_named : List NameParts → List ℕ → List ℕ → NameId → Bool
is_named names uri local id =
    option_map_or (λ (name : NameParts). bytes_eq name.uri uri && bytes_eq name.local local) (slice_get names id.0) false

-- an instruction of this name
abbrev pub is_instruction : List NameParts → List ℕ → NameId → Bool
is_instruction names local id = is_named names xslt_uri local id

-- White space

-- a text is this word, of ASCII characters
abbrev pub is_word : List ℕ → List ℕ → Bool
is_word text word = bytes_eq (encode_utf8_all text) word

-- what `xml:space` says: white space is kept, or it is not; None for another attribute, and for another value
abbrev pub space_of : List NameParts → AttrPair → Option Bool
space_of names pair =
    if not (is_named names xml_uri (codes "space") pair.name) then None
    else if is_word pair.value (codes "preserve") then Some true
    else if is_word pair.value (codes "default") then Some false
    else None

-- white space is kept in an element with these attributes (section 3.4): as `xml:space` says, or else as around it
abbrev pub keeps : List NameParts → Bool → List AttrPair → Bool
keeps names around [] = around
keeps names around (pair ∷ pairs) = elim (space_of names pair) [ None ↦ keeps names around pairs | Some kept ↦ kept ]

-- Bodies

-- a text of a stylesheet before other instructions: one of white space alone is nothing where white space is not kept
abbrev pub text_in : Bool → List ℕ → Instructions → Instructions
text_in kept t more = if is_blank t && not kept then more else instruction.text t more

-- the texts in an `xsl:text` (section 7.2), as they are
abbrev pub texts_in : Given → Instructions → Instructions
texts_in given.end more = more
texts_in (given.text t rest) more = instruction.text t (texts_in rest more)
texts_in (given.comment t rest) more = texts_in rest more
texts_in (given.element name attributes line content rest) more = texts_in rest more

-- what neighbours in a body say, where white space is kept or not
abbrev pub body_in : List NameParts → Bool → Given → Instructions
body_in names kept given.end = instruction.nothing
body_in names kept (given.text t rest) = text_in kept t (body_in names kept rest)
body_in names kept (given.comment t rest) = body_in names kept rest
body_in names kept (given.element name attributes line content rest) =
    if is_instruction names (codes "text") name then texts_in content (body_in names kept rest)
    else if is_instruction names (codes "apply-templates") name then instruction.apply_templates (body_in names kept rest)
    else instruction.element name attributes (body_in names (keeps names kept attributes) content) (body_in names kept rest)

-- Rules

-- what a rule is for: `/`, or a name, whose prefix the stylesheet declares; a name without a prefix is in no namespace (XPath 1.0,
-- section 2.3)
abbrev pub root_pattern : List ℕ
root_pattern = codes "/"

abbrev pub pattern_of : List NameParts → List Space → List ℕ → Pattern
pattern_of names spaces text =
    if is_word text root_pattern then pattern.Root else pattern.Named (id_of names (attribute_name spaces (encode_utf8_all text)))

-- its priority in hundredths (section 5.5)
abbrev pub priority_of : Pattern → ℕ
priority_of pattern.Root = 50
priority_of (pattern.Named name) = 0

-- the value of the first attribute, which is `match`
abbrev pub match_of : List AttrPair → List ℕ
match_of [] = []
match_of (pair ∷ pairs) = pair.value

-- the rule of a place: so far each has a pattern, no name, no mode, and a body of its own, and its module imports nothing
abbrev pub rule_at : ℕ → Pattern → Rule
rule_at place pattern = record {
  pattern = Some pattern;
  name = None;
  mode = None;
  precedence = 0;
  priority = pos (priority_of pattern);
  place = place;
  lowest = 0;
  body = place;
}

-- the rules of the templates among neighbours, the first one at this place
abbrev pub rules_in : List NameParts → List Space → ℕ → Given → List Rule
rules_in names spaces place given.end = []
rules_in names spaces place (given.text t rest) = rules_in names spaces place rest
rules_in names spaces place (given.comment t rest) = rules_in names spaces place rest
rules_in names spaces place (given.element name attributes line content rest) =
    rule_at place (pattern_of names spaces (match_of attributes)) ∷ rules_in names spaces (place + 1) rest

-- their bodies
abbrev pub bodies_in : List NameParts → Given → List Instructions
bodies_in names given.end = []
bodies_in names (given.text t rest) = bodies_in names rest
bodies_in names (given.comment t rest) = bodies_in names rest
bodies_in names (given.element name attributes line content rest) = body_in names false content ∷ bodies_in names rest

-- a stylesheet: the rules and the bodies of the templates in its outermost element
abbrev pub style_of : List NameParts → List Space → Given → StyleValue
style_of names spaces given.end = no_style
style_of names spaces (given.text t rest) = style_of names spaces rest
style_of names spaces (given.comment t rest) = style_of names spaces rest
style_of names spaces (given.element name attributes line content rest) =
    record { rules = rules_in names spaces 0 content; bodies = bodies_in names content }

-- the names that the rules of neighbours are for
abbrev pub matched_name : List Space → List ℕ → List NameParts
matched_name spaces text = if is_word text root_pattern then [] else attribute_name spaces (encode_utf8_all text) ∷ []

abbrev pub matched_in : List Space → Given → List NameParts
matched_in spaces given.end = []
matched_in spaces (given.text t rest) = matched_in spaces rest
matched_in spaces (given.comment t rest) = matched_in spaces rest
matched_in spaces (given.element name attributes line content rest) = matched_name spaces (match_of attributes) ++ matched_in spaces rest

abbrev pub matched_names : List Space → Given → List NameParts
matched_names spaces given.end = []
matched_names spaces (given.text t rest) = matched_names spaces rest
matched_names spaces (given.comment t rest) = matched_names spaces rest
matched_names spaces (given.element name attributes line content rest) = matched_in spaces content
