-- A stylesheet read item by item: what an item does to what was read before it, or that it may not stand there.
use Rattle.std.specs.Prelude.{ℕ, ◌&&◌, not, Bool, false, List, [], ◌∷◌, ◌++◌, length, codes, Option, Some, None, if◌then◌else◌}
use Rattle.std.specs.List.{list_all}
use Rattle.std.specs.Option.{option_map, option_and_then}
use Rattle.serna_kinds.specs.declared.cells.NameId.{NameId}
use Rattle.serna_kinds.specs.declared.cells.AttrPair.{AttrPair}
use Rattle.serna_kinds.specs.Blanks.{is_blank}
use Rattle.serna_kinds.specs.Names.{NameParts, Space}
use Rattle.tree_lines.specs.declared.tree.TreeItem.{TreeItem}
use Rattle.tree_lines.specs.declared.tree.TreeItem.TheVariants as item
use Rattle.tree_lines.specs.Tokens.{with_names}
use Rattle.style_sheet.specs.declared.style.Rule.{Rule}
use Rattle.style_sheet.specs.declared.reader.Place.{Place}
use Rattle.style_sheet.specs.declared.reader.Place.TheVariants as place
use Rattle.style_sheet.specs.Instructions.{Instructions, followed_by}
use Rattle.style_sheet.specs.Instructions as instruction
use Rattle.style_sheet.specs.Sheet.{StyleValue}
use Rattle.style_sheet.specs.Styles.{text_in, keeps, is_within, is_instruction, xslt_uri, pattern_of, match_of, matched_name, rule_at}
use Rattle.style_sheet.specs.Built.{has_none, is_plain_attribute, is_template, is_sheet}

-- an element of the result that has not ended: its name, its attributes, and what stands before it in its body
pub record Opened : Type 0 where
  pub name : NameId
  pub attributes : List AttrPair
  pub before : Instructions

-- what is read so far: where the next item stands, the elements around that place, the innermost first, those of the result among them,
-- what stands in the innermost one, the rules and their bodies
pub record Reading : Type 0 where
  pub here : Place
  pub around : List Place
  pub opened : List Opened
  pub body : Instructions
  pub rules : List Rule
  pub bodies : List Instructions

abbrev pub no_reading : Reading
no_reading = record { here = place.Before; around = []; opened = []; body = instruction.nothing; rules = []; bodies = [] }

-- further instructions
abbrev pub saying : Instructions → Reading → Reading
saying more s = record {
  here = s.here;
  around = s.around;
  opened = s.opened;
  body = followed_by s.body more;
  rules = s.rules;
  bodies = s.bodies;
}

-- an element begins in the one that is open, or ends
abbrev pub within : Place → Reading → Reading
within inner s = record { here = inner; around = s.here ∷ s.around; opened = s.opened; body = s.body; rules = s.rules; bodies = s.bodies }

abbrev pub nearest : List Place → Place
nearest [] = place.Behind
nearest (outer ∷ around) = outer

abbrev pub without_nearest : List Place → List Place
without_nearest [] = []
without_nearest (outer ∷ around) = around

abbrev pub out : Reading → Reading
out s = record {
  here = nearest s.around;
  around = without_nearest s.around;
  opened = s.opened;
  body = s.body;
  rules = s.rules;
  bodies = s.bodies;
}

-- the outermost element begins, or ends
abbrev pub at_place : Place → Reading → Reading
at_place here s = record { here = here; around = s.around; opened = s.opened; body = s.body; rules = s.rules; bodies = s.bodies }

-- an element of the result begins, in which nothing stands so far
abbrev pub opening : NameId → List AttrPair → Reading → Reading
opening name attributes s = record {
  here = s.here;
  around = s.around;
  opened = record { name = name; attributes = attributes; before = s.body } ∷ s.opened;
  body = instruction.nothing;
  rules = s.rules;
  bodies = s.bodies;
}

-- the innermost one ends: it stands behind what stands before it
abbrev pub closing_in : List Opened → Reading → Reading
closing_in [] s = s
closing_in (one ∷ outer) s = record {
  here = s.here;
  around = s.around;
  opened = outer;
  body = followed_by one.before (instruction.element one.name one.attributes s.body instruction.nothing);
  rules = s.rules;
  bodies = s.bodies;
}

abbrev pub closing : Reading → Reading
closing s = closing_in s.opened s

-- a template ends: its body is that of a rule, the next one
abbrev pub with_rule : Rule → Reading → Reading
with_rule rule s = record {
  here = s.here;
  around = s.around;
  opened = s.opened;
  body = instruction.nothing;
  rules = s.rules ++ rule ∷ [];
  bodies = s.bodies ++ s.body ∷ [];
}

-- a text
abbrev pub text_at : Place → List ℕ → Option Instructions
text_at place.Before t = Some instruction.nothing
text_at place.Sheet t = if is_blank t then Some instruction.nothing else None
text_at (place.Template pattern) t = Some (text_in false t instruction.nothing)
text_at (place.Literal kept) t = Some (text_in kept t instruction.nothing)
text_at place.Verbatim t = Some (instruction.text t instruction.nothing)
text_at place.Apply t = if is_blank t then Some instruction.nothing else None
text_at place.Behind t = Some instruction.nothing

abbrev pub after_text : Reading → List ℕ → Option Reading
after_text s t = option_map (λ more. saying more s) (text_at s.here t)

-- an element of a body begins, where white space is kept or not
abbrev pub after_literal : List NameParts → Bool → Reading → NameId → List AttrPair → Option Reading
after_literal names kept s name attributes =
    if not (is_within names xslt_uri name) && list_all (is_plain_attribute names) attributes
    then Some (within (place.Literal (keeps names kept attributes)) (opening name attributes s))
    else None

abbrev pub after_inner : List NameParts → Bool → Reading → NameId → List AttrPair → Option Reading
after_inner names kept s name attributes =
    if is_instruction names (codes "text") name then (if has_none attributes then Some (within place.Verbatim s) else None)
    else if is_instruction names (codes "apply-templates") name then
    (if has_none attributes then Some (within place.Apply (saying (instruction.apply_templates instruction.nothing) s)) else None)
    else after_literal names kept s name attributes

-- what is read, and the names that are known
pub record Progress : Type 0 where
  pub reading : Reading
  pub known : List NameParts

abbrev pub progress : Reading → List NameParts → Progress
progress reading known = record { reading = reading; known = known }

-- a template begins
abbrev pub after_template : List NameParts → List Space → Progress → NameId → List AttrPair → Option Progress
after_template names spaces p name attributes =
    if is_template names spaces name attributes
    then Some (progress (within (place.Template (pattern_of names spaces (match_of attributes))) p.reading)
    (with_names p.known (matched_name spaces (match_of attributes))))
    else None

abbrev pub knowing : List NameParts → Option Reading → Option Progress
knowing known read = option_map (λ s. progress s known) read

-- an element begins
abbrev pub begin_at : Place → List NameParts → List Space → Progress → NameId → List AttrPair → Option Progress
begin_at place.Before names spaces p name attributes =
    if is_sheet names name attributes then Some (progress (at_place place.Sheet p.reading) p.known) else None
begin_at place.Sheet names spaces p name attributes = after_template names spaces p name attributes
begin_at (place.Template pattern) names spaces p name attributes = knowing p.known (after_inner names false p.reading name attributes)
begin_at (place.Literal kept) names spaces p name attributes = knowing p.known (after_inner names kept p.reading name attributes)
begin_at place.Verbatim names spaces p name attributes = None
begin_at place.Apply names spaces p name attributes = None
begin_at place.Behind names spaces p name attributes = Some p

-- an element ends
abbrev pub finish_at : Place → Reading → Reading
finish_at place.Before s = s
finish_at place.Sheet s = at_place place.Behind s
finish_at (place.Template pattern) s = out (with_rule (rule_at (length s.rules) pattern) s)
finish_at (place.Literal kept) s = out (closing s)
finish_at place.Verbatim s = out s
finish_at place.Apply s = out s
finish_at place.Behind s = s

-- an item
abbrev pub after : List NameParts → List Space → Progress → TreeItem → Option Progress
after names spaces p (item.Begin name attributes line) = begin_at p.reading.here names spaces p name attributes
after names spaces p (item.Text t) = knowing p.known (after_text p.reading t)
after names spaces p (item.Comment t) = Some p
after names spaces p item.Finish = Some (progress (finish_at p.reading.here p.reading) p.known)

-- items, one after another
abbrev pub run : List NameParts → List Space → Progress → List TreeItem → Option Progress
run names spaces p [] = Some p
run names spaces p (x ∷ items) = option_and_then (λ q. run names spaces q items) (after names spaces p x)

-- the stylesheet, and the names
abbrev pub outcome : Progress → StyleValue × List NameParts
outcome p = (record { rules = p.reading.rules; bodies = p.reading.bodies }, p.known)
