-- The first fault of lines that are no document (this project's own): at the first line that breaks a rule the first rule that it breaks,
-- in the order of the rules. For each line there stand the rules that it may break, with what breaks them, by what the lines before it
-- leave open.
use Rattle.std.specs.Prelude.{ℕ, ◌+◌, ◌==◌, ◌&&◌, not, nat_le, nat_lt, Bool, true, false, List, [], ◌∷◌, map, length, slice_get, Option, Some, None, is_some, bytes_eq, if◌then◌else◌}
use Rattle.std.specs.Option.{option_map, option_map_or}
use Rattle.serna_kinds.specs.Limits.{text_limit, node_limit, depth_limit}
use Rattle.serna_kinds.specs.Names.{Space}
use Rattle.serna_kinds.specs.Qualified.{prefix_of, is_name, element_uri, attribute_uri}
use Rattle.tree_lines.specs.declared.tree.Line.{Line}
use Rattle.tree_lines.specs.declared.rules.LineRule.{LineRule}
use Rattle.tree_lines.specs.declared.rules.LineRule.TheVariants as rule
use Rattle.tree_lines.specs.Texts.{is_line, has_escapes, meant, size_of}
use Rattle.tree_lines.specs.Tags.{Tag, tag_of, is_declaration, declared_prefix}
use Rattle.tree_lines.specs.Tags as tag
use Rattle.tree_lines.specs.Declarations.{spaces_in}
use Rattle.tree_lines.specs.Before.{OpenElement, begins_text}
use Rattle.tree_lines.specs.LeftOpen.{LeftOpen, left_open}

-- the first rule that is broken
abbrev pub first_broken : List (Bool × LineRule) → Option LineRule
first_broken [] = None
first_broken (x ∷ xs) = if x.0 then Some x.1 else first_broken xs

abbrev pub is_nothing : {A : Type 0} → List A → Bool
is_nothing [] = true
is_nothing (x ∷ xs) = false

-- `(NAME`
abbrev pub begin_fault : LeftOpen → List ℕ → Option LineRule
begin_fault left name = first_broken (
    (not (is_name name), rule.BadName)
    ∷ (left.has_begun && is_nothing left.elements, rule.TwoRoots)
    ∷ (nat_le depth_limit (length left.elements), rule.TooDeep)
    ∷ (nat_le node_limit left.nodes, rule.TooManyNodes)
    ∷ (not (is_some (element_uri left.spaces (prefix_of name))), rule.UnboundPrefix)
    ∷ [])

-- `ANAME VALUE` that declares a namespace, on the outermost element
abbrev pub declaration_fault : LeftOpen → List ℕ → List ℕ → Option LineRule
declaration_fault left name value = first_broken (
    (not left.takes_more, rule.BadLine)
    ∷ (not (is_name name), rule.BadName)
    ∷ (not (has_escapes value), rule.BadEscape)
    ∷ (left.is_declared name, rule.DuplicateAttribute)
    ∷ (not (is_nothing (declared_prefix name)) && is_nothing value, rule.UnboundPrefix)
    ∷ [])

-- and on another one
abbrev pub inner_declaration_fault : LeftOpen → List ℕ → List ℕ → Option LineRule
inner_declaration_fault left name value = first_broken (
    (not left.takes_more, rule.BadLine)
    ∷ (not (is_name name), rule.BadName)
    ∷ (not (has_escapes value), rule.BadEscape)
    ∷ (true, rule.InnerNamespace)
    ∷ [])

-- any other `ANAME VALUE`
abbrev pub pair_fault : LeftOpen → List ℕ → List ℕ → Option LineRule
pair_fault left name value = first_broken (
    (not left.takes_more, rule.BadLine)
    ∷ (not (is_name name), rule.BadName)
    ∷ (not (has_escapes value), rule.BadEscape)
    ∷ (left.is_taken name, rule.DuplicateAttribute)
    ∷ (nat_lt text_limit (size_of (meant value)), rule.TextTooLong)
    ∷ (not (is_some (attribute_uri left.spaces (prefix_of name))), rule.UnboundPrefix)
    ∷ [])

abbrev pub attribute_fault : LeftOpen → List ℕ → List ℕ → Option LineRule
attribute_fault left name value =
    if is_declaration name
    then (if length left.elements == 1 then declaration_fault left name value else inner_declaration_fault left name value)
    else pair_fault left name value

-- `-TEXT`
abbrev pub text_fault : LeftOpen → List ℕ → Option LineRule
text_fault left t = first_broken (
    (is_nothing left.elements, rule.BadLine)
    ∷ (not (has_escapes t), rule.BadEscape)
    ∷ (begins_text left.bytes t && nat_le node_limit left.nodes, rule.TooManyNodes)
    ∷ (nat_lt text_limit (left.bytes + size_of (meant t)), rule.TextTooLong)
    ∷ [])

-- `CTEXT`
abbrev pub comment_fault : LeftOpen → List ℕ → Option LineRule
comment_fault left t = first_broken (
    (not (has_escapes t), rule.BadEscape)
    ∷ (nat_le node_limit left.nodes, rule.TooManyNodes)
    ∷ [])

-- the name is the one with which the innermost element began
abbrev pub is_innermost : List OpenElement → List ℕ → Bool
is_innermost [] name = false
is_innermost (x ∷ outer) name = bytes_eq x.name name

-- `)NAME`
abbrev pub finish_fault : LeftOpen → List ℕ → Option LineRule
finish_fault left name = first_broken (
    (not (is_name name), rule.BadName)
    ∷ (not (is_innermost left.elements name), rule.WrongClose)
    ∷ [])

abbrev pub tag_fault : LeftOpen → Tag → Option LineRule
tag_fault left (tag.Begin name) = begin_fault left name
tag_fault left (tag.Attribute name value) = attribute_fault left name value
tag_fault left (tag.Text t) = text_fault left t
tag_fault left (tag.Comment t) = comment_fault left t
tag_fault left (tag.Finish name) = finish_fault left name

abbrev pub said_fault : LeftOpen → Option Tag → Option LineRule
said_fault left None = Some rule.BadLine
said_fault left (Some said) = tag_fault left said

-- the rule that a line breaks
abbrev pub line_fault : LeftOpen → List ℕ → Option LineRule
line_fault left line = if is_line line then said_fault left (tag_of line) else Some rule.BadLine

-- at the end: the innermost element that has not ended, at the place of its line; or that there is no element, one past the last line
abbrev pub ending_fault : List OpenElement → Bool → ℕ → Option (ℕ × LineRule)
ending_fault (x ∷ outer) has_begun count = Some (x.place, rule.Unclosed)
ending_fault [] has_begun count = if has_begun then None else Some (count, rule.NoElement)

abbrev pub end_fault : LeftOpen → ℕ → Option (ℕ × LineRule)
end_fault left count = ending_fault left.elements left.has_begun count

abbrev pub or_later : ℕ → Option LineRule → Option (ℕ × LineRule) → Option (ℕ × LineRule)
or_later place (Some broken) later = Some (place, broken)
or_later place None later = later

-- the first fault of the lines that are left, by the place of its line, from 0
abbrev pub fault_behind : List Space → List (List ℕ) → List (List ℕ) → Option (ℕ × LineRule)
fault_behind spaces before [] = end_fault (left_open spaces before) (length before)
fault_behind spaces before (line ∷ lines) = or_later (length before) (line_fault (left_open spaces before) line) (fault_behind spaces (line ∷ before) lines)

abbrev pub fault_of : List (List ℕ) → Option (ℕ × LineRule)
fault_of lines = fault_behind (spaces_in lines) [] lines

-- the number of the line at a place; 0 past the last one
abbrev pub number_at : List Line → ℕ → ℕ
number_at lines place = option_map_or (λ (line : Line). line.number) (slice_get lines place) 0

abbrev pub bytes_of : List Line → List (List ℕ)
bytes_of lines = map (λ (line : Line). line.bytes) lines

-- the first fault of numbered lines: the number of its line, and the rule; that there is no element has the number 0
abbrev pub first_fault : List Line → Option (ℕ × LineRule)
first_fault lines = option_map (λ fault. (number_at lines fault.0, fault.1)) (fault_of (bytes_of lines))
