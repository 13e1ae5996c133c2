-- Lines that break no rule are those of a document: what is left of the lines behind some others, from its end to its beginning.
use Rattle.std.proofs.Common.{◌≡◌, ℕ, Bool, true, false, List, [], ◌∷◌, ◌++◌, map, Option, Some, None, length, refl, sym, ap, subst, ◌∙◌, append_assoc}
use Rattle.std.specs.Prelude.{◌&&◌, ◌||◌, IsTrue, if◌then◌else◌}
use Rattle.std.specs.List.{AllByRecursion}
use Rattle.std.proofs.lemmas.Bool.{false≢true, true≢false}
use Rattle.std.proofs.lemmas.Option.{none-some}
use Rattle.std.proofs.lemmas.Slice.Eq.{bytes_eq-Decides}
use Rattle.serna_kinds.specs.Names.{Space}
use Rattle.serna_kinds.specs.Qualified.{is_name}
use Rattle.tree_lines.specs.declared.rules.LineRule.{LineRule}
use Rattle.tree_lines.specs.declared.rules.LineRule.TheVariants as rule
use Rattle.tree_lines.specs.Tags.{Tag, tag_of, is_declaration}
use Rattle.tree_lines.specs.Tags as tag
use Rattle.tree_lines.specs.Before.{OpenElement, open_element, without_innermost, opened, open_elements, is_begin, has_element, takes_attribute_behind, takes_attribute}
use Rattle.tree_lines.specs.LeftOpen.{left_open}
use Rattle.tree_lines.specs.Faults.{is_nothing, is_innermost, said_fault, ending_fault, fault_behind, fault_of}
use Rattle.tree_lines.specs.Written.{Written, Attribute, attribute_bytes, written_lines}
use Rattle.tree_lines.specs.Written as written
use Rattle.tree_lines.specs.Documents.{AreComments, IsTop, AreParted, IsDocument}
use Rattle.tree_lines.specs.Declarations.{spaces_in}
use Rattle.tree_lines.proofs.LineFacts.{fault_behind-parts, line_fault-parts}
use Rattle.tree_lines.proofs.RulesKept.{begin-none, attribute-none, text-none, finish-none}
use Rattle.tree_lines.proofs.LineTags.{line_of, line_of-tag}

-- what stands outside the outermost element: comments behind it, and it with comments beside it where it has not begun
abbrev IsOutside : Bool → Written → Type 0
IsOutside true document = AreComments document
IsOutside false document = IsTop document

record IsOutsideLines (begun : Bool) (lines : List (List ℕ)) : Type 0 where
  content : Written
  outside : IsOutside begun content
  parted : AreParted content
  same : lines ≡ written_lines content

-- the rest of the innermost element's content, its end, and what follows it
record IsContent (name : List ℕ) (Follows : List (List ℕ) → Type 0) (lines : List (List ℕ)) : Type 0 where
  content : Written
  rest : List (List ℕ)
  parted : AreParted content
  same : lines ≡ written_lines content ++ (41 ∷ name) ∷ rest
  follows : Follows rest

-- what closes the open elements
abbrev Closes : Bool → List OpenElement → List (List ℕ) → Type 0
Closes begun [] lines = IsOutsideLines begun lines
Closes begun (x ∷ outer) lines = IsContent x.name (Closes true outer) lines

-- further attributes, none where none may stand, and then what closes the open elements
record IsLeft (takes begun : Bool) (opens : List OpenElement) (lines : List (List ℕ)) : Type 0 where
  attributes : List Attribute
  rest : List (List ℕ)
  named : AllByRecursion (λ (attribute : Attribute). IsTrue (is_name attribute.name)) attributes
  allowed : takes ≡ false → attributes ≡ []
  same : lines ≡ map attribute_bytes attributes ++ rest
  follows : Closes begun opens rest

-- no attribute stands in front
at_once : (begun : Bool) (opens : List OpenElement) (lines : List (List ℕ)) → IsLeft false begun opens lines → Closes begun opens lines
at_once begun opens lines left = by left.attributes (left.allowed refl) left.same
  where
    by : (attributes : List Attribute) → attributes ≡ [] → lines ≡ map attribute_bytes attributes ++ left.rest → Closes begun opens lines
    by attributes none e = rw (e ∙ ap (λ x. map attribute_bytes x ++ left.rest) none) left.follows

with_none : (takes begun : Bool) (opens : List OpenElement) (lines : List (List ℕ)) → Closes begun opens lines → IsLeft takes begun opens lines
with_none takes begun opens lines follows = record { attributes = []; rest = lines; named = tt; allowed = λ e. refl; same = refl; follows = follows }

-- where elements are open, one has begun
finish_begun : (begun : Bool) (opens : List OpenElement) (x : OpenElement) (outer : List OpenElement) → ((y : OpenElement) (ys : List OpenElement) → opens ≡ y ∷ ys → begun ≡ true) → without_innermost opens ≡ x ∷ outer → begun ≡ true
finish_begun begun [] x outer has e = absurd (cc)
finish_begun begun (y ∷ ys) x outer has e = has y ys refl

opened_begun : (place : ℕ) (t : Option Tag) (before : List (List ℕ)) (x : OpenElement) (outer : List OpenElement)
    → ((y : OpenElement) (ys : List OpenElement) → open_elements before ≡ y ∷ ys → has_element before ≡ true)
    → opened place t (open_elements before) ≡ x ∷ outer → (is_begin t || has_element before) ≡ true
opened_begun place None before x outer begun e = begun x outer e
opened_begun place (Some (tag.Begin name)) before x outer begun e = refl
opened_begun place (Some (tag.Attribute name value)) before x outer begun e = begun x outer e
opened_begun place (Some (tag.Text t)) before x outer begun e = begun x outer e
opened_begun place (Some (tag.Comment t)) before x outer begun e = begun x outer e
opened_begun place (Some (tag.Finish name)) before x outer begun e = finish_begun (has_element before) (open_elements before) x outer begun e

open_begun : (before : List (List ℕ)) (x : OpenElement) (outer : List OpenElement) → open_elements before ≡ x ∷ outer → has_element before ≡ true
open_begun [] x outer e = absurd (cc)
open_begun (line ∷ before) x outer e = opened_begun (length before) (tag_of line) before x outer (open_begun before) e

-- a comment
comment_closes : (begun : Bool) (opens : List OpenElement) (t : List ℕ) (lines : List (List ℕ)) → Closes begun opens lines → Closes begun opens ((67 ∷ t) ∷ lines)
comment_closes true [] t lines h = record { content = written.comment t h.content; outside = h.outside; parted = h.parted; same = ap (λ x. (67 ∷ t) ∷ x) h.same }
comment_closes false [] t lines h = record { content = written.comment t h.content; outside = h.outside; parted = h.parted; same = ap (λ x. (67 ∷ t) ∷ x) h.same }
comment_closes begun (x ∷ outer) t lines h = record { content = written.comment t h.content; rest = h.rest; parted = h.parted; same = ap (λ x. (67 ∷ t) ∷ x) h.same; follows = h.follows }

-- a text
text_closes : (begun : Bool) (opens : List OpenElement) (t : List ℕ) (lines : List (List ℕ)) → is_nothing opens ≡ false → Closes begun opens lines → Closes begun opens ((45 ∷ t) ∷ lines)
text_closes begun [] t lines some h = absurd (true≢false some)
text_closes begun (x ∷ outer) t lines some h = record { content = written.text t h.content; rest = h.rest; parted = h.parted; same = ap (λ x. (45 ∷ t) ∷ x) h.same; follows = h.follows }

-- an element's beginning
pub regroup : (front content behind last : List (List ℕ)) (line : List ℕ) → front ++ (content ++ line ∷ (behind ++ last)) ≡ (front ++ (content ++ line ∷ behind)) ++ last
regroup front content behind last line =
    ap (λ x. front ++ x) (sym (append_assoc content (line ∷ behind) last)) ∙ sym (append_assoc front (content ++ line ∷ behind) last)

begin_same : (name : List ℕ) (attributes : List Attribute) (content : Written) (lines rest behind : List (List ℕ))
    → lines ≡ map attribute_bytes attributes ++ rest → rest ≡ written_lines content ++ (41 ∷ name) ∷ behind
    → (40 ∷ name) ∷ lines ≡ (40 ∷ name) ∷ (map attribute_bytes attributes ++ (written_lines content ++ (41 ∷ name) ∷ behind))
begin_same name attributes content lines rest behind e f = ap (λ x. (40 ∷ name) ∷ x) (e ∙ ap (λ x. map attribute_bytes attributes ++ x) f)

begin_closes : (begun : Bool) (opens : List OpenElement) (place : ℕ) (name : List ℕ) (lines : List (List ℕ)) → (begun && is_nothing opens) ≡ false
    → IsLeft true true (open_element place name ∷ opens) lines → Closes begun opens ((40 ∷ name) ∷ lines)
begin_closes true [] place name lines one h = absurd (true≢false one)
begin_closes false [] place name lines one h =
    let inner = h.follows in
    let behind = inner.follows in
    record {
      content = written.element name h.attributes inner.content behind.content;
      outside = behind.outside;
      parted = (h.named, inner.parted, behind.parted);
      same = begin_same name h.attributes inner.content lines h.rest inner.rest h.same inner.same ∙ ap (λ x. (40 ∷ name) ∷ (map attribute_bytes h.attributes ++ (written_lines inner.content ++ (41 ∷ name) ∷ x))) behind.same;
    }
begin_closes begun (x ∷ outer) place name lines one h =
    let inner = h.follows in
    let behind = inner.follows in
    record {
      content = written.element name h.attributes inner.content behind.content;
      rest = behind.rest;
      parted = (h.named, inner.parted, behind.parted);
      same = begin_same name h.attributes inner.content lines h.rest inner.rest h.same inner.same
          ∙ ap (λ x. (40 ∷ name) ∷ (map attribute_bytes h.attributes ++ (written_lines inner.content ++ (41 ∷ name) ∷ x))) behind.same
          ∙ ap (λ y. (40 ∷ name) ∷ y) (regroup (map attribute_bytes h.attributes) (written_lines inner.content) (written_lines behind.content) ((41 ∷ x.name) ∷ behind.rest) (41 ∷ name));
      follows = behind.follows;
    }

-- the end of the innermost element
finish_closes : (begun : Bool) (opens : List OpenElement) (name : List ℕ) (lines : List (List ℕ)) → is_innermost opens name ≡ true
    → ((x : OpenElement) (outer : List OpenElement) → opens ≡ x ∷ outer → begun ≡ true) → Closes begun (without_innermost opens) lines → Closes begun opens ((41 ∷ name) ∷ lines)
finish_closes begun [] name lines is has h = absurd (false≢true is)
finish_closes begun (x ∷ outer) name lines is has h =
    let one = has x outer refl in
    record {
      content = written.end;
      rest = lines;
      parted = tt;
      same = ap (λ n. (41 ∷ n) ∷ lines) (sym ((bytes_eq-Decides x.name name).0 is));
      follows = subst (λ b. Closes b outer lines) one h;
    }

-- an attribute
attribute_left : (takes begun : Bool) (opens : List OpenElement) (name value : List ℕ) (lines : List (List ℕ)) → takes ≡ true → IsTrue (is_name name)
    → IsLeft true begun opens lines → IsLeft takes begun opens ((65 ∷ (name ++ 32 ∷ value)) ∷ lines)
attribute_left takes begun opens name value lines may good h =
    record {
      attributes = record { name = name; value = value } ∷ h.attributes;
      rest = h.rest;
      named = (good, h.named);
      allowed = λ not_here. absurd (true≢false (sym may ∙ not_here));
      same = ap (λ x. (65 ∷ (name ++ 32 ∷ value)) ∷ x) h.same;
      follows = h.follows;
    }

-- the end of the lines
end_closes : (opens : List OpenElement) (before : List (List ℕ)) → ending_fault opens (has_element before) (length before) ≡ None → Closes (has_element before) opens []
end_closes (x ∷ outer) before e = absurd (none-some (x.place, rule.Unclosed) (sym e))
end_closes [] before e = by (has_element before) e
  where
    by : (begun : Bool) → (if◌then◌else◌ {A = Option (ℕ × LineRule)} begun None (Some (length before, rule.NoElement))) ≡ None → IsOutsideLines begun []
    by true f = record { content = written.end; outside = tt; parted = tt; same = refl }
    by false f = absurd (none-some {A = ℕ × LineRule} (length before, rule.NoElement) (sym f))

-- a line more
left_said : (spaces : List Space) (before lines : List (List ℕ)) (t : Tag) → said_fault (left_open spaces before) (Some t) ≡ None
    → IsLeft (takes_attribute_behind (Some t)) (is_begin (Some t) || has_element before) (opened (length before) (Some t) (open_elements before)) lines
    → IsLeft (takes_attribute before) (has_element before) (open_elements before) (line_of t ∷ lines)
left_said spaces before lines (tag.Begin name) e h =
    let one = (begin-none spaces before name e).one in
    with_none (takes_attribute before) (has_element before) (open_elements before) ((40 ∷ name) ∷ lines) (begin_closes (has_element before) (open_elements before) (length before) name lines one h)
left_said spaces before lines (tag.Attribute name value) e h =
    let kept = attribute-none spaces before name value e in
    attribute_left (takes_attribute before) (has_element before) (open_elements before) name value lines kept.placed kept.named h
left_said spaces before lines (tag.Text t) e h =
    let inside = (text-none spaces before t e).inside in
    with_none (takes_attribute before) (has_element before) (open_elements before) ((45 ∷ t) ∷ lines)
    (text_closes (has_element before) (open_elements before) t lines inside (at_once (has_element before) (open_elements before) lines h))
left_said spaces before lines (tag.Comment t) e h =
    with_none (takes_attribute before) (has_element before) (open_elements before) ((67 ∷ t) ∷ lines)
    (comment_closes (has_element before) (open_elements before) t lines (at_once (has_element before) (open_elements before) lines h))
left_said spaces before lines (tag.Finish name) e h =
    let innermost = finish-none spaces before name e in
    with_none (takes_attribute before) (has_element before) (open_elements before) ((41 ∷ name) ∷ lines)
    (finish_closes (has_element before) (open_elements before) name lines innermost (open_begun before)
    (at_once (has_element before) (without_innermost (open_elements before)) lines h))

left_behind : (spaces : List Space) (before lines : List (List ℕ)) (line : List ℕ) (t : Option Tag) → tag_of line ≡ t → said_fault (left_open spaces before) t ≡ None
    → IsLeft (takes_attribute_behind t) (is_begin t || has_element before) (opened (length before) t (open_elements before)) lines
    → IsLeft (takes_attribute before) (has_element before) (open_elements before) (line ∷ lines)
left_behind spaces before lines line None said e h = absurd (none-some rule.BadLine (sym e))
left_behind spaces before lines line (Some t) said e h =
    subst (λ x. IsLeft (takes_attribute before) (has_element before) (open_elements before) (x ∷ lines)) (sym (line_of-tag line t said)) (left_said spaces before lines t e h)

is_left : (spaces : List Space) (before lines : List (List ℕ)) → fault_behind spaces before lines ≡ None → IsLeft (takes_attribute before) (has_element before) (open_elements before) lines
is_left spaces before [] e = with_none (takes_attribute before) (has_element before) (open_elements before) [] (end_closes (open_elements before) before e)
is_left spaces before (line ∷ lines) e =
    let both = fault_behind-parts spaces before line lines e in
    let good = line_fault-parts spaces before line both.0 in
    left_behind spaces before lines line (tag_of line) refl good.1 (is_left spaces (line ∷ before) lines both.1)

-- so all the lines are a document's
pub document_from_faultless : (lines : List (List ℕ)) → fault_of lines ≡ None → (document : Written) × IsDocument document × (lines ≡ written_lines document)
document_from_faultless lines e =
    let all = at_once false [] lines (is_left (spaces_in lines) [] lines e) in
    (all.content, record { top = all.outside; parted = all.parted; faultless = ap fault_of (sym all.same) ∙ e }, all.same)
