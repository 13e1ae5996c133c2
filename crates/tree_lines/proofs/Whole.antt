-- A reader that goes through all lines: at the beginning, by a line, at a fault, and at the end.
use Rattle.std.proofs.Common.{◌≡◌, ℕ, ◌+◌, ◌<◌, Bool, true, false, List, [], ◌∷◌, ◌++◌, length, drop, get_or, None, Some, Option, refl, sym, ap, ◌∙◌, subst, arith}
use Rattle.std.specs.Prelude.{Result, Ok, Err, IfErr, if◌then◌else◌}
use Rattle.std.specs.Result.{IsErrAnd}
use Rattle.tree_lines.specs.declared.rules.LineFault.{LineFault}
use Rattle.tree_lines.specs.declared.rules.LineFault.TheVariants as fault
use Rattle.std.specs.Option.{option_map, option_map_or}
use Rattle.std.proofs.lemmas.List.Sums.{fold-append}
use Rattle.std.proofs.lemmas.Option.{slice_get-get_or}
use Rattle.std.proofs.Math.Seq.{drop-length}
use Rattle.serna_kinds.specs.Names.{NameParts, Space, Grows, with_name}
use Rattle.serna_kinds.proofs.NameLemmas.{Grows-refl, Grows-trans}
use Rattle.tree_lines.specs.declared.rules.LineRule.{LineRule}
use Rattle.tree_lines.specs.declared.rules.LineRule.TheVariants as rule
use Rattle.tree_lines.specs.declared.tree.Line.{Line}
use Rattle.tree_lines.specs.Texts.{is_line}
use Rattle.tree_lines.specs.Tags.{tag_of}
use Rattle.tree_lines.specs.Declarations.{spaces_in}
use Rattle.tree_lines.specs.LeftOpen.{LeftOpen, left_open}
use Rattle.tree_lines.specs.Faults.{said_fault, line_fault, end_fault, or_later, fault_behind, fault_of, number_at, bytes_of, first_fault}
use Rattle.tree_lines.specs.Tokens.{pairs_by, pairs_in, items_by, items_in, names_by, line_names, with_names, names_with}
use Rattle.tree_lines.specs.Reading.{Reading, no_reading, held, after, shown, IsReading}
use Rattle.tree_lines.proofs.Declaring.{drop-item}
use Rattle.tree_lines.proofs.Following.{after_behind, after_shown}

nothing_behind : (spaces : List Space) → held (no_reading spaces) ≡ left_open spaces []
nothing_behind spaces = refl

reading_none : (spaces : List Space) (lines : List Line) (names : List NameParts) → IsReading spaces lines 0 (no_reading spaces) names names
reading_none spaces lines names = record {
  before = [];
  behind = nothing_behind spaces;
  count = refl;
  fault = refl;
  items = λ table g. refl;
  table = refl;
  grows = Grows-refl names;
}

-- before the first line
pub reading_init : (spaces : List Space) (lines : List Line) (r : Reading) (names : List NameParts) → r ≡ no_reading spaces → IsReading spaces lines 0 r names names
reading_init spaces lines r names e = subst (λ (x : Reading). IsReading spaces lines 0 x names names) (sym e) (reading_none spaces lines names)

said_none : (b : Bool) (f : Option LineRule) → (if b then f else Some rule.BadLine) ≡ None → f ≡ None
said_none true f e = e
said_none false f e = absurd (cc)

-- the fault of the lines from a place on, by the rule that the first of them breaks
fault_from : (spaces : List Space) (lines : List Line) (place : ℕ) (r : Reading) (old names : List NameParts) (line : Line) (h : IsReading spaces lines place r old names) → drop place lines ≡ line ∷ drop (place + 1) lines
    → or_later (length h.before) (line_fault (held r) line.bytes) (fault_behind spaces (line.bytes ∷ h.before) (bytes_of (drop (place + 1) lines))) ≡ fault_behind spaces [] (bytes_of lines)
fault_from spaces lines place r old names line h cut =
    let rest = fault_behind spaces (line.bytes ∷ h.before) (bytes_of (drop (place + 1) lines)) in
    let same : line_fault (held r) line.bytes ≡ line_fault (left_open spaces h.before) line.bytes = ap (λ (l : LeftOpen). line_fault l line.bytes) h.behind in
    ap (λ (f : Option LineRule). or_later (length h.before) f rest) same
    ∙ ap (λ (l : List Line). fault_behind spaces h.before (bytes_of l)) (sym cut)
    ∙ h.fault

-- a line more
pub reading_next : (spaces : List Space) (lines : List Line) (place : ℕ) (r new : Reading) (old names more : List NameParts) (line : Line)
    → IsReading spaces lines place r old names → line ≡ get_or lines place line → place < length lines
    → line_fault (held r) line.bytes ≡ None
    → ((table : List NameParts) → Grows more table → new ≡ after table place line.number r (tag_of line.bytes))
    → more ≡ with_names names (names_by r.spaces (tag_of line.bytes)) → Grows names more
    → IsReading spaces lines (place + 1) new old more
reading_next spaces lines place r new old names more line h at within none read added grown =
    let cut = drop-item lines place line at within in
    let rest = drop (place + 1) lines in
    let said = said_none (is_line line.bytes) (said_fault (held r) (tag_of line.bytes)) none in
    let declared : r.spaces ≡ spaces = ap (λ (l : LeftOpen). l.spaces) h.behind in
    let now = read more (Grows-refl more) in
    let behind = after_behind more line.number place r spaces h.before line.bytes h.behind said (sym h.count) in
    let shows : (table : List NameParts) → Grows more table → shown new (pairs_in table spaces rest) (items_in table spaces rest) ≡ items_in table spaces lines = λ table g.
    ap (λ (x : Reading). shown x (pairs_in table spaces rest) (items_in table spaces rest)) (read table g)
    ∙ after_shown table place line.number r (tag_of line.bytes) (pairs_in table spaces rest) (items_in table spaces rest) said
    ∙ ap (λ (s : List Space). shown r (pairs_by table s (tag_of line.bytes) (pairs_in table spaces rest)) (items_by table s line.number (tag_of line.bytes) (pairs_in table spaces rest) (items_in table spaces rest))) declared
    ∙ ap (λ (l : List Line). shown r (pairs_in table spaces l) (items_in table spaces l)) (sym cut)
    ∙ h.items table (Grows-trans names more table grown g) in
    let all : with_names more (line_names spaces (bytes_of rest)) ≡ with_names old (line_names spaces (bytes_of lines)) =
    ap (λ (l : List NameParts). with_names l (line_names spaces (bytes_of rest))) added
    ∙ sym (fold-append with_name names (names_by r.spaces (tag_of line.bytes)) (line_names spaces (bytes_of rest)))
    ∙ ap (λ (s : List Space). with_names names (names_by s (tag_of line.bytes) ++ line_names spaces (bytes_of rest))) declared
    ∙ ap (λ (l : List Line). with_names names (line_names spaces (bytes_of l))) (sym cut)
    ∙ h.table in
    record {
      before = line.bytes ∷ h.before;
      behind = subst (λ (x : Reading). held x ≡ left_open spaces (line.bytes ∷ h.before)) (sym now) behind;
      count = omega (arith, h.count);
      fault =
          ap (λ (f : Option LineRule). or_later (length h.before) f (fault_behind spaces (line.bytes ∷ h.before) (bytes_of rest))) (sym none)
          ∙ fault_from spaces lines place r old names line h cut;
      items = shows;
      table = all;
      grows = Grows-trans old names more h.grows grown;
    }

number-at : (lines : List Line) (place : ℕ) (line : Line) → line ≡ get_or lines place line → place < length lines → number_at lines place ≡ line.number
number-at lines place line at within =
    ap (λ (o : Option Line). option_map_or (λ (l : Line). l.number) o 0) (slice_get-get_or lines place line within) ∙ ap (λ (l : Line). l.number) (sym at)

-- a line that breaks a rule
pub reading_refused : (spaces : List Space) (lines : List Line) (place : ℕ) (r : Reading) (old names : List NameParts) (line : Line) (broken : LineRule)
    → IsReading spaces lines place r old names → spaces ≡ spaces_in (bytes_of lines) → line ≡ get_or lines place line → place < length lines
    → line_fault (held r) line.bytes ≡ Some broken → first_fault lines ≡ Some (line.number, broken)
reading_refused spaces lines place r old names line broken h declared at within e =
    let cut = drop-item lines place line at within in
    let rest = fault_behind spaces (line.bytes ∷ h.before) (bytes_of (drop (place + 1) lines)) in
    let found : fault_of (bytes_of lines) ≡ Some (place, broken) =
    ap (λ (s : List Space). fault_behind s [] (bytes_of lines)) (sym declared)
    ∙ sym (fault_from spaces lines place r old names line h cut)
    ∙ ap (λ (f : Option LineRule). or_later (length h.before) f rest) e
    ∙ ap (λ (n : ℕ). Some (n, broken)) h.count in
    ap (option_map (λ (f : ℕ × LineRule). (number_at lines f.0, f.1))) found ∙ ap (λ (n : ℕ). Some (n, broken)) (number-at lines place line at within)

-- behind the last line
pub reading_fault : (spaces : List Space) (lines : List Line) (r : Reading) (old names : List NameParts)
    → IsReading spaces lines (length lines) r old names → spaces ≡ spaces_in (bytes_of lines) → first_fault lines ≡ option_map (λ (f : ℕ × LineRule). (number_at lines f.0, f.1)) (end_fault (held r) (length lines))
reading_fault spaces lines r old names h declared =
    let none : drop (length lines) lines ≡ [] = drop-length lines in
    let found : fault_of (bytes_of lines) ≡ end_fault (held r) (length lines) =
    ap (λ (s : List Space). fault_behind s [] (bytes_of lines)) (sym declared)
    ∙ sym h.fault
    ∙ ap (λ (l : List Line). fault_behind spaces h.before (bytes_of l)) none
    ∙ ap (λ (l : LeftOpen). end_fault l (length h.before)) (sym h.behind)
    ∙ ap (end_fault (held r)) h.count in
    ap (option_map (λ (f : ℕ × LineRule). (number_at lines f.0, f.1))) found

pub reading_items : (spaces : List Space) (lines : List Line) (r : Reading) (old names table : List NameParts) → IsReading spaces lines (length lines) r old names → Grows names table → shown r [] [] ≡ items_in table spaces lines
reading_items spaces lines r old names table h g =
    ap (λ (l : List Line). shown r (pairs_in table spaces l) (items_in table spaces l)) (sym (drop-length lines)) ∙ h.items table g

pub reading_table : (spaces : List Space) (lines : List Line) (r : Reading) (old names : List NameParts) → IsReading spaces lines (length lines) r old names → spaces ≡ spaces_in (bytes_of lines) → names ≡ names_with old (bytes_of lines)
reading_table spaces lines r old names h declared =
    ap (λ (l : List Line). with_names names (line_names spaces (bytes_of l))) (sym (drop-length lines))
    ∙ h.table
    ∙ ap (λ (s : List Space). with_names old (line_names s (bytes_of lines))) declared

-- the fault that a `?` passes on is the callee's
pub refused_on : {T : Type 0} (r : Result T LineFault) (f : LineFault) (lines : List Line) → IsErrAnd r (λ y. y ≡ f)
    → ((number : ℕ) (broken : LineRule) → f ≡ fault.Refused number broken → first_fault lines ≡ Some (number, broken))
    → IfErr r (λ y. (number : ℕ) (broken : LineRule) → y ≡ fault.Refused number broken → first_fault lines ≡ Some (number, broken))
refused_on (Ok x) f lines h g = tt
refused_on (Err y) f lines h g = λ number broken e. g number broken (sym h ∙ e)
