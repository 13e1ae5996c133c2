-- What a result shows before there is layout (this project's own): each longest group of neighbouring runs is a line, a start, an end or an
-- attribute standing between one group and the next.
use Rattle.std.specs.Prelude.{ℕ, zero, suc, ◌&&◌, ◌||◌, not, Bool, true, false, List, [], ◌∷◌, filter, slice_get, bytes_eq, codes}
use Rattle.std.specs.List.{list_any, flat_map, onto_first}
use Rattle.std.specs.Option.{option_map_or}
use Rattle.serna_kinds.specs.declared.cells.NameId.{NameId}
use Rattle.serna_kinds.specs.Blanks.{is_blank}
use Rattle.serna_kinds.specs.Names.{NameParts}
use Rattle.result_origin.specs.declared.origin.Origin.{Origin}
use Rattle.result_origin.specs.declared.origin.Origin.TheVariants as origin
use Rattle.result_origin.specs.Parts.{Mark, Run, Begin, Attr, AttrEnd, Finish}

-- a text with where its start comes from
pub record ShownRun : Type 0 where
  pub text : List ℕ
  pub origin : Origin

abbrev pub shown_run : List ℕ → Origin → ShownRun
shown_run text origin = record { text = text; origin = origin }

-- the groups of neighbouring runs outside attributes, where so many attributes are open; a group may be empty
abbrev pub groups_in : ℕ → List Mark → List (List ShownRun)
groups_in n [] = [] ∷ []
groups_in zero (Run text origin ∷ marks) = onto_first (shown_run text origin) (groups_in zero marks)
groups_in (suc n) (Run text origin ∷ marks) = groups_in (suc n) marks
groups_in n (Begin name rule ∷ marks) = [] ∷ groups_in n marks
groups_in n (Attr name ∷ marks) = [] ∷ groups_in (suc n) marks
groups_in zero (AttrEnd ∷ marks) = [] ∷ groups_in zero marks
groups_in (suc n) (AttrEnd ∷ marks) = [] ∷ groups_in n marks
groups_in n (Finish ∷ marks) = [] ∷ groups_in n marks

-- all runs outside attributes
abbrev pub runs_in : List Mark → List ShownRun
runs_in marks = flat_map (λ (group : List ShownRun). group) (groups_in 0 marks)

-- text can be typed there
abbrev pub is_into : Origin → Bool
is_into (origin.Text number at) = false
is_into (origin.Attr number name at) = false
is_into (origin.Into number) = true
is_into (origin.Fixed rule) = false
is_into (origin.Computed rule node) = false

-- a run that makes its group a line
abbrev pub is_seen : ShownRun → Bool
is_seen run = is_into run.origin || not (is_blank run.text)

-- a group of white space alone is no line, unless text can be typed into it
abbrev pub is_line : List ShownRun → Bool
is_line group = list_any is_seen group

-- Formatting objects (XSL 1.1, section 6)
abbrev pub fo_uri : List ℕ
fo_uri = codes "http://www.w3.org/1999/XSL/Format"

abbrev pub is_root_name : List NameParts → NameId → Bool
is_root_name names id = option_map_or (λ (name : NameParts). bytes_eq name.uri fo_uri && bytes_eq name.local (codes "root")) (slice_get names id.0) false

-- the first thing that a result says is the start of `fo:root`
abbrev pub is_root : List NameParts → List Mark → Bool
is_root names [] = false
is_root names (Run text origin ∷ marks) = false
is_root names (Begin name rule ∷ marks) = is_root_name names name
is_root names (Attr name ∷ marks) = false
is_root names (AttrEnd ∷ marks) = false
is_root names (Finish ∷ marks) = false

-- the marks up to the end of the outermost of so many open elements; what follows it is nothing
abbrev pub up_to_end : ℕ → List Mark → List Mark
up_to_end n [] = []
up_to_end n (Run text origin ∷ marks) = Run text origin ∷ up_to_end n marks
up_to_end n (Begin name rule ∷ marks) = Begin name rule ∷ up_to_end (suc n) marks
up_to_end n (Attr name ∷ marks) = Attr name ∷ up_to_end n marks
up_to_end n (AttrEnd ∷ marks) = AttrEnd ∷ up_to_end n marks
up_to_end zero (Finish ∷ marks) = []
up_to_end (suc n) (Finish ∷ marks) = Finish ∷ up_to_end n marks

-- what stands within a result's first element
abbrev pub within_first : List Mark → List Mark
within_first [] = []
within_first (mark ∷ marks) = up_to_end 0 marks

-- the groups that are lines
abbrev pub lines_in : List Mark → List (List ShownRun)
lines_in marks = filter is_line (groups_in 0 (within_first marks))
