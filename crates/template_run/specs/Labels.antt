-- Which rules match a node, told from what it is and an element's name.
use Rattle.std.specs.Prelude.{◌≡◌, ℕ, Bool, true, false, List, Option, Some, None, IsSome, slice_get}
use Rattle.serna_kinds.specs.declared.cells.NameId.{NameId}
use Rattle.serna_kinds.specs.declared.cells.NodeRef.{NodeRef}
use Rattle.serna_kinds.specs.declared.cells.NodeRef.TheVariants as ref
use Rattle.serna_kinds.specs.declared.cells.Kind.{Kind}
use Rattle.serna_kinds.specs.declared.cells.Kind.TheVariants as kind
use Rattle.serna_kinds.specs.Names.{NameParts, are_same}
use Rattle.source_model.specs.Source.{Source}
use Rattle.source_model.specs.Cells.{Spot, spot_of}
use Rattle.style_sheet.specs.declared.style.Pattern.{Pattern}
use Rattle.style_sheet.specs.declared.style.Pattern.TheVariants as pattern
use Rattle.style_sheet.specs.declared.style.Rule.{Rule}
use Rattle.style_sheet.specs.Sheet.{StyleValue}
use Rattle.template_run.specs.Nodes.{label_of, is_here}

abbrev pub is_root : Kind → Bool
is_root kind.Root = true
is_root kind.Element = false
is_root kind.Text = false
is_root kind.Comment = false

abbrev pub is_named : List NameParts → NameId → Option NameId → Bool
is_named names id None = false
is_named names id (Some name) = are_same names id name

-- a node that is so, None for an attribute, matches a pattern
abbrev pub is_for_label : List NameParts → Pattern → Option (Kind × Option NameId) → Bool
is_for_label names pattern None = false
is_for_label names pattern.Root (Some label) = is_root label.0
is_for_label names (pattern.Named id) (Some label) = is_named names id label.1

abbrev pub has_match : List NameParts → Option (Kind × Option NameId) → Option Pattern → Bool
has_match names label None = false
has_match names label (Some pattern) = is_for_label names pattern label

-- the rule of a number, of these rules, matches such a node
abbrev pub fits_among : List NameParts → List Rule → Option (Kind × Option NameId) → ℕ → Bool
fits_among names rules label number = elim (slice_get rules number) [ None ↦ false | Some rule ↦ has_match names label rule.pattern ]

abbrev pub fits_label : List NameParts → StyleValue → Option (Kind × Option NameId) → ℕ → Bool
fits_label names style label number = fits_among names style.rules label number

-- what is known of a node: what it is, under these rules and this table
pub record KnownNode : Type 0 where
  pub rules : List Rule
  pub names : List NameParts
  pub node : NodeRef
  pub label : Option (Kind × Option NameId)

-- what a node of a source is, None for an attribute
abbrev pub IsLabelOf : Source → NodeRef → Option (Kind × Option NameId) → Type 0
IsLabelOf source (ref.Node n) label = (spot : Spot) × (spot_of source n.0 ≡ Some spot) × (label ≡ Some (label_of spot))
IsLabelOf source (ref.Attr n name) label = label ≡ None

-- the same, where it is known what the node is
abbrev pub IsLabelIfKnown : Source → NodeRef → Option (Option (Kind × Option NameId)) → Type 0
IsLabelIfKnown source node None = Unit {0}
IsLabelIfKnown source node (Some label) = IsLabelOf source node label

-- what was found out about a node of a source: that it is not there, or what it is
abbrev pub IsFound : Source → NodeRef → Option (Option (Kind × Option NameId)) → Type 0
IsFound source node None = is_here source node ≡ false
IsFound source node (Some label) = (is_here source node ≡ true) × IsLabelOf source node label

-- in a later table the patterns' names are the same as names of this one where they are so in this one
abbrev pub KeepsNames : List NameParts → List NameParts → StyleValue → Type 0
KeepsNames names table style =
    (n : ℕ) (rule : Rule) (id name : NameId) → slice_get style.rules n ≡ Some rule → rule.pattern ≡ Some (pattern.Named id) → IsSome (slice_get names name.0) →
    are_same table id name ≡ are_same names id name
