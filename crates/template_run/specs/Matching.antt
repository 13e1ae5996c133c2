-- Which rules match which nodes (XSLT 1.0, section 5.2).
use Rattle.std.specs.Prelude.{ℕ, Bool, true, false, Option, Some, None, List, slice_get}
use Rattle.serna_kinds.specs.declared.cells.NodeRef.{NodeRef}
use Rattle.serna_kinds.specs.declared.cells.NodeRef.TheVariants as ref
use Rattle.serna_kinds.specs.Names.{NameParts, are_same}
use Rattle.source_model.specs.Source.{Body, Root, Element, Text, Comment, Source}
use Rattle.source_model.specs.Cells.{spot_of}
use Rattle.style_sheet.specs.declared.style.Pattern.{Pattern}
use Rattle.style_sheet.specs.declared.style.Pattern.TheVariants as pattern
use Rattle.style_sheet.specs.Sheet.{StyleValue}

-- what a pattern asks of a node by itself: to be the document node, or an element of a name
abbrev pub is_for : List NameParts → Pattern → Body → Bool
is_for names pattern.Root Root = true
is_for names pattern.Root (Element name attributes) = false
is_for names pattern.Root (Text text) = false
is_for names pattern.Root (Comment text) = false
is_for names (pattern.Named id) Root = false
is_for names (pattern.Named id) (Element name attributes) = are_same names id name
is_for names (pattern.Named id) (Text text) = false
is_for names (pattern.Named id) (Comment text) = false

-- a node of a source matches a pattern; no pattern is for attributes so far
abbrev pub matches : List NameParts → Source → Pattern → NodeRef → Bool
matches names source pattern (ref.Node n) = elim (spot_of source n.0) [ None ↦ false | Some spot ↦ is_for names pattern spot.body ]
matches names source pattern (ref.Attr n name) = false

abbrev pub has_match : List NameParts → Source → NodeRef → Option Pattern → Bool
has_match names source node None = false
has_match names source node (Some pattern) = matches names source pattern node

-- the rule of a number matches a node of a source
abbrev pub fits : List NameParts → StyleValue → Source → ℕ → NodeRef → Bool
fits names style source number node = elim (slice_get style.rules number) [ None ↦ false | Some rule ↦ has_match names source node rule.pattern ]
