-- The nodes and attributes of a source in document order, each with its path (XPath 1.0, section 5). The path of a child is its
-- parent's path and then (1, its place among the children), that of an attribute its element's path and then (0, its place among the
-- attributes). The document node is the one neighbour at the top, so its path is (1, 0) alone.
use Rattle.std.specs.Prelude.{ℕ, suc, ◌==◌, ◌++◌, ◌&&◌, ◌||◌, Bool, true, false, nat_lt, List, [], ◌∷◌, Option, Some, None, if◌then◌else◌}
use Rattle.std.specs.Option.{option_map, option_and_then}
use Rattle.serna_kinds.specs.declared.cells.NameId.{NameId}
use Rattle.serna_kinds.specs.declared.cells.NodeRef.{NodeRef}
use Rattle.serna_kinds.specs.declared.cells.NodeRef.TheVariants as ref
use Rattle.serna_kinds.specs.declared.cells.Kind.{Kind}
use Rattle.serna_kinds.specs.declared.cells.AttrPair.{AttrPair}
use Rattle.source_model.specs.Attributes.{pairs_of}
use Rattle.source_model.specs.Source.{Body, Forest, none, node, Source}
use Rattle.source_model.specs.Cells.{Spot, spot_of, kind_of, name_of, named}

abbrev pub Path : Type 0
Path = List (ℕ × ℕ)

-- a node or an attribute, and what tests look at: a node's kind (an attribute has none), an element's or attribute's name
pub record Thing : Type 0 where
  pub ref : NodeRef
  pub kind : Option Kind
  pub name : Option NameId

pub record Entry : Type 0 where
  pub path : Path
  pub thing : Thing

abbrev pub node_thing : ℕ → Body → Thing
node_thing n body = record { ref = ref.Node (named n); kind = Some (kind_of body); name = name_of body }

abbrev pub attribute_thing : ℕ → AttrPair → Thing
attribute_thing n pair = record { ref = ref.Attr (named n) pair.name; kind = None; name = Some pair.name }

abbrev pub entry : Path → Thing → Entry
entry path thing = record { path = path; thing = thing }

-- entries below a step
abbrev pub deeper : ℕ × ℕ → List Entry → List Entry
deeper step [] = []
deeper step (e ∷ es) = entry (step ∷ e.path) e.thing ∷ deeper step es

abbrev pub attribute_entries : ℕ → ℕ → List AttrPair → List Entry
attribute_entries n i [] = []
attribute_entries n i (pair ∷ pairs) = entry ((0, i) ∷ []) (attribute_thing n pair) ∷ attribute_entries n (suc i) pairs

-- all of neighbours, the first of which is at place i: each node, then its attributes, then what is below it
abbrev pub entries : ℕ → Forest → List Entry
entries i none = []
entries i (node n body kids rest) =
    (entry ((1, i) ∷ []) (node_thing n body) ∷ deeper (1, i) (attribute_entries n 0 (pairs_of body) ++ entries 0 kids)) ++ entries (suc i) rest

abbrev pub entries_of : Source → List Entry
entries_of source = entries 0 source.tree

-- the path of the node of a number
abbrev pub path_in : ℕ → ℕ → Forest → Option Path
path_in n i none = None
path_in n i (node k body kids rest) =
    if n == k then Some ((1, i) ∷ []) else elim (path_in n 0 kids) [ None ↦ path_in n (suc i) rest | Some path ↦ Some ((1, i) ∷ path) ]

-- the place of the attribute of a name
abbrev pub attribute_place : NameId → ℕ → List AttrPair → Option ℕ
attribute_place name i [] = None
attribute_place name i (pair ∷ pairs) = if pair.name.0 == name.0 then Some i else attribute_place name (suc i) pairs

-- the path of a node or attribute; None where it is not in the source
abbrev pub path_of : Source → NodeRef → Option Path
path_of source (ref.Node n) = path_in n.0 0 source.tree
path_of source (ref.Attr n name) =
    option_and_then (λ path. option_and_then (λ (spot : Spot). option_map (λ i. path ++ (0, i) ∷ []) (attribute_place name 0 (pairs_of spot.body))) (spot_of source n.0))
    (path_in n.0 0 source.tree)

abbrev pub same_step : ℕ × ℕ → ℕ × ℕ → Bool
same_step a b = a.0 == b.0 && a.1 == b.1

abbrev pub step_before : ℕ × ℕ → ℕ × ℕ → Bool
step_before a b = nat_lt a.0 b.0 || (a.0 == b.0 && nat_lt a.1 b.1)

-- document order: step by step, a prefix first
abbrev pub is_before : Path → Path → Bool
is_before p [] = false
is_before [] (b ∷ q) = true
is_before (a ∷ p) (b ∷ q) = step_before a b || (same_step a b && is_before p q)

-- what a path has behind another one; None where that is no prefix of it
abbrev pub behind : Path → Path → Option Path
behind [] q = Some q
behind (a ∷ p) [] = None
behind (a ∷ p) (b ∷ q) = if same_step a b then behind p q else None
