-- Nodes and attributes with their paths, and those of a list by their paths.
use Rattle.std.specs.Prelude.{◌≡◌, Bool, true, List, [], ◌∷◌, Option, Some, None, slice_get, if◌then◌else◌}
use Rattle.std.specs.List.{flat_map}
use Rattle.std.specs.List.Sorted.{IsPermutation, IsSortedBy}
use Rattle.serna_kinds.specs.declared.cells.NodeRef.{NodeRef}
use Rattle.source_model.specs.Source.{Source}
use Rattle.source_model.specs.Paths.{Path, path_of, is_before}
use Rattle.xpath_axes.specs.declared.order.Placed.{Placed}

abbrev pub stands_before : Placed → Placed → Bool
stands_before a b = is_before a.path b.path

-- a node or attribute with its path, where it is in the source
abbrev pub placed_by : NodeRef → Option Path → List Placed
placed_by r None = []
placed_by r (Some path) = record { path = path; node = r } ∷ []

abbrev pub placed_one : Source → NodeRef → List Placed
placed_one source r = placed_by r (path_of source r)

abbrev pub placed_in : Source → List NodeRef → List Placed
placed_in source refs = flat_map (placed_one source) refs

-- what follows in a list has not the same path
abbrev pub is_last : Placed → Option Placed → Bool
is_last one None = true
is_last one (Some next) = stands_before one next

-- of each path one
abbrev pub each_once : List Placed → List NodeRef
each_once [] = []
each_once (x ∷ xs) = if is_last x (slice_get xs 0) then x.node ∷ each_once xs else each_once xs

-- the nodes of a list by their paths, those of one path once
pub record AreSortedFrom (placed : List Placed) (found : List NodeRef) : Type 0 where
  pub sorted : List Placed
  pub moved : IsPermutation placed sorted
  pub rising : IsSortedBy stands_before sorted
  pub nodes : found ≡ each_once sorted
