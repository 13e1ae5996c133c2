-- Places in a text, and which of them stand between clusters. A place counts bytes from the text's start.
use Rattle.std.specs.Prelude.{ℕ, ◌+◌, List, [], ◌∷◌, length, Contains}
use Rattle.std.specs.Str.{IsCharBoundary}
use Rattle.text_units.specs.Clusters.{clusters_of}

-- a place in a text: between two of its characters, before the first or after the last
abbrev pub IsPlace : List ℕ → ℕ → Type 0
IsPlace text at = IsCharBoundary text at

-- where pieces that follow one another begin, the first at `from`, and where the last one ends
unfoldable pub boundaries_from : ℕ → List (List ℕ) → List ℕ
boundaries_from from [] = from ∷ []
boundaries_from from (piece ∷ pieces) = from ∷ boundaries_from (from + length piece) pieces

-- the places between the clusters of a text, its start and its end among them (UAX 29, section 3, where an empty text has
-- no boundary; here it has the one place 0)
unfoldable pub cluster_boundaries : List ℕ → List ℕ
cluster_boundaries text = boundaries_from 0 (clusters_of text)

-- a cluster begins or ends at the place
unfoldable pub IsBoundary : List ℕ → ℕ → Type 0
IsBoundary text at = Contains (cluster_boundaries text) at
