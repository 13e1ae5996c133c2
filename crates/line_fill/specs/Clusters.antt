-- The clusters of a paragraph (UAX 29, section 3, with the columns of UAX 11). Clusters are cut for each run by itself; that a cluster
-- is as wide as its columns, each half the size of its font, is this project's own.
use Rattle.std.specs.Prelude.{◌≡◌, ℕ, ◌+◌, ◌*◌, ◌/◌, ◌≤◌, min, ℤ, List, [], ◌∷◌, length, take, slice_index, encode_utf8_all}
use Rattle.std.specs.List.{flat_map, concat}
use Rattle.text_units.specs.Clusters.{clusters_of}
use Rattle.text_units.specs.Columns.{columns_of, is_blank}
use Rattle.result_origin.specs.declared.pages.Run.{Run}
use Rattle.line_fill.specs.declared.clusters.Cluster.{Cluster}
use Rattle.line_fill.specs.Sums.{most, natural}

-- the clusters of a run, each as its bytes
abbrev pub pieces : Run → List (List ℕ)
pieces run = clusters_of (encode_utf8_all run.text)

-- the place behind the first clusters of a run, in bytes
abbrev pub place_behind : Run → ℕ → ℕ
place_behind run count = length (concat (take count (pieces run)))

-- half the font's size for each column, truncated
abbrev pub width_of : ℤ → List ℕ → ℕ
width_of size piece = min (columns_of piece * natural size / 2) most

-- clusters of a run from a place on; a space, a tab or a line feed is a space
abbrev pub clusters_from : ℤ → ℕ → List (List ℕ) → List Cluster
clusters_from size start [] = []
clusters_from size start (piece ∷ more) =
    record { start = start; width = width_of size piece; is_space = is_blank piece } ∷ clusters_from size (start + length piece) more

abbrev pub clusters_in : Run → List Cluster
clusters_in run = clusters_from run.face.size 0 (pieces run)

-- the clusters of all runs, one run after another
abbrev pub all_clusters : List Run → List Cluster
all_clusters runs = flat_map clusters_in runs

-- how many clusters the first runs have
abbrev pub edge : List Run → ℕ → ℕ
edge runs count = length (all_clusters (take count runs))

-- for each run where it begins among the clusters, and then where the last one ends
pub record AreEdges (runs : List Run) (edges : List ℕ) : Type 0 where
  pub all : length edges ≡ length runs + 1
  pub each : (run : ℕ) → run ≤ length runs → slice_index edges run ≡ edge runs run
