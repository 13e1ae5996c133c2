-- Clusters: what a reader takes for one character. Texts are the bytes of their UTF-8.
use Rattle.std.specs.Prelude.{ℕ, List, true}
use Rattle.unicode_segmentation.specs.Grapheme.{graphemes}

-- the extended grapheme clusters of a text, in order, each as its bytes (UAX 29, section 3, rules GB1 to GB999)
abbrev pub clusters_of : List ℕ → List (List ℕ)
clusters_of text = graphemes true text
