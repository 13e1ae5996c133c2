-- What holds of a source at every moment, also between the primitives of one change (XPath 1.0, section 5; the numbers and the
-- limits are this project's own). A source is proper besides where no text is empty or beside another one, one element stands
-- outermost, and names are those of a table.
use Rattle.std.specs.Prelude.{◌≡◌, ℕ, ◌<◌, ◌≤◌, List}
use Rattle.std.specs.List.{AllByRecursion}
use Rattle.serna_kinds.specs.declared.cells.AttrPair.{AttrPair}
use Rattle.serna_kinds.specs.Limits.{node_limit, depth_limit}
use Rattle.source_model.specs.Source.{Root, Element, Text, Comment, Forest, none, node, Source}
use Rattle.source_model.specs.Attributes.{DifferByNumber}
use Rattle.source_model.specs.Proper.{uses, depth_of, IsShort}

-- below the document node no document node stands, and texts and comments have nothing below them
abbrev pub AreLeaves : Forest → Type 0
AreLeaves none = Unit {0}
AreLeaves (node n Root kids rest) = ⊥
AreLeaves (node n (Element name attributes) kids rest) = AreLeaves kids × AreLeaves rest
AreLeaves (node n (Text text) kids rest) = (kids ≡ none) × AreLeaves rest
AreLeaves (node n (Comment text) kids rest) = (kids ≡ none) × AreLeaves rest

abbrev pub AreShortValues : List AttrPair → Type 0
AreShortValues pairs = AllByRecursion (λ (pair : AttrPair). IsShort pair.value) pairs

-- texts and values are short, and an element's attributes differ
abbrev pub AreShort : Forest → Type 0
AreShort none = Unit {0}
AreShort (node n Root kids rest) = AreShort kids × AreShort rest
AreShort (node n (Element name attributes) kids rest) = (DifferByNumber attributes × AreShortValues attributes) × AreShort kids × AreShort rest
AreShort (node n (Text text) kids rest) = IsShort text × AreShort kids × AreShort rest
AreShort (node n (Comment text) kids rest) = AreShort kids × AreShort rest

-- nodes stand below one document node, each under a number of its own that was made
pub record IsLinked (source : Source) : Type 0 where
  pub top : Forest
  pub rooted : source.tree ≡ node 0 Root top none
  pub leaves : AreLeaves top
  pub distinct : (n : ℕ) → uses n source.tree ≤ 1
  pub numbered : (n : ℕ) → 0 < uses n source.tree → n ≤ source.made
  pub few : source.made ≤ node_limit
  pub shallow : depth_of source.tree ≤ depth_limit

-- and texts and attributes are as they may be
pub record IsConsistent (source : Source) : Type 0 where
  pub linked : IsLinked source
  pub short : AreShort linked.top
