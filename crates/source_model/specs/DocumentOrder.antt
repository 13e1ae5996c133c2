-- Document order (XPath 1.0, section 5): when a list stands in it, and the nodes and attributes of a list in that order.
use Rattle.std.specs.Prelude.{◌≡◌, ℕ, ◌==◌, ◌&&◌, Bool, true, false, List, [], ◌∷◌, Option, Some, None, if◌then◌else◌}
use Rattle.std.specs.List.{AllByRecursion, list_any}
use Rattle.serna_kinds.specs.declared.cells.NodeRef.{NodeRef}
use Rattle.serna_kinds.specs.declared.cells.NodeRef.TheVariants as ref
use Rattle.source_model.specs.Source.{Source}
use Rattle.source_model.specs.Paths.{Path, Entry, entries_of, path_of, is_before}
use Rattle.source_model.specs.Axes.{pick}

-- each item stands before all that follow it
abbrev pub AreInOrder : {A : Type 0} → (A → A → Bool) → List A → Type 0
AreInOrder before [] = Unit {0}
AreInOrder before (x ∷ xs) = AllByRecursion (λ y. before x y ≡ true) xs × AreInOrder before xs

abbrev pub comes_before : Entry → Entry → Bool
comes_before a b = is_before a.path b.path

abbrev pub is_path_before : Option Path → Option Path → Bool
is_path_before None q = false
is_path_before (Some p) None = false
is_path_before (Some p) (Some q) = is_before p q

-- one node or attribute of a source stands before another; false where one of them is not there
abbrev pub is_earlier : Source → NodeRef → NodeRef → Bool
is_earlier source a b = is_path_before (path_of source a) (path_of source b)

abbrev pub is_same_ref : NodeRef → NodeRef → Bool
is_same_ref (ref.Node n) (ref.Node m) = n.0 == m.0
is_same_ref (ref.Node n) (ref.Attr m name) = false
is_same_ref (ref.Attr n name) (ref.Node m) = false
is_same_ref (ref.Attr n name) (ref.Attr m other) = n.0 == m.0 && name.0 == other.0

abbrev pub has_ref : List NodeRef → NodeRef → Bool
has_ref refs r = list_any (is_same_ref r) refs

-- the nodes and attributes of a list that are in the source, each once, in document order
abbrev pub ordered : Source → List NodeRef → List NodeRef
ordered source refs = pick (λ path thing. has_ref refs thing.ref) (entries_of source)

-- so that conditions can be counted
abbrev pub one_if : Bool → ℕ
one_if b = if b then 1 else 0
