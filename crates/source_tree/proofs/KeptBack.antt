-- Cells of a source tell that source.
use Rattle.std.proofs.Common.{◌≡◌, ℕ, ◌<◌, ◌≤◌, List, [], Option, None, refl, sym, ap, ◌∙◌, subst}
use Rattle.std.specs.Option.{option_and_then}
use Rattle.serna_kinds.specs.declared.cells.Cell.{Cell}
use Rattle.serna_kinds.specs.Content.{Content}
use Rattle.serna_kinds.specs.Names.{Space}
use Rattle.serna_kinds.specs.Limits.{node_limit, depth_limit}
use Rattle.source_model.specs.Source.{Forest, Source}
use Rattle.source_model.specs.Cells.{facet_of, spot_in, cell_of}
use Rattle.source_model.specs.Proper.{uses, depth_of}
use Rattle.source_model.specs.Consistent.{IsLinked}
use Rattle.source_model.specs.Told.{told_tree, AreSameCells}
use Rattle.source_model.proofs.ToldBack.{told_back}
use Rattle.source_tree.specs.Kept.{source_told, IsKept}

-- a source that is as another one, but for what it declares
pub linked_like : (s : Source) (tree : Forest) (made : ℕ) (spaces : List Space) → tree ≡ s.tree → made ≡ s.made → IsLinked s → IsLinked (record { tree = tree; made = made; spaces = spaces })
linked_like s tree made spaces e m linked = record {
  top = linked.top;
  rooted = e ∙ linked.rooted;
  leaves = linked.leaves;
  distinct = λ n. subst (λ t. uses n t ≤ 1) (sym e) (linked.distinct n);
  numbered = λ n used. subst (λ k. n ≤ k) (sym m) (linked.numbered n (subst (λ t. 0 < uses n t) e used));
  few = subst (λ k. k ≤ node_limit) (sym m) linked.few;
  shallow = subst (λ t. depth_of t ≤ depth_limit) (sym e) linked.shallow;
}

-- cells that are those of a source are kept as they are to be
pub kept_of : (s : Source) (view : Cell → Option Content) (made : ℕ) → IsLinked s → AreSameCells view (cell_of s) → made ≡ s.made → IsKept view made
kept_of s view made linked same m =
    let back : told_tree view ≡ s.tree = told_back s view linked same in
    record {
      linked = linked_like s (told_tree view) made [] back m linked;
      cells = λ cell. same cell ∙ ap (λ t. option_and_then (facet_of cell.facet) (spot_in None cell.node.0 t)) (sym back);
    }

-- and they tell that source
pub told_source : (s : Source) (view : Cell → Option Content) (made : ℕ) (spaces : List Space) → IsLinked s → AreSameCells view (cell_of s) → made ≡ s.made → spaces ≡ s.spaces →
    source_told view made spaces ≡ s
told_source s view made spaces linked same m e = λ i. record { tree = told_back s view linked same i; made = m i; spaces = e i }

-- a view of cells that are kept is one of the source that they tell, whatever it declares
pub kept_cells : (view : Cell → Option Content) (made : ℕ) (spaces : List Space) → IsKept view made → AreSameCells view (cell_of (source_told view made spaces))
kept_cells view made spaces kept = kept.cells

-- and that source is linked
pub kept_linked : (view : Cell → Option Content) (made : ℕ) (spaces : List Space) → IsKept view made → IsLinked (source_told view made spaces)
kept_linked view made spaces kept = linked_like (source_told view made []) (source_told view made spaces).tree made spaces refl refl kept.linked
