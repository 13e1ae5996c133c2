-- A node of a proper source stands at the end of a way, or its number is not there.
use Rattle.std.proofs.Common.{◌≡◌, ℕ, suc, ◌≤◌, ◌++◌, ◌⊎◌, inl, inr, List, [], ◌∷◌, length, map, reverse, take, Option, Some, None, if◌then◌else◌, refl, sym, ap, subst, ◌∙◌, arith}
use Rattle.std.specs.List.{flat_map}
use Rattle.std.specs.Option.{option_and_then}
use Rattle.std.proofs.lemmas.List.{append-nil, reverse-append, reverse-reverse}
use Rattle.std.proofs.lemmas.Bool.{cases_eq}
use Rattle.serna_kinds.specs.declared.expressions.Axis.TheVariants as axis
use Rattle.serna_kinds.specs.Names.{NameParts}
use Rattle.source_model.specs.Source.{Body, Root, Forest, none, node, Source}
use Rattle.source_model.specs.Cells.{Spot}
use Rattle.source_model.specs.Proper.{IsProper}
use Rattle.source_model.specs.Paths.{Path, path_in}
use Rattle.source_model.specs.Axes.{is_below, is_any_step}
use Rattle.source_model.proofs.Spots.{if_same, if_other}
use Rattle.source_model.proofs.Children.{IsGone, gone_node}
use Rattle.xpath_axes.specs.Nodes.{parent_of}
use Rattle.xpath_axes.specs.Walks.{levels}
use Rattle.xpath_axes.proofs.Ways.{Way, here, inside, plug, path_at, heads_in}
use Rattle.xpath_axes.proofs.Outside.{follow_of, precede_of, above_by, last_after, last_before}
use Rattle.xpath_axes.proofs.Placed.{node_name, Part, IsSplit, split, kids_are, whole}
use Rattle.xpath_axes.proofs.Levels.{Level, level, levels_in, found, Climbs, Stood, stood, overs, above_levels, follow_levels, precede_levels, nearest, first_level, parent_level, few_levels}

-- a way with one node more in front
abbrev further : ℕ → Body → Forest → Way → Way
further k body kids (here before after) = here (node k body kids before) after
further k body kids (inside before o outer after way) = inside (node k body kids before) o outer after way

further_plug : (k : ℕ) (b : Body) (ks : Forest) (way : Way) (n : ℕ) (body : Body) (kids : Forest) → plug (further k b ks way) n body kids ≡ node k b ks (plug way n body kids)
further_plug k b ks (here before after) n body kids = refl
further_plug k b ks (inside before o outer after way) n body kids = refl

further_path : (k : ℕ) (b : Body) (ks : Forest) (i : ℕ) (way : Way) → path_at i (further k b ks way) [] ≡ path_at (suc i) way []
further_path k b ks i (here before after) = refl
further_path k b ks i (inside before o outer after way) = refl

pub record HasPlace (n i : ℕ) (f : Forest) : Type 0 where
  pub way : Way
  pub body : Body
  pub kids : Forest
  pub forest_is : f ≡ plug way n body kids
  pub path_is : path_in n i f ≡ Some (path_at i way [])

place_own : (n i k : ℕ) (body : Body) (kids rest : Forest) → n ≡ k → HasPlace n i (node k body kids rest)
place_own n i k body kids rest e = record {
  way = here none rest;
  body = body;
  kids = kids;
  forest_is = ap (λ (j : ℕ). node j body kids rest) (sym e);
  path_is = if_same n k _ _ e;
}

place_kids : (n i k : ℕ) (body : Body) (kids rest : Forest) → (n ≡ k → ⊥) → HasPlace n 0 kids → HasPlace n i (node k body kids rest)
place_kids n i k body kids rest other at = record {
  way = inside none k body rest at.way;
  body = at.body;
  kids = at.kids;
  forest_is = ap (λ (f : Forest). node k body f rest) at.forest_is;
  path_is = if_other n k _ _ other ∙ ap (λ (o : Option Path). elim o [ None ↦ path_in n (suc i) rest | Some path ↦ Some ((1, i) ∷ path) ]) at.path_is;
}

place_rest : (up : Option ℕ) (n i k : ℕ) (body : Body) (kids rest : Forest) → (n ≡ k → ⊥) → IsGone up n 0 kids → HasPlace n (suc i) rest → HasPlace n i (node k body kids rest)
place_rest up n i k body kids rest other gone at = record {
  way = further k body kids at.way;
  body = at.body;
  kids = at.kids;
  forest_is = ap (λ (f : Forest). node k body kids f) at.forest_is ∙ sym (further_plug k body kids at.way n at.body at.kids);
  path_is = if_other n k _ _ other ∙ ap (λ (o : Option Path). elim o [ None ↦ path_in n (suc i) rest | Some path ↦ Some ((1, i) ∷ path) ]) gone.path_is ∙ at.path_is
      ∙ sym (ap (λ (p : Path). Some p) (further_path k body kids i at.way));
}

pub has_place : (up : Option ℕ) (n i : ℕ) (f : Forest) → HasPlace n i f ⊎ IsGone up n i f
has_place up n i none = inr (record { path_is = refl; spot_is = refl })
has_place up n i (node k body kids rest) = elim (cases_eq n k) [
  | inl e ↦ inl (place_own n i k body kids rest e)
  | inr other ↦ elim (has_place (Some k) n 0 kids) [
    | inl at ↦ inl (place_kids n i k body kids rest other at)
    | inr gone ↦ elim (has_place up n (suc i) rest) [
      | inl at ↦ inl (place_rest (Some k) n i k body kids rest other gone at)
      | inr behind ↦ inr (gone_node up n i k body kids rest other gone behind)
    ]
  ]
]

-- a node with its way and its levels, and what the levels have by the way
pub record Stands (source : Source) (n : ℕ) : Type 0 where
  pub way : Way
  pub body : Body
  pub kids : Forest
  pub ls : List Level
  pub tree_is : source.tree ≡ plug way n body kids
  pub path_is : path_in n 0 source.tree ≡ Some (path_at 0 way [])
  pub stood : Stood source n body kids ls
  pub few : length ls ≤ levels
  pub above : (e : Path) → above_by is_below e way ≡ reverse (overs ls)
  pub parent : above_by is_any_step [] way ≡ overs (take 1 ls)
  pub follow : follow_of way ≡ flat_map (found axis.Following) ls
  pub precede : reverse (precede_of way) ≡ flat_map (found axis.Preceding) ls
  pub siblings_after : heads_in (last_after way) ≡ flat_map (found axis.FollowingSibling) (take 1 ls)
  pub siblings_before : reverse (heads_in (last_before way)) ≡ flat_map (found axis.PrecedingSibling) (take 1 ls)

root_parts : (names : List NameParts) (source : Source) (proper : IsProper names source) → IsSplit source None none 0 Root proper.top none
root_parts names source proper = split source None none 0 Root proper.top none (subst (Part source None) proper.rooted (whole names source proper))

root_climbs : (names : List NameParts) (source : Source) → IsProper names source → Climbs source 0 []
root_climbs names source proper = ap (λ (o : Option Spot). option_and_then parent_of o) (root_parts names source proper).spot_is

root_stands : (names : List NameParts) (source : Source) → IsProper names source → Stands source 0
root_stands names source proper =
    let parts = root_parts names source proper in
    record {
      way = here none none;
      body = Root;
      kids = proper.top;
      ls = [];
      tree_is = proper.rooted;
      path_is = ap (path_in 0 0) proper.rooted;
      stood = record { end = record { there = (None, parts.spot_is); part = parts.inner_part }; climbs = root_climbs names source proper };
      few = omega arith;
      above = λ e. refl;
      parent = refl;
      follow = refl;
      precede = refl;
      siblings_after = refl;
      siblings_before = refl;
    }

above_root : (w : Way) (e : Path) → (if is_below (path_at 0 w e) then (0, Root) ∷ [] else []) ++ above_by is_below e w ≡ (0, Root) ∷ above_by is_below e w
above_root (here b a) e = refl
above_root (inside b l o a w) e = refl

top_stands : (names : List NameParts) (source : Source) (n : ℕ) (proper : IsProper names source) → (n ≡ 0 → ⊥) → HasPlace n 0 proper.top → Stands source n
top_stands names source n proper other at =
    let parts = root_parts names source proper in
    let root : ℕ × Body = (0, Root) in
    let w : Way = at.way in
    let ls : List Level = levels_in root w [] in
    let first : take 1 ls ≡ level (last_before w) (last_after w) (nearest root w) ∷ [] = first_level root w [] in
    let part : Part source (Some 0) (plug w n at.body at.kids) = subst (Part source (Some 0)) at.forest_is parts.inner_part in
    record {
      way = inside none 0 Root none w;
      body = at.body;
      kids = at.kids;
      ls = ls;
      tree_is = proper.rooted ∙ ap (λ (f : Forest). node 0 Root f none) at.forest_is;
      path_is = ap (path_in n 0) proper.rooted ∙ if_other n 0 _ _ other ∙ ap (λ (o : Option Path). elim o [ None ↦ path_in n 1 none | Some path ↦ Some ((1, 0) ∷ path) ]) at.path_is;
      stood = stood names source root w n at.body at.kids [] proper
          (kids_are names source 0 (record { up = None; body = Root; kids = proper.top }) proper parts.spot_is ∙ ap (λ (f : Forest). map node_name (heads_in f)) at.forest_is)
          (record { up = None; body = Root; kids = proper.top }, parts.spot_is, refl) part (root_climbs names source proper);
      few = let less = few_levels root w n at.body at.kids [] in let low = part.low in omega (arith, less, low);
      above = λ e.
          above_root w e
          ∙ sym (ap (λ (l : List (ℕ × Body)). reverse l) (above_levels root w e []) ∙ reverse-append (reverse (above_by is_below e w)) (root ∷ []) ∙ ap (λ (l : List (ℕ × Body)). root ∷ l) (reverse-reverse (above_by is_below e w)));
      parent = parent_level root w ∙ sym (ap overs first);
      follow = sym (follow_levels root w []);
      precede = sym (precede_levels root w [] ∙ append-nil (reverse (precede_of w)));
      siblings_after = sym (ap (λ (l : List Level). flat_map (found axis.FollowingSibling) l) first ∙ append-nil (heads_in (last_after w)));
      siblings_before = sym (ap (λ (l : List Level). flat_map (found axis.PrecedingSibling) l) first ∙ append-nil (reverse (heads_in (last_before w))));
    }

pub stands : (names : List NameParts) (source : Source) (n : ℕ) → IsProper names source → Stands source n ⊎ IsGone None n 0 source.tree
stands names source n proper = elim (cases_eq n 0) [
  | inl e ↦ inl (subst (Stands source) (sym e) (root_stands names source proper))
  | inr other ↦ elim (has_place (Some 0) n 0 proper.top) [
    | inl at ↦ inl (top_stands names source n proper other at)
    | inr gone ↦ inr (subst (IsGone None n 0) (sym proper.rooted) (gone_node None n 0 0 Root proper.top none other gone (record { path_is = refl; spot_is = refl })))
  ]
]
