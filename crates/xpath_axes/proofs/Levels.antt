-- The levels from a node outward, and what a walk along Up comes to at each.
use Rattle.std.proofs.Common.{◌≡◌, ℕ, zero, suc, ◌+◌, ◌≤◌, ◌++◌, List, [], ◌∷◌, take, length, reverse, Option, Some, None, if◌then◌else◌, refl, sym, ap, ◌∙◌, arith, append_assoc}
use Rattle.std.specs.List.{flat_map}
use Rattle.std.specs.Option.{option_and_then}
use Rattle.std.proofs.lemmas.List.{map-append, reverse-append}
use Rattle.serna_kinds.specs.declared.cells.NodeName.{NodeName}
use Rattle.serna_kinds.specs.declared.expressions.Axis.{Axis}
use Rattle.serna_kinds.specs.declared.expressions.Axis.TheVariants as axis
use Rattle.serna_kinds.specs.Names.{NameParts}
use Rattle.source_model.specs.Source.{Body, Forest, node, Source}
use Rattle.source_model.specs.Cells.{Spot, spot_of, named}
use Rattle.source_model.specs.Changes.{beside}
use Rattle.source_model.specs.Proper.{IsProper}
use Rattle.source_model.specs.Paths.{Path}
use Rattle.source_model.specs.Axes.{is_below, is_any_step}
use Rattle.xpath_axes.specs.Nodes.{parent_at, parent_of, kids_at}
use Rattle.xpath_axes.specs.Walks.{below, before, after, levels, step, outward}
use Rattle.xpath_axes.proofs.Ways.{Way, here, inside, plug, path_at, all_in, heads_in}
use Rattle.xpath_axes.proofs.Outside.{follow_of, precede_of, above_by, last_after, last_before}
use Rattle.xpath_axes.proofs.Placed.{node_names, node_name, Part, IsSplit, split, kids_are, below_all, IsThere, AreThere, all_there, heads_there, after_is, before_is, height, height_beside}

-- what stands before and behind a node, and the node above it
pub record Level : Type 0 where
  pub before : Forest
  pub after : Forest
  pub over : ℕ × Body

abbrev pub level : Forest → Forest → ℕ × Body → Level
level before after over = record { before = before; after = after; over = over }

-- the levels of a way below a node, the nearest first, and then others
abbrev pub levels_in : ℕ × Body → Way → List Level → List Level
levels_in over (here before after) more = level before after over ∷ more
levels_in over (inside before k outer after way) more = levels_in (k, outer) way (level before after over ∷ more)

-- what an axis has of a level, in axis order
abbrev pub found : Axis → Level → List (ℕ × Body)
found axis.Parent l = l.over ∷ []
found axis.Ancestor l = l.over ∷ []
found axis.AncestorOrSelf l = l.over ∷ []
found axis.FollowingSibling l = heads_in l.after
found axis.PrecedingSibling l = reverse (heads_in l.before)
found axis.Following l = all_in l.after
found axis.Preceding l = reverse (all_in l.before)
found axis.Child l = []
found axis.Attribute l = []
found axis.Descendant l = []
found axis.Itself l = []
found axis.DescendantOrSelf l = []

-- a level of a node is what the source's cells say
pub record IsLevel (source : Source) (n : ℕ) (l : Level) : Type 0 where
  pub up : parent_at source (named n) ≡ Some (node_name l.over)
  pub after_is : after (named n) (kids_at source (node_name l.over)) ≡ node_names (heads_in l.after)
  pub before_is : before (named n) (kids_at source (node_name l.over)) ≡ node_names (heads_in l.before)
  pub below_after : below source levels (node_names (heads_in l.after)) ≡ node_names (all_in l.after)
  pub below_before : below source levels (node_names (heads_in l.before)) ≡ node_names (all_in l.before)
  pub over_there : IsThere source l.over
  pub after_there : AreThere source (all_in l.after)
  pub before_there : AreThere source (all_in l.before)
  pub heads_after_there : AreThere source (heads_in l.after)
  pub heads_before_there : AreThere source (heads_in l.before)

abbrev pub Climbs : Source → ℕ → List Level → Type 0
Climbs source n [] = parent_at source (named n) ≡ None
Climbs source n (l ∷ ls) = IsLevel source n l × Climbs source l.over.0 ls

level_is : (names : List NameParts) (source : Source) (over : ℕ × Body) (before_it : Forest) (k : ℕ) (body : Body) (inner after_it : Forest) → IsProper names source →
    kids_at source (node_name over) ≡ node_names (heads_in (beside before_it (node k body inner after_it))) → IsThere source over →
    IsSplit source (Some over.0) before_it k body inner after_it → IsLevel source k (level before_it after_it over)
level_is names source over before_it k body inner after_it proper kids there parts = record {
  up = ap (λ (o : Option Spot). option_and_then parent_of o) parts.spot_is;
  after_is = ap (after (named k)) kids ∙ after_is k body inner after_it before_it parts.unused;
  before_is = ap (before (named k)) kids ∙ before_is k body inner after_it before_it parts.unused;
  below_after = below_all names source (Some over.0) levels after_it proper parts.after_part.placed parts.after_part.low;
  below_before = below_all names source (Some over.0) levels before_it proper parts.before_part.placed parts.before_part.low;
  over_there = there;
  after_there = all_there source (Some over.0) after_it parts.after_part.placed;
  before_there = all_there source (Some over.0) before_it parts.before_part.placed;
  heads_after_there = heads_there source (Some over.0) after_it parts.after_part.placed;
  heads_before_there = heads_there source (Some over.0) before_it parts.before_part.placed;
}

-- a node at the end of a way, with what is below it
pub record IsEnd (source : Source) (n : ℕ) (body : Body) (kids : Forest) : Type 0 where
  pub there : (up : Option ℕ) × (spot_of source n ≡ Some (record { up = up; body = body; kids = kids }))
  pub part : Part source (Some n) kids

pub record Stood (source : Source) (n : ℕ) (body : Body) (kids : Forest) (ls : List Level) : Type 0 where
  pub end : IsEnd source n body kids
  pub climbs : Climbs source n ls

pub stood : (names : List NameParts) (source : Source) (over : ℕ × Body) (way : Way) (n : ℕ) (body : Body) (kids : Forest) (more : List Level) → IsProper names source →
    kids_at source (node_name over) ≡ node_names (heads_in (plug way n body kids)) → IsThere source over → Part source (Some over.0) (plug way n body kids) → Climbs source over.0 more →
    Stood source n body kids (levels_in over way more)
stood names source over (here before_it after_it) n body kids more proper kids_of_over there part climbs =
    let parts = split source (Some over.0) before_it n body kids after_it part in
    record {
      end = record { there = (Some over.0, parts.spot_is); part = parts.inner_part };
      climbs = (level_is names source over before_it n body kids after_it proper kids_of_over there parts, climbs);
    }
stood names source over (inside before_it k outer after_it way) n body kids more proper kids_of_over there part climbs =
    let parts = split source (Some over.0) before_it k outer (plug way n body kids) after_it part in
    stood names source (k, outer) way n body kids (level before_it after_it over ∷ more) proper
    (kids_are names source k (record { up = Some over.0; body = outer; kids = plug way n body kids }) proper parts.spot_is)
    (record { up = Some over.0; body = outer; kids = plug way n body kids }, parts.spot_is, refl) parts.inner_part
    (level_is names source over before_it k outer (plug way n body kids) after_it proper kids_of_over there parts, climbs)

names_reverse : (ws : List (ℕ × Body)) → node_names (reverse ws) ≡ reverse (node_names ws)
names_reverse [] = refl
names_reverse (w ∷ ws) =
    ap node_names (reverse-append (w ∷ []) ws) ∙ map-append node_name (reverse ws) (w ∷ []) ∙ ap (λ (l : List NodeName). l ++ (node_name w ∷ [])) (names_reverse ws)
    ∙ sym (reverse-append (node_name w ∷ []) (node_names ws))

-- a step of the walk, and the walk
step_is : (along : Axis) (source : Source) (n : ℕ) (l : Level) → IsLevel source n l → step along source (named n) (node_name l.over) ≡ node_names (found along l)
step_is axis.Parent source n l is = refl
step_is axis.Ancestor source n l is = refl
step_is axis.AncestorOrSelf source n l is = refl
step_is axis.FollowingSibling source n l is = is.after_is
step_is axis.PrecedingSibling source n l is = ap (λ (x : List NodeName). reverse x) is.before_is ∙ sym (names_reverse (heads_in l.before))
step_is axis.Following source n l is = ap (below source levels) is.after_is ∙ is.below_after
step_is axis.Preceding source n l is =
    ap (λ (x : List NodeName). reverse x) (ap (below source levels) is.before_is ∙ is.below_before) ∙ sym (names_reverse (all_in l.before))
step_is axis.Child source n l is = refl
step_is axis.Attribute source n l is = refl
step_is axis.Descendant source n l is = refl
step_is axis.Itself source n l is = refl
step_is axis.DescendantOrSelf source n l is = refl

pub walked : (along : Axis) (source : Source) (left n : ℕ) (ls : List Level) → Climbs source n ls → outward along source left (named n) ≡ node_names (flat_map (found along) (take left ls))
walked along source zero n ls climbs = refl
walked along source (suc left) n [] climbs = ap (λ (o : Option NodeName). elim o [ None ↦ [] | Some p ↦ step along source (named n) p ++ outward along source left p ]) climbs
walked along source (suc left) n (l ∷ ls) climbs =
    let one = step_is along source n l climbs.0 in
    let more = walked along source left l.over.0 ls climbs.1 in
    ap (λ (o : Option NodeName). elim o [ None ↦ [] | Some p ↦ step along source (named n) p ++ outward along source left p ]) climbs.0.up
    ∙ (λ q. one q ++ more q) ∙ sym (map-append node_name (found along l) (flat_map (found along) (take left ls)))

-- what the levels have is what the way has
abbrev pub overs : List Level → List (ℕ × Body)
overs ls = flat_map (found axis.Ancestor) ls

pub above_levels : (over : ℕ × Body) (way : Way) (e : Path) (more : List Level) → overs (levels_in over way more) ≡ reverse (above_by is_below e way) ++ (over ∷ overs more)
above_levels over (here before after) e more = refl
above_levels over (inside before k outer after way) e more =
    above_levels (k, outer) way e (level before after over ∷ more)
    ∙ sym (append_assoc (reverse (above_by is_below e way)) ((k, outer) ∷ []) (over ∷ overs more))
    ∙ ap (λ (l : List (ℕ × Body)). l ++ (over ∷ overs more)) (sym (reverse-append ((k, outer) ∷ []) (above_by is_below e way)) ∙ ap (λ (l : List (ℕ × Body)). reverse l) (sym (inner_above way)))
  where
    inner_above : (w : Way) → (if is_below (path_at 0 w e) then (k, outer) ∷ [] else []) ++ above_by is_below e w ≡ (k, outer) ∷ above_by is_below e w
    inner_above (here b a) = refl
    inner_above (inside b l o a w) = refl

pub follow_levels : (over : ℕ × Body) (way : Way) (more : List Level) → flat_map (found axis.Following) (levels_in over way more) ≡ follow_of way ++ flat_map (found axis.Following) more
follow_levels over (here before after) more = refl
follow_levels over (inside before k outer after way) more =
    follow_levels (k, outer) way (level before after over ∷ more) ∙ sym (append_assoc (follow_of way) (all_in after) (flat_map (found axis.Following) more))

pub precede_levels : (over : ℕ × Body) (way : Way) (more : List Level) → flat_map (found axis.Preceding) (levels_in over way more) ≡ reverse (precede_of way) ++ flat_map (found axis.Preceding) more
precede_levels over (here before after) more = refl
precede_levels over (inside before k outer after way) more =
    precede_levels (k, outer) way (level before after over ∷ more)
    ∙ sym (append_assoc (reverse (precede_of way)) (reverse (all_in before)) (flat_map (found axis.Preceding) more))
    ∙ ap (λ (l : List (ℕ × Body)). l ++ flat_map (found axis.Preceding) more) (sym (reverse-append (all_in before) (precede_of way)))

abbrev pub nearest : ℕ × Body → Way → ℕ × Body
nearest over (here before after) = over
nearest over (inside before k outer after way) = nearest (k, outer) way

pub first_level : (over : ℕ × Body) (way : Way) (more : List Level) → take 1 (levels_in over way more) ≡ level (last_before way) (last_after way) (nearest over way) ∷ []
first_level over (here before after) more = refl
first_level over (inside before k outer after way) more = first_level (k, outer) way (level before after over ∷ more)

pub parent_level : (over : ℕ × Body) (way : Way) → (if is_any_step (path_at 0 way []) then over ∷ [] else []) ++ above_by is_any_step [] way ≡ nearest over way ∷ []
parent_level over (here before after) = refl
parent_level over (inside before k outer after (here b a)) = parent_level (k, outer) (here b a)
parent_level over (inside before k outer after (inside b l o a way)) = parent_level (k, outer) (inside b l o a way)

-- the levels are no more than nodes stand in one another
pub few_levels : (over : ℕ × Body) (way : Way) (n : ℕ) (body : Body) (kids : Forest) (more : List Level) → length (levels_in over way more) ≤ height (plug way n body kids) + length more
few_levels over (here before after) n body kids more = let high = height_beside before (node n body kids after) in omega (arith, high)
few_levels over (inside before k outer after way) n body kids more =
    let inner = few_levels (k, outer) way n body kids (level before after over ∷ more) in
    let high = height_beside before (node k outer (plug way n body kids) after) in
    omega (arith, inner, high)
