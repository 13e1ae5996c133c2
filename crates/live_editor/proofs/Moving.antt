-- A place on its way through prims and changes, one by one.
use Rattle.std.proofs.Common.{◌≡◌, ℕ, ◌+◌, ◌<◌, ◌≤◌, ◌==◌, Bool, true, false, List, [], ◌∷◌, drop, get_or, length, if◌then◌else◌, sym, ap, ◌∙◌, subst}
use Rattle.std.proofs.lemmas.Bool.{eq-eqb, ne_eqb}
use Rattle.std.proofs.lemmas.List.{drop_more, drop_all}
use Rattle.serna_kinds.specs.declared.cells.NodeName.{NodeName}
use Rattle.source_primitives.specs.declared.primitive.CaretPlace.{CaretPlace}
use Rattle.source_primitives.specs.declared.primitive.CaretPlace.TheVariants.{Text, Into}
use Rattle.source_primitives.specs.declared.primitive.Primitive.{Primitive}
use Rattle.source_primitives.specs.declared.primitive.Begun.{Begun}
use Rattle.source_primitives.specs.declared.primitive.Moves.{Moves}
use Rattle.source_primitives.specs.Places.{IsNear, carried, carried_through, inside_since, moved, moved_through}
use Rattle.plain_editor.specs.Sound.{StaysNear, GoesNear}

-- what is left of a way: it ends where the whole way ends, and stays near
pub record OnWay (prims : List Primitive) (i : ℕ) (first place : CaretPlace) : Type 0 where
  pub ends : carried_through (drop i prims) place ≡ carried_through prims first
  pub near : StaysNear (drop i prims) place

pub record OnTour (since : List Moves) (i : ℕ) (first place : CaretPlace) : Type 0 where
  pub ends : moved_through (drop i since) place ≡ moved_through since first
  pub near : GoesNear (drop i since) place

near_first : (prims : List Primitive) (place : CaretPlace) → StaysNear prims place → IsNear place
near_first [] place near = near
near_first (prim ∷ prims) place near = near.0

-- one prim more
way_left : (prims : List Primitive) (i : ℕ) (prim : Primitive) → i < length prims → prim ≡ get_or prims i prim → drop i prims ≡ prim ∷ drop (i + 1) prims
way_left prims i prim within is = drop_more prims i prim within ∙ ap (λ p. p ∷ drop (i + 1) prims) (sym is)

pub way_near : (prims : List Primitive) (i : ℕ) (prim : Primitive) (first place : CaretPlace) → i < length prims → prim ≡ get_or prims i prim → OnWay prims i first place → IsNear (carried prim place)
way_near prims i prim first place within is on =
    near_first (drop (i + 1) prims) (carried prim place) (subst (λ ps. StaysNear ps place) (way_left prims i prim within is) on.near).1

pub way_on : (prims : List Primitive) (i : ℕ) (prim : Primitive) (first place next : CaretPlace) → i < length prims → prim ≡ get_or prims i prim → next ≡ carried prim place → OnWay prims i first place →
    OnWay prims (i + 1) first next
way_on prims i prim first place next within is e on = record {
  ends = ap (carried_through (drop (i + 1) prims)) e ∙ sym (ap (λ ps. carried_through ps place) (way_left prims i prim within is)) ∙ on.ends;
  near = subst (StaysNear (drop (i + 1) prims)) (sym e) (subst (λ ps. StaysNear ps place) (way_left prims i prim within is) on.near).1;
}

pub way_end : (prims : List Primitive) (i : ℕ) (first place : CaretPlace) → length prims ≤ i → OnWay prims i first place → place ≡ carried_through prims first
way_end prims i first place past on = ap (λ ps. carried_through ps place) (sym (drop_all i prims past)) ∙ on.ends

-- one change more
tour_left : (since : List Moves) (i : ℕ) (moves : Moves) → i < length since → moves ≡ get_or since i moves → drop i since ≡ moves ∷ drop (i + 1) since
tour_left since i moves within is = drop_more since i moves within ∙ ap (λ m. m ∷ drop (i + 1) since) (sym is)

pub tour_near : (since : List Moves) (i : ℕ) (moves : Moves) (first place : CaretPlace) → i < length since → moves ≡ get_or since i moves → OnTour since i first place → StaysNear moves.prims place
tour_near since i moves first place within is on = (subst (λ ms. GoesNear ms place) (tour_left since i moves within is) on.near).0

pub tour_on : (since : List Moves) (i : ℕ) (moves : Moves) (first place next : CaretPlace) → i < length since → moves ≡ get_or since i moves → next ≡ moved moves place → OnTour since i first place →
    OnTour since (i + 1) first next
tour_on since i moves first place next within is e on = record {
  ends = ap (moved_through (drop (i + 1) since)) e ∙ sym (ap (λ ms. moved_through ms place) (tour_left since i moves within is)) ∙ on.ends;
  near = subst (GoesNear (drop (i + 1) since)) (sym e) (subst (λ ms. GoesNear ms place) (tour_left since i moves within is) on.near).1;
}

pub tour_end : (since : List Moves) (i : ℕ) (first place : CaretPlace) → length since ≤ i → OnTour since i first place → place ≡ moved_through since first
tour_end since i first place past on = ap (λ ms. moved_through ms place) (sym (drop_all i since past)) ∙ on.ends

-- one element more
if_true : (b : Bool) (x y : CaretPlace) → b ≡ true → (if b then x else y) ≡ x
if_true b x y e = ap (λ c. if c then x else y) e

if_false : (b : Bool) (x y : CaretPlace) → b ≡ false → (if b then x else y) ≡ y
if_false b x y e = ap (λ c. if c then x else y) e

pub begun_found : (begun : List Begun) (i : ℕ) (d : Begun) (node : NodeName) → i < length begun → inside_since (drop i begun) node ≡ inside_since begun node →
    node.0 ≡ (get_or begun i d).element.0 → Text (get_or begun i d).text 0 ≡ inside_since begun node
begun_found begun i d node within on found =
    sym (if_true (node.0 == (get_or begun i d).element.0) (Text (get_or begun i d).text 0) (inside_since (drop (i + 1) begun) node) (eq-eqb node.0 (get_or begun i d).element.0 found))
    ∙ sym (ap (λ bs. inside_since bs node) (drop_more begun i d within)) ∙ on

pub begun_past : (begun : List Begun) (i : ℕ) (d : Begun) (node : NodeName) → i < length begun → inside_since (drop i begun) node ≡ inside_since begun node →
    (node.0 ≡ (get_or begun i d).element.0 → ⊥) → inside_since (drop (i + 1) begun) node ≡ inside_since begun node
begun_past begun i d node within on other =
    sym (if_false (node.0 == (get_or begun i d).element.0) (Text (get_or begun i d).text 0) (inside_since (drop (i + 1) begun) node) (ne_eqb node.0 (get_or begun i d).element.0 other))
    ∙ sym (ap (λ bs. inside_since bs node) (drop_more begun i d within)) ∙ on

pub begun_end : (begun : List Begun) (i : ℕ) (node : NodeName) → length begun ≤ i → inside_since (drop i begun) node ≡ inside_since begun node → Into node ≡ inside_since begun node
begun_end begun i node past on = ap (λ bs. inside_since bs node) (sym (drop_all i begun past)) ∙ on

pub ruleset all = way_end
