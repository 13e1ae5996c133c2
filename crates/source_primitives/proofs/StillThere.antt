-- A text that is still there after a change elsewhere has the characters that it had.
use Rattle.std.proofs.Common.{◌≡◌, ℕ, zero, suc, ◌==◌, ◌<◌, ◌≤◌, ◌⊎◌, inl, inr, Bool, true, false, List, ◌++◌, Option, Some, None, IsSome, if◌then◌else◌, refl, sym, ap, ◌∙◌, arith}
use Rattle.std.proofs.lemmas.Bool.{cases_eq}
use Rattle.std.proofs.lemmas.Option.{same_Some}
use Rattle.std.specs.Option.{option_map, option_and_then}
use Rattle.std.specs.Prelude.{insert}
use Rattle.serna_kinds.specs.declared.cells.AttrPair.{AttrPair}
use Rattle.serna_kinds.specs.declared.cells.NodeName.{NodeName}
use Rattle.serna_kinds.specs.Texts.{inserted, removed}
use Rattle.source_model.specs.Source.{Body, Root, Element, Text, Comment, Forest, none, node, Source}
use Rattle.source_model.specs.Cells.{Spot, spot_in, spot_of}
use Rattle.source_model.specs.Changes.{characters, text_at, with_pairs, with_attributes, with_kids, beside, inserted_at, removed_at}
use Rattle.source_model.specs.Attributes.{pair_of, with_value, without_name}
use Rattle.source_model.specs.Proper.{uses}
use Rattle.source_model.proofs.Spots.{if_other, body_spot, spot_in-with_body}
use Rattle.source_primitives.specs.declared.primitive.CaretPlace.TheVariants as place
use Rattle.source_primitives.specs.declared.primitive.Primitive.{Primitive}
use Rattle.source_primitives.specs.declared.primitive.Primitive.TheVariants.{InsertText, RemoveText, InsertChild, RemoveChild, SetAttr, RemoveAttr, PutAttr}
use Rattle.source_primitives.specs.Primitives.{applied, subtree, with_tree}
use Rattle.source_primitives.specs.Places.{behind_insertion, behind_removal}
use Rattle.source_primitives.specs.Neighbours.{StandsBetween, CarriesBetween, IsElsewhere}
use Rattle.source_primitives.proofs.Around.{at_other, at_same, count_same, either_spot}
use Rattle.source_primitives.proofs.Inside.{spot_text}
use Rattle.source_primitives.proofs.PlacesKept.{text_at-with_text}
use Rattle.source_primitives.proofs.TextPlaces.{size}

-- a node of that number and body is among or below neighbours
abbrev Has : ℕ → Body → Forest → Type 0
Has n body none = ⊥
Has n body (node k own kids rest) = ((n ≡ k) × (body ≡ own)) ⊎ (Has n body kids ⊎ Has n body rest)

has_spot : (up : Option ℕ) (n : ℕ) (f : Forest) (spot : Spot) → spot_in up n f ≡ Some spot → Has n spot.body f
has_spot up n none spot e = cc
has_spot up n (node k own kids rest) spot e = elim (cases_eq n k) [
  | inl same ↦ inl (same, sym (ap (λ (s : Spot). s.body) (same_Some _ spot (sym (at_same n k _ _ same) ∙ e))))
  | inr other ↦ elim (either_spot (spot_in (Some k) n kids) (spot_in up n rest) spot (sym (at_other n k _ _ other) ∙ e)) [
    | inl inner ↦ inr (inl (has_spot (Some k) n kids spot inner))
    | inr later ↦ inr (inr (has_spot up n rest spot later))
  ]
]

has_used : (n : ℕ) (body : Body) (f : Forest) → Has n body f → 0 < uses n f
has_used n body none has = absurd has
has_used n body (node k own kids rest) (inl is) = let one = count_same n k is.0 in omega (arith, one)
has_used n body (node k own kids rest) (inr (inl has)) = let below = has_used n body kids has in omega (arith, below)
has_used n body (node k own kids rest) (inr (inr has)) = let later = has_used n body rest has in omega (arith, later)

-- where a number stands once, one body alone is under it
has_one : (n : ℕ) (a b : Body) (f : Forest) → uses n f ≤ 1 → Has n a f → Has n b f → a ≡ b
has_one n a b none once has also = absurd has
has_one n a b (node k own kids rest) once (inl is) (inl also) = is.1 ∙ sym also.1
has_one n a b (node k own kids rest) once (inl is) (inr (inl also)) = let one = count_same n k is.0 in let more = has_used n b kids also in absurd (omega (arith, once, one, more))
has_one n a b (node k own kids rest) once (inl is) (inr (inr also)) = let one = count_same n k is.0 in let more = has_used n b rest also in absurd (omega (arith, once, one, more))
has_one n a b (node k own kids rest) once (inr (inl has)) (inl also) = let one = count_same n k also.0 in let more = has_used n a kids has in absurd (omega (arith, once, one, more))
has_one n a b (node k own kids rest) once (inr (inl has)) (inr (inl also)) = has_one n a b kids (omega (arith, once)) has also
has_one n a b (node k own kids rest) once (inr (inl has)) (inr (inr also)) = let one = has_used n a kids has in let more = has_used n b rest also in absurd (omega (arith, once, one, more))
has_one n a b (node k own kids rest) once (inr (inr has)) (inl also) = let one = count_same n k also.0 in let more = has_used n a rest has in absurd (omega (arith, once, one, more))
has_one n a b (node k own kids rest) once (inr (inr has)) (inr (inl also)) = let one = has_used n a rest has in let more = has_used n b kids also in absurd (omega (arith, once, one, more))
has_one n a b (node k own kids rest) once (inr (inr has)) (inr (inr also)) = has_one n a b rest (omega (arith, once)) has also

-- nodes that are put in take none away
has_beside : (n : ℕ) (body : Body) (f more : Forest) → Has n body more → Has n body (beside f more)
has_beside n body none more has = has
has_beside n body (node k own kids rest) more has = inr (inr (has_beside n body rest more has))

has_inserted : (n : ℕ) (body : Body) (i : ℕ) (others f : Forest) → Has n body f → Has n body (inserted_at i others f)
has_inserted n body zero others f has = has_beside n body others f has
has_inserted n body (suc i) others none has = absurd has
has_inserted n body (suc i) others (node k own kids rest) (inl is) = inl is
has_inserted n body (suc i) others (node k own kids rest) (inr (inl has)) = inr (inl has)
has_inserted n body (suc i) others (node k own kids rest) (inr (inr has)) = inr (inr (has_inserted n body i others rest has))

by_test : (P : Forest → Type 0) (b : Bool) (x y : Forest) → P x → P y → P (if b then x else y)
by_test P true x y p q = p
by_test P false x y p q = q

has_put_in : (n : ℕ) (body : Body) (p i : ℕ) (others f : Forest) → Has n body f → Has n body (with_kids p (inserted_at i others) f)
has_put_in n body p i others none has = absurd has
has_put_in n body p i others (node k own kids rest) (inl is) = inl is
has_put_in n body p i others (node k own kids rest) (inr (inl has)) =
    inr (inl (by_test (Has n body) (p == k) (inserted_at i others kids) (with_kids p (inserted_at i others) kids) (has_inserted n body i others kids has) (has_put_in n body p i others kids has)))
has_put_in n body p i others (node k own kids rest) (inr (inr has)) = inr (inr (has_put_in n body p i others rest has))

-- what is left when nodes are taken out was there
has_left : (n : ℕ) (body : Body) (i : ℕ) (f : Forest) → Has n body (removed_at i f) → Has n body f
has_left n body i none has = absurd has
has_left n body zero (node k own kids rest) has = inr (inr has)
has_left n body (suc i) (node k own kids rest) (inl is) = inl is
has_left n body (suc i) (node k own kids rest) (inr (inl has)) = inr (inl has)
has_left n body (suc i) (node k own kids rest) (inr (inr has)) = inr (inr (has_left n body i rest has))

has_taken_out : (n : ℕ) (body : Body) (p i : ℕ) (f : Forest) → Has n body (with_kids p (removed_at i) f) → Has n body f
has_taken_out n body p i none has = absurd has
has_taken_out n body p i (node k own kids rest) (inl is) = inl is
has_taken_out n body p i (node k own kids rest) (inr (inl has)) =
    inr (inl (by_test (λ g. Has n body g → Has n body kids) (p == k) (removed_at i kids) (with_kids p (removed_at i) kids) (has_left n body i kids) (has_taken_out n body p i kids) has))
has_taken_out n body p i (node k own kids rest) (inr (inr has)) = inr (inr (has_taken_out n body p i rest has))

-- the text of a number, of which one body alone is under it
has_text : (s : Source) (n : ℕ) (text : List ℕ) → text_at s n ≡ Some text → Has n (Text text) s.tree
has_text s n text e = let at = spot_text s n text e in has_spot None n s.tree (record { up = at.0; body = Text text; kids = at.1 }) at.2

abbrev characters_of : Body → List ℕ → List ℕ
characters_of (Text text) other = text
characters_of body other = other

same_text : (n : ℕ) (a b : List ℕ) (f : Forest) → uses n f ≤ 1 → Has n (Text a) f → Has n (Text b) f → a ≡ b
same_text n a b f once has also = ap (λ body. characters_of body a) (has_one n (Text a) (Text b) f once has also)

some_text : (o : Option (List ℕ)) → IsSome o → (text : List ℕ) × (o ≡ Some text)
some_text None is = cc
some_text (Some text) is = (text, refl)

-- a change of attributes leaves the characters of every text
same_characters : (change : List AttrPair → List AttrPair) (b : Body) → characters (with_pairs change b) ≡ characters b
same_characters change Root = refl
same_characters change (Element name pairs) = refl
same_characters change (Text text) = refl
same_characters change (Comment text) = refl

characters_still : (n m : ℕ) (change : List AttrPair → List AttrPair) (b : Body) → characters (if n == m then with_pairs change b else b) ≡ characters b
characters_still n m change b = elim (cases_eq n m) [
  | inl same ↦ ap characters (at_same n m (with_pairs change b) b same) ∙ same_characters change b
  | inr other ↦ ap characters (at_other n m (with_pairs change b) b other)
]

text_of_spot : (n m : ℕ) (change : List AttrPair → List AttrPair) (o : Option Spot) →
    option_and_then (λ (spot : Spot). characters spot.body) (option_map (body_spot n (with_pairs change) m) o) ≡ option_and_then (λ (spot : Spot). characters spot.body) o
text_of_spot n m change None = refl
text_of_spot n m change (Some spot) = characters_still n m change spot.body

text_at-with_attributes : (n m : ℕ) (change : List AttrPair → List AttrPair) (s : Source) (text : List ℕ) → text_at s m ≡ Some text → text_at (with_tree s (with_attributes n change s.tree)) m ≡ Some text
text_at-with_attributes n m change s text e =
    ap (option_and_then (λ (spot : Spot). characters spot.body)) (spot_in-with_body None n (with_pairs change) m s.tree) ∙ text_of_spot n m change (spot_of s m) ∙ e

-- a text that is there after a prim elsewhere
text_still_there : (s : Source) (prim : Primitive) (number : NodeName) (text : List ℕ) → IsElsewhere prim number → uses number.0 s.tree ≤ 1 → uses number.0 (applied prim s).tree ≤ 1 →
    text_at s number.0 ≡ Some text → IsSome (text_at (applied prim s) number.0) → text_at (applied prim s) number.0 ≡ Some text
text_still_there s (InsertText other from piece) number text apart once once_now e is =
    text_at-with_text other.0 number.0 (inserted from piece) s text e ∙ ap Some (if_other other.0 number.0 (inserted from piece text) text (λ same. apart (sym same)))
text_still_there s (RemoveText other from to) number text apart once once_now e is =
    text_at-with_text other.0 number.0 (removed from to) s text e ∙ ap Some (if_other other.0 number.0 (removed from to text) text (λ same. apart (sym same)))
text_still_there s (InsertChild parent i items) number text apart once once_now e is =
    let now = some_text (text_at (applied (InsertChild parent i items) s) number.0) is in
    let kept = has_put_in number.0 (Text text) parent.0 i (subtree items) s.tree (has_text s number.0 text e) in
    now.1 ∙ ap Some (same_text number.0 now.0 text (applied (InsertChild parent i items) s).tree once_now (has_text (applied (InsertChild parent i items) s) number.0 now.0 now.1) kept)
text_still_there s (RemoveChild parent i) number text apart once once_now e is =
    let now = some_text (text_at (applied (RemoveChild parent i) s) number.0) is in
    let was = has_taken_out number.0 (Text now.0) parent.0 i s.tree (has_text (applied (RemoveChild parent i) s) number.0 now.0 now.1) in
    now.1 ∙ ap Some (same_text number.0 now.0 text s.tree once was (has_text s number.0 text e))
text_still_there s (SetAttr e name value) number text apart once once_now before is = text_at-with_attributes e.0 number.0 (with_value name value) s text before
text_still_there s (RemoveAttr e name) number text apart once once_now before is = text_at-with_attributes e.0 number.0 (without_name name) s text before
text_still_there s (PutAttr e i name value) number text apart once once_now before is =
    text_at-with_attributes e.0 number.0 (λ pairs. insert pairs i (pair_of name value)) s text before

-- where it stands
place_still : (prim : Primitive) (s : Source) (number : NodeName) (at : ℕ) (before behind : List ℕ) → IsElsewhere prim number → text_at (applied prim s) number.0 ≡ Some (before ++ behind) →
    size before ≡ at → CarriesBetween prim s (place.Text number at) before behind
place_still (InsertText other from piece) s number at before behind apart e is = (e, is ∙ sym (if_other number.0 other.0 (behind_insertion from (size piece) at) at apart))
place_still (RemoveText other from to) s number at before behind apart e is = (e, is ∙ sym (if_other number.0 other.0 (behind_removal from to at) at apart))
place_still (InsertChild parent i items) s number at before behind apart e is = (e, is)
place_still (RemoveChild parent i) s number at before behind apart e is = (e, is)
place_still (SetAttr element name value) s number at before behind apart e is = (e, is)
place_still (RemoveAttr element name) s number at before behind apart e is = (e, is)
place_still (PutAttr element i name value) s number at before behind apart e is = (e, is)

pub changed_elsewhere : (s : Source) (prim : Primitive) (number : NodeName) (at : ℕ) (before behind : List ℕ) → IsElsewhere prim number → uses number.0 s.tree ≤ 1 → uses number.0 (applied prim s).tree ≤ 1 →
    IsSome (text_at (applied prim s) number.0) → StandsBetween s (place.Text number at) before behind → CarriesBetween prim s (place.Text number at) before behind
changed_elsewhere s prim number at before behind apart once once_now there is =
    place_still prim s number at before behind apart (text_still_there s prim number (before ++ behind) apart once once_now is.0 there) is.1
