-- A place of the source, carried through a prim and settled, is one of the source that the prim leaves; and one that is gone stays.
use Rattle.std.proofs.Common.{◌≡◌, ℕ, zero, suc, ◌+◌, ◌≤◌, ◌==◌, ◌⊎◌, inl, inr, Bool, true, false, List, [], ◌∷◌, length, max, Option, Some, None, is_some, IsTrue, ◌<◌, if◌then◌else◌, refl, sym, ap, ◌∙◌, subst, arith}
use Rattle.std.proofs.lemmas.Bool.{cases_eq}
use Rattle.std.proofs.lemmas.Option.{none-some}
use Rattle.std.proofs.lemmas.Bool.{false≢true}
use Rattle.std.specs.List.{cons_option}
use Rattle.std.specs.Option.{option_map, option_map_or, option_and_then}
use Rattle.serna_kinds.specs.declared.cells.NodeName.{NodeName}
use Rattle.serna_kinds.specs.Limits.{node_limit}
use Rattle.serna_kinds.specs.Names.{NameParts}
use Rattle.serna_kinds.specs.Texts.{IsPlaceIn, inserted}
use Rattle.source_model.specs.Source.{Body, Forest, Source, numbers}
use Rattle.source_model.specs.Source as source
use Rattle.source_model.specs.Cells.{Spot, named, spot_of}
use Rattle.source_model.specs.Changes.{characters, with_characters, text_at, with_text, with_kids, inserted_at, greatest}
use Rattle.source_model.specs.Proper.{uses, BeginsNoText, IsProper}
use Rattle.source_model.proofs.Spots.{if_same, if_other, text_spot, kids_spot, spot_in-with_text, spot_in-with_leaf, spot_in-new_leaf, used-from_spot, leaf}
use Rattle.source_primitives.specs.declared.primitive.Primitive.{Primitive}
use Rattle.source_primitives.specs.declared.primitive.Primitive.TheVariants.{InsertText, RemoveText, InsertChild, RemoveChild, SetAttr, RemoveAttr, PutAttr}
use Rattle.source_primitives.specs.declared.primitive.SubItem.{SubItem}
use Rattle.source_primitives.specs.declared.primitive.SubItem.TheVariants as item
use Rattle.source_primitives.specs.declared.primitive.CaretPlace.{CaretPlace}
use Rattle.source_primitives.specs.declared.primitive.CaretPlace.TheVariants.{Text, Into}
use Rattle.source_primitives.specs.declared.primitive.Begun.{Begun}
use Rattle.source_primitives.specs.Primitives.{applied, with_tree, MayType, KeepsProper, HasRoom, HasPlace, IsNewLeaf, IsElement}
use Rattle.source_primitives.specs.Places.{IsPlaceOf, carried, behind_insertion, first_text, text_at_start, settled, begun_in, moves_of, inside_since, moved, node_of, IsNear, Lasts}
use Rattle.source_primitives.proofs.TextPlaces.{size, place_carried, place_behind, place_start, place_end}
use Rattle.source_primitives.proofs.ProperKept.{proper_kept}
use Rattle.source_primitives.proofs.ShortTexts.{place_short}

abbrev chars_of : Spot → Option (List ℕ)
chars_of spot = characters spot.body

-- the characters of a text node after a change
text_after : (n m : ℕ) (change : List ℕ → List ℕ) (u t : List ℕ) → u ≡ t → ((n ≡ m) ⊎ (n ≡ m → ⊥)) →
    characters (if n == m then source.Text (change u) else source.Text u) ≡ Some (if n == m then change t else t)
text_after n m change u t same (inl e) =
    ap characters (if_same n m (source.Text (change u)) (source.Text u) e) ∙ ap (λ v. Some (change v)) same ∙ ap Some (sym (if_same n m (change t) t e))
text_after n m change u t same (inr e) =
    ap characters (if_other n m (source.Text (change u)) (source.Text u) e) ∙ ap Some same ∙ ap Some (sym (if_other n m (change t) t e))

body_after : (n m : ℕ) (change : List ℕ → List ℕ) (body : Body) (t : List ℕ) → characters body ≡ Some t →
    characters (if n == m then with_characters change body else body) ≡ Some (if n == m then change t else t)
body_after n m change source.Root t e = absurd (none-some t e)
body_after n m change (source.Element name attributes) t e = absurd (none-some t e)
body_after n m change (source.Text u) t e = let same : u ≡ t = cc in text_after n m change u t same (cases_eq n m)
body_after n m change (source.Comment u) t e = absurd (none-some t e)

found_after : (n m : ℕ) (change : List ℕ → List ℕ) (found : Option Spot) (t : List ℕ) → option_and_then chars_of found ≡ Some t →
    option_and_then chars_of (option_map (text_spot n change m) found) ≡ Some (if n == m then change t else t)
found_after n m change None t e = absurd (none-some t e)
found_after n m change (Some spot) t e = body_after n m change spot.body t e

pub text_at-with_text : (n m : ℕ) (change : List ℕ → List ℕ) (s : Source) (t : List ℕ) → text_at s m ≡ Some t →
    text_at (with_tree s (with_text n change s.tree)) m ≡ Some (if n == m then change t else t)
text_at-with_text n m change s t e =
    ap (option_and_then chars_of) (spot_in-with_text None n change m s.tree) ∙ found_after n m change (spot_of s m) t e

-- an element without children after a change of characters
element_after : (n m : ℕ) (change : List ℕ → List ℕ) (body : Body) → IsElement body → IsElement (if n == m then with_characters change body else body)
element_after n m change source.Root is = absurd is
element_after n m change (source.Element name attributes) is = elim (cases_eq n m) [
  | inl e ↦ subst IsElement (sym (if_same n m (source.Element name attributes) (source.Element name attributes) e)) tt
  | inr e ↦ subst IsElement (sym (if_other n m (source.Element name attributes) (source.Element name attributes) e)) tt
]
element_after n m change (source.Text t) is = absurd is
element_after n m change (source.Comment t) is = absurd is

-- a place after an insertion of characters
text_place_kept : (n m at from : ℕ) (piece t u : List ℕ) → IsPlaceIn u from → (m ≡ n → t ≡ u) → IsPlaceIn t at → ((m ≡ n) ⊎ (m ≡ n → ⊥)) → ((n ≡ m) ⊎ (n ≡ m → ⊥)) →
    IsPlaceIn (if n == m then inserted from piece t else t) (if m == n then behind_insertion from (size piece) at else at)
text_place_kept n m at from piece t u f same p (inl e) (inl g) =
    subst (λ k. IsPlaceIn (if n == m then inserted from piece t else t) k) (sym (if_same m n (behind_insertion from (size piece) at) at e))
    (subst (λ v. IsPlaceIn v (behind_insertion from (size piece) at)) (sym (if_same n m (inserted from piece t) t g))
    (place_carried t piece from at (subst (λ v. IsPlaceIn v from) (sym (same e)) f) p))
text_place_kept n m at from piece t u f same p (inl e) (inr g) = absurd (g (sym e))
text_place_kept n m at from piece t u f same p (inr e) (inl g) = absurd (e (sym g))
text_place_kept n m at from piece t u f same p (inr e) (inr g) =
    subst (λ k. IsPlaceIn (if n == m then inserted from piece t else t) k) (sym (if_other m n (behind_insertion from (size piece) at) at e))
    (subst (λ v. IsPlaceIn v at) (sym (if_other n m (inserted from piece t) t g)) p)

-- neighbours that begin with no text, after a change
begins_after : (n : ℕ) (change : List ℕ → List ℕ) (kids : Forest) → BeginsNoText kids → BeginsNoText (with_text n change kids)
begins_after n change source.none h = tt
begins_after n change (source.node k source.Root kids rest) h = elim (cases_eq n k) [
  | inl e ↦ subst (λ b. BeginsNoText (source.node k b (with_text n change kids) (with_text n change rest))) (sym (if_same n k source.Root source.Root e)) tt
  | inr e ↦ subst (λ b. BeginsNoText (source.node k b (with_text n change kids) (with_text n change rest))) (sym (if_other n k source.Root source.Root e)) tt
]
begins_after n change (source.node k (source.Element name attributes) kids rest) h = elim (cases_eq n k) [
  | inl e ↦ subst (λ b. BeginsNoText (source.node k b (with_text n change kids) (with_text n change rest))) (sym (if_same n k (source.Element name attributes) (source.Element name attributes) e)) tt
  | inr e ↦ subst (λ b. BeginsNoText (source.node k b (with_text n change kids) (with_text n change rest))) (sym (if_other n k (source.Element name attributes) (source.Element name attributes) e)) tt
]
begins_after n change (source.node k (source.Text t) kids rest) h = absurd h
begins_after n change (source.node k (source.Comment t) kids rest) h = elim (cases_eq n k) [
  | inl e ↦ subst (λ b. BeginsNoText (source.node k b (with_text n change kids) (with_text n change rest))) (sym (if_same n k (source.Comment t) (source.Comment t) e)) tt
  | inr e ↦ subst (λ b. BeginsNoText (source.node k b (with_text n change kids) (with_text n change rest))) (sym (if_other n k (source.Comment t) (source.Comment t) e)) tt
]

begins_same : (p : ℕ) (change : Forest → Forest) (kids : Forest) → BeginsNoText kids → BeginsNoText (with_kids p change kids)
begins_same p change source.none h = tt
begins_same p change (source.node k source.Root kids rest) h = tt
begins_same p change (source.node k (source.Element name attributes) kids rest) h = tt
begins_same p change (source.node k (source.Text t) kids rest) h = absurd h
begins_same p change (source.node k (source.Comment t) kids rest) h = tt

begins_inserted : (i : ℕ) (others kids : Forest) → BeginsNoText kids → suc i ≤ length (numbers kids) → BeginsNoText (inserted_at (suc i) others kids)
begins_inserted i others source.none h within = absurd (omega (arith, within))
begins_inserted i others (source.node k source.Root kids rest) h within = tt
begins_inserted i others (source.node k (source.Element name attributes) kids rest) h within = tt
begins_inserted i others (source.node k (source.Text t) kids rest) h within = absurd h
begins_inserted i others (source.node k (source.Comment t) kids rest) h within = tt

-- a number that was found was made
found_made : (names : List NameParts) (s : Source) (n : ℕ) (spot : Spot) → IsProper names s → spot_of s n ≡ Some spot → n ≤ s.made
found_made names s n spot proper found = proper.numbered n (used-from_spot None n spot s.tree found)

text_spot_of : (found : Option Spot) (t : List ℕ) → option_and_then chars_of found ≡ Some t → (spot : Spot) × (found ≡ Some spot) × (characters spot.body ≡ Some t)
text_spot_of None t e = absurd (none-some t e)
text_spot_of (Some spot) t e = (spot, refl, e)

-- characters after an insertion of a child
pub text_at-with_kids : (p m k i : ℕ) (body : Body) (made : ℕ) (s : Source) (t : List ℕ) → (m ≡ k → ⊥) → uses p s.tree ≤ 1 → text_at s m ≡ Some t →
    text_at (record { tree = with_kids p (inserted_at i (leaf k body)) s.tree; made = made; spaces = s.spaces }) m ≡ Some t
text_at-with_kids p m k i body made s t other once e =
    let found = text_spot_of (spot_of s m) t e in
    ap (option_and_then chars_of) (spot_in-with_leaf None p m k i body s.tree other once ∙ ap (option_map (kids_spot p (inserted_at i (leaf k body)) m)) found.1) ∙ found.2

-- a place, carried through an insertion of characters
insert_text_kept : (s : Source) (n : NodeName) (from : ℕ) (piece : List ℕ) (place : CaretPlace) → HasRoom s n.0 from (size piece) → IsPlaceOf s place →
    IsPlaceOf (with_tree s (with_text n.0 (inserted from piece) s.tree)) (carried (InsertText n from piece) place)
insert_text_kept s n from piece (Text m at) room is =
    let same : m.0 ≡ n.0 → is.0 ≡ room.0 = λ e. let both : Some is.0 ≡ Some room.0 = sym is.1 ∙ ap (text_at s) e ∙ room.1 in cc in (
      if n.0 == m.0 then inserted from piece is.0 else is.0,
      text_at-with_text n.0 m.0 (inserted from piece) s is.0 is.1,
      text_place_kept n.0 m.0 at from piece is.0 room.0 room.2 same is.2 (cases_eq m.0 n.0) (cases_eq n.0 m.0),
    )
insert_text_kept s n from piece (Into m) room is = (
  text_spot n.0 (inserted from piece) m.0 is.0,
  spot_in-with_text None n.0 (inserted from piece) m.0 s.tree ∙ ap (option_map (text_spot n.0 (inserted from piece) m.0)) is.1,
  element_after n.0 m.0 (inserted from piece) is.0.body is.2,
  begins_after n.0 (inserted from piece) is.0.kids is.3,
)

-- the inside of an element, after an insertion of a child into another element, or behind its first child
into_kept : (p m k i : ℕ) (body : Body) (made : ℕ) (s : Source) (spot : Spot) → (m ≡ k → ⊥) → uses p s.tree ≤ 1 → spot_of s m ≡ Some spot → IsElement spot.body →
    BeginsNoText (if p == m then inserted_at i (leaf k body) spot.kids else with_kids p (inserted_at i (leaf k body)) spot.kids) →
    IsPlaceOf (record { tree = with_kids p (inserted_at i (leaf k body)) s.tree; made = made; spaces = s.spaces }) (Into (record { 0 = m }))
into_kept p m k i body made s spot other once found is begins =
    (kids_spot p (inserted_at i (leaf k body)) m spot, spot_in-with_leaf None p m k i body s.tree other once ∙ ap (option_map (kids_spot p (inserted_at i (leaf k body)) m)) found, is, begins)

-- the source with a leaf put in
abbrev with_leaf : Source → ℕ → ℕ → ℕ → Body → ℕ → Source
with_leaf s p i k body made = record { tree = with_kids p (inserted_at i (leaf k body)) s.tree; made = made; spaces = s.spaces }

-- where the new leaf stands, and where the others do
record IsNew (names : List NameParts) (s : Source) (p k i : ℕ) : Type 0 where
  proper : IsProper names s
  number : k ≡ s.made + 1
  parent : Spot
  found : spot_of s p ≡ Some parent
  within : i ≤ length (numbers parent.kids)

apart : (names : List NameParts) (s : Source) (p k i m : ℕ) (spot : Spot) → IsNew names s p k i → spot_of s m ≡ Some spot → m ≡ k → ⊥
apart names s p k i m spot new found e = let made = found_made names s m spot new.proper found in absurd (omega (arith, made, new.number, e))

unused_by : (names : List NameParts) (s : Source) (p k i : ℕ) → IsNew names s p k i → (u : ℕ) → u ≡ uses k s.tree → uses k s.tree ≡ 0
unused_by names s p k i new zero e = sym e
unused_by names s p k i new (suc u) e = let made = new.proper.numbered k (omega (arith, e)) in absurd (omega (arith, made, new.number))

unused : (names : List NameParts) (s : Source) (p k i : ℕ) → IsNew names s p k i → uses k s.tree ≡ 0
unused names s p k i new = unused_by names s p k i new (uses k s.tree) refl

-- a place in a text
leaf_text : (names : List NameParts) (s : Source) (p k i : ℕ) (body : Body) (made : ℕ) (m : NodeName) (at : ℕ) → IsNew names s p k i → IsPlaceOf s (Text m at) →
    IsPlaceOf (with_leaf s p i k body made) (Text m at)
leaf_text names s p k i body made m at new is =
    let found = text_spot_of (spot_of s m.0) is.0 is.1 in
    (is.0, text_at-with_kids p m.0 k i body made s is.0 (apart names s p k i m.0 found.0 new found.1) (new.proper.distinct p) is.1, is.2)

-- the inside of another element
leaf_other : (names : List NameParts) (s : Source) (p k i : ℕ) (body : Body) (made : ℕ) (m : NodeName) → IsNew names s p k i → IsPlaceOf s (Into m) → (p ≡ m.0 → ⊥) →
    IsPlaceOf (with_leaf s p i k body made) (Into m)
leaf_other names s p k i body made m new is e =
    into_kept p m.0 k i body made s is.0 (apart names s p k i m.0 is.0 new is.1) (new.proper.distinct p) is.1 is.2
    (subst BeginsNoText (sym (if_other p m.0 (inserted_at i (leaf k body) is.0.kids) (with_kids p (inserted_at i (leaf k body)) is.0.kids) e)) (begins_same p (inserted_at i (leaf k body)) is.0.kids is.3))

-- the inside of the element itself, where it begins with no text
leaf_own : (names : List NameParts) (s : Source) (p k i : ℕ) (body : Body) (made : ℕ) (m : NodeName) → IsNew names s p k i → (is : IsPlaceOf s (Into m)) → p ≡ m.0 →
    BeginsNoText (inserted_at i (leaf k body) is.0.kids) → IsPlaceOf (with_leaf s p i k body made) (Into m)
leaf_own names s p k i body made m new is e begins =
    into_kept p m.0 k i body made s is.0 (apart names s p k i m.0 is.0 new is.1) (new.proper.distinct p) is.1 is.2
    (subst BeginsNoText (sym (if_same p m.0 (inserted_at i (leaf k body) is.0.kids) (with_kids p (inserted_at i (leaf k body)) is.0.kids) e)) begins)

leaf_behind : (names : List NameParts) (s : Source) (p k i : ℕ) (body : Body) (made : ℕ) (m : NodeName) → IsNew names s p k (suc i) → (is : IsPlaceOf s (Into m)) → p ≡ m.0 →
    IsPlaceOf (with_leaf s p (suc i) k body made) (Into m)
leaf_behind names s p k i body made m new is e =
    let both : Some new.parent ≡ Some is.0 = sym new.found ∙ ap (spot_of s) e ∙ is.1 in
    let same : new.parent ≡ is.0 = cc in
    leaf_own names s p k (suc i) body made m new is e
    (begins_inserted i (leaf k body) is.0.kids is.3 (subst (λ (spot : Spot). suc i ≤ length (numbers spot.kids)) same new.within))

-- the new text
new_text : (names : List NameParts) (s : Source) (p i made : ℕ) (number : NodeName) (t : List ℕ) → IsNew names s p number.0 i →
    text_at (with_leaf s p i number.0 (source.Text t) made) number.0 ≡ Some t
new_text names s p i made number t new =
    ap (option_and_then chars_of) (spot_in-new_leaf None p number.0 i (source.Text t) s.tree (unused names s p number.0 i new) (used-from_spot None p new.parent s.tree new.found) (new.proper.distinct p))

-- its start
new_start : (names : List NameParts) (s : Source) (p i made : ℕ) (number : NodeName) (t : List ℕ) → IsNew names s p number.0 i →
    IsPlaceOf (with_leaf s p i number.0 (source.Text t) made) (Text number 0)
new_start names s p i made number t new = (t, new_text names s p i made number t new, place_start t)

-- an element that begins with no text
begins_none : (kids : Forest) → BeginsNoText kids → first_text kids ≡ None
begins_none source.none h = refl
begins_none (source.node k source.Root kids rest) h = refl
begins_none (source.node k (source.Element name attributes) kids rest) h = refl
begins_none (source.node k (source.Text t) kids rest) h = absurd h
begins_none (source.node k (source.Comment t) kids rest) h = refl

abbrev first_in : Option Spot → Option NodeName
first_in found = option_and_then (λ (spot : Spot). first_text spot.kids) found

abbrev start_or : NodeName → Option NodeName → CaretPlace
start_or m o = option_map_or (λ text. Text text 0) o (Into m)

-- a place of a source is settled in it
settled_place : (s : Source) (place : CaretPlace) → IsPlaceOf s place → settled s place ≡ place
settled_place s (Text m at) is = refl
settled_place s (Into m) is = ap (start_or m) (ap first_in is.1 ∙ begins_none is.0.kids is.3)

stays_place : (s : Source) (place : CaretPlace) → IsPlaceOf s place → IsPlaceOf s (settled s place)
stays_place s place is = subst (IsPlaceOf s) (sym (settled_place s place is)) is

-- the element begins with the new text
own_first : (names : List NameParts) (s : Source) (p k made : ℕ) (t : List ℕ) → IsNew names s p k 0 → text_at_start (with_leaf s p 0 k (source.Text t) made) p ≡ Some (named k)
own_first names s p k made t new =
    ap first_in (spot_in-with_leaf None p p k 0 (source.Text t) s.tree (apart names s p k 0 p new.parent new new.found) (new.proper.distinct p)
    ∙ ap (option_map (kids_spot p (inserted_at 0 (leaf k (source.Text t))) p)) new.found)
    ∙ ap first_text (if_same p p (inserted_at 0 (leaf k (source.Text t)) new.parent.kids) (with_kids p (inserted_at 0 (leaf k (source.Text t))) new.parent.kids) refl)

text_child_kept : (names : List NameParts) (s : Source) (p : NodeName) (i made : ℕ) (number : NodeName) (t : List ℕ) (place : CaretPlace) → IsNew names s p.0 number.0 i → IsPlaceOf s place →
    IsPlaceOf (with_leaf s p.0 i number.0 (source.Text t) made) (settled (with_leaf s p.0 i number.0 (source.Text t) made) place)
text_child_kept names s p i made number t (Text m at) new is = leaf_text names s p.0 number.0 i (source.Text t) made m at new is
text_child_kept names s p zero made number t (Into m) new is =
    let left : Source = with_leaf s p.0 zero number.0 (source.Text t) made in
    elim (cases_eq m.0 p.0) [
      | inl e ↦ subst (IsPlaceOf left) (sym (ap (start_or m) (ap (text_at_start left) e ∙ own_first names s p.0 number.0 made t new))) (new_start names s p.0 zero made number t new)
      | inr e ↦ stays_place left (Into m) (leaf_other names s p.0 number.0 zero (source.Text t) made m new is (λ f. e (sym f)))
    ]
text_child_kept names s p (suc i) made number t (Into m) new is =
    let left : Source = with_leaf s p.0 (suc i) number.0 (source.Text t) made in
    elim (cases_eq m.0 p.0) [
      | inl e ↦ stays_place left (Into m) (leaf_behind names s p.0 number.0 i (source.Text t) made m new is (sym e))
      | inr e ↦ stays_place left (Into m) (leaf_other names s p.0 number.0 (suc i) (source.Text t) made m new is (λ f. e (sym f)))
    ]

comment_child_kept : (names : List NameParts) (s : Source) (p : NodeName) (i made : ℕ) (number : NodeName) (t : List ℕ) (place : CaretPlace) → IsNew names s p.0 number.0 i → IsPlaceOf s place →
    IsPlaceOf (with_leaf s p.0 i number.0 (source.Comment t) made) (settled (with_leaf s p.0 i number.0 (source.Comment t) made) place)
comment_child_kept names s p i made number t (Text m at) new is = leaf_text names s p.0 number.0 i (source.Comment t) made m at new is
comment_child_kept names s p zero made number t (Into m) new is =
    let left : Source = with_leaf s p.0 zero number.0 (source.Comment t) made in
    elim (cases_eq m.0 p.0) [
      | inl e ↦ stays_place left (Into m) (leaf_own names s p.0 number.0 zero (source.Comment t) made m new is (sym e) tt)
      | inr e ↦ stays_place left (Into m) (leaf_other names s p.0 number.0 zero (source.Comment t) made m new is (λ f. e (sym f)))
    ]
comment_child_kept names s p (suc i) made number t (Into m) new is =
    let left : Source = with_leaf s p.0 (suc i) number.0 (source.Comment t) made in
    elim (cases_eq m.0 p.0) [
      | inl e ↦ stays_place left (Into m) (leaf_behind names s p.0 number.0 i (source.Comment t) made m new is (sym e))
      | inr e ↦ stays_place left (Into m) (leaf_other names s p.0 number.0 (suc i) (source.Comment t) made m new is (λ f. e (sym f)))
    ]

abbrev are_none : List SubItem → Bool
are_none [] = true
are_none (x ∷ items) = false

some_items : (x : SubItem) (items : List SubItem) → x ∷ items ≡ [] → ⊥
some_items x items e = false≢true (ap are_none e)

-- the one new node of an insertion that may be done
record Leafed (names : List NameParts) (s : Source) (p : NodeName) (i : ℕ) (items : List SubItem) : Type 0 where
  number : NodeName
  body : Body
  made : ℕ
  new : IsNew names s p.0 number.0 i
  is : applied (InsertChild p i items) s ≡ with_leaf s p.0 i number.0 body made
  kept : (place : CaretPlace) → IsPlaceOf s place → IsPlaceOf (with_leaf s p.0 i number.0 body made) (settled (with_leaf s p.0 i number.0 body made) place)

leafed : (names : List NameParts) (s : Source) (p : NodeName) (i : ℕ) (items : List SubItem) → IsProper names s → HasPlace s p.0 i → IsNewLeaf s.made items → Leafed names s p i items
leafed names s p i [] proper has fresh = absurd fresh
leafed names s p i (item.Begin number name attributes ∷ items) proper has fresh = absurd fresh
leafed names s p i (item.Text number t ∷ []) proper has fresh =
    let new : IsNew names s p.0 number.0 i = record { proper = proper; number = fresh.0; parent = has.0; found = has.1; within = has.3 } in
    let made : ℕ = max s.made (greatest (leaf number.0 (source.Text t))) in
    record { number = number; body = source.Text t; made = made; new = new; is = refl; kept = λ place is. text_child_kept names s p i made number t place new is }
leafed names s p i (item.Text number t ∷ x ∷ items) proper has fresh = let e : x ∷ items ≡ [] = fresh.2 in absurd (some_items x items e)
leafed names s p i (item.Comment number t ∷ []) proper has fresh =
    let new : IsNew names s p.0 number.0 i = record { proper = proper; number = fresh.0; parent = has.0; found = has.1; within = has.3 } in
    let made : ℕ = max s.made (greatest (leaf number.0 (source.Comment t))) in
    record { number = number; body = source.Comment t; made = made; new = new; is = refl; kept = λ place is. comment_child_kept names s p i made number t place new is }
leafed names s p i (item.Comment number t ∷ x ∷ items) proper has fresh = let e : x ∷ items ≡ [] = fresh.1 in absurd (some_items x items e)
leafed names s p i (item.Finish ∷ items) proper has fresh = absurd fresh

-- a place of a source, carried through a prim and settled, is one of the source that the prim leaves
pub place_kept : (names : List NameParts) (s : Source) (prim : Primitive) (place : CaretPlace) → IsProper names s → MayType prim s → IsPlaceOf s place →
    IsPlaceOf (applied prim s) (settled (applied prim s) (carried prim place))
place_kept names s (InsertText n from piece) (Text m at) proper may is = insert_text_kept s n from piece (Text m at) may is
place_kept names s (InsertText n from piece) (Into m) proper may is = stays_place (applied (InsertText n from piece) s) (Into m) (insert_text_kept s n from piece (Into m) may is)
place_kept names s (RemoveText n from to) place proper may is = absurd may
place_kept names s (InsertChild p i items) (Text m at) proper may is =
    let l = leafed names s p i items proper may.0 may.1 in
    subst (λ (left : Source). IsPlaceOf left (settled left (Text m at))) (sym l.is) (l.kept (Text m at) is)
place_kept names s (InsertChild p i items) (Into m) proper may is =
    let l = leafed names s p i items proper may.0 may.1 in
    subst (λ (left : Source). IsPlaceOf left (settled left (Into m))) (sym l.is) (l.kept (Into m) is)
place_kept names s (RemoveChild p i) place proper may is = absurd may
place_kept names s (SetAttr e name value) place proper may is = absurd may
place_kept names s (RemoveAttr e name) place proper may is = absurd may
place_kept names s (PutAttr e i name value) place proper may is = absurd may

-- a node that is not there is not there after a prim
gone_after_text : (n : ℕ) (change : List ℕ → List ℕ) (s : Source) (m : ℕ) → spot_of s m ≡ None → spot_of (with_tree s (with_text n change s.tree)) m ≡ None
gone_after_text n change s m gone = spot_in-with_text None n change m s.tree ∙ ap (option_map (text_spot n change m)) gone

gone_after : (names : List NameParts) (s : Source) (prim : Primitive) (m : ℕ) → IsProper names s → MayType prim s → m ≤ s.made → spot_of s m ≡ None → spot_of (applied prim s) m ≡ None
gone_after names s (InsertText n from piece) m proper may made gone = gone_after_text n.0 (inserted from piece) s m gone
gone_after names s (RemoveText n from to) m proper may made gone = absurd may
gone_after names s (InsertChild p i items) m proper may made gone =
    let l = leafed names s p i items proper may.0 may.1 in
    let number = l.new.number in
    ap (λ (left : Source). spot_of left m) l.is
    ∙ spot_in-with_leaf None p.0 m l.number.0 i l.body s.tree (λ e. absurd (omega (arith, made, number, e))) (proper.distinct p.0)
    ∙ ap (option_map (kids_spot p.0 (inserted_at i (leaf l.number.0 l.body)) m)) gone
gone_after names s (RemoveChild p i) m proper may made gone = absurd may
gone_after names s (SetAttr e name value) m proper may made gone = absurd may
gone_after names s (RemoveAttr e name) m proper may made gone = absurd may
gone_after names s (PutAttr e i name value) m proper may made gone = absurd may

-- there or not
there_or : (o : Option Spot) → (is_some o ≡ true) ⊎ (o ≡ None)
there_or None = inr refl
there_or (Some spot) = inl refl

-- the inside of another element begins with no text after a prim
other_start : (names : List NameParts) (s : Source) (prim : Primitive) (m : NodeName) → IsProper names s → MayType prim s → Lasts s (Into m) →
    (IsPlaceOf s (Into m) → IsPlaceOf (applied prim s) (Into m)) → settled (applied prim s) (Into m) ≡ Into m
other_start names s prim m proper may lasts kept = elim (there_or (spot_of s m.0)) [
  | inl there ↦ settled_place (applied prim s) (Into m) (kept (lasts.there there))
  | inr gone ↦ ap (λ o. start_or m (first_in o)) (gone_after names s prim m.0 proper may lasts.made gone)
]

-- an element and the text that it begins with, if it begins with one
abbrev begun_at : NodeName → Option NodeName → List Begun
begun_at p o = cons_option (option_map (λ text. record { element = p; text = text }) o) []

inside_own : (m p : NodeName) (o : Option NodeName) → m.0 ≡ p.0 → inside_since (begun_at p o) m ≡ start_or m o
inside_own m p None e = refl
inside_own m p (Some text) e = if_same m.0 p.0 (Text text 0) (Into m) e

inside_other : (m p : NodeName) (o : Option NodeName) → (m.0 ≡ p.0 → ⊥) → inside_since (begun_at p o) m ≡ Into m
inside_other m p None e = refl
inside_other m p (Some text) e = if_other m.0 p.0 (Text text 0) (Into m) e

inside_moved : (names : List NameParts) (s : Source) (p : NodeName) (i : ℕ) (items : List SubItem) (m : NodeName) → IsProper names s → HasPlace s p.0 i → IsNewLeaf s.made items → s.made < node_limit →
    Lasts s (Into m) → ((m.0 ≡ p.0) ⊎ (m.0 ≡ p.0 → ⊥)) →
    inside_since (begun_at p (text_at_start (applied (InsertChild p i items) s) p.0)) m ≡ settled (applied (InsertChild p i items) s) (Into m)
inside_moved names s p i items m proper has fresh room lasts (inl e) =
    let left : Source = applied (InsertChild p i items) s in
    inside_own m p (text_at_start left p.0) e ∙ ap (λ n. start_or m (text_at_start left n)) (sym e)
inside_moved names s p i items m proper has fresh room lasts (inr e) =
    let left : Source = applied (InsertChild p i items) s in
    let l = leafed names s p i items proper has fresh in
    inside_other m p (text_at_start left p.0) e
    ∙ sym (other_start names s (InsertChild p i items) m proper (has, fresh, room) lasts
    (λ is. subst (λ (other : Source). IsPlaceOf other (Into m)) (sym l.is) (leaf_other names s p.0 l.number.0 i l.body l.made m l.new is (λ f. e (sym f)))))

-- a place is moved to where it stands in what the prim leaves
pub moved_settles : (names : List NameParts) (s : Source) (prim : Primitive) (place : CaretPlace) → IsProper names s → MayType prim s → Lasts s place →
    moved (moves_of (prim ∷ []) (applied prim s)) place ≡ settled (applied prim s) (carried prim place)
moved_settles names s (InsertText n from piece) (Text m at) proper may lasts = refl
moved_settles names s (InsertText n from piece) (Into m) proper may lasts =
    sym (other_start names s (InsertText n from piece) m proper may lasts (λ is. insert_text_kept s n from piece (Into m) may is))
moved_settles names s (RemoveText n from to) place proper may lasts = absurd may
moved_settles names s (InsertChild p i items) (Text m at) proper may lasts = refl
moved_settles names s (InsertChild p i items) (Into m) proper may lasts = inside_moved names s p i items m proper may.0 may.1 may.2 lasts (cases_eq m.0 p.0)
moved_settles names s (RemoveChild p i) place proper may lasts = absurd may
moved_settles names s (SetAttr e name value) place proper may lasts = absurd may
moved_settles names s (RemoveAttr e name) place proper may lasts = absurd may
moved_settles names s (PutAttr e i name value) place proper may lasts = absurd may

-- a new text is what its element begins with
pub begun_new : (names : List NameParts) (s : Source) (p number : NodeName) (t : List ℕ) → IsProper names s → HasPlace s p.0 0 → number.0 ≡ s.made + 1 →
    begun_in (applied (InsertChild p 0 (item.Text number t ∷ [])) s) (p ∷ []) ≡ record { element = p; text = number } ∷ []
begun_new names s p number t proper has e =
    let new : IsNew names s p.0 number.0 0 = record { proper = proper; number = e; parent = has.0; found = has.1; within = has.3 } in
    ap (begun_at p) (own_first names s p.0 number.0 (max s.made (greatest (leaf number.0 (source.Text t)))) t new)

-- a place of a proper source lasts
pub place_lasts : (names : List NameParts) (s : Source) (place : CaretPlace) → IsProper names s → IsPlaceOf s place → Lasts s place
place_lasts names s (Text m at) proper is =
    let found = text_spot_of (spot_of s m.0) is.0 is.1 in
    record { made = found_made names s m.0 found.0 proper found.1; near = place_short s names (Text m at) proper is; there = λ _. is }
place_lasts names s (Into m) proper is = record { made = found_made names s m.0 is.0 proper is.1; near = tt; there = λ _. is }

-- one that is gone stays as it is
abbrev IsGone : Source → CaretPlace → Type 0
IsGone s place = spot_of s (node_of place).0 ≡ None

gone_settled : (s : Source) (m : NodeName) → spot_of s m.0 ≡ None → settled s (Into m) ≡ Into m
gone_settled s m gone = ap (λ o. start_or m (first_in o)) gone

text_there : (s : Source) (n : ℕ) (t : List ℕ) → text_at s n ≡ Some t → spot_of s n ≡ None → ⊥
text_there s n t e gone = none-some t (sym (ap (option_and_then chars_of) gone) ∙ e)

gone_stays : (names : List NameParts) (s : Source) (prim : Primitive) (place : CaretPlace) → IsProper names s → MayType prim s → (node_of place).0 ≤ s.made → IsGone s place →
    settled (applied prim s) (carried prim place) ≡ place
gone_stays names s (InsertText n from piece) (Text m at) proper may made gone =
    ap (Text m) (if_other m.0 n.0 (behind_insertion from (size piece) at) at (λ e. text_there s n.0 may.0 may.1 (ap (spot_of s) (sym e) ∙ gone)))
gone_stays names s (InsertText n from piece) (Into m) proper may made gone =
    gone_settled (applied (InsertText n from piece) s) m (gone_after names s (InsertText n from piece) m.0 proper may made gone)
gone_stays names s (RemoveText n from to) place proper may made gone = absurd may
gone_stays names s (InsertChild p i items) (Text m at) proper may made gone = refl
gone_stays names s (InsertChild p i items) (Into m) proper may made gone =
    gone_settled (applied (InsertChild p i items) s) m (gone_after names s (InsertChild p i items) m.0 proper may made gone)
gone_stays names s (RemoveChild p i) place proper may made gone = absurd may
gone_stays names s (SetAttr e name value) place proper may made gone = absurd may
gone_stays names s (RemoveAttr e name) place proper may made gone = absurd may
gone_stays names s (PutAttr e i name value) place proper may made gone = absurd may

-- numbers that were made stay made
made_grows : (s : Source) (prim : Primitive) → s.made ≤ (applied prim s).made
made_grows s (InsertText n from piece) = omega arith
made_grows s (RemoveText n from to) = omega arith
made_grows s (InsertChild p i items) = omega arith
made_grows s (RemoveChild p i) = omega arith
made_grows s (SetAttr e name value) = omega arith
made_grows s (RemoveAttr e name) = omega arith
made_grows s (PutAttr e i name value) = omega arith

gone_false : (o : Option Spot) → o ≡ None → IsTrue (is_some o) → ⊥
gone_false o gone there = false≢true (ap is_some (sym gone) ∙ there)

-- a place that lasts does so after a prim that keeps the source proper
pub moved_lasts : (names : List NameParts) (s : Source) (prim : Primitive) (place : CaretPlace) → IsProper names s → MayType prim s → KeepsProper names prim s → Lasts s place →
    Lasts (applied prim s) (moved (moves_of (prim ∷ []) (applied prim s)) place)
moved_lasts names s prim place proper may keeps lasts =
    let left : Source = applied prim s in
    let proper_left = proper_kept names s prim proper may keeps in
    let grown = made_grows s prim in
    let made = lasts.made in
    subst (Lasts left) (sym (moved_settles names s prim place proper may lasts)) (elim (there_or (spot_of s (node_of place).0)) [
      | inl there ↦ place_lasts names left (settled left (carried prim place)) proper_left (place_kept names s prim place proper may (lasts.there there))
      | inr gone ↦ subst (Lasts left) (sym (gone_stays names s prim place proper may made gone)) (record {
        made = omega (arith, made, grown);
        near = lasts.near;
        there = λ there. absurd (gone_false (spot_of left (node_of place).0) (gone_after names s prim (node_of place).0 proper may made gone) there);
      })
    ])

-- and stands within the reach of a text on the way
near_settled : (s : Source) (place : CaretPlace) → IsNear (settled s place) → IsNear place
near_settled s (Text m at) near = near
near_settled s (Into m) near = tt

pub carried_near : (names : List NameParts) (s : Source) (prim : Primitive) (place : CaretPlace) → IsProper names s → MayType prim s → KeepsProper names prim s → Lasts s place → IsNear (carried prim place)
carried_near names s prim place proper may keeps lasts =
    near_settled (applied prim s) (carried prim place) (subst IsNear (moved_settles names s prim place proper may lasts) (moved_lasts names s prim place proper may keeps lasts).near)

-- the place behind the characters that were put in
pub behind_piece : (s : Source) (n : NodeName) (from : ℕ) (piece : List ℕ) → HasRoom s n.0 from (size piece) → IsPlaceOf (applied (InsertText n from piece) s) (Text n (from + size piece))
behind_piece s n from piece room = (
  inserted from piece room.0,
  text_at-with_text n.0 n.0 (inserted from piece) s room.0 room.1 ∙ ap Some (if_same n.0 n.0 (inserted from piece room.0) room.0 refl),
  place_behind room.0 piece from room.2,
)

-- and behind those of a new text
pub behind_new : (names : List NameParts) (s : Source) (p number : NodeName) (i : ℕ) (t : List ℕ) → IsProper names s → HasPlace s p.0 i → number.0 ≡ s.made + 1 →
    IsPlaceOf (applied (InsertChild p i (item.Text number t ∷ [])) s) (Text number (size t))
behind_new names s p number i t proper has e =
    let new : IsNew names s p.0 number.0 i = record { proper = proper; number = e; parent = has.0; found = has.1; within = has.3 } in
    (t, new_text names s p.0 i (max s.made (greatest (leaf number.0 (source.Text t)))) number t new, place_end t)

pub ruleset all = place_kept
