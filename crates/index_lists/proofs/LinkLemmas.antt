-- What sound links say of the side that they make.
use Rattle.std.proofs.Common.{◌≡◌, ℕ, zero, suc, ◌<◌, ◌≤◌, List, [], ◌∷◌, ◌++◌, map, length, get_or, take, replicate, Option, Some, None, inl, inr, refl, sym, ap, ◌∙◌, subst, le_of_eq, length-append, take_all, arith}
use Rattle.std.specs.Prelude.{IsSome, IfSome}
use Rattle.std.proofs.lemmas.Bool.{cases_eq, cases_lt, eq-eqb, ne_eqb}
use Rattle.std.proofs.lemmas.List.{get_or_past, get_or_read, length-map}
use Rattle.index_lists.specs.declared.links.Link.{Link}
use Rattle.index_lists.specs.declared.links.Ends.{Ends}
use Rattle.index_lists.specs.declared.links.Links.{Links}
use Rattle.index_lists.specs.Lists.{times, without, first_of, place_after}
use Rattle.index_lists.specs.Side.{Side, list_at, owner_at, IsSound, Appends, TakesOut, Extends}
use Rattle.index_lists.specs.Rings.{Spot, edge, inner, spot, walk, SetsAt, IsOnRing, Leads, IsLinked}
use Rattle.index_lists.specs.Links.{unlinked, no_ends, link_at, ends_at, owner_of, place_count, list_count, after_at, before_at, places_from, side_of, IsChained, IsCounted, SetsOwner}
use Rattle.index_lists.proofs.Times.{times_there}
use Rattle.index_lists.proofs.RingLemmas.{due, once_own, own_within, next_on, last_of, before_of, linked_walk}
use Rattle.index_lists.proofs.RingChanges.{put, put_same, put_other, linked_as, linked_push, linked_without, linked_more}

get_or-map_at : {A B : Type 0} (h : A → B) (xs : List A) (i : ℕ) (d : A) → get_or (map h xs) i (h d) ≡ h (get_or xs i d)
get_or-map_at h [] i d = refl
get_or-map_at h (x ∷ xs) zero d = refl
get_or-map_at h (x ∷ xs) (suc i) d = get_or-map_at h xs i d

walk_none : (next : ℕ → Option ℕ) (n : ℕ) → walk next n None ≡ []
walk_none next zero = refl
walk_none next (suc n) = refl

pub owner_at-side_of : (k : Links) (p : ℕ) → owner_at (side_of k) p ≡ owner_of k p
owner_at-side_of k p = get_or-map_at (λ (link : Link). link.list) k.places.items p unlinked

-- a place that a list owns is one of the places
pub owned_within : (k : Links) (p l : ℕ) → owner_of k p ≡ Some l → p < place_count k
owned_within k p l own = elim (cases_lt p (place_count k)) [
  | inl within ↦ within
  | inr past ↦ absurd (let bad : None ≡ Some l = sym (ap (λ (link : Link). link.list) (get_or_past k.places.items p unlinked past)) ∙ own in cc)
]

list_at-side_of : (k : Links) (l : ℕ) → list_at (side_of k) l ≡ walk (λ p. (link_at k p).after) (place_count k) (ends_at k l).first
list_at-side_of k l =
    let w : Ends → List ℕ = places_from k in
    subst (λ d. get_or (map w k.ends.items) l d ≡ w (ends_at k l)) (walk_none (λ p. (link_at k p).after) (place_count k)) (get_or-map_at w k.ends.items l no_ends)

-- where the links soundly say some lists, the side has these lists
pub lists_of_side : (k : Links) (xs : ℕ → List ℕ) → IsLinked (after_at k) (before_at k) (owner_of k) xs (list_count k) → (l : ℕ) → list_at (side_of k) l ≡ xs l
lists_of_side k xs sound l = elim (cases_lt l (list_count k)) [
  | inl within ↦
      list_at-side_of k l
      ∙ linked_walk (after_at k) (before_at k) (owner_of k) xs (list_count k) sound (place_count k) (owned_within k) l within
  | inr past ↦
      let w : Ends → List ℕ = places_from k in
      get_or_past (map w k.ends.items) l [] (subst (λ n. n ≤ l) (sym (length-map k.ends.items w)) past) ∙ sym (sound.past l past)
]

pub chained : (k : Links) (xs : ℕ → List ℕ) → IsLinked (after_at k) (before_at k) (owner_of k) xs (list_count k) → IsChained k
chained k xs sound =
    linked_as (after_at k) (before_at k) (owner_of k) xs (λ l. list_at (side_of k) l) (list_count k) sound (lists_of_side k xs sound)

pub sound_side : (k : Links) → IsChained k → IsSound (side_of k)
sound_side k sound = record { once = λ l p. sound.once l p ∙ ap (λ w. due w l) (sym (owner_at-side_of k p)) }

-- ---- what is first and what is next

leads_first : (f : Spot → Option ℕ) (l : ℕ) (x : Option ℕ) (ps : List ℕ) → Leads f l x ps → f (spot l x) ≡ first_of ps
leads_first f l x [] h = h
leads_first f l x (p ∷ ps) h = h.0

leads_after : (f : Spot → Option ℕ) (l p : ℕ) (x : Option ℕ) (ps : List ℕ) → times p ps ≡ 1 → Leads f l x ps → f (inner p) ≡ place_after p ps
leads_after f l p x [] one h = absurd (omega (arith, one))
leads_after f l p x (q ∷ ps) one h = elim (cases_eq q p) [
  | inl e ↦ subst (λ r. f (inner r) ≡ place_after r (q ∷ ps)) e (rw (eq-eqb q q refl) (leads_first f l (Some q) ps h.1))
  | inr ne ↦ rw (ne_eqb q p ne) (leads_after f l p (Some q) ps (sym (times_there p q ps ne) ∙ one) h.1)
]

pub first-is : (k : Links) (l : ℕ) → IsChained k → l < list_count k → (ends_at k l).first ≡ first_of (list_at (side_of k) l)
first-is k l sound within = leads_first (after_at k) l None (list_at (side_of k) l) (sound.leads l within)

pub first-on : (k : Links) (l p : ℕ) → IsChained k → l < list_count k → (ends_at k l).first ≡ Some p → owner_of k p ≡ Some l
first-on k l p sound within e =
    subst (λ y. IsOnRing (owner_of k) l y) e (next_on (after_at k) (before_at k) (owner_of k) (λ l. list_at (side_of k) l) (list_count k) sound l within None tt)

pub next-is : (k : Links) (l p : ℕ) → IsChained k → owner_of k p ≡ Some l → (link_at k p).after ≡ place_after p (list_at (side_of k) l)
next-is k l p sound own =
    let xs : ℕ → List ℕ = λ l. list_at (side_of k) l in
    leads_after (after_at k) l p None (xs l)
    (once_own (after_at k) (before_at k) (owner_of k) xs (list_count k) sound l p own)
    (sound.leads l (own_within (after_at k) (before_at k) (owner_of k) xs (list_count k) sound l p own))

pub next-on : (k : Links) (l p q : ℕ) → IsChained k → owner_of k p ≡ Some l → (link_at k p).after ≡ Some q → owner_of k q ≡ Some l
next-on k l p q sound own e =
    let xs : ℕ → List ℕ = λ l. list_at (side_of k) l in
    let within : l < list_count k = own_within (after_at k) (before_at k) (owner_of k) xs (list_count k) sound l p own in
    subst (λ y. IsOnRing (owner_of k) l y) e (next_on (after_at k) (before_at k) (owner_of k) xs (list_count k) sound l within (Some p) own)

if_some : (y : Option ℕ) (P : ℕ → Type 0) → ((p : ℕ) → y ≡ Some p → P p) → IfSome y P
if_some None P h = tt
if_some (Some p) P h = h p refl

pub first-owner : (k : Links) (l : ℕ) → IsChained k → l < list_count k → IfSome (ends_at k l).first (λ p. owner_at (side_of k) p ≡ Some l)
first-owner k l sound within =
    if_some (ends_at k l).first (λ p. owner_at (side_of k) p ≡ Some l) (λ p e. owner_at-side_of k p ∙ first-on k l p sound within e)

pub next-owner : (k : Links) (l p : ℕ) → IsChained k → owner_of k p ≡ Some l → IfSome (link_at k p).after (λ q. owner_at (side_of k) q ≡ owner_at (side_of k) p)
next-owner k l p sound own =
    if_some (link_at k p).after (λ q. owner_at (side_of k) q ≡ owner_at (side_of k) p)
    (λ q e. owner_at-side_of k q ∙ next-on k l p q sound own e ∙ sym own ∙ sym (owner_at-side_of k p))

-- what a read of a link or of two ends gives
pub link_read : (k : Links) (p : ℕ) (x : Link) → p < place_count k → x ≡ get_or k.places.items p x → x ≡ link_at k p
link_read k p x within e = get_or_read k.places.items p x within e unlinked

pub ends_read : (k : Links) (l : ℕ) (x : Ends) → l < list_count k → x ≡ get_or k.ends.items l x → x ≡ ends_at k l
ends_read k l x within e = get_or_read k.ends.items l x within e no_ends

-- ---- a place at the end of a list

pub last_within : (k : Links) (l p : ℕ) → IsChained k → l < list_count k → (ends_at k l).last ≡ Some p → p < place_count k
last_within k l p sound within e =
    let last : IsOnRing (owner_of k) l (ends_at k l).last × (after_at k (spot l (ends_at k l).last) ≡ None) =
    last_of (after_at k) (before_at k) (owner_of k) (λ l. list_at (side_of k) l) (list_count k) sound l within in
    owned_within k p l (subst (λ y. IsOnRing (owner_of k) l y) e last.0)

-- where a join leaves the links
pub record Joins (old new : Links) (l : ℕ) (before after : Option ℕ) : Type 0 where
  pub forward : SetsAt (after_at old) (after_at new) (spot l before) after
  pub back : SetsAt (before_at old) (before_at new) (spot l after) before
  pub owners : (p : ℕ) → owner_of new p ≡ owner_of old p
  pub place_count : place_count new ≡ place_count old
  pub list_count : list_count new ≡ list_count old

-- what is joined, and what owns a place, may be written otherwise
pub joins_as : (k k' : Links) (l : ℕ) (b a b' a' : Option ℕ) → b ≡ b' → a ≡ a' → Joins k k' l b a → Joins k k' l b' a'
joins_as k k' l b a b' a' eb ea joins = subst (λ x. Joins k k' l b' x) ea (subst (λ x. Joins k k' l x a) eb joins)

pub owner_as : (k k' : Links) (p : ℕ) (o o' : Option ℕ) → o ≡ o' → SetsOwner k k' p o → SetsOwner k k' p o'
owner_as k k' p o o' e owns = subst (λ x. SetsOwner k k' p x) e owns

sets_as : (f g h : Spot → Option ℕ) (s : Spot) (v : Option ℕ) → SetsAt f g s v → ((t : Spot) → h t ≡ g t) → SetsAt f h s v
sets_as f g h s v set same = record { at = same s ∙ set.at; others = λ t ne. same t ∙ set.others t ne }

side_counts : (k : Links) → (length (side_of k).owners ≡ place_count k) × (length (side_of k).lists ≡ list_count k)
side_counts k = (length-map k.places.items (λ (link : Link). link.list), length-map k.ends.items (places_from k))

-- the links after a push
pub record Pushed (k k' : Links) (l p : ℕ) : Type 0 where
  pub chained : IsChained k'
  pub appends : Appends (side_of k) (side_of k') l p
  pub place_count : place_count k' ≡ place_count k
  pub list_count : list_count k' ≡ list_count k

module _ (k k1 k2 k3 : Links) (l p : ℕ) (sound : IsChained k) (within : l < list_count k) (free : owner_at (side_of k) p ≡ None)
    (first : Joins k k1 l (ends_at k l).last (Some p)) (second : Joins k1 k2 l (Some p) None) (owned : SetsOwner k2 k3 p (Some l)) where
  pushed_counts : (place_count k3 ≡ place_count k) × (list_count k3 ≡ list_count k)
  pushed_counts = (owned.place_count ∙ second.place_count ∙ first.place_count, owned.list_count ∙ second.list_count ∙ first.list_count)

  pushed_others : (q : ℕ) → (q ≡ p → ⊥) → owner_of k3 q ≡ owner_of k q
  pushed_others q ne = owned.other_owners q ne ∙ second.owners q ∙ first.owners q

  pushed_lists : ℕ → List ℕ
  pushed_lists = put (λ l. list_at (side_of k) l) l (list_at (side_of k) l ++ p ∷ [])

  pushed_linked : IsLinked (after_at k3) (before_at k3) (owner_of k3) pushed_lists (list_count k3)
  unfolding pushed_lists
  pushed_linked = subst (λ n. IsLinked (after_at k3) (before_at k3) (owner_of k3) (put (λ l. list_at (side_of k) l) l (list_at (side_of k) l ++ p ∷ [])) n) (sym pushed_counts.1)
      (linked_push (after_at k) (before_at k) (owner_of k) (λ l. list_at (side_of k) l) (list_count k) sound l p within
      (sym (owner_at-side_of k p) ∙ free)
      (after_at k1) (before_at k1) (after_at k3) (before_at k3) (owner_of k3)
      first.forward (sets_as (after_at k1) (after_at k2) (after_at k3) (inner p) None second.forward owned.forward)
      first.back (sets_as (before_at k1) (before_at k2) (before_at k3) (edge l) (Some p) second.back owned.back)
      owned.owner pushed_others)

  pushed_chained : IsChained k3
  pushed_chained = chained k3 pushed_lists pushed_linked

  pushed_appends : Appends (side_of k) (side_of k3) l p
  unfolding pushed_lists
  pushed_appends = record {
    end = lists_of_side k3 pushed_lists pushed_linked l ∙ put_same (λ l. list_at (side_of k) l) l (list_at (side_of k) l ++ p ∷ []);
    other_lists = λ m ne. lists_of_side k3 pushed_lists pushed_linked m ∙ put_other (λ l. list_at (side_of k) l) l (list_at (side_of k) l ++ p ∷ []) m ne;
    owner = owner_at-side_of k3 p ∙ owned.owner;
    other_owners = λ q ne. owner_at-side_of k3 q ∙ pushed_others q ne ∙ sym (owner_at-side_of k q);
    place_count = (side_counts k3).0 ∙ pushed_counts.0 ∙ sym (side_counts k).0;
    list_count = (side_counts k3).1 ∙ pushed_counts.1 ∙ sym (side_counts k).1;
  }

  pub pushed : Pushed k k3 l p
  pushed = record { chained = pushed_chained; appends = pushed_appends; place_count = pushed_counts.0; list_count = pushed_counts.1 }

-- ---- a place taken out

pub own_list : (k : Links) (l p : ℕ) → IsChained k → owner_of k p ≡ Some l → l < list_count k
own_list k l p sound own = own_within (after_at k) (before_at k) (owner_of k) (λ l. list_at (side_of k) l) (list_count k) sound l p own

pub before_within : (k : Links) (l p q : ℕ) → IsChained k → owner_of k p ≡ Some l → (link_at k p).before ≡ Some q → q < place_count k
before_within k l p q sound own e =
    owned_within k q l (subst (λ y. IsOnRing (owner_of k) l y) e
    (before_of (after_at k) (before_at k) (owner_of k) (λ l. list_at (side_of k) l) (list_count k) sound l p own).0)

pub after_within : (k : Links) (l p q : ℕ) → IsChained k → owner_of k p ≡ Some l → (link_at k p).after ≡ Some q → q < place_count k
after_within k l p q sound own e = owned_within k q l (next-on k l p q sound own e)

-- the links after a place was taken out
pub record TakenOut (k k' : Links) (l p : ℕ) : Type 0 where
  pub chained : IsChained k'
  pub takes_out : TakesOut (side_of k) (side_of k') l p
  pub place_count : place_count k' ≡ place_count k
  pub list_count : list_count k' ≡ list_count k

module _ (k k1 k2 : Links) (l p : ℕ) (sound : IsChained k) (own : owner_of k p ≡ Some l)
    (joined : Joins k k1 l (link_at k p).before (link_at k p).after) (freed : SetsOwner k1 k2 p None) where
  out_counts : (place_count k2 ≡ place_count k) × (list_count k2 ≡ list_count k)
  out_counts = (freed.place_count ∙ joined.place_count, freed.list_count ∙ joined.list_count)

  out_others : (q : ℕ) → (q ≡ p → ⊥) → owner_of k2 q ≡ owner_of k q
  out_others q ne = freed.other_owners q ne ∙ joined.owners q

  out_lists : ℕ → List ℕ
  out_lists = put (λ l. list_at (side_of k) l) l (without p (list_at (side_of k) l))

  out_linked : IsLinked (after_at k2) (before_at k2) (owner_of k2) out_lists (list_count k2)
  unfolding out_lists
  out_linked = subst (λ n. IsLinked (after_at k2) (before_at k2) (owner_of k2) (put (λ l. list_at (side_of k) l) l (without p (list_at (side_of k) l))) n) (sym out_counts.1)
      (linked_without (after_at k) (before_at k) (owner_of k) (λ l. list_at (side_of k) l) (list_count k) sound l p own
      (after_at k1) (before_at k1) (after_at k2) (before_at k2) (owner_of k2)
      joined.forward (λ t ne. freed.forward t) joined.back (λ t ne. freed.back t) freed.owner out_others)

  out_chained : IsChained k2
  out_chained = chained k2 out_lists out_linked

  out_takes : TakesOut (side_of k) (side_of k2) l p
  unfolding out_lists
  out_takes = record {
    rest = lists_of_side k2 out_lists out_linked l ∙ put_same (λ l. list_at (side_of k) l) l (without p (list_at (side_of k) l));
    other_lists = λ m ne. lists_of_side k2 out_lists out_linked m ∙ put_other (λ l. list_at (side_of k) l) l (without p (list_at (side_of k) l)) m ne;
    owner = owner_at-side_of k2 p ∙ freed.owner;
    other_owners = λ q ne. owner_at-side_of k2 q ∙ out_others q ne ∙ sym (owner_at-side_of k q);
    place_count = (side_counts k2).0 ∙ out_counts.0 ∙ sym (side_counts k).0;
    list_count = (side_counts k2).1 ∙ out_counts.1 ∙ sym (side_counts k).1;
  }

  pub taken_out : TakenOut k k2 l p
  taken_out = record { chained = out_chained; takes_out = out_takes; place_count = out_counts.0; list_count = out_counts.1 }

-- ---- more places and more lists

at_replicated : {A : Type 0} (m i : ℕ) (d : A) → get_or (replicate m d) i d ≡ d
at_replicated zero i d = refl
at_replicated (suc m) zero d = refl
at_replicated (suc m) (suc i) d = at_replicated m i d

at_padded : {A : Type 0} (xs : List A) (m i : ℕ) (d : A) → get_or (xs ++ replicate m d) i d ≡ get_or xs i d
at_padded [] m i d = at_replicated m i d
at_padded (x ∷ xs) m zero d = refl
at_padded (x ∷ xs) m (suc i) d = at_padded xs m i d

-- a list that was filled up has the same elements
pub at_resized : {A : Type 0} (xs : List A) (n m i : ℕ) (d : A) → length xs ≤ n → get_or (take n xs ++ replicate m d) i d ≡ get_or xs i d
at_resized xs n m i d fits = ap (λ ys. get_or (ys ++ replicate m d) i d) (take_all n xs fits) ∙ at_padded xs m i d

module _ (k k' : Links) (sound : IsChained k)
    (same_links : (p : ℕ) → link_at k' p ≡ link_at k p) (same_ends : (l : ℕ) → ends_at k' l ≡ ends_at k l)
    (more_places : place_count k ≤ place_count k') (more_lists : list_count k ≤ list_count k') where
  same_after : (t : Spot) → after_at k' t ≡ after_at k t
  same_after (edge l) = ap (λ (e : Ends). e.first) (same_ends l)
  same_after (inner p) = ap (λ (link : Link). link.after) (same_links p)

  same_before : (t : Spot) → before_at k' t ≡ before_at k t
  same_before (edge l) = ap (λ (e : Ends). e.last) (same_ends l)
  same_before (inner p) = ap (λ (link : Link). link.before) (same_links p)

  grown_linked : IsLinked (after_at k') (before_at k') (owner_of k') (λ l. list_at (side_of k) l) (list_count k')
  grown_linked = linked_more (after_at k) (before_at k) (owner_of k) (λ l. list_at (side_of k) l) (list_count k) sound
      (after_at k') (before_at k') (owner_of k') (list_count k') more_lists
      same_after same_before (λ p. ap (λ (link : Link). link.list) (same_links p))
      (λ l past. ap (λ (e : Ends). e.first) (get_or_past k.ends.items l no_ends past))
      (λ l past. ap (λ (e : Ends). e.last) (get_or_past k.ends.items l no_ends past))

  pub grown_chained : IsChained k'
  grown_chained = chained k' (λ l. list_at (side_of k) l) grown_linked

  pub grown_extends : Extends (side_of k) (side_of k')
  grown_extends = record {
    lists = λ l. lists_of_side k' (λ l. list_at (side_of k) l) grown_linked l;
    owners = λ p. owner_at-side_of k' p ∙ ap (λ (link : Link). link.list) (same_links p) ∙ sym (owner_at-side_of k p);
    place_count = rw ((side_counts k).0, (side_counts k').0) more_places;
    list_count = rw ((side_counts k).1, (side_counts k').1) more_lists;
  }

-- ---- the numbers fit where they did

pub counted_as : (k k' : Links) → place_count k' ≡ place_count k → list_count k' ≡ list_count k → IsCounted k → IsCounted k'
counted_as k k' places lists counted = (rw places counted.0, rw lists counted.1)

-- ---- from a value to the links that make it

pub list_within : (k : Links) (s : Side) (l : ℕ) → side_of k ≡ s → l < length s.lists → l < list_count k
list_within k s l is within = subst (λ n. l < n) (side_counts k).1 (subst (λ (t : Side). l < length t.lists) (sym is) within)

pub place_within : (k : Links) (s : Side) (p : ℕ) → side_of k ≡ s → p < length s.owners → p < place_count k
place_within k s p is within = subst (λ n. p < n) (side_counts k).0 (subst (λ (t : Side). p < length t.owners) (sym is) within)

pub owner_within : (k : Links) (s : Side) (p : ℕ) (o : Option ℕ) → side_of k ≡ s → owner_at s p ≡ o → owner_of k p ≡ o
owner_within k s p o is own = sym (owner_at-side_of k p) ∙ subst (λ (t : Side). owner_at t p ≡ o) (sym is) own

some_of : (o : Option ℕ) → IsSome o → (l : ℕ) × (o ≡ Some l)
some_of None h = absurd (cc)
some_of (Some l) h = (l, refl)

-- the list that owns a place with an owner
pub owner_some : (k : Links) (s : Side) (p : ℕ) → side_of k ≡ s → IsSome (owner_at s p) → (l : ℕ) × (owner_of k p ≡ Some l)
owner_some k s p is h =
    let own : (l : ℕ) × (owner_at s p ≡ Some l) = some_of (owner_at s p) h in
    (own.0, owner_within k s p (Some own.0) is own.1)

pub next-in_list : (k : Links) (p : ℕ) → IsChained k → IfSome (owner_at (side_of k) p) (λ l. (link_at k p).after ≡ place_after p (list_at (side_of k) l))
next-in_list k p sound =
    if_some (owner_at (side_of k) p) (λ l. (link_at k p).after ≡ place_after p (list_at (side_of k) l))
    (λ l e. next-is k l p sound (sym (owner_at-side_of k p) ∙ e))

-- ---- what a resize leaves

-- each old link stays, and new ones are those of places in no list and of empty lists
pub record SameLinks (k k' : Links) : Type 0 where
  pub links : (p : ℕ) → link_at k' p ≡ link_at k p
  pub ends : (l : ℕ) → ends_at k' l ≡ ends_at k l
  pub place_count : place_count k ≤ place_count k'
  pub list_count : list_count k ≤ list_count k'

pub same_chained : (k k' : Links) → IsChained k → SameLinks k k' → IsChained k'
same_chained k k' sound same = grown_chained k k' sound same.links same.ends same.place_count same.list_count

pub same_extends : (k k' : Links) → IsChained k → SameLinks k k' → Extends (side_of k) (side_of k')
same_extends k k' sound same = grown_extends k k' sound same.links same.ends same.place_count same.list_count

pub same_sound : (k k' : Links) → IsChained k → SameLinks k k' → IsSound (side_of k')
same_sound k k' sound same = sound_side k' (same_chained k k' sound same)

length_resized : {A : Type 0} (xs : List A) (n m : ℕ) (d : A) → length xs ≤ n → length xs ≤ length (take n xs ++ replicate m d)
length_resized xs n m d fits =
    rw (take_all n xs fits, length-append xs (replicate m d)) (omega arith)

pub places_kept : (k k' : Links) → k'.ends.items ≡ k.ends.items → k'.places.items ≡ k.places.items → SameLinks k k'
places_kept k k' ends places = record {
  links = λ p. ap (λ xs. get_or xs p unlinked) places;
  ends = λ l. ap (λ xs. get_or xs l no_ends) ends;
  place_count = le_of_eq (ap length (sym places));
  list_count = le_of_eq (ap length (sym ends));
}

pub places_resized : (k k' : Links) (n m : ℕ) (x : Link) → k'.ends.items ≡ k.ends.items → k'.places.items ≡ take n k.places.items ++ replicate m x → x ≡ unlinked → place_count k ≤ n → SameLinks k k'
places_resized k k' n m x ends resized none fits = let places : k'.places.items ≡ take n k.places.items ++ replicate m unlinked = subst (λ y. k'.places.items ≡ take n k.places.items ++ replicate m y) none resized in record {
  links = λ p. ap (λ xs. get_or xs p unlinked) places ∙ at_resized k.places.items n m p unlinked fits;
  ends = λ l. ap (λ xs. get_or xs l no_ends) ends;
  place_count = subst (λ xs. place_count k ≤ length xs) (sym places) (length_resized k.places.items n m unlinked fits);
  list_count = le_of_eq (ap length (sym ends));
}

pub ends_resized : (k k' : Links) (n m : ℕ) (x : Ends) → k'.places.items ≡ k.places.items → k'.ends.items ≡ take n k.ends.items ++ replicate m x → x ≡ no_ends → list_count k ≤ n → SameLinks k k'
ends_resized k k' n m x places resized none fits = let ends : k'.ends.items ≡ take n k.ends.items ++ replicate m no_ends = subst (λ y. k'.ends.items ≡ take n k.ends.items ++ replicate m y) none resized in record {
  links = λ p. ap (λ xs. get_or xs p unlinked) places;
  ends = λ l. ap (λ xs. get_or xs l no_ends) ends ∙ at_resized k.ends.items n m l no_ends fits;
  place_count = le_of_eq (ap length (sym places));
  list_count = subst (λ xs. list_count k ≤ length xs) (sym ends) (length_resized k.ends.items n m no_ends fits);
}
