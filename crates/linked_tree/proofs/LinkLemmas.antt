-- What sound links say of the forest that they make, and that they stay sound.
use Rattle.std.proofs.Common.{◌≡◌, ◌≢◌, ℕ, zero, suc, ◌<◌, ◌≤◌, ◌^◌, List, [], ◌∷◌, map, length, get_or, Option, Some, None, ◌⊎◌, inl, inr, refl, sym, ap, ◌∙◌, subst, arith}
use Rattle.std.specs.Option.{ForSome}
use Rattle.std.proofs.lemmas.Bool.{cases_eq, cases_lt, eq-eqb, ne_eqb}
use Rattle.std.proofs.lemmas.List.{get_or_past, get_or_read, length-map}
use Rattle.index_lists.specs.Lists.{times, without, first_of, place_after}
use Rattle.index_lists.specs.Rings.{Spot, edge, inner, spot, walk, SetsAt, IsOnRing, Leads, IsLinked}
use Rattle.index_lists.proofs.Times.{times_there}
use Rattle.index_lists.proofs.RingLemmas.{due, once_own, own_within, next_on, last_of as last_of_ring, before_of, linked_walk}
use Rattle.index_lists.proofs.RingChanges.{put, put_same, put_other, linked_as, linked_without}
use Rattle.linked_tree.specs.declared.links.Links.{Links}
use Rattle.linked_tree.specs.declared.links.Nodes.{Nodes}
use Rattle.linked_tree.specs.Forest.{Node, alone, count, parent_of, kids_of, climb, above, IsForest, IsSameBut, last_of}
use Rattle.linked_tree.specs.Links.{no_links, node_count, links_at, parent_in, after_in, before_in, node_in, forest_of, IsSound, behind, Joins, SetsParent}
use Rattle.linked_tree.proofs.Insertion.{linked_behind}
use Rattle.linked_tree.proofs.Climbs.{climb_same, no_ring_linked, no_ring_unlinked}

-- ---- from links to the forest

get_or-map_at : {A B : Type 0} (h : A → B) (xs : List A) (i : ℕ) (d : A) → get_or (map h xs) i (h d) ≡ h (get_or xs i d)
get_or-map_at h [] i d = refl
get_or-map_at h (x ∷ xs) zero d = refl
get_or-map_at h (x ∷ xs) (suc i) d = get_or-map_at h xs i d

walk_none : (next : ℕ → Option ℕ) (n : ℕ) → walk next n None ≡ []
walk_none next zero = refl
walk_none next (suc n) = refl

node_at : (k : Nodes) (n : ℕ) → get_or (forest_of k) n alone ≡ node_in k (links_at k n)
node_at k n =
    let none : node_in k no_links ≡ alone = ap (λ (kids : List ℕ). record { parent = None; kids = kids }) (walk_none (λ m. (links_at k m).next) (node_count k)) in
    subst (λ d. get_or (forest_of k) n d ≡ node_in k (links_at k n)) none (get_or-map_at (node_in k) k.links.items n no_links)

pub parent_of-forest_of : (k : Nodes) (n : ℕ) → parent_of (forest_of k) n ≡ parent_in k n
parent_of-forest_of k n = ap (λ (m : Node). m.parent) (node_at k n)

kids_of-forest_of : (k : Nodes) (n : ℕ) → kids_of (forest_of k) n ≡ walk (λ m. (links_at k m).next) (node_count k) (links_at k n).first
kids_of-forest_of k n = ap (λ (m : Node). m.kids) (node_at k n)

pub length-forest_of : (k : Nodes) → count (forest_of k) ≡ node_count k
length-forest_of k = length-map k.links.items (node_in k)

-- a child is one of the nodes
pub child_within : (k : Nodes) (n p : ℕ) → parent_in k n ≡ Some p → n < node_count k
child_within k n p own = elim (cases_lt n (node_count k)) [
  | inl within ↦ within
  | inr past ↦ absurd (let bad : None ≡ Some p = sym (ap (λ (links : Links). links.parent) (get_or_past k.links.items n no_links past)) ∙ own in cc)
]

-- where the links soundly say some lists of children, the forest has these
pub kids_said : (k : Nodes) (xs : ℕ → List ℕ) → IsLinked (after_in k) (before_in k) (parent_in k) xs (node_count k) → (n : ℕ) → kids_of (forest_of k) n ≡ xs n
kids_said k xs sound n = elim (cases_lt n (node_count k)) [
  | inl within ↦
      kids_of-forest_of k n
      ∙ linked_walk (after_in k) (before_in k) (parent_in k) xs (node_count k) sound (node_count k) (child_within k) n within
  | inr past ↦
      ap (λ (m : Node). m.kids) (get_or_past (forest_of k) n alone (subst (λ c. c ≤ n) (sym (length-forest_of k)) past)) ∙ sym (sound.past n past)
]

pub forest_climb : (k : Nodes) (m : ℕ) (x : Option ℕ) → climb (parent_of (forest_of k)) m x ≡ climb (parent_in k) m x
forest_climb k m x = climb_same (parent_in k) (parent_of (forest_of k)) (parent_of-forest_of k) m x

pub sound_with : (k : Nodes) (xs : ℕ → List ℕ) → IsLinked (after_in k) (before_in k) (parent_in k) xs (node_count k) → ((n m : ℕ) → climb (parent_in k) (suc m) (Some n) ≢ Some n) → node_count k < 2 ^ 32 → IsSound k
sound_with k xs linked no_ring few = record {
  linked = linked_as (after_in k) (before_in k) (parent_in k) xs (λ l. kids_of (forest_of k) l) (node_count k) linked (kids_said k xs linked);
  no_ring = no_ring;
  few = few;
}

pub sound_forest : (k : Nodes) → IsSound k → IsForest (forest_of k)
sound_forest k sound = record {
  once = λ l p. sound.linked.once l p ∙ ap (λ w. due w l) (sym (parent_of-forest_of k p));
  no_ring = λ n m e. sound.no_ring n m (sym (forest_climb k (suc m) (Some n)) ∙ e);
  few = subst (λ c. c < 2 ^ 32) (sym (length-forest_of k)) sound.few;
}

-- ---- from a value to the links that make it

module _ (k : Nodes) (t : List Node) (is : forest_of k ≡ t) where
  pub made_within : (n : ℕ) → n < count t → n < node_count k
  made_within n made = subst (λ c. n < c) (ap length (sym is) ∙ length-forest_of k) made

  pub parent_is : (n : ℕ) (y : Option ℕ) → parent_of t n ≡ y → parent_in k n ≡ y
  parent_is n y e = sym (parent_of-forest_of k n) ∙ ap (λ (s : List Node). parent_of s n) is ∙ e

  pub apart_is : (p l : ℕ) → ((i : ℕ) → above t i l ≢ Some p) → (i : ℕ) → climb (parent_in k) i (Some l) ≢ Some p
  apart_is p l apart i e = apart i (ap (λ (s : List Node). above s i l) (sym is) ∙ forest_climb k i (Some l) ∙ e)

-- ---- what is first, last and next

leads_first : (f : Spot → Option ℕ) (l : ℕ) (x : Option ℕ) (ps : List ℕ) → Leads f l x ps → f (spot l x) ≡ first_of ps
leads_first f l x [] h = h
leads_first f l x (p ∷ ps) h = h.0

leads_after : (f : Spot → Option ℕ) (l p : ℕ) (x : Option ℕ) (ps : List ℕ) → times p ps ≡ 1 → Leads f l x ps → f (inner p) ≡ place_after p ps
leads_after f l p x [] one h = absurd (omega (arith, one))
leads_after f l p x (q ∷ ps) one h = elim (cases_eq q p) [
  | inl e ↦ subst (λ r. f (inner r) ≡ place_after r (q ∷ ps)) e (rw (eq-eqb q q refl) (leads_first f l (Some q) ps h.1))
  | inr ne ↦ rw (ne_eqb q p ne) (leads_after f l p (Some q) ps (sym (times_there p q ps ne) ∙ one) h.1)
]

-- a spot from which nothing leads on is the end of the list
leads_last : (f : Spot → Option ℕ) (l q : ℕ) (x : Option ℕ) (ps : List ℕ) → 1 ≤ times q ps → f (inner q) ≡ None → Leads f l x ps → last_of ps ≡ Some q
leads_last f l q x [] some end h = absurd (omega (arith, some))
leads_last f l q x (p ∷ []) some end h = elim (cases_eq p q) [
  | inl e ↦ ap Some e
  | inr ne ↦ absurd (let none : times q (p ∷ []) ≡ 0 = times_there q p [] ne in omega (arith, some, none))
]
leads_last f l q x (p ∷ (r ∷ ps)) some end h = elim (cases_eq p q) [
  | inl e ↦ absurd (let bad : None ≡ Some r = sym end ∙ ap (λ s. f (inner s)) (sym e) ∙ h.1.0 in cc)
  | inr ne ↦ leads_last f l q (Some p) (r ∷ ps) (subst (λ c. 1 ≤ c) (times_there q p (r ∷ ps) ne) some) end h.1
]

some_or_none : (y : Option ℕ) → (y ≡ None) ⊎ ((q : ℕ) × (y ≡ Some q))
some_or_none None = inl refl
some_or_none (Some q) = inr (q, refl)

module _ (k : Nodes) (sound : IsSound k) where
  pub first_is : (l : ℕ) → l < node_count k → (links_at k l).first ≡ first_of (kids_of (forest_of k) l)
  first_is l within = leads_first (after_in k) l None (kids_of (forest_of k) l) (sound.linked.leads l within)

  -- what stands behind a spot is a child of the same node
  pub after_on : (l : ℕ) (x : Option ℕ) (q : ℕ) → l < node_count k → IsOnRing (parent_in k) l x → after_in k (spot l x) ≡ Some q → parent_in k q ≡ Some l
  after_on l x q within on e =
      subst (λ y. IsOnRing (parent_in k) l y) e (next_on (after_in k) (before_in k) (parent_in k) (λ m. kids_of (forest_of k) m) (node_count k) sound.linked l within x on)

  pub parent_within : (n l : ℕ) → parent_in k n ≡ Some l → l < node_count k
  parent_within n l own = own_within (after_in k) (before_in k) (parent_in k) (λ m. kids_of (forest_of k) m) (node_count k) sound.linked l n own

  pub next_is : (l n : ℕ) → parent_in k n ≡ Some l → (links_at k n).next ≡ place_after n (kids_of (forest_of k) l)
  next_is l n own =
      leads_after (after_in k) l n None (kids_of (forest_of k) l)
      (once_own (after_in k) (before_in k) (parent_in k) (λ m. kids_of (forest_of k) m) (node_count k) sound.linked l n own)
      (sound.linked.leads l (parent_within n l own))

  pub previous_on : (l n q : ℕ) → parent_in k n ≡ Some l → (links_at k n).previous ≡ Some q → parent_in k q ≡ Some l
  previous_on l n q own e =
      subst (λ y. IsOnRing (parent_in k) l y) e (before_of (after_in k) (before_in k) (parent_in k) (λ m. kids_of (forest_of k) m) (node_count k) sound.linked l n own).0

  last_end : (l : ℕ) → l < node_count k → IsOnRing (parent_in k) l (links_at k l).last × (after_in k (spot l (links_at k l).last) ≡ None)
  last_end l within = last_of_ring (after_in k) (before_in k) (parent_in k) (λ m. kids_of (forest_of k) m) (node_count k) sound.linked l within

  pub last_on : (l q : ℕ) → l < node_count k → (links_at k l).last ≡ Some q → parent_in k q ≡ Some l
  last_on l q within e = subst (λ y. IsOnRing (parent_in k) l y) e (last_end l within).0

  pub last_is : (l : ℕ) → l < node_count k → (links_at k l).last ≡ last_of (kids_of (forest_of k) l)
  last_is l within = elim (some_or_none (links_at k l).last) [
    | inl none ↦ none ∙ sym (ap last_of (empty (kids_of (forest_of k) l) (sound.linked.leads l within) (subst (λ y. after_in k (spot l y) ≡ None) none (last_end l within).1)))
    | inr h ↦
        h.1 ∙ sym (leads_last (after_in k) l h.0 None (kids_of (forest_of k) l)
        (let one : times h.0 (kids_of (forest_of k) l) ≡ 1 = once_own (after_in k) (before_in k) (parent_in k) (λ m. kids_of (forest_of k) m) (node_count k) sound.linked l h.0 (last_on l h.0 within h.1) in
        omega (arith, one))
        (subst (λ y. after_in k (spot l y) ≡ None) h.1 (last_end l within).1)
        (sound.linked.leads l within))
  ] where
    empty : (ps : List ℕ) → Leads (after_in k) l None ps → after_in k (edge l) ≡ None → ps ≡ []
    empty [] h e = refl
    empty (p ∷ ps) h e = absurd (let bad : None ≡ Some p = sym e ∙ h.0 in cc)

-- what a read of the links of a node gives
pub links_read : (k : Nodes) (n : ℕ) (x : Links) → n < node_count k → x ≡ get_or k.links.items n x → x ≡ links_at k n
links_read k n x within e = get_or_read k.links.items n x within e no_links

-- ---- a node put behind a spot

sets_as : (f g h : Spot → Option ℕ) (s : Spot) (v : Option ℕ) → SetsAt f g s v → ((t : Spot) → h t ≡ g t) → SetsAt f h s v
sets_as f g h s v set same = record { at = same s ∙ set.at; others = λ t ne. same t ∙ set.others t ne }

-- the links afterwards are sound, and say this one changed list of children and this one changed parent
pub record Changes (old new : Nodes) (l p : ℕ) (xs : List ℕ) (to : Option ℕ) : Type 0 where
  pub sound : IsSound new
  pub kids : kids_of (forest_of new) l ≡ xs
  pub parent : parent_of (forest_of new) p ≡ to
  pub rest : IsSameBut (forest_of old) (forest_of new) l p

changes : (k k' : Nodes) (l p : ℕ) (kids : List ℕ) (parent : Option ℕ) →
    IsLinked (after_in k') (before_in k') (parent_in k') (put (λ m. kids_of (forest_of k) m) l kids) (node_count k') →
    ((n m : ℕ) → climb (parent_in k') (suc m) (Some n) ≢ Some n) → node_count k < 2 ^ 32 → node_count k' ≡ node_count k →
    parent_in k' p ≡ parent → ((q : ℕ) → q ≢ p → parent_in k' q ≡ parent_in k q) → Changes k k' l p kids parent
changes k k' l p kids parent linked no_ring few same own others = record {
  sound = sound_with k' (put (λ m. kids_of (forest_of k) m) l kids) linked no_ring (subst (λ c. c < 2 ^ 32) (sym same) few);
  kids = kids_said k' (put (λ m. kids_of (forest_of k) m) l kids) linked l ∙ put_same (λ m. kids_of (forest_of k) m) l kids;
  parent = parent_of-forest_of k' p ∙ own;
  rest = record {
    kids = λ m ne. kids_said k' (put (λ m. kids_of (forest_of k) m) l kids) linked m ∙ put_other (λ m. kids_of (forest_of k) m) l kids m ne;
    parents = λ q ne. parent_of-forest_of k' q ∙ others q ne ∙ sym (parent_of-forest_of k q);
    count = length-forest_of k' ∙ same ∙ sym (length-forest_of k);
  };
}

module _ (k k1 k2 k3 : Nodes) (sound : IsSound k) (l p : ℕ) (x : Option ℕ) (within : l < node_count k) (free : parent_in k p ≡ None)
    (on : IsOnRing (parent_in k) l x) (apart : (i : ℕ) → climb (parent_in k) i (Some l) ≢ Some p)
    (first : Joins k k1 l x (Some p)) (second : Joins k1 k2 l (Some p) (after_in k (spot l x))) (owned : SetsParent k2 k3 p (Some l)) where
  pub linked_count : node_count k3 ≡ node_count k
  linked_count = owned.count ∙ second.count ∙ first.count

  linked_others : (q : ℕ) → (q ≡ p → ⊥) → parent_in k3 q ≡ parent_in k q
  linked_others q ne = owned.other_parents q ne ∙ second.parents q ∙ first.parents q

  pub linked_changes : Changes k k3 l p (behind x p (kids_of (forest_of k) l)) (Some l)
  linked_changes = changes k k3 l p (behind x p (kids_of (forest_of k) l)) (Some l)
      (subst (λ n. IsLinked (after_in k3) (before_in k3) (parent_in k3) (put (λ m. kids_of (forest_of k) m) l (behind x p (kids_of (forest_of k) l))) n) (sym linked_count)
      (linked_behind (after_in k) (before_in k) (parent_in k) (λ m. kids_of (forest_of k) m) (node_count k) sound.linked l p x within free on
      (after_in k1) (before_in k1) (after_in k3) (before_in k3) (parent_in k3)
      first.forward (sets_as (after_in k1) (after_in k2) (after_in k3) (inner p) (after_in k (spot l x)) second.forward owned.forward)
      first.back (sets_as (before_in k1) (before_in k2) (before_in k3) (spot l (after_in k (spot l x))) (Some p) second.back owned.back)
      owned.parent linked_others))
      (no_ring_linked (parent_in k) (parent_in k3) p l owned.parent linked_others apart sound.no_ring)
      sound.few linked_count owned.parent linked_others

-- the same, from what a caller knows
module _ (k k1 k2 k3 : Nodes) (t : List Node) (is : forest_of k ≡ t) (sound : IsSound k) (l p : ℕ) (x y : Option ℕ)
    (made : l < count t) (free : parent_of t p ≡ None) (on : ForSome x (λ s. parent_of t s ≡ Some l))
    (apart : (i : ℕ) → above t i l ≢ Some p) (behind_x : y ≡ after_in k (spot l x)) where
  pub on_ring : IsOnRing (parent_in k) l x
  on_ring = on_spot x on
    where
      on_spot : (z : Option ℕ) → ForSome z (λ s. parent_of t s ≡ Some l) → IsOnRing (parent_in k) l z
      on_spot None h = tt
      on_spot (Some s) h = parent_is k t is s (Some l) (h s refl)

  pub after_made : (q : ℕ) → y ≡ Some q → q < node_count k
  after_made q e = child_within k q l (after_on k sound l x q (made_within k t is l made) on_ring (sym behind_x ∙ e))

  pub link_changes : Joins k k1 l x (Some p) → Joins k1 k2 l (Some p) y → SetsParent k2 k3 p (Some l) → Changes k k3 l p (behind x p (kids_of t l)) (Some l)
  link_changes first second owned =
      subst (λ (s : List Node). Changes k k3 l p (behind x p (kids_of s l)) (Some l)) is
      (linked_changes k k1 k2 k3 sound l p x (made_within k t is l made) (parent_is k t is p None free) on_ring (apart_is k t is p l apart)
      first (subst (λ z. Joins k1 k2 l (Some p) z) behind_x second) owned)

-- ---- a node taken out

module _ (k k1 k2 : Nodes) (sound : IsSound k) (l p : ℕ) (own : parent_in k p ≡ Some l)
    (joined : Joins k k1 l (links_at k p).previous (links_at k p).next) (freed : SetsParent k1 k2 p None) where
  unlinked_count : node_count k2 ≡ node_count k
  unlinked_count = freed.count ∙ joined.count

  unlinked_others : (q : ℕ) → (q ≡ p → ⊥) → parent_in k2 q ≡ parent_in k q
  unlinked_others q ne = freed.other_parents q ne ∙ joined.parents q

  pub unlinked_changes : Changes k k2 l p (without p (kids_of (forest_of k) l)) None
  unlinked_changes = changes k k2 l p (without p (kids_of (forest_of k) l)) None
      (subst (λ n. IsLinked (after_in k2) (before_in k2) (parent_in k2) (put (λ m. kids_of (forest_of k) m) l (without p (kids_of (forest_of k) l))) n) (sym unlinked_count)
      (linked_without (after_in k) (before_in k) (parent_in k) (λ m. kids_of (forest_of k) m) (node_count k) sound.linked l p own
      (after_in k1) (before_in k1) (after_in k2) (before_in k2) (parent_in k2)
      joined.forward (λ t ne. freed.forward t) joined.back (λ t ne. freed.back t) freed.parent unlinked_others))
      (no_ring_unlinked (parent_in k) (parent_in k2) p freed.parent unlinked_others sound.no_ring)
      sound.few unlinked_count freed.parent unlinked_others

-- the same, from what a caller knows
pub unlink_changes : (k k1 k2 : Nodes) (t : List Node) (l p : ℕ) → forest_of k ≡ t → IsSound k → parent_of t p ≡ Some l →
    Joins k k1 l (links_at k p).previous (links_at k p).next → SetsParent k1 k2 p None → Changes k k2 l p (without p (kids_of t l)) None
unlink_changes k k1 k2 t l p is sound own joined freed =
    subst (λ (s : List Node). Changes k k2 l p (without p (kids_of s l)) None) is
    (unlinked_changes k k1 k2 sound l p (parent_is k t is p (Some l) own) joined freed)

pub rest_from : (old new : List Node) (k k' : Nodes) (l p : ℕ) → forest_of k ≡ old → forest_of k' ≡ new → IsSameBut (forest_of k) (forest_of k') l p → IsSameBut old new l p
rest_from old new k k' l p is is' rest = subst (λ (s : List Node). IsSameBut old s l p) is' (subst (λ (s : List Node). IsSameBut s (forest_of k') l p) is rest)
