-- How the links of one side say its lists. Only this crate's own code speaks of links.
use Rattle.std.specs.Prelude.{◌≡◌, ◌≢◌, ℕ, ◌<◌, ◌^◌, List, map, length, Option, None, slice_index_or}
use Rattle.index_lists.specs.declared.links.Link.{Link}
use Rattle.index_lists.specs.declared.links.Ends.{Ends}
use Rattle.index_lists.specs.declared.links.Links.{Links}
use Rattle.index_lists.specs.Rings.{Spot, edge, inner, walk, IsLinked}
use Rattle.index_lists.specs.Side.{Side, list_at}

-- the link of a place that stands in no list, and the ends of a list with no place
abbrev pub unlinked : Link
unlinked = record { list = None; before = None; after = None }

abbrev pub no_ends : Ends
no_ends = record { first = None; last = None }

-- how many places and how many lists there are
abbrev pub place_count : Links → ℕ
place_count k = length k.places.items

abbrev pub list_count : Links → ℕ
list_count k = length k.ends.items

abbrev pub link_at : Links → ℕ → Link
link_at k p = slice_index_or k.places.items p unlinked

abbrev pub ends_at : Links → ℕ → Ends
ends_at k l = slice_index_or k.ends.items l no_ends

-- the list that owns a place
abbrev pub owner_of : Links → ℕ → Option ℕ
owner_of k p = (link_at k p).list

-- where the link forward, and the link back, lead from a spot
abbrev pub after_at : Links → Spot → Option ℕ
after_at k (edge l) = (ends_at k l).first
after_at k (inner p) = (link_at k p).after

abbrev pub before_at : Links → Spot → Option ℕ
before_at k (edge l) = (ends_at k l).last
before_at k (inner p) = (link_at k p).before

-- the places that the links forward lead through from the first place of a list
abbrev pub places_from : Links → Ends → List ℕ
places_from k e = walk (λ p. (link_at k p).after) (place_count k) e.first

-- the side that the links say
abbrev pub side_of : Links → Side
side_of k = record { lists = map (places_from k) k.ends.items; owners = map (λ (link : Link). link.list) k.places.items }

-- the invariant of one side
abbrev pub IsChained : Links → Type 0
IsChained k = IsLinked (after_at k) (before_at k) (owner_of k) (λ l. list_at (side_of k) l) (list_count k)

-- places and lists have numbers that an index can hold
abbrev pub IsCounted : Links → Type 0
IsCounted k = (place_count k < 2 ^ 32) × (list_count k < 2 ^ 32)

-- where a new owner of a place leaves the links
pub record SetsOwner (old new : Links) (p : ℕ) (list : Option ℕ) : Type 0 where
  pub owner : owner_of new p ≡ list
  pub other_owners : (q : ℕ) → q ≢ p → owner_of new q ≡ owner_of old q
  pub forward : (t : Spot) → after_at new t ≡ after_at old t
  pub back : (t : Spot) → before_at new t ≡ before_at old t
  pub place_count : place_count new ≡ place_count old
  pub list_count : list_count new ≡ list_count old
