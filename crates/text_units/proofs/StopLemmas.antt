-- The nearest boundaries: what a cursor over the text tells of them, and that each is the only one.
use Rattle.std.proofs.Common.{◌≡◌, ◌⊎◌, inl, inr, ℕ, ◌-◌, ◌<◌, ◌≤◌, zero, suc, Bool, true, false, cond, nat_lt, nat_le, List, [], ◌∷◌, length, reverse, slice_index_or, Option, None, Some, IfSome, MatchOption, unwrap_or, refl, sym, ap, subst, ◌∙◌, arith, ⊎_elim}
use Rattle.std.proofs.lemmas.Bool.{cases_lt, lt-ltb, ltb-true, le-leb, leb-true}
use Rattle.std.proofs.lemmas.List.{get_or-reverse, length-reverse, reverse-reverse}
use Rattle.std.proofs.lemmas.List.Kept.{AllPairs-from_increasing}
use Rattle.std.specs.List.{AllPairs, Contains, find}
use Rattle.std.specs.Str.{IsUtf8}
use Rattle.unicode_segmentation.specs.declared.grapheme.cursor.GraphemeCursor.{GraphemeCursor}
use Rattle.unicode_segmentation.specs.Cursor.{cursor_offset, cursor_is_extended, cursor_is_resuming, is_boundary_at, IsCursorOn, IsNextBoundary, IsPrevBoundary}
use Rattle.text_units.specs.Boundaries.{IsPlace, cluster_boundaries, IsBoundary}
use Rattle.text_units.specs.Stops.{IsNextStop, IsPrevStop, IsSnapped, next_stop, prev_stop, snap}
use Rattle.text_units.proofs.BoundaryLemmas.{IsPlace-boundary, IsBoundary-from_break, break_from-IsBoundary, IsBoundary-end, cluster_boundaries-rise}

-- ---- from a cursor

-- a cursor of extended clusters stands at the place, and no search of it was broken off
pub record StartsAt (cursor : GraphemeCursor) (at : ℕ) : Type 0 where
  pub offset : cursor_offset cursor ≡ at
  pub is_extended : cursor_is_extended cursor ≡ true
  pub is_fresh : cursor_is_resuming cursor ≡ false

module _ (text : List ℕ) (u : IsUtf8 text) (old new : GraphemeCursor) (at : ℕ) (starts : StartsAt old at) (on : IsCursorOn new text) where
  -- where the cursor has come to a boundary, that is one of ours
  boundary_from_cursor : (stop : ℕ) → cursor_offset new ≡ stop → is_boundary_at old text stop ≡ true → IsBoundary text stop
  boundary_from_cursor stop moved broken =
      IsBoundary-from_break text stop u (subst (IsPlace text) moved on.boundary) (rw starts.is_extended at broken)

  pub IsNextStop-from_cursor : (stop : ℕ) → IsNextBoundary old new text stop → IsNextStop text at stop
  IsNextStop-from_cursor stop next =
      let ahead : at < stop = let low = rw (starts.is_fresh, starts.offset) at next.ahead in omega arith in
      record {
        boundary = boundary_from_cursor stop next.moved next.boundary;
        past = ahead;
        least = λ other b past. ⊎_elim (λ below. absurd (missed next other b past below)) (λ h. h) (cases_lt other stop);
      }
    where
      missed : IsNextBoundary old new text stop → (other : ℕ) → IsBoundary text other → at < other → other < stop → ⊥
      missed next other b past below =
          let first = rw (starts.is_fresh, starts.offset, starts.is_extended) at next.first in
          let none = first other (omega arith) below (IsPlace-boundary text other u b) in
          let some = break_from-IsBoundary text other u b in
          cc

  pub IsPrevStop-from_cursor : (stop : ℕ) → IsPrevBoundary old new text stop → IsPrevStop text at stop
  IsPrevStop-from_cursor stop prev =
      let behind : stop < at = rw (starts.is_fresh, starts.offset) at prev.behind in
      record {
        boundary = boundary_from_cursor stop prev.moved prev.boundary;
        before = behind;
        greatest = λ other b before. ⊎_elim (λ above. absurd (missed prev other b before above)) (λ h. h) (cases_lt stop other);
      }
    where
      missed : IsPrevBoundary old new text stop → (other : ℕ) → IsBoundary text other → other < at → stop < other → ⊥
      missed prev other b before above =
          let last = rw (starts.is_fresh, starts.offset, starts.is_extended) at prev.last in
          let none = last other (omega arith) before (IsPlace-boundary text other u b) in
          let some = break_from-IsBoundary text other u b in
          cc

pub IfSome-weaker : {A : Type 0} (P Q : A → Type 0) (o : Option A) → ((x : A) → P x → Q x) → IfSome o P → IfSome o Q
IfSome-weaker P Q None step h = h
IfSome-weaker P Q (Some x) step h = step x h

-- ---- snapping

-- a boundary is snapped to itself
pub IsSnapped-boundary : (text : List ℕ) (at : ℕ) → IsBoundary text at → IsSnapped text at at
IsSnapped-boundary text at b = record { boundary = b; not_before = omega arith; least = λ other _ from. from }

-- from a place between boundaries the next stop is the one to snap to
pub IsSnapped-next_stop : (text : List ℕ) (at stop : ℕ) → (IsBoundary text at → ⊥) → IsNextStop text at stop → IsSnapped text at stop
IsSnapped-next_stop text at stop inside next =
    record {
      boundary = next.boundary;
      not_before = let past = next.past in omega arith;
      least = λ other b from. next.least other b (strictly other b from);
    }
  where
    strictly : (other : ℕ) → IsBoundary text other → at ≤ other → at < other
    strictly other b from = ⊎_elim (λ h. h) (λ low. let same : other ≡ at = omega arith in absurd (inside (subst (IsBoundary text) same b))) (cases_lt at other)

-- the end of a text, past which nothing stands, is a boundary
pub IsSnapped-next_or_here : (text : List ℕ) (at : ℕ) (next : Option ℕ) → IsUtf8 text → (IsBoundary text at → ⊥)
    → (next ≡ None → at ≡ length text) → IfSome next (IsNextStop text at) → IsSnapped text at (unwrap_or next at)
IsSnapped-next_or_here text at None u inside end nearest = absurd (inside (subst (IsBoundary text) (sym (end refl)) (IsBoundary-end text u)))
IsSnapped-next_or_here text at (Some stop) u inside end nearest = IsSnapped-next_stop text at stop inside nearest

-- ---- each is the only one

pub IsNextStop-unique : (text : List ℕ) (at stop other : ℕ) → IsNextStop text at stop → IsNextStop text at other → stop ≡ other
IsNextStop-unique text at stop other p q =
    let a = p.least other q.boundary q.past in let b = q.least stop p.boundary p.past in omega arith

pub IsPrevStop-unique : (text : List ℕ) (at stop other : ℕ) → IsPrevStop text at stop → IsPrevStop text at other → stop ≡ other
IsPrevStop-unique text at stop other p q =
    let a = p.greatest other q.boundary q.before in let b = q.greatest stop p.boundary p.before in omega arith

pub IsSnapped-unique : (text : List ℕ) (at stop other : ℕ) → IsSnapped text at stop → IsSnapped text at other → stop ≡ other
IsSnapped-unique text at stop other p q =
    let a = p.least other q.boundary q.not_before in let b = q.least stop p.boundary p.not_before in omega arith

-- ---- a stop and the one before it

pub IsPrevStop-from_next : (text : List ℕ) (at stop : ℕ) → IsBoundary text at → IsNextStop text at stop → IsPrevStop text stop at
IsPrevStop-from_next text at stop b next =
    record {
      boundary = b;
      before = next.past;
      greatest = λ other c before. ⊎_elim (λ past. let le = next.least other c past in absurd (omega arith)) (λ h. h) (cases_lt at other);
    }

pub IsNextStop-from_prev : (text : List ℕ) (at stop : ℕ) → IsBoundary text at → IsPrevStop text at stop → IsNextStop text stop at
IsNextStop-from_prev text at stop b prev =
    record {
      boundary = b;
      past = prev.before;
      least = λ other c past. ⊎_elim (λ before. let le = prev.greatest other c before in absurd (omega arith)) (λ h. h) (cases_lt other at);
    }

-- ---- as functions

-- what `find` gives in a list whose elements stand in R, earlier to later
abbrev FindsFirst : (ℕ → ℕ → Type 0) → (ℕ → Bool) → List ℕ → Option ℕ → Type 0
FindsFirst R p xs found =
    MatchOption found ((y : ℕ) → Contains xs y → p y ≡ true → ⊥)
    (λ x. Contains xs x × (p x ≡ true) × ((y : ℕ) → Contains xs y → p y ≡ true → (x ≡ y) ⊎ R x y))

find-first-cons : (R : ℕ → ℕ → Type 0) (p : ℕ → Bool) (x : ℕ) (xs : List ℕ) → AllPairs R (x ∷ xs) → FindsFirst R p xs (find p xs)
    → FindsFirst R p (x ∷ xs) (find p (x ∷ xs))
find-first-cons R p x xs pairs rest = decided (p x) refl
  where
    later : (o : Option ℕ) → FindsFirst R p xs o → p x ≡ false → FindsFirst R p (x ∷ xs) o
    later None none fails = λ y found passes. not_there y found.0 found.1 found.2 passes
      where
        not_there : (y k : ℕ) → k < length (x ∷ xs) → slice_index_or (x ∷ xs) k y ≡ y → p y ≡ true → ⊥
        not_there y zero inside at passes = let other = ap p at in cc
        not_there y (suc k) inside at passes = none y (k, omega arith, at) passes
    later (Some z) first fails = (
      (suc first.0.0, omega (arith, first.0.1), first.0.2),
      first.1,
      λ y found passes. after y found.0 found.1 found.2 passes,
    )
      where
        after : (y k : ℕ) → k < length (x ∷ xs) → slice_index_or (x ∷ xs) k y ≡ y → p y ≡ true → (z ≡ y) ⊎ R z y
        after y zero inside at passes = let other = ap p at in cc
        after y (suc k) inside at passes = first.2 y (k, omega arith, at) passes

    here : p x ≡ true → FindsFirst R p (x ∷ xs) (Some x)
    here passes = ((0, omega arith, refl), passes, λ y found _. after y found.0 found.1 found.2)
      where
        after : (y k : ℕ) → k < length (x ∷ xs) → slice_index_or (x ∷ xs) k y ≡ y → (x ≡ y) ⊎ R x y
        after y zero inside at = inl at
        after y (suc k) inside at = inr (subst (R x) at (pairs 0 (suc k) y (omega arith) inside))

    decided : (b : Bool) → p x ≡ b → FindsFirst R p (x ∷ xs) (cond b (Some x) (find p xs))
    decided true passes = here passes
    decided false fails = later (find p xs) rest fails

find-first : (R : ℕ → ℕ → Type 0) (p : ℕ → Bool) (xs : List ℕ) → AllPairs R xs → FindsFirst R p xs (find p xs)
find-first R p [] pairs = λ y found passes. absurd (omega (arith, found.1))
find-first R p (x ∷ xs) pairs =
    find-first-cons R p x xs pairs (find-first R p xs (λ i j d low inside. pairs (suc i) (suc j) d (omega arith) (omega arith)))

-- in a list that rises
find-least : (p : ℕ → Bool) (text : List ℕ) → FindsFirst (λ x y. x < y) p (cluster_boundaries text) (find p (cluster_boundaries text))
find-least p text = find-first (λ x y. x < y) p (cluster_boundaries text) (AllPairs-from_increasing _ (cluster_boundaries-rise text))

-- and in the same list from its end
AllPairs-reverse : (R : ℕ → ℕ → Type 0) (xs : List ℕ) → AllPairs R xs → AllPairs (λ x y. R y x) (reverse xs)
AllPairs-reverse R xs pairs i j d low inside =
    let size : length (reverse xs) ≡ length xs = length-reverse xs in
    let first : length xs - 1 - j < length xs - 1 - i = omega arith in
    rw (get_or-reverse xs j d (omega arith), get_or-reverse xs i d (omega arith)) (pairs (length xs - 1 - j) (length xs - 1 - i) d first (omega arith))

Contains-reverse : (xs : List ℕ) (x : ℕ) → Contains xs x → Contains (reverse xs) x
Contains-reverse xs x (k, inside, at) =
    let size : length (reverse xs) ≡ length xs = length-reverse xs in
    let back : length xs - 1 - (length xs - 1 - k) ≡ k = omega arith in
    (length xs - 1 - k, omega arith, get_or-reverse xs (length xs - 1 - k) x (omega arith) ∙ ap (λ n. slice_index_or xs n x) back ∙ at)

Contains-from_reverse : (xs : List ℕ) (x : ℕ) → Contains (reverse xs) x → Contains xs x
Contains-from_reverse xs x found = subst (λ ys. Contains ys x) (reverse-reverse xs) (Contains-reverse (reverse xs) x found)

find-greatest : (p : ℕ → Bool) (text : List ℕ)
    → FindsFirst (λ x y. y < x) p (reverse (cluster_boundaries text)) (find p (reverse (cluster_boundaries text)))
find-greatest p text =
    find-first (λ x y. y < x) p (reverse (cluster_boundaries text))
    (AllPairs-reverse (λ x y. x < y) _ (AllPairs-from_increasing _ (cluster_boundaries-rise text)))

-- what is found is the nearest
next_stop-nearest : (text : List ℕ) (at : ℕ) → MatchOption (next_stop text at) ((other : ℕ) → IsBoundary text other → at < other → ⊥) (IsNextStop text at)
unfolding next_stop IsBoundary
next_stop-nearest text at = nearest (find (nat_lt at) (cluster_boundaries text)) (find-least (nat_lt at) text)
  where
    nearest : (found : Option ℕ) → FindsFirst (λ x y. x < y) (nat_lt at) (cluster_boundaries text) found
        → MatchOption found ((other : ℕ) → IsBoundary text other → at < other → ⊥) (IsNextStop text at)
    nearest None none = λ other b past. none other b (lt-ltb at other past)
    nearest (Some stop) first =
        record {
          boundary = first.0;
          past = ltb-true at stop first.1;
          least = λ other b past. ⊎_elim (λ same. omega arith) (λ above. omega arith) (first.2 other b (lt-ltb at other past));
        }

prev_stop-nearest : (text : List ℕ) (at : ℕ) → MatchOption (prev_stop text at) ((other : ℕ) → IsBoundary text other → other < at → ⊥) (IsPrevStop text at)
unfolding prev_stop IsBoundary
prev_stop-nearest text at = nearest (find (λ b. nat_lt b at) (reverse (cluster_boundaries text))) (find-greatest (λ b. nat_lt b at) text)
  where
    nearest : (found : Option ℕ) → FindsFirst (λ x y. y < x) (λ b. nat_lt b at) (reverse (cluster_boundaries text)) found
        → MatchOption found ((other : ℕ) → IsBoundary text other → other < at → ⊥) (IsPrevStop text at)
    nearest None none = λ other b before. none other (Contains-reverse _ other b) (lt-ltb other at before)
    nearest (Some stop) first =
        record {
          boundary = Contains-from_reverse _ stop first.0;
          before = ltb-true stop at first.1;
          greatest = λ other b before.
              ⊎_elim (λ same. omega arith) (λ below. omega arith) (first.2 other (Contains-reverse _ other b) (lt-ltb other at before));
        }

-- what is nearest is what is found
pub next_stop-is : (text : List ℕ) (at : ℕ) (found : Option ℕ) → IsUtf8 text → (found ≡ None → at ≡ length text) → IfSome found (IsNextStop text at)
    → found ≡ next_stop text at
next_stop-is text at found u end nearest = same found (next_stop text at) end nearest (next_stop-nearest text at)
  where
    same : (found other : Option ℕ) → (found ≡ None → at ≡ length text) → IfSome found (IsNextStop text at)
        → MatchOption other ((b : ℕ) → IsBoundary text b → at < b → ⊥) (IsNextStop text at) → found ≡ other
    same None None end p q = refl
    same None (Some stop) end p q =
        let within = (IsPlace-boundary text stop u q.boundary).0 in let past = q.past in let last = end refl in absurd (omega arith)
    same (Some stop) None end p q = absurd (q stop p.boundary p.past)
    same (Some stop) (Some other) end p q = ap Some (IsNextStop-unique text at stop other p q)

pub prev_stop-is : (text : List ℕ) (at : ℕ) (found : Option ℕ) → (found ≡ None → at ≡ 0) → IfSome found (IsPrevStop text at)
    → found ≡ prev_stop text at
prev_stop-is text at found start nearest = same found (prev_stop text at) start nearest (prev_stop-nearest text at)
  where
    same : (found other : Option ℕ) → (found ≡ None → at ≡ 0) → IfSome found (IsPrevStop text at)
        → MatchOption other ((b : ℕ) → IsBoundary text b → b < at → ⊥) (IsPrevStop text at) → found ≡ other
    same None None start p q = refl
    same None (Some stop) start p q = let before = q.before in let first = start refl in absurd (omega arith)
    same (Some stop) None start p q = absurd (q stop p.boundary p.before)
    same (Some stop) (Some other) start p q = ap Some (IsPrevStop-unique text at stop other p q)

-- a place is snapped to the place that `snap` gives
pub IsSnapped-snap : (text : List ℕ) (at : ℕ) → IsUtf8 text → at ≤ length text → IsSnapped text at (snap text at)
unfolding snap IsBoundary
IsSnapped-snap text at u within = nearest (find (nat_le at) (cluster_boundaries text)) (find-least (nat_le at) text)
  where
    nearest : (found : Option ℕ) → FindsFirst (λ x y. x < y) (nat_le at) (cluster_boundaries text) found → IsSnapped text at (unwrap_or found (length text))
    nearest None none = absurd (none (length text) (IsBoundary-end text u) (le-leb at (length text) within))
    nearest (Some stop) first =
        record {
          boundary = first.0;
          not_before = leb-true at stop first.1;
          least = λ other b from. ⊎_elim (λ same. omega arith) (λ above. omega arith) (first.2 other b (le-leb at other from));
        }

pub snap-is : (text : List ℕ) (at stop : ℕ) → IsUtf8 text → at ≤ length text → IsSnapped text at stop → stop ≡ snap text at
snap-is text at stop u within snapped = IsSnapped-unique text at stop (snap text at) snapped (IsSnapped-snap text at u within)
