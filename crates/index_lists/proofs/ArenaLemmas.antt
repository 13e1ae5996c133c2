-- The arena stays sound where a place is given, given back and added.
use Rattle.std.proofs.Common.{◌≡◌, ℕ, ◌<◌, ◌≤◌, true, false, length, Option, Some, None, inl, inr, refl, sym, ap, ◌∙◌, subst, le_trans, le_refl, arith}
use Rattle.std.specs.Prelude.{is_some}
use Rattle.std.proofs.lemmas.Bool.{cases_eq}
use Rattle.index_lists.specs.Lists.{times}
use Rattle.index_lists.specs.Pool.{Pooled, IsFree, IsTaken, IsPool, IsGrown}
use Rattle.index_lists.specs.Side.{Side, owner_at, IsSound, Appends, TakesOut, Extends}
use Rattle.index_lists.specs.Arena.{IsArena}
use Rattle.index_lists.specs.Threads.{Woven, both, IsRoomier, IsWoven}

none_from : (o : Option ℕ) → (is_some o ≡ true → ⊥) → o ≡ None
none_from None h = refl
none_from (Some l) h = absurd (h refl)

module _ (left right : Side) (places : Pooled) (arena : IsArena left right places) where
  -- a free place is a place of both sides, and stands in no list
  pub free_place : (p : ℕ) → IsFree places p → (p < length left.owners) × (p < length right.owners) × (owner_at left p ≡ None) × (owner_at right p ≡ None)
  free_place p free =
      let within : p < places.count = arena.pool.within p free in
      let unlinked : is_some (owner_at right p) ≡ true → ⊥ = λ linked. absurd (let taken : times p places.free ≡ 0 = (arena.taken p linked).1 in omega (arith, free, taken)) in (
        le_trans within arena.left_count,
        le_trans within arena.right_count,
        none_from (owner_at left p) (λ linked. unlinked (sym (arena.paired p) ∙ linked)),
        none_from (owner_at right p) unlinked,
      )

  -- a free place was taken and linked on both sides
  pub arena_given : (left' right' : Side) (rest : Pooled) (l r p : ℕ) →
      IsPool rest → IsTaken rest p → ((q : ℕ) → (q ≡ p → ⊥) → times q rest.free ≡ times q places.free) → rest.count ≡ places.count →
      Appends left left' l p → Appends right right' r p → IsSound left' → IsSound right' → IsArena left' right' rest
  arena_given left' right' rest l r p pool taken others count on_left on_right left_sound right_sound = record {
    left_sound = left_sound;
    right_sound = right_sound;
    pool = pool;
    paired = λ q. elim (cases_eq q p) [
      | inl e ↦ subst (λ m. is_some (owner_at left' m) ≡ is_some (owner_at right' m)) (sym e) (ap is_some on_left.owner ∙ sym (ap is_some on_right.owner))
      | inr ne ↦ ap is_some (on_left.other_owners q ne) ∙ arena.paired q ∙ sym (ap is_some (on_right.other_owners q ne))
    ];
    taken = λ q linked. elim (cases_eq q p) [
      | inl e ↦ subst (λ m. IsTaken rest m) (sym e) taken
      | inr ne ↦
          let old : IsTaken places q = arena.taken q (sym (ap is_some (on_right.other_owners q ne)) ∙ linked) in
          (subst (λ n. q < n) (sym count) old.0, others q ne ∙ old.1)
    ];
    left_count = rw (count, on_left.place_count) arena.left_count;
    right_count = rw (count, on_right.place_count) arena.right_count;
  }

  -- a linked place was taken out of both sides and is free again
  pub arena_freed : (left' right' : Side) (more : Pooled) (l r p : ℕ) →
      IsPool more → ((q : ℕ) → (q ≡ p → ⊥) → times q more.free ≡ times q places.free) → more.count ≡ places.count →
      TakesOut left left' l p → TakesOut right right' r p → IsSound left' → IsSound right' → IsArena left' right' more
  arena_freed left' right' more l r p pool others count on_left on_right left_sound right_sound = record {
    left_sound = left_sound;
    right_sound = right_sound;
    pool = pool;
    paired = λ q. elim (cases_eq q p) [
      | inl e ↦ subst (λ m. is_some (owner_at left' m) ≡ is_some (owner_at right' m)) (sym e) (ap is_some on_left.owner ∙ sym (ap is_some on_right.owner))
      | inr ne ↦ ap is_some (on_left.other_owners q ne) ∙ arena.paired q ∙ sym (ap is_some (on_right.other_owners q ne))
    ];
    taken = λ q linked. elim (cases_eq q p) [
      | inl e ↦ absurd (let bad : false ≡ true = sym (ap is_some on_right.owner) ∙ subst (λ m. is_some (owner_at right' m) ≡ true) e linked in cc)
      | inr ne ↦
          let old : IsTaken places q = arena.taken q (sym (ap is_some (on_right.other_owners q ne)) ∙ linked) in
          (subst (λ n. q < n) (sym count) old.0, others q ne ∙ old.1)
    ];
    left_count = rw (count, on_left.place_count) arena.left_count;
    right_count = rw (count, on_right.place_count) arena.right_count;
  }

  -- the sides have more places and lists
  pub arena_extended : (left' right' : Side) → Extends left left' → Extends right right' → IsSound left' → IsSound right' → IsArena left' right' places
  arena_extended left' right' on_left on_right left_sound right_sound = record {
    left_sound = left_sound;
    right_sound = right_sound;
    pool = arena.pool;
    paired = λ q. ap is_some (on_left.owners q) ∙ arena.paired q ∙ sym (ap is_some (on_right.owners q));
    taken = λ q linked. arena.taken q (sym (ap is_some (on_right.owners q)) ∙ linked);
    left_count = le_trans arena.left_count on_left.place_count;
    right_count = le_trans arena.right_count on_right.place_count;
  }

  -- there are more places, which the sides have links for
  pub arena_grown : (more : Pooled) → IsGrown places more → IsPool more → more.count ≤ length left.owners → more.count ≤ length right.owners → IsArena left right more
  arena_grown more grown pool on_left on_right = record {
    left_sound = arena.left_sound;
    right_sound = arena.right_sound;
    pool = pool;
    paired = arena.paired;
    taken = λ q linked.
        let old : IsTaken places q = arena.taken q linked in
        (le_trans old.0 grown.more, grown.kept q old.0 ∙ old.1);
    left_count = on_left;
    right_count = on_right;
  }

pub extends_itself : (s : Side) → Extends s s
extends_itself s = record { lists = λ l. refl; owners = λ p. refl; place_count = le_refl (length s.owners); list_count = le_refl (length s.lists) }

-- ---- what a caller sees

pub arena_woven : (left right : Side) (places : Pooled) (spare : ℕ) → IsArena left right places → IsWoven (record { left = left; right = right; spare = spare })
arena_woven left right places spare arena = record { left_sound = arena.left_sound; right_sound = arena.right_sound; paired = arena.paired }

pub roomier : (left right left' right' : Side) (spare spare' : ℕ) → Extends left left' → Extends right right' → spare ≤ spare' → IsRoomier (record { left = left; right = right; spare = spare }) (record { left = left'; right = right'; spare = spare' })
roomier left right left' right' spare spare' on_left on_right more = record {
  left_lists = on_left.lists;
  right_lists = on_right.lists;
  items = λ p. ap (λ o. both o (owner_at right' p)) (on_left.owners p) ∙ ap (λ o. both (owner_at left p) o) (on_right.owners p);
  spare = more;
  lefts = on_left.list_count;
  rights = on_right.list_count;
}

pub roomier_then : (a b c : Woven) → IsRoomier a b → IsRoomier b c → IsRoomier a c
roomier_then a b c first second = record {
  left_lists = λ l. second.left_lists l ∙ first.left_lists l;
  right_lists = λ l. second.right_lists l ∙ first.right_lists l;
  items = λ p. second.items p ∙ first.items p;
  spare = le_trans first.spare second.spare;
  lefts = le_trans first.lefts second.lefts;
  rights = le_trans first.rights second.rights;
}
