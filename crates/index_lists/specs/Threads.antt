-- The whole store as contracts see it. This project's own.
use Rattle.std.specs.Prelude.{◌≡◌, ℕ, ◌≤◌, Bool, not, List, [], Option, Some, None, IsSome, is_some, length}
use Rattle.std.specs.Option.{unwrap_or}
use Rattle.std.specs.List.{filter}
use Rattle.index_lists.specs.Side.{Side, list_at, owner_at, is_in, IsSound}

-- the left lists, the right lists, and how many more items find room
pub record Woven : Type 0 where
  pub left : Side
  pub right : Side
  pub spare : ℕ

-- a store with no list, no item and no room
abbrev pub nothing : Woven
nothing = record {
  left = record { lists = []; owners = [] };
  right = record { lists = []; owners = [] };
  spare = 0;
}

-- how many left lists, and how many right lists, are reserved: their numbers are those below
abbrev pub left_count : Woven → ℕ
left_count t = length t.left.lists

abbrev pub right_count : Woven → ℕ
right_count t = length t.right.lists

-- the places of left list l, and of right list r, from first to last
abbrev pub left_list : Woven → ℕ → List ℕ
left_list t l = list_at t.left l

abbrev pub right_list : Woven → ℕ → List ℕ
right_list t r = list_at t.right r

-- a pair of what is there twice
abbrev pub both : Option ℕ → Option ℕ → Option (ℕ × ℕ)
both None r = None
both (Some l) None = None
both (Some l) (Some r) = Some (l, r)

-- the item at place p, which is its left list and its right list; none where no live item is
abbrev pub item_at : Woven → ℕ → Option (ℕ × ℕ)
item_at t p = both (owner_at t.left p) (owner_at t.right p)

-- a live item is at place p
abbrev pub IsLive : Woven → ℕ → Type 0
IsLive t p = IsSome (item_at t p)

-- the left list, and the right list, of the live item at place p
abbrev pub left_of : Woven → ℕ → ℕ
left_of t p = unwrap_or (owner_at t.left p) 0

abbrev pub right_of : Woven → ℕ → ℕ
right_of t p = unwrap_or (owner_at t.right p) 0

-- whether the item at place p stands in right list r
abbrev pub is_right : Woven → ℕ → ℕ → Bool
is_right t r p = is_in (owner_at t.right p) r

-- those of some places whose items do not stand in right list r, in their order
abbrev pub outside_right : Woven → ℕ → List ℕ → List ℕ
outside_right t r places = filter (λ p. not (is_right t r p)) places

-- what holds of every store: a live item stands once in its left list, once in its right list and
-- in no other list, and a place that is not live stands in none
pub record IsWoven (t : Woven) : Type 0 where
  pub left_sound : IsSound t.left
  pub right_sound : IsSound t.right
  pub paired : (p : ℕ) → is_some (owner_at t.left p) ≡ is_some (owner_at t.right p)

-- the new store has the lists and the items of the old one, and no less room
pub record IsRoomier (old new : Woven) : Type 0 where
  pub left_lists : (list : ℕ) → left_list new list ≡ left_list old list
  pub right_lists : (list : ℕ) → right_list new list ≡ right_list old list
  pub items : (place : ℕ) → item_at new place ≡ item_at old place
  pub spare : old.spare ≤ new.spare
  pub lefts : left_count old ≤ left_count new
  pub rights : right_count old ≤ right_count new
