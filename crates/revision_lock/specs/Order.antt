-- The rule of the lock, and what each of its steps tells. All of it is this project's own.
-- A ticket is numbered without an end here; the words keep it modulo 2 ^ 64.
use Rattle.std.specs.Prelude.{◌≡◌, ◌≢◌, ℕ, ◌+◌, ◌-◌, ◌%◌, ◌^◌, ◌<◌, ◌≤◌, Bool, true, false, List, [], ◌∷◌, ◌++◌, length, sum_by, Some, None}
use mathlib.Core.Option as maybe
use mathlib.Core.List.{IsPrefix}
use lib.ListN.{get_elem?}
use Rattle.std.specs.declared.snapshot.Snapshot.{Snapshot}
use Rattle.atomic_table.specs.Table.{State, Me, Step, rest}
use Rattle.revision_lock.specs.Histories.{IsInOrder, owned, merged, longer, shorter}
use Rattle.revision_lock.specs.declared.view.Stage.{Stage}
use Rattle.revision_lock.specs.declared.view.Stage.TheVariants.{Idle, Waits, Works}
use Rattle.revision_lock.specs.declared.view.View.{View}
use Rattle.revision_lock.specs.declared.view.Slot.{Slot}
use Rattle.revision_lock.specs.declared.view.Slot.TheVariants.{Home, Shown}

-- What only the rule knows: the one list of entries, the next ticket and the one that is served, which seat has a ticket,
-- which seat owns the entry at a place, and whether the value is out with the seat that is served
pub record Course (E : Type 0) : Type 0 where
  pub log : List E
  pub next : ℕ
  pub serving : ℕ
  pub holder : ℕ → ℕ
  pub owner : ℕ → ℕ
  pub busy : Bool

-- how many tickets a seat has
abbrev pub tickets_at : Stage → ℕ
tickets_at Idle = 0
tickets_at (Waits t) = 1
tickets_at (Works t) = 1

module _ {V E : Type 0} where
  abbrev pub share_in : View V E → ℕ
  share_in v = v.share

  abbrev pub tickets_in : View V E → ℕ
  tickets_in v = tickets_at v.stage

  -- a seat's ticket is one of those not yet served, and no other seat has it. The one that works is served, and has seen the whole list
  abbrev pub Stands : Course E → ℕ → View V E → Stage → Type 0
  Stands c me v Idle = Unit {0}
  Stands c me v (Waits t) = (0 < v.share) × (c.serving ≤ t) × (t < c.next) × (c.holder t ≡ me)
  Stands c me v (Works t) = (0 < v.share) × (t ≡ c.serving) × (t < c.next) × (c.holder t ≡ me) × (c.busy ≡ true) × (v.seen ≡ c.log)

-- A pass knows the first value, has seen a beginning of the one list, what it met in a join is a beginning of that, and it owns what stands at its places. A spent one owns nothing
pub record Fits {V E : Type 0} (c : Course E) (first : V) (me : ℕ) (v : View V E) : Type 0 where
  pub knows : 0 < v.share → v.first ≡ Some first
  pub seen : IsPrefix v.seen c.log
  pub met : IsPrefix v.met v.seen
  pub own : v.own ≡ owned c.owner me c.log
  pub spent : v.share ≡ 0 → v.own ≡ []
  pub stands : Stands c me v v.stage

module _ {V B E : Type 0} (start_of : V → B) (list_of : V → List E) where
  -- the slot is out while a seat works, and else has a value with the start of the first, whose list is the one list
  abbrev pub Keeps : V → List E → Bool → List (maybe.Option (Slot V)) → Type 0
  Keeps first log false homes = (x : V) × (homes ≡ maybe.some (Home x) ∷ []) × (start_of x ≡ start_of first) × (list_of x ≡ log)
  Keeps first log true homes = homes ≡ maybe.none ∷ []

-- The rule
pub record Ruled {V B E : Type 0} (start_of : V → B) (list_of : V → List E) (first : V) (seats : ℕ) (s : State (Slot V) (View V E)) : Type 0 where
  pub course : Course E
  pub words : s.words ≡ course.next % 2 ^ 64 ∷ course.serving % 2 ^ 64 ∷ length course.log ∷ []
  pub homes : Keeps start_of list_of first course.log course.busy s.homes
  pub worker : course.busy ≡ true → (v : View V E) × (get_elem? s.views (course.holder course.serving) ≡ maybe.some v) × (v.stage ≡ Works course.serving)
  pub tickets : course.serving + sum_by tickets_in s.views ≡ course.next
  pub shares : sum_by share_in s.views ≡ seats
  pub few : seats < 2 ^ 32
  pub owners : (place : ℕ) → place < length course.log → course.owner place < length s.views
  pub each : (j : ℕ) (v : View V E) → get_elem? s.views j ≡ maybe.some v → Fits course first j v

module _ {V E : Type 0} where
  -- the view of the first pass
  abbrev pub first_view : V → ℕ → View V E
  first_view first seats = record { share = seats; stage = Idle; first = Some first; seen = []; met = []; own = [] }

  abbrev pub spent_view : View V E
  spent_view = record { share = 0; stage = Idle; first = None; seen = []; met = []; own = [] }

  -- the view with this stage
  abbrev pub at_stage : Stage → View V E → View V E
  at_stage stage v = record { share = v.share; stage = stage; first = v.first; seen = v.seen; met = v.met; own = v.own }

  -- the view in its turn, in which it has seen this list
  abbrev pub works : ℕ → List E → View V E → View V E
  works t log v = record { share = v.share; stage = Works t; first = v.first; seen = log; met = []; own = v.own }

  -- the view with one entry more, which it owns
  abbrev pub noted : E → View V E → View V E
  noted e v = record { share = v.share; stage = v.stage; first = v.first; seen = v.seen ++ e ∷ []; met = []; own = v.own ++ (length v.seen, e) ∷ [] }

  -- what is left of a view that was split, and the new one
  abbrev pub left_part : View V E → View V E
  left_part v = record { share = v.share - 1; stage = v.stage; first = v.first; seen = v.seen; met = v.met; own = v.own }

  abbrev pub new_part : View V E → View V E
  new_part v = record { share = 1; stage = Idle; first = v.first; seen = v.seen; met = []; own = [] }

  -- two views in one
  abbrev pub both : View V E → View V E → View V E
  both v w = record { share = v.share + w.share; stage = v.stage; first = v.first; seen = longer v.seen w.seen; met = shorter v.seen w.seen; own = merged v.own w.own }

abbrev Sat : Type 0 → Type 0 → Type 0
Sat V E = Me (Slot V) (View V E)

abbrev At : Type 0 → Type 0
At V = Step (Slot V)

module _ {V E : Type 0} where
  -- a ticket was drawn, whose number modulo 2 ^ 64 was found
  abbrev pub draws : At V → Sat V E → ℕ → Sat V E → Type 0
  draws st m found m' = (t : ℕ) × (t % 2 ^ 64 ≡ found) × (m' ≡ (at_stage (Waits t) m.0, m.1))

  -- the turn has come: the value was taken, and the whole list seen
  abbrev pub Enters : {B : Type 0} → (V → B) → (V → List E) → ℕ → Sat V E → Sat V E → Type 0
  Enters start_of list_of t m m' = (x : V) × (m' ≡ (works t (list_of x) m.0, (0, Home x) ∷ m.1)) × IsPrefix m.0.seen (list_of x)
      × ((first : V) → m.0.first ≡ Some first → start_of x ≡ start_of first)

  -- the number that is served was found
  abbrev pub looks : {B : Type 0} → (V → B) → (V → List E) → At V → Sat V E → ℕ → Sat V E → Type 0
  looks start_of list_of st m found m' = (t : ℕ) → m.0.stage ≡ Waits t
      → (found ≡ t % 2 ^ 64 → Enters start_of list_of t m m') × (found ≢ t % 2 ^ 64 → m' ≡ m)

  -- the entry by which the shown value's list is longer was counted
  abbrev pub counts : (V → List E) → At V → Sat V E → ℕ → Sat V E → Type 0
  counts list_of st m found m' = (x : Snapshot V) (e : E) → st.said ≡ maybe.some (Shown x) → list_of x.value ≡ m.0.seen ++ e ∷ [] → m' ≡ (noted e m.0, m.1)

  -- the turn is over, and the value at home
  abbrev pub passes : At V → Sat V E → ℕ → Sat V E → Type 0
  passes st m found m' = m' ≡ (at_stage Idle m.0, rest m.1)

  -- nothing changed; the own entries are in the order of their places, and no place stands twice; of the lists that were
  -- joined last, the shorter is a beginning of the one that is known
  abbrev pub reads : At V → Sat V E → ℕ → Sat V E → Type 0
  reads st m found m' = (m' ≡ m) × IsInOrder m.0.own × IsPrefix m.0.met m.0.seen
