-- The order of template rules (XSLT 1.0, section 5.5).
use Rattle.std.specs.Prelude.{◌≡◌, ℕ, ◌==◌, ◌&&◌, ◌||◌, ◌<◌, not, nat_lt, int_lt, Bool, true, List, Some, slice_get, Contains}
use Rattle.style_sheet.specs.declared.style.Rule.{Rule}

-- a rule stands before another in the order of import precedence, then of priority, then of place
abbrev pub is_less : Rule → Rule → Bool
is_less a b =
    nat_lt a.precedence b.precedence
    || (a.precedence == b.precedence && (int_lt a.priority b.priority || (not (int_lt b.priority a.priority) && nat_lt a.place b.place)))

-- these are the numbers of all rules, a greater rule standing before a lesser one
pub record AreGreatestFirst (rules : List Rule) (numbers : List ℕ) : Type 0 where
  pub all : (n : ℕ) (rule : Rule) → slice_get rules n ≡ Some rule → Contains numbers n
  pub known : (i n : ℕ) → slice_get numbers i ≡ Some n → (rule : Rule) × (slice_get rules n ≡ Some rule)
  pub descending : (i j m n : ℕ) (a b : Rule) → i < j → slice_get numbers i ≡ Some m → slice_get numbers j ≡ Some n →
      slice_get rules m ≡ Some a → slice_get rules n ≡ Some b → is_less b a ≡ true
