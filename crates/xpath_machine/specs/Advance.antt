-- One step of a reader with the brackets counted, and what makes a machine a reader of a grammar.
use Rattle.std.specs.Prelude.{◌≡◌, ◌≤◌, ◌<◌, ◌⊎◌, ℕ, List, [], ◌∷◌, ◌++◌, Option, Some, None}
use Rattle.xpath_tokens.specs.declared.symbol.Symbol.{Symbol}
use Rattle.xpath_machine.specs.Stops.{next_depth, BeginsBy}

-- the token opens a bracket past the limit, or leads nowhere
abbrev pub Refuses : {S : Type 0} → (S → Symbol → Option S) → S → ℕ → Symbol → Type 0
Refuses leads state depth t = (64 < next_depth depth t) ⊎ (leads state t ≡ None)

pub record Advances {S : Type 0} (leads : S → Symbol → Option S) (state : S) (depth : ℕ) (t : Symbol) (next : S) (next_to : ℕ) : Type 0 where
  pub state_is : leads state t ≡ Some next
  pub depth_is : next_to ≡ next_depth depth t
  pub shallow : next_to ≤ 64

abbrev pub IsAdvanced : {S : Type 0} → (S → Symbol → Option S) → S → ℕ → Symbol → Option (S × ℕ) → Type 0
IsAdvanced leads state depth t None = Refuses leads state depth t
IsAdvanced leads state depth t (Some next) = Advances leads state depth t next.0 next.1

-- A machine reads the trees of a grammar: tokens lead it on exactly where such a tree's tokens can begin with them, and it tells
-- the tree where they may end.
pub record ReadsBy {S T : Type 0} (run : List Symbol → Option S) (leads : S → Symbol → Option S) (finish : S → Option T) (Is : List Symbol → T → Type 0) : Type 0 where
  pub more : (tokens : List Symbol) (state : S) (t : Symbol) → run tokens ≡ Some state → run (tokens ++ t ∷ []) ≡ leads state t
  pub begins : (tokens : List Symbol) (state : S) → run tokens ≡ Some state → BeginsBy Is tokens
  pub stuck : (tokens : List Symbol) → run tokens ≡ None → BeginsBy Is tokens → ⊥
  pub tree : (tokens : List Symbol) (state : S) (tree : T) → run tokens ≡ Some state → finish state ≡ Some tree → Is tokens tree
  pub none : (tokens : List Symbol) (state : S) (tree : T) → run tokens ≡ Some state → finish state ≡ None → Is tokens tree → ⊥
