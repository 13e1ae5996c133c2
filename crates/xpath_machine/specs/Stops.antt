-- How far a list of tokens can be read by a grammar, within the limit of open brackets.
use Rattle.std.specs.Prelude.{◌≤◌, ◌<◌, ℕ, suc, pred, List, [], ◌∷◌, ◌++◌, take, length, Result, Ok, Err}
use Rattle.xpath_tokens.specs.declared.symbol.Symbol.{Symbol}
use Rattle.xpath_tokens.specs.declared.symbol.Symbol.TheVariants as symbol

-- how many brackets are open behind a token
abbrev pub next_depth : ℕ → Symbol → ℕ
next_depth open_now symbol.Open = suc open_now
next_depth open_now symbol.OpenBracket = suc open_now
next_depth open_now symbol.Close = pred open_now
next_depth open_now symbol.CloseBracket = pred open_now
next_depth open_now _ = open_now

-- with so many brackets open before these tokens, no more than 64 are ever open at once (this project's own limit)
abbrev pub IsShallowFrom : ℕ → List Symbol → Type 0
IsShallowFrom open_now [] = Unit {0}
IsShallowFrom open_now (t ∷ ts) = (next_depth open_now t ≤ 64) × IsShallowFrom (next_depth open_now t) ts

abbrev pub IsShallow : List Symbol → Type 0
IsShallow = IsShallowFrom 0

-- By a grammar, which says which tokens stand for which tree

-- the tokens have this tree, within the limit
abbrev pub HasTreeBy : {T : Type 0} → (List Symbol → T → Type 0) → List Symbol → T → Type 0
HasTreeBy Is tokens tree = Is tokens tree × IsShallow tokens

-- the tokens of a tree can begin with these
abbrev pub BeginsBy : {T : Type 0} → (List Symbol → T → Type 0) → List Symbol → Type 0
BeginsBy {T} Is tokens = (more : List Symbol) × (tree : T) × Is (tokens ++ more) tree

-- the same, within the limit
abbrev pub CanGoOnBy : {T : Type 0} → (List Symbol → T → Type 0) → List Symbol → Type 0
CanGoOnBy Is tokens = BeginsBy Is tokens × IsShallow tokens

-- Token number k, from 0, is the first with which no tree's tokens can go on; where there are only k tokens, they end too early.
pub record IsStopBy {T : Type 0} (Is : List Symbol → T → Type 0) (tokens : List Symbol) (k : ℕ) : Type 0 where
  pub within : k ≤ length tokens
  pub before : CanGoOnBy Is (take k tokens)
  pub stuck : k < length tokens → CanGoOnBy Is (take (suc k) tokens) → ⊥
  pub none : (tree : T) → HasTreeBy Is tokens tree → ⊥

-- what reading the tokens gives: a tree, or the number of the token at which they stop
abbrev pub IsParsedBy : {T : Type 0} → (List Symbol → T → Type 0) → List Symbol → Result T ℕ → Type 0
IsParsedBy Is tokens (Ok tree) = HasTreeBy Is tokens tree
IsParsedBy Is tokens (Err k) = IsStopBy Is tokens k
