-- What tokens lead to, and what the end of an operand does to what waits for it.
use Rattle.std.proofs.Common.{◌≡◌, ◌<◌, ◌≤◌, ℕ, cond, List, [], ◌∷◌, Option, Some, None, refl, ap, arith}
use Rattle.xpath_trees.specs.declared.expr.Expr.{Expr}
use Rattle.xpath_trees.specs.declared.expr.Expr.TheVariants as expr
use Rattle.xpath_trees.specs.declared.expr.Signs.{Signs}
use Rattle.xpath_tokens.specs.declared.symbol.Operator.{Operator}
use Rattle.xpath_tokens.specs.declared.symbol.Symbol.{Symbol}
use Rattle.xpath_tokens.specs.declared.symbol.Symbol.TheVariants as symbol
use Rattle.xpath_grammar.specs.declared.operand.Level.{Level}
use Rattle.xpath_grammar.specs.declared.operand.Level.TheVariants as level
use Rattle.xpath_grammar.specs.declared.operand.Operand.{Operand}
use Rattle.xpath_grammar.specs.declared.operand.Chain.{Chain}
use Rattle.xpath_parser.specs.declared.state.Pending.{Pending}
use Rattle.xpath_parser.specs.declared.state.Pending.TheVariants as pending
use Rattle.xpath_parser.specs.declared.state.State.{State}
use Rattle.xpath_tokens.proofs.Comparing.{less, not_less, differs}
use Rattle.xpath_grammar.specs.Trees.{level_of, rank}
use Rattle.xpath_grammar.specs.Parts.{whole, operand_tree, chained, begun, longer}
use Rattle.xpath_parser.specs.Machine.{behind, closed, with_operator, after_operator, end_group, end_predicate, next_argument, finished_in, after, finish}

-- the tree that tokens lead to
abbrev pub outcome : Option State → List Symbol → Option Expr
outcome None ts = None
outcome (Some s) [] = finish s
outcome (Some s) (t ∷ ts) = outcome (after s t) ts

pub rank-some : (l : Level) → 0 < rank l
rank-some level.Or = omega arith
rank-some level.And = omega arith
rank-some level.Equality = omega arith
rank-some level.Relational = omega arith
rank-some level.Additive = omega arith
rank-some level.Multiplicative = omega arith
rank-some level.Union = omega arith

-- what may follow an operand that binds as this number or tighter, and does not go on in it
abbrev pub MayFollow : ℕ → Symbol → Type 0
MayFollow k (symbol.Operator op) = rank (level_of op) < k
MayFollow k symbol.Close = Unit {0}
MayFollow k symbol.CloseBracket = Unit {0}
MayFollow k symbol.Comma = Unit {0}
MayFollow k _ = ⊥

abbrev pub Follows : ℕ → List Symbol → Type 0
Follows k [] = Unit {0}
Follows k (t ∷ ts) = MayFollow k t

pub follows_more : (k m : ℕ) → k ≤ m → (rest : List Symbol) → Follows k rest → Follows m rest
follows_more k m le [] f = tt
follows_more k m le (t ∷ ts) f = go t f
  where
    go : (u : Symbol) → MayFollow k u → MayFollow m u
    go (symbol.Operator op) g = omega arith
    go symbol.Close g = tt
    go symbol.CloseBracket g = tt
    go symbol.Comma g = tt
    go _ g = absurd g

-- what waits binds less than this number, as far as it comes before a bracket
abbrev pub Fits : ℕ → List Pending → Type 0
Fits k [] = Unit {0}
Fits k (pending.Chain c ∷ s) = rank (level_of c.last) < k
Fits k (pending.Minus signs ∷ s) = 7 < k
Fits k (pending.Group ∷ s) = Unit {0}
Fits k (pending.Call f args ∷ s) = Unit {0}
Fits k (pending.Predicate o ∷ s) = Unit {0}

pub fits_more : (k m : ℕ) → k ≤ m → (s : List Pending) → Fits k s → Fits m s
fits_more k m le [] f = tt
fits_more k m le (pending.Chain c ∷ s) f = omega arith
fits_more k m le (pending.Minus signs ∷ s) f = omega arith
fits_more k m le (pending.Group ∷ s) f = tt
fits_more k m le (pending.Call g args ∷ s) f = tt
fits_more k m le (pending.Predicate o ∷ s) f = tt

-- what waits and binds less is not put together
pub fits_closed : (k : ℕ) (e : Expr) (s : List Pending) → Fits k s → closed k e s ≡ (e, s)
fits_closed k e [] f = refl
fits_closed k e (pending.Chain c ∷ s) f =
    ap (λ b. cond b (closed k (chained c e) s) (e, pending.Chain c ∷ s)) (not_less k (rank (level_of c.last)) (omega arith))
fits_closed k e (pending.Minus signs ∷ s) f =
    ap (λ b. cond b (closed k (expr.Negate signs e) s) (e, pending.Minus signs ∷ s)) (not_less k 7 (omega arith))
fits_closed k e (pending.Group ∷ s) f = refl
fits_closed k e (pending.Call g args ∷ s) f = refl
fits_closed k e (pending.Predicate o ∷ s) f = refl

-- an operator that binds tighter than what waits begins a chain
pub fits_operator : (op : Operator) (e : Expr) (s : List Pending) → Fits (rank (level_of op)) s → with_operator op e s ≡ pending.Chain (begun e op) ∷ s
fits_operator op e [] f = refl
fits_operator op e (pending.Chain c ∷ s) f =
    ap (λ b. cond b (pending.Chain (longer c e op) ∷ s) (pending.Chain (begun e op) ∷ (pending.Chain c ∷ s))) (differs (rank (level_of c.last)) (rank (level_of op)) f)
fits_operator op e (pending.Minus signs ∷ s) f = refl
fits_operator op e (pending.Group ∷ s) f = refl
fits_operator op e (pending.Call g args ∷ s) f = refl
fits_operator op e (pending.Predicate o ∷ s) f = refl

-- an operand that ends counts by its tree alone
pub same_tree : (o p : Operand) (s : List Pending) → operand_tree o ≡ operand_tree p → (k : ℕ) (rest : List Symbol) → Follows k rest
    → outcome (Some (behind o s)) rest ≡ outcome (Some (behind p s)) rest
same_tree o p s e k [] f = ap (λ x. finished_in (closed 0 x s).0 (closed 0 x s).1) e
same_tree o p s e k (t ∷ ts) f = go t f
  where
    go : (u : Symbol) → MayFollow k u → outcome (Some (behind o s)) (u ∷ ts) ≡ outcome (Some (behind p s)) (u ∷ ts)
    go (symbol.Operator op) g = ap (λ x. outcome (Some (after_operator op (closed (rank (level_of op)) x s))) ts) e
    go symbol.Close g = ap (λ x. outcome (end_group (closed 0 x s).0 (closed 0 x s).1) ts) e
    go symbol.CloseBracket g = ap (λ x. outcome (end_predicate (closed 0 x s).0 (closed 0 x s).1) ts) e
    go symbol.Comma g = ap (λ x. outcome (next_argument (closed 0 x s).0 (closed 0 x s).1) ts) e
    go _ g = absurd g

-- what waits on the top and is put together with the operand, before anything that binds less than this number
pub put_together : (o : Operand) (p : Pending) (s : List Pending) (e : Expr) (k : ℕ) → ((least : ℕ) → least < k → closed least (operand_tree o) (p ∷ s) ≡ closed least e s) → 0 < k
    → (rest : List Symbol) → Follows k rest → outcome (Some (behind o (p ∷ s))) rest ≡ outcome (Some (behind (whole e) s)) rest
put_together o p s e k same some [] f = ap (λ (c : Expr × List Pending). finished_in c.0 c.1) (same 0 some)
put_together o p s e k same some (t ∷ ts) f = go t f
  where
    go : (u : Symbol) → MayFollow k u → outcome (Some (behind o (p ∷ s))) (u ∷ ts) ≡ outcome (Some (behind (whole e) s)) (u ∷ ts)
    go (symbol.Operator op) g = ap (λ c. outcome (Some (after_operator op c)) ts) (same (rank (level_of op)) g)
    go symbol.Close g = ap (λ (c : Expr × List Pending). outcome (end_group c.0 c.1) ts) (same 0 some)
    go symbol.CloseBracket g = ap (λ (c : Expr × List Pending). outcome (end_predicate c.0 c.1) ts) (same 0 some)
    go symbol.Comma g = ap (λ (c : Expr × List Pending). outcome (next_argument c.0 c.1) ts) (same 0 some)
    go _ g = absurd g

-- a chain with its last operand
pub chain_ends : (o : Operand) (c : Chain) (s : List Pending) (k : ℕ) → k ≤ rank (level_of c.last) → 0 < k → (rest : List Symbol) → Follows k rest
    → outcome (Some (behind o (pending.Chain c ∷ s))) rest ≡ outcome (Some (behind (whole (chained c (operand_tree o))) s)) rest
chain_ends o c s k le some rest f =
    put_together o (pending.Chain c) s (chained c (operand_tree o)) k
    (λ least lt. ap (λ b. cond b (closed least (chained c (operand_tree o)) s) (operand_tree o, pending.Chain c ∷ s)) (less least (rank (level_of c.last)) (omega arith))) some rest f

-- minus signs with their operand
pub sign_ends : (o : Operand) (signs : Signs) (s : List Pending) (k : ℕ) → k ≤ 7 → 0 < k → (rest : List Symbol) → Follows k rest
    → outcome (Some (behind o (pending.Minus signs ∷ s))) rest ≡ outcome (Some (behind (whole (expr.Negate signs (operand_tree o))) s)) rest
sign_ends o signs s k le some rest f =
    put_together o (pending.Minus signs) s (expr.Negate signs (operand_tree o)) k
    (λ least lt. ap (λ b. cond b (closed least (expr.Negate signs (operand_tree o)) s) (operand_tree o, pending.Minus signs ∷ s)) (less least 7 (omega arith))) some rest f
