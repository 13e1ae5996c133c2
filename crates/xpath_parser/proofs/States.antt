-- What the tokens so far are, by the state that they have led to.
use Rattle.std.proofs.Common.{◌≡◌, ◌<◌, ◌≤◌, ◌+◌, ℕ, suc, Bool, true, false, cond, nat_lt, List, [], ◌∷◌, ◌++◌, sym, refl, ap, ◌∙◌, subst, inl, inr, append_assoc, append-nil, arith}
use Rattle.std.specs.List.{AllByRecursion}
use Rattle.std.proofs.lemmas.Bool.Decides.{nat_tests}
use Rattle.serna_kinds.specs.declared.expressions.Axis.{Axis}
use Rattle.serna_kinds.specs.declared.expressions.NodeTest.{NodeTest}
use Rattle.xpath_trees.specs.declared.expr.Expr.{Expr}
use Rattle.xpath_trees.specs.declared.expr.Expr.TheVariants as expr
use Rattle.xpath_trees.specs.declared.expr.PathStart.TheVariants as start
use Rattle.xpath_trees.specs.declared.expr.Step.{Step}
use Rattle.xpath_trees.specs.declared.expr.Function.{Function}
use Rattle.xpath_tokens.specs.declared.symbol.Symbol.{Symbol}
use Rattle.xpath_tokens.specs.declared.symbol.Symbol.TheVariants as symbol
use Rattle.xpath_grammar.specs.declared.operand.Path.{Path}
use Rattle.xpath_grammar.specs.declared.operand.Operand.{Operand}
use Rattle.xpath_grammar.specs.declared.operand.Operand.TheVariants as operand
use Rattle.xpath_parser.specs.declared.state.Pending.{Pending}
use Rattle.xpath_parser.specs.declared.state.Pending.TheVariants as pending
use Rattle.xpath_parser.specs.declared.state.Place.{Place}
use Rattle.xpath_parser.specs.declared.state.Place.TheVariants as place
use Rattle.xpath_parser.specs.declared.state.State.{State}
use Rattle.xpath_grammar.specs.Trees.{step_of, any_descendant, level_of, rank, filtered}
use Rattle.xpath_grammar.specs.Grammar.{Part, part, Stepped, stepped, IsAxis, IsTest, bracketed, trees, IsStep, slash, behind_slash, widened, steps_behind, AreSteps, IsPrimary, IsFilter, IsPath, IsExprIn}
use Rattle.xpath_grammar.specs.Parts.{here, from_root, with_step, path_tree, operand_tree, chained}
use Rattle.xpath_parser.specs.Machine.{closed}
use Rattle.xpath_parser.proofs.Outcomes.{Fits, rank-some}
use Rattle.xpath_parser.proofs.Soundness.{tier, lift, tier_of, rank-tier, all-push, OpenChain, OpenSign, chain_part, sign_part}

-- Paths

abbrev pub with_steps : Path → List Step → Path
with_steps p steps = record { start = p.start; steps = p.steps ++ steps }

abbrev pub wide : Bool → Path → Path
wide true p = with_step p any_descendant
wide false p = p

wide-is : (b : Bool) (p : Path) (before : List Step) (x : Step) → with_step (wide b (with_steps p before)) x ≡ with_steps p (before ++ (widened b ++ x ∷ []))
wide-is true p before x = ap (λ l. record { start = p.start; steps = l }) (append_assoc (p.steps ++ before) (any_descendant ∷ []) (x ∷ []) ∙ append_assoc p.steps before (any_descendant ∷ x ∷ []))
wide-is false p before x = ap (λ l. record { start = p.start; steps = l }) (append_assoc p.steps before (x ∷ []))

pub behind_slash-push : (xs : List (Bool × Stepped)) (x : Bool × Stepped) → behind_slash (xs ++ x ∷ []) ≡ behind_slash xs ++ slash x.0 ∷ x.1.tokens
behind_slash-push [] x = ap (λ l. slash x.0 ∷ l) (append-nil x.1.tokens)
behind_slash-push (y ∷ ys) x =
    ap (λ l. slash y.0 ∷ l) (ap (λ l. y.1.tokens ++ l) (behind_slash-push ys x) ∙ sym (append_assoc y.1.tokens (behind_slash ys) (slash x.0 ∷ x.1.tokens)))

pub steps_behind-push : (xs : List (Bool × Stepped)) (x : Bool × Stepped) → steps_behind (xs ++ x ∷ []) ≡ steps_behind xs ++ (widened x.0 ++ x.1.step ∷ [])
steps_behind-push [] x = refl
steps_behind-push (y ∷ ys) x =
    ap (λ l. widened y.0 ++ (y.1.step ∷ l)) (steps_behind-push ys x) ∙ sym (append_assoc (widened y.0) (y.1.step ∷ steps_behind ys) (widened x.0 ++ x.1.step ∷ []))

-- the three paths with steps, by their base: a first step, the root, or a filter expression
pub data Base : Type 0 where
  Here : Stepped → Base
  Rooted : Base
  From : Part → Base

abbrev pub base_tokens : Base → List Symbol
base_tokens (Here first) = first.tokens
base_tokens Rooted = []
base_tokens (From q) = q.tokens

abbrev pub base_path : Base → Path
base_path (Here first) = with_step here first.step
base_path Rooted = from_root
base_path (From q) = record { start = start.From q.tree; steps = [] }

abbrev pub IsBase : (Part → Type 0) → Base → Type 0
IsBase I (Here first) = IsStep I first
IsBase I Rooted = Unit {0}
IsBase I (From q) = IsFilter I q

-- a path has a step at its end
abbrev pub HasStep : Base → List (Bool × Stepped) → Type 0
HasStep (Here first) xs = Unit {0}
HasStep Rooted [] = ⊥
HasStep Rooted (x ∷ xs) = Unit {0}
HasStep (From q) [] = ⊥
HasStep (From q) (x ∷ xs) = Unit {0}

has_step-push : (b : Base) (xs : List (Bool × Stepped)) (x : Bool × Stepped) → HasStep b (xs ++ x ∷ [])
has_step-push (Here first) xs x = tt
has_step-push Rooted [] x = tt
has_step-push Rooted (y ∷ ys) x = tt
has_step-push (From q) [] x = tt
has_step-push (From q) (y ∷ ys) x = tt

-- a path, the last of whose steps is whole
pub record PathSoFar (I : Part → Type 0) (p : Path) (tokens : List Symbol) : Type 0 where
  pub base : Base
  pub others : List (Bool × Stepped)
  pub base_is : IsBase I base
  pub others_are : AreSteps I others
  pub some : HasStep base others
  pub path_is : p ≡ with_steps (base_path base) (steps_behind others)
  pub tokens_are : tokens ≡ base_tokens base ++ behind_slash others

-- a step is wanted: with any step behind it there is such a path
abbrev pub Wants : (Part → Type 0) → Path → List Symbol → Type 0
Wants I p tokens = (x : Stepped) → IsStep I x → PathSoFar I (with_step p x.step) (tokens ++ x.tokens)

pub wants_here : (I : Part → Type 0) → Wants I here []
wants_here I x is = record { base = Here x; others = []; base_is = is; others_are = tt; some = tt; path_is = refl; tokens_are = sym (append-nil x.tokens) }

pub wants_root : (I : Part → Type 0) → Wants I from_root (symbol.Slash ∷ [])
wants_root I x is = record { base = Rooted; others = (false, x) ∷ []; base_is = tt; others_are = (is, tt); some = tt; path_is = refl; tokens_are = ap (λ l. symbol.Slash ∷ l) (sym (append-nil x.tokens)) }

pub wants_descendants : (I : Part → Type 0) → Wants I (with_step from_root any_descendant) (symbol.DoubleSlash ∷ [])
wants_descendants I x is = record { base = Rooted; others = (true, x) ∷ []; base_is = tt; others_are = (is, tt); some = tt; path_is = refl; tokens_are = ap (λ l. symbol.DoubleSlash ∷ l) (sym (append-nil x.tokens)) }

-- behind a slash a step is wanted
wants_more : (I : Part → Type 0) (b : Base) (xs : List (Bool × Stepped)) → IsBase I b → AreSteps I xs → (slashes : Bool)
    → Wants I (wide slashes (with_steps (base_path b) (steps_behind xs))) ((base_tokens b ++ behind_slash xs) ++ slash slashes ∷ [])
wants_more I b xs base_is are slashes x is = record {
  base = b;
  others = xs ++ (slashes, x) ∷ [];
  base_is = base_is;
  others_are = all-push (λ (y : Bool × Stepped). IsStep I y.1) xs (slashes, x) are is;
  some = has_step-push b xs (slashes, x);
  path_is = wide-is slashes (base_path b) (steps_behind xs) x.step ∙ ap (with_steps (base_path b)) (sym (steps_behind-push xs (slashes, x)));
  tokens_are = append_assoc (base_tokens b ++ behind_slash xs) (slash slashes ∷ []) x.tokens
      ∙ append_assoc (base_tokens b) (behind_slash xs) (slash slashes ∷ x.tokens)
      ∙ ap (λ l. base_tokens b ++ l) (sym (behind_slash-push xs (slashes, x)));
}

pub wants_behind : (I : Part → Type 0) (p : Path) (tokens : List Symbol) → PathSoFar I p tokens → (slashes : Bool) → Wants I (wide slashes p) (tokens ++ slash slashes ∷ [])
wants_behind I p tokens w slashes =
    subst (λ q. Wants I (wide slashes q) (tokens ++ slash slashes ∷ [])) (sym w.path_is)
    (subst (λ l. Wants I (wide slashes (with_steps (base_path w.base) (steps_behind w.others))) (l ++ slash slashes ∷ [])) (sym w.tokens_are) (wants_more I w.base w.others w.base_is w.others_are slashes))

pub wants_behind_filter : (I : Part → Type 0) (q : Part) → IsFilter I q → (slashes : Bool) → Wants I (wide slashes (record { start = start.From q.tree; steps = [] })) (q.tokens ++ slash slashes ∷ [])
wants_behind_filter I q is slashes =
    subst (λ l. Wants I (wide slashes (record { start = start.From q.tree; steps = [] })) (l ++ slash slashes ∷ [])) (append-nil q.tokens) (wants_more I (From q) [] is tt slashes)

-- such a path is an operand
path_part : (I : Part → Type 0) (p : Path) (tokens : List Symbol) → PathSoFar I p tokens → IsPath I (part tokens (path_tree p))
path_part I p tokens w =
    subst (λ q. IsPath I (part tokens (path_tree q))) (sym w.path_is) (subst (λ l. IsPath I (part l (path_tree (with_steps (base_path w.base) (steps_behind w.others))))) (sym w.tokens_are) (go w.base w.others w.base_is w.others_are w.some))
  where
    go : (b : Base) (xs : List (Bool × Stepped)) → IsBase I b → AreSteps I xs → HasStep b xs → IsPath I (part (base_tokens b ++ behind_slash xs) (path_tree (with_steps (base_path b) (steps_behind xs))))
    go (Here first) xs is are some = inl (record { first = first; others = xs; first_is = is; others_are = are; whole_is = refl })
    go Rooted [] is are some = absurd some
    go Rooted (x ∷ xs) is are some = inr (inr (inl (record { first = x; others = xs; steps_are = are; whole_is = refl })))
    go (From q) [] is are some = absurd some
    go (From q) (x ∷ xs) is are some = inr (inr (inr (inr (record { from = q; first = x; others = xs; from_is = is; steps_are = are; whole_is = refl }))))

-- Operands

pub record StepSoFar (I : Part → Type 0) (p : Path) (a : Axis) (t : NodeTest) (predicates : List Expr) (tokens : List Symbol) : Type 0 where
  pub before : List Symbol
  pub axis_tokens : List Symbol
  pub test_tokens : List Symbol
  pub parts : List Part
  pub wants : Wants I p before
  pub axis_is : IsAxis axis_tokens a
  pub test_is : IsTest test_tokens t
  pub parts_are : AllByRecursion I parts
  pub predicates_are : predicates ≡ trees parts
  pub tokens_are : tokens ≡ before ++ (axis_tokens ++ (test_tokens ++ bracketed parts))

pub record FilterSoFar (I : Part → Type 0) (e : Expr) (predicates : List Expr) (tokens : List Symbol) : Type 0 where
  pub plain : Part
  pub parts : List Part
  pub plain_is : IsPrimary I plain
  pub parts_are : AllByRecursion I parts
  pub tree_is : e ≡ plain.tree
  pub predicates_are : predicates ≡ trees parts
  pub tokens_are : tokens ≡ plain.tokens ++ bracketed parts

-- the tokens of the operand that was just read
abbrev pub IsOperand : (Part → Type 0) → Operand → List Symbol → Type 0
IsOperand I operand.Root tokens = tokens ≡ symbol.Slash ∷ []
IsOperand I (operand.Abbreviated p) tokens = PathSoFar I p tokens
IsOperand I (operand.Step p a t predicates) tokens = StepSoFar I p a t predicates tokens
IsOperand I (operand.Primary e predicates) tokens = FilterSoFar I e predicates tokens

pub step_path : (I : Part → Type 0) (p : Path) (a : Axis) (t : NodeTest) (predicates : List Expr) (tokens : List Symbol) → StepSoFar I p a t predicates tokens → PathSoFar I (with_step p (step_of a t predicates)) tokens
step_path I p a t predicates tokens w =
    let x = stepped (w.axis_tokens ++ (w.test_tokens ++ bracketed w.parts)) (step_of a t (trees w.parts)) in
    let is : IsStep I x = inl (record {
      axis_tokens = w.axis_tokens;
      test_tokens = w.test_tokens;
      on = a;
      test = t;
      predicates = w.parts;
      axis_is = w.axis_is;
      test_is = w.test_is;
      predicates_are = w.parts_are;
      whole_is = refl;
    }) in
    subst (λ l. PathSoFar I (with_step p (step_of a t l)) tokens) (sym w.predicates_are) (subst (PathSoFar I (with_step p x.step)) (sym w.tokens_are) (w.wants x is))

pub filter_part : (I : Part → Type 0) (e : Expr) (predicates : List Expr) (tokens : List Symbol) → FilterSoFar I e predicates tokens → IsFilter I (part tokens (filtered e predicates))
filter_part I e predicates tokens w = record {
  plain = w.plain;
  predicates = w.parts;
  plain_is = w.plain_is;
  predicates_are = w.parts_are;
  whole_is = ap (λ l. part l (filtered e predicates)) w.tokens_are ∙ ap (λ x. part (w.plain.tokens ++ bracketed w.parts) (filtered x predicates)) w.tree_is
      ∙ ap (λ l. part (w.plain.tokens ++ bracketed w.parts) (filtered w.plain.tree l)) w.predicates_are;
}

operand_part : (I : Part → Type 0) (o : Operand) (tokens : List Symbol) → IsOperand I o tokens → IsPath I (part tokens (operand_tree o))
operand_part I operand.Root tokens e = inr (inl (ap (λ l. part l (expr.Path start.Root [])) e))
operand_part I (operand.Abbreviated p) tokens w = path_part I p tokens w
operand_part I (operand.Step p a t predicates) tokens w = path_part I (with_step p (step_of a t predicates)) tokens (step_path I p a t predicates tokens w)
operand_part I (operand.Primary e predicates) tokens w = inr (inr (inr (inl (filter_part I e predicates tokens w))))

-- What waits

abbrev pub ended : List Part → List Symbol
ended [] = []
ended (p ∷ ps) = p.tokens ++ symbol.Comma ∷ ended ps

-- the operands that may get predicates
abbrev pub MayFilter : Operand → Type 0
MayFilter operand.Root = ⊥
MayFilter (operand.Abbreviated p) = ⊥
MayFilter (operand.Step p a t predicates) = Unit {0}
MayFilter (operand.Primary e predicates) = Unit {0}

-- the tokens in front of the operand that is being read; the number bounds how deep brackets may still stand in it
abbrev pub Front : ℕ → List Pending → List Symbol → Type 0
Front d [] before = before ≡ []
Front d (pending.Chain c ∷ s) before = OpenChain (IsExprIn d) c s (Front d s) before
Front d (pending.Minus signs ∷ s) before = OpenSign signs s (Front d s) before
Front d (pending.Group ∷ s) before = (start : List Symbol) × Front (suc d) s start × (before ≡ start ++ symbol.Open ∷ [])
Front d (pending.Call g args ∷ s) before = (start : List Symbol) × (given : List Part) × Front (suc d) s start × AllByRecursion (IsExprIn (suc d)) given × (args ≡ trees given)
    × (before ≡ start ++ (symbol.Callee g ∷ (symbol.Open ∷ ended given)))
Front d (pending.Predicate o ∷ s) before = (start : List Symbol) × (tokens : List Symbol) × Front (suc d) s start × IsOperand (IsExprIn (suc d)) o tokens × (before ≡ start ++ (tokens ++ symbol.OpenBracket ∷ [])) × MayFilter o

-- the tokens behind those
abbrev pub AtPlace : (Part → Type 0) → Place → List Pending → List Symbol → Type 0
AtPlace I place.Operand s inside = inside ≡ []
AtPlace I place.Argument s inside = (inside ≡ []) × ((g : Function) × (rest : List Pending) × (s ≡ pending.Call g [] ∷ rest))
AtPlace I (place.Callee g) s inside = inside ≡ symbol.Callee g ∷ []
AtPlace I (place.Step p) s inside = Wants I p inside
AtPlace I (place.Axis p a) s inside = (before : List Symbol) × Wants I p before × (inside ≡ before ++ symbol.AxisName a ∷ [])
AtPlace I (place.Test p a) s inside = (before : List Symbol) × (axis_tokens : List Symbol) × Wants I p before × IsAxis axis_tokens a × (inside ≡ before ++ axis_tokens)
AtPlace I (place.NodeOpen p a t) s inside = (before : List Symbol) × (axis_tokens : List Symbol) × Wants I p before × IsAxis axis_tokens a × (inside ≡ before ++ (axis_tokens ++ symbol.NodeType t ∷ []))
AtPlace I (place.NodeClose p a t) s inside = (before : List Symbol) × (axis_tokens : List Symbol) × Wants I p before × IsAxis axis_tokens a
    × (inside ≡ before ++ (axis_tokens ++ symbol.NodeType t ∷ symbol.Open ∷ []))
AtPlace I (place.Behind o) s inside = IsOperand I o inside

pub record HasIn (d : ℕ) (p : Place) (s : List Pending) (tokens : List Symbol) : Type 0 where
  pub before : List Symbol
  pub inside : List Symbol
  pub front : Front d s before
  pub place_is : AtPlace (IsExprIn d) p s inside
  pub tokens_are : tokens ≡ before ++ inside

abbrev pub Has : ℕ → State → List Symbol → Type 0
Has d state tokens = HasIn d state.place state.stack tokens

-- Putting together

-- the tier of a part fits what waits for it
abbrev pub FitsTier : ℕ → List Pending → Type 0
FitsTier n [] = n ≤ 8
FitsTier n (pending.Chain c ∷ s) = n ≤ tier_of (level_of c.last)
FitsTier n (pending.Minus signs ∷ s) = n ≤ 1
FitsTier n (pending.Group ∷ s) = n ≤ 8
FitsTier n (pending.Call g args ∷ s) = n ≤ 8
FitsTier n (pending.Predicate o ∷ s) = n ≤ 8

-- what waits on top does not bind tighter than this number
abbrev pub IsClosed : ℕ → List Pending → Type 0
IsClosed least [] = Unit {0}
IsClosed least (pending.Chain c ∷ s) = rank (level_of c.last) ≤ least
IsClosed least (pending.Minus signs ∷ s) = 7 ≤ least
IsClosed least (pending.Group ∷ s) = Unit {0}
IsClosed least (pending.Call g args ∷ s) = Unit {0}
IsClosed least (pending.Predicate o ∷ s) = Unit {0}

fits_tier : (k n : ℕ) → k + n ≤ 9 → k ≤ 8 → n ≤ 8 → (s : List Pending) → Fits k s → FitsTier n s
fits_tier k n le few low [] f = low
fits_tier k n le few low (pending.Chain c ∷ s) f = let e = rank-tier (level_of c.last) in omega arith
fits_tier k n le few low (pending.Minus signs ∷ s) f = omega arith
fits_tier k n le few low (pending.Group ∷ s) f = low
fits_tier k n le few low (pending.Call g args ∷ s) f = low
fits_tier k n le few low (pending.Predicate o ∷ s) f = low

pub record PutTogether (d least : ℕ) (c : Expr × List Pending) (tokens : List Symbol) : Type 0 where
  pub before : List Symbol
  pub whole : Part
  pub tier_is : ℕ
  pub front : Front d c.1 before
  pub is : tier (IsExprIn d) tier_is whole
  pub fits : FitsTier tier_is c.1
  pub small : tier_is + least ≤ 8
  pub closed_so : IsClosed least c.1
  pub tree_is : c.0 ≡ whole.tree
  pub tokens_are : tokens ≡ before ++ whole.tokens

put : (d least n : ℕ) (s : List Pending) (e : Expr) (before : List Symbol) (q : Part) → Front d s before → tier (IsExprIn d) n q → FitsTier n s → n + least ≤ 8 → IsClosed least s → e ≡ q.tree
    → PutTogether d least (e, s) (before ++ q.tokens)
put d least n s e before q front is fits small closed_so same = record {
  before = before;
  whole = q;
  tier_is = n;
  front = front;
  is = is;
  fits = fits;
  small = small;
  closed_so = closed_so;
  tree_is = same;
  tokens_are = refl;
}

is_less : (a b : ℕ) → nat_lt a b ≡ true → a < b
is_less a b h = grind (arith, nat_tests)

is_not_less : (a b : ℕ) → nat_lt a b ≡ false → b ≤ a
is_not_less a b h = grind (arith, nat_tests)

choose : (d least r : ℕ) (x y : Expr × List Pending) (tokens : List Symbol) (b : Bool) → nat_lt least r ≡ b → (least < r → PutTogether d least x tokens) → (r ≤ least → PutTogether d least y tokens)
    → PutTogether d least (cond b x y) tokens
choose d least r x y tokens true e f g = f (is_less least r e)
choose d least r x y tokens false e f g = g (is_not_less least r e)

put_together : (d least n : ℕ) → least ≤ 8 → (s : List Pending) (e : Expr) (before : List Symbol) (q : Part) → Front d s before → tier (IsExprIn d) n q → FitsTier n s → n + least ≤ 8 → e ≡ q.tree
    → PutTogether d least (closed least e s) (before ++ q.tokens)
put_together d least n le [] e before q front is fits small same = put d least n [] e before q front is fits small tt same
put_together d least n le (pending.Group ∷ s) e before q front is fits small same = put d least n _ e before q front is fits small tt same
put_together d least n le (pending.Call g args ∷ s) e before q front is fits small same = put d least n _ e before q front is fits small tt same
put_together d least n le (pending.Predicate o ∷ s) e before q front is fits small same = put d least n _ e before q front is fits small tt same
put_together d least n le (pending.Chain c ∷ s) e before q front is fits small same =
    let (p, p_is, tree, tokens) = chain_part (IsExprIn d) c s (Front d s) before q front (lift (IsExprIn d) n (tier_of (level_of c.last)) fits q is) in
    let sum : rank (level_of c.last) + tier_of (level_of c.last) ≡ 8 = rank-tier (level_of c.last) in
    let some : 0 < rank (level_of c.last) = rank-some (level_of c.last) in
    choose d least (rank (level_of c.last)) (closed least (chained c e) s) (e, pending.Chain c ∷ s) (before ++ q.tokens) (nat_lt least (rank (level_of c.last))) refl
    (λ low. subst (PutTogether d least (closed least (chained c e) s)) (sym tokens)
    (put_together d least (suc (tier_of (level_of c.last))) le s (chained c e) front.start p front.rest p_is
    (fits_tier (rank (level_of c.last)) (suc (tier_of (level_of c.last))) (omega arith) (omega arith) (omega arith) s front.fits) (omega arith) (ap (chained c) same ∙ sym tree)))
    (λ low. put d least n (pending.Chain c ∷ s) e before q front is fits small low same)
put_together d least n le (pending.Minus signs ∷ s) e before q front is fits small same =
    let (p, p_is, tree, tokens) = sign_part (IsExprIn d) signs s (Front d s) before q front (lift (IsExprIn d) n 1 fits q is) in
    choose d least 7 (closed least (expr.Negate signs e) s) (e, pending.Minus signs ∷ s) (before ++ q.tokens) (nat_lt least 7) refl
    (λ low. subst (PutTogether d least (closed least (expr.Negate signs e) s)) (sym tokens)
    (put_together d least 2 le s (expr.Negate signs e) front.start p front.rest p_is
    (fits_tier 7 2 (omega arith) (omega arith) (omega arith) s front.fits) (omega arith) (ap (expr.Negate signs) same ∙ sym tree)))
    (λ low. put d least n (pending.Minus signs ∷ s) e before q front is fits small low same)

-- an operand that ends is put together with what waits for it
pub ends : (d least : ℕ) → least ≤ 8 → (o : Operand) (s : List Pending) (before inside : List Symbol) → Front d s before → IsOperand (IsExprIn d) o inside
    → PutTogether d least (closed least (operand_tree o) s) (before ++ inside)
ends d least le o s before inside front is =
    put_together d least 0 le s (operand_tree o) before (part inside (operand_tree o)) front (operand_part (IsExprIn d) o inside is) (low s) (omega arith) refl
  where
    low : (t : List Pending) → FitsTier 0 t
    low [] = omega arith
    low (pending.Chain c ∷ t) = omega arith
    low (pending.Minus signs ∷ t) = omega arith
    low (pending.Group ∷ t) = omega arith
    low (pending.Call g args ∷ t) = omega arith
    low (pending.Predicate o ∷ t) = omega arith
