-- What the machine reads is in the grammar: the tokens so far are those of the state.
use Rattle.std.proofs.Common.{◌≡◌, ◌≤◌, ◌+◌, ◌-◌, ◌==◌, ℕ, zero, suc, true, cond, List, [], ◌∷◌, ◌++◌, map, sym, refl, ap, ◌∙◌, subst, append_assoc, append-nil, arith}
use Rattle.std.specs.List.{AllByRecursion}
use Rattle.std.proofs.lemmas.Bool.Decides.{nat_tests}
use Rattle.std.proofs.lemmas.List.{map-append}
use Rattle.xpath_trees.specs.declared.expr.Signs.{Signs}
use Rattle.xpath_trees.specs.declared.expr.Expr.{Expr}
use Rattle.xpath_trees.specs.declared.expr.Expr.TheVariants as expr
use Rattle.xpath_tokens.specs.declared.symbol.Operator.{Operator}
use Rattle.xpath_tokens.specs.declared.symbol.Symbol.{Symbol}
use Rattle.xpath_tokens.specs.declared.symbol.Symbol.TheVariants as symbol
use Rattle.xpath_grammar.specs.declared.operand.Level.{Level}
use Rattle.xpath_grammar.specs.declared.operand.Level.TheVariants as level
use Rattle.xpath_grammar.specs.declared.operand.Chain.{Chain}
use Rattle.xpath_parser.specs.declared.state.Pending.{Pending}
use Rattle.xpath_grammar.specs.Trees.{level_of, rank, chain_tree, signs_past, signed}
use Rattle.xpath_grammar.specs.Grammar.{Part, part, further, chain, IsChain, signs, IsSigned, IsPath}
use Rattle.xpath_grammar.specs.Parts.{chained}
use Rattle.xpath_parser.specs.Machine.{is_level}
use Rattle.xpath_parser.proofs.Outcomes.{Fits}

-- Tiers: how loosely a part binds, from paths up to whole expressions

-- the production that leads from a tier to the next
abbrev pub wrap : ℕ → (Part → Type 0) → Part → Type 0
wrap zero Is = IsChain level.Union Is
wrap (suc zero) Is = IsSigned Is
wrap (suc (suc zero)) Is = IsChain level.Multiplicative Is
wrap (suc (suc (suc zero))) Is = IsChain level.Additive Is
wrap (suc (suc (suc (suc zero)))) Is = IsChain level.Relational Is
wrap (suc (suc (suc (suc (suc zero))))) Is = IsChain level.Equality Is
wrap (suc (suc (suc (suc (suc (suc zero)))))) Is = IsChain level.And Is
wrap (suc (suc (suc (suc (suc (suc (suc n))))))) Is = IsChain level.Or Is

abbrev pub tier : (Part → Type 0) → ℕ → Part → Type 0
tier I zero = IsPath I
tier I (suc n) = wrap n (tier I n)

one_of : (l : Level) (Is : Part → Type 0) (p : Part) → Is p → IsChain l Is p
one_of l Is p is = record { first = p; others = []; first_is = is; others_are = tt; whole_is = refl }

alone : (n : ℕ) (Is : Part → Type 0) (p : Part) → Is p → wrap n Is p
alone zero Is p is = one_of level.Union Is p is
alone (suc zero) Is p is = record { count = 0; plain = p; plain_is = is; whole_is = refl }
alone (suc (suc zero)) Is p is = one_of level.Multiplicative Is p is
alone (suc (suc (suc zero))) Is p is = one_of level.Additive Is p is
alone (suc (suc (suc (suc zero)))) Is p is = one_of level.Relational Is p is
alone (suc (suc (suc (suc (suc zero))))) Is p is = one_of level.Equality Is p is
alone (suc (suc (suc (suc (suc (suc zero)))))) Is p is = one_of level.And Is p is
alone (suc (suc (suc (suc (suc (suc (suc n))))))) Is p is = one_of level.Or Is p is

abbrev up : ℕ → ℕ → ℕ
up zero n = n
up (suc k) n = suc (up k n)

up-is : (k n : ℕ) → up k n ≡ k + n
up-is zero n = omega arith
up-is (suc k) n = let e = up-is k n in omega arith

lifted : (I : Part → Type 0) (k n : ℕ) (p : Part) → tier I n p → tier I (up k n) p
lifted I zero n p is = is
lifted I (suc k) n p is = alone (up k n) (tier I (up k n)) p (lifted I k n p is)

pub lift : (I : Part → Type 0) (n m : ℕ) → n ≤ m → (p : Part) → tier I n p → tier I m p
lift I n m le p is = let e = up-is (m - n) n in let same : up (m - n) n ≡ m = omega arith in subst (λ k. tier I k p) same (lifted I (m - n) n p is)

-- the tier of the operands of a level
abbrev pub tier_of : Level → ℕ
tier_of level.Or = 7
tier_of level.And = 6
tier_of level.Equality = 5
tier_of level.Relational = 4
tier_of level.Additive = 3
tier_of level.Multiplicative = 2
tier_of level.Union = 0

pub rank-tier : (l : Level) → rank l + tier_of l ≡ 8
rank-tier level.Or = refl
rank-tier level.And = refl
rank-tier level.Equality = refl
rank-tier level.Relational = refl
rank-tier level.Additive = refl
rank-tier level.Multiplicative = refl
rank-tier level.Union = refl

pub chain_in_tier : (I : Part → Type 0) (l : Level) (p : Part) → IsChain l (tier I (tier_of l)) p → tier I (suc (tier_of l)) p
chain_in_tier I level.Or p is = is
chain_in_tier I level.And p is = is
chain_in_tier I level.Equality p is = is
chain_in_tier I level.Relational p is = is
chain_in_tier I level.Additive p is = is
chain_in_tier I level.Multiplicative p is = is
chain_in_tier I level.Union p is = is

-- levels of one rank are one
abbrev of_rank : ℕ → Level
of_rank n =
    cond (n == 1) level.Or (cond (n == 2) level.And (cond (n == 3) level.Equality (cond (n == 4) level.Relational
    (cond (n == 5) level.Additive (cond (n == 6) level.Multiplicative level.Union)))))

of_rank-is : (l : Level) → of_rank (rank l) ≡ l
of_rank-is level.Or = refl
of_rank-is level.And = refl
of_rank-is level.Equality = refl
of_rank-is level.Relational = refl
of_rank-is level.Additive = refl
of_rank-is level.Multiplicative = refl
of_rank-is level.Union = refl

pub same_level : (a b : Level) → is_level a b ≡ true → a ≡ b
same_level a b e = sym (of_rank-is a) ∙ ap of_rank (equal (rank a) (rank b) e) ∙ of_rank-is b
  where
    equal : (m n : ℕ) → (m == n) ≡ true → m ≡ n
    equal m n h = grind (arith, nat_tests)

-- Chains

-- the further operands of a chain
abbrev pub others_of : List (Operator × Part) → List (Operator × Expr)
others_of = map (λ (y : Operator × Part). (y.0, y.1.tree))

pub further-push : (xs : List (Operator × Part)) (op : Operator) (q : Part) → further (xs ++ (op, q) ∷ []) ≡ further xs ++ symbol.Operator op ∷ q.tokens
further-push [] op q = ap (λ l. symbol.Operator op ∷ l) (append-nil q.tokens)
further-push (x ∷ xs) op q =
    ap (λ l. symbol.Operator x.0 ∷ l) (ap (λ l. x.1.tokens ++ l) (further-push xs op q) ∙ sym (append_assoc x.1.tokens (further xs) (symbol.Operator op ∷ q.tokens)))

chain-push : (l : Level) (first : Part) (xs : List (Operator × Part)) (x : Operator × Part)
    → chain l first (xs ++ x ∷ []) ≡ part (first.tokens ++ further (xs ++ x ∷ [])) (chain_tree l first.tree (others_of (xs ++ x ∷ [])))
chain-push l first [] x = refl
chain-push l first (y ∷ ys) x = refl

pub all-push : {X : Type 0} (P : X → Type 0) (xs : List X) (x : X) → AllByRecursion P xs → P x → AllByRecursion P (xs ++ x ∷ [])
all-push P [] x all is = (is, tt)
all-push P (y ∷ ys) x all is = (all.0, all-push P ys x all.1 is)

-- the tokens of a chain that waits for an operand, in front of which these tokens stand
pub record OpenChain (I : Part → Type 0) (c : Chain) (s : List Pending) (Rest : List Symbol → Type 0) (before : List Symbol) : Type 0 where
  pub start : List Symbol
  pub first : Part
  pub others : List (Operator × Part)
  pub rest : Rest start
  pub fits : Fits (rank (level_of c.last)) s
  pub first_is : tier I (tier_of (level_of c.last)) first
  pub others_are : AllByRecursion (λ x. (level_of x.0 ≡ level_of c.last) × tier I (tier_of (level_of c.last)) x.1) others
  pub first_tree : c.first ≡ first.tree
  pub other_trees : c.others ≡ others_of others
  pub tokens : before ≡ start ++ (first.tokens ++ (further others ++ symbol.Operator c.last ∷ []))

-- the tokens of minus signs that wait for their operand
pub record OpenSign (signs_so_far : Signs) (s : List Pending) (Rest : List Symbol → Type 0) (before : List Symbol) : Type 0 where
  pub start : List Symbol
  pub count : ℕ
  pub rest : Rest start
  pub fits : Fits 7 s
  pub signs_are : signs_so_far ≡ signs_past count
  pub tokens : before ≡ start ++ signs (suc count)

-- a chain with its last operand is a part of its tier
pub chain_part : (I : Part → Type 0) (c : Chain) (s : List Pending) (Rest : List Symbol → Type 0) (before : List Symbol) (q : Part) → (w : OpenChain I c s Rest before) → tier I (tier_of (level_of c.last)) q
    → (p : Part) × tier I (suc (tier_of (level_of c.last))) p × (p.tree ≡ chained c q.tree) × (before ++ q.tokens ≡ w.start ++ p.tokens)
chain_part I c s Rest before q w is =
    let x : Operator × Part = (c.last, q) in
    let l = level_of c.last in
    let all = w.others ++ x ∷ [] in
    let p = chain l w.first all in
    let shape = chain-push l w.first w.others x in
    let is_chain : IsChain l (tier I (tier_of l)) p = record {
      first = w.first;
      others = all;
      first_is = w.first_is;
      others_are = all-push (λ (y : Operator × Part). (level_of y.0 ≡ l) × tier I (tier_of l) y.1) w.others x w.others_are (refl, is);
      whole_is = refl;
    } in
    let others : c.others ++ (c.last, q.tree) ∷ [] ≡ others_of all =
    ap (λ l. l ++ (c.last, q.tree) ∷ []) w.other_trees ∙ sym (map-append (λ (y : Operator × Part). (y.0, y.1.tree)) w.others (x ∷ [])) in (
      p,
      chain_in_tier I l p is_chain,
      ap (λ (y : Part). y.tree) shape ∙ sym (ap (λ f. chain_tree l f (c.others ++ (c.last, q.tree) ∷ [])) w.first_tree ∙ ap (chain_tree l w.first.tree) others),
      ap (λ l. l ++ q.tokens) w.tokens
          ∙ append_assoc w.start (w.first.tokens ++ (further w.others ++ symbol.Operator c.last ∷ [])) q.tokens
          ∙ ap (λ l. w.start ++ l) (append_assoc w.first.tokens (further w.others ++ symbol.Operator c.last ∷ []) q.tokens
          ∙ ap (λ l. w.first.tokens ++ l) (append_assoc (further w.others) (symbol.Operator c.last ∷ []) q.tokens ∙ sym (further-push w.others c.last q)))
          ∙ ap (λ (y : Part). w.start ++ y.tokens) (sym shape),
    )

-- minus signs with their operand
pub sign_part : (I : Part → Type 0) (so_far : Signs) (s : List Pending) (Rest : List Symbol → Type 0) (before : List Symbol) (q : Part) → (w : OpenSign so_far s Rest before) → tier I 1 q
    → (p : Part) × tier I 2 p × (p.tree ≡ expr.Negate so_far q.tree) × (before ++ q.tokens ≡ w.start ++ p.tokens)
sign_part I so_far s Rest before q w is =
    let p = part (signs (suc w.count) ++ q.tokens) (signed (suc w.count) q.tree) in (
      p,
      record { count = suc w.count; plain = q; plain_is = is; whole_is = refl },
      ap (λ b. expr.Negate b q.tree) (sym w.signs_are),
      ap (λ l. l ++ q.tokens) w.tokens ∙ append_assoc w.start (signs (suc w.count)) q.tokens,
    )
