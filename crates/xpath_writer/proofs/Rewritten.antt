-- What is written for the tree of an expression is an expression with that tree.
use Rattle.std.proofs.Common.{◌≡◌, ◌≤◌, ◌<◌, ◌+◌, ◌-◌, ℕ, zero, suc, Bool, true, false, cond, nat_lt, List, [], ◌∷◌, ◌++◌, map, inl, inr, sym, refl, ap, ◌∙◌, subst, append_assoc, append-nil, arith}
use Rattle.std.specs.List.{AllByRecursion, flat_map}
use Rattle.std.proofs.lemmas.Bool.Decides.{nat_tests}
use Rattle.std.proofs.lemmas.List.{map-append}
use Rattle.serna_kinds.specs.Names.{NameParts, Space}
use Rattle.xpath_trees.specs.declared.expr.Expr.{Expr}
use Rattle.serna_kinds.specs.declared.expressions.CompareOp.{CompareOp}
use Rattle.serna_kinds.specs.declared.expressions.CompareOp.TheVariants as compare
use Rattle.xpath_trees.specs.declared.expr.ArithOp.{ArithOp}
use Rattle.xpath_trees.specs.declared.expr.ArithOp.TheVariants as arith_op
use Rattle.xpath_trees.specs.declared.expr.Expr.TheVariants as expr
use Rattle.xpath_trees.specs.declared.expr.Signs.{Signs}
use Rattle.xpath_trees.specs.declared.expr.Signs.TheVariants as sign
use Rattle.xpath_tokens.specs.declared.symbol.Operator.{Operator}
use Rattle.xpath_tokens.specs.declared.symbol.Operator.TheVariants as operator
use Rattle.xpath_tokens.specs.declared.symbol.Symbol.{Symbol}
use Rattle.xpath_tokens.specs.declared.symbol.Symbol.TheVariants as symbol
use Rattle.xpath_grammar.specs.declared.operand.Level.{Level}
use Rattle.xpath_grammar.specs.declared.operand.Level.TheVariants as level
use Rattle.xpath_tokens.specs.declared.tokens.Kind.TheVariants as kind
use Rattle.xpath_grammar.specs.Trees.{level_of, rank, compared, computed, operands, chain_tree, signs_past, signed}
use Rattle.xpath_grammar.specs.Grammar.{Part, part, further, chain, IsChain, signs, IsSigned, IsPrimary, IsFilter, IsPath}
use Rattle.xpath_tokens.specs.Symbols.{symbol_of}
use Rattle.xpath_writer.specs.Writing.{Word, Written, operand, joined, each_behind, chain_of, compares_rank, ariths_rank, compared_words, computed_words, is_named, operator_kind, mark_text, sign_words, grouped, mark, shown, symbols_in, AreTokens, Lexes, IsLeaf}
use Rattle.xpath_writer.proofs.Lexed.{operator_follows, lexes_operand, lexes_signs}
use Rattle.xpath_syntax.proofs.Levels.{AreAt, low_compare, high_arith, compare_in, arith_in}
use Rattle.xpath_parser.proofs.Outcomes.{rank-some}
use Rattle.xpath_parser.proofs.Soundness.{tier, lift, tier_of, rank-tier, chain_in_tier, others_of}
use Rattle.xpath_writer.proofs.Shown.{shown-Or, shown-And, shown-Compare, shown-Arith, shown-Negate, shown-Union}

-- Tiers with the two that bind tighter than paths

abbrev pub fine : (Part → Type 0) → ℕ → Part → Type 0
fine Q zero = IsPrimary Q
fine Q (suc zero) = IsFilter Q
fine Q (suc (suc n)) = tier Q n

pub as_filter : (Q : Part → Type 0) (p : Part) → IsPrimary Q p → IsFilter Q p
as_filter Q p is = record { plain = p; predicates = []; plain_is = is; predicates_are = tt; whole_is = ap (λ l. part l p.tree) (sym (append-nil p.tokens)) }

pub as_path : (Q : Part → Type 0) (p : Part) → IsFilter Q p → IsPath Q p
as_path Q p is = inr (inr (inr (inl is)))

pub fine-lift : (Q : Part → Type 0) (n m : ℕ) → n ≤ m → (p : Part) → fine Q n p → fine Q m p
fine-lift Q zero zero le p is = is
fine-lift Q zero (suc zero) le p is = as_filter Q p is
fine-lift Q zero (suc (suc m)) le p is = lift Q 0 m (omega arith) p (as_path Q p (as_filter Q p is))
fine-lift Q (suc zero) zero le p is = absurd (omega arith)
fine-lift Q (suc zero) (suc zero) le p is = is
fine-lift Q (suc zero) (suc (suc m)) le p is = lift Q 0 m (omega arith) p (as_path Q p is)
fine-lift Q (suc (suc n)) zero le p is = absurd (omega arith)
fine-lift Q (suc (suc n)) (suc zero) le p is = absurd (omega arith)
fine-lift Q (suc (suc n)) (suc (suc m)) le p is = lift Q n m (omega arith) p is

-- Operators by their level

-- the operator of a level that has only one
is_or : (op : Operator) → rank (level_of op) ≡ 1 → op ≡ operator.Or
is_or operator.Or e = refl
is_or operator.And e = absurd (omega arith)
is_or (operator.Compare c) e = absurd (omega (arith, low_compare c))
is_or (operator.Arith a) e = absurd (omega (arith, high_arith a))
is_or operator.Union e = absurd (omega arith)

is_and : (op : Operator) → rank (level_of op) ≡ 2 → op ≡ operator.And
is_and operator.Or e = absurd (omega arith)
is_and operator.And e = refl
is_and (operator.Compare c) e = absurd (omega (arith, low_compare c))
is_and (operator.Arith a) e = absurd (omega (arith, high_arith a))
is_and operator.Union e = absurd (omega arith)

is_union : (op : Operator) → rank (level_of op) ≡ 8 → op ≡ operator.Union
is_union operator.Or e = absurd (omega arith)
is_union operator.And e = absurd (omega arith)
is_union (operator.Compare c) e = absurd (omega (arith, low_compare c))
is_union (operator.Arith a) e = absurd (omega (arith, high_arith a))
is_union operator.Union e = refl

all_same : (l : Level) (op : Operator) → ((o : Operator) → rank (level_of o) ≡ rank l → o ≡ op) → (xs : List (Operator × Part)) → AreAt l xs → AllByRecursion (λ x. x.0 ≡ op) xs
all_same l op only [] all = tt
all_same l op only (x ∷ xs) all = (only x.0 (ap rank all.0), all_same l op only xs all.1)

-- the flag of an operand, by what stands behind it in its chain
abbrev flag_behind : List (Operator × Part) → Bool → Bool
flag_behind [] before = before
flag_behind (x ∷ xs) before = is_named (operator_kind x.0)

module _ (spaces : List Space) (names : List NameParts) where
  abbrev pub sh : Expr → Written
  sh = shown spaces names

  abbrev pub syms : List Word → List Symbol
  syms = symbols_in spaces names

  pub syms-append : (a b : List Word) → syms (a ++ b) ≡ syms a ++ syms b
  syms-append a b = map-append _ a b

  abbrev pub AreLeaves : List Symbol → Type 0
  AreLeaves = AllByRecursion (IsLeaf spaces names)

  pub leaves-append : (a b : List Symbol) → AreLeaves (a ++ b) → AreLeaves a × AreLeaves b
  leaves-append [] b all = (tt, all)
  leaves-append (x ∷ a) b all = let rest = leaves-append a b all.1 in ((all.0, rest.0), rest.1)

  -- an expression is written as its rank says
  abbrev pub Ranked : (Part → Type 0) → Expr → Type 0
  Ranked Q e = (before : Bool) → fine Q (11 - (sh e).rank) (part (syms ((sh e).words before)) e)

  -- what is written for it is an expression that can stand in brackets
  abbrev pub Inner : (Part → Type 0) → Expr → Type 0
  Inner Q e = Q (part (syms ((sh e).words false)) e)

  -- its words are tokens wherever an operand is wanted
  abbrev pub Lexed : Expr → Type 0
  Lexed e = (before : Bool) → Lexes before ((sh e).words before)

  -- an operand of this tier, which stands in brackets where its rank wants them
  pub record Fits (Q : Part → Type 0) (m : ℕ) (e : Expr) : Type 0 where
    pub ranked : Ranked Q e
    pub some : 1 ≤ (sh e).rank
    pub lexed : Lexed e
    pub inner : (sh e).rank < 11 - m → Inner Q e

  pub looser : (Q : Part → Type 0) (m n : ℕ) → m ≤ n → (e : Expr) → Fits Q m e → Fits Q n e
  looser Q m n le e is = record { ranked = is.ranked; some = is.some; lexed = is.lexed; inner = λ lt. is.inner (omega arith) }

  pub group : (Q : Part → Type 0) (e : Expr) → Inner Q e → IsPrimary Q (part (syms (grouped ((sh e).words false))) e)
  group Q e is =
      let tokens : syms (grouped ((sh e).words false)) ≡ symbol.Open ∷ (syms ((sh e).words false) ++ symbol.Close ∷ []) = ap (λ l. symbol.Open ∷ l) (syms-append ((sh e).words false) (mark kind.Close ∷ [])) in
      inr (inl (record { inner = part (syms ((sh e).words false)) e; inner_is = is; whole_is = ap (λ l. part l e) tokens }))

  pub less_true : (m n : ℕ) → nat_lt m n ≡ true → m < n
  less_true m n e = grind (arith, nat_tests)

  pub less_false : (m n : ℕ) → nat_lt m n ≡ false → n ≤ m
  less_false m n e = grind (arith, nat_tests)

  pub as_operand : (Q : Part → Type 0) (m : ℕ) → m ≤ 11 → (e : Expr) → Fits Q m e → (before : Bool) → fine Q m (part (syms (operand (11 - m) before (sh e))) e)
  as_operand Q m le e is before = go (nat_lt (sh e).rank (11 - m)) refl
    where
      go : (v : Bool) → nat_lt (sh e).rank (11 - m) ≡ v → fine Q m (part (syms (cond v (grouped ((sh e).words false)) ((sh e).words before))) e)
      go true t = fine-lift Q 0 m (omega arith) _ (group Q e (is.inner (less_true (sh e).rank (11 - m) t)))
      go false t = let ge = less_false (sh e).rank (11 - m) t in fine-lift Q (11 - (sh e).rank) m (omega arith) _ (is.ranked before)

  -- Chains

  pub operator-read : (op : Operator) → symbol_of spaces names (operator_kind op) (mark_text (operator_kind op)) ≡ symbol.Operator op
  operator-read operator.Or = refl
  operator-read operator.And = refl
  operator-read (operator.Compare compare.Equal) = refl
  operator-read (operator.Compare compare.NotEqual) = refl
  operator-read (operator.Compare compare.Less) = refl
  operator-read (operator.Compare compare.LessOrEqual) = refl
  operator-read (operator.Compare compare.Greater) = refl
  operator-read (operator.Compare compare.GreaterOrEqual) = refl
  operator-read (operator.Arith arith_op.Add) = refl
  operator-read (operator.Arith arith_op.Subtract) = refl
  operator-read (operator.Arith arith_op.Multiply) = refl
  operator-read (operator.Arith arith_op.Remainder) = refl
  operator-read operator.Union = refl

  -- the further operands of a chain as they are written
  abbrev pub written_others : List (Operator × Part) → List (Operator × Written)
  written_others = map (λ (y : Operator × Part). (y.0, sh y.1.tree))

  abbrev compared_of : List (Operator × Part) → List (CompareOp × Expr)
  compared_of xs = flat_map (λ (o : Operator × Expr). compared o.0 o.1) (others_of xs)

  abbrev computed_of : List (Operator × Part) → List (ArithOp × Expr)
  computed_of xs = flat_map (λ (o : Operator × Expr). computed o.0 o.1) (others_of xs)

  compares-are : (l : Level) → 3 ≤ rank l → rank l ≤ 4 → (xs : List (Operator × Part)) → AreAt l xs → compared_words (map (λ (x : CompareOp × Expr). (x.0, sh x.1)) (compared_of xs)) ≡ written_others xs
  compares-are l low high [] all = refl
  compares-are l low high (x ∷ xs) all =
      let r = ap rank all.0 in
      let c = compare_in x.0 (omega arith) (omega arith) in
      ap (λ (op : Operator). compared_words (map (λ (x : CompareOp × Expr). (x.0, sh x.1)) (compared op x.1.tree ++ compared_of xs))) c.1
      ∙ ap (λ l. (operator.Compare c.0, sh x.1.tree) ∷ l) (compares-are l low high xs all.1) ∙ ap (λ (op : Operator). (op, sh x.1.tree) ∷ written_others xs) (sym c.1)

  ariths-are : (l : Level) → 5 ≤ rank l → rank l ≤ 6 → (xs : List (Operator × Part)) → AreAt l xs → computed_words (map (λ (x : ArithOp × Expr). (x.0, sh x.1)) (computed_of xs)) ≡ written_others xs
  ariths-are l low high [] all = refl
  ariths-are l low high (x ∷ xs) all =
      let r = ap rank all.0 in
      let a = arith_in x.0 (omega arith) (omega arith) in
      ap (λ (op : Operator). computed_words (map (λ (x : ArithOp × Expr). (x.0, sh x.1)) (computed op x.1.tree ++ computed_of xs))) a.1
      ∙ ap (λ l. (operator.Arith a.0, sh x.1.tree) ∷ l) (ariths-are l low high xs all.1) ∙ ap (λ (op : Operator). (op, sh x.1.tree) ∷ written_others xs) (sym a.1)

  compares-rank : (l : Level) → 3 ≤ rank l → rank l ≤ 4 → (x : Operator × Part) (xs : List (Operator × Part)) → level_of x.0 ≡ l → compares_rank (map (λ (x : CompareOp × Expr). (x.0, sh x.1)) (compared_of (x ∷ xs))) ≡ rank l
  compares-rank l low high x xs is =
      let r = ap rank is in
      let c = compare_in x.0 (omega arith) (omega arith) in
      ap (λ (op : Operator). compares_rank (map (λ (x : CompareOp × Expr). (x.0, sh x.1)) (compared op x.1.tree ++ compared_of xs))) c.1 ∙ sym (ap (λ (op : Operator). rank (level_of op)) c.1) ∙ r

  ariths-rank : (l : Level) → 5 ≤ rank l → rank l ≤ 6 → (x : Operator × Part) (xs : List (Operator × Part)) → level_of x.0 ≡ l → ariths_rank (map (λ (x : ArithOp × Expr). (x.0, sh x.1)) (computed_of (x ∷ xs))) ≡ rank l
  ariths-rank l low high x xs is =
      let r = ap rank is in
      let a = arith_in x.0 (omega arith) (omega arith) in
      ap (λ (op : Operator). ariths_rank (map (λ (x : ArithOp × Expr). (x.0, sh x.1)) (computed op x.1.tree ++ computed_of xs))) a.1 ∙ sym (ap (λ (op : Operator). rank (level_of op)) a.1) ∙ r

  -- an operator that stands everywhere in a chain
  each-are : (op : Operator) (xs : List (Operator × Part)) → AllByRecursion (λ x. x.0 ≡ op) xs → each_behind op (map sh (map (λ (o : Operator × Expr). o.1) (others_of xs))) ≡ written_others xs
  each-are op [] all = refl
  each-are op (x ∷ xs) all =
      ap (λ (o : Operator). (o, sh x.1.tree) ∷ each_behind op (map sh (map (λ (o : Operator × Expr). o.1) (others_of xs)))) (sym all.0) ∙ ap (λ l. (x.0, sh x.1.tree) ∷ l) (each-are op xs all.1)

  abbrev rewritten_part : ℕ → Bool → Expr → Part
  rewritten_part least before e = part (syms (operand least before (sh e))) e

  abbrev rewritten : ℕ → Bool → List (Operator × Part) → List (Operator × Part)
  rewritten least before [] = []
  rewritten least before (x ∷ xs) = (x.0, rewritten_part least (flag_behind xs before) x.1.tree) ∷ rewritten least before xs

  rewritten-others : (least : ℕ) (before : Bool) (xs : List (Operator × Part)) → others_of (rewritten least before xs) ≡ others_of xs
  rewritten-others least before [] = refl
  rewritten-others least before (x ∷ xs) = ap (λ l. (x.0, x.1.tree) ∷ l) (rewritten-others least before xs)

  joined-read : (least : ℕ) (before : Bool) (e : Expr) (xs : List (Operator × Part))
      → syms (joined least before (sh e) (written_others xs)) ≡ syms (operand least (flag_behind xs before) (sh e)) ++ further (rewritten least before xs)
  joined-read least before e [] = syms-append (operand least before (sh e)) []
  joined-read least before e (x ∷ xs) =
      let this = operand least (is_named (operator_kind x.0)) (sh e) in
      let rest = joined least before (sh x.1.tree) (written_others xs) in
      syms-append this (mark (operator_kind x.0) ∷ rest)
      ∙ ap (λ s. syms this ++ (s ∷ syms rest)) (operator-read x.0)
      ∙ ap (λ l. syms this ++ (symbol.Operator x.0 ∷ l)) (joined-read least before x.1.tree xs)

  joined_lexes : (least : ℕ) (before : Bool) (e : Expr) (xs : List (Operator × Part)) → Lexed e → AllByRecursion (λ x. Lexed x.1.tree) xs
      → Lexes before (joined least before (sh e) (written_others xs))
  joined_lexes least before e [] is all ws follow = subst (AreTokens false) (sym (append_assoc (operand least before (sh e)) [] ws)) (lexes_operand least before (sh e) is ws follow)
  joined_lexes least before e (x ∷ xs) is all ws follow =
      let flag = is_named (operator_kind x.0) in
      let rest = joined least before (sh x.1.tree) (written_others xs) in
      subst (AreTokens false) (sym (append_assoc (operand least flag (sh e)) (mark (operator_kind x.0) ∷ rest) ws))
      (lexes_operand least flag (sh e) is (mark (operator_kind x.0) ∷ (rest ++ ws)) (operator_follows x.0 (rest ++ ws) (joined_lexes least before x.1.tree xs all.0 all.1 ws follow)))

  fits_lexed : (Q : Part → Type 0) (m : ℕ) (xs : List (Operator × Part)) → AllByRecursion (λ x. Fits Q m x.1.tree) xs → AllByRecursion (λ x. Lexed x.1.tree) xs
  fits_lexed Q m [] all = tt
  fits_lexed Q m (x ∷ xs) all = (all.0.lexed, fits_lexed Q m xs all.1)

  pub chain-shown : (l : Level) (e : Expr) (x : Operator × Part) (xs : List (Operator × Part)) → AreAt l (x ∷ xs)
      → sh (chain_tree l e (others_of (x ∷ xs))) ≡ chain_of (rank l) (sh e) (written_others (x ∷ xs))
  chain-shown level.Or e x xs all =
      shown-Or spaces names (operands e (others_of (x ∷ xs))) ∙ ap (chain_of 1 (sh e)) (each-are operator.Or (x ∷ xs) (all_same level.Or operator.Or is_or (x ∷ xs) all))
  chain-shown level.And e x xs all =
      shown-And spaces names (operands e (others_of (x ∷ xs))) ∙ ap (chain_of 2 (sh e)) (each-are operator.And (x ∷ xs) (all_same level.And operator.And is_and (x ∷ xs) all))
  chain-shown level.Equality e x xs all =
      let cs = map (λ (x : CompareOp × Expr). (x.0, sh x.1)) (compared_of (x ∷ xs)) in
      shown-Compare spaces names e (compared_of (x ∷ xs))
      ∙ ap (λ r. chain_of r (sh e) (compared_words cs)) (compares-rank level.Equality (omega arith) (omega arith) x xs all.0)
      ∙ ap (chain_of 3 (sh e)) (compares-are level.Equality (omega arith) (omega arith) (x ∷ xs) all)
  chain-shown level.Relational e x xs all =
      let cs = map (λ (x : CompareOp × Expr). (x.0, sh x.1)) (compared_of (x ∷ xs)) in
      shown-Compare spaces names e (compared_of (x ∷ xs))
      ∙ ap (λ r. chain_of r (sh e) (compared_words cs)) (compares-rank level.Relational (omega arith) (omega arith) x xs all.0)
      ∙ ap (chain_of 4 (sh e)) (compares-are level.Relational (omega arith) (omega arith) (x ∷ xs) all)
  chain-shown level.Additive e x xs all =
      let nums = map (λ (x : ArithOp × Expr). (x.0, sh x.1)) (computed_of (x ∷ xs)) in
      shown-Arith spaces names e (computed_of (x ∷ xs))
      ∙ ap (λ r. chain_of r (sh e) (computed_words nums)) (ariths-rank level.Additive (omega arith) (omega arith) x xs all.0)
      ∙ ap (chain_of 5 (sh e)) (ariths-are level.Additive (omega arith) (omega arith) (x ∷ xs) all)
  chain-shown level.Multiplicative e x xs all =
      let nums = map (λ (x : ArithOp × Expr). (x.0, sh x.1)) (computed_of (x ∷ xs)) in
      shown-Arith spaces names e (computed_of (x ∷ xs))
      ∙ ap (λ r. chain_of r (sh e) (computed_words nums)) (ariths-rank level.Multiplicative (omega arith) (omega arith) x xs all.0)
      ∙ ap (chain_of 6 (sh e)) (ariths-are level.Multiplicative (omega arith) (omega arith) (x ∷ xs) all)
  chain-shown level.Union e x xs all =
      shown-Union spaces names (operands e (others_of (x ∷ xs))) ∙ ap (chain_of 8 (sh e)) (each-are operator.Union (x ∷ xs) (all_same level.Union operator.Union is_union (x ∷ xs) all))

  further-leaves : (xs : List (Operator × Part)) → AreLeaves (further xs) → AllByRecursion (λ x. AreLeaves x.1.tokens) xs
  further-leaves [] all = tt
  further-leaves (x ∷ xs) all = let parts = leaves-append x.1.tokens (further xs) all.1 in (parts.0, further-leaves xs parts.1)

  -- an operand of a level
  as_part : (Q : Part → Type 0) (l : Level) (e : Expr) → Fits Q (suc (suc (tier_of l))) e → (before : Bool) → tier Q (tier_of l) (rewritten_part (rank l + 1) before e)
  as_part Q l e is before =
      let r = rank-tier l in
      let same : 11 - suc (suc (tier_of l)) ≡ rank l + 1 = omega arith in
      subst (λ n. tier Q (tier_of l) (rewritten_part n before e)) same (as_operand Q (suc (suc (tier_of l))) (omega arith) e is before)

  as_parts : (Q : Part → Type 0) (l : Level) (before : Bool) (xs : List (Operator × Part)) → AreAt l xs → AllByRecursion (λ x. Fits Q (suc (suc (tier_of l))) x.1.tree) xs
      → AllByRecursion (λ x. (level_of x.0 ≡ l) × tier Q (tier_of l) x.1) (rewritten (rank l + 1) before xs)
  as_parts Q l before [] at all = tt
  as_parts Q l before (x ∷ xs) at all = ((at.0, as_part Q l x.1.tree all.0 (flag_behind xs before)), as_parts Q l before xs at.1 all.1)

  abbrev chain_of_parts : Level → Expr → List (Operator × Part) → Expr
  chain_of_parts l e xs = chain_tree l e (others_of xs)

  longer_fits : (Q : Part → Type 0) (l : Level) (e : Expr) (x : Operator × Part) (xs : List (Operator × Part)) → AreAt l (x ∷ xs) → Fits Q (suc (suc (tier_of l))) e
      → AllByRecursion (λ y. Fits Q (suc (suc (tier_of l))) y.1.tree) (x ∷ xs) → Fits Q (suc (suc (suc (tier_of l)))) (chain_of_parts l e (x ∷ xs))
  longer_fits Q l e x xs at first others = record { ranked = ranked; some = omega (arith, ranks, rank-some l); lexed = lexed; inner = λ lt. absurd (omega (arith, ranks, rank-tier l)) }
    where
      all : List (Operator × Part)
      all = x ∷ xs

      least : ℕ
      least = rank l + 1

      tree : Expr
      tree = chain_of_parts l e all

      form : Written
      form = chain_of (rank l) (sh e) (written_others all)

      shows : sh tree ≡ form
      shows = chain-shown l e x xs at

      lexed : Lexed tree
      lexed before = subst (λ (w : Written). Lexes before (w.words before)) (sym shows) (joined_lexes least before e all first.lexed (fits_lexed Q (suc (suc (tier_of l))) all others))

      ranks : (sh tree).rank ≡ rank l
      ranks = ap (λ (w : Written). w.rank) shows

      tokens_of_chain : (before : Bool) → List Symbol
      tokens_of_chain before = syms (joined least before (sh e) (written_others all))

      whole : (before : Bool) → part (tokens_of_chain before) tree ≡ chain l (rewritten_part least (flag_behind all before) e) (rewritten least before all)
      whole before =
          ap (λ ts. part ts tree) (joined-read least before e all)
          ∙ sym (ap (λ os. part (syms (operand least (flag_behind all before) (sh e)) ++ further (rewritten least before all)) (chain_tree l e os)) (rewritten-others least before all))

      is_chain : (before : Bool) → IsChain l (tier Q (tier_of l)) (part (tokens_of_chain before) tree)
      is_chain before = record {
        first = rewritten_part least (flag_behind all before) e;
        others = rewritten least before all;
        first_is = as_part Q l e first (flag_behind all before);
        others_are = as_parts Q l before all at others;
        whole_is = whole before;
      }

      written_at : (before : Bool) → fine Q (11 - rank l) (part (tokens_of_chain before) tree)
      written_at before =
          let r = rank-tier l in
          let same : suc (suc (suc (tier_of l))) ≡ 11 - rank l = omega arith in
          subst (λ n. fine Q n (part (tokens_of_chain before) tree)) same (chain_in_tier Q l (part (tokens_of_chain before) tree) (is_chain before))

      ranked : Ranked Q tree
      ranked before = subst (λ (w : Written). fine Q (11 - w.rank) (part (syms (w.words before)) tree)) (sym shows) (written_at before)

  others_fit : (Q IsOperand : Part → Type 0) (l : Level) (m : ℕ) (xs : List (Operator × Part)) → ((q : Part) → IsOperand q → AreLeaves q.tokens → Fits Q m q.tree)
      → AllByRecursion (λ x. (level_of x.0 ≡ l) × IsOperand x.1) xs → AllByRecursion (λ x. AreLeaves x.1.tokens) xs → AreAt l xs × AllByRecursion (λ x. Fits Q m x.1.tree) xs
  others_fit Q IsOperand l m [] fit is leaves = (tt, tt)
  others_fit Q IsOperand l m (x ∷ xs) fit is leaves =
      let rest = others_fit Q IsOperand l m xs fit is.1 leaves.1 in ((is.0.0, rest.0), (fit x.1 is.0.1 leaves.0, rest.1))

  pub chain_fits : (Q IsOperand : Part → Type 0) (l : Level) → ((q : Part) → IsOperand q → AreLeaves q.tokens → Fits Q (suc (suc (tier_of l))) q.tree)
      → (p : Part) → IsChain l IsOperand p → AreLeaves p.tokens → Fits Q (suc (suc (suc (tier_of l)))) p.tree
  chain_fits Q IsOperand l fit p is leaves = go is.others is.others_are is.whole_is
    where
      go : (others : List (Operator × Part)) → AllByRecursion (λ x. (level_of x.0 ≡ l) × IsOperand x.1) others → p ≡ chain l is.first others → Fits Q (suc (suc (suc (tier_of l)))) p.tree
      go [] all whole =
          let own : AreLeaves is.first.tokens = subst (λ (q : Part). AreLeaves q.tokens) whole leaves in
          subst (λ (q : Part). Fits Q (suc (suc (suc (tier_of l)))) q.tree) (sym whole) (looser Q (suc (suc (tier_of l))) (suc (suc (suc (tier_of l)))) (omega arith) is.first.tree (fit is.first is.first_is own))
      go (x ∷ xs) all whole =
          let own : AreLeaves (is.first.tokens ++ further (x ∷ xs)) = subst (λ (q : Part). AreLeaves q.tokens) whole leaves in
          let parts = leaves-append is.first.tokens (further (x ∷ xs)) own in
          let others = others_fit Q IsOperand l (suc (suc (tier_of l))) (x ∷ xs) fit all (further-leaves (x ∷ xs) parts.1) in
          subst (λ (q : Part). Fits Q (suc (suc (suc (tier_of l)))) q.tree) (sym whole) (longer_fits Q l is.first.tree x xs others.0 (fit is.first is.first_is parts.0) others.1)

  -- Signs

  signs-leaves : (n : ℕ) (ts : List Symbol) → AreLeaves (signs n ++ ts) → AreLeaves ts
  signs-leaves zero ts all = all
  signs-leaves (suc n) ts all = signs-leaves n ts all.1

  negated : (Q : Part → Type 0) (minus : Signs) (e : Expr) → Fits Q 3 e → Fits Q 4 (expr.Negate minus e)
  negated Q minus e is = record { ranked = ranked; some = omega (arith, ap (λ (w : Written). w.rank) shows); lexed = lexed; inner = λ lt. absurd (omega (arith, ap (λ (w : Written). w.rank) shows)) }
    where
      form : Written
      form = record { rank = 7; words = λ before. sign_words minus ++ operand 8 before (sh e) }

      shows : sh (expr.Negate minus e) ≡ form
      shows = shown-Negate spaces names minus e

      lexed : Lexed (expr.Negate minus e)
      lexed before = subst (λ (w : Written). Lexes before (w.words before)) (sym shows) (lexes_signs minus before (operand 8 before (sh e)) (lexes_operand 8 before (sh e) is.lexed))

      plain : Bool → List Symbol
      plain before = syms (operand 8 before (sh e))

      signs_read : (minus : Signs) (before : Bool) → IsSigned (tier Q 1) (part (syms (sign_words minus ++ operand 8 before (sh e))) (expr.Negate minus e))
      signs_read sign.Once before = record { count = 1; plain = part (plain before) e; plain_is = as_operand Q 3 (omega arith) e is before; whole_is = refl }
      signs_read sign.Twice before = record { count = 2; plain = part (plain before) e; plain_is = as_operand Q 3 (omega arith) e is before; whole_is = refl }

      ranked : Ranked Q (expr.Negate minus e)
      ranked before = subst (λ (w : Written). fine Q (11 - w.rank) (part (syms (w.words before)) (expr.Negate minus e))) (sym shows) (signs_read minus before)

  pub sign_fits : (Q IsOperand : Part → Type 0) → ((q : Part) → IsOperand q → AreLeaves q.tokens → Fits Q 3 q.tree) → (p : Part) → IsSigned IsOperand p → AreLeaves p.tokens → Fits Q 4 p.tree
  sign_fits Q IsOperand fit p is leaves = go is.count is.whole_is
    where
      go : (n : ℕ) → p ≡ part (signs n ++ is.plain.tokens) (signed n is.plain.tree) → Fits Q 4 p.tree
      go zero whole =
          let own : AreLeaves is.plain.tokens = subst (λ (q : Part). AreLeaves q.tokens) whole leaves in
          subst (λ (q : Part). Fits Q 4 q.tree) (sym whole) (looser Q 3 4 (omega arith) is.plain.tree (fit is.plain is.plain_is own))
      go (suc n) whole =
          let own : AreLeaves is.plain.tokens = signs-leaves (suc n) is.plain.tokens (subst (λ (q : Part). AreLeaves q.tokens) whole leaves) in
          subst (λ (q : Part). Fits Q 4 q.tree) (sym whole) (negated Q (signs_past n) is.plain.tree (fit is.plain is.plain_is own))
