-- Each token that the machine takes keeps what is said of its state, and so what it reads is an expression.
use Rattle.std.specs.List.{AllByRecursion}
use Rattle.std.proofs.Common.{◌≡◌, ◌<◌, ◌≤◌, ◌+◌, ◌==◌, ℕ, zero, suc, Bool, true, false, cond, List, [], ◌∷◌, ◌++◌, length, Option, Some, None, option_map, sym, refl, ap, ◌∙◌, subst, inl, inr, append_assoc, append-nil, arith}
use Rattle.std.proofs.lemmas.Bool.Decides.{nat_tests}
use Rattle.std.proofs.lemmas.List.{map-append}
use Rattle.serna_kinds.specs.declared.expressions.Axis.{Axis}
use Rattle.serna_kinds.specs.declared.expressions.Axis.TheVariants as axis
use Rattle.serna_kinds.specs.declared.expressions.NodeTest.{NodeTest}
use Rattle.xpath_trees.specs.declared.expr.ArithOp.TheVariants as arith_op
use Rattle.xpath_trees.specs.declared.expr.Expr.{Expr}
use Rattle.xpath_trees.specs.declared.expr.Expr.TheVariants as expr
use Rattle.xpath_trees.specs.declared.expr.PathStart.TheVariants as start
use Rattle.xpath_trees.specs.declared.expr.Function.{Function}
use Rattle.xpath_trees.specs.declared.expr.Signs.TheVariants as sign
use Rattle.xpath_tokens.specs.declared.symbol.Operator.{Operator}
use Rattle.xpath_tokens.specs.declared.symbol.Operator.TheVariants as operator
use Rattle.xpath_tokens.specs.declared.symbol.Symbol.{Symbol}
use Rattle.xpath_tokens.specs.declared.symbol.Symbol.TheVariants as symbol
use Rattle.xpath_grammar.specs.declared.operand.Level.{Level}
use Rattle.xpath_grammar.specs.declared.operand.Level.TheVariants as level
use Rattle.xpath_grammar.specs.declared.operand.Path.{Path}
use Rattle.xpath_grammar.specs.declared.operand.Operand.{Operand}
use Rattle.xpath_grammar.specs.declared.operand.Operand.TheVariants as operand
use Rattle.xpath_grammar.specs.declared.operand.Chain.{Chain}
use Rattle.xpath_parser.specs.declared.state.Pending.{Pending}
use Rattle.xpath_parser.specs.declared.state.Pending.TheVariants as pending
use Rattle.xpath_parser.specs.declared.state.Place.{Place}
use Rattle.xpath_parser.specs.declared.state.Place.TheVariants as place
use Rattle.xpath_parser.specs.declared.state.State.{State}
use Rattle.xpath_grammar.specs.Trees.{step_of, self_node, parent_node, any_descendant, level_of, rank, filtered, once_more}
use Rattle.xpath_grammar.specs.Grammar.{Part, part, further, signs, stepped, bracketed, trees, slash, arguments, IsPrimary, IsExprIn, IsExpr}
use Rattle.xpath_grammar.specs.Parts.{here, from_root, with_step, operand_tree, whole, path_behind, longer, begun}
use Rattle.xpath_parser.specs.Machine.{at, is_level, closed, with_operator, after_step, after_axis, after_sign, after_first, after_argument, end_call, end_group, end_predicate, next_argument, begin_predicate, after_root, after_operand, after_in, beginning, after, finish_in, finished_in}
use Rattle.xpath_parser.proofs.Outcomes.{outcome, Fits}
use Rattle.xpath_parser.proofs.Soundness.{tier, lift, tier_of, rank-tier, same_level, all-push, others_of, further-push}
use Rattle.xpath_parser.proofs.States.{wide, wants_here, wants_root, wants_descendants, wants_behind, wants_behind_filter, Wants, IsOperand, step_path, filter_part, ended, Front, AtPlace, HasIn, Has, PutTogether, ends}

-- a state is reached by one more token, and brackets may still stand as deep as this number
abbrev pub Moved : ℕ → Option State → List Symbol → Type 0
Moved m None tokens = Unit {0}
Moved m (Some next) tokens = (e : ℕ) × (m ≤ e) × Has e next tokens

moved : (m e : ℕ) → m ≤ e → (p : Place) (s : List Pending) (before inside : List Symbol) → Front e s before → AtPlace (IsExprIn e) p s inside → (tokens : List Symbol) → tokens ≡ before ++ inside → Moved m (Some (at p s)) tokens
moved m e le p s before inside front is tokens same = (e, le, record { before = before; inside = inside; front = front; place_is = is; tokens_are = same })

-- at an operand's beginning nothing stands behind what waits
wanted : (m e : ℕ) → m ≤ e → (s : List Pending) (before : List Symbol) → Front e s before → Moved m (Some (at place.Operand s)) before
wanted m e le s before front = moved m e le place.Operand s before [] front refl before (sym (append-nil before))

same_depth : (d : ℕ) → d ≤ suc d
same_depth d = omega arith

outer_depth : (d : ℕ) → d ≤ suc (suc d)
outer_depth d = omega arith

-- Steps

step_moves : (d : ℕ) (s : List Pending) (before inside : List Symbol) → Front (suc d) s before → (p : Path) → Wants (IsExprIn (suc d)) p inside → (t : Symbol) → Moved d (after_step p s t) (before ++ (inside ++ t ∷ []))
step_moves d s before inside front p wants (symbol.Test t) =
    moved d (suc d) (same_depth d) (place.Behind (operand.Step p axis.Child t [])) s before (inside ++ symbol.Test t ∷ []) front
    (record {
      before = inside;
      axis_tokens = [];
      test_tokens = symbol.Test t ∷ [];
      parts = [];
      wants = wants;
      axis_is = inr (inr (refl, refl));
      test_is = inl refl;
      parts_are = tt;
      predicates_are = refl;
      tokens_are = refl;
    }) _ refl
step_moves d s before inside front p wants (symbol.NodeType t) =
    moved d (suc d) (same_depth d) (place.NodeOpen p axis.Child t) s before (inside ++ symbol.NodeType t ∷ []) front (inside, [], wants, inr (inr (refl, refl)), refl) _ refl
step_moves d s before inside front p wants (symbol.AxisName a) =
    moved d (suc d) (same_depth d) (place.Axis p a) s before (inside ++ symbol.AxisName a ∷ []) front (inside, wants, refl) _ refl
step_moves d s before inside front p wants symbol.At =
    moved d (suc d) (same_depth d) (place.Test p axis.Attribute) s before (inside ++ symbol.At ∷ []) front (inside, symbol.At ∷ [], wants, inr (inl (refl, refl)), refl) _ refl
step_moves d s before inside front p wants symbol.Dot =
    moved d (suc d) (same_depth d) (place.Behind (operand.Abbreviated (with_step p self_node))) s before (inside ++ symbol.Dot ∷ []) front
    (wants (stepped (symbol.Dot ∷ []) self_node) (inr (inl refl))) _ refl
step_moves d s before inside front p wants symbol.DotDot =
    moved d (suc d) (same_depth d) (place.Behind (operand.Abbreviated (with_step p parent_node))) s before (inside ++ symbol.DotDot ∷ []) front
    (wants (stepped (symbol.DotDot ∷ []) parent_node) (inr (inr refl))) _ refl
step_moves d s before inside front p wants _ = tt

test_moves : (d : ℕ) (s : List Pending) (before inside : List Symbol) → Front (suc d) s before → (p : Path) (a : Axis) → AtPlace (IsExprIn (suc d)) (place.Test p a) s inside → (t : Symbol)
    → Moved d (after_axis p a s t) (before ++ (inside ++ t ∷ []))
test_moves d s before inside front p a (start, axis_tokens, wants, is, same) (symbol.Test t) =
    moved d (suc d) (same_depth d) (place.Behind (operand.Step p a t [])) s before (inside ++ symbol.Test t ∷ []) front
    (record {
      before = start;
      axis_tokens = axis_tokens;
      test_tokens = symbol.Test t ∷ [];
      parts = [];
      wants = wants;
      axis_is = is;
      test_is = inl refl;
      parts_are = tt;
      predicates_are = refl;
      tokens_are = ap (λ l. l ++ symbol.Test t ∷ []) same ∙ append_assoc start axis_tokens (symbol.Test t ∷ []);
    }) _ refl
test_moves d s before inside front p a (start, axis_tokens, wants, is, same) (symbol.NodeType t) =
    moved d (suc d) (same_depth d) (place.NodeOpen p a t) s before (inside ++ symbol.NodeType t ∷ []) front
    (start, axis_tokens, wants, is, ap (λ l. l ++ symbol.NodeType t ∷ []) same ∙ append_assoc start axis_tokens (symbol.NodeType t ∷ [])) _ refl
test_moves d s before inside front p a place_is _ = tt

axis_moves : (d : ℕ) (s : List Pending) (before inside : List Symbol) → Front (suc d) s before → (p : Path) (a : Axis) → AtPlace (IsExprIn (suc d)) (place.Axis p a) s inside → (t : Symbol)
    → Moved d (after_in (place.Axis p a) s t) (before ++ (inside ++ t ∷ []))
axis_moves d s before inside front p a (start, wants, same) symbol.Colons =
    moved d (suc d) (same_depth d) (place.Test p a) s before (inside ++ symbol.Colons ∷ []) front
    (start, symbol.AxisName a ∷ symbol.Colons ∷ [], wants, inl refl, ap (λ l. l ++ symbol.Colons ∷ []) same ∙ append_assoc start (symbol.AxisName a ∷ []) (symbol.Colons ∷ [])) _ refl
axis_moves d s before inside front p a place_is _ = tt

node_open_moves : (d : ℕ) (s : List Pending) (before inside : List Symbol) → Front (suc d) s before → (p : Path) (a : Axis) (x : NodeTest) → AtPlace (IsExprIn (suc d)) (place.NodeOpen p a x) s inside → (t : Symbol)
    → Moved d (after_in (place.NodeOpen p a x) s t) (before ++ (inside ++ t ∷ []))
node_open_moves d s before inside front p a x (start, axis_tokens, wants, is, same) symbol.Open =
    moved d (suc d) (same_depth d) (place.NodeClose p a x) s before (inside ++ symbol.Open ∷ []) front (
      start,
      axis_tokens,
      wants,
      is,
      ap (λ l. l ++ symbol.Open ∷ []) same ∙ append_assoc start (axis_tokens ++ symbol.NodeType x ∷ []) (symbol.Open ∷ []) ∙ ap (λ l. start ++ l) (append_assoc axis_tokens (symbol.NodeType x ∷ []) (symbol.Open ∷ [])),
    ) _ refl
node_open_moves d s before inside front p a x place_is _ = tt

node_close_moves : (d : ℕ) (s : List Pending) (before inside : List Symbol) → Front (suc d) s before → (p : Path) (a : Axis) (x : NodeTest) → AtPlace (IsExprIn (suc d)) (place.NodeClose p a x) s inside → (t : Symbol)
    → Moved d (after_in (place.NodeClose p a x) s t) (before ++ (inside ++ t ∷ []))
node_close_moves d s before inside front p a x (start, axis_tokens, wants, is, same) symbol.Close =
    moved d (suc d) (same_depth d) (place.Behind (operand.Step p a x [])) s before (inside ++ symbol.Close ∷ []) front
    (record {
      before = start;
      axis_tokens = axis_tokens;
      test_tokens = symbol.NodeType x ∷ symbol.Open ∷ symbol.Close ∷ [];
      parts = [];
      wants = wants;
      axis_is = is;
      test_is = inr refl;
      parts_are = tt;
      predicates_are = refl;
      tokens_are = ap (λ l. l ++ symbol.Close ∷ []) same ∙ append_assoc start (axis_tokens ++ symbol.NodeType x ∷ symbol.Open ∷ []) (symbol.Close ∷ [])
          ∙ ap (λ l. start ++ l) (append_assoc axis_tokens (symbol.NodeType x ∷ symbol.Open ∷ []) (symbol.Close ∷ []));
    }) _ refl
node_close_moves d s before inside front p a x place_is _ = tt

-- The beginning of an operand

abbrev minus : Symbol
minus = symbol.Operator (operator.Arith arith_op.Subtract)

signs-push : (n : ℕ) → signs n ++ minus ∷ [] ≡ signs (suc n)
signs-push zero = refl
signs-push (suc n) = ap (λ l. minus ∷ l) (signs-push n)

looser : (l : Level) → is_level l level.Union ≡ false → rank l < 7
looser level.Or e = omega arith
looser level.And e = omega arith
looser level.Equality e = omega arith
looser level.Relational e = omega arith
looser level.Additive e = omega arith
looser level.Multiplicative e = omega arith
looser level.Union e = cc

-- the first minus sign of several
first_sign : (d : ℕ) (s : List Pending) (before : List Symbol) → Front (suc d) s before → Fits 7 s → Moved d (Some (at place.Operand (pending.Minus sign.Once ∷ s))) (before ++ minus ∷ [])
first_sign d s before front fits =
    wanted d (suc d) (same_depth d) (pending.Minus sign.Once ∷ s) (before ++ minus ∷ []) (record { start = before; count = 0; rest = front; fits = fits; signs_are = refl; tokens = refl })

sign_moves : (d : ℕ) (s : List Pending) (before : List Symbol) → Front (suc d) s before → Moved d (after_sign s) (before ++ minus ∷ [])
sign_moves d [] before front = first_sign d [] before front tt
sign_moves d (pending.Chain c ∷ s) before front = go (is_level (level_of c.last) level.Union) refl
  where
    go : (b : Bool) → is_level (level_of c.last) level.Union ≡ b → Moved d (cond b None (Some (at place.Operand (pending.Minus sign.Once ∷ (pending.Chain c ∷ s))))) (before ++ minus ∷ [])
    go true e = tt
    go false e = first_sign d (pending.Chain c ∷ s) before front (looser (level_of c.last) e)
sign_moves d (pending.Minus so_far ∷ s) before front =
    wanted d (suc d) (same_depth d) (pending.Minus (once_more so_far) ∷ s) (before ++ minus ∷ []) (record {
      start = front.start;
      count = suc front.count;
      rest = front.rest;
      fits = front.fits;
      signs_are = ap once_more front.signs_are;
      tokens = ap (λ l. l ++ minus ∷ []) front.tokens ∙ append_assoc front.start (signs (suc front.count)) (minus ∷ []) ∙ ap (λ l. front.start ++ l) (signs-push (suc front.count));
    })
sign_moves d (pending.Group ∷ s) before front = first_sign d (pending.Group ∷ s) before front tt
sign_moves d (pending.Call g args ∷ s) before front = first_sign d (pending.Call g args ∷ s) before front tt
sign_moves d (pending.Predicate o ∷ s) before front = first_sign d (pending.Predicate o ∷ s) before front tt

-- a primary expression without predicates
primary : (I : Part → Type 0) (p : Part) → IsPrimary I p → IsOperand I (whole p.tree) p.tokens
primary I p is = record { plain = p; parts = []; plain_is = is; parts_are = tt; tree_is = refl; predicates_are = refl; tokens_are = sym (append-nil p.tokens) }

first_moves : (d : ℕ) (s : List Pending) (before : List Symbol) → Front (suc d) s before → (t : Symbol) → Moved d (after_first s t) (before ++ t ∷ [])
first_moves d s before front (symbol.Atom e) =
    moved d (suc d) (same_depth d) (place.Behind (whole e)) s before (symbol.Atom e ∷ []) front (primary (IsExprIn (suc d)) (part (symbol.Atom e ∷ []) e) (inl (e, refl))) _ refl
first_moves d s before front (symbol.Callee f) = moved d (suc d) (same_depth d) (place.Callee f) s before (symbol.Callee f ∷ []) front refl _ refl
first_moves d s before front (symbol.Operator operator.Or) = tt
first_moves d s before front (symbol.Operator operator.And) = tt
first_moves d s before front (symbol.Operator (operator.Compare op)) = tt
first_moves d s before front (symbol.Operator (operator.Arith arith_op.Add)) = tt
first_moves d s before front (symbol.Operator (operator.Arith arith_op.Subtract)) = sign_moves d s before front
first_moves d s before front (symbol.Operator (operator.Arith arith_op.Multiply)) = tt
first_moves d s before front (symbol.Operator (operator.Arith arith_op.Remainder)) = tt
first_moves d s before front (symbol.Operator operator.Union) = tt
first_moves d s before front symbol.Open = wanted d d (omega arith) (pending.Group ∷ s) (before ++ symbol.Open ∷ []) (before, front, refl)
first_moves d s before front symbol.Slash = moved d (suc d) (same_depth d) (place.Behind operand.Root) s before (symbol.Slash ∷ []) front refl _ refl
first_moves d s before front symbol.DoubleSlash =
    moved d (suc d) (same_depth d) (place.Step (with_step from_root any_descendant)) s before (symbol.DoubleSlash ∷ []) front (wants_descendants (IsExprIn (suc d))) _ refl
first_moves d s before front (symbol.Test t) = step_moves d s before [] front here (wants_here (IsExprIn (suc d))) (symbol.Test t)
first_moves d s before front (symbol.NodeType t) = step_moves d s before [] front here (wants_here (IsExprIn (suc d))) (symbol.NodeType t)
first_moves d s before front (symbol.AxisName a) = step_moves d s before [] front here (wants_here (IsExprIn (suc d))) (symbol.AxisName a)
first_moves d s before front symbol.At = step_moves d s before [] front here (wants_here (IsExprIn (suc d))) symbol.At
first_moves d s before front symbol.Dot = step_moves d s before [] front here (wants_here (IsExprIn (suc d))) symbol.Dot
first_moves d s before front symbol.DotDot = step_moves d s before [] front here (wants_here (IsExprIn (suc d))) symbol.DotDot
first_moves d s before front _ = tt

callee_moves : (d : ℕ) (s : List Pending) (before inside : List Symbol) → Front (suc d) s before → (f : Function) → inside ≡ symbol.Callee f ∷ [] → (t : Symbol)
    → Moved d (after_in (place.Callee f) s t) (before ++ (inside ++ t ∷ []))
callee_moves d s before inside front f same symbol.Open =
    moved d d (omega arith) place.Argument (pending.Call f [] ∷ s) (before ++ (inside ++ symbol.Open ∷ [])) [] (before, [], front, tt, refl, ap (λ l. before ++ (l ++ symbol.Open ∷ [])) same) (refl, (f, s, refl)) _ (sym (append-nil _))
callee_moves d s before inside front f same _ = tt

no_trees : (given : List Part) → [] ≡ trees given → given ≡ []
no_trees [] e = refl
no_trees (p ∷ ps) e = cc

-- the `)` of a call without arguments
end_call_moves : (d : ℕ) (s : List Pending) (before : List Symbol) → Front (suc d) s before → (g : Function) (rest : List Pending) → s ≡ pending.Call g [] ∷ rest → Moved d (end_call s) (before ++ symbol.Close ∷ [])
end_call_moves d [] before front g rest e = tt
end_call_moves d (pending.Chain c ∷ s) before front g rest e = tt
end_call_moves d (pending.Minus so_far ∷ s) before front g rest e = tt
end_call_moves d (pending.Group ∷ s) before front g rest e = tt
end_call_moves d (pending.Predicate o ∷ s) before front g rest e = tt
end_call_moves d (pending.Call f args ∷ s) before (start, given, front, all, same, tokens) g rest e =
    let none : args ≡ [] = cc in
    let empty : given ≡ [] = no_trees given (sym none ∙ same) in
    let p = part (symbol.Callee f ∷ symbol.Open ∷ symbol.Close ∷ []) (expr.Call f args) in
    let is : IsPrimary (IsExprIn (suc (suc d))) p = inr (inr (record { function = f; given = []; given_are = tt; whole_is = ap (λ l. part (symbol.Callee f ∷ symbol.Open ∷ symbol.Close ∷ []) (expr.Call f l)) none })) in
    moved d (suc (suc d)) (outer_depth d) (place.Behind (whole (expr.Call f args))) s start p.tokens front (primary (IsExprIn (suc (suc d))) p is) _
    (ap (λ l. l ++ symbol.Close ∷ []) (tokens ∙ ap (λ l. start ++ (symbol.Callee f ∷ (symbol.Open ∷ ended l))) empty) ∙ append_assoc start (symbol.Callee f ∷ symbol.Open ∷ []) (symbol.Close ∷ []))

argument_moves : (d : ℕ) (s : List Pending) (before : List Symbol) → Front (suc d) s before → (g : Function) (rest : List Pending) → s ≡ pending.Call g [] ∷ rest → (t : Symbol) → Moved d (after_argument s t) (before ++ t ∷ [])
argument_moves d s before front g rest e symbol.Close = end_call_moves d s before front g rest e
argument_moves d s before front g rest e t = first_moves d s before front t

-- Behind an operand

not_seven : (l : Level) → 7 ≤ rank l → 7 < rank l
not_seven level.Or e = omega arith
not_seven level.And e = omega arith
not_seven level.Equality e = omega arith
not_seven level.Relational e = omega arith
not_seven level.Additive e = omega arith
not_seven level.Multiplicative e = omega arith
not_seven level.Union e = omega arith

lower : (m n : ℕ) → m ≤ n → (m == n) ≡ false → m < n
lower m n le e = grind (arith, nat_tests)

-- what is put together, as the last operand before an operator
module _ (d : ℕ) (op : Operator) where
  begins_chain : (e : Expr) (s : List Pending) (tokens : List Symbol) → (w : PutTogether (suc d) (rank (level_of op)) (e, s) tokens) → Fits (rank (level_of op)) s
      → Moved d (Some (at place.Operand (pending.Chain (begun e op) ∷ s))) (tokens ++ symbol.Operator op ∷ [])
  begins_chain e s tokens w fits =
      let sum : rank (level_of op) + tier_of (level_of op) ≡ 8 = rank-tier (level_of op) in
      let few : w.tier_is + rank (level_of op) ≤ 8 = w.small in
      wanted d (suc d) (same_depth d) (pending.Chain (begun e op) ∷ s) (tokens ++ symbol.Operator op ∷ []) (record {
        start = w.before;
        first = w.whole;
        others = [];
        rest = w.front;
        fits = fits;
        first_is = lift (IsExprIn (suc d)) w.tier_is (tier_of (level_of op)) (omega arith) w.whole w.is;
        others_are = tt;
        first_tree = w.tree_is;
        other_trees = refl;
        tokens = ap (λ l. l ++ symbol.Operator op ∷ []) w.tokens_are ∙ append_assoc w.before w.whole.tokens (symbol.Operator op ∷ []);
      })

  goes_on : (e : Expr) (c : Chain) (s : List Pending) (tokens : List Symbol) → (w : PutTogether (suc d) (rank (level_of op)) (e, pending.Chain c ∷ s) tokens) → level_of c.last ≡ level_of op
      → Moved d (Some (at place.Operand (pending.Chain (longer c e op) ∷ s))) (tokens ++ symbol.Operator op ∷ [])
  goes_on e c s tokens w same =
      let f = w.front in
      let x : Operator × Part = (c.last, w.whole) in
      let I = IsExprIn (suc d) in
      let all = f.others ++ x ∷ [] in
      let mark = symbol.Operator op ∷ [] in
      let others_are : AllByRecursion (λ (y : Operator × Part). (level_of y.0 ≡ level_of c.last) × tier I (tier_of (level_of c.last)) y.1) all =
      all-push (λ (y : Operator × Part). (level_of y.0 ≡ level_of c.last) × tier I (tier_of (level_of c.last)) y.1) f.others x f.others_are (refl, lift I w.tier_is (tier_of (level_of c.last)) w.fits w.whole w.is) in
      wanted d (suc d) (same_depth d) (pending.Chain (longer c e op) ∷ s) (tokens ++ mark) (record {
        start = f.start;
        first = f.first;
        others = all;
        rest = f.rest;
        fits = subst (λ (l : Level). Fits (rank l) s) same f.fits;
        first_is = subst (λ (l : Level). tier I (tier_of l) f.first) same f.first_is;
        others_are = subst (λ (l : Level). AllByRecursion (λ (y : Operator × Part). (level_of y.0 ≡ l) × tier I (tier_of l) y.1) all) same others_are;
        first_tree = f.first_tree;
        other_trees = ap (λ l. l ++ (c.last, e) ∷ []) f.other_trees ∙ ap (λ t. others_of f.others ++ (c.last, t) ∷ []) w.tree_is ∙ sym (map-append (λ (y : Operator × Part). (y.0, y.1.tree)) f.others (x ∷ []));
        tokens = ap (λ l. l ++ mark) (w.tokens_are ∙ ap (λ l. l ++ w.whole.tokens) f.tokens)
            ∙ append_assoc (f.start ++ (f.first.tokens ++ (further f.others ++ symbol.Operator c.last ∷ []))) w.whole.tokens mark
            ∙ append_assoc f.start (f.first.tokens ++ (further f.others ++ symbol.Operator c.last ∷ [])) (w.whole.tokens ++ mark)
            ∙ ap (λ l. f.start ++ l) (append_assoc f.first.tokens (further f.others ++ symbol.Operator c.last ∷ []) (w.whole.tokens ++ mark)
            ∙ ap (λ l. f.first.tokens ++ l) (append_assoc (further f.others) (symbol.Operator c.last ∷ []) (w.whole.tokens ++ mark)
            ∙ sym (append_assoc (further f.others) (symbol.Operator c.last ∷ w.whole.tokens) mark)
            ∙ ap (λ l. l ++ mark) (sym (further-push f.others c.last w.whole))));
      })

  operator_moves : (e : Expr) (s : List Pending) (tokens : List Symbol) → PutTogether (suc d) (rank (level_of op)) (e, s) tokens
      → Moved d (Some (at place.Operand (with_operator op e s))) (tokens ++ symbol.Operator op ∷ [])
  operator_moves e [] tokens w = begins_chain e [] tokens w tt
  operator_moves e (pending.Chain c ∷ s) tokens w = go (is_level (level_of c.last) (level_of op)) refl
    where
      go : (b : Bool) → is_level (level_of c.last) (level_of op) ≡ b
          → Moved d (Some (at place.Operand (cond b (pending.Chain (longer c e op) ∷ s) (pending.Chain (begun e op) ∷ (pending.Chain c ∷ s))))) (tokens ++ symbol.Operator op ∷ [])
      go true same = goes_on e c s tokens w (same_level (level_of c.last) (level_of op) same)
      go false other = begins_chain e (pending.Chain c ∷ s) tokens w (lower (rank (level_of c.last)) (rank (level_of op)) w.closed_so other)
  operator_moves e (pending.Minus so_far ∷ s) tokens w = begins_chain e (pending.Minus so_far ∷ s) tokens w (not_seven (level_of op) w.closed_so)
  operator_moves e (pending.Group ∷ s) tokens w = begins_chain e (pending.Group ∷ s) tokens w tt
  operator_moves e (pending.Call g args ∷ s) tokens w = begins_chain e (pending.Call g args ∷ s) tokens w tt
  operator_moves e (pending.Predicate o ∷ s) tokens w = begins_chain e (pending.Predicate o ∷ s) tokens w tt

-- what is put together at the end of an expression is one
inner_whole : (d : ℕ) (n : ℕ) → n ≤ 8 → (p : Part) → tier (IsExprIn d) n p → IsExprIn (suc d) p
unfolding IsExprIn
inner_whole d n le p is = lift (IsExprIn d) n 8 le p is

ended-push : (given : List Part) (p : Part) → ended (given ++ p ∷ []) ≡ ended given ++ (p.tokens ++ symbol.Comma ∷ [])
ended-push [] p = refl
ended-push (q ∷ qs) p = ap (λ l. q.tokens ++ symbol.Comma ∷ l) (ended-push qs p) ∙ sym (append_assoc q.tokens (symbol.Comma ∷ ended qs) (p.tokens ++ symbol.Comma ∷ []))

arguments-push : (given : List Part) (p : Part) → arguments (given ++ p ∷ []) ≡ ended given ++ p.tokens
arguments-push [] p = refl
arguments-push (q ∷ []) p = sym (append_assoc q.tokens (symbol.Comma ∷ []) p.tokens)
arguments-push (q ∷ r ∷ rs) p = ap (λ l. q.tokens ++ symbol.Comma ∷ l) (arguments-push (r ∷ rs) p) ∙ sym (append_assoc q.tokens (symbol.Comma ∷ ended (r ∷ rs)) p.tokens)

pub trees-push : (given : List Part) (p : Part) → trees (given ++ p ∷ []) ≡ trees given ++ p.tree ∷ []
trees-push given p = map-append (λ (q : Part). q.tree) given (p ∷ [])

pub bracketed-push : (given : List Part) (p : Part) → bracketed (given ++ p ∷ []) ≡ bracketed given ++ (symbol.OpenBracket ∷ (p.tokens ++ symbol.CloseBracket ∷ []))
bracketed-push [] p = refl
bracketed-push (q ∷ qs) p =
    ap (λ l. symbol.OpenBracket ∷ (q.tokens ++ symbol.CloseBracket ∷ l)) (bracketed-push qs p)
    ∙ ap (λ l. symbol.OpenBracket ∷ l) (sym (append_assoc q.tokens (symbol.CloseBracket ∷ bracketed qs) (symbol.OpenBracket ∷ (p.tokens ++ symbol.CloseBracket ∷ []))))

group_moves : (d : ℕ) (e : Expr) (s : List Pending) (tokens : List Symbol) → PutTogether (suc d) 0 (e, s) tokens → Moved d (end_group e s) (tokens ++ symbol.Close ∷ [])
group_moves d e [] tokens w = tt
group_moves d e (pending.Chain c ∷ s) tokens w = tt
group_moves d e (pending.Minus so_far ∷ s) tokens w = tt
group_moves d e (pending.Predicate o ∷ s) tokens w = tt
group_moves d e (pending.Group ∷ s) tokens w =
    let (start, front, same) = w.front in
    let p = part (symbol.Open ∷ (w.whole.tokens ++ symbol.Close ∷ [])) e in
    let is : IsPrimary (IsExprIn (suc (suc d))) p = inr (inl (record {
      inner = w.whole;
      inner_is = inner_whole (suc d) w.tier_is w.fits w.whole w.is;
      whole_is = ap (part p.tokens) w.tree_is;
    })) in
    moved d (suc (suc d)) (outer_depth d) (place.Behind (whole e)) s start p.tokens front (primary (IsExprIn (suc (suc d))) p is) _
    (ap (λ l. l ++ symbol.Close ∷ []) (w.tokens_are ∙ ap (λ l. l ++ w.whole.tokens) same)
    ∙ append_assoc (start ++ symbol.Open ∷ []) w.whole.tokens (symbol.Close ∷ []) ∙ append_assoc start (symbol.Open ∷ []) (w.whole.tokens ++ symbol.Close ∷ []))
group_moves d e (pending.Call g args ∷ s) tokens w =
    let (start, given, front, all, same, before_is) = w.front in
    let I = IsExprIn (suc (suc d)) in
    let more = given ++ w.whole ∷ [] in
    let p = part (symbol.Callee g ∷ (symbol.Open ∷ (arguments more ++ symbol.Close ∷ []))) (expr.Call g (args ++ e ∷ [])) in
    let args_are : args ++ e ∷ [] ≡ trees more = ap (λ l. l ++ e ∷ []) same ∙ ap (λ x. trees given ++ x ∷ []) w.tree_is ∙ sym (trees-push given w.whole) in
    let is : IsPrimary I p = inr (inr (record {
      function = g;
      given = more;
      given_are = all-push I given w.whole all (inner_whole (suc d) w.tier_is w.fits w.whole w.is);
      whole_is = ap (λ l. part p.tokens (expr.Call g l)) args_are;
    })) in
    moved d (suc (suc d)) (outer_depth d) (place.Behind (whole (expr.Call g (args ++ e ∷ [])))) s start p.tokens front (primary I p is) _
    (ap (λ l. l ++ symbol.Close ∷ []) (w.tokens_are ∙ ap (λ l. l ++ w.whole.tokens) before_is)
    ∙ append_assoc (start ++ (symbol.Callee g ∷ (symbol.Open ∷ ended given))) w.whole.tokens (symbol.Close ∷ [])
    ∙ append_assoc start (symbol.Callee g ∷ (symbol.Open ∷ ended given)) (w.whole.tokens ++ symbol.Close ∷ [])
    ∙ ap (λ l. start ++ (symbol.Callee g ∷ (symbol.Open ∷ l))) (sym (append_assoc (ended given) w.whole.tokens (symbol.Close ∷ [])) ∙ ap (λ l. l ++ symbol.Close ∷ []) (sym (arguments-push given w.whole))))

comma_moves : (d : ℕ) (e : Expr) (s : List Pending) (tokens : List Symbol) → PutTogether (suc d) 0 (e, s) tokens → Moved d (next_argument e s) (tokens ++ symbol.Comma ∷ [])
comma_moves d e [] tokens w = tt
comma_moves d e (pending.Chain c ∷ s) tokens w = tt
comma_moves d e (pending.Minus so_far ∷ s) tokens w = tt
comma_moves d e (pending.Group ∷ s) tokens w = tt
comma_moves d e (pending.Predicate o ∷ s) tokens w = tt
comma_moves d e (pending.Call g args ∷ s) tokens w =
    let (start, given, front, all, same, before_is) = w.front in
    let I = IsExprIn (suc (suc d)) in
    let more = given ++ w.whole ∷ [] in
    wanted d (suc d) (same_depth d) (pending.Call g (args ++ e ∷ []) ∷ s) (tokens ++ symbol.Comma ∷ []) (
      start,
      more,
      front,
      all-push I given w.whole all (inner_whole (suc d) w.tier_is w.fits w.whole w.is),
      ap (λ l. l ++ e ∷ []) same ∙ ap (λ x. trees given ++ x ∷ []) w.tree_is ∙ sym (trees-push given w.whole),
      ap (λ l. l ++ symbol.Comma ∷ []) (w.tokens_are ∙ ap (λ l. l ++ w.whole.tokens) before_is)
          ∙ append_assoc (start ++ (symbol.Callee g ∷ (symbol.Open ∷ ended given))) w.whole.tokens (symbol.Comma ∷ [])
          ∙ append_assoc start (symbol.Callee g ∷ (symbol.Open ∷ ended given)) (w.whole.tokens ++ symbol.Comma ∷ [])
          ∙ ap (λ l. start ++ (symbol.Callee g ∷ (symbol.Open ∷ l))) (sym (ended-push given w.whole)),
    )

-- the tokens of an operand with one more predicate
more_bracketed : (front inside : List Symbol) (parts : List Part) (p : Part) → (tokens : List Symbol) → tokens ≡ front ++ bracketed parts
    → tokens ++ (symbol.OpenBracket ∷ (p.tokens ++ symbol.CloseBracket ∷ [])) ≡ front ++ bracketed (parts ++ p ∷ [])
more_bracketed front inside parts p tokens e =
    ap (λ l. l ++ (symbol.OpenBracket ∷ (p.tokens ++ symbol.CloseBracket ∷ []))) e ∙ append_assoc front (bracketed parts) (symbol.OpenBracket ∷ (p.tokens ++ symbol.CloseBracket ∷ [])) ∙ ap (λ l. front ++ l) (sym (bracketed-push parts p))

-- tokens with a predicate in brackets behind them
in_brackets : (start inside inner : List Symbol) → ((start ++ (inside ++ symbol.OpenBracket ∷ [])) ++ inner) ++ symbol.CloseBracket ∷ [] ≡ start ++ (inside ++ (symbol.OpenBracket ∷ (inner ++ symbol.CloseBracket ∷ [])))
in_brackets start inside inner =
    append_assoc (start ++ (inside ++ symbol.OpenBracket ∷ [])) inner (symbol.CloseBracket ∷ []) ∙ append_assoc start (inside ++ symbol.OpenBracket ∷ []) (inner ++ symbol.CloseBracket ∷ [])
    ∙ ap (λ l. start ++ l) (append_assoc inside (symbol.OpenBracket ∷ []) (inner ++ symbol.CloseBracket ∷ []))

predicate_moves : (d : ℕ) (e : Expr) (s : List Pending) (tokens : List Symbol) → PutTogether (suc d) 0 (e, s) tokens → Moved d (end_predicate e s) (tokens ++ symbol.CloseBracket ∷ [])
predicate_moves d e [] tokens w = tt
predicate_moves d e (pending.Chain c ∷ s) tokens w = tt
predicate_moves d e (pending.Minus so_far ∷ s) tokens w = tt
predicate_moves d e (pending.Group ∷ s) tokens w = tt
predicate_moves d e (pending.Call g args ∷ s) tokens w = tt
predicate_moves d e (pending.Predicate operand.Root ∷ s) tokens w = tt
predicate_moves d e (pending.Predicate (operand.Abbreviated p) ∷ s) tokens w = tt
predicate_moves d e (pending.Predicate (operand.Step p a t predicates) ∷ s) tokens w =
    let (start, inside, front, is, before_is, may) = w.front in
    let I = IsExprIn (suc (suc d)) in
    moved d (suc (suc d)) (outer_depth d) (place.Behind (operand.Step p a t (predicates ++ e ∷ []))) s start (inside ++ (symbol.OpenBracket ∷ (w.whole.tokens ++ symbol.CloseBracket ∷ []))) front
    (record {
      before = is.before;
      axis_tokens = is.axis_tokens;
      test_tokens = is.test_tokens;
      parts = is.parts ++ w.whole ∷ [];
      wants = is.wants;
      axis_is = is.axis_is;
      test_is = is.test_is;
      parts_are = all-push I is.parts w.whole is.parts_are (inner_whole (suc d) w.tier_is w.fits w.whole w.is);
      predicates_are = ap (λ l. l ++ e ∷ []) is.predicates_are ∙ ap (λ x. trees is.parts ++ x ∷ []) w.tree_is ∙ sym (trees-push is.parts w.whole);
      tokens_are =
          ap (λ l. l ++ (symbol.OpenBracket ∷ (w.whole.tokens ++ symbol.CloseBracket ∷ []))) is.tokens_are
          ∙ append_assoc is.before (is.axis_tokens ++ (is.test_tokens ++ bracketed is.parts)) _
          ∙ ap (λ l. is.before ++ l) (append_assoc is.axis_tokens (is.test_tokens ++ bracketed is.parts) _
          ∙ ap (λ l. is.axis_tokens ++ l) (more_bracketed is.test_tokens [] is.parts w.whole (is.test_tokens ++ bracketed is.parts) refl));
    }) _
    (ap (λ l. l ++ symbol.CloseBracket ∷ []) (w.tokens_are ∙ ap (λ l. l ++ w.whole.tokens) before_is) ∙ in_brackets start inside w.whole.tokens)
predicate_moves d e (pending.Predicate (operand.Primary x predicates) ∷ s) tokens w =
    let (start, inside, front, is, before_is, may) = w.front in
    let I = IsExprIn (suc (suc d)) in
    moved d (suc (suc d)) (outer_depth d) (place.Behind (operand.Primary x (predicates ++ e ∷ []))) s start (inside ++ (symbol.OpenBracket ∷ (w.whole.tokens ++ symbol.CloseBracket ∷ []))) front
    (record {
      plain = is.plain;
      parts = is.parts ++ w.whole ∷ [];
      plain_is = is.plain_is;
      parts_are = all-push I is.parts w.whole is.parts_are (inner_whole (suc d) w.tier_is w.fits w.whole w.is);
      tree_is = is.tree_is;
      predicates_are = ap (λ l. l ++ e ∷ []) is.predicates_are ∙ ap (λ y. trees is.parts ++ y ∷ []) w.tree_is ∙ sym (trees-push is.parts w.whole);
      tokens_are = more_bracketed is.plain.tokens [] is.parts w.whole inside is.tokens_are;
    }) _
    (ap (λ l. l ++ symbol.CloseBracket ∷ []) (w.tokens_are ∙ ap (λ l. l ++ w.whole.tokens) before_is) ∙ in_brackets start inside w.whole.tokens)

bracket_moves : (d : ℕ) (o : Operand) (s : List Pending) (before inside : List Symbol) → Front (suc d) s before → IsOperand (IsExprIn (suc d)) o inside
    → Moved d (begin_predicate o s) (before ++ (inside ++ symbol.OpenBracket ∷ []))
bracket_moves d operand.Root s before inside front is = tt
bracket_moves d (operand.Abbreviated p) s before inside front is = tt
bracket_moves d (operand.Step p a t predicates) s before inside front is = wanted d d (omega arith) _ _ (before, inside, front, is, refl, tt)
bracket_moves d (operand.Primary e predicates) s before inside front is = wanted d d (omega arith) _ _ (before, inside, front, is, refl, tt)

slash_moves : (d : ℕ) (b : Bool) (o : Operand) (s : List Pending) (before inside : List Symbol) → Front (suc d) s before → IsOperand (IsExprIn (suc d)) o inside
    → Moved d (option_map (λ p. at (place.Step (wide b p)) s) (path_behind o)) (before ++ (inside ++ slash b ∷ []))
slash_moves d b operand.Root s before inside front is = tt
slash_moves d b (operand.Abbreviated p) s before inside front is =
    moved d (suc d) (same_depth d) (place.Step (wide b p)) s before (inside ++ slash b ∷ []) front (wants_behind (IsExprIn (suc d)) p inside is b) _ refl
slash_moves d b (operand.Step p a t predicates) s before inside front is =
    let q = with_step p (step_of a t predicates) in
    moved d (suc d) (same_depth d) (place.Step (wide b q)) s before (inside ++ slash b ∷ []) front
    (wants_behind (IsExprIn (suc d)) q inside (step_path (IsExprIn (suc d)) p a t predicates inside is) b) _ refl
slash_moves d b (operand.Primary e predicates) s before inside front is =
    let q = part inside (filtered e predicates) in
    moved d (suc d) (same_depth d) (place.Step (wide b (record { start = start.From q.tree; steps = [] }))) s before (inside ++ slash b ∷ []) front
    (wants_behind_filter (IsExprIn (suc d)) q (filter_part (IsExprIn (suc d)) e predicates inside is) b) _ refl

root_moves : (d : ℕ) (o : Operand) (s : List Pending) (before inside : List Symbol) → Front (suc d) s before → IsOperand (IsExprIn (suc d)) o inside → (t : Symbol)
    → Moved d (after_root o s t) (before ++ (inside ++ t ∷ []))
root_moves d operand.Root s before inside front is t =
    step_moves d s before inside front from_root (subst (Wants (IsExprIn (suc d)) from_root) (sym is) (wants_root (IsExprIn (suc d)))) t
root_moves d (operand.Abbreviated p) s before inside front is t = tt
root_moves d (operand.Step p a x predicates) s before inside front is t = tt
root_moves d (operand.Primary e predicates) s before inside front is t = tt

operand_moves : (d : ℕ) (o : Operand) (s : List Pending) (before inside : List Symbol) → Front (suc d) s before → IsOperand (IsExprIn (suc d)) o inside → (t : Symbol)
    → Moved d (after_operand o s t) (before ++ (inside ++ t ∷ []))
operand_moves d o s before inside front is (symbol.Operator op) =
    let w = ends (suc d) (rank (level_of op)) (low (level_of op)) o s before inside front is in
    let c = closed (rank (level_of op)) (operand_tree o) s in
    subst (Moved d (Some (at place.Operand (with_operator op c.0 c.1)))) (append_assoc before inside (symbol.Operator op ∷ [])) (operator_moves d op c.0 c.1 (before ++ inside) w)
  where
    low : (l : Level) → rank l ≤ 8
    low level.Or = omega arith
    low level.And = omega arith
    low level.Equality = omega arith
    low level.Relational = omega arith
    low level.Additive = omega arith
    low level.Multiplicative = omega arith
    low level.Union = omega arith
operand_moves d o s before inside front is symbol.Close =
    let c = closed 0 (operand_tree o) s in
    subst (Moved d (end_group c.0 c.1)) (append_assoc before inside (symbol.Close ∷ [])) (group_moves d c.0 c.1 (before ++ inside) (ends (suc d) 0 (omega arith) o s before inside front is))
operand_moves d o s before inside front is symbol.CloseBracket =
    let c = closed 0 (operand_tree o) s in
    subst (Moved d (end_predicate c.0 c.1)) (append_assoc before inside (symbol.CloseBracket ∷ [])) (predicate_moves d c.0 c.1 (before ++ inside) (ends (suc d) 0 (omega arith) o s before inside front is))
operand_moves d o s before inside front is symbol.Comma =
    let c = closed 0 (operand_tree o) s in
    subst (Moved d (next_argument c.0 c.1)) (append_assoc before inside (symbol.Comma ∷ [])) (comma_moves d c.0 c.1 (before ++ inside) (ends (suc d) 0 (omega arith) o s before inside front is))
operand_moves d o s before inside front is symbol.OpenBracket = bracket_moves d o s before inside front is
operand_moves d o s before inside front is symbol.Slash = slash_moves d false o s before inside front is
operand_moves d o s before inside front is symbol.DoubleSlash = slash_moves d true o s before inside front is
operand_moves d o s before inside front is (symbol.Test t) = root_moves d o s before inside front is (symbol.Test t)
operand_moves d o s before inside front is (symbol.NodeType t) = root_moves d o s before inside front is (symbol.NodeType t)
operand_moves d o s before inside front is (symbol.AxisName a) = root_moves d o s before inside front is (symbol.AxisName a)
operand_moves d o s before inside front is symbol.At = root_moves d o s before inside front is symbol.At
operand_moves d o s before inside front is symbol.Dot = root_moves d o s before inside front is symbol.Dot
operand_moves d o s before inside front is symbol.DotDot = root_moves d o s before inside front is symbol.DotDot
operand_moves d o s before inside front is _ = tt

-- Any token

moves : (d : ℕ) (p : Place) (s : List Pending) (before inside : List Symbol) → Front (suc d) s before → AtPlace (IsExprIn (suc d)) p s inside → (t : Symbol) → Moved d (after_in p s t) (before ++ (inside ++ t ∷ []))
moves d place.Operand s before inside front is t = subst (λ l. Moved d (after_first s t) (before ++ (l ++ t ∷ []))) (sym is) (first_moves d s before front t)
moves d place.Argument s before inside front (none, (g, rest, e)) t = subst (λ l. Moved d (after_argument s t) (before ++ (l ++ t ∷ []))) (sym none) (argument_moves d s before front g rest e t)
moves d (place.Callee f) s before inside front is t = callee_moves d s before inside front f is t
moves d (place.Step p) s before inside front is t = step_moves d s before inside front p is t
moves d (place.Axis p a) s before inside front is t = axis_moves d s before inside front p a is t
moves d (place.Test p a) s before inside front is t = test_moves d s before inside front p a is t
moves d (place.NodeOpen p a x) s before inside front is t = node_open_moves d s before inside front p a x is t
moves d (place.NodeClose p a x) s before inside front is t = node_close_moves d s before inside front p a x is t
moves d (place.Behind o) s before inside front is t = operand_moves d o s before inside front is t

pub has_more : (d : ℕ) (state : State) (tokens : List Symbol) (t : Symbol) → Has (suc d) state tokens → Moved d (after state t) (tokens ++ t ∷ [])
has_more d state tokens t has =
    subst (Moved d (after state t)) (sym (ap (λ l. l ++ t ∷ []) has.tokens_are ∙ append_assoc has.before has.inside (t ∷ [])))
    (moves d state.place state.stack has.before has.inside has.front has.place_is t)

-- before the first token
pub has_begun : (d : ℕ) → Has d beginning []
has_begun d = record { before = []; inside = []; front = refl; place_is = refl; tokens_are = refl }

-- where the tokens may end, they are an expression
finished : (d : ℕ) (e : Expr) (s : List Pending) (tokens : List Symbol) (tree : Expr) → PutTogether d 0 (e, s) tokens → finished_in e s ≡ Some tree → IsExpr tokens tree
finished d e [] tokens tree w same =
    let trees_same : e ≡ tree = cc in (
      suc d,
      subst (λ l. IsExprIn (suc d) (part l tree)) (sym (w.tokens_are ∙ ap (λ l. l ++ w.whole.tokens) w.front))
          (subst (λ x. IsExprIn (suc d) (part w.whole.tokens x)) (sym w.tree_is ∙ trees_same) (inner_whole d w.tier_is w.fits w.whole w.is)),
    )
finished d e (p ∷ s) tokens tree w same = cc

has_finished : (d : ℕ) (p : Place) (s : List Pending) (tokens : List Symbol) (tree : Expr) → HasIn d p s tokens → finish_in p s ≡ Some tree → IsExpr tokens tree
has_finished d (place.Behind o) s tokens tree has e =
    subst (λ l. IsExpr l tree) (sym has.tokens_are)
    (finished d (closed 0 (operand_tree o) s).0 (closed 0 (operand_tree o) s).1 (has.before ++ has.inside) tree (ends d 0 (omega arith) o s has.before has.inside has.front has.place_is) e)
has_finished d place.Operand s tokens tree has e = cc
has_finished d place.Argument s tokens tree has e = cc
has_finished d (place.Callee f) s tokens tree has e = cc
has_finished d (place.Step p) s tokens tree has e = cc
has_finished d (place.Axis p a) s tokens tree has e = cc
has_finished d (place.Test p a) s tokens tree has e = cc
has_finished d (place.NodeOpen p a x) s tokens tree has e = cc
has_finished d (place.NodeClose p a x) s tokens tree has e = cc

has_outcome : (d : ℕ) (state : State) (tokens rest : List Symbol) (tree : Expr) → Has d state tokens → length rest ≤ d → outcome (Some state) rest ≡ Some tree → IsExpr (tokens ++ rest) tree
has_outcome d state tokens [] tree has le e = subst (λ l. IsExpr l tree) (sym (append-nil tokens)) (has_finished d state.place state.stack tokens tree has e)
has_outcome zero state tokens (t ∷ ts) tree has le e = absurd (omega arith)
has_outcome (suc d) state tokens (t ∷ ts) tree has le e =
    subst (λ l. IsExpr l tree) (append_assoc tokens (t ∷ []) ts)
    (go (after state t) (has_more d state tokens t has) e (λ k next w low f. has_outcome k next (tokens ++ t ∷ []) ts tree w low f))
  where
    go : (o : Option State) → Moved d o (tokens ++ t ∷ []) → outcome o ts ≡ Some tree
        → ((k : ℕ) (next : State) → Has k next (tokens ++ t ∷ []) → length ts ≤ k → outcome (Some next) ts ≡ Some tree → IsExpr ((tokens ++ t ∷ []) ++ ts) tree) → IsExpr ((tokens ++ t ∷ []) ++ ts) tree
    go None w f rest = cc
    go (Some next) (k, low, w) f rest = rest k next w (omega arith) f

-- what the machine reads is an expression
pub is_expr : (tokens : List Symbol) (tree : Expr) → outcome (Some beginning) tokens ≡ Some tree → IsExpr tokens tree
is_expr tokens tree e = has_outcome (length tokens) beginning [] tokens tree (has_begun (length tokens)) (omega arith) e
