-- Each state that is reached can be ended: an expression can begin with what the machine has taken, and with nothing else.
use Rattle.std.proofs.Common.{◌≡◌, ◌≤◌, ℕ, zero, suc, List, [], ◌∷◌, ◌++◌, length, Option, Some, None, sym, refl, ap, ◌∙◌, subst, append_assoc, append-nil, arith}
use Rattle.xpath_trees.specs.declared.expr.Expr.{Expr}
use Rattle.xpath_trees.specs.declared.expr.Expr.TheVariants as expr
use Rattle.xpath_tokens.specs.declared.symbol.Symbol.{Symbol}
use Rattle.xpath_tokens.specs.declared.symbol.Symbol.TheVariants as symbol
use Rattle.xpath_grammar.specs.declared.operand.Operand.{Operand}
use Rattle.xpath_grammar.specs.declared.operand.Operand.TheVariants as operand
use Rattle.xpath_parser.specs.declared.state.Pending.{Pending}
use Rattle.xpath_parser.specs.declared.state.Pending.TheVariants as pending
use Rattle.xpath_parser.specs.declared.state.Place.{Place}
use Rattle.xpath_parser.specs.declared.state.Place.TheVariants as place
use Rattle.xpath_parser.specs.declared.state.State.{State}
use Rattle.xpath_grammar.specs.Trees.{self_node, level_of}
use Rattle.xpath_grammar.specs.Parts.{here, with_step, operand_tree, whole, chained}
use Rattle.xpath_parser.specs.Machine.{at, behind, beginning, after, finish, run}
use Rattle.xpath_grammar.specs.Grammar.{IsExpr}
use Rattle.xpath_machine.specs.Stops.{BeginsBy}
use Rattle.serna_kinds.specs.declared.expressions.NodeTest.TheVariants as test
use Rattle.xpath_parser.proofs.Outcomes.{outcome, rank-some, Follows, chain_ends, sign_ends}
use Rattle.xpath_parser.proofs.Completeness.{reads_expr}
use Rattle.xpath_parser.proofs.States.{Front, Has}
use Rattle.xpath_machine.specs.Advance.{ReadsBy}
use Rattle.xpath_parser.proofs.Steps.{Moved, has_more, has_begun, is_expr}

-- the brackets that are still to be closed
abbrev closers : List Pending → List Symbol
closers [] = []
closers (pending.Chain c ∷ s) = closers s
closers (pending.Minus signs ∷ s) = closers s
closers (pending.Group ∷ s) = symbol.Close ∷ closers s
closers (pending.Call g args ∷ s) = symbol.Close ∷ closers s
closers (pending.Predicate o ∷ s) = symbol.CloseBracket ∷ closers s

closers_follow : (s : List Pending) → Follows 1 (closers s)
closers_follow [] = tt
closers_follow (pending.Chain c ∷ s) = closers_follow s
closers_follow (pending.Minus signs ∷ s) = closers_follow s
closers_follow (pending.Group ∷ s) = tt
closers_follow (pending.Call g args ∷ s) = tt
closers_follow (pending.Predicate o ∷ s) = tt

abbrev Ends : Option State → List Symbol → Type 0
Ends state more = (tree : Expr) × (outcome state more ≡ Some tree)

operand_ends : (d : ℕ) (s : List Pending) (before : List Symbol) → Front d s before → (o : Operand) → Ends (Some (behind o s)) (closers s)
operand_ends d [] before front o = (operand_tree o, refl)
operand_ends d (pending.Chain c ∷ s) before front o =
    let rest = operand_ends d s front.start front.rest (whole (chained c (operand_tree o))) in
    (rest.0, chain_ends o c s 1 (let some = rank-some (level_of c.last) in omega arith) (omega arith) (closers s) (closers_follow s) ∙ rest.1)
operand_ends d (pending.Minus signs ∷ s) before front o =
    let rest = operand_ends d s front.start front.rest (whole (expr.Negate signs (operand_tree o))) in
    (rest.0, sign_ends o signs s 1 (omega arith) (omega arith) (closers s) (closers_follow s) ∙ rest.1)
operand_ends d (pending.Group ∷ s) before (start, front, same) o = operand_ends (suc d) s start front (whole (operand_tree o))
operand_ends d (pending.Call g args ∷ s) before (start, given, front, all, same, e) o = operand_ends (suc d) s start front (whole (expr.Call g (args ++ operand_tree o ∷ [])))
operand_ends d (pending.Predicate operand.Root ∷ s) before (start, tokens, front, is, same, may) o = absurd may
operand_ends d (pending.Predicate (operand.Abbreviated p) ∷ s) before (start, tokens, front, is, same, may) o = absurd may
operand_ends d (pending.Predicate (operand.Step p a t predicates) ∷ s) before (start, tokens, front, is, same, may) o =
    operand_ends (suc d) s start front (operand.Step p a t (predicates ++ operand_tree o ∷ []))
operand_ends d (pending.Predicate (operand.Primary e predicates) ∷ s) before (start, tokens, front, is, same, may) o =
    operand_ends (suc d) s start front (operand.Primary e (predicates ++ operand_tree o ∷ []))

place_ends : (d : ℕ) (p : Place) (s : List Pending) (before : List Symbol) → Front d s before → (more : List Symbol) × Ends (Some (at p s)) more
place_ends d place.Operand s before front = (symbol.Dot ∷ closers s, operand_ends d s before front (operand.Abbreviated (with_step here self_node)))
place_ends d place.Argument s before front = (symbol.Dot ∷ closers s, operand_ends d s before front (operand.Abbreviated (with_step here self_node)))
place_ends d (place.Callee f) s before front = (symbol.Open ∷ (symbol.Close ∷ closers s), operand_ends d s before front (whole (expr.Call f [])))
place_ends d (place.Step p) s before front = (symbol.Dot ∷ closers s, operand_ends d s before front (operand.Abbreviated (with_step p self_node)))
place_ends d (place.Axis p a) s before front = (symbol.Colons ∷ (symbol.Test test.AnyName ∷ closers s), operand_ends d s before front (operand.Step p a test.AnyName []))
place_ends d (place.Test p a) s before front = (symbol.Test test.AnyName ∷ closers s, operand_ends d s before front (operand.Step p a test.AnyName []))
place_ends d (place.NodeOpen p a x) s before front = (symbol.Open ∷ (symbol.Close ∷ closers s), operand_ends d s before front (operand.Step p a x []))
place_ends d (place.NodeClose p a x) s before front = (symbol.Close ∷ closers s, operand_ends d s before front (operand.Step p a x []))
place_ends d (place.Behind o) s before front = (closers s, operand_ends d s before front o)

pub outcome-run : (o : Option State) (ts more : List Symbol) → outcome o (ts ++ more) ≡ outcome (run o ts) more
outcome-run None ts more = refl
outcome-run (Some s) [] more = refl
outcome-run (Some s) (t ∷ ts) more = outcome-run (after s t) ts more

pub run-push : (o : Option State) (ts : List Symbol) (t : Symbol) (state : State) → run o ts ≡ Some state → run o (ts ++ t ∷ []) ≡ after state t
run-push None ts t state e = cc
run-push (Some s) [] t state e = let same : s ≡ state = cc in ap (λ x. run (Some x) (t ∷ [])) same ∙ run-none (after state t)
  where
    run-none : (o : Option State) → run o [] ≡ o
    run-none None = refl
    run-none (Some s) = refl
run-push (Some s) (u ∷ ts) t state e = run-push (after s u) ts t state e

-- what is said of a state that tokens have led to
has_run : (d : ℕ) (state : State) (tokens rest : List Symbol) (last : State) → Has d state tokens → length rest ≤ d → run (Some state) rest ≡ Some last → (k : ℕ) × Has k last (tokens ++ rest)
has_run d state tokens [] last has le e =
    let same : state ≡ last = cc in (d, subst (λ s. Has d s (tokens ++ [])) same (subst (Has d state) (sym (append-nil tokens)) has))
has_run zero state tokens (t ∷ ts) last has le e = absurd (omega arith)
has_run (suc d) state tokens (t ∷ ts) last has le e =
    go (after state t) (has_more d state tokens t has) e (λ k next w low f. has_run k next (tokens ++ t ∷ []) ts last w low f)
  where
    go : (o : Option State) → Moved d o (tokens ++ t ∷ []) → run o ts ≡ Some last
        → ((k : ℕ) (next : State) → Has k next (tokens ++ t ∷ []) → length ts ≤ k → run (Some next) ts ≡ Some last → (m : ℕ) × Has m last ((tokens ++ t ∷ []) ++ ts)) → (m : ℕ) × Has m last (tokens ++ t ∷ ts)
    go None w f rest = cc
    go (Some next) (k, low, w) f rest = let r = rest k next w (omega arith) f in (r.0, subst (Has r.0 last) (append_assoc tokens (t ∷ []) ts) r.1)

-- where the machine has taken these tokens, an expression can begin with them
pub begins : (tokens : List Symbol) (state : State) → run (Some beginning) tokens ≡ Some state → BeginsBy IsExpr tokens
begins tokens state e =
    let has = has_run (length tokens) beginning [] tokens state (has_begun (length tokens)) (omega arith) e in
    let end = place_ends has.0 state.place state.stack has.1.before has.1.front in
    (end.0, end.1.0, is_expr (tokens ++ end.0) end.1.0 (outcome-run (Some beginning) tokens end.0 ∙ ap (λ o. outcome o end.0) e ∙ end.1.1))

-- where it has not, none can
pub stuck : (tokens : List Symbol) → run (Some beginning) tokens ≡ None → BeginsBy IsExpr tokens → ⊥
stuck tokens e (more, tree, is) =
    let no_tree : None ≡ Some tree = sym (outcome-run (Some beginning) tokens more ∙ ap (λ o. outcome o more) e) ∙ reads_expr (tokens ++ more) tree is in cc

-- the tree, where the machine has taken all the tokens
pub ended_so : (tokens : List Symbol) (state : State) → run (Some beginning) tokens ≡ Some state → outcome (Some beginning) tokens ≡ finish state
ended_so tokens state e = ap (outcome (Some beginning)) (sym (append-nil tokens)) ∙ outcome-run (Some beginning) tokens [] ∙ ap (λ o. outcome o []) e

-- what the machine of expressions does with tokens
pub reads_expressions : ReadsBy (run (Some beginning)) after finish IsExpr
reads_expressions = record {
  more = λ tokens state t e. run-push (Some beginning) tokens t state e;
  begins = begins;
  stuck = stuck;
  tree = λ tokens state tree e f. is_expr tokens tree (ended_so tokens state e ∙ f);
  none = λ tokens state tree e f is. (let no_tree : None ≡ Some tree = sym f ∙ sym (ended_so tokens state e) ∙ reads_expr tokens tree is in cc);
}
