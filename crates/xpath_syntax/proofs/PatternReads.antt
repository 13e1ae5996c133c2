-- The machine reads each pattern of the grammar, and each state that it reaches can be ended.
use Rattle.std.proofs.Common.{◌≡◌, Bool, true, false, List, [], ◌∷◌, ◌++◌, map, Option, Some, None, sym, refl, ap, ◌∙◌, subst, inl, inr, append_assoc, append-nil, option_map, cond}
use Rattle.std.specs.List.{AllByRecursion}
use Rattle.serna_kinds.specs.declared.expressions.Axis.{Axis}
use Rattle.serna_kinds.specs.declared.expressions.Axis.TheVariants as axis
use Rattle.serna_kinds.specs.declared.expressions.NodeTest.{NodeTest}
use Rattle.serna_kinds.specs.declared.expressions.NodeTest.TheVariants as test
use Rattle.xpath_trees.specs.declared.expr.Expr.{Expr}
use Rattle.xpath_trees.specs.declared.expr.Step.{Step}
use Rattle.xpath_trees.specs.declared.pattern.Alternative.{Alternative}
use Rattle.xpath_trees.specs.declared.pattern.Pattern.{Pattern}
use Rattle.xpath_syntax.specs.declared.pattern_state.LastStep.{LastStep}
use Rattle.xpath_syntax.specs.declared.pattern_state.PatternPlace.{PatternPlace}
use Rattle.xpath_syntax.specs.declared.pattern_state.PatternPlace.TheVariants as place
use Rattle.xpath_syntax.specs.declared.pattern_state.PatternState.{PatternState}
use Rattle.xpath_parser.specs.declared.state.Pending.{Pending}
use Rattle.xpath_parser.specs.declared.state.Place.{Place}
use Rattle.xpath_parser.specs.declared.state.Place.TheVariants as inner_place
use Rattle.xpath_parser.specs.declared.state.State.{State}
use Rattle.xpath_tokens.specs.declared.symbol.Symbol.{Symbol}
use Rattle.xpath_tokens.specs.declared.symbol.Symbol.TheVariants as symbol
use Rattle.xpath_grammar.specs.Trees.{any_descendant}
use Rattle.xpath_grammar.specs.Grammar.{Part, Stepped, IsAxis, IsTest, bracketed, trees, slash, behind_slash, widened, steps_behind}
use Rattle.xpath_grammar.specs.Parts.{operand_tree}
use Rattle.xpath_parser.specs.Machine.{closed, finished_in, finish_in, end_predicate, after_in, beginning, after}
use Rattle.xpath_syntax.specs.Patterns.{IsChildOrAttribute, IsPredicate, IsStepPattern, IsRelativePattern, PathPart, IsPathPattern, bar, behind_bar, IsPattern}
use Rattle.xpath_machine.specs.Stops.{BeginsBy}
use Rattle.xpath_syntax.specs.PatternMachine.{from_context, root_alone, with_step, with_descendants, last_step, whole, with_predicate, begin_step, closes, after_predicate, after_path, alternative_at, at, next, is_bar, after_pattern, run_pattern, pattern_beginning, ended_with, finish_pattern}
use Rattle.xpath_parser.proofs.Completeness.{reads_expr}
use Rattle.xpath_parser.proofs.Endings.{outcome-run, begins}
use Rattle.xpath_parser.proofs.Outcomes.{outcome}
use Rattle.xpath_machine.specs.Advance.{ReadsBy}
use Rattle.xpath_syntax.proofs.PatternStates.{AtPlace, Has, has_begun, has_run, has_finished}

-- the pattern that tokens lead to
abbrev pub pattern_outcome : Option PatternState → List Symbol → Option Pattern
pattern_outcome None ts = None
pattern_outcome (Some s) [] = finish_pattern s
pattern_outcome (Some s) (t ∷ ts) = pattern_outcome (after_pattern s t) ts

pattern_outcome-run : (o : Option PatternState) (ts more : List Symbol) → pattern_outcome o (ts ++ more) ≡ pattern_outcome (run_pattern o ts) more
pattern_outcome-run None ts more = refl
pattern_outcome-run (Some s) [] more = refl
pattern_outcome-run (Some s) (t ∷ ts) more = pattern_outcome-run (after_pattern s t) ts more

run_pattern-push : (o : Option PatternState) (ts : List Symbol) (t : Symbol) (state : PatternState) → run_pattern o ts ≡ Some state → run_pattern o (ts ++ t ∷ []) ≡ after_pattern state t
run_pattern-push None ts t state e = cc
run_pattern-push (Some s) [] t state e = let same : s ≡ state = cc in ap (λ x. run_pattern (Some x) (t ∷ [])) same ∙ run_pattern-none (after_pattern state t)
  where
    run_pattern-none : (o : Option PatternState) → run_pattern o [] ≡ o
    run_pattern-none None = refl
    run_pattern-none (Some s) = refl
run_pattern-push (Some s) (u ∷ ts) t state e = run_pattern-push (after_pattern s u) ts t state e

-- Predicates

-- where a `]` leads on in an expression, the expression may not end
not_ended_at : (e : Expr) (s : List Pending) (next_state : State) → end_predicate e s ≡ Some next_state → finished_in e s ≡ None
not_ended_at e [] next_state f = cc
not_ended_at e (p ∷ s) next_state f = refl

not_ended_in : (p : Place) (s : List Pending) (next_state : State) → after_in p s symbol.CloseBracket ≡ Some next_state → finish_in p s ≡ None
not_ended_in (inner_place.Behind o) s next_state f = not_ended_at (closed 0 (operand_tree o) s).0 (closed 0 (operand_tree o) s).1 next_state f
not_ended_in inner_place.Operand s next_state f = refl
not_ended_in inner_place.Argument s next_state f = refl
not_ended_in (inner_place.Callee g) s next_state f = refl
not_ended_in (inner_place.Step p) s next_state f = refl
not_ended_in (inner_place.Axis p a) s next_state f = refl
not_ended_in (inner_place.Test p a) s next_state f = refl
not_ended_in (inner_place.NodeOpen p a t) s next_state f = refl
not_ended_in (inner_place.NodeClose p a t) s next_state f = refl

-- a token that leads on in an expression does not end the predicate
leads_on : (last : LastStep) (inner : State) (t : Symbol) (next_state : State) → after inner t ≡ Some next_state → after_predicate last inner t ≡ Some (place.Predicate last next_state)
leads_on last inner symbol.CloseBracket next_state e =
    ap (λ o. closes last o (after inner symbol.CloseBracket)) (not_ended_in inner.place inner.stack next_state e) ∙ ap (closes last None) e
leads_on last inner t next_state e = ap (closes last None) e

-- no alternative ends in a predicate
ends_no_path : (ended : List Alternative) (last : LastStep) (inner : State) (t : Symbol) → after_pattern (at ended (place.Predicate last inner)) t ≡ option_map (at ended) (after_predicate last inner t)
ends_no_path ended last inner t = go (is_bar t)
  where
    go : (b : Bool) → next ended (cond b (alternative_at (place.Predicate last inner)) None) (after_predicate last inner t) ≡ option_map (at ended) (after_predicate last inner t)
    go true = refl
    go false = refl

-- the rest of a predicate
reads_inner : (ended : List Alternative) (last : LastStep) (ts : List Symbol) (inner : State) (e : Expr) → outcome (Some inner) ts ≡ Some e
    → (rest : List Symbol) → pattern_outcome (Some (at ended (place.Predicate last inner))) (ts ++ symbol.CloseBracket ∷ rest) ≡ pattern_outcome (Some (at ended (place.Behind (with_predicate last e)))) rest
reads_inner ended last [] inner e f rest = ap (λ o. pattern_outcome (option_map (at ended) (closes last o (after inner symbol.CloseBracket))) rest) f
reads_inner ended last (t ∷ ts) inner e f rest = go (after inner t) refl f (λ state g. reads_inner ended last ts state e g rest)
  where
    go : (o : Option State) → after inner t ≡ o → outcome o ts ≡ Some e
        → ((state : State) → outcome (Some state) ts ≡ Some e → pattern_outcome (Some (at ended (place.Predicate last state))) (ts ++ symbol.CloseBracket ∷ rest) ≡ pattern_outcome (Some (at ended (place.Behind (with_predicate last e)))) rest)
        → pattern_outcome (Some (at ended (place.Predicate last inner))) (t ∷ (ts ++ symbol.CloseBracket ∷ rest)) ≡ pattern_outcome (Some (at ended (place.Behind (with_predicate last e)))) rest
    go None g h more = cc
    go (Some state) g h more =
        ap (λ o. pattern_outcome o (ts ++ symbol.CloseBracket ∷ rest)) (ends_no_path ended last inner t)
        ∙ ap (λ p. pattern_outcome (option_map (at ended) p) (ts ++ symbol.CloseBracket ∷ rest)) (leads_on last inner t state g) ∙ more state h

-- predicates behind a step
reads_predicates : (ended : List Alternative) (ps : List Part) → AllByRecursion IsPredicate ps → (before : Alternative) (on : Axis) (t : NodeTest) (so_far : List Expr) (rest : List Symbol)
    → pattern_outcome (Some (at ended (place.Behind (record { before = before; axis = on; test = t; predicates = so_far })))) (bracketed ps ++ rest)
    ≡ pattern_outcome (Some (at ended (place.Behind (record { before = before; axis = on; test = t; predicates = so_far ++ trees ps })))) rest
reads_predicates ended [] all before on t so_far rest =
    ap (λ l. pattern_outcome (Some (at ended (place.Behind (record { before = before; axis = on; test = t; predicates = l })))) rest) (sym (append-nil so_far))
reads_predicates ended (q ∷ qs) all before on t so_far rest =
    let last : LastStep = record { before = before; axis = on; test = t; predicates = so_far } in
    ap (pattern_outcome (Some (at ended (place.Predicate last beginning)))) (append_assoc q.tokens (symbol.CloseBracket ∷ bracketed qs) rest)
    ∙ reads_inner ended last q.tokens beginning q.tree (reads_expr q.tokens q.tree all.0) (bracketed qs ++ rest)
    ∙ reads_predicates ended qs all.1 before on t (so_far ++ q.tree ∷ []) rest
    ∙ ap (λ l. pattern_outcome (Some (at ended (place.Behind (record { before = before; axis = on; test = t; predicates = l })))) rest) (append_assoc so_far (q.tree ∷ []) (trees qs))

-- Steps

-- a token that a step begins with
abbrev BeginsStep : Symbol → Type 0
BeginsStep (symbol.Test t) = Unit {0}
BeginsStep (symbol.NodeType t) = Unit {0}
BeginsStep (symbol.AxisName on) = Unit {0}
BeginsStep symbol.At = Unit {0}
BeginsStep _ = ⊥

-- at this place a step may begin, behind this path
abbrev MayStep : PatternPlace → Alternative → Type 0
MayStep p path = (t : Symbol) → BeginsStep t → after_path p t ≡ begin_step path t

may_here : MayStep place.Beginning from_context
may_here (symbol.Test t) b = refl
may_here (symbol.NodeType t) b = refl
may_here (symbol.AxisName on) b = refl
may_here symbol.At b = refl
may_here _ b = absurd b

may_step : (path : Alternative) → MayStep (place.Step path) path
may_step path t b = refl

may_root : MayStep place.Root root_alone
may_root t b = refl

-- a place where a path may end
record BehindPath (ended : List Alternative) (p : PatternPlace) (tokens : List Symbol) (path : Alternative) : Type 0 where
  to : PatternPlace
  ends : alternative_at to ≡ Some path
  same : (rest : List Symbol) → pattern_outcome (Some (at ended p)) (tokens ++ rest) ≡ pattern_outcome (Some (at ended to)) rest

-- a step is read from the node test that its axis leads to
reads_tested : (ended : List Alternative) (p : PatternPlace) (path : Alternative) (on : Axis) (tokens : List Symbol) (t : NodeTest) → IsTest tokens t
    → after_path p (symbol.Test t) ≡ Some (place.Behind (last_step path on t)) → after_path p (symbol.NodeType t) ≡ Some (place.NodeOpen path on t)
    → (rest : List Symbol) → pattern_outcome (Some (at ended p)) (tokens ++ rest) ≡ pattern_outcome (Some (at ended (place.Behind (last_step path on t)))) rest
reads_tested ended p path on tokens t (inl e) f g rest = ap (λ l. pattern_outcome (Some (at ended p)) (l ++ rest)) e ∙ ap (λ n. pattern_outcome (option_map (at ended) n) rest) f
reads_tested ended p path on tokens t (inr e) f g rest =
    ap (λ l. pattern_outcome (Some (at ended p)) (l ++ rest)) e ∙ ap (λ n. pattern_outcome (option_map (at ended) n) (symbol.Open ∷ (symbol.Close ∷ rest))) g

on_its_axis : (path : Alternative) (on : Axis) → IsChildOrAttribute on → begin_step path (symbol.AxisName on) ≡ Some (place.Axis path on)
on_its_axis path on (inl e) = subst (λ a. begin_step path (symbol.AxisName a) ≡ Some (place.Axis path a)) (sym e) refl
on_its_axis path on (inr e) = subst (λ a. begin_step path (symbol.AxisName a) ≡ Some (place.Axis path a)) (sym e) refl

reads_axis : (ended : List Alternative) (p : PatternPlace) (path : Alternative) → MayStep p path → (axis_tokens test_tokens : List Symbol) (on : Axis) (t : NodeTest) → IsAxis axis_tokens on → IsChildOrAttribute on → IsTest test_tokens t
    → (rest : List Symbol) → pattern_outcome (Some (at ended p)) (axis_tokens ++ (test_tokens ++ rest)) ≡ pattern_outcome (Some (at ended (place.Behind (last_step path on t)))) rest
reads_axis ended p path may axis_tokens test_tokens on t (inl e) which is rest =
    ap (λ l. pattern_outcome (Some (at ended p)) (l ++ (test_tokens ++ rest))) e
    ∙ ap (λ n. pattern_outcome (option_map (at ended) n) (symbol.Colons ∷ (test_tokens ++ rest))) (may (symbol.AxisName on) tt ∙ on_its_axis path on which)
    ∙ reads_tested ended (place.Test path on) path on test_tokens t is refl refl rest
reads_axis ended p path may axis_tokens test_tokens on t (inr (inl e)) which is rest =
    ap (λ l. pattern_outcome (Some (at ended p)) (l ++ (test_tokens ++ rest))) e.0
    ∙ ap (λ n. pattern_outcome (option_map (at ended) n) (test_tokens ++ rest)) (may symbol.At tt)
    ∙ reads_tested ended (place.Test path axis.Attribute) path axis.Attribute test_tokens t is refl refl rest
    ∙ ap (λ a. pattern_outcome (Some (at ended (place.Behind (last_step path a t)))) rest) (sym e.1)
reads_axis ended p path may axis_tokens test_tokens on t (inr (inr e)) which is rest =
    ap (λ l. pattern_outcome (Some (at ended p)) (l ++ (test_tokens ++ rest))) e.0
    ∙ reads_tested ended p path axis.Child test_tokens t is (may (symbol.Test t) tt) (may (symbol.NodeType t) tt) rest
    ∙ ap (λ a. pattern_outcome (Some (at ended (place.Behind (last_step path a t)))) rest) (sym e.1)

-- a step, and the place behind it
reads_step : (ended : List Alternative) (p : PatternPlace) (path : Alternative) → MayStep p path → (x : Stepped) → IsStepPattern x → (last : LastStep) × (whole last ≡ with_step path x.step)
    × ((rest : List Symbol) → pattern_outcome (Some (at ended p)) (x.tokens ++ rest) ≡ pattern_outcome (Some (at ended (place.Behind last))) rest)
reads_step ended p path may x is =
    let w = is.written in (
      record { before = path; axis = w.on; test = w.test; predicates = trees w.predicates },
      ap (λ (y : Stepped). with_step path y.step) (sym w.whole_is),
      λ rest.
          ap (λ (y : Stepped). pattern_outcome (Some (at ended p)) (y.tokens ++ rest)) w.whole_is
          ∙ ap (pattern_outcome (Some (at ended p))) (append_assoc w.axis_tokens (w.test_tokens ++ bracketed w.predicates) rest ∙ ap (λ l. w.axis_tokens ++ l) (append_assoc w.test_tokens (bracketed w.predicates) rest))
          ∙ reads_axis ended p path may w.axis_tokens w.test_tokens w.on w.test w.axis_is is.axis_is w.test_is (bracketed w.predicates ++ rest)
          ∙ reads_predicates ended w.predicates w.predicates_are path w.on w.test [] rest,
    )

-- Paths

-- a path with further steps
abbrev with_steps : Alternative → List Step → Alternative
with_steps path steps = record { from_root = path.from_root; steps = path.steps ++ steps }

abbrev wide : Bool → Alternative → Alternative
wide true path = with_descendants path
wide false path = path

wide-is : (b : Bool) (path : Alternative) (x : Step) (more : List Step) → with_steps (with_step (wide b path) x) more ≡ with_steps path (widened b ++ (x ∷ more))
wide-is true path x more = ap (λ l. record { from_root = path.from_root; steps = l }) (append_assoc (path.steps ++ any_descendant ∷ []) (x ∷ []) more ∙ append_assoc path.steps (any_descendant ∷ []) (x ∷ more))
wide-is false path x more = ap (λ l. record { from_root = path.from_root; steps = l }) (append_assoc path.steps (x ∷ []) more)

reads_slash : (b : Bool) (last : LastStep) (path : Alternative) → whole last ≡ path → after_path (place.Behind last) (slash b) ≡ Some (place.Step (wide b path))
reads_slash true last path e = ap (λ q. Some (place.Step (with_descendants q))) e
reads_slash false last path e = ap (λ q. Some (place.Step q)) e

slash_no_bar : (ended : List Alternative) (b : Bool) (p : PatternPlace) → after_pattern (at ended p) (slash b) ≡ option_map (at ended) (after_path p (slash b))
slash_no_bar ended true p = refl
slash_no_bar ended false p = refl

-- further steps
reads_slashes : (ended : List Alternative) (xs : List (Bool × Stepped)) → AllByRecursion (λ x. IsStepPattern x.1) xs → (last : LastStep) (path : Alternative) → whole last ≡ path
    → BehindPath ended (place.Behind last) (behind_slash xs) (with_steps path (steps_behind xs))
reads_slashes ended [] all last path e = record {
  to = place.Behind last;
  ends = ap Some (e ∙ ap (λ l. record { from_root = path.from_root; steps = l }) (sym (append-nil path.steps)));
  same = λ rest. refl;
}
reads_slashes ended (x ∷ xs) all last path e =
    let (step, whole_is, reads) = reads_step ended (place.Step (wide x.0 path)) (wide x.0 path) (may_step (wide x.0 path)) x.1 all.0 in
    let more = reads_slashes ended xs all.1 step (with_step (wide x.0 path) x.1.step) whole_is in
    record {
      to = more.to;
      ends = more.ends ∙ ap Some (wide-is x.0 path x.1.step (steps_behind xs));
      same = λ rest.
          ap (λ n. pattern_outcome n ((x.1.tokens ++ behind_slash xs) ++ rest)) (slash_no_bar ended x.0 (place.Behind last) ∙ ap (option_map (at ended)) (reads_slash x.0 last path e))
          ∙ ap (pattern_outcome (Some (at ended (place.Step (wide x.0 path))))) (append_assoc x.1.tokens (behind_slash xs) rest)
          ∙ reads (behind_slash xs ++ rest)
          ∙ more.same rest;
    }

-- steps from a place where one may begin
reads_relative : (ended : List Alternative) (p : PatternPlace) (path : Alternative) → MayStep p path → (tokens : List Symbol) (steps : List Step) → IsRelativePattern tokens steps → BehindPath ended p tokens (with_steps path steps)
reads_relative ended p path may tokens steps w =
    let (step, whole_is, reads) = reads_step ended p path may w.first w.first_is in
    let more = reads_slashes ended w.others w.others_are step (with_step path w.first.step) whole_is in
    record {
      to = more.to;
      ends = more.ends ∙ ap Some (ap (λ l. record { from_root = path.from_root; steps = l }) (append_assoc path.steps (w.first.step ∷ []) (steps_behind w.others))) ∙ ap (λ l. Some (with_steps path l)) (sym w.steps_are);
      same = λ rest.
          ap (λ l. pattern_outcome (Some (at ended p)) (l ++ rest)) w.tokens_are
          ∙ ap (pattern_outcome (Some (at ended p))) (append_assoc w.first.tokens (behind_slash w.others) rest)
          ∙ reads (behind_slash w.others ++ rest)
          ∙ more.same rest;
    }

reads_path : (ended : List Alternative) (q : PathPart) → IsPathPattern q → BehindPath ended place.Beginning q.tokens q.tree
reads_path ended q (inl e) = record { to = place.Root; ends = ap (λ (p : PathPart). Some p.tree) (sym e); same = λ rest. ap (λ (p : PathPart). pattern_outcome (Some (at ended place.Beginning)) (p.tokens ++ rest)) e }
reads_path ended q (inr (inl w)) =
    let more = reads_relative ended place.Beginning from_context may_here w.tokens w.steps w.steps_are in
    subst (λ (p : PathPart). BehindPath ended place.Beginning p.tokens p.tree) (sym w.whole_is) more
reads_path ended q (inr (inr w)) = subst (λ (p : PathPart). BehindPath ended place.Beginning p.tokens p.tree) (sym w.whole_is) (rooted w.double w.tokens w.steps w.steps_are)
  where
    rooted : (b : Bool) (tokens : List Symbol) (steps : List Step) → IsRelativePattern tokens steps → BehindPath ended place.Beginning (slash b ∷ tokens) (record { from_root = true; steps = widened b ++ steps })
    rooted true tokens steps is =
        let more = reads_relative ended (place.Step (with_descendants root_alone)) (with_descendants root_alone) (may_step (with_descendants root_alone)) tokens steps is in
        record { to = more.to; ends = more.ends; same = more.same }
    rooted false tokens steps is = let more = reads_relative ended place.Root root_alone may_root tokens steps is in record { to = more.to; ends = more.ends; same = more.same }

-- Patterns

-- a bar where an alternative may end
reads_bar : (ended : List Alternative) (p : PatternPlace) (path : Alternative) → alternative_at p ≡ Some path → after_pattern (at ended p) bar ≡ Some (at (ended ++ path ∷ []) place.Beginning)
reads_bar ended p path e = ap (λ o. next ended o (after_path p bar)) e

reads_alternatives : (ended : List Alternative) (q : PathPart) (qs : List PathPart) → IsPathPattern q → AllByRecursion IsPathPattern qs
    → pattern_outcome (Some (at ended place.Beginning)) (q.tokens ++ behind_bar qs) ≡ Some (record { alternatives = ended ++ (q.tree ∷ map (λ (p : PathPart). p.tree) qs) })
reads_alternatives ended q [] is all =
    let path = reads_path ended q is in
    path.same [] ∙ ap (ended_with ended) path.ends
reads_alternatives ended q (r ∷ rs) is all =
    let path = reads_path ended q is in
    path.same (behind_bar (r ∷ rs))
    ∙ ap (λ o. pattern_outcome o (r.tokens ++ behind_bar rs)) (reads_bar ended path.to q.tree path.ends)
    ∙ reads_alternatives (ended ++ q.tree ∷ []) r rs all.0 all.1
    ∙ ap (λ (l : List Alternative). Some (record { alternatives = l })) (append_assoc ended (q.tree ∷ []) (map (λ (p : PathPart). p.tree) (r ∷ rs)))

-- the tokens of a pattern lead to it
reads_pattern : (tokens : List Symbol) (pattern : Pattern) → IsPattern tokens pattern → pattern_outcome (Some pattern_beginning) tokens ≡ Some pattern
reads_pattern tokens pattern is = ap (pattern_outcome (Some pattern_beginning)) is.tokens_are ∙ reads_alternatives [] is.first is.others is.first_is is.others_are ∙ ap Some (sym is.pattern_is)

-- a list of tokens is at most one pattern
pub one_pattern : (tokens : List Symbol) (one other : Pattern) → IsPattern tokens one → IsPattern tokens other → one ≡ other
one_pattern tokens one other first second = let same : Some one ≡ Some other = sym (reads_pattern tokens one first) ∙ reads_pattern tokens other second in cc

-- Endings

abbrev Ends : PatternState → Type 0
Ends state = (more : List Symbol) × (pattern : Pattern) × (pattern_outcome (Some state) more ≡ Some pattern)

place_ends : (ended : List Alternative) (p : PatternPlace) (inside : List Symbol) → AtPlace p inside → Ends (at ended p)
place_ends ended place.Beginning inside is = (symbol.Test test.AnyName ∷ [], _, refl)
place_ends ended (place.Step path) inside is = (symbol.Test test.AnyName ∷ [], _, refl)
place_ends ended (place.Axis path on) inside is = (symbol.Colons ∷ symbol.Test test.AnyName ∷ [], _, refl)
place_ends ended (place.Test path on) inside is = (symbol.Test test.AnyName ∷ [], _, refl)
place_ends ended (place.NodeOpen path on t) inside is = (symbol.Open ∷ symbol.Close ∷ [], _, refl)
place_ends ended (place.NodeClose path on t) inside is = (symbol.Close ∷ [], _, refl)
place_ends ended place.Root inside is = ([], _, refl)
place_ends ended (place.Behind last) inside is = ([], _, refl)
place_ends ended (place.Predicate last inner) inside (before, taken, w, taken_is, same) =
    let (more, tree, is) = begins taken inner taken_is in
    let leads : outcome (Some inner) more ≡ Some tree = ap (λ o. outcome o more) (sym taken_is) ∙ sym (outcome-run (Some beginning) taken more) ∙ reads_expr (taken ++ more) tree is in
    (more ++ symbol.CloseBracket ∷ [], _, reads_inner ended last more inner tree leads [])

-- the pattern, where the machine has taken all the tokens
pattern_ended_so : (tokens : List Symbol) (state : PatternState) → run_pattern (Some pattern_beginning) tokens ≡ Some state → pattern_outcome (Some pattern_beginning) tokens ≡ finish_pattern state
pattern_ended_so tokens state e = ap (pattern_outcome (Some pattern_beginning)) (sym (append-nil tokens)) ∙ pattern_outcome-run (Some pattern_beginning) tokens [] ∙ ap (λ o. pattern_outcome o []) e

-- what the machine reads is a pattern
has_outcome : (state : PatternState) (tokens rest : List Symbol) (pattern : Pattern) → Has state tokens → pattern_outcome (Some state) rest ≡ Some pattern → IsPattern (tokens ++ rest) pattern
has_outcome state tokens rest pattern has e = go (run_pattern (Some state) rest) refl
  where
    led : pattern_outcome (run_pattern (Some state) rest) [] ≡ Some pattern
    led = sym (pattern_outcome-run (Some state) rest []) ∙ ap (pattern_outcome (Some state)) (append-nil rest) ∙ e

    go : (o : Option PatternState) → run_pattern (Some state) rest ≡ o → IsPattern (tokens ++ rest) pattern
    go None f = let none : None ≡ Some pattern = ap (λ o. pattern_outcome o []) (sym f) ∙ led in cc
    go (Some last) f = has_finished last (tokens ++ rest) pattern (has_run state tokens rest last has f) (ap (λ o. pattern_outcome o []) (sym f) ∙ led)

is_pattern : (tokens : List Symbol) (pattern : Pattern) → pattern_outcome (Some pattern_beginning) tokens ≡ Some pattern → IsPattern tokens pattern
is_pattern tokens pattern e = has_outcome pattern_beginning [] tokens pattern has_begun e

-- where the machine has taken these tokens, a pattern can begin with them
begins_pattern : (tokens : List Symbol) (state : PatternState) → run_pattern (Some pattern_beginning) tokens ≡ Some state → BeginsBy IsPattern tokens
begins_pattern tokens state e =
    let has = has_run pattern_beginning [] tokens state has_begun e in
    let (more, pattern, leads) = place_ends state.ended state.place has.inside has.place_is in
    (more, pattern, has_outcome state tokens more pattern has leads)

-- where it has not, none can
stuck_pattern : (tokens : List Symbol) → run_pattern (Some pattern_beginning) tokens ≡ None → BeginsBy IsPattern tokens → ⊥
stuck_pattern tokens e (more, pattern, is) =
    let none : None ≡ Some pattern = sym (pattern_outcome-run (Some pattern_beginning) tokens more ∙ ap (λ o. pattern_outcome o more) e) ∙ reads_pattern (tokens ++ more) pattern is in cc

-- what the machine of patterns does with tokens
pub reads_patterns : ReadsBy (run_pattern (Some pattern_beginning)) after_pattern finish_pattern IsPattern
reads_patterns = record {
  more = λ tokens state t e. run_pattern-push (Some pattern_beginning) tokens t state e;
  begins = begins_pattern;
  stuck = stuck_pattern;
  tree = λ tokens state pattern e f. is_pattern tokens pattern (pattern_ended_so tokens state e ∙ f);
  none = λ tokens state pattern e f is. (let none : None ≡ Some pattern = sym f ∙ sym (pattern_ended_so tokens state e) ∙ reads_pattern tokens pattern is in cc);
}
