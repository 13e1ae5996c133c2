-- What the reader of a pattern has taken is in the grammar, by the state that the tokens have led to.
use Rattle.std.proofs.Common.{◌≡◌, ◌⊎◌, Bool, true, false, List, [], ◌∷◌, ◌++◌, map, Option, Some, None, sym, refl, ap, ◌∙◌, subst, inl, inr, append_assoc, append-nil}
use Rattle.std.specs.List.{AllByRecursion}
use Rattle.std.proofs.lemmas.List.{map-append}
use Rattle.serna_kinds.specs.declared.expressions.Axis.{Axis}
use Rattle.serna_kinds.specs.declared.expressions.Axis.TheVariants as axis
use Rattle.serna_kinds.specs.declared.expressions.NodeTest.{NodeTest}
use Rattle.xpath_trees.specs.declared.expr.Expr.{Expr}
use Rattle.xpath_trees.specs.declared.expr.Step.{Step}
use Rattle.xpath_trees.specs.declared.pattern.Alternative.{Alternative}
use Rattle.xpath_trees.specs.declared.pattern.Pattern.{Pattern}
use Rattle.xpath_syntax.specs.declared.pattern_state.LastStep.{LastStep}
use Rattle.xpath_syntax.specs.declared.pattern_state.PatternPlace.{PatternPlace}
use Rattle.xpath_syntax.specs.declared.pattern_state.PatternPlace.TheVariants as place
use Rattle.xpath_syntax.specs.declared.pattern_state.PatternState.{PatternState}
use Rattle.xpath_parser.specs.declared.state.State.{State}
use Rattle.xpath_tokens.specs.declared.symbol.Operator.TheVariants as operator
use Rattle.xpath_tokens.specs.declared.symbol.Symbol.{Symbol}
use Rattle.xpath_tokens.specs.declared.symbol.Symbol.TheVariants as symbol
use Rattle.xpath_grammar.specs.Trees.{step_of, any_descendant}
use Rattle.xpath_grammar.specs.Grammar.{Part, part, Stepped, stepped, IsAxis, IsTest, bracketed, trees, slash, behind_slash, widened, IsExpr}
use Rattle.xpath_parser.specs.Machine.{beginning, run, after, finish}
use Rattle.xpath_syntax.specs.Patterns.{IsChildOrAttribute, IsPredicate, IsStepPattern, IsRelativePattern, PathPart, path_part, IsFromAnywhere, IsFromRoot, IsPathPattern, bar, behind_bar, IsPattern}
use Rattle.xpath_syntax.specs.PatternMachine.{from_context, root_alone, with_step, with_descendants, last_step, whole, with_predicate, after_axis, begin_step, after_beginning, after_last, closes, after_predicate, after_path, alternative_at, next, after_pattern, run_pattern, pattern_beginning, ended_with, finish_pattern}
use Rattle.xpath_parser.proofs.Endings.{outcome-run, run-push}
use Rattle.xpath_parser.proofs.Outcomes.{outcome}
use Rattle.xpath_parser.proofs.Soundness.{all-push}
use Rattle.xpath_parser.proofs.States.{behind_slash-push, steps_behind-push}
use Rattle.xpath_parser.proofs.Steps.{is_expr, bracketed-push, trees-push}

-- Paths

-- a path, the last of whose steps is whole
abbrev pub PathSoFar : List Symbol → Alternative → Type 0
PathSoFar tokens path = let p : PathPart = record { tokens = tokens; tree = path } in IsFromAnywhere p ⊎ IsFromRoot p

-- a step is wanted: with any step behind it there is such a path
abbrev pub Wants : Alternative → List Symbol → Type 0
Wants path tokens = (x : Stepped) → IsStepPattern x → PathSoFar (tokens ++ x.tokens) (with_step path x.step)

one_step : (x : Stepped) → IsStepPattern x → IsRelativePattern x.tokens (x.step ∷ [])
one_step x is = record { first = x; others = []; first_is = is; others_are = tt; tokens_are = sym (append-nil x.tokens); steps_are = refl }

wants_here : Wants from_context []
wants_here x is = inl (record { tokens = x.tokens; steps = x.step ∷ []; steps_are = one_step x is; whole_is = refl })

wants_root : Wants root_alone (symbol.Slash ∷ [])
wants_root x is = inr (record { double = false; tokens = x.tokens; steps = x.step ∷ []; steps_are = one_step x is; whole_is = refl })

wants_descendants : Wants (with_descendants root_alone) (symbol.DoubleSlash ∷ [])
wants_descendants x is = inr (record { double = true; tokens = x.tokens; steps = x.step ∷ []; steps_are = one_step x is; whole_is = refl })

-- the path behind `/` or `//`
abbrev wide : Bool → Alternative → Alternative
wide true path = with_descendants path
wide false path = path

wide-is : (b from_root : Bool) (steps : List Step) (x : Step) → with_step (wide b (record { from_root = from_root; steps = steps })) x ≡ record { from_root = from_root; steps = steps ++ (widened b ++ x ∷ []) }
wide-is true from_root steps x = ap (λ l. record { from_root = from_root; steps = l }) (append_assoc steps (any_descendant ∷ []) (x ∷ []))
wide-is false from_root steps x = refl

more_steps : (tokens : List Symbol) (steps : List Step) → IsRelativePattern tokens steps → (b : Bool) (x : Stepped) → IsStepPattern x → IsRelativePattern (tokens ++ (slash b ∷ x.tokens)) (steps ++ (widened b ++ x.step ∷ []))
more_steps tokens steps w b x is = record {
  first = w.first;
  others = w.others ++ (b, x) ∷ [];
  first_is = w.first_is;
  others_are = all-push (λ (y : Bool × Stepped). IsStepPattern y.1) w.others (b, x) w.others_are is;
  tokens_are = ap (λ l. l ++ (slash b ∷ x.tokens)) w.tokens_are ∙ append_assoc w.first.tokens (behind_slash w.others) (slash b ∷ x.tokens) ∙ ap (λ l. w.first.tokens ++ l) (sym (behind_slash-push w.others (b, x)));
  steps_are = ap (λ l. l ++ (widened b ++ x.step ∷ [])) w.steps_are ∙ ap (λ l. w.first.step ∷ l) (sym (steps_behind-push w.others (b, x)));
}

-- behind a slash a step is wanted
wants_behind : (tokens : List Symbol) (path : Alternative) → PathSoFar tokens path → (b : Bool) → Wants (wide b path) (tokens ++ slash b ∷ [])
wants_behind tokens path (inl w) b x is = inl (record {
  tokens = w.tokens ++ (slash b ∷ x.tokens);
  steps = w.steps ++ (widened b ++ x.step ∷ []);
  steps_are = more_steps w.tokens w.steps w.steps_are b x is;
  whole_is =
      ap (λ (p : PathPart). record { tokens = (p.tokens ++ slash b ∷ []) ++ x.tokens; tree = with_step (wide b p.tree) x.step }) w.whole_is
      ∙ ap (λ l. record { tokens = l; tree = with_step (wide b (record { from_root = false; steps = w.steps })) x.step }) (append_assoc w.tokens (slash b ∷ []) x.tokens)
      ∙ ap (λ t. record { tokens = w.tokens ++ (slash b ∷ x.tokens); tree = t }) (wide-is b false w.steps x.step);
})
wants_behind tokens path (inr w) b x is = inr (record {
  double = w.double;
  tokens = w.tokens ++ (slash b ∷ x.tokens);
  steps = w.steps ++ (widened b ++ x.step ∷ []);
  steps_are = more_steps w.tokens w.steps w.steps_are b x is;
  whole_is =
      ap (λ (p : PathPart). record { tokens = (p.tokens ++ slash b ∷ []) ++ x.tokens; tree = with_step (wide b p.tree) x.step }) w.whole_is
      ∙ ap (λ l. record { tokens = slash w.double ∷ l; tree = with_step (wide b (record { from_root = true; steps = widened w.double ++ w.steps })) x.step }) (append_assoc w.tokens (slash b ∷ []) x.tokens)
      ∙ ap (λ t. record { tokens = slash w.double ∷ (w.tokens ++ (slash b ∷ x.tokens)); tree = t }) (wide-is b true (widened w.double ++ w.steps) x.step)
      ∙ ap (path_part (slash w.double ∷ (w.tokens ++ (slash b ∷ x.tokens))) true) (append_assoc (widened w.double) w.steps (widened b ++ x.step ∷ []));
})

-- Places

pub record StepSoFar (last : LastStep) (tokens : List Symbol) : Type 0 where
  pub before : List Symbol
  pub axis_tokens : List Symbol
  pub test_tokens : List Symbol
  pub parts : List Part
  pub wants : Wants last.before before
  pub axis_is : IsAxis axis_tokens last.axis
  pub which : IsChildOrAttribute last.axis
  pub test_is : IsTest test_tokens last.test
  pub parts_are : AllByRecursion IsPredicate parts
  pub predicates_are : last.predicates ≡ trees parts
  pub tokens_are : tokens ≡ before ++ (axis_tokens ++ (test_tokens ++ bracketed parts))

-- the tokens of an alternative so far
abbrev pub AtPlace : PatternPlace → List Symbol → Type 0
AtPlace place.Beginning inside = inside ≡ []
AtPlace (place.Step path) inside = Wants path inside
AtPlace (place.Axis path on) inside = (before : List Symbol) × Wants path before × IsChildOrAttribute on × (inside ≡ before ++ symbol.AxisName on ∷ [])
AtPlace (place.Test path on) inside = (before : List Symbol) × (axis_tokens : List Symbol) × Wants path before × IsAxis axis_tokens on × IsChildOrAttribute on × (inside ≡ before ++ axis_tokens)
AtPlace (place.NodeOpen path on t) inside = (before : List Symbol) × (axis_tokens : List Symbol) × Wants path before × IsAxis axis_tokens on × IsChildOrAttribute on
    × (inside ≡ before ++ (axis_tokens ++ symbol.NodeType t ∷ []))
AtPlace (place.NodeClose path on t) inside = (before : List Symbol) × (axis_tokens : List Symbol) × Wants path before × IsAxis axis_tokens on × IsChildOrAttribute on
    × (inside ≡ before ++ (axis_tokens ++ symbol.NodeType t ∷ symbol.Open ∷ []))
AtPlace place.Root inside = inside ≡ symbol.Slash ∷ []
AtPlace (place.Behind last) inside = StepSoFar last inside
AtPlace (place.Predicate last inner) inside = (before : List Symbol) × (taken : List Symbol) × StepSoFar last before × (run (Some beginning) taken ≡ Some inner) × (inside ≡ before ++ symbol.OpenBracket ∷ taken)

-- the tokens of alternatives that have ended
abbrev pub ended_tokens : List PathPart → List Symbol
ended_tokens [] = []
ended_tokens (p ∷ ps) = p.tokens ++ bar ∷ ended_tokens ps

pub record HasIn (ended : List Alternative) (p : PatternPlace) (tokens : List Symbol) : Type 0 where
  pub parts : List PathPart
  pub inside : List Symbol
  pub parts_are : AllByRecursion IsPathPattern parts
  pub ended_is : ended ≡ map (λ q. q.tree) parts
  pub place_is : AtPlace p inside
  pub tokens_are : tokens ≡ ended_tokens parts ++ inside

abbrev pub Has : PatternState → List Symbol → Type 0
Has state tokens = HasIn state.ended state.place tokens

pub has_begun : Has pattern_beginning []
has_begun = record { parts = []; inside = []; parts_are = tt; ended_is = refl; place_is = refl; tokens_are = refl }

-- Steps

-- what is said of the place that a token leads to
abbrev MovedTo : Option PatternPlace → List Symbol → Type 0
MovedTo None inside = Unit {0}
MovedTo (Some p) inside = AtPlace p inside

-- a step without predicates so far
tested : (path : Alternative) (on : Axis) (t : NodeTest) (before axis_tokens test_tokens : List Symbol) → Wants path before → IsAxis axis_tokens on → IsChildOrAttribute on → IsTest test_tokens t
    → (inside : List Symbol) → inside ≡ before ++ (axis_tokens ++ test_tokens) → StepSoFar (last_step path on t) inside
tested path on t before axis_tokens test_tokens wants axis_is which test_is inside e = record {
  before = before;
  axis_tokens = axis_tokens;
  test_tokens = test_tokens;
  parts = [];
  wants = wants;
  axis_is = axis_is;
  which = which;
  test_is = test_is;
  parts_are = tt;
  predicates_are = refl;
  tokens_are = e ∙ ap (λ l. before ++ (axis_tokens ++ l)) (sym (append-nil test_tokens));
}

axis_moves : (path : Alternative) (before axis_tokens inside : List Symbol) (on : Axis) → Wants path before → IsAxis axis_tokens on → IsChildOrAttribute on → inside ≡ before ++ axis_tokens → (t : Symbol)
    → MovedTo (after_axis path on t) (inside ++ t ∷ [])
axis_moves path before axis_tokens inside on wants axis_is which e (symbol.Test t) =
    tested path on t before axis_tokens (symbol.Test t ∷ []) wants axis_is which (inl refl) _ (ap (λ l. l ++ symbol.Test t ∷ []) e ∙ append_assoc before axis_tokens (symbol.Test t ∷ []))
axis_moves path before axis_tokens inside on wants axis_is which e (symbol.NodeType t) =
    (before, axis_tokens, wants, axis_is, which, ap (λ l. l ++ symbol.NodeType t ∷ []) e ∙ append_assoc before axis_tokens (symbol.NodeType t ∷ []))
axis_moves path before axis_tokens inside on wants axis_is which e _ = tt

step_moves : (path : Alternative) (inside : List Symbol) → Wants path inside → (t : Symbol) → MovedTo (begin_step path t) (inside ++ t ∷ [])
step_moves path inside wants (symbol.Test t) = tested path axis.Child t inside [] (symbol.Test t ∷ []) wants (inr (inr (refl, refl))) (inl refl) (inl refl) _ refl
step_moves path inside wants (symbol.NodeType t) = (inside, [], wants, inr (inr (refl, refl)), inl refl, refl)
step_moves path inside wants symbol.At = (inside, symbol.At ∷ [], wants, inr (inl (refl, refl)), inr refl, refl)
step_moves path inside wants (symbol.AxisName axis.Child) = (inside, wants, inl refl, refl)
step_moves path inside wants (symbol.AxisName axis.Attribute) = (inside, wants, inr refl, refl)
step_moves path inside wants (symbol.AxisName _) = tt
step_moves path inside wants _ = tt

beginning_moves : (t : Symbol) → MovedTo (after_beginning t) (t ∷ [])
beginning_moves symbol.Slash = refl
beginning_moves symbol.DoubleSlash = wants_descendants
beginning_moves (symbol.Test t) = step_moves from_context [] wants_here (symbol.Test t)
beginning_moves (symbol.NodeType t) = step_moves from_context [] wants_here (symbol.NodeType t)
beginning_moves symbol.At = step_moves from_context [] wants_here symbol.At
beginning_moves (symbol.AxisName on) = step_moves from_context [] wants_here (symbol.AxisName on)
beginning_moves _ = tt

-- the path with its last step
path_so_far : (last : LastStep) (inside : List Symbol) → StepSoFar last inside → PathSoFar inside (whole last)
path_so_far last inside w =
    let x = stepped (w.axis_tokens ++ (w.test_tokens ++ bracketed w.parts)) (step_of last.axis last.test (trees w.parts)) in
    let is : IsStepPattern x = record {
      written = record {
        axis_tokens = w.axis_tokens;
        test_tokens = w.test_tokens;
        on = last.axis;
        test = last.test;
        predicates = w.parts;
        axis_is = w.axis_is;
        test_is = w.test_is;
        predicates_are = w.parts_are;
        whole_is = refl;
      };
      axis_is = w.which;
    } in
    subst (λ l. PathSoFar inside (with_step last.before (step_of last.axis last.test l))) (sym w.predicates_are) (subst (λ l. PathSoFar l (with_step last.before x.step)) (sym w.tokens_are) (w.wants x is))

last_moves : (last : LastStep) (inside : List Symbol) → StepSoFar last inside → (t : Symbol) → MovedTo (after_last last t) (inside ++ t ∷ [])
last_moves last inside w symbol.OpenBracket = (inside, [], w, refl, refl)
last_moves last inside w symbol.Slash = wants_behind inside (whole last) (path_so_far last inside w) false
last_moves last inside w symbol.DoubleSlash = wants_behind inside (whole last) (path_so_far last inside w) true
last_moves last inside w _ = tt

-- Predicates

-- a predicate that has ended
more_predicates : (last : LastStep) (before taken : List Symbol) (e : Expr) → StepSoFar last before → IsExpr taken e → StepSoFar (with_predicate last e) ((before ++ symbol.OpenBracket ∷ taken) ++ symbol.CloseBracket ∷ [])
more_predicates last before taken e w is =
    let q = part taken e in
    let mark = symbol.OpenBracket ∷ (taken ++ symbol.CloseBracket ∷ []) in
    record {
      before = w.before;
      axis_tokens = w.axis_tokens;
      test_tokens = w.test_tokens;
      parts = w.parts ++ q ∷ [];
      wants = w.wants;
      axis_is = w.axis_is;
      which = w.which;
      test_is = w.test_is;
      parts_are = all-push IsPredicate w.parts q w.parts_are is;
      predicates_are = ap (λ l. l ++ e ∷ []) w.predicates_are ∙ sym (trees-push w.parts q);
      tokens_are =
          append_assoc before (symbol.OpenBracket ∷ taken) (symbol.CloseBracket ∷ [])
          ∙ ap (λ l. l ++ mark) w.tokens_are
          ∙ append_assoc w.before (w.axis_tokens ++ (w.test_tokens ++ bracketed w.parts)) mark
          ∙ ap (λ l. w.before ++ l) (append_assoc w.axis_tokens (w.test_tokens ++ bracketed w.parts) mark
          ∙ ap (λ l. w.axis_tokens ++ l) (append_assoc w.test_tokens (bracketed w.parts) mark ∙ ap (λ l. w.test_tokens ++ l) (sym (bracketed-push w.parts q))));
    }

-- what the inner machine has taken
taken_expr : (taken : List Symbol) (inner : State) (e : Expr) → run (Some beginning) taken ≡ Some inner → finish inner ≡ Some e → IsExpr taken e
taken_expr taken inner e taken_is f = is_expr taken e (ap (outcome (Some beginning)) (sym (append-nil taken)) ∙ outcome-run (Some beginning) taken [] ∙ ap (λ o. outcome o []) taken_is ∙ f)

predicate_moves : (last : LastStep) (inner : State) (inside : List Symbol) → AtPlace (place.Predicate last inner) inside → (t : Symbol) → MovedTo (after_predicate last inner t) (inside ++ t ∷ [])
predicate_moves last inner inside (before, taken, w, taken_is, same) t = by_token t
  where
    goes_on : (t : Symbol) (o : Option State) → after inner t ≡ o → MovedTo (closes last None o) (inside ++ t ∷ [])
    goes_on t None e = tt
    goes_on t (Some other) e = (
      before,
      taken ++ t ∷ [],
      w,
      run-push (Some beginning) taken t inner taken_is ∙ e,
      ap (λ l. l ++ t ∷ []) same ∙ append_assoc before (symbol.OpenBracket ∷ taken) (t ∷ []),
    )

    ends : (o : Option Expr) → finish inner ≡ o → MovedTo (closes last o (after inner symbol.CloseBracket)) (inside ++ symbol.CloseBracket ∷ [])
    ends None e = goes_on symbol.CloseBracket (after inner symbol.CloseBracket) refl
    ends (Some e) f = subst (λ l. StepSoFar (with_predicate last e) (l ++ symbol.CloseBracket ∷ [])) (sym same) (more_predicates last before taken e w (taken_expr taken inner e taken_is f))

    by_token : (t : Symbol) → MovedTo (after_predicate last inner t) (inside ++ t ∷ [])
    by_token symbol.CloseBracket = ends (finish inner) refl
    by_token t = goes_on t (after inner t) refl

-- Any token

place_moves : (p : PatternPlace) (inside : List Symbol) → AtPlace p inside → (t : Symbol) → MovedTo (after_path p t) (inside ++ t ∷ [])
place_moves place.Beginning inside is t = subst (λ l. MovedTo (after_beginning t) (l ++ t ∷ [])) (sym is) (beginning_moves t)
place_moves (place.Step path) inside is t = step_moves path inside is t
place_moves (place.Axis path on) inside (before, wants, which, same) symbol.Colons =
    (before, symbol.AxisName on ∷ symbol.Colons ∷ [], wants, inl refl, which, ap (λ l. l ++ symbol.Colons ∷ []) same ∙ append_assoc before (symbol.AxisName on ∷ []) (symbol.Colons ∷ []))
place_moves (place.Axis path on) inside is _ = tt
place_moves (place.Test path on) inside (before, axis_tokens, wants, axis_is, which, same) t = axis_moves path before axis_tokens inside on wants axis_is which same t
place_moves (place.NodeOpen path on x) inside (before, axis_tokens, wants, axis_is, which, same) symbol.Open = (
  before,
  axis_tokens,
  wants,
  axis_is,
  which,
  ap (λ l. l ++ symbol.Open ∷ []) same ∙ append_assoc before (axis_tokens ++ symbol.NodeType x ∷ []) (symbol.Open ∷ []) ∙ ap (λ l. before ++ l) (append_assoc axis_tokens (symbol.NodeType x ∷ []) (symbol.Open ∷ [])),
)
place_moves (place.NodeOpen path on x) inside is _ = tt
place_moves (place.NodeClose path on x) inside (before, axis_tokens, wants, axis_is, which, same) symbol.Close =
    tested path on x before axis_tokens (symbol.NodeType x ∷ symbol.Open ∷ symbol.Close ∷ []) wants axis_is which (inr refl) _
    (ap (λ l. l ++ symbol.Close ∷ []) same ∙ append_assoc before (axis_tokens ++ symbol.NodeType x ∷ symbol.Open ∷ []) (symbol.Close ∷ [])
    ∙ ap (λ l. before ++ l) (append_assoc axis_tokens (symbol.NodeType x ∷ symbol.Open ∷ []) (symbol.Close ∷ [])))
place_moves (place.NodeClose path on x) inside is _ = tt
place_moves place.Root inside is t = subst (λ l. MovedTo (begin_step root_alone t) (l ++ t ∷ [])) (sym is) (step_moves root_alone (symbol.Slash ∷ []) wants_root t)
place_moves (place.Behind last) inside is t = last_moves last inside is t
place_moves (place.Predicate last inner) inside is t = predicate_moves last inner inside is t

-- an alternative that may end
path_ended : (p : PatternPlace) (inside : List Symbol) (path : Alternative) → AtPlace p inside → alternative_at p ≡ Some path → IsPathPattern (record { tokens = inside; tree = path })
path_ended place.Root inside path is e =
    let same : root_alone ≡ path = cc in
    subst (λ t. IsPathPattern (record { tokens = inside; tree = t })) same (inl (ap (λ l. path_part l true []) is))
path_ended (place.Behind last) inside path is e =
    let same : whole last ≡ path = cc in
    subst (λ t. IsPathPattern (record { tokens = inside; tree = t })) same (inr (path_so_far last inside is))
path_ended place.Beginning inside path is e = cc
path_ended (place.Step q) inside path is e = cc
path_ended (place.Axis q on) inside path is e = cc
path_ended (place.Test q on) inside path is e = cc
path_ended (place.NodeOpen q on x) inside path is e = cc
path_ended (place.NodeClose q on x) inside path is e = cc
path_ended (place.Predicate last inner) inside path is e = cc

ended_tokens-push : (ps : List PathPart) (p : PathPart) → ended_tokens (ps ++ p ∷ []) ≡ ended_tokens ps ++ (p.tokens ++ bar ∷ [])
ended_tokens-push [] p = refl
ended_tokens-push (q ∷ qs) p = ap (λ l. q.tokens ++ bar ∷ l) (ended_tokens-push qs p) ∙ sym (append_assoc q.tokens (bar ∷ ended_tokens qs) (p.tokens ++ bar ∷ []))

abbrev pub Moved : Option PatternState → List Symbol → Type 0
Moved None tokens = Unit {0}
Moved (Some state) tokens = Has state tokens

pub has_more : (state : PatternState) (tokens : List Symbol) (t : Symbol) → Has state tokens → Moved (after_pattern state t) (tokens ++ t ∷ [])
has_more state tokens t has = by_token t
  where
    goes_on : (t : Symbol) (o : Option PatternPlace) → MovedTo o (has.inside ++ t ∷ []) → Moved (next state.ended None o) (tokens ++ t ∷ [])
    goes_on t None is = tt
    goes_on t (Some p) is = record {
      parts = has.parts;
      inside = has.inside ++ t ∷ [];
      parts_are = has.parts_are;
      ended_is = has.ended_is;
      place_is = is;
      tokens_are = ap (λ l. l ++ t ∷ []) has.tokens_are ∙ append_assoc (ended_tokens has.parts) has.inside (t ∷ []);
    }

    ends : (o : Option Alternative) → alternative_at state.place ≡ o → Moved (next state.ended o (after_path state.place bar)) (tokens ++ bar ∷ [])
    ends None e = goes_on bar (after_path state.place bar) (place_moves state.place has.inside has.place_is bar)
    ends (Some path) e =
        let p : PathPart = record { tokens = has.inside; tree = path } in
        record {
          parts = has.parts ++ p ∷ [];
          inside = [];
          parts_are = all-push IsPathPattern has.parts p has.parts_are (path_ended state.place has.inside path has.place_is e);
          ended_is = ap (λ l. l ++ path ∷ []) has.ended_is ∙ sym (map-append (λ (q : PathPart). q.tree) has.parts (p ∷ []));
          place_is = refl;
          tokens_are = ap (λ l. l ++ bar ∷ []) has.tokens_are ∙ append_assoc (ended_tokens has.parts) has.inside (bar ∷ []) ∙ sym (ended_tokens-push has.parts p) ∙ sym (append-nil _);
        }

    by_token : (t : Symbol) → Moved (after_pattern state t) (tokens ++ t ∷ [])
    by_token (symbol.Operator operator.Union) = ends (alternative_at state.place) refl
    by_token (symbol.Operator operator.Or) = goes_on _ _ (place_moves state.place has.inside has.place_is _)
    by_token (symbol.Operator operator.And) = goes_on _ _ (place_moves state.place has.inside has.place_is _)
    by_token (symbol.Operator (operator.Compare op)) = goes_on _ _ (place_moves state.place has.inside has.place_is _)
    by_token (symbol.Operator (operator.Arith op)) = goes_on _ _ (place_moves state.place has.inside has.place_is _)
    by_token t = goes_on t (after_path state.place t) (place_moves state.place has.inside has.place_is t)

-- Where the tokens may end

-- a further alternative behind those
behind_bar-push : (ps : List PathPart) (p : PathPart) → bar ∷ (ended_tokens ps ++ p.tokens) ≡ behind_bar (ps ++ p ∷ [])
behind_bar-push [] p = ap (λ l. bar ∷ l) (sym (append-nil p.tokens))
behind_bar-push (q ∷ qs) p = ap (λ l. bar ∷ l) (append_assoc q.tokens (bar ∷ ended_tokens qs) p.tokens ∙ ap (λ l. q.tokens ++ l) (behind_bar-push qs p))

pattern_of : (ps : List PathPart) (p : PathPart) → AllByRecursion IsPathPattern ps → IsPathPattern p → IsPattern (ended_tokens ps ++ p.tokens) (record { alternatives = map (λ (q : PathPart). q.tree) ps ++ p.tree ∷ [] })
pattern_of [] p all is = record { first = p; others = []; first_is = is; others_are = tt; tokens_are = sym (append-nil p.tokens); pattern_is = refl }
pattern_of (q ∷ qs) p all is = record {
  first = q;
  others = qs ++ p ∷ [];
  first_is = all.0;
  others_are = all-push IsPathPattern qs p all.1 is;
  tokens_are = append_assoc q.tokens (bar ∷ ended_tokens qs) p.tokens ∙ ap (λ l. q.tokens ++ l) (behind_bar-push qs p);
  pattern_is = ap (λ (l : List Alternative). record { alternatives = q.tree ∷ l }) (sym (map-append (λ (r : PathPart). r.tree) qs (p ∷ [])));
}

pub has_finished : (state : PatternState) (tokens : List Symbol) (pattern : Pattern) → Has state tokens → finish_pattern state ≡ Some pattern → IsPattern tokens pattern
has_finished state tokens pattern has e = go (alternative_at state.place) refl e
  where
    go : (o : Option Alternative) → alternative_at state.place ≡ o → ended_with state.ended o ≡ Some pattern → IsPattern tokens pattern
    go None f g = cc
    go (Some path) f g =
        let p : PathPart = record { tokens = has.inside; tree = path } in
        let same : record { alternatives = state.ended ++ path ∷ [] } ≡ pattern = cc in
        subst (IsPattern tokens) (ap (λ (l : List Alternative). record { alternatives = l ++ path ∷ [] }) (sym has.ended_is) ∙ same)
        (subst (λ l. IsPattern l (record { alternatives = map (λ (q : PathPart). q.tree) has.parts ++ path ∷ [] })) (sym has.tokens_are)
        (pattern_of has.parts p has.parts_are (path_ended state.place has.inside path has.place_is f)))

-- what is said of a state that tokens have led to
pub has_run : (state : PatternState) (tokens rest : List Symbol) (last : PatternState) → Has state tokens → run_pattern (Some state) rest ≡ Some last → Has last (tokens ++ rest)
has_run state tokens [] last has e = let same : state ≡ last = cc in subst (λ s. Has s (tokens ++ [])) same (subst (Has state) (sym (append-nil tokens)) has)
has_run state tokens (t ∷ ts) last has e =
    subst (Has last) (append_assoc tokens (t ∷ []) ts) (go (after_pattern state t) (has_more state tokens t has) e (λ middle w f. has_run middle (tokens ++ t ∷ []) ts last w f))
  where
    go : (o : Option PatternState) → Moved o (tokens ++ t ∷ []) → run_pattern o ts ≡ Some last → ((middle : PatternState) → Has middle (tokens ++ t ∷ []) → run_pattern (Some middle) ts ≡ Some last → Has last ((tokens ++ t ∷ []) ++ ts))
        → Has last ((tokens ++ t ∷ []) ++ ts)
    go None w f rest = cc
    go (Some middle) w f rest = rest middle w f
