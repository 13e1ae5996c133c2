-- What is written for steps and paths, and for what predicates and steps follow, is in the grammar.
use Rattle.std.proofs.Common.{◌≡◌, ◌≤◌, ◌-◌, ◌&&◌, ℕ, zero, suc, not, Bool, true, false, cond, List, [], ◌∷◌, ◌++◌, map, Option, Some, None, inl, inr, ◌⊎◌, sym, refl, ap, ◌∙◌, subst, append_assoc, append-nil, arith}
use Rattle.std.specs.List.{AllByRecursion}
use Rattle.serna_kinds.specs.Names.{NameParts, Space}
use Rattle.serna_kinds.specs.declared.expressions.Axis.{Axis}
use Rattle.serna_kinds.specs.declared.expressions.Axis.TheVariants as axis
use Rattle.serna_kinds.specs.declared.expressions.NodeTest.{NodeTest}
use Rattle.serna_kinds.specs.declared.expressions.NodeTest.TheVariants as test
use Rattle.serna_kinds.specs.declared.expressions.TextFunction.TheVariants as on_text
use Rattle.xpath_trees.specs.declared.expr.Expr.{Expr}
use Rattle.xpath_trees.specs.declared.expr.Expr.TheVariants as expr
use Rattle.xpath_trees.specs.declared.expr.PathStart.{PathStart}
use Rattle.xpath_trees.specs.declared.expr.PathStart.TheVariants as start
use Rattle.xpath_trees.specs.declared.expr.Function.{Function}
use Rattle.xpath_trees.specs.declared.expr.Function.TheVariants as function
use Rattle.xpath_trees.specs.declared.expr.Step.{Step, out-Step}
use Rattle.xpath_trees.specs.declared.expr.Expr.TheViews.{roll-out-Step}
use Rattle.xpath_tokens.specs.declared.symbol.Symbol.{Symbol}
use Rattle.xpath_tokens.specs.declared.symbol.Symbol.TheVariants as symbol
use Rattle.xpath_grammar.specs.declared.operand.Level.TheVariants as level
use Rattle.xpath_tokens.specs.declared.tokens.Kind.{Kind}
use Rattle.xpath_tokens.specs.declared.tokens.Kind.TheVariants as kind
use Rattle.xpath_grammar.specs.Trees.{step_of, self_node, parent_node, any_descendant, filtered}
use Rattle.xpath_tokens.specs.Tokens.{tokens_of}
use Rattle.xpath_tokens.specs.Symbols.{symbol_of, symbols_at}
use Rattle.xpath_grammar.specs.Grammar.{Part, part, Stepped, stepped, IsAxis, IsTest, bracketed, trees, IsFullStep, IsStep, slash, behind_slash, widened, steps_behind, AreSteps, IsRelative, IsAbsolute, root_alone, arguments, IsCall, IsPrimary, IsFilter, IsPathFrom, IsPath, IsUnion, IsUnary, IsMultiplicative, IsAdditive, IsRelational, IsEquality, IsAnd, IsOr, IsExprIn, IsExpr}
use Rattle.xpath_writer.specs.Writing.{Word, Written, WrittenStep, operand, mark, is_slash, is_empty, is_any_node, is_bare, is_descendant_or_self, short_or, short_kind, short_for, axis_words, test_words, full_step, predicate_words, further_arguments, argument_words, steps_words, absolute_words, root_words, function_text, shown_start, shown_step, written, AreTokens, MayFollow, Lexes, IsLeaf}
use Rattle.xpath_writer.proofs.Shown.{shown-step_of, shown-Path, shown-Filter, shown-Call, shown-Context, shown-Root, shown-From}
use Rattle.xpath_parser.proofs.Soundness.{lift}
use Rattle.xpath_writer.proofs.Lexed.{ends, weaker, always, close_follows, close_bracket_follows, bracket_follows, comma_follows, slash_follows, double_slash_follows, lexes_operand, lexes_root, behind_axis, callee_first}
use Rattle.xpath_writer.proofs.SpelledWords.{spelled-read}
use Rattle.xpath_writer.proofs.Writes.{wide-is}
use Rattle.xpath_writer.proofs.Rewritten.{fine, fine-lift, chain_fits, sign_fits, as_filter, as_path, sh, syms, syms-append, AreLeaves, leaves-append, Ranked, Inner, Lexed, Fits, looser, as_operand}

-- an expression that can stand in brackets
pub record Standing (spaces : List Space) (names : List NameParts) (Q : Part → Type 0) (e : Expr) : Type 0 where
  pub ranked : Ranked spaces names Q e
  pub some : 1 ≤ (sh spaces names e).rank
  pub lexed : Lexed spaces names e
  pub inner : Inner spaces names Q e

pub both_true : (a b : Bool) → (a && b) ≡ true → (a ≡ true) × (b ≡ true)
both_true true b e = (refl, e)
both_true false b e = cc

-- Steps that are abbreviated

none_some : {X : Type 0} (k : X) → None ≡ Some k → ⊥
none_some k e = cc

pub short_is : (on : Axis) (k : Kind) → short_kind on ≡ Some k → ((k ≡ kind.Dot) × (on ≡ axis.Itself)) ⊎ ((k ≡ kind.DotDot) × (on ≡ axis.Parent))
short_is axis.Itself k e = let same : k ≡ kind.Dot = cc in inl (same, refl)
short_is axis.Parent k e = let same : k ≡ kind.DotDot = cc in inr (same, refl)
short_is on k e = absurd (none_some k e)

pub short_bare : (on : Axis) (bare : Bool) (k : Kind) → short_for on bare ≡ Some k → (bare ≡ true) × (short_kind on ≡ Some k)
short_bare on true k e = (refl, e)
short_bare on false k e = absurd (none_some k e)

any_node_is : (t : NodeTest) → is_any_node t ≡ true → t ≡ test.AnyNode
any_node_is test.AnyNode e = refl
any_node_is t e = cc

pub empty_is : {X : Type 0} (xs : List X) → is_empty xs ≡ true → xs ≡ []
empty_is [] e = refl
empty_is (x ∷ xs) e = cc

is_any_descendant : (on : Axis) (t : NodeTest) (es : List Expr) → (is_descendant_or_self on && is_bare t es) ≡ true → step_of on t es ≡ any_descendant
is_any_descendant axis.DescendantOrSelf test.AnyNode [] e = refl
is_any_descendant on t es e = cc

nothing : {X : Type 0} (x : X) → not (is_empty (x ∷ [])) ≡ true
nothing x = refl

module _ (spaces : List Space) (names : List NameParts) where
  abbrev pub shs : Step → WrittenStep
  shs = shown_step spaces names

  pub wide_step : (s : Step) → (shs s).is_wide ≡ true → s ≡ any_descendant
  wide_step s e =
      sym (roll-out-Step s) ∙ is_any_descendant (out-Step s).axis (out-Step s).test (out-Step s).predicates (sym (wide-is spaces names s) ∙ e)

  -- what stands in brackets

  abbrev pub inner_parts : List Part → List Part
  inner_parts [] = []
  inner_parts (p ∷ ps) = part (syms spaces names ((sh spaces names p.tree).words false)) p.tree ∷ inner_parts ps

  inner_parts-trees : (ps : List Part) → trees (inner_parts ps) ≡ trees ps
  inner_parts-trees [] = refl
  inner_parts-trees (p ∷ ps) = ap (λ l. p.tree ∷ l) (inner_parts-trees ps)

  predicates-read : (ps : List Part) → syms spaces names (predicate_words (map (sh spaces names) (trees ps))) ≡ bracketed (inner_parts ps)
  predicates-read [] = refl
  predicates-read (p ∷ ps) =
      let words = (sh spaces names p.tree).words false in
      let rest = predicate_words (map (sh spaces names) (trees ps)) in
      ap (λ l. symbol.OpenBracket ∷ l) (syms-append spaces names words (mark kind.CloseBracket ∷ rest) ∙ ap (λ l. syms spaces names words ++ (symbol.CloseBracket ∷ l)) (predicates-read ps))

  arguments-read : (p : Part) (ps : List Part) → syms spaces names (argument_words (map (sh spaces names) (trees (p ∷ ps)))) ≡ arguments (inner_parts (p ∷ ps))
  arguments-read p [] = let words = (sh spaces names p.tree).words false in syms-append spaces names words [] ∙ append-nil (syms spaces names words)
  arguments-read p (q ∷ ps) =
      let words = (sh spaces names p.tree).words false in
      let rest = argument_words (map (sh spaces names) (trees (q ∷ ps))) in
      syms-append spaces names words (mark kind.Comma ∷ rest) ∙ ap (λ l. syms spaces names words ++ (symbol.Comma ∷ l)) (arguments-read q ps)

  pub all_arguments-read : (ps : List Part) → syms spaces names (argument_words (map (sh spaces names) (trees ps))) ≡ arguments (inner_parts ps)
  all_arguments-read [] = refl
  all_arguments-read (p ∷ ps) = arguments-read p ps

  bracketed-leaves : (ps : List Part) → AreLeaves spaces names (bracketed ps) → AllByRecursion (λ p. AreLeaves spaces names p.tokens) ps
  bracketed-leaves [] all = tt
  bracketed-leaves (p ∷ ps) all = let parts = leaves-append spaces names p.tokens (symbol.CloseBracket ∷ bracketed ps) all.1 in (parts.0, bracketed-leaves ps parts.1.1)

  arguments-leaves : (ps : List Part) → AreLeaves spaces names (arguments ps) → AllByRecursion (λ p. AreLeaves spaces names p.tokens) ps
  arguments-leaves [] all = tt
  arguments-leaves (p ∷ []) all = (all, tt)
  arguments-leaves (p ∷ q ∷ ps) all = let parts = leaves-append spaces names p.tokens (symbol.Comma ∷ arguments (q ∷ ps)) all in (parts.0, arguments-leaves (q ∷ ps) parts.1.1)

  -- Words

  axis-read : (on : Axis) → IsAxis (syms spaces names (axis_words on)) on
  axis-read axis.Child = inr (inr (refl, refl))
  axis-read axis.Attribute = inr (inl (refl, refl))
  axis-read on = inl refl

  pub callee-read : (f : Function) → symbol_of spaces names kind.Callee (function_text f) ≡ symbol.Callee f
  callee-read function.Last = refl
  callee-read function.Position = refl
  callee-read function.Count = refl
  callee-read function.LocalName = refl
  callee-read function.NamespaceUri = refl
  callee-read function.Name = refl
  callee-read function.Text = refl
  callee-read (function.On on_text.Concat) = refl
  callee-read (function.On on_text.StartsWith) = refl
  callee-read (function.On on_text.Contains) = refl
  callee-read (function.On on_text.SubstringBefore) = refl
  callee-read (function.On on_text.SubstringAfter) = refl
  callee-read (function.On on_text.Substring) = refl
  callee-read (function.On on_text.StringLength) = refl
  callee-read (function.On on_text.NormalizeSpace) = refl
  callee-read (function.On on_text.Translate) = refl
  callee-read function.Boolean = refl
  callee-read function.Not = refl
  callee-read function.True = refl
  callee-read function.False = refl
  callee-read function.Number = refl
  callee-read function.Sum = refl
  callee-read function.Floor = refl
  callee-read function.Ceiling = refl
  callee-read function.Round = refl
  callee-read function.Current = refl
  callee-read function.GenerateId = refl

  test-read : (tokens : List Symbol) (t : NodeTest) → IsTest tokens t → AreLeaves spaces names tokens → IsTest (syms spaces names (test_words spaces names t)) t
  test-read tokens t (inl e) all = inl (subst (AreLeaves spaces names) e all).0.0
  test-read tokens t (inr e) all = inr (subst (AreLeaves spaces names) e all).0.0

  test-lexed : (tokens : List Symbol) (t : NodeTest) → IsTest tokens t → AreLeaves spaces names tokens → Lexes true (test_words spaces names t)
  test-lexed tokens t (inl e) all = (subst (AreLeaves spaces names) e all).0.1
  test-lexed tokens t (inr e) all = (subst (AreLeaves spaces names) e all).0.1

  -- Lists of words as tokens

  predicates_follow : (p : Part) (ps : List Part) → AllByRecursion (λ q. Lexed spaces names q.tree) (p ∷ ps) → (ws : List Word) → MayFollow true ws
      → MayFollow false (predicate_words (map (sh spaces names) (trees (p ∷ ps))) ++ ws)
  predicates_follow p ps all ws follow =
      let words = (sh spaces names p.tree).words false in
      let rest = predicate_words (map (sh spaces names) (trees ps)) in
      bracket_follows ((words ++ mark kind.CloseBracket ∷ rest) ++ ws) (subst (AreTokens false) (sym (append_assoc words (mark kind.CloseBracket ∷ rest) ws))
      (all.0 false (mark kind.CloseBracket ∷ (rest ++ ws)) (close_bracket_follows (rest ++ ws) (behind ps all.1).behind_operand)))
    where
      behind : (qs : List Part) → AllByRecursion (λ q. Lexed spaces names q.tree) qs → MayFollow true (predicate_words (map (sh spaces names) (trees qs)) ++ ws)
      behind [] all = follow
      behind (q ∷ qs) all =
          let words = (sh spaces names q.tree).words false in
          let rest = predicate_words (map (sh spaces names) (trees qs)) in
          weaker false _ (bracket_follows ((words ++ mark kind.CloseBracket ∷ rest) ++ ws) (subst (AreTokens false) (sym (append_assoc words (mark kind.CloseBracket ∷ rest) ws))
          (all.0 false (mark kind.CloseBracket ∷ (rest ++ ws)) (close_bracket_follows (rest ++ ws) (behind qs all.1).behind_operand))))

  all_predicates_follow : (ps : List Part) → AllByRecursion (λ q. Lexed spaces names q.tree) ps → (ws : List Word) → MayFollow true ws → MayFollow true (predicate_words (map (sh spaces names) (trees ps)) ++ ws)
  all_predicates_follow [] all ws follow = follow
  all_predicates_follow (p ∷ ps) all ws follow = weaker false _ (predicates_follow p ps all ws follow)

  further_follow : (ps : List Part) → AllByRecursion (λ q. Lexed spaces names q.tree) ps → (ws : List Word) → MayFollow false ws → MayFollow false (further_arguments (map (sh spaces names) (trees ps)) ++ ws)
  further_follow [] all ws follow = follow
  further_follow (p ∷ ps) all ws follow =
      let words = (sh spaces names p.tree).words false in
      let rest = further_arguments (map (sh spaces names) (trees ps)) in
      comma_follows ((words ++ rest) ++ ws) (subst (AreTokens false) (sym (append_assoc words rest ws)) (all.0 false (rest ++ ws) (further_follow ps all.1 ws follow)))

  arguments_lexed : (ps : List Part) → AllByRecursion (λ q. Lexed spaces names q.tree) ps → (ws : List Word) → MayFollow false ws → AreTokens false (argument_words (map (sh spaces names) (trees ps)) ++ ws)
  arguments_lexed [] all ws follow = follow.behind_slash refl
  arguments_lexed (p ∷ ps) all ws follow =
      let words = (sh spaces names p.tree).words false in
      let rest = further_arguments (map (sh spaces names) (trees ps)) in
      subst (AreTokens false) (sym (append_assoc words rest ws)) (all.0 false (rest ++ ws) (further_follow ps all.1 ws follow))

  -- Steps as tokens

  abbrev IsNeat : Step → Type 0
  IsNeat s = Lexes true (shs s).words

  neat_step : (on : Axis) (t : NodeTest) (ps : List Part) → Lexes true (test_words spaces names t) → AllByRecursion (λ q. Lexed spaces names q.tree) ps → IsNeat (step_of on t (trees ps))
  neat_step on t ps lexed all = subst (λ (w : WrittenStep). Lexes true w.words) (sym (shown-step_of spaces names on t (trees ps))) (go (short_for on (is_bare t es)) refl)
    where
      es : List Written
      es = map (sh spaces names) (trees ps)

      tests : List Word
      tests = test_words spaces names t

      go : (o : Option Kind) → short_for on (is_bare t es) ≡ o → Lexes true (short_or (full_step spaces names on t es) o)
      go None e ws follow =
          subst (AreTokens false) (sym (append_assoc (axis_words on) (tests ++ predicate_words es) ws ∙ ap (λ l. axis_words on ++ l) (append_assoc tests (predicate_words es) ws)))
          (behind_axis on (tests ++ (predicate_words es ++ ws)) (lexed (predicate_words es ++ ws) (all_predicates_follow ps all ws follow)))
      go (Some k) e ws follow =
          let bare = short_bare on (is_bare t es) k e in
          elim (short_is on k bare.1) [
            | inl h ↦ subst (λ x. AreTokens false (mark x ∷ ws)) (sym h.0) (refl, refl, follow.behind_operand)
            | inr h ↦ subst (λ x. AreTokens false (mark x ∷ ws)) (sym h.0) (refl, refl, follow.behind_operand)
          ]

  any_node_lexed : Lexes true (test_words spaces names test.AnyNode)
  any_node_lexed ws follow = (refl, refl, (refl, refl, (refl, refl, follow.behind_operand)))

  and_false : (a : Bool) → (a && false) ≡ false
  and_false true = refl
  and_false false = refl

  abbrev kind_of : Bool → Kind
  kind_of true = kind.DoubleSlash
  kind_of false = kind.Slash

  one_step_follows : (double : Bool) (s : Step) (ws : List Word) → IsNeat s → MayFollow true ws → MayFollow false (mark (kind_of double) ∷ ((shs s).words ++ ws))
  one_step_follows true s ws neat follow = double_slash_follows ((shs s).words ++ ws) (neat ws follow)
  one_step_follows false s ws neat follow = slash_follows ((shs s).words ++ ws) (neat ws follow)

  step_follows : (double : Bool) (s : Step) (rest ws : List Word) → IsNeat s → MayFollow true (rest ++ ws) → MayFollow false ((mark (kind_of double) ∷ ((shs s).words ++ rest)) ++ ws)
  step_follows double s rest ws neat follow =
      subst (λ l. MayFollow false (mark (kind_of double) ∷ l)) (sym (append_assoc (shs s).words rest ws)) (one_step_follows double s (rest ++ ws) neat follow)

  steps_follow : (s : Step) (ss : List Step) → IsNeat s → AllByRecursion IsNeat ss → (double : Bool) (ws : List Word) → MayFollow true ws → MayFollow false (steps_words (Some (kind_of double)) (map shs (s ∷ ss)) ++ ws)
  steps_follow s [] neat all double ws follow =
      subst (λ v. MayFollow false (cond v (steps_words (Some kind.DoubleSlash) []) (mark (kind_of double) ∷ ((shs s).words ++ [])) ++ ws)) (sym (and_false (is_slash (Some (kind_of double)) && (shs s).is_wide))) (step_follows double s [] ws neat follow)
  steps_follow s (t ∷ ts) neat all double ws follow =
      go (is_slash (Some (kind_of double)) && (shs s).is_wide && not (is_empty (map shs (t ∷ ts)))) (λ b. steps_follow t ts all.0 all.1 b ws follow)
    where
      go : (v : Bool) → ((b : Bool) → MayFollow false (steps_words (Some (kind_of b)) (map shs (t ∷ ts)) ++ ws))
          → MayFollow false (cond v (steps_words (Some kind.DoubleSlash) (map shs (t ∷ ts))) (mark (kind_of double) ∷ ((shs s).words ++ steps_words (Some kind.Slash) (map shs (t ∷ ts)))) ++ ws)
      go true rest = rest true
      go false rest = step_follows double s (steps_words (Some kind.Slash) (map shs (t ∷ ts))) ws neat (weaker false _ (rest false))

  relative_lexed : (s : Step) (ss : List Step) → IsNeat s → AllByRecursion IsNeat ss → Lexes true (steps_words None (map shs (s ∷ ss)))
  relative_lexed s [] neat all ws follow = subst (AreTokens false) (sym (append_assoc (shs s).words [] ws)) (neat ws follow)
  relative_lexed s (t ∷ ts) neat all ws follow =
      subst (AreTokens false) (sym (append_assoc (shs s).words (steps_words (Some kind.Slash) (map shs (t ∷ ts))) ws))
      (neat (steps_words (Some kind.Slash) (map shs (t ∷ ts)) ++ ws) (weaker false _ (steps_follow t ts all.0 all.1 false ws follow)))

  absolute_lexed : (s : Step) (ss : List Step) → IsNeat s → AllByRecursion IsNeat ss → Lexes true (steps_words (Some kind.Slash) (map shs (s ∷ ss)))
  absolute_lexed s ss neat all ws follow = (steps_follow s ss neat all false ws follow).behind_slash refl

  module _ (Q : Part → Type 0) where
    -- a step's words are the step
    abbrev pub IsGood : Step → Type 0
    IsGood s = IsStep Q (stepped (syms spaces names (shs s).words) s)

    good_step : (on : Axis) (t : NodeTest) (ps : List Part) → IsTest (syms spaces names (test_words spaces names t)) t → AllByRecursion Q (inner_parts ps) → IsGood (step_of on t (trees ps))
    good_step on t ps read are =
        subst (λ (w : WrittenStep). IsStep Q (stepped (syms spaces names w.words) (step_of on t (trees ps)))) (sym (shown-step_of spaces names on t (trees ps))) (go (short_for on (is_bare t es)) refl)
      where
        es : List Written
        es = map (sh spaces names) (trees ps)

        words : List Word
        words = full_step spaces names on t es

        full : IsFullStep Q (stepped (syms spaces names words) (step_of on t (trees ps)))
        full = record {
          axis_tokens = syms spaces names (axis_words on);
          test_tokens = syms spaces names (test_words spaces names t);
          on = on;
          test = t;
          predicates = inner_parts ps;
          axis_is = axis-read on;
          test_is = read;
          predicates_are = are;
          whole_is =
              ap (λ ts. stepped ts (step_of on t (trees ps))) (syms-append spaces names (axis_words on) (test_words spaces names t ++ predicate_words es)
              ∙ ap (λ l. syms spaces names (axis_words on) ++ l) (syms-append spaces names (test_words spaces names t) (predicate_words es) ∙ ap (λ l. syms spaces names (test_words spaces names t) ++ l) (predicates-read ps)))
              ∙ ap (λ es. stepped (syms spaces names (axis_words on) ++ (syms spaces names (test_words spaces names t) ++ bracketed (inner_parts ps))) (step_of on t es)) (sym (inner_parts-trees ps));
        }

        none : (ps : List Part) → map (sh spaces names) (trees ps) ≡ [] → trees ps ≡ []
        none [] e = refl
        none (p ∷ ps) e = cc

        go : (o : Option Kind) → short_for on (is_bare t es) ≡ o → IsStep Q (stepped (syms spaces names (short_or words o)) (step_of on t (trees ps)))
        go None e = inl full
        go (Some k) e =
            let bare = short_bare on (is_bare t es) k e in
            let parts = both_true (is_any_node t) (is_empty es) bare.0 in
            let any = any_node_is t parts.0 in
            let empty = none ps (empty_is es parts.1) in
            let same : step_of on t (trees ps) ≡ step_of on test.AnyNode [] = ap (λ x. step_of on x (trees ps)) any ∙ ap (λ x. step_of on test.AnyNode x) empty in
            elim (short_is on k bare.1) [
              | inl h ↦ inr (inl (ap (λ x. stepped (syms spaces names (mark x ∷ [])) (step_of on t (trees ps))) h.0 ∙ ap (λ x. stepped (symbol.Dot ∷ []) x) (same ∙ ap (λ x. step_of x test.AnyNode []) h.1)))
              | inr h ↦ inr (inr (ap (λ x. stepped (syms spaces names (mark x ∷ [])) (step_of on t (trees ps))) h.0 ∙ ap (λ x. stepped (symbol.DotDot ∷ []) x) (same ∙ ap (λ x. step_of x test.AnyNode []) h.1)))
            ]

    self_good : IsGood self_node
    self_good = good_step axis.Itself test.AnyNode [] (inr refl) tt

    parent_good : IsGood parent_node
    parent_good = good_step axis.Parent test.AnyNode [] (inr refl) tt

    any_good : IsGood any_descendant
    any_good = good_step axis.DescendantOrSelf test.AnyNode [] (inr refl) tt

    -- Steps of a path

    -- steps behind slashes, the first behind `//` if the flag says so, as these words are read
    record Slashed (words : List Word) (double : Bool) (steps : List Step) : Type 0 where
      first : Bool × Stepped
      others : List (Bool × Stepped)
      are : AreSteps Q (first ∷ others)
      tokens : syms spaces names words ≡ behind_slash (first ∷ others)
      steps_are : steps_behind (first ∷ others) ≡ widened double ++ steps

    abbrev own_step : Step → Stepped
    own_step s = stepped (syms spaces names (shs s).words) s

    abbrev left_out : Bool → Step → List WrittenStep → Bool
    left_out double s rest = is_slash (Some (kind_of double)) && (shs s).is_wide && not (is_empty rest)

    last_slashed : (double : Bool) (s : Step) → IsGood s → Slashed (mark (kind_of double) ∷ ((shs s).words ++ [])) double (s ∷ [])
    last_slashed true s is = record { first = (true, own_step s); others = []; are = (is, tt); tokens = ap (λ l. symbol.DoubleSlash ∷ l) (syms-append spaces names (shs s).words []); steps_are = refl }
    last_slashed false s is = record { first = (false, own_step s); others = []; are = (is, tt); tokens = ap (λ l. symbol.Slash ∷ l) (syms-append spaces names (shs s).words []); steps_are = refl }

    more_slashed : (double : Bool) (s : Step) (words : List Word) (steps : List Step) → IsGood s → Slashed words false steps → Slashed (mark (kind_of double) ∷ ((shs s).words ++ words)) double (s ∷ steps)
    more_slashed true s words steps is rest = record {
      first = (true, own_step s);
      others = rest.first ∷ rest.others;
      are = (is, rest.are);
      tokens = ap (λ l. symbol.DoubleSlash ∷ l) (syms-append spaces names (shs s).words words ∙ ap (λ l. syms spaces names (shs s).words ++ l) rest.tokens);
      steps_are = ap (λ l. any_descendant ∷ (s ∷ l)) rest.steps_are;
    }
    more_slashed false s words steps is rest = record {
      first = (false, own_step s);
      others = rest.first ∷ rest.others;
      are = (is, rest.are);
      tokens = ap (λ l. symbol.Slash ∷ l) (syms-append spaces names (shs s).words words ∙ ap (λ l. syms spaces names (shs s).words ++ l) rest.tokens);
      steps_are = ap (λ l. s ∷ l) rest.steps_are;
    }

    skipped : (double : Bool) (s : Step) (words : List Word) (steps : List Step) → is_slash (Some (kind_of double)) ≡ true → (shs s).is_wide ≡ true → Slashed words true steps → Slashed words double (s ∷ steps)
    skipped true s words steps slash wide rest = absurd (true_false slash)
      where
        true_false : false ≡ true → ⊥
        true_false e = cc
    skipped false s words steps slash wide rest =
        record { first = rest.first; others = rest.others; are = rest.are; tokens = rest.tokens; steps_are = rest.steps_are ∙ ap (λ x. x ∷ steps) (sym (wide_step s wide)) }

    slashed : (s : Step) (ss : List Step) → IsGood s → AllByRecursion IsGood ss → (double : Bool) → Slashed (steps_words (Some (kind_of double)) (map shs (s ∷ ss))) double (s ∷ ss)
    slashed s [] is all double = subst (λ v. Slashed (cond v (steps_words (Some kind.DoubleSlash) []) (mark (kind_of double) ∷ ((shs s).words ++ []))) double (s ∷ [])) (sym (and_false (is_slash (Some (kind_of double)) && (shs s).is_wide))) (last_slashed double s is)
    slashed s (t ∷ ts) is all double = go (left_out double s (map shs (t ∷ ts))) refl (slashed t ts all.0 all.1)
      where
        go : (v : Bool) → left_out double s (map shs (t ∷ ts)) ≡ v → ((b : Bool) → Slashed (steps_words (Some (kind_of b)) (map shs (t ∷ ts))) b (t ∷ ts))
            → Slashed (cond v (steps_words (Some kind.DoubleSlash) (map shs (t ∷ ts))) (mark (kind_of double) ∷ ((shs s).words ++ steps_words (Some kind.Slash) (map shs (t ∷ ts))))) double (s ∷ t ∷ ts)
        go true e rest =
            let parts = both_true (is_slash (Some (kind_of double)) && (shs s).is_wide) true e in
            let both = both_true (is_slash (Some (kind_of double))) (shs s).is_wide parts.0 in
            skipped double s (steps_words (Some kind.DoubleSlash) (map shs (t ∷ ts))) (t ∷ ts) both.0 both.1 (rest true)
        go false e rest = more_slashed double s (steps_words (Some kind.Slash) (map shs (t ∷ ts))) (t ∷ ts) is (rest false)

    -- Steps in the grammar, whose predicates are inner parts

    module _ (I : Part → Type 0) (inner : (q : Part) → I q → AreLeaves spaces names q.tokens → Standing spaces names Q q.tree) where
      inner_parts-are : (ps : List Part) → AllByRecursion I ps → AllByRecursion (λ p. AreLeaves spaces names p.tokens) ps → AllByRecursion Q (inner_parts ps)
      inner_parts-are [] is leaves = tt
      inner_parts-are (p ∷ ps) is leaves = ((inner p is.0 leaves.0).inner, inner_parts-are ps is.1 leaves.1)

      step_good : (x : Stepped) → IsStep I x → AreLeaves spaces names x.tokens → IsGood x.step
      step_good x (inl full) leaves =
          let own : AreLeaves spaces names (full.axis_tokens ++ (full.test_tokens ++ bracketed full.predicates)) = subst (λ (y : Stepped). AreLeaves spaces names y.tokens) full.whole_is leaves in
          let behind = leaves-append spaces names full.axis_tokens (full.test_tokens ++ bracketed full.predicates) own in
          let parts = leaves-append spaces names full.test_tokens (bracketed full.predicates) behind.1 in
          subst (λ (y : Stepped). IsGood y.step) (sym full.whole_is)
          (good_step full.on full.test full.predicates (test-read full.test_tokens full.test full.test_is parts.0) (inner_parts-are full.predicates full.predicates_are (bracketed-leaves full.predicates parts.1)))
      step_good x (inr (inl e)) leaves = subst (λ (y : Stepped). IsGood y.step) (sym e) self_good
      step_good x (inr (inr e)) leaves = subst (λ (y : Stepped). IsGood y.step) (sym e) parent_good

      parts_lexed : (ps : List Part) → AllByRecursion I ps → AllByRecursion (λ p. AreLeaves spaces names p.tokens) ps → AllByRecursion (λ q. Lexed spaces names q.tree) ps
      parts_lexed [] is leaves = tt
      parts_lexed (p ∷ ps) is leaves = ((inner p is.0 leaves.0).lexed, parts_lexed ps is.1 leaves.1)

      step_neat : (x : Stepped) → IsStep I x → AreLeaves spaces names x.tokens → IsNeat x.step
      step_neat x (inl full) leaves =
          let own : AreLeaves spaces names (full.axis_tokens ++ (full.test_tokens ++ bracketed full.predicates)) = subst (λ (y : Stepped). AreLeaves spaces names y.tokens) full.whole_is leaves in
          let behind = leaves-append spaces names full.axis_tokens (full.test_tokens ++ bracketed full.predicates) own in
          let parts = leaves-append spaces names full.test_tokens (bracketed full.predicates) behind.1 in
          subst (λ (y : Stepped). IsNeat y.step) (sym full.whole_is)
          (neat_step full.on full.test full.predicates (test-lexed full.test_tokens full.test full.test_is parts.0) (parts_lexed full.predicates full.predicates_are (bracketed-leaves full.predicates parts.1)))
      step_neat x (inr (inl e)) leaves = subst (λ (y : Stepped). IsNeat y.step) (sym e) (neat_step axis.Itself test.AnyNode [] any_node_lexed tt)
      step_neat x (inr (inr e)) leaves = subst (λ (y : Stepped). IsNeat y.step) (sym e) (neat_step axis.Parent test.AnyNode [] any_node_lexed tt)

      widened_neat : (double : Bool) (steps : List Step) → AllByRecursion IsNeat steps → AllByRecursion IsNeat (widened double ++ steps)
      widened_neat true steps all = (neat_step axis.DescendantOrSelf test.AnyNode [] any_node_lexed tt, all)
      widened_neat false steps all = all

      steps_neat : (xs : List (Bool × Stepped)) → AreSteps I xs → AreLeaves spaces names (behind_slash xs) → AllByRecursion IsNeat (steps_behind xs)
      steps_neat [] is leaves = tt
      steps_neat (x ∷ xs) is leaves =
          let parts = leaves-append spaces names x.1.tokens (behind_slash xs) leaves.1 in
          widened_neat x.0 (x.1.step ∷ steps_behind xs) (step_neat x.1 is.0 parts.0, steps_neat xs is.1 parts.1)

      widened_good : (double : Bool) (steps : List Step) → AllByRecursion IsGood steps → AllByRecursion IsGood (widened double ++ steps)
      widened_good true steps all = (any_good, all)
      widened_good false steps all = all

      steps_good : (xs : List (Bool × Stepped)) → AreSteps I xs → AreLeaves spaces names (behind_slash xs) → AllByRecursion IsGood (steps_behind xs)
      steps_good [] is leaves = tt
      steps_good (x ∷ xs) is leaves =
          let parts = leaves-append spaces names x.1.tokens (behind_slash xs) leaves.1 in
          widened_good x.0 (x.1.step ∷ steps_behind xs) (step_good x.1 is.0 parts.0, steps_good xs is.1 parts.1)

    -- Paths

    start_words : (from : PathStart) (words : Bool → List WrittenStep → List Word) (steps : List Step) → shown_start spaces names from ≡ words
        → sh spaces names (expr.Path from steps) ≡ record { rank = 9; words = λ before. words before (map shs steps) }
    start_words from words steps e = shown-Path spaces names from steps ∙ ap (λ (f : Bool → List WrittenStep → List Word). path_of f) e
      where
        path_of : (Bool → List WrittenStep → List Word) → Written
        path_of f = record { rank = 9; words = λ before. f before (map shs steps) }

    path_fits : (from : PathStart) (words : Bool → List WrittenStep → List Word) (steps : List Step) → shown_start spaces names from ≡ words
        → ((before : Bool) → IsPath Q (part (syms spaces names (words before (map shs steps))) (expr.Path from steps))) → ((before : Bool) → Lexes before (words before (map shs steps))) → Fits spaces names Q 2 (expr.Path from steps)
    path_fits from words steps e is lexes = record { ranked = ranked; some = omega (arith, ap (λ (w : Written). w.rank) (start_words from words steps e)); lexed = lexed; inner = λ lt. absurd (omega (arith, ap (λ (w : Written). w.rank) (start_words from words steps e))) }
      where
        lexed : Lexed spaces names (expr.Path from steps)
        lexed before = subst (λ (w : Written). Lexes before (w.words before)) (sym (start_words from words steps e)) (lexes before)

        ranked : Ranked spaces names Q (expr.Path from steps)
        ranked before = subst (λ (w : Written). fine Q (11 - w.rank) (part (syms spaces names (w.words before)) (expr.Path from steps))) (sym (start_words from words steps e)) (is before)

    relative_is : (s : Step) (ss : List Step) → IsGood s → AllByRecursion IsGood ss → IsRelative Q (part (syms spaces names (steps_words None (map shs (s ∷ ss)))) (expr.Path start.Context (s ∷ ss)))
    relative_is s [] is all =
        record { first = own_step s; others = []; first_is = is; others_are = tt; whole_is = ap (λ ts. part ts (expr.Path start.Context (s ∷ []))) (syms-append spaces names (shs s).words []) }
    relative_is s (t ∷ ts) is all =
        let rest = slashed t ts all.0 all.1 false in
        record {
          first = own_step s;
          others = rest.first ∷ rest.others;
          first_is = is;
          others_are = rest.are;
          whole_is =
              ap (λ tokens. part tokens (expr.Path start.Context (s ∷ t ∷ ts))) (syms-append spaces names (shs s).words (steps_words (Some kind.Slash) (map shs (t ∷ ts))) ∙ ap (λ l. syms spaces names (shs s).words ++ l) rest.tokens)
              ∙ ap (λ steps. part (syms spaces names (shs s).words ++ behind_slash (rest.first ∷ rest.others)) (expr.Path start.Context (s ∷ steps))) (sym rest.steps_are);
        }

    relative_fits : (s : Step) (ss : List Step) → IsGood s → AllByRecursion IsGood ss → IsNeat s → AllByRecursion IsNeat ss → Fits spaces names Q 2 (expr.Path start.Context (s ∷ ss))
    relative_fits s ss is all neat neats =
        path_fits start.Context (λ before steps. steps_words None steps) (s ∷ ss) (shown-Context spaces names) (λ before. inl (relative_is s ss is all)) (λ before. always before _ (relative_lexed s ss neat neats))

    absolute_is : (s : Step) (ss : List Step) → IsGood s → AllByRecursion IsGood ss → IsAbsolute Q (part (syms spaces names (steps_words (Some kind.Slash) (map shs (s ∷ ss)))) (expr.Path start.Root (s ∷ ss)))
    absolute_is s ss is all =
        let rest = slashed s ss is all false in
        record {
          first = rest.first;
          others = rest.others;
          steps_are = rest.are;
          whole_is =
              ap (λ tokens. part tokens (expr.Path start.Root (s ∷ ss))) rest.tokens
              ∙ ap (λ steps. part (behind_slash (rest.first ∷ rest.others)) (expr.Path start.Root steps)) (sym rest.steps_are);
        }

    absolute_fits : (s : Step) (ss : List Step) → IsGood s → AllByRecursion IsGood ss → IsNeat s → AllByRecursion IsNeat ss → Fits spaces names Q 2 (expr.Path start.Root (s ∷ ss))
    absolute_fits s ss is all neat neats =
        path_fits start.Root (λ before steps. absolute_words before steps) (s ∷ ss) (shown-Root spaces names) (λ before. inr (inr (inl (absolute_is s ss is all)))) (λ before. always before _ (absolute_lexed s ss neat neats))

    root_is : Q root_alone → (before : Bool) → IsPath Q (part (syms spaces names (root_words before)) (expr.Path start.Root []))
    root_is root true = as_path Q _ (as_filter Q _ (inr (inl (record { inner = root_alone; inner_is = root; whole_is = refl }))))
    root_is root false = inr (inl refl)

    root_fits : Q root_alone → Fits spaces names Q 2 (expr.Path start.Root [])
    root_fits root = path_fits start.Root (λ before steps. absolute_words before steps) [] (shown-Root spaces names) (root_is root) lexes_root

    from_fits : (e : Expr) (s : Step) (ss : List Step) → Fits spaces names Q 1 e → IsGood s → AllByRecursion IsGood ss → IsNeat s → AllByRecursion IsNeat ss → Fits spaces names Q 2 (expr.Path (start.From e) (s ∷ ss))
    from_fits e s ss from is all neat neats = path_fits (start.From e) (λ before steps. operand 10 false (sh spaces names e) ++ steps_words (Some kind.Slash) steps) (s ∷ ss) (shown-From spaces names e) (λ before. inr (inr (inr (inr path)))) (λ before. always before _ lexes)
      where
        rest : Slashed (steps_words (Some kind.Slash) (map shs (s ∷ ss))) false (s ∷ ss)
        rest = slashed s ss is all false

        lexes : Lexes true (operand 10 false (sh spaces names e) ++ steps_words (Some kind.Slash) (map shs (s ∷ ss)))
        lexes ws follow =
            subst (AreTokens false) (sym (append_assoc (operand 10 false (sh spaces names e)) (steps_words (Some kind.Slash) (map shs (s ∷ ss))) ws))
            (lexes_operand 10 false (sh spaces names e) from.lexed (steps_words (Some kind.Slash) (map shs (s ∷ ss)) ++ ws) (steps_follow s ss neat neats false ws follow))

        plain : List Symbol
        plain = syms spaces names (operand 10 false (sh spaces names e))

        path : IsPathFrom Q (part (syms spaces names (operand 10 false (sh spaces names e) ++ steps_words (Some kind.Slash) (map shs (s ∷ ss)))) (expr.Path (start.From e) (s ∷ ss)))
        path = record {
          from = part plain e;
          first = rest.first;
          others = rest.others;
          from_is = as_operand spaces names Q 1 (omega arith) e from false;
          steps_are = rest.are;
          whole_is =
              ap (λ tokens. part tokens (expr.Path (start.From e) (s ∷ ss))) (syms-append spaces names (operand 10 false (sh spaces names e)) (steps_words (Some kind.Slash) (map shs (s ∷ ss))) ∙ ap (λ l. plain ++ l) rest.tokens)
              ∙ ap (λ steps. part (plain ++ behind_slash (rest.first ∷ rest.others)) (expr.Path (start.From e) steps)) (sym rest.steps_are);
        }

    -- Filters and calls

    filter_fits : (e : Expr) (p : Part) (ps : List Part) → Fits spaces names Q 0 e → AllByRecursion Q (inner_parts (p ∷ ps)) → AllByRecursion (λ q. Lexed spaces names q.tree) (p ∷ ps) → Fits spaces names Q 1 (expr.Filter e (trees (p ∷ ps)))
    filter_fits e p ps plain are lexes = record { ranked = ranked; some = omega (arith, ap (λ (w : Written). w.rank) shows); lexed = lexed; inner = λ lt. absurd (omega (arith, ap (λ (w : Written). w.rank) shows)) }
      where
        es : List Expr
        es = trees (p ∷ ps)

        form : Written
        form = record { rank = 10; words = λ before. operand 11 false (sh spaces names e) ++ predicate_words (map (sh spaces names) es) }

        shows : sh spaces names (expr.Filter e es) ≡ form
        shows = shown-Filter spaces names e es

        filter : IsFilter Q (part (syms spaces names (operand 11 false (sh spaces names e) ++ predicate_words (map (sh spaces names) es))) (expr.Filter e es))
        filter = record {
          plain = part (syms spaces names (operand 11 false (sh spaces names e))) e;
          predicates = inner_parts (p ∷ ps);
          plain_is = as_operand spaces names Q 0 (omega arith) e plain false;
          predicates_are = are;
          whole_is =
              ap (λ tokens. part tokens (expr.Filter e es)) (syms-append spaces names (operand 11 false (sh spaces names e)) (predicate_words (map (sh spaces names) es))
              ∙ ap (λ l. syms spaces names (operand 11 false (sh spaces names e)) ++ l) (predicates-read (p ∷ ps)))
              ∙ ap (λ xs. part (syms spaces names (operand 11 false (sh spaces names e)) ++ bracketed (inner_parts (p ∷ ps))) (filtered e xs)) (sym (inner_parts-trees (p ∷ ps)));
        }

        lexed : Lexed spaces names (expr.Filter e es)
        lexed before =
            subst (λ (w : Written). Lexes before (w.words before)) (sym shows) (λ ws follow.
            subst (AreTokens false) (sym (append_assoc (operand 11 false (sh spaces names e)) (predicate_words (map (sh spaces names) es)) ws))
            (lexes_operand 11 false (sh spaces names e) plain.lexed (predicate_words (map (sh spaces names) es) ++ ws) (predicates_follow p ps lexes ws (weaker before ws follow))))

        ranked : Ranked spaces names Q (expr.Filter e es)
        ranked before = subst (λ (w : Written). fine Q (11 - w.rank) (part (syms spaces names (w.words before)) (expr.Filter e es))) (sym shows) filter

    call_fits : (f : Function) (ps : List Part) → AllByRecursion Q (inner_parts ps) → AllByRecursion (λ q. Lexed spaces names q.tree) ps → Fits spaces names Q 0 (expr.Call f (trees ps))
    call_fits f ps are lexes = record { ranked = ranked; some = omega (arith, ap (λ (w : Written). w.rank) shows); lexed = lexed; inner = λ lt. absurd (omega (arith, ap (λ (w : Written). w.rank) shows)) }
      where
        es : List Expr
        es = trees ps

        behind : List Word
        behind = argument_words (map (sh spaces names) es) ++ mark kind.Close ∷ []

        callee : Word
        callee = (kind.Callee, function_text f)

        form : Written
        form = record { rank = 11; words = λ before. callee ∷ (mark kind.Open ∷ behind) }

        shows : sh spaces names (expr.Call f es) ≡ form
        shows = shown-Call spaces names f es

        call : IsCall Q (part (syms spaces names (callee ∷ (mark kind.Open ∷ behind))) (expr.Call f es))
        call = record {
          function = f;
          given = inner_parts ps;
          given_are = are;
          whole_is =
              ap (λ s. part (s ∷ (symbol.Open ∷ syms spaces names behind)) (expr.Call f es)) (callee-read f)
              ∙ ap (λ l. part (symbol.Callee f ∷ (symbol.Open ∷ l)) (expr.Call f es)) (syms-append spaces names (argument_words (map (sh spaces names) es)) (mark kind.Close ∷ []) ∙ ap (λ l. l ++ symbol.Close ∷ []) (all_arguments-read ps))
              ∙ ap (λ xs. part (symbol.Callee f ∷ (symbol.Open ∷ (arguments (inner_parts ps) ++ symbol.Close ∷ []))) (expr.Call f xs)) (sym (inner_parts-trees ps));
        }

        lexed : Lexed spaces names (expr.Call f es)
        lexed before =
            subst (λ (w : Written). Lexes before (w.words before)) (sym shows) (λ ws follow.
            callee_first f (behind ++ ws) (subst (AreTokens false) (sym (append_assoc (argument_words (map (sh spaces names) es)) (mark kind.Close ∷ []) ws))
            (arguments_lexed ps lexes (mark kind.Close ∷ ws) (close_follows ws follow.behind_operand))))

        ranked : Ranked spaces names Q (expr.Call f es)
        ranked before = subst (λ (w : Written). fine Q (11 - w.rank) (part (syms spaces names (w.words before)) (expr.Call f es))) (sym shows) (inr (inr call))

    atom_fits : (e : Expr) → IsLeaf spaces names (symbol.Atom e) → Fits spaces names Q 0 e
    atom_fits e leaf = record { ranked = ranked; some = omega (arith, leaf.0); lexed = λ before. always before _ (leaf.1 before).1; inner = λ lt. absurd (omega (arith, leaf.0)) }
      where
        ranked : Ranked spaces names Q e
        ranked before =
            subst (λ n. fine Q n (part (syms spaces names ((sh spaces names e).words before)) e)) (sym (ap (λ n. 11 - n) leaf.0)) (inl (e, ap (λ ts. part ts e) (leaf.1 before).0))

    module _ (I : Part → Type 0) (inner : (q : Part) → I q → AreLeaves spaces names q.tokens → Standing spaces names Q q.tree) (root : Q root_alone) where
      abbrev InTier : ℕ → Part → Type 0
      InTier m p = AreLeaves spaces names p.tokens → Fits spaces names Q m p.tree

      primary_in : (p : Part) → IsPrimary I p → InTier 0 p
      primary_in p (inl is) leaves = subst (λ (q : Part). Fits spaces names Q 0 q.tree) (sym is.1) (atom_fits is.0 (subst (λ (q : Part). AreLeaves spaces names q.tokens) is.1 leaves).0)
      primary_in p (inr (inl is)) leaves =
          let own : AreLeaves spaces names (symbol.Open ∷ (is.inner.tokens ++ symbol.Close ∷ [])) = subst (λ (q : Part). AreLeaves spaces names q.tokens) is.whole_is leaves in
          let stands = inner is.inner is.inner_is (leaves-append spaces names is.inner.tokens (symbol.Close ∷ []) own.1).0 in
          subst (λ (q : Part). Fits spaces names Q 0 q.tree) (sym is.whole_is) (record { ranked = stands.ranked; some = stands.some; lexed = stands.lexed; inner = λ lt. stands.inner })
      primary_in p (inr (inr is)) leaves =
          let own : AreLeaves spaces names (symbol.Callee is.function ∷ (symbol.Open ∷ (arguments is.given ++ symbol.Close ∷ []))) = subst (λ (q : Part). AreLeaves spaces names q.tokens) is.whole_is leaves in
          let given = arguments-leaves is.given (leaves-append spaces names (arguments is.given) (symbol.Close ∷ []) own.1.1).0 in
          subst (λ (q : Part). Fits spaces names Q 0 q.tree) (sym is.whole_is) (call_fits is.function is.given (inner_parts-are I inner is.given is.given_are given) (parts_lexed I inner is.given is.given_are given))

      filter_in : (p : Part) → IsFilter I p → InTier 1 p
      filter_in p is leaves = go is.predicates is.predicates_are is.whole_is
        where
          go : (ps : List Part) → AllByRecursion I ps → p ≡ part (is.plain.tokens ++ bracketed ps) (filtered is.plain.tree (trees ps)) → Fits spaces names Q 1 p.tree
          go [] all whole =
              let own : AreLeaves spaces names (is.plain.tokens ++ []) = subst (λ (q : Part). AreLeaves spaces names q.tokens) whole leaves in
              let plain = primary_in is.plain is.plain_is (leaves-append spaces names is.plain.tokens [] own).0 in
              subst (λ (q : Part). Fits spaces names Q 1 q.tree) (sym whole) (looser spaces names Q 0 1 (omega arith) is.plain.tree plain)
          go (q ∷ ps) all whole =
              let own : AreLeaves spaces names (is.plain.tokens ++ bracketed (q ∷ ps)) = subst (λ (x : Part). AreLeaves spaces names x.tokens) whole leaves in
              let parts = leaves-append spaces names is.plain.tokens (bracketed (q ∷ ps)) own in
              subst (λ (x : Part). Fits spaces names Q 1 x.tree) (sym whole)
              (filter_fits is.plain.tree q ps (primary_in is.plain is.plain_is parts.0) (inner_parts-are I inner (q ∷ ps) all (bracketed-leaves (q ∷ ps) parts.1)) (parts_lexed I inner (q ∷ ps) all (bracketed-leaves (q ∷ ps) parts.1)))

      cons_path : (P : List Step → Type 0) → ((s : Step) (ss : List Step) → IsGood s → AllByRecursion IsGood ss → IsNeat s → AllByRecursion IsNeat ss → P (s ∷ ss)) → (x : Bool × Stepped) (xs : List (Bool × Stepped))
          → AllByRecursion IsGood (steps_behind (x ∷ xs)) → AllByRecursion IsNeat (steps_behind (x ∷ xs)) → P (steps_behind (x ∷ xs))
      cons_path P f (true, x) xs all neat = f any_descendant (x.step ∷ steps_behind xs) all.0 all.1 neat.0 neat.1
      cons_path P f (false, x) xs all neat = f x.step (steps_behind xs) all.0 all.1 neat.0 neat.1

      path_in : (p : Part) → IsPath I p → InTier 2 p
      path_in p (inl is) leaves =
          let own : AreLeaves spaces names (is.first.tokens ++ behind_slash is.others) = subst (λ (q : Part). AreLeaves spaces names q.tokens) is.whole_is leaves in
          let parts = leaves-append spaces names is.first.tokens (behind_slash is.others) own in
          subst (λ (q : Part). Fits spaces names Q 2 q.tree) (sym is.whole_is)
          (relative_fits is.first.step (steps_behind is.others) (step_good I inner is.first is.first_is parts.0) (steps_good I inner is.others is.others_are parts.1)
          (step_neat I inner is.first is.first_is parts.0) (steps_neat I inner is.others is.others_are parts.1))
      path_in p (inr (inl e)) leaves = subst (λ (q : Part). Fits spaces names Q 2 q.tree) (sym e) (root_fits root)
      path_in p (inr (inr (inl is))) leaves =
          let own : AreLeaves spaces names (behind_slash (is.first ∷ is.others)) = subst (λ (q : Part). AreLeaves spaces names q.tokens) is.whole_is leaves in
          subst (λ (q : Part). Fits spaces names Q 2 q.tree) (sym is.whole_is)
          (cons_path (λ steps. Fits spaces names Q 2 (expr.Path start.Root steps)) absolute_fits is.first is.others (steps_good I inner (is.first ∷ is.others) is.steps_are own) (steps_neat I inner (is.first ∷ is.others) is.steps_are own))
      path_in p (inr (inr (inr (inl is)))) leaves = looser spaces names Q 1 2 (omega arith) p.tree (filter_in p is leaves)
      path_in p (inr (inr (inr (inr is)))) leaves =
          let own : AreLeaves spaces names (is.from.tokens ++ behind_slash (is.first ∷ is.others)) = subst (λ (q : Part). AreLeaves spaces names q.tokens) is.whole_is leaves in
          let parts = leaves-append spaces names is.from.tokens (behind_slash (is.first ∷ is.others)) own in
          let from = filter_in is.from is.from_is parts.0 in
          subst (λ (q : Part). Fits spaces names Q 2 q.tree) (sym is.whole_is)
          (cons_path (λ steps. Fits spaces names Q 2 (expr.Path (start.From is.from.tree) steps)) (λ s ss. from_fits is.from.tree s ss from) is.first is.others (steps_good I inner (is.first ∷ is.others) is.steps_are parts.1) (steps_neat I inner (is.first ∷ is.others) is.steps_are parts.1))

      -- Whole expressions

      union_in : (p : Part) → IsUnion I p → InTier 3 p
      union_in = chain_fits spaces names Q (IsPath I) level.Union path_in

      unary_in : (p : Part) → IsUnary I p → InTier 4 p
      unary_in = sign_fits spaces names Q (IsUnion I) union_in

      multiplicative_in : (p : Part) → IsMultiplicative I p → InTier 5 p
      multiplicative_in = chain_fits spaces names Q (IsUnary I) level.Multiplicative unary_in

      additive_in : (p : Part) → IsAdditive I p → InTier 6 p
      additive_in = chain_fits spaces names Q (IsMultiplicative I) level.Additive multiplicative_in

      relational_in : (p : Part) → IsRelational I p → InTier 7 p
      relational_in = chain_fits spaces names Q (IsAdditive I) level.Relational additive_in

      equality_in : (p : Part) → IsEquality I p → InTier 8 p
      equality_in = chain_fits spaces names Q (IsRelational I) level.Equality relational_in

      and_in : (p : Part) → IsAnd I p → InTier 9 p
      and_in = chain_fits spaces names Q (IsEquality I) level.And equality_in

      or_in : (p : Part) → IsOr I p → InTier 10 p
      or_in = chain_fits spaces names Q (IsAnd I) level.Or and_in

  -- an expression in brackets so deep, at each depth that is no less

  loosest : (Q : Part → Type 0) (e : Expr) → Ranked spaces names Q e → 1 ≤ (sh spaces names e).rank → fine Q 10 (part (syms spaces names ((sh spaces names e).words false)) e)
  loosest Q e is some = fine-lift Q (11 - (sh spaces names e).rank) 10 (omega arith) _ (is false)

  root_in : (depth : ℕ) → IsExprIn (suc depth) root_alone
  unfolding IsExprIn
  root_in depth = lift (IsExprIn depth) 0 8 (omega arith) root_alone (inr (inl refl))

  pub rewritten_at : (d D : ℕ) → d ≤ D → (q : Part) → IsExprIn d q → AreLeaves spaces names q.tokens → Fits spaces names (IsExprIn D) 10 q.tree
  unfolding IsExprIn
  rewritten_at zero D le q is leaves = absurd is
  rewritten_at (suc d) zero le q is leaves = absurd (omega arith)
  rewritten_at (suc d) (suc D) le q is leaves =
      or_in (IsExprIn (suc D)) (IsExprIn d) (λ r r_is r_leaves.
      let outer = rewritten_at d (suc D) (omega arith) r r_is r_leaves in
      let here = rewritten_at d D (omega arith) r r_is r_leaves in
      record { ranked = outer.ranked; some = outer.some; lexed = outer.lexed; inner = loosest (IsExprIn D) r.tree here.ranked here.some }) (root_in D) q is leaves

  pub rewritten_expr : (tokens : List Symbol) (tree : Expr) → AreLeaves spaces names tokens → IsExpr tokens tree → IsExpr (syms spaces names ((sh spaces names tree).words false)) tree
  unfolding IsExprIn
  rewritten_expr tokens tree leaves is =
      let fits = rewritten_at is.0 is.0 (omega arith) (part tokens tree) is.1 leaves in
      (suc is.0, loosest (IsExprIn is.0) tree fits.ranked fits.some)

  pub written_tokens : (tokens : List Symbol) (tree : Expr) → AreLeaves spaces names tokens → IsExpr tokens tree → AreTokens false ((sh spaces names tree).words false)
  written_tokens tokens tree leaves is =
      let fits = rewritten_at is.0 is.0 (omega arith) (part tokens tree) is.1 leaves in
      subst (AreTokens false) (append-nil ((sh spaces names tree).words false)) (fits.lexed false [] ends)

  pub written_expr : (tokens : List Symbol) (tree : Expr) → AreLeaves spaces names tokens → IsExpr tokens tree → IsExpr (symbols_at spaces names (written spaces names tree) (tokens_of (written spaces names tree))) tree
  written_expr tokens tree leaves is =
      subst (λ symbols. IsExpr symbols tree) (sym (spelled-read spaces names ((sh spaces names tree).words false) (written_tokens tokens tree leaves is))) (rewritten_expr tokens tree leaves is)
