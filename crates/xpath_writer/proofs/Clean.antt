-- What is written for the tree of an expression without fault has no fault: prefixes are bound, numbers have no point, and each
-- call has as many arguments as were read.
use Rattle.std.proofs.Common.{◌≡◌, ◌+◌, ◌&&◌, ℕ, zero, suc, not, Bool, true, false, cond, nat_lt, List, [], ◌∷◌, ◌++◌, map, length, Option, Some, None, is_some, inl, inr, ◌⊎◌, sym, refl, ap, ◌∙◌, subst, append_assoc, codes, encode_utf8_all}
use Rattle.std.specs.List.{AllByRecursion}
use Rattle.std.specs.Map.{lookup}
use Rattle.std.specs.Str.{bytes_eq}
use Rattle.serna_kinds.specs.Names.{NameParts, Space, uri_of}
use Rattle.serna_kinds.specs.declared.cells.NameId.{NameId}
use Rattle.serna_kinds.specs.declared.expressions.Axis.{Axis}
use Rattle.serna_kinds.specs.declared.expressions.Axis.TheVariants as axis
use Rattle.serna_kinds.specs.declared.expressions.CompareOp.TheVariants as compare
use Rattle.serna_kinds.specs.declared.expressions.NodeTest.{NodeTest}
use Rattle.serna_kinds.specs.declared.expressions.NodeTest.TheVariants as test
use Rattle.serna_kinds.specs.declared.expressions.TextFunction.TheVariants as on_text
use Rattle.xpath_trees.specs.declared.expr.ArithOp.TheVariants as arith_op
use Rattle.xpath_trees.specs.declared.expr.Expr.{Expr}
use Rattle.xpath_trees.specs.declared.expr.Expr.TheVariants as expr
use Rattle.xpath_trees.specs.declared.expr.PathStart.{PathStart}
use Rattle.xpath_trees.specs.declared.expr.PathStart.TheVariants as start
use Rattle.xpath_trees.specs.declared.expr.Function.{Function}
use Rattle.xpath_trees.specs.declared.expr.Function.TheVariants as function
use Rattle.xpath_trees.specs.declared.expr.Step.{Step}
use Rattle.xpath_tokens.specs.declared.faults.ExprRule.TheVariants as rule
use Rattle.xpath_trees.specs.declared.expr.Signs.{Signs}
use Rattle.xpath_trees.specs.declared.expr.Signs.TheVariants as sign
use Rattle.xpath_tokens.specs.declared.symbol.Operator.{Operator}
use Rattle.xpath_tokens.specs.declared.symbol.Operator.TheVariants as operator
use Rattle.xpath_tokens.specs.declared.symbol.Symbol.{Symbol}
use Rattle.xpath_tokens.specs.declared.symbol.Symbol.TheVariants as symbol
use Rattle.xpath_grammar.specs.declared.operand.Level.{Level}
use Rattle.xpath_tokens.specs.declared.tokens.Kind.{Kind}
use Rattle.xpath_tokens.specs.declared.tokens.Kind.TheVariants as kind
use Rattle.xpath_grammar.specs.Trees.{rank, step_of, chain_tree, signs_past, signed, filtered}
use Rattle.xpath_grammar.specs.Grammar.{Part, IsTest, trees, IsExpr}
use Rattle.serna_kinds.specs.Qualified.{prefix_of, uri_for, attribute_uri, xml_prefix, xml_uri}
use Rattle.xpath_tokens.specs.Symbols.{node_types, function_named}
use Rattle.xpath_tokens.specs.declared.faults.ReadAs.TheVariants as how
use Rattle.xpath_tokens.specs.Faults.{wrong_arity, prefix_fault, fault_at}
use Rattle.xpath_tokens.specs.Spelling.{IsLocalName}
use Rattle.xpath_writer.specs.Writable.{HasPrefix, IsWritableName, IsNodeType, IsWritableTest, IsWritableAtom, IsWritable}
use Rattle.xpath_writer.specs.Writing.{Word, Written, WrittenStep, operand, joined, grouped, mark, mark_text, is_named, operator_kind, sign_words, is_slash, is_empty, is_bare, short_or, short_for, axis_words, test_words, full_step, predicate_words, further_arguments, argument_words, slash_words, steps_words, root_words, function_text, name_text, prefix_among, shown_start, declares, prefix_for}
use Rattle.xpath_syntax.proofs.Arity.{AreGiven}
use Rattle.xpath_syntax.proofs.Balance.{Solid, given_of, given_are, solid_expr}
use Rattle.xpath_syntax.proofs.Levels.{AreAt}
use Rattle.xpath_syntax.proofs.Walks.{operand_of, IsArgument, Keeps, kept}
use Rattle.xpath_writer.proofs.Leaves.{prefix_from, parted_prefixed, reads, spelling, name_text-is, all_leaves}
use Rattle.xpath_writer.proofs.Readable.{same_bytes}
use Rattle.xpath_writer.proofs.Rewritten.{sh, syms, syms-append, written_others, chain-shown}
use Rattle.xpath_writer.proofs.RewrittenPaths.{shs, inner_parts, all_arguments-read, short_is, short_bare, rewritten_expr}
use Rattle.xpath_writer.proofs.Shown.{shown-step_of, shown-Path, shown-Filter, shown-Call, shown-Negate, shown-Text, shown-Number, shown-Variable, shown-Context, shown-Root, shown-From}

-- What is written

-- a word without fault, with so many arguments behind it where it is a function's name
abbrev pub IsFaultless : List Space → Kind → List ℕ → Option ℕ → Type 0
IsFaultless spaces kind.Callee w n = (is_some (lookup (bytes_eq w) node_types) ≡ true) ⊎ ((f : Function) × (function_named w ≡ Some f) × (wrong_arity f n ≡ None))
IsFaultless spaces k w n = fault_at how.Expression spaces k w [] ≡ None

named_back : (f : Function) → function_named (function_text f) ≡ Some f
named_back function.Last = refl
named_back function.Position = refl
named_back function.Count = refl
named_back function.LocalName = refl
named_back function.NamespaceUri = refl
named_back function.Name = refl
named_back function.Text = refl
named_back (function.On on_text.Concat) = refl
named_back (function.On on_text.StartsWith) = refl
named_back (function.On on_text.Contains) = refl
named_back (function.On on_text.SubstringBefore) = refl
named_back (function.On on_text.SubstringAfter) = refl
named_back (function.On on_text.Substring) = refl
named_back (function.On on_text.StringLength) = refl
named_back (function.On on_text.NormalizeSpace) = refl
named_back (function.On on_text.Translate) = refl
named_back function.Boolean = refl
named_back function.Not = refl
named_back function.True = refl
named_back function.False = refl
named_back function.Number = refl
named_back function.Sum = refl
named_back function.Floor = refl
named_back function.Ceiling = refl
named_back function.Round = refl
named_back function.Current = refl
named_back function.GenerateId = refl

-- Prefixes

-- a prefix that stands for a URI is bound
bound_prefix : (spaces : List Space) (p : List ℕ) → is_some (uri_for spaces p) ≡ true → is_some (attribute_uri spaces p) ≡ true
bound_prefix spaces [] e = refl
bound_prefix spaces (c ∷ cs) e = e

bound_none : (spaces : List Space) (s p : List ℕ) → prefix_of s ≡ p → is_some (attribute_uri spaces p) ≡ true → prefix_fault spaces s ≡ None
bound_none spaces s p is e = ap (λ v. cond v None (Some rule.UnboundPrefix)) (ap (λ q. is_some (attribute_uri spaces q)) is ∙ e)

has_prefix : (spaces : List Space) (parts : NameParts) → HasPrefix spaces parts → is_some (attribute_uri spaces parts.prefix) ≡ true
has_prefix spaces parts (inl is) = ap (λ p. is_some (attribute_uri spaces p)) is.0
has_prefix spaces parts (inr is) = bound_prefix spaces parts.prefix (ap (λ (o : Option (List ℕ)). is_some o) is.1)

name_bound : (spaces : List Space) (names : List NameParts) (id : NameId) → IsWritableName spaces names id → prefix_fault spaces (name_text names id) ≡ None
name_bound spaces names id is =
    let r = reads spaces is.parts is.local_is is.prefix_is in
    subst (λ s. prefix_fault spaces s ≡ None) (sym (name_text-is spaces names id is))
    (bound_none spaces (spelling is.parts) is.parts.prefix (ap (λ (x : NameParts). x.prefix) r.is_name) (has_prefix spaces is.parts is.prefix_is))

-- where a prefix is declared, it stands for a URI
declared_bound : (spaces : List Space) (p : List ℕ) → is_some (uri_of spaces p) ≡ true → is_some (uri_for spaces p) ≡ true
declared_bound spaces p e = go (bytes_eq p xml_prefix)
  where
    go : (v : Bool) → is_some (cond v (Some xml_uri) (uri_of spaces p)) ≡ true
    go true = refl
    go false = e

-- the first prefix that stands for a URI is declared
among_declared : (spaces : List Space) (uri : List ℕ) (xs : List Space) → (prefix_among spaces uri xs ≡ []) ⊎ (is_some (uri_of xs (prefix_among spaces uri xs)) ≡ true)
among_declared spaces uri [] = inl refl
among_declared spaces uri (x ∷ xs) = go (declares spaces uri x) (among_declared spaces uri xs)
  where
    one_more : (p : List ℕ) (v : Bool) → is_some (uri_of xs p) ≡ true → is_some (cond v (Some x.uri) (uri_of xs p)) ≡ true
    one_more p true e = refl
    one_more p false e = e

    go : (v : Bool) → (prefix_among spaces uri xs ≡ []) ⊎ (is_some (uri_of xs (prefix_among spaces uri xs)) ≡ true)
        → (cond v x.prefix (prefix_among spaces uri xs) ≡ []) ⊎ (is_some (uri_of (x ∷ xs) (cond v x.prefix (prefix_among spaces uri xs))) ≡ true)
    go true rest = inr (ap (λ w. is_some (cond w (Some x.uri) (uri_of xs x.prefix))) (same_bytes x.prefix))
    go false (inl e) = inl e
    go false (inr e) = inr (one_more (prefix_among spaces uri xs) (bytes_eq x.prefix (prefix_among spaces uri xs)) e)

among_bound : (spaces : List Space) (uri : List ℕ) → is_some (attribute_uri spaces (prefix_among spaces uri spaces)) ≡ true
among_bound spaces uri = elim (among_declared spaces uri spaces) [
  | inl e ↦ ap (λ p. is_some (attribute_uri spaces p)) e
  | inr e ↦ bound_prefix spaces (prefix_among spaces uri spaces) (declared_bound spaces (prefix_among spaces uri spaces) e)
]

for_bound : (spaces : List Space) (uri : List ℕ) → is_some (attribute_uri spaces (prefix_for spaces uri)) ≡ true
for_bound spaces uri = go (bytes_eq uri xml_uri)
  where
    go : (v : Bool) → is_some (attribute_uri spaces (cond v xml_prefix (prefix_among spaces uri spaces))) ≡ true
    go true = refl
    go false = among_bound spaces uri

within_bound : (spaces : List Space) (uri : List ℕ) → IsLocalName (prefix_for spaces uri) → prefix_fault spaces (prefix_for spaces uri ++ codes ":*") ≡ None
within_bound spaces uri is =
    let p = prefix_for spaces uri in
    bound_none spaces (p ++ codes ":*") p (ap prefix_from (parted_prefixed p (42 ∷ []) is)) (for_bound spaces uri)

module _ (spaces : List Space) (names : List NameParts) where
  abbrev pub AreFaultless : List Word → Type 0
  AreFaultless [] = Unit {0}
  AreFaultless (w ∷ ws) = IsFaultless spaces w.0 w.1 (given_of (syms spaces names ws)) × AreFaultless ws

  -- words that add no fault
  abbrev pub Adds : List Word → Type 0
  Adds words = (ws : List Word) → AreFaultless ws → AreFaultless (words ++ ws)

  abbrev pub Clean : Expr → Type 0
  Clean e = (before : Bool) → Adds ((sh spaces names e).words before)

  abbrev CleanStep : Step → Type 0
  CleanStep s = Adds (shs spaces names s).words

  abbrev AreClean : List Part → Type 0
  AreClean = AllByRecursion (λ q. Clean q.tree)

  adds_none : Adds []
  adds_none ws all = all

  adds_seq : (a b : List Word) → Adds a → Adds b → Adds (a ++ b)
  adds_seq a b one two ws all = subst AreFaultless (sym (append_assoc a b ws)) (one (b ++ ws) (two ws all))

  adds_grouped : (words : List Word) → Adds words → Adds (grouped words)
  adds_grouped words is ws all = (refl, adds_seq words (mark kind.Close ∷ []) is (λ ws all. (refl, all)) ws all)

  adds_operand : (least : ℕ) (before : Bool) (e : Expr) → Clean e → Adds (operand least before (sh spaces names e))
  adds_operand least before e is = go (nat_lt (sh spaces names e).rank least)
    where
      go : (v : Bool) → Adds (cond v (grouped ((sh spaces names e).words false)) ((sh spaces names e).words before))
      go true = adds_grouped ((sh spaces names e).words false) (is false)
      go false = is before

  -- Chains

  operator_faultless : (op : Operator) (n : Option ℕ) → IsFaultless spaces (operator_kind op) (mark_text (operator_kind op)) n
  operator_faultless operator.Or n = refl
  operator_faultless operator.And n = refl
  operator_faultless (operator.Compare compare.Equal) n = refl
  operator_faultless (operator.Compare compare.NotEqual) n = refl
  operator_faultless (operator.Compare compare.Less) n = refl
  operator_faultless (operator.Compare compare.LessOrEqual) n = refl
  operator_faultless (operator.Compare compare.Greater) n = refl
  operator_faultless (operator.Compare compare.GreaterOrEqual) n = refl
  operator_faultless (operator.Arith arith_op.Add) n = refl
  operator_faultless (operator.Arith arith_op.Subtract) n = refl
  operator_faultless (operator.Arith arith_op.Multiply) n = refl
  operator_faultless (operator.Arith arith_op.Remainder) n = refl
  operator_faultless operator.Union n = refl

  adds_joined : (least : ℕ) (before : Bool) (e : Expr) (xs : List (Operator × Part)) → Clean e → AllByRecursion (λ x. Clean x.1.tree) xs → Adds (joined least before (sh spaces names e) (written_others spaces names xs))
  adds_joined least before e [] is all = adds_seq (operand least before (sh spaces names e)) [] (adds_operand least before e is) adds_none
  adds_joined least before e (x ∷ xs) is all =
      let flag = is_named (operator_kind x.0) in
      let rest = joined least before (sh spaces names x.1.tree) (written_others spaces names xs) in
      adds_seq (operand least flag (sh spaces names e)) (mark (operator_kind x.0) ∷ rest) (adds_operand least flag e is)
      (λ ws free. (operator_faultless x.0 (given_of (syms spaces names (rest ++ ws))), adds_joined least before x.1.tree xs all.0 all.1 ws free))

  chain_clean : (l : Level) (first : Expr) (x : Operator × Part) (xs : List (Operator × Part)) → Clean first → AreAt l (x ∷ xs) → AllByRecursion (λ o. Clean o.1.tree) (x ∷ xs)
      → Clean (chain_tree l first (map operand_of (x ∷ xs)))
  chain_clean l first x xs is at all before =
      subst (λ (w : Written). Adds (w.words before)) (sym (chain-shown spaces names l first x xs at)) (adds_joined (rank l + 1) before first (x ∷ xs) is all)

  -- Signs

  sign_adds : (minus : Signs) → Adds (sign_words minus)
  sign_adds sign.Twice ws all = (refl, (refl, all))
  sign_adds sign.Once ws all = (refl, all)

  signed_clean : (n : ℕ) (e : Expr) → Clean e → Clean (signed n e)
  signed_clean zero e is before = is before
  signed_clean (suc n) e is before =
      subst (λ (w : Written). Adds (w.words before)) (sym (shown-Negate spaces names (signs_past n) e))
      (adds_seq (sign_words (signs_past n)) (operand 8 before (sh spaces names e)) (sign_adds (signs_past n)) (adds_operand 8 before e is))

  -- What stands in brackets

  adds_predicates : (ps : List Part) → AreClean ps → Adds (predicate_words (map (sh spaces names) (trees ps)))
  adds_predicates [] all ws free = free
  adds_predicates (p ∷ ps) all ws free =
      let words = (sh spaces names p.tree).words false in
      let rest = predicate_words (map (sh spaces names) (trees ps)) in
      (refl, adds_seq words (mark kind.CloseBracket ∷ rest) (all.0 false) (λ vs more. (refl, adds_predicates ps all.1 vs more)) ws free)

  adds_further : (ps : List Part) → AreClean ps → Adds (further_arguments (map (sh spaces names) (trees ps)))
  adds_further [] all ws free = free
  adds_further (p ∷ ps) all ws free =
      let words = (sh spaces names p.tree).words false in
      let rest = further_arguments (map (sh spaces names) (trees ps)) in
      (refl, adds_seq words rest (all.0 false) (adds_further ps all.1) ws free)

  adds_arguments : (ps : List Part) → AreClean ps → Adds (argument_words (map (sh spaces names) (trees ps)))
  adds_arguments [] all = adds_none
  adds_arguments (p ∷ ps) all =
      adds_seq ((sh spaces names p.tree).words false) (further_arguments (map (sh spaces names) (trees ps))) (all.0 false) (adds_further ps all.1)

  -- Steps

  axis_adds : (on : Axis) → Adds (axis_words on)
  axis_adds axis.Child ws all = all
  axis_adds axis.Attribute ws all = (refl, all)
  axis_adds on ws all = (refl, (refl, all))

  test_adds : (t : NodeTest) → IsWritableTest spaces names t → Adds (test_words spaces names t)
  test_adds test.AnyName is ws all = (refl, all)
  test_adds (test.Within uri) is ws all = (within_bound spaces (encode_utf8_all uri) is.0, all)
  test_adds (test.Named id) is ws all = (name_bound spaces names id is, all)
  test_adds t is ws all = absurd is

  type_adds : (t : NodeTest) → IsNodeType t → Adds (test_words spaces names t)
  type_adds test.AnyNode is ws all = (inl refl, (refl, (refl, all)))
  type_adds test.AnyText is ws all = (inl refl, (refl, (refl, all)))
  type_adds test.AnyComment is ws all = (inl refl, (refl, (refl, all)))
  type_adds t is ws all = absurd is

  tested : (ts : List Symbol) (t : NodeTest) → IsTest ts t → AllByRecursion (IsWritable spaces names) ts → Adds (test_words spaces names t)
  tested ts t (inl e) writable = test_adds t (subst (AllByRecursion (IsWritable spaces names)) e writable).0
  tested ts t (inr e) writable = type_adds t (subst (AllByRecursion (IsWritable spaces names)) e writable).0

  step_adds : (on : Axis) (t : NodeTest) (ps : List Part) → Adds (test_words spaces names t) → AreClean ps → CleanStep (step_of on t (trees ps))
  step_adds on t ps tests all = subst (λ (w : WrittenStep). Adds w.words) (sym (shown-step_of spaces names on t (trees ps))) (go (short_for on (is_bare t es)) refl)
    where
      es : List Written
      es = map (sh spaces names) (trees ps)

      go : (o : Option Kind) → short_for on (is_bare t es) ≡ o → Adds (short_or (full_step spaces names on t es) o)
      go None e ws free = adds_seq (axis_words on) (test_words spaces names t ++ predicate_words es) (axis_adds on) (adds_seq (test_words spaces names t) (predicate_words es) tests (adds_predicates ps all)) ws free
      go (Some k) e ws free =
          let bare = short_bare on (is_bare t es) k e in
          elim (short_is on k bare.1) [
            | inl h ↦ subst (λ x. AreFaultless (mark x ∷ ws)) (sym h.0) (refl, free)
            | inr h ↦ subst (λ x. AreFaultless (mark x ∷ ws)) (sym h.0) (refl, free)
          ]

  any_node_adds : Adds (test_words spaces names test.AnyNode)
  any_node_adds = type_adds test.AnyNode tt

  slash_of : Bool → Kind
  slash_of true = kind.DoubleSlash
  slash_of false = kind.Slash

  steps_adds : (ss : List Step) → AllByRecursion CleanStep ss → (behind : Option Kind) → Adds (slash_words behind) → Adds (steps_words behind (map (shs spaces names) ss))
  steps_adds [] all behind first = adds_none
  steps_adds (s ∷ ss) all behind first = go (is_slash behind && (shs spaces names s).is_wide && not (is_empty (map (shs spaces names) ss))) (steps_adds ss all.1)
    where
      go : (v : Bool) → ((o : Option Kind) → Adds (slash_words o) → Adds (steps_words o (map (shs spaces names) ss)))
          → Adds (cond v (steps_words (Some kind.DoubleSlash) (map (shs spaces names) ss)) (slash_words behind ++ ((shs spaces names s).words ++ steps_words (Some kind.Slash) (map (shs spaces names) ss))))
      go true rest = rest (Some kind.DoubleSlash) (λ ws free. (refl, free))
      go false rest =
          adds_seq (slash_words behind) ((shs spaces names s).words ++ steps_words (Some kind.Slash) (map (shs spaces names) ss)) first
          (adds_seq (shs spaces names s).words (steps_words (Some kind.Slash) (map (shs spaces names) ss)) all.0 (rest (Some kind.Slash) (λ ws free. (refl, free))))

  slash_adds : Adds (slash_words (Some kind.Slash))
  slash_adds ws free = (refl, free)

  -- Paths

  path_clean : (from : PathStart) (words : Bool → List WrittenStep → List Word) (steps : List Step) → shown_start spaces names from ≡ words → ((before : Bool) → Adds (words before (map (shs spaces names) steps))) → Clean (expr.Path from steps)
  path_clean from words steps e is before =
      subst (λ (w : Written). Adds (w.words before)) (sym (shown-Path spaces names from steps)) (subst (λ (f : Bool → List WrittenStep → List Word). Adds (f before (map (shs spaces names) steps))) (sym e) (is before))

  root_adds : (before : Bool) → Adds (root_words before)
  root_adds true ws free = (refl, (refl, (refl, free)))
  root_adds false ws free = (refl, free)

  -- Leaves

  atom_clean : (e : Expr) → IsWritableAtom spaces names e → Clean e
  atom_clean e (inl is) before =
      subst (λ (w : Written). Adds (w.words before)) (sym (ap (sh spaces names) is.1 ∙ shown-Variable spaces names is.0)) (λ ws free. (name_bound spaces names is.0 is.2, free))
  atom_clean e (inr (inl is)) before = subst (λ (w : Written). Adds (w.words before)) (sym (ap (sh spaces names) is.1 ∙ shown-Text spaces names is.0)) (λ ws free. (refl, free))
  atom_clean e (inr (inr is)) before = subst (λ (w : Written). Adds (w.words before)) (sym (ap (sh spaces names) is.1 ∙ shown-Number spaces names is.0)) (λ ws free. (refl, free))

  inner_parts-length : (ps : List Part) → length (inner_parts spaces names ps) ≡ length ps
  inner_parts-length [] = refl
  inner_parts-length (p ∷ ps) = ap (λ n. suc n) (inner_parts-length ps)

  -- the arguments that are written have their brackets in pairs, as those that were read
  inner_solid : (ps : List Part) → AllByRecursion (IsArgument (IsWritable spaces names) Clean) ps → AllByRecursion (λ q. Solid q.tokens) (inner_parts spaces names ps)
  inner_solid [] all = tt
  inner_solid (p ∷ ps) all =
      (solid_expr (syms spaces names ((sh spaces names p.tree).words false)) p.tree (rewritten_expr spaces names p.tokens p.tree (all_leaves spaces names p.tokens all.0.1) all.0.0), inner_solid ps all.1)

  all_clean : (ps : List Part) → AllByRecursion (IsArgument (IsWritable spaces names) Clean) ps → AreClean ps
  all_clean [] all = tt
  all_clean (p ∷ ps) all = (all.0.2, all_clean ps all.1)

  call_clean : (f : Function) (ps : List Part) → AreClean ps → AllByRecursion (λ q. Solid q.tokens) (inner_parts spaces names ps) → wrong_arity f (Some (length ps)) ≡ None → Clean (expr.Call f (trees ps))
  call_clean f ps clean solid takes before =
      subst (λ (w : Written). Adds (w.words before)) (sym (shown-Call spaces names f (trees ps)))
      (λ ws free. (inr (f, named_back f, ap (wrong_arity f) (count ws) ∙ takes), (refl, adds_seq words (mark kind.Close ∷ []) (adds_arguments ps clean) (λ vs more. (refl, more)) ws free)))
    where
      words : List Word
      words = argument_words (map (sh spaces names) (trees ps))

      count : (ws : List Word) → given_of (symbol.Open ∷ syms spaces names ((words ++ mark kind.Close ∷ []) ++ ws)) ≡ Some (length ps)
      count ws =
          ap (λ l. given_of (symbol.Open ∷ syms spaces names l)) (append_assoc words (mark kind.Close ∷ []) ws)
          ∙ ap (λ l. given_of (symbol.Open ∷ l)) (syms-append spaces names words (mark kind.Close ∷ ws) ∙ ap (λ l. l ++ symbol.Close ∷ syms spaces names ws) (all_arguments-read spaces names ps))
          ∙ given_are (inner_parts spaces names ps) (syms spaces names ws) solid
          ∙ ap (λ n. Some n) (inner_parts-length ps)

  -- Paths by their starts

  filter_clean : (e : Expr) (p : Part) (ps : List Part) → Clean e → AreClean (p ∷ ps) → Clean (filtered e (trees (p ∷ ps)))
  filter_clean e p ps is all before =
      subst (λ (w : Written). Adds (w.words before)) (sym (shown-Filter spaces names e (trees (p ∷ ps))))
      (adds_seq (operand 11 false (sh spaces names e)) (predicate_words (map (sh spaces names) (trees (p ∷ ps)))) (adds_operand 11 false e is) (adds_predicates (p ∷ ps) all))

  absolute_clean : (ss : List Step) → AllByRecursion CleanStep ss → Clean (expr.Path start.Root ss)
  absolute_clean [] all = path_clean start.Root _ [] (shown-Root spaces names) root_adds
  absolute_clean (s ∷ ss) all = path_clean start.Root _ (s ∷ ss) (shown-Root spaces names) (λ before. steps_adds (s ∷ ss) all (Some kind.Slash) slash_adds)

  behind_clean : (e : Expr) (ss : List Step) → Clean e → AllByRecursion CleanStep ss → Clean (expr.Path (start.From e) ss)
  behind_clean e ss is all =
      path_clean (start.From e) _ ss (shown-From spaces names e) (λ before.
      adds_seq (operand 10 false (sh spaces names e)) (steps_words (Some kind.Slash) (map (shs spaces names) ss)) (adds_operand 10 false e is) (steps_adds ss all (Some kind.Slash) slash_adds))

  -- each production gives a tree that is written without fault
  clean : Keeps (IsWritable spaces names) Clean CleanStep
  clean = record {
    atoms = atom_clean;
    chains = chain_clean;
    minus = signed_clean;
    full = λ on tokens t ps is leaves all. step_adds on t ps (tested tokens t is leaves) all;
    short = λ on. step_adds on test.AnyNode [] any_node_adds tt;
    calls = λ f ps all takes. call_clean f ps (all_clean ps all) (inner_solid ps all) takes;
    filters = filter_clean;
    relative = λ s ss all. path_clean start.Context _ (s ∷ ss) (shown-Context spaces names) (λ before. steps_adds (s ∷ ss) all None (λ ws free. free));
    absolute = absolute_clean;
    behind = λ e ss some is all. behind_clean e ss is all;
  }

  pub clean_expr : (tokens : List Symbol) (tree : Expr) → IsExpr tokens tree → AllByRecursion (IsWritable spaces names) tokens → (rest : List Symbol) → AreGiven (tokens ++ rest) → Clean tree
  clean_expr = kept (IsWritable spaces names) Clean CleanStep clean
