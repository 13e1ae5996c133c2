-- What a loop of the writer adds in one round, over plain lists.
use Rattle.std.proofs.Common.{◌≡◌, ◌<◌, ◌+◌, ◌-◌, ◌&&◌, ℕ, zero, suc, Bool, true, false, cond, nat_eq, List, [], ◌∷◌, ◌++◌, length, map, drop, get_or, Some, None, Result, Ok, Err, OnOk, unwrap_or, append_assoc, append-nil, if◌then◌else◌, IsTrue, ◌↔◌, sym, refl, ap, ◌∙◌, arith}
use Rattle.std.specs.List.{slice_get}
use Rattle.std.specs.Option.{option_map}
use Rattle.std.proofs.lemmas.Bool.Decides.{nat_tests}
use Rattle.std.proofs.lemmas.List.{drop_more, length-drop}
use Rattle.serna_kinds.specs.Names.{NameParts, Space}
use Rattle.serna_kinds.specs.declared.expressions.CompareOp.{CompareOp}
use Rattle.xpath_trees.specs.declared.expr.ArithOp.{ArithOp}
use Rattle.xpath_trees.specs.declared.expr.Step.{Step, out-Step}
use Rattle.xpath_tokens.specs.declared.symbol.Operator.{Operator}
use Rattle.xpath_tokens.specs.declared.tokens.Kind.TheVariants as kind
use Rattle.xpath_writer.specs.Writing.{Word, Written, WrittenStep, spelled, mark, operator_kind, operand, flag_behind, further_operands, joined, before_next, compares_rank, ariths_rank, is_empty, steps_words, root_words, absolute_words, is_bare, is_any_node, is_descendant_or_self, declares, declared_prefix, prefix_among, short_or, short_for, full_step, shown, shown_step}
use Rattle.xpath_writer.proofs.Shown.{shown-step, spelled-append}

pub item_at : {X : Type 0} (xs : List X) (i : ℕ) (x : X) → i < length xs → x ≡ get_or xs i x → drop i xs ≡ x ∷ drop (i + 1) xs
item_at xs i x lt is = drop_more xs i x lt ∙ ap (λ y. y ∷ drop (i + 1) xs) (sym is)

drop_none : {X : Type 0} (i : ℕ) → ◌≡◌ {A = List X} (drop i []) []
drop_none zero = refl
drop_none (suc i) = refl

-- Chains

pub map_map : {X Y Z : Type 0} (f : X → Y) (g : Y → Z) (xs : List X) → map g (map f xs) ≡ map (λ x. g (f x)) xs
map_map f g [] = refl
map_map f g (x ∷ xs) = ap (λ l. g (f x) ∷ l) (map_map f g xs)

pub compares_rank-map : {X Y : Type 0} (f : X → Y) (xs : List (CompareOp × X)) → compares_rank (map (λ (x : CompareOp × X). (x.0, f x.1)) xs) ≡ compares_rank xs
compares_rank-map f [] = refl
compares_rank-map f (x ∷ xs) = refl

pub ariths_rank-map : {X Y : Type 0} (f : X → Y) (xs : List (ArithOp × X)) → ariths_rank (map (λ (x : ArithOp × X). (x.0, f x.1)) xs) ≡ ariths_rank xs
ariths_rank-map f [] = refl
ariths_rank-map f (x ∷ xs) = refl

flag_first : {X : Type 0} (op : X → Operator) (w : X → Written) (xs : List X) (before : Bool) → flag_behind (map (λ x. (op x, w x)) xs) before ≡ before_next (option_map op (slice_get xs 0)) before
flag_first op w [] before = refl
flag_first op w (x ∷ xs) before = refl

flag_at : {X : Type 0} (op : X → Operator) (w : X → Written) (xs : List X) (j : ℕ) (before : Bool) → flag_behind (map (λ x. (op x, w x)) (drop j xs)) before ≡ before_next (option_map op (slice_get xs j)) before
flag_at op w [] zero before = refl
flag_at op w [] (suc j) before = refl
flag_at op w (x ∷ xs) zero before = refl
flag_at op w (x ∷ xs) (suc j) before = flag_at op w xs j before

module _ {X : Type 0} (op : X → Operator) (w : X → Written) (least : ℕ) (before : Bool) where
  abbrev pub others_from : List X → List Word
  others_from xs = further_operands least before (map (λ x. (op x, w x)) xs)

  -- one operand more is written
  pub further_next : (xs : List X) (i : ℕ) (x : X) (flag : Bool) → i < length xs → x ≡ get_or xs i x → flag ≡ before_next (option_map op (slice_get xs (i + 1))) before
      → others_from (drop i xs) ≡ (mark (operator_kind (op x)) ∷ operand least flag (w x)) ++ others_from (drop (i + 1) xs)
  further_next xs i x flag lt is flag_is =
      ap others_from (item_at xs i x lt is)
      ∙ ap (λ f. mark (operator_kind (op x)) ∷ (operand least f (w x) ++ others_from (drop (i + 1) xs))) (flag_at op w xs (i + 1) before ∙ sym flag_is)

  -- a chain is its first operand and the others
  pub chain_written : (args now after : List ℕ) (first : Written) (xs : List X) (flag : Bool) → now ≡ args ++ spelled (operand least flag first) → flag ≡ before_next (option_map op (slice_get xs 0)) before
      → after ≡ now ++ spelled (others_from xs) → after ≡ args ++ spelled (joined least before first (map (λ x. (op x, w x)) xs))
  chain_written args now after first xs flag e flag_is rest =
      rest
      ∙ ap (λ l. l ++ spelled (others_from xs)) e
      ∙ append_assoc args (spelled (operand least flag first)) (spelled (others_from xs))
      ∙ ap (λ l. args ++ l) (sym (spelled-append (operand least flag first) (others_from xs)))
      ∙ ap (λ f. args ++ spelled (operand least f first ++ others_from xs)) (flag_is ∙ sym (flag_first op w xs before))

  -- the same where writing may fail
  pub chain_ends : {E : Type 0} (r : Result (Unit {0}) E) (args now after : List ℕ) (first : Written) (xs : List X) (flag : Bool) → now ≡ args ++ spelled (operand least flag first)
      → flag ≡ before_next (option_map op (slice_get xs 0)) before → OnOk r (after ≡ now ++ spelled (others_from xs)) → OnOk r (after ≡ args ++ spelled (joined least before first (map (λ x. (op x, w x)) xs)))
  chain_ends (Ok u) args now after first xs flag e flag_is rest = chain_written args now after first xs flag e flag_is rest
  chain_ends (Err e) args now after first xs flag was flag_is rest = tt

-- Steps

pub is_empty-map : {X Y : Type 0} (f : X → Y) (xs : List X) → is_empty (map f xs) ≡ is_empty xs
is_empty-map f [] = refl
is_empty-map f (x ∷ xs) = refl

some_items : (n : ℕ) → false ≡ nat_eq (suc n) 0
some_items n = grind (arith, nat_tests)

empty_by_length : {X : Type 0} (xs : List X) → is_empty xs ≡ nat_eq (length xs) 0
empty_by_length [] = refl
empty_by_length (x ∷ xs) = some_items (length xs)

nothing_left : (n i : ℕ) → i < n → nat_eq (n - (i + 1)) 0 ≡ nat_eq (i + 1) n
nothing_left n i lt = grind (arith, nat_tests)

pub last_at : {X Y : Type 0} (f : X → Y) (xs : List X) (i : ℕ) → i < length xs → is_empty (map f (drop (i + 1) xs)) ≡ nat_eq (i + 1) (length xs)
last_at f xs i lt =
    is_empty-map f (drop (i + 1) xs) ∙ empty_by_length (drop (i + 1) xs) ∙ ap (λ n. nat_eq n 0) (length-drop (i + 1) xs) ∙ nothing_left (length xs) i lt

pub empty_by_test : {X : Type 0} (xs : List X) (b : Bool) → IsTrue b ↔ (xs ≡ []) → is_empty xs ≡ b
empty_by_test [] b test = sym (test.1 refl)
empty_by_test (x ∷ xs) true test = cc (test.0 refl)
empty_by_test (x ∷ xs) false test = refl

-- `/` alone is written before the steps that it stands for
pub root_then : (before alone : Bool) (steps : List WrittenStep) → is_empty steps ≡ alone → absolute_words before steps ≡ (if alone then root_words before else []) ++ steps_words (Some kind.Slash) steps
root_then before true [] last = sym (append-nil (root_words before))
root_then before false [] last = cc last
root_then before true (s ∷ ss) last = cc last
root_then before false (s ∷ ss) last = refl

module _ (spaces : List Space) (names : List NameParts) where
  pub wide-is : (s : Step) → (shown_step spaces names s).is_wide ≡ (is_descendant_or_self (out-Step s).axis && is_bare (out-Step s).test (out-Step s).predicates)
  wide-is s =
      ap (λ (w : WrittenStep). w.is_wide) (shown-step spaces names s)
      ∙ ap (λ v. is_descendant_or_self (out-Step s).axis && (is_any_node (out-Step s).test && v)) (is_empty-map (shown spaces names) (out-Step s).predicates)

  abbrev pub full_words : Step → List Word
  full_words s = full_step spaces names (out-Step s).axis (out-Step s).test (map (shown spaces names) (out-Step s).predicates)

  pub step_words-is : (s : Step) → (shown_step spaces names s).words ≡ short_or (full_words s) (short_for (out-Step s).axis (is_bare (out-Step s).test (out-Step s).predicates))
  step_words-is s =
      ap (λ (w : WrittenStep). w.words) (shown-step spaces names s)
      ∙ ap (λ v. short_or (full_words s) (short_for (out-Step s).axis (is_any_node (out-Step s).test && v))) (is_empty-map (shown spaces names) (out-Step s).predicates)

-- Prefixes

among_next : (spaces : List Space) (uri : List ℕ) (xs : List Space) (i : ℕ) → prefix_among spaces uri (drop i xs) ≡ unwrap_or (declared_prefix spaces uri (slice_get xs i)) (prefix_among spaces uri (drop (suc i) xs))
among_next spaces uri [] zero = refl
among_next spaces uri [] (suc i) = refl
among_next spaces uri (x ∷ xs) zero = go (declares spaces uri x)
  where
    go : (v : Bool) → cond v x.prefix (prefix_among spaces uri xs) ≡ unwrap_or (cond v (Some x.prefix) None) (prefix_among spaces uri xs)
    go true = refl
    go false = refl
among_next spaces uri (x ∷ xs) (suc i) = among_next spaces uri xs i

pub prefix_found : (spaces : List Space) (uri : List ℕ) (xs : List Space) (i : ℕ) (p : List ℕ) → Some p ≡ declared_prefix spaces uri (slice_get xs i) → p ≡ prefix_among spaces uri (drop i xs)
prefix_found spaces uri xs i p e = sym (among_next spaces uri xs i ∙ ap (λ o. unwrap_or o (prefix_among spaces uri (drop (suc i) xs))) (sym e))

pub prefix_past : (spaces : List Space) (uri : List ℕ) (xs : List Space) (i : ℕ) → None ≡ declared_prefix spaces uri (slice_get xs i) → prefix_among spaces uri (drop (i + 1) xs) ≡ prefix_among spaces uri (drop i xs)
prefix_past spaces uri xs i e =
    let more : i + 1 ≡ suc i = omega arith in
    ap (λ k. prefix_among spaces uri (drop k xs)) more ∙ sym (among_next spaces uri xs i ∙ ap (λ o. unwrap_or o (prefix_among spaces uri (drop (suc i) xs))) (sym e))
