-- The text that is written for the tree of a text without fault has no fault.
use Rattle.std.proofs.Common.{◌≡◌, ◌+◌, ◌-◌, ℕ, suc, Bool, true, false, cond, List, [], ◌∷◌, ◌++◌, length, length-append, take, drop, Option, None, is_some, inl, inr, sym, refl, ap, ◌∙◌, subst, append_assoc, append-nil, arith}
use Rattle.std.specs.List.{AllByRecursion}
use Rattle.std.specs.Map.{lookup}
use Rattle.std.specs.Str.{bytes_eq, IsUtf8}
use Rattle.std.proofs.Math.Seq.{drop-append_seam, take-append_seam}
use Rattle.serna_kinds.specs.Names.{NameParts, Space}
use Rattle.xpath_trees.specs.declared.expr.Expr.{Expr}
use Rattle.xpath_tokens.specs.declared.tokens.Kind.{Kind}
use Rattle.xpath_tokens.specs.declared.tokens.Kind.TheVariants as kind
use Rattle.xpath_tokens.specs.declared.tokens.Token.{Token}
use Rattle.xpath_grammar.specs.Grammar.{IsExpr}
use Rattle.xpath_tokens.specs.Tokens.{token_at, tokens_of}
use Rattle.xpath_tokens.specs.Symbols.{written_at, node_types, function_named, symbols_at}
use Rattle.xpath_tokens.specs.declared.faults.ReadAs.TheVariants as how
use Rattle.xpath_tokens.specs.Faults.{arguments_of, wrong_arity, function_fault, fault_at, or_later, fault_among}
use Rattle.xpath_tokens.specs.Named.{HasNames}
use Rattle.xpath_writer.specs.Writing.{Word, spelled, written}
use Rattle.xpath_syntax.proofs.Arity.{AreGiven, arguments_same, all_given}
use Rattle.xpath_syntax.proofs.Balance.{given_of}
use Rattle.xpath_writer.proofs.Clean.{IsFaultless, AreFaultless, clean_expr}
use Rattle.xpath_writer.proofs.Leaves.{all_leaves}
use Rattle.xpath_writer.proofs.Readings.{text_writable}
use Rattle.xpath_writer.proofs.Rewritten.{sh, syms}
use Rattle.xpath_writer.proofs.RewrittenPaths.{written_tokens}
use Rattle.xpath_writer.proofs.SpelledWords.{placed, all_words, placed-read}

no_fault : (spaces : List Space) (k : Kind) (w : List ℕ) (behind : List Token) (n : Option ℕ) → arguments_of behind ≡ n → IsFaultless spaces k w n → fault_at how.Expression spaces k w behind ≡ None
no_fault spaces kind.Callee w behind n e (inl is) = ap (λ v. cond v None (function_fault (function_named w) behind)) is
no_fault spaces kind.Callee w behind n e (inr is) = go (is_some (lookup (bytes_eq w) node_types))
  where
    go : (v : Bool) → cond v None (function_fault (function_named w) behind) ≡ None
    go true = refl
    go false = ap (λ o. function_fault o behind) is.1 ∙ ap (wrong_arity is.0) e ∙ is.2
no_fault spaces k w behind n e free = free

module _ (spaces : List Space) (names : List NameParts) where
  placed_faultless : (before : List ℕ) (words : List Word) → AreFaultless spaces names words → fault_among how.Expression spaces (before ++ spelled words) (placed (length before) words) ≡ None
  placed_faultless before [] free = refl
  placed_faultless before (w ∷ ws) free =
      let text = before ++ ((w.1 ++ 32 ∷ []) ++ spelled ws) in
      let later = before ++ (w.1 ++ 32 ∷ []) in
      let t = token_at (length before) (w.0, length w.1) in
      let behind = placed (length before + suc (length w.1)) ws in
      let size : (length before + length w.1) - length before ≡ length w.1 = omega arith in
      let this : written_at text t ≡ w.1 =
      ap (λ n. take n (drop (length before) text)) size
      ∙ ap (take (length w.1)) (drop-append_seam before ((w.1 ++ 32 ∷ []) ++ spelled ws) ∙ append_assoc w.1 (32 ∷ []) (spelled ws))
      ∙ take-append_seam w.1 (32 ∷ spelled ws) in
      let whole : text ≡ later ++ spelled ws = sym (append_assoc before (w.1 ++ 32 ∷ []) (spelled ws)) in
      let place : length before + suc (length w.1) ≡ length later = omega (arith, length-append before (w.1 ++ 32 ∷ []), length-append w.1 (32 ∷ [])) in
      let read : symbols_at spaces names text behind ≡ syms spaces names ws =
      ap (λ n. symbols_at spaces names text (placed n ws)) place ∙ ap (λ x. symbols_at spaces names x (placed (length later) ws)) whole ∙ placed-read spaces names later ws in
      let own : fault_at how.Expression spaces w.0 (written_at text t) behind ≡ None =
      ap (λ s. fault_at how.Expression spaces w.0 s behind) this ∙ no_fault spaces w.0 w.1 behind (given_of (syms spaces names ws)) (arguments_same spaces names text behind ∙ ap given_of read) free.0 in
      ap (λ o. or_later o (length before) (fault_among how.Expression spaces text behind)) own
      ∙ ap (λ n. fault_among how.Expression spaces text (placed n ws)) place
      ∙ ap (λ x. fault_among how.Expression spaces x (placed (length later) ws)) whole
      ∙ placed_faultless later ws free.1

  pub written_faultless : (text : List ℕ) (tree : Expr) → IsUtf8 text → AllByRecursion (λ (s : Space). IsUtf8 s.uri) spaces → HasNames spaces names text (tokens_of text)
      → IsExpr (symbols_at spaces names text (tokens_of text)) tree → fault_among how.Expression spaces text (tokens_of text) ≡ None
      → fault_among how.Expression spaces (written spaces names tree) (tokens_of (written spaces names tree)) ≡ None
  written_faultless text tree utf8 uris has is faultless =
      let tokens = symbols_at spaces names text (tokens_of text) in
      let words = (sh spaces names tree).words false in
      let writable = text_writable spaces names text utf8 uris faultless has in
      let given : AreGiven (tokens ++ []) = subst AreGiven (sym (append-nil tokens)) (all_given spaces names text (tokens_of text) faultless) in
      let free : AreFaultless spaces names words = subst (AreFaultless spaces names) (append-nil words) (clean_expr spaces names tokens tree is writable [] given false [] tt) in
      ap (fault_among how.Expression spaces (spelled words)) (all_words false 0 words (written_tokens spaces names tokens tree (all_leaves spaces names tokens writable) is)) ∙ placed_faultless [] words free
