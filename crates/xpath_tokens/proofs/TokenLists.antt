-- Tokens one after another, and what they are to the grammar.
use Rattle.std.proofs.Common.{◌≡◌, ◌<◌, ◌+◌, ℕ, suc, List, [], ◌∷◌, ◌++◌, length, take, get_or, sym, ap, ◌∙◌, subst, append-nil, arith}
use Rattle.std.specs.List.{AllByRecursion}
use Rattle.std.proofs.Math.Seq.{take-suc}
use Rattle.std.proofs.lemmas.List.{map-append}
use Rattle.std.proofs.lemmas.Grind.{flat_map-append, fold-append}
use Rattle.serna_kinds.specs.Names.{NameParts, Space, with_name}
use Rattle.xpath_tokens.specs.declared.symbol.Symbol.{Symbol}
use Rattle.xpath_tokens.specs.declared.tokens.Token.{Token}
use Rattle.xpath_tokens.specs.Symbols.{written_at, symbol_of, symbols_at}
use Rattle.xpath_tokens.specs.Named.{HasName, HasNames, names_in, names_of, with_names}

all_push : {X : Type 0} (P : X → Type 0) (xs : List X) (x : X) → AllByRecursion P xs → P x → AllByRecursion P (xs ++ x ∷ [])
all_push P [] x all is = (is, tt)
all_push P (y ∷ ys) x all is = (all.0, all_push P ys x all.1 is)

-- from the tokens before a place to those before the next one
module _ (spaces : List Space) (text : List ℕ) (ts : List Token) (i : ℕ) (d : Token) (within : i < length ts) (written : List ℕ) (is : written ≡ written_at text (get_or ts i d)) where
  one_more : take (i + 1) ts ≡ take i ts ++ get_or ts i d ∷ []
  one_more = let e : i + 1 ≡ suc i = omega arith in ap (λ n. take n ts) e ∙ take-suc ts i d within

  pub symbols_more : (names : List NameParts) (before : List Symbol) (s : Symbol) → before ≡ symbols_at spaces names text (take i ts) → s ≡ symbol_of spaces names (get_or ts i d).kind written
      → before ++ s ∷ [] ≡ symbols_at spaces names text (take (i + 1) ts)
  symbols_more names before s e f =
      ap (λ l. l ++ s ∷ []) e
      ∙ ap (λ x. symbols_at spaces names text (take i ts) ++ x ∷ []) (f ∙ ap (symbol_of spaces names (get_or ts i d).kind) is)
      ∙ sym (map-append (λ (t : Token). symbol_of spaces names t.kind (written_at text t)) (take i ts) (get_or ts i d ∷ []))
      ∙ ap (symbols_at spaces names text) (sym one_more)

  pub named_more : (names : List NameParts) → HasNames spaces names text (take i ts) → HasName spaces names (get_or ts i d).kind written → HasNames spaces names text (take (i + 1) ts)
  named_more names before has =
      subst (HasNames spaces names text) (sym one_more)
      (all_push (λ (t : Token). HasName spaces names t.kind (written_at text t)) (take i ts) (get_or ts i d) before (subst (HasName spaces names (get_or ts i d).kind) is has))

  names_more : names_of spaces text (take (i + 1) ts) ≡ names_of spaces text (take i ts) ++ names_in spaces (get_or ts i d).kind written
  names_more =
      ap (names_of spaces text) one_more
      ∙ flat_map-append (λ (t : Token). names_in spaces t.kind (written_at text t)) (take i ts) (get_or ts i d ∷ [])
      ∙ ap (λ l. names_of spaces text (take i ts) ++ l) (append-nil (names_in spaces (get_or ts i d).kind (written_at text (get_or ts i d))) ∙ ap (names_in spaces (get_or ts i d).kind) (sym is))

  pub table_more : (old now new : List NameParts) → now ≡ with_names old (names_of spaces text (take i ts)) → new ≡ with_names now (names_in spaces (get_or ts i d).kind written)
      → new ≡ with_names old (names_of spaces text (take (i + 1) ts))
  table_more old now new e f =
      f ∙ ap (λ t. with_names t (names_in spaces (get_or ts i d).kind written)) e
      ∙ sym (fold-append with_name old (names_of spaces text (take i ts)) (names_in spaces (get_or ts i d).kind written))
      ∙ ap (with_names old) (sym names_more)
