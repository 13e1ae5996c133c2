-- What the answers of a reader say, for any grammar that gives a list of tokens one tree at most.
use Rattle.std.proofs.Common.{◌≡◌, ◌<◌, ◌≤◌, ℕ, zero, suc, List, [], ◌∷◌, ◌++◌, length, take, Option, Some, None, Result, Ok, Err, MatchResult, IfOk, IfErr, sym, refl, ap, ◌∙◌, subst, inl, inr, append_assoc, append-nil, arith}
use Rattle.std.specs.List.{AllByRecursion}
use Rattle.std.proofs.lemmas.Bool.{cases_lt}
use Rattle.std.proofs.lemmas.List.{length-map}
use Rattle.serna_kinds.specs.Names.{NameParts, Space, Grows}
use Rattle.xpath_tokens.specs.declared.symbol.Symbol.{Symbol}
use Rattle.xpath_tokens.specs.declared.tokens.Token.{Token}
use Rattle.xpath_tokens.specs.declared.faults.ExprRule.{ExprRule}
use Rattle.xpath_syntax.specs.declared.reader.ExprFault.{ExprFault}
use Rattle.xpath_syntax.specs.declared.reader.ExprFault.TheVariants as fault
use Rattle.xpath_tokens.specs.Tokens.{IsCut}
use Rattle.xpath_tokens.specs.Symbols.{symbols_at}
use Rattle.xpath_machine.specs.Stops.{next_depth, IsShallowFrom, IsShallow, CanGoOnBy, IsStopBy}
use Rattle.xpath_syntax.specs.Reading.{HasReadingBy, HasFaultBy, IsReadBy}

pub cut_front : (text : List ℕ) (k : ℕ) (tokens : List Token) → AllByRecursion (IsCut text) tokens → AllByRecursion (IsCut text) (take k tokens)
cut_front text zero tokens all = tt
cut_front text (suc k) [] all = tt
cut_front text (suc k) (t ∷ ts) all = (all.0, cut_front text k ts all.1)

front : (ts : List Symbol) (a b : ℕ) → a ≤ b → (more : List Symbol) × (take b ts ≡ take a ts ++ more)
front ts zero b low = (take b ts, refl)
front [] (suc a) b low = ([], take_none b)
  where
    take_none : (b : ℕ) → ◌≡◌ {A = List Symbol} (take b []) []
    take_none zero = refl
    take_none (suc b) = refl
front (t ∷ ts) (suc a) zero low = absurd (omega arith)
front (t ∷ ts) (suc a) (suc b) low = let r = front ts a b (omega arith) in (r.0, ap (λ l. t ∷ l) r.1)

shallow_part : (d : ℕ) (xs ys : List Symbol) → IsShallowFrom d (xs ++ ys) → IsShallowFrom d xs
shallow_part d [] ys s = tt
shallow_part d (x ∷ xs) ys s = (s.0, shallow_part (next_depth d x) xs ys s.1)

grows_none : (names : List NameParts) → Grows names names
grows_none names = ([], sym (append-nil names))

module _ {T : Type 0} (Is : List Symbol → T → Type 0) (one_tree : (tokens : List Symbol) (one other : T) → Is tokens one → Is tokens other → one ≡ other) where
  -- a tree's tokens can begin with the front of what they can begin with
  goes_on_before : (tokens : List Symbol) (n m : ℕ) → n ≤ m → CanGoOnBy Is (take m tokens) → CanGoOnBy Is (take n tokens)
  goes_on_before tokens n m le ((more, tree, is), shallow) =
      let parts = front tokens n m le in (
        (parts.0 ++ more, tree, subst (λ l. Is l tree) (ap (λ l. l ++ more) parts.1 ∙ append_assoc (take n tokens) parts.0 more) is),
        shallow_part 0 (take n tokens) parts.0 (subst IsShallow parts.1 shallow),
      )

  -- tokens have one stop at most
  not_before : (tokens : List Symbol) (j k : ℕ) → IsStopBy Is tokens j → IsStopBy Is tokens k → j < k → ⊥
  not_before tokens j k one other lt = let le = other.within in one.stuck (omega arith) (goes_on_before tokens (suc j) k (omega arith) other.before)

  one_stop : (tokens : List Symbol) (j k : ℕ) → IsStopBy Is tokens j → IsStopBy Is tokens k → j ≡ k
  one_stop tokens j k one other =
      elim (cases_lt j k) [
        | inl lt ↦ absurd (not_before tokens j k one other lt)
        | inr ge ↦ elim (cases_lt k j) [ inl lt ↦ absurd (not_before tokens k j other one lt) | inr le ↦ omega arith ]
      ]

  module _ (among : Option (ExprRule × ℕ)) (before : ℕ → ExprRule × ℕ) (symbols : List Symbol) where
    not_both : (tree : T) (rule : ExprRule) (place : ℕ) → HasReadingBy Is among symbols tree → HasFaultBy Is among before symbols rule place → ⊥
    not_both tree rule place reading (inl (k, stop, e)) = stop.none tree reading.has
    not_both tree rule place reading (inr (other, has, e)) = let no_fault : ◌≡◌ {A = Option (ExprRule × ℕ)} None (Some (rule, place)) = sym reading.faultless ∙ e in cc

    one_fault : (r s : ExprRule) (p q : ℕ) → HasFaultBy Is among before symbols r p → HasFaultBy Is among before symbols s q → (r ≡ s) × (p ≡ q)
    one_fault r s p q (inl (j, one, e)) (inl (k, other, f)) =
        let same = one_stop symbols j k one other in
        let both : (r, p) ≡ (s, q) = sym e ∙ ap before same ∙ f in (ap (λ (x : ExprRule × ℕ). x.0) both, ap (λ (x : ExprRule × ℕ). x.1) both)
    one_fault r s p q (inl (j, one, e)) (inr (tree, has, f)) = absurd (one.none tree has)
    one_fault r s p q (inr (tree, has, e)) (inl (k, other, f)) = absurd (other.none tree has)
    one_fault r s p q (inr (tree, has, e)) (inr (other, has_other, f)) =
        let both : Some (r, p) ≡ Some (s, q) = sym e ∙ f in
        let inner : (r, p) ≡ (s, q) = cc in (ap (λ (x : ExprRule × ℕ). x.0) inner, ap (λ (x : ExprRule × ℕ). x.1) inner)

    same_refusal : (a : ExprRule) (b : ℕ) (rule : ExprRule) (place : ℕ) → HasFaultBy Is among before symbols a b → HasFaultBy Is among before symbols rule place → (r : ExprRule) (p : ℕ) → fault.Refused a b ≡ fault.Refused r p → (r ≡ rule) × (p ≡ place)
    same_refusal a b rule place read has r p e =
        let rules : a ≡ r = cc in
        let places : b ≡ p = cc in
        let same = one_fault a rule b place read has in (sym rules ∙ same.0, sym places ∙ same.1)

memory_no_fault : {X : Type 0} (rule : ExprRule) (place : ℕ) → fault.NoMemory ≡ fault.Refused rule place → X
memory_no_fault rule place e = absurd (apart rule place e)
  where
    apart : (r : ExprRule) (p : ℕ) → fault.NoMemory ≡ fault.Refused r p → ⊥
    apart r p f = cc

moved_fault : (HasFault : ExprRule → ℕ → Type 0) (r : ExprRule) (p : ℕ) (rule : ExprRule) (place : ℕ) → fault.Refused r p ≡ fault.Refused rule place → HasFault r p → HasFault rule place
moved_fault HasFault r p rule place e read =
    let rules : r ≡ rule = cc in
    let places : p ≡ place = cc in
    subst (λ x. HasFault x place) rules (subst (HasFault r) places read)

pub tree_read : {T : Type 0} (HasReading : List NameParts → T → Type 0) (HasFault : ExprRule → ℕ → Type 0) (names : List NameParts) (result : Result T ExprFault) → IsReadBy HasReading HasFault names result
    → IfOk result (λ tree. (later : List NameParts) → Grows names later → HasReading later tree)
tree_read HasReading HasFault names (Ok e) read = read
tree_read HasReading HasFault names (Err (fault.Refused rule place)) read = tt
tree_read HasReading HasFault names (Err fault.NoMemory) read = tt

pub first_fault : {T : Type 0} (HasReading : List NameParts → T → Type 0) (HasFault : ExprRule → ℕ → Type 0) (names : List NameParts) (result : Result T ExprFault) → IsReadBy HasReading HasFault names result
    → IfErr result (λ f. (rule : ExprRule) (place : ℕ) → f ≡ fault.Refused rule place → HasFault rule place)
first_fault HasReading HasFault names (Ok e) read = tt
first_fault HasReading HasFault names (Err (fault.Refused r p)) read = λ rule place e. moved_fault HasFault r p rule place e read
first_fault HasReading HasFault names (Err fault.NoMemory) read = λ rule place e. memory_no_fault rule place e

-- the tokens by the table that was left, and by every table that grows from it
module _ {T : Type 0} (Is : List Symbol → T → Type 0) (one_tree : (tokens : List Symbol) (one other : T) → Is tokens one → Is tokens other → one ≡ other)
    (among : Option (ExprRule × ℕ)) (before : ℕ → ExprRule × ℕ) (symbols : List NameParts → List Symbol) (names : List NameParts) where
  abbrev Reads : List NameParts → T → Type 0
  Reads later = HasReadingBy Is among (symbols later)

  abbrev Fails : ExprRule → ℕ → Type 0
  Fails = HasFaultBy Is among before (symbols names)

  pub only_reading : (result : Result T ExprFault) → IsReadBy Reads Fails names result → (tree : T) → Reads names tree → MatchResult result (λ e. e ≡ tree) (λ f. f ≡ fault.NoMemory)
  only_reading (Ok e) read tree reading = one_tree (symbols names) e tree (read names (grows_none names)).has.0 reading.has.0
  only_reading (Err (fault.Refused rule place)) read tree reading = absurd (not_both Is one_tree among before (symbols names) tree rule place reading read)
  only_reading (Err fault.NoMemory) read tree reading = refl

  pub only_fault : (result : Result T ExprFault) → IsReadBy Reads Fails names result → (rule : ExprRule) (place : ℕ) → Fails rule place
      → MatchResult result (λ _. ⊥) (λ f. (r : ExprRule) (p : ℕ) → f ≡ fault.Refused r p → (r ≡ rule) × (p ≡ place))
  only_fault (Ok e) read rule place has = not_both Is one_tree among before (symbols names) e rule place (read names (grows_none names)) has
  only_fault (Err (fault.Refused a b)) read rule place has = λ r p e. same_refusal Is one_tree among before (symbols names) a b rule place read has r p e
  only_fault (Err fault.NoMemory) read rule place has = λ r p e. memory_no_fault r p e

-- What reading the tokens gave, by the table that was left

pub stop_within : {T : Type 0} (Is : List Symbol → T → Type 0) (spaces : List Space) (names : List NameParts) (text : List ℕ) (tokens : List Token) (k : ℕ) → IsStopBy Is (symbols_at spaces names text tokens) k → k ≤ length tokens
stop_within Is spaces names text tokens k stop = let le = stop.within in omega (arith, length-map {A = Token} {B = Symbol})

-- what is said of the tokens by every table is said by this one
pub by_table : (Says : List Symbol → Type 0) (names : List NameParts) (symbols : List Symbol) (by : List NameParts → List Symbol) → ((later : List NameParts) → Grows names later → symbols ≡ by later) → Says symbols → Says (by names)
by_table Says names symbols by same is = subst Says (same names (grows_none names)) is
