-- What it is to read an expression or a pattern, and its first fault.
use Rattle.std.specs.Prelude.{◌≡◌, ◌⊎◌, ℕ, List, Option, Some, None, Result, Ok, Err}
use Rattle.serna_kinds.specs.Names.{NameParts, Space, Grows}
use Rattle.xpath_trees.specs.declared.expr.Expr.{Expr}
use Rattle.xpath_trees.specs.declared.pattern.Pattern.{Pattern}
use Rattle.xpath_tokens.specs.declared.symbol.Symbol.{Symbol}
use Rattle.xpath_tokens.specs.declared.tokens.Token.{Token}
use Rattle.xpath_tokens.specs.declared.faults.ExprRule.{ExprRule}
use Rattle.xpath_tokens.specs.declared.faults.ReadAs.{ReadAs}
use Rattle.xpath_tokens.specs.declared.faults.ReadAs.TheVariants as how
use Rattle.xpath_syntax.specs.declared.reader.ExprFault.{ExprFault}
use Rattle.xpath_syntax.specs.declared.reader.ExprFault.TheVariants as fault
use Rattle.xpath_tokens.specs.Tokens.{tokens_of}
use Rattle.xpath_tokens.specs.Symbols.{symbols_at}
use Rattle.xpath_grammar.specs.Grammar.{IsExpr}
use Rattle.xpath_syntax.specs.Patterns.{IsPattern}
use Rattle.xpath_machine.specs.Stops.{HasTreeBy, IsStopBy}
use Rattle.xpath_tokens.specs.Faults.{fault_among, fault_before}

-- By a grammar, and by the first of the faults of tokens besides 20

-- the tokens have this tree and no fault
pub record HasReadingBy {T : Type 0} (Is : List Symbol → T → Type 0) (among : Option (ExprRule × ℕ)) (symbols : List Symbol) (tree : T) : Type 0 where
  pub has : HasTreeBy Is symbols tree
  pub faultless : among ≡ None

-- The first fault of the tokens: no tree's tokens can go on with one of them, and there or before it stands the fault, or they
-- have a tree, and it is the first fault of their functions, numbers and prefixes.
abbrev pub HasFaultBy : {T : Type 0} → (List Symbol → T → Type 0) → Option (ExprRule × ℕ) → (ℕ → ExprRule × ℕ) → List Symbol → ExprRule → ℕ → Type 0
HasFaultBy {T} Is among before symbols rule place =
    ((k : ℕ) × IsStopBy Is symbols k × (before k ≡ (rule, place)))
    ⊎ ((tree : T) × HasTreeBy Is symbols tree × (among ≡ Some (rule, place)))

-- what reading answers, with the table that it leaves
abbrev pub IsReadBy : {T : Type 0} → (List NameParts → T → Type 0) → (ExprRule → ℕ → Type 0) → List NameParts → Result T ExprFault → Type 0
IsReadBy HasReading HasFault names (Ok tree) = (later : List NameParts) → Grows names later → HasReading later tree
IsReadBy HasReading HasFault names (Err (fault.Refused rule place)) = HasFault rule place
IsReadBy HasReading HasFault names (Err fault.NoMemory) = Unit {0}

-- what reading tokens by a grammar answers, with the table that it leaves
abbrev pub IsReadAs : {T : Type 0} → (List Symbol → T → Type 0) → ReadAs → List Space → List NameParts → List ℕ → List Token → Result T ExprFault → Type 0
IsReadAs Is as_what spaces names text tokens =
    let among = fault_among as_what spaces text tokens in
    IsReadBy (λ later. HasReadingBy Is among (symbols_at spaces later text tokens)) (HasFaultBy Is among (fault_before as_what spaces text tokens) (symbols_at spaces names text tokens)) names

-- Expressions

abbrev pub HasReading : List Space → List NameParts → List ℕ → List Token → Expr → Type 0
HasReading spaces names text tokens = HasReadingBy IsExpr (fault_among how.Expression spaces text tokens) (symbols_at spaces names text tokens)

abbrev pub HasFault : List Space → List NameParts → List ℕ → List Token → ExprRule → ℕ → Type 0
HasFault spaces names text tokens = HasFaultBy IsExpr (fault_among how.Expression spaces text tokens) (fault_before how.Expression spaces text tokens) (symbols_at spaces names text tokens)

-- the text is an expression without fault, and this is its tree, with the numbers that names have in this table
abbrev pub IsReading : List Space → List NameParts → List ℕ → Expr → Type 0
IsReading spaces names text tree = HasReading spaces names text (tokens_of text) tree

-- the first fault of a text
abbrev pub IsFirstFault : List Space → List NameParts → List ℕ → ExprRule → ℕ → Type 0
IsFirstFault spaces names text rule place = HasFault spaces names text (tokens_of text) rule place

-- Patterns

abbrev pub HasPatternReading : List Space → List NameParts → List ℕ → List Token → Pattern → Type 0
HasPatternReading spaces names text tokens = HasReadingBy IsPattern (fault_among how.Pattern spaces text tokens) (symbols_at spaces names text tokens)

abbrev pub HasPatternFault : List Space → List NameParts → List ℕ → List Token → ExprRule → ℕ → Type 0
HasPatternFault spaces names text tokens =
    HasFaultBy IsPattern (fault_among how.Pattern spaces text tokens) (fault_before how.Pattern spaces text tokens) (symbols_at spaces names text tokens)

-- the text is a pattern without fault, and this is its tree, with the numbers that names have in this table
abbrev pub IsPatternReading : List Space → List NameParts → List ℕ → Pattern → Type 0
IsPatternReading spaces names text pattern = HasPatternReading spaces names text (tokens_of text) pattern

-- the first fault of a text, read as a pattern
abbrev pub IsFirstPatternFault : List Space → List NameParts → List ℕ → ExprRule → ℕ → Type 0
IsFirstPatternFault spaces names text rule place = HasPatternFault spaces names text (tokens_of text) rule place
