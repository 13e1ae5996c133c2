-- How an expression is written, so that it reads back as itself: its tokens with a space behind each, parentheses only where the
-- tree wants them, and the abbreviations `.`, `..`, `@` and `//` (XPath 1.0, section 2.5) wherever they can stand, since each of
-- `node()` and parentheses opens a bracket.
use Rattle.std.specs.Prelude.{◌≡◌, ℕ, ◌+◌, ◌&&◌, ◌==◌, nat_lt, not, Bool, true, false, IsTrue, if◌then◌else◌, List, [], ◌∷◌, ◌++◌, length, map, Option, Some, None, slice_get, codes, encode_utf8_all}
use Rattle.std.specs.Option.{option_map_or}
use Rattle.std.specs.List.{flat_map, list_any}
use Rattle.std.specs.Str.{bytes_eq}
use Rattle.std.specs.Fmt.{decimal}
use Rattle.serna_kinds.specs.Names.{NameParts, Space}
use Rattle.serna_kinds.specs.Qualified.{is_local_name, xml_prefix, xml_uri}
use Rattle.serna_kinds.specs.declared.cells.NameId.{NameId}
use Rattle.serna_kinds.specs.declared.expressions.Axis.{Axis}
use Rattle.serna_kinds.specs.declared.expressions.Axis.TheVariants as axis
use Rattle.serna_kinds.specs.declared.expressions.CompareOp.{CompareOp}
use Rattle.serna_kinds.specs.declared.expressions.CompareOp.TheVariants as compare
use Rattle.serna_kinds.specs.declared.expressions.NodeTest.{NodeTest}
use Rattle.serna_kinds.specs.declared.expressions.NodeTest.TheVariants as test
use Rattle.serna_kinds.specs.declared.expressions.TextFunction.{TextFunction}
use Rattle.serna_kinds.specs.declared.expressions.TextFunction.TheVariants as on
use Rattle.xpath_trees.specs.declared.expr.ArithOp.{ArithOp}
use Rattle.xpath_trees.specs.declared.expr.ArithOp.TheVariants as arith
use Rattle.xpath_trees.specs.declared.expr.Expr.{Expr}
use Rattle.xpath_trees.specs.declared.expr.Expr.TheOpen.{Expr-F, PathStart-F, Step-F}
use Rattle.xpath_trees.specs.declared.expr.Expr.TheFolds.{fold-Expr, fold-PathStart, fold-Step}
use Rattle.xpath_trees.specs.declared.expr.PathStart.{PathStart}
use Rattle.xpath_trees.specs.declared.expr.Signs.{Signs}
use Rattle.xpath_trees.specs.declared.expr.Signs.TheVariants as sign
use Rattle.xpath_trees.specs.declared.expr.Step.{Step}
use Rattle.xpath_trees.specs.declared.expr.Function.{Function}
use Rattle.xpath_trees.specs.declared.expr.Function.TheVariants as function
use Rattle.xpath_tokens.specs.declared.symbol.Operator.{Operator}
use Rattle.xpath_tokens.specs.declared.symbol.Operator.TheVariants as operator
use Rattle.xpath_tokens.specs.declared.symbol.Symbol.{Symbol}
use Rattle.xpath_tokens.specs.declared.symbol.Symbol.TheVariants as symbol
use Rattle.xpath_tokens.specs.declared.tokens.Kind.{Kind}
use Rattle.xpath_tokens.specs.declared.tokens.Kind.TheVariants as kind
use Rattle.serna_kinds.specs.Blanks.{is_space}
use Rattle.xpath_tokens.specs.Tokens.{front, ends_operand, name_before, without_spaces}
use Rattle.xpath_tokens.specs.Symbols.{uri_in, symbol_of}
use Rattle.xpath_grammar.specs.Trees.{compare_level, arith_level, rank}

-- a token by its kind and as it is written
abbrev pub Word : Type 0
Word = Kind × List ℕ

-- words as a text, with a space behind each
abbrev pub spelled : List Word → List ℕ
spelled = flat_map (λ (word : Word). word.1 ++ 32 ∷ [])

-- Words

-- how a token is written that its kind tells alone ([28] to [34])
abbrev pub mark_text : Kind → List ℕ
mark_text kind.Open = codes "("
mark_text kind.Close = codes ")"
mark_text kind.OpenBracket = codes "["
mark_text kind.CloseBracket = codes "]"
mark_text kind.Dot = codes "."
mark_text kind.DotDot = codes ".."
mark_text kind.At = codes "@"
mark_text kind.Comma = codes ","
mark_text kind.Colons = codes "::"
mark_text kind.Slash = codes "/"
mark_text kind.DoubleSlash = codes "//"
mark_text kind.Bar = codes "|"
mark_text kind.Plus = codes "+"
mark_text kind.Minus = codes "-"
mark_text kind.Equal = codes "="
mark_text kind.NotEqual = codes "!="
mark_text kind.Less = codes "<"
mark_text kind.LessOrEqual = codes "<="
mark_text kind.Greater = codes ">"
mark_text kind.GreaterOrEqual = codes ">="
mark_text kind.Multiply = codes "*"
mark_text kind.And = codes "and"
mark_text kind.Or = codes "or"
mark_text kind.Mod = codes "mod"
mark_text kind.Star = codes "*"
mark_text _ = []

abbrev pub mark : Kind → Word
mark k = (k, mark_text k)

-- the kind of an operator's token
abbrev pub compare_kind : CompareOp → Kind
compare_kind compare.Equal = kind.Equal
compare_kind compare.NotEqual = kind.NotEqual
compare_kind compare.Less = kind.Less
compare_kind compare.LessOrEqual = kind.LessOrEqual
compare_kind compare.Greater = kind.Greater
compare_kind compare.GreaterOrEqual = kind.GreaterOrEqual

abbrev pub arith_kind : ArithOp → Kind
arith_kind arith.Add = kind.Plus
arith_kind arith.Subtract = kind.Minus
arith_kind arith.Multiply = kind.Multiply
arith_kind arith.Remainder = kind.Mod

abbrev pub operator_kind : Operator → Kind
operator_kind operator.Or = kind.Or
operator_kind operator.And = kind.And
operator_kind (operator.Compare op) = compare_kind op
operator_kind (operator.Arith op) = arith_kind op
operator_kind operator.Union = kind.Bar

-- whether an operator is told from a name or `*` by the token before it alone (section 3.7)
abbrev pub is_named : Kind → Bool
is_named kind.Or = true
is_named kind.And = true
is_named kind.Multiply = true
is_named kind.Mod = true
is_named _ = false

abbrev pub axis_text : Axis → List ℕ
axis_text axis.Child = codes "child"
axis_text axis.Descendant = codes "descendant"
axis_text axis.DescendantOrSelf = codes "descendant-or-self"
axis_text axis.Itself = codes "self"
axis_text axis.Parent = codes "parent"
axis_text axis.Ancestor = codes "ancestor"
axis_text axis.AncestorOrSelf = codes "ancestor-or-self"
axis_text axis.FollowingSibling = codes "following-sibling"
axis_text axis.PrecedingSibling = codes "preceding-sibling"
axis_text axis.Following = codes "following"
axis_text axis.Preceding = codes "preceding"
axis_text axis.Attribute = codes "attribute"

abbrev pub text_function_text : TextFunction → List ℕ
text_function_text on.Concat = codes "concat"
text_function_text on.StartsWith = codes "starts-with"
text_function_text on.Contains = codes "contains"
text_function_text on.SubstringBefore = codes "substring-before"
text_function_text on.SubstringAfter = codes "substring-after"
text_function_text on.Substring = codes "substring"
text_function_text on.StringLength = codes "string-length"
text_function_text on.NormalizeSpace = codes "normalize-space"
text_function_text on.Translate = codes "translate"

abbrev pub function_text : Function → List ℕ
function_text function.Last = codes "last"
function_text function.Position = codes "position"
function_text function.Count = codes "count"
function_text function.LocalName = codes "local-name"
function_text function.NamespaceUri = codes "namespace-uri"
function_text function.Name = codes "name"
function_text function.Text = codes "string"
function_text (function.On f) = text_function_text f
function_text function.Boolean = codes "boolean"
function_text function.Not = codes "not"
function_text function.True = codes "true"
function_text function.False = codes "false"
function_text function.Number = codes "number"
function_text function.Sum = codes "sum"
function_text function.Floor = codes "floor"
function_text function.Ceiling = codes "ceiling"
function_text function.Round = codes "round"
function_text function.Current = codes "current"
function_text function.GenerateId = codes "generate-id"

-- a literal's quote ([29]): the other one where the text has `"`
abbrev pub quote_for : List ℕ → ℕ
quote_for text = if list_any (λ b. b == 34) text then 39 else 34

abbrev pub quoted : List ℕ → List ℕ
quoted text = quote_for text ∷ (text ++ quote_for text ∷ [])

-- a local name behind its prefix and a colon, or alone where the prefix is empty (Namespaces in XML 1.0, QName)
abbrev pub qualified_text : List ℕ → List ℕ → List ℕ
qualified_text [] local = local
qualified_text (c ∷ prefix) local = (c ∷ prefix) ++ 58 ∷ local

-- An operand and what it is written as

-- how tightly an expression binds, from 1 for `or` to 8 for `|`, then 9 for a path, 10 for a filter and 11 for the others; and
-- its words, where the flag says that an operator follows that is told by the token before it alone
pub record Written : Type 0 where
  pub rank : ℕ
  pub words : Bool → List Word

abbrev pub written_as : ℕ → (Bool → List Word) → Written
written_as rank words = record { rank = rank; words = words }

-- an expression in parentheses
abbrev pub grouped : List Word → List Word
grouped words = mark kind.Open ∷ (words ++ mark kind.Close ∷ [])

-- an operand that must bind so tightly, in parentheses where it does not
abbrev pub operand : ℕ → Bool → Written → List Word
operand least before e = if nat_lt e.rank least then grouped (e.words false) else e.words before

-- the flag of an operand in a chain, by the operators behind it and the flag of the chain
abbrev pub flag_behind : List (Operator × Written) → Bool → Bool
flag_behind [] before = before
flag_behind (x ∷ xs) before = is_named (operator_kind x.0)

-- further operands of a chain, each behind its operator
abbrev pub further_operands : ℕ → Bool → List (Operator × Written) → List Word
further_operands least before [] = []
further_operands least before (x ∷ xs) = mark (operator_kind x.0) ∷ (operand least (flag_behind xs before) x.1 ++ further_operands least before xs)

-- the operands of a chain with their operators
abbrev pub joined : ℕ → Bool → Written → List (Operator × Written) → List Word
joined least before first others = operand least (flag_behind others before) first ++ further_operands least before others

-- a chain of operators of one rank: its first operand and the others, each with the operator before it
abbrev pub chain_of : ℕ → Written → List (Operator × Written) → Written
chain_of r first others = written_as r (λ before. joined (r + 1) before first others)

-- operands, each with this operator before it
abbrev pub each_behind : Operator → List Written → List (Operator × Written)
each_behind op = map (λ (e : Written). (op, e))

-- operands with one operator between each and the next
abbrev pub joined_by : Operator → ℕ → Bool → List Written → List Word
joined_by op least before [] = []
joined_by op least before (e ∷ es) = joined least before e (each_behind op es)

abbrev pub chain_by : Operator → ℕ → List Written → Written
chain_by op r operands = written_as r (λ before. joined_by op (r + 1) before operands)

-- the rank of a chain by its first operator
abbrev pub compares_rank : {X : Type 0} → List (CompareOp × X) → ℕ
compares_rank [] = 3
compares_rank (x ∷ xs) = rank (compare_level x.0)

abbrev pub ariths_rank : {X : Type 0} → List (ArithOp × X) → ℕ
ariths_rank [] = 5
ariths_rank (x ∷ xs) = rank (arith_level x.0)

-- operands, each with its comparison or its operator on numbers before it
abbrev pub compared_words : List (CompareOp × Written) → List (Operator × Written)
compared_words = map (λ (x : CompareOp × Written). (operator.Compare x.0, x.1))

abbrev pub computed_words : List (ArithOp × Written) → List (Operator × Written)
computed_words = map (λ (x : ArithOp × Written). (operator.Arith x.0, x.1))

-- [27] one minus sign or two
abbrev pub sign_words : Signs → List Word
sign_words sign.Once = mark kind.Minus ∷ []
sign_words sign.Twice = mark kind.Minus ∷ mark kind.Minus ∷ []

-- [8] predicates, each in its brackets
abbrev pub predicate_words : List Written → List Word
predicate_words [] = []
predicate_words (e ∷ es) = mark kind.OpenBracket ∷ (e.words false ++ mark kind.CloseBracket ∷ predicate_words es)

-- [16] arguments, with a comma between each and the next
abbrev pub further_arguments : List Written → List Word
further_arguments [] = []
further_arguments (e ∷ es) = mark kind.Comma ∷ (e.words false ++ further_arguments es)

abbrev pub argument_words : List Written → List Word
argument_words [] = []
argument_words (e ∷ es) = e.words false ++ further_arguments es

-- Steps

-- the words of a step, and whether it is the one that `//` stands for
pub record WrittenStep : Type 0 where
  pub words : List Word
  pub is_wide : Bool

abbrev pub is_any_node : NodeTest → Bool
is_any_node test.AnyNode = true
is_any_node _ = false

abbrev pub is_descendant_or_self : Axis → Bool
is_descendant_or_self axis.DescendantOrSelf = true
is_descendant_or_self _ = false

abbrev pub is_empty : {X : Type 0} → List X → Bool
is_empty [] = true
is_empty (x ∷ xs) = false

-- whether a step with this test and these predicates takes each node of its axis
abbrev pub is_bare : {X : Type 0} → NodeTest → List X → Bool
is_bare test predicates = is_any_node test && is_empty predicates

-- [13] the axis `child` is not written, and `@` stands for `attribute::`
abbrev pub axis_words : Axis → List Word
axis_words axis.Child = []
axis_words axis.Attribute = mark kind.At ∷ []
axis_words a = (kind.AxisName, axis_text a) ∷ mark kind.Colons ∷ []

-- [12] what stands for `self::node()` and for `parent::node()`
abbrev pub short_kind : Axis → Option Kind
short_kind axis.Itself = Some kind.Dot
short_kind axis.Parent = Some kind.DotDot
short_kind _ = None

abbrev pub short_for : Axis → Bool → Option Kind
short_for on bare = if bare then short_kind on else None

abbrev pub short_or : List Word → Option Kind → List Word
short_or words None = words
short_or words (Some k) = mark k ∷ []

-- [7] a node type with its parentheses
abbrev pub type_words : List ℕ → List Word
type_words name = (kind.Callee, name) ∷ mark kind.Open ∷ mark kind.Close ∷ []

-- the slash that a step stands behind; the first step of a relative path stands behind none
abbrev pub slash_words : Option Kind → List Word
slash_words None = []
slash_words (Some k) = mark k ∷ []

abbrev pub is_slash : Option Kind → Bool
is_slash (Some kind.Slash) = true
is_slash _ = false

-- [3] steps, the first behind this slash, and the others behind `/`, or behind `//` for a step `descendant-or-self::node()`
-- that is left out where another follows it ([10], [11])
abbrev pub steps_words : Option Kind → List WrittenStep → List Word
steps_words behind [] = []
steps_words behind (s ∷ ss) =
    if is_slash behind && s.is_wide && not (is_empty ss) then steps_words (Some kind.DoubleSlash) ss else slash_words behind ++ (s.words ++ steps_words (Some kind.Slash) ss)

-- [2] `/` alone, which stands in parentheses before an operator that would be read as a name there
abbrev pub root_words : Bool → List Word
root_words true = grouped (mark kind.Slash ∷ [])
root_words false = mark kind.Slash ∷ []

abbrev pub absolute_words : Bool → List WrittenStep → List Word
absolute_words before [] = root_words before
absolute_words before (s ∷ ss) = steps_words (Some kind.Slash) (s ∷ ss)

-- Expressions, with the prefixes that are bound and the names by their numbers

-- the name under a number, as it is written
abbrev pub name_text : List NameParts → NameId → List ℕ
name_text names id = option_map_or (λ (name : NameParts). qualified_text name.prefix name.local) (slice_get names id.0) []

-- whether the prefix is a name and stands for the URI
abbrev pub stands_for : List Space → List ℕ → List ℕ → Bool
stands_for spaces uri prefix = is_local_name prefix && bytes_eq (uri_in spaces prefix) uri

-- whether this declaration is of the URI, and its prefix is a name and stands for it
abbrev pub declares : List Space → List ℕ → Space → Bool
declares spaces uri s = bytes_eq s.uri uri && stands_for spaces uri s.prefix

-- the prefix of a declaration, where it declares the URI so
abbrev pub declared_prefix : List Space → List ℕ → Option Space → Option (List ℕ)
declared_prefix spaces uri None = None
declared_prefix spaces uri (Some s) = if declares spaces uri s then Some s.prefix else None

-- the prefix of the first of these declarations whose prefix is a name and stands for the URI; empty where none does
abbrev pub prefix_among : List Space → List ℕ → List Space → List ℕ
prefix_among spaces uri [] = []
prefix_among spaces uri (s ∷ ss) = if declares spaces uri s then s.prefix else prefix_among spaces uri ss

-- a prefix that stands for the URI: `xml` for its own, and else a declared one
abbrev pub prefix_for : List Space → List ℕ → List ℕ
prefix_for spaces uri = if bytes_eq uri xml_uri then xml_prefix else prefix_among spaces uri spaces

module _ (spaces : List Space) (names : List NameParts) where
  -- [7], [37] a node test
  abbrev pub test_words : NodeTest → List Word
  test_words test.AnyNode = type_words (codes "node")
  test_words test.AnyText = type_words (codes "text")
  test_words test.AnyComment = type_words (codes "comment")
  test_words test.AnyName = mark kind.Star ∷ []
  test_words (test.Within uri) = (kind.Within, prefix_for spaces (encode_utf8_all uri) ++ codes ":*") ∷ []
  test_words (test.Named id) = (kind.Name, name_text names id) ∷ []

  -- [4] a step that is written out
  abbrev pub full_step : Axis → NodeTest → List Written → List Word
  full_step on test predicates = axis_words on ++ (test_words test ++ predicate_words predicates)

  -- [4], [12] a step
  abbrev pub step_words : Step-F Written (Bool → List WrittenStep → List Word) WrittenStep → List Word
  step_words s = short_or (full_step s.axis s.test s.predicates) (short_for s.axis (is_bare s.test s.predicates))

  abbrev pub step_form : Step-F Written (Bool → List WrittenStep → List Word) WrittenStep → WrittenStep
  step_form s = record { words = step_words s; is_wide = is_descendant_or_self s.axis && is_bare s.test s.predicates }

  -- a path, by its start and its steps
  abbrev pub path_form : PathStart-F Written (Bool → List WrittenStep → List Word) WrittenStep → Bool → List WrittenStep → List Word
  path_form PathStart-F.Context before steps = steps_words None steps
  path_form PathStart-F.Root before steps = absolute_words before steps
  path_form (PathStart-F.From e) before steps = operand 10 false e ++ steps_words (Some kind.Slash) steps

  -- an expression, by its parts
  abbrev pub form : Expr-F Written (Bool → List WrittenStep → List Word) WrittenStep → Written
  form (Expr-F.Or es) = chain_by operator.Or 1 es
  form (Expr-F.And es) = chain_by operator.And 2 es
  form (Expr-F.Compare first others) = chain_of (compares_rank others) first (compared_words others)
  form (Expr-F.Arith first others) = chain_of (ariths_rank others) first (computed_words others)
  form (Expr-F.Negate signs e) = written_as 7 (λ before. sign_words signs ++ operand 8 before e)
  form (Expr-F.Union es) = chain_by operator.Union 8 es
  form (Expr-F.Path start steps) = written_as 9 (λ before. start before steps)
  form (Expr-F.Filter e predicates) = written_as 10 (λ before. operand 11 false e ++ predicate_words predicates)
  form (Expr-F.Text text) = written_as 11 (λ before. (kind.Literal, quoted (encode_utf8_all text)) ∷ [])
  form (Expr-F.Number n) = written_as 11 (λ before. (kind.Number, decimal n) ∷ [])
  form (Expr-F.Variable id) = written_as 11 (λ before. (kind.Variable, 36 ∷ name_text names id) ∷ [])
  form (Expr-F.Call f arguments) = written_as 11 (λ before. (kind.Callee, function_text f) ∷ (mark kind.Open ∷ (argument_words arguments ++ mark kind.Close ∷ [])))

  -- how an expression, a path's start and a step are written
  unfoldable pub shown : Expr → Written
  shown = fold-Expr Written (Bool → List WrittenStep → List Word) WrittenStep form path_form step_form

  unfoldable pub shown_start : PathStart → Bool → List WrittenStep → List Word
  shown_start = fold-PathStart Written (Bool → List WrittenStep → List Word) WrittenStep form path_form step_form

  unfoldable pub shown_step : Step → WrittenStep
  shown_step = fold-Step Written (Bool → List WrittenStep → List Word) WrittenStep form path_form step_form

  -- the text of an expression
  abbrev pub written : Expr → List ℕ
  written tree = spelled ((shown tree).words false)

-- the flag of an operand, by the operator behind it and the flag of the chain
abbrev pub before_next : Option Operator → Bool → Bool
before_next None before = before
before_next (Some op) before = is_named (operator_kind op)

-- Reading back

abbrev pub begins_token : List ℕ → Bool
begins_token [] = false
begins_token (b ∷ bs) = not (is_space b)

-- Each word is the token at the front of what is left of the text. The flag says that a token stands before it that ends an
-- operand (section 3.7).
abbrev pub AreTokens : Bool → List Word → Type 0
AreTokens behind [] = Unit {0}
AreTokens behind (w ∷ ws) = (front behind (spelled (w ∷ ws)) ≡ (w.0, length w.1)) × IsTrue (begins_token w.1) × AreTokens (ends_operand w.0) ws

-- Words that may follow an operand. The flag says that they begin with an operator that is told by the token before it alone.
pub record MayFollow (before : Bool) (ws : List Word) : Type 0 where
  pub behind_operand : AreTokens true ws
  pub behind_slash : before ≡ false → AreTokens false ws
  pub no_callee : name_before (without_spaces (32 ∷ spelled ws)) ≡ kind.Name

-- each of these words is a token where an operand is wanted, before whatever may follow one
abbrev pub Lexes : Bool → List Word → Type 0
Lexes before words = (ws : List Word) → MayFollow before ws → AreTokens false (words ++ ws)

module _ (spaces : List Space) (names : List NameParts) where
  -- what words are to the grammar
  abbrev pub symbols_in : List Word → List Symbol
  symbols_in = map (λ (word : Word). symbol_of spaces names word.0 word.1)

  -- words that are these symbols, and tokens wherever an operand is wanted
  abbrev pub IsReadAs : List Word → List Symbol → Type 0
  IsReadAs words symbols = (symbols_in words ≡ symbols) × Lexes true words

  -- The words that are written for a literal, a number, a variable or a node test are read as it.
  abbrev pub IsLeaf : Symbol → Type 0
  IsLeaf (symbol.Atom e) = ((shown spaces names e).rank ≡ 11) × ((before : Bool) → IsReadAs ((shown spaces names e).words before) (symbol.Atom e ∷ []))
  IsLeaf (symbol.Test t) = IsReadAs (test_words spaces names t) (symbol.Test t ∷ [])
  IsLeaf (symbol.NodeType t) = IsReadAs (test_words spaces names t) (symbol.NodeType t ∷ symbol.Open ∷ symbol.Close ∷ [])
  IsLeaf _ = Unit {0}
