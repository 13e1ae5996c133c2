-- What each token is to the grammar: names by their numbers in a table, prefixes by the declarations of a document.
use Rattle.std.specs.Prelude.{ℕ, ◌-◌, ◌==◌, ◌&&◌, nat_le, if◌then◌else◌, List, [], ◌∷◌, length, take, drop, map, Option, Some, None, unwrap_or, codes}
use Rattle.std.specs.List.{list_all}
use Rattle.std.specs.Map.{lookup}
use Rattle.std.specs.Str.{bytes_eq, chars}
use Rattle.std.specs.Str.Parse.{digits_value}
use Rattle.serna_kinds.specs.Names.{NameParts, Space, id_of}
use Rattle.serna_kinds.specs.Qualified.{is_digit, parted, prefix_of, attribute_uri, uri_or_none, attribute_name}
use Rattle.serna_kinds.specs.declared.expressions.Axis.{Axis}
use Rattle.serna_kinds.specs.declared.expressions.Axis.TheVariants as axis
use Rattle.serna_kinds.specs.declared.expressions.CompareOp.TheVariants as compare
use Rattle.serna_kinds.specs.declared.expressions.NodeTest.{NodeTest}
use Rattle.serna_kinds.specs.declared.expressions.NodeTest.TheVariants as test
use Rattle.serna_kinds.specs.declared.expressions.TextFunction.TheVariants as on
use Rattle.xpath_trees.specs.declared.expr.ArithOp.TheVariants as arith
use Rattle.xpath_trees.specs.declared.expr.Expr.TheVariants as expr
use Rattle.xpath_trees.specs.declared.expr.Function.{Function}
use Rattle.xpath_trees.specs.declared.expr.Function.TheVariants as function
use Rattle.xpath_tokens.specs.declared.symbol.Operator.TheVariants as operator
use Rattle.xpath_tokens.specs.declared.symbol.Symbol.{Symbol}
use Rattle.xpath_tokens.specs.declared.symbol.Symbol.TheVariants as symbol
use Rattle.xpath_tokens.specs.declared.tokens.Kind.{Kind}
use Rattle.xpath_tokens.specs.declared.tokens.Kind.TheVariants as kind
use Rattle.xpath_tokens.specs.declared.tokens.Token.{Token}
use Rattle.xpath_tokens.specs.Tokens.{tokens_of}

-- how a token is written
abbrev pub written_at : List ℕ → Token → List ℕ
written_at text t = take (t.end - t.start) (drop t.start text)

-- Names

-- The URI that a prefix is bound to: `xml` has its own, whatever is declared, and no prefix stands for no URI (Namespaces in XML
-- 1.0, sections 3 and 6.2; XPath 1.0, section 2.3). What stands for a prefix that is not bound does not matter: it is a fault.
abbrev pub uri_in : List Space → List ℕ → List ℕ
uri_in spaces prefix = uri_or_none (attribute_uri spaces prefix)

-- the name of a variable, behind its `$`
abbrev pub without_dollar : List ℕ → List ℕ
without_dollar [] = []
without_dollar (c ∷ cs) = if c == 36 then cs else c ∷ cs

-- Literals and numbers

abbrev pub text_or_none : Option (List ℕ × List ℕ) → List ℕ
text_or_none None = []
text_or_none (Some parts) = parts.0

-- what stands between the quotes of a literal
abbrev pub inside : List ℕ → List ℕ
inside [] = []
inside (quote ∷ rest) = if quote == 34 then text_or_none (parted 34 rest) else (if quote == 39 then text_or_none (parted 39 rest) else [])

abbrev pub number_value : List ℕ → ℕ
number_value digits = if list_all is_digit digits && nat_le (length digits) 15 then digits_value 10 digits else 0

-- Words

-- [38]
abbrev pub node_types : List (List ℕ × NodeTest)
node_types = (codes "node", test.AnyNode) ∷ (codes "text", test.AnyText) ∷ (codes "comment", test.AnyComment) ∷ []

-- [6] without `namespace`
abbrev pub axes : List (List ℕ × Axis)
axes = (codes "child", axis.Child) ∷ (codes "descendant", axis.Descendant) ∷ (codes "descendant-or-self", axis.DescendantOrSelf) ∷ (codes "self", axis.Itself)
    ∷ (codes "parent", axis.Parent) ∷ (codes "ancestor", axis.Ancestor) ∷ (codes "ancestor-or-self", axis.AncestorOrSelf) ∷ (codes "following-sibling", axis.FollowingSibling)
    ∷ (codes "preceding-sibling", axis.PrecedingSibling) ∷ (codes "following", axis.Following) ∷ (codes "preceding", axis.Preceding) ∷ (codes "attribute", axis.Attribute) ∷ []

-- the functions that are not on strings alone (sections 4.1, 4.3 and 4.4; XSLT 1.0, section 12.4), and `string`
abbrev pub plain_functions : List (List ℕ × Function)
plain_functions = (codes "last", function.Last) ∷ (codes "position", function.Position) ∷ (codes "count", function.Count) ∷ (codes "local-name", function.LocalName)
    ∷ (codes "namespace-uri", function.NamespaceUri) ∷ (codes "name", function.Name) ∷ (codes "string", function.Text) ∷ (codes "boolean", function.Boolean) ∷ (codes "not", function.Not)
    ∷ (codes "true", function.True) ∷ (codes "false", function.False) ∷ (codes "number", function.Number) ∷ (codes "sum", function.Sum) ∷ (codes "floor", function.Floor)
    ∷ (codes "ceiling", function.Ceiling) ∷ (codes "round", function.Round) ∷ (codes "current", function.Current) ∷ (codes "generate-id", function.GenerateId) ∷ []

-- the functions on strings (section 4.2)
abbrev pub text_functions : List (List ℕ × Function)
text_functions = (codes "concat", function.On on.Concat) ∷ (codes "starts-with", function.On on.StartsWith) ∷ (codes "contains", function.On on.Contains) ∷ (codes "substring-before", function.On on.SubstringBefore)
    ∷ (codes "substring-after", function.On on.SubstringAfter) ∷ (codes "substring", function.On on.Substring) ∷ (codes "string-length", function.On on.StringLength)
    ∷ (codes "normalize-space", function.On on.NormalizeSpace) ∷ (codes "translate", function.On on.Translate) ∷ []

abbrev pub or_else : Option Function → Option Function → Option Function
or_else None other = other
or_else (Some f) other = Some f

-- the function of that name, where there is one
abbrev pub function_named : List ℕ → Option Function
function_named name = or_else (lookup (bytes_eq name) plain_functions) (lookup (bytes_eq name) text_functions)

-- a name before `(`: a node type or a function. What stands for an unknown function does not matter: it is a fault.
abbrev pub callee_or : List ℕ → Option NodeTest → Symbol
callee_or name None = symbol.Callee (unwrap_or (function_named name) function.Last)
callee_or name (Some t) = symbol.NodeType t

abbrev pub callee : List ℕ → Symbol
callee name = callee_or name (lookup (bytes_eq name) node_types)

abbrev pub axis_or_wrong : Option Axis → Symbol
axis_or_wrong None = symbol.Wrong
axis_or_wrong (Some a) = symbol.AxisName a

-- a name before `::`; an unknown axis can stand nowhere
abbrev pub axis_named : List ℕ → Symbol
axis_named name = axis_or_wrong (lookup (bytes_eq name) axes)

-- Tokens

-- a token that its kind tells alone
abbrev pub mark_symbol : Kind → Symbol
mark_symbol kind.Open = symbol.Open
mark_symbol kind.Close = symbol.Close
mark_symbol kind.OpenBracket = symbol.OpenBracket
mark_symbol kind.CloseBracket = symbol.CloseBracket
mark_symbol kind.Dot = symbol.Dot
mark_symbol kind.DotDot = symbol.DotDot
mark_symbol kind.At = symbol.At
mark_symbol kind.Comma = symbol.Comma
mark_symbol kind.Colons = symbol.Colons
mark_symbol kind.Slash = symbol.Slash
mark_symbol kind.DoubleSlash = symbol.DoubleSlash
mark_symbol kind.Bar = symbol.Operator operator.Union
mark_symbol kind.Plus = symbol.Operator (operator.Arith arith.Add)
mark_symbol kind.Minus = symbol.Operator (operator.Arith arith.Subtract)
mark_symbol kind.Equal = symbol.Operator (operator.Compare compare.Equal)
mark_symbol kind.NotEqual = symbol.Operator (operator.Compare compare.NotEqual)
mark_symbol kind.Less = symbol.Operator (operator.Compare compare.Less)
mark_symbol kind.LessOrEqual = symbol.Operator (operator.Compare compare.LessOrEqual)
mark_symbol kind.Greater = symbol.Operator (operator.Compare compare.Greater)
mark_symbol kind.GreaterOrEqual = symbol.Operator (operator.Compare compare.GreaterOrEqual)
mark_symbol kind.Multiply = symbol.Operator (operator.Arith arith.Multiply)
mark_symbol kind.And = symbol.Operator operator.And
mark_symbol kind.Or = symbol.Operator operator.Or
mark_symbol kind.Mod = symbol.Operator (operator.Arith arith.Remainder)
mark_symbol kind.Star = symbol.Test test.AnyName
-- a number with a point is a fault, whatever stands for it
mark_symbol kind.Fraction = symbol.Atom (expr.Number 0)
mark_symbol _ = symbol.Wrong

module _ (spaces : List Space) (names : List NameParts) where
  -- A token of this kind, written so. Names get their URIs as attributes do: without a prefix they have none, whatever the default
  -- namespace (section 2.3).
  abbrev pub symbol_of : Kind → List ℕ → Symbol
  symbol_of kind.Within name = symbol.Test (test.Within (chars (uri_in spaces (prefix_of name))))
  symbol_of kind.Name name = symbol.Test (test.Named (id_of names (attribute_name spaces name)))
  symbol_of kind.Callee name = callee name
  symbol_of kind.AxisName name = axis_named name
  symbol_of kind.Literal literal = symbol.Atom (expr.Text (chars (inside literal)))
  symbol_of kind.Number digits = symbol.Atom (expr.Number (number_value digits))
  symbol_of kind.Variable variable = symbol.Atom (expr.Variable (id_of names (attribute_name spaces (without_dollar variable))))
  symbol_of k written = mark_symbol k

  abbrev pub symbols_at : List ℕ → List Token → List Symbol
  symbols_at text = map (λ (t : Token). symbol_of t.kind (written_at text t))

  -- the tokens of a text
  abbrev pub symbols_of : List ℕ → List Symbol
  symbols_of text = symbols_at text (tokens_of text)
