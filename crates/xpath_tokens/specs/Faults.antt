-- The faults of an expression or pattern (this project's own rules, 20 to 24), each at the first byte of its token.
use Rattle.std.specs.Prelude.{ℕ, suc, ◌+◌, ◌-◌, ◌==◌, ◌&&◌, Bool, true, false, if◌then◌else◌, List, [], ◌∷◌, length, take, slice_get, Option, Some, None, is_some, option_map, unwrap_or, codes}
use Rattle.std.specs.Map.{lookup}
use Rattle.std.specs.Str.{bytes_eq}
use Rattle.serna_kinds.specs.Names.{Space}
use Rattle.serna_kinds.specs.Qualified.{prefix_of, attribute_uri}
use Rattle.xpath_trees.specs.declared.expr.Function.{Function}
use Rattle.xpath_trees.specs.Functions.{takes}
use Rattle.xpath_tokens.specs.declared.tokens.Kind.{Kind}
use Rattle.xpath_tokens.specs.declared.tokens.Kind.TheVariants as kind
use Rattle.xpath_tokens.specs.declared.tokens.Token.{Token}
use Rattle.xpath_tokens.specs.declared.faults.ReadAs.{ReadAs}
use Rattle.xpath_tokens.specs.declared.faults.ReadAs.TheVariants as how
use Rattle.xpath_tokens.specs.declared.faults.ExprRule.{ExprRule}
use Rattle.xpath_tokens.specs.declared.faults.ExprRule.TheVariants as rule
use Rattle.xpath_tokens.specs.Symbols.{written_at, without_dollar, node_types, function_named}

-- Arguments

abbrev pub opens : Kind → Bool
opens kind.Open = true
opens kind.OpenBracket = true
opens _ = false

abbrev pub closes : Kind → Bool
closes kind.Close = true
closes kind.CloseBracket = true
closes _ = false

abbrev pub is_comma : Kind → Bool
is_comma kind.Comma = true
is_comma _ = false

-- The commas up to the bracket that closes the innermost open one, besides those in inner brackets, of which so many are open.
-- None where it is not closed.
abbrev pub commas : ℕ → ℕ → List Token → Option ℕ
commas depth n [] = None
commas depth n (t ∷ ts) =
    if opens t.kind then commas (depth + 1) n ts else
    if closes t.kind then (if depth == 0 then Some n else commas (depth - 1) n ts) else
    if is_comma t.kind && (depth == 0) then commas depth (n + 1) ts else commas depth n ts

-- how many arguments stand behind the `(` of a call, where the call is closed
abbrev pub arguments_behind : List Token → Option ℕ
arguments_behind [] = None
arguments_behind (t ∷ ts) = if closes t.kind then Some 0 else option_map suc (commas 0 0 (t ∷ ts))

-- the same behind the function's name
abbrev pub arguments_of : List Token → Option ℕ
arguments_of [] = None
arguments_of (t ∷ ts) = arguments_behind ts

-- Faults

abbrev pub wrong_arity : Function → Option ℕ → Option ExprRule
wrong_arity f None = None
wrong_arity f (Some n) = if takes f n then None else Some rule.WrongArity

abbrev pub function_fault : Option Function → List Token → Option ExprRule
function_fault None behind = Some rule.UnknownFunction
function_fault (Some f) behind = wrong_arity f (arguments_of behind)

-- the function of that name, where there is one: a pattern has no `current` (XSLT 1.0, section 12.4)
abbrev pub function_in : ReadAs → List ℕ → Option Function
function_in how.Expression name = function_named name
function_in how.Pattern name = if bytes_eq name (codes "current") then None else function_named name

-- a name before `(`, with the tokens behind it
abbrev pub callee_fault : ReadAs → List ℕ → List Token → Option ExprRule
callee_fault as_what name behind = if is_some (lookup (bytes_eq name) node_types) then None else function_fault (function_in as_what name) behind

-- a name whose prefix is not bound
abbrev pub prefix_fault : List Space → List ℕ → Option ExprRule
prefix_fault spaces name = if is_some (attribute_uri spaces (prefix_of name)) then None else Some rule.UnboundPrefix

-- the fault of a token of this kind that is written so, with the tokens behind it; 20 aside
abbrev pub fault_at : ReadAs → List Space → Kind → List ℕ → List Token → Option ExprRule
fault_at as_what spaces kind.Fraction written behind = Some rule.Fraction
fault_at as_what spaces kind.Within written behind = prefix_fault spaces written
fault_at as_what spaces kind.Name written behind = prefix_fault spaces written
fault_at as_what spaces kind.Variable written behind = prefix_fault spaces (without_dollar written)
fault_at as_what spaces kind.Callee written behind = callee_fault as_what written behind
fault_at as_what spaces _ written behind = None

abbrev pub or_later : Option ExprRule → ℕ → Option (ExprRule × ℕ) → Option (ExprRule × ℕ)
or_later None place later = later
or_later (Some found) place later = Some (found, place)

-- the first token that has such a fault
abbrev pub fault_among : ReadAs → List Space → List ℕ → List Token → Option (ExprRule × ℕ)
fault_among as_what spaces text [] = None
fault_among as_what spaces text (t ∷ ts) = or_later (fault_at as_what spaces t.kind (written_at text t) ts) t.start (fault_among as_what spaces text ts)

-- the place of token number k, and the length of the text where there are only k tokens
abbrev pub place_of : List ℕ → List Token → ℕ → ℕ
place_of text tokens k = unwrap_or (option_map (λ (t : Token). t.start) (slice_get tokens k)) (length text)

-- Where no expression, or no pattern, can go on with token number k that is 20, and of the other faults only those count whose tokens stand
-- before it. The first one stands first.
abbrev pub fault_before : ReadAs → List Space → List ℕ → List Token → ℕ → ExprRule × ℕ
fault_before as_what spaces text tokens k = unwrap_or (fault_among as_what spaces text (take k tokens)) (rule.Syntax, place_of text tokens k)
