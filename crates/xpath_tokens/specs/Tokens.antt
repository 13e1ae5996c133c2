-- The tokens of an expression (XPath 1.0, section 3.7, productions 28 to 39). A text is its UTF-8 bytes. Each place has
-- the longest token that can stand there. No fault is looked for here: where no token can stand, the last one is Wrong and
-- takes all that is left.
use Rattle.std.specs.Prelude.{◌≤◌, ℕ, zero, suc, ◌+◌, ◌-◌, Bool, true, false, not, ◌&&◌, ◌||◌, ◌==◌, nat_lt, pred, if◌then◌else◌, List, [], ◌∷◌, length, take, drop, Option, Some, None, codes}
use Rattle.std.specs.Str.{bytes_eq, IsCharBoundary}
use Rattle.std.specs.List.{position_or_len}
use Rattle.serna_kinds.specs.Blanks.{is_space}
use Rattle.serna_kinds.specs.Qualified.{is_digit, begins_name, continues_name}
use Rattle.xpath_tokens.specs.declared.tokens.Kind.{Kind}
use Rattle.xpath_tokens.specs.declared.tokens.Kind.TheVariants as kind
use Rattle.xpath_tokens.specs.declared.tokens.Token.{Token}

-- Names

-- how many bytes from the front pass the test
abbrev pub run : (ℕ → Bool) → List ℕ → ℕ
run passes text = position_or_len (λ b. not (passes b)) text

-- the length of the local name at the front of the text, 0 where there is none (Namespaces in XML 1.0, NCName)
abbrev pub local_length : List ℕ → ℕ
local_length [] = 0
local_length (b ∷ rest) = if begins_name b then suc (run continues_name rest) else 0

-- the length of a local name, and of what a colon and a local name behind it add
abbrev pub qualified : ℕ → List ℕ → ℕ
qualified n [] = n
qualified n (c ∷ rest) = if (c == 58) && nat_lt 0 (local_length rest) then n + suc (local_length rest) else n

-- the length of the name at the front of the text, 0 where there is none: a local name, or a prefix, a colon and a local
-- name (Namespaces in XML 1.0, QName)
abbrev pub name_length : List ℕ → ℕ
name_length text = if nat_lt 0 (local_length text) then qualified (local_length text) (drop (local_length text) text) else 0

-- whether the text goes on with `:*`
abbrev pub begins_any : List ℕ → Bool
begins_any (c ∷ d ∷ rest) = (c == 58) && (d == 42)
begins_any _ = false

-- The token before

-- Whether the token before is none of `@`, `::`, `(`, `[` and `,` and is no operator: then `*` multiplies, and a name is
-- an operator name.
abbrev pub ends_operand : Kind → Bool
ends_operand kind.Close = true
ends_operand kind.CloseBracket = true
ends_operand kind.Dot = true
ends_operand kind.DotDot = true
ends_operand kind.Star = true
ends_operand kind.Within = true
ends_operand kind.Name = true
ends_operand kind.Callee = true
ends_operand kind.AxisName = true
ends_operand kind.Literal = true
ends_operand kind.Number = true
ends_operand kind.Fraction = true
ends_operand kind.Variable = true
ends_operand kind.Wrong = true
ends_operand _ = false

-- The tokens, each by its kind and its length

abbrev pub wrong : List ℕ → Kind × ℕ
wrong text = (kind.Wrong, length text)

-- [29] a literal, behind its first quote: it goes to the next such quote
abbrev pub literal : ℕ → List ℕ → Kind × ℕ
literal quote rest =
    let n = position_or_len (λ c. c == quote) rest in
    if nat_lt n (length rest) then (kind.Literal, n + 2) else (kind.Wrong, suc (length rest))

-- a number of so many digits, with a point or without. This project's own: no more than 15 digits in all.
abbrev pub counted : Kind → ℕ → ℕ → List ℕ → Kind × ℕ
counted is digits size text = if nat_lt 15 digits then wrong text else (is, size)

-- behind the first digits, of which there are so many, a point and more digits
abbrev pub pointed : ℕ → List ℕ → List ℕ → Kind × ℕ
pointed n [] text = counted kind.Number n n text
pointed n (c ∷ rest) text =
    if c == 46 then counted kind.Fraction (n + run is_digit rest) (n + suc (run is_digit rest)) text else counted kind.Number n n text

-- [30] a number
abbrev pub number : List ℕ → Kind × ℕ
number text = pointed (run is_digit text) (drop (run is_digit text) text) text

-- [36] a variable, behind its `$`
abbrev pub variable : List ℕ → Kind × ℕ
variable rest = if nat_lt 0 (name_length rest) then (kind.Variable, suc (name_length rest)) else (kind.Wrong, suc (length rest))

-- [33] the operator that the name is, where it is one. This project has no `div`.
abbrev pub operator_named : List ℕ → Option Kind
operator_named name =
    if bytes_eq name (codes "and") then Some kind.And else
    if bytes_eq name (codes "or") then Some kind.Or else
    if bytes_eq name (codes "mod") then Some kind.Mod else None

abbrev pub operator_or_wrong : Option Kind → ℕ → List ℕ → Kind × ℕ
operator_or_wrong None n text = wrong text
operator_or_wrong (Some operator) n text = (operator, n)

-- what a name is by what follows it, white space aside: before `(` a function or a node type, before `::` an axis
abbrev pub name_before : List ℕ → Kind
name_before [] = kind.Name
name_before (b ∷ []) = if b == 40 then kind.Callee else kind.Name
name_before (b ∷ c ∷ rest) = if b == 40 then kind.Callee else (if (b == 58) && (c == 58) then kind.AxisName else kind.Name)

abbrev pub without_spaces : List ℕ → List ℕ
without_spaces text = drop (run is_space text) text

-- a name, by the token before it and the text behind it
abbrev pub named : Bool → ℕ → List ℕ → Kind × ℕ
named behind n text = if behind then operator_or_wrong (operator_named (take n text)) n text else (name_before (without_spaces (drop n text)), n)

-- [33], [35], [37], [38] a name or `p:*`
abbrev pub word : Bool → List ℕ → Kind × ℕ
word behind text =
    if begins_any (drop (local_length text) text) then (kind.Within, local_length text + 2) else named behind (name_length text) text

-- [28], [32] the marks of two characters
abbrev pub pair_at : ℕ → ℕ → Option Kind
pair_at a b =
    if (a == 58) && (b == 58) then Some kind.Colons else
    if (a == 46) && (b == 46) then Some kind.DotDot else
    if (a == 47) && (b == 47) then Some kind.DoubleSlash else
    if (a == 33) && (b == 61) then Some kind.NotEqual else
    if (a == 60) && (b == 61) then Some kind.LessOrEqual else
    if (a == 62) && (b == 61) then Some kind.GreaterOrEqual else None

-- [28], [32] the marks of one character
abbrev pub single_at : ℕ → Option Kind
single_at b =
    if b == 40 then Some kind.Open else
    if b == 41 then Some kind.Close else
    if b == 91 then Some kind.OpenBracket else
    if b == 93 then Some kind.CloseBracket else
    if b == 46 then Some kind.Dot else
    if b == 64 then Some kind.At else
    if b == 44 then Some kind.Comma else
    if b == 47 then Some kind.Slash else
    if b == 124 then Some kind.Bar else
    if b == 43 then Some kind.Plus else
    if b == 45 then Some kind.Minus else
    if b == 61 then Some kind.Equal else
    if b == 60 then Some kind.Less else
    if b == 62 then Some kind.Greater else None

abbrev pub single_or_wrong : Option Kind → List ℕ → Kind × ℕ
single_or_wrong None text = wrong text
single_or_wrong (Some mark) text = (mark, 1)

abbrev pub pair_or_single : Option Kind → ℕ → List ℕ → Kind × ℕ
pair_or_single None b text = single_or_wrong (single_at b) text
pair_or_single (Some mark) b text = (mark, 2)

-- a mark, the longer one where two can stand
abbrev pub mark : List ℕ → Kind × ℕ
mark [] = wrong []
mark (b ∷ []) = single_or_wrong (single_at b) (b ∷ [])
mark (b ∷ c ∷ rest) = pair_or_single (pair_at b c) b (b ∷ c ∷ rest)

-- [34], [37]
abbrev pub star : Bool → Kind
star behind = if behind then kind.Multiply else kind.Star

abbrev pub begins_digit : List ℕ → Bool
begins_digit [] = false
begins_digit (b ∷ rest) = is_digit b

-- whether the text begins with a digit, or with a point and a digit
abbrev pub begins_number : List ℕ → Bool
begins_number [] = false
begins_number (b ∷ rest) = is_digit b || ((b == 46) && begins_digit rest)

-- The token at the front of a text, which begins with no white space. The flag says that a token stands before it that
-- ends an operand.
abbrev pub front : Bool → List ℕ → Kind × ℕ
front behind [] = wrong []
front behind (b ∷ rest) =
    if (b == 34) || (b == 39) then literal b rest else
    if begins_number (b ∷ rest) then number (b ∷ rest) else
    if b == 36 then variable rest else
    if begins_name b then word behind (b ∷ rest) else
    if b == 42 then (star behind, 1) else
    mark (b ∷ rest)

abbrev pub token_at : ℕ → Kind × ℕ → Token
token_at at t = record { kind = t.0; start = at; end = at + t.1 }

-- The tokens of what is left of a text, from this place on. So many bytes still belong to the token that has begun; a byte
-- behind them is white space or begins a token.
unfoldable pub tokens_from : ℕ → Bool → ℕ → List ℕ → List Token
tokens_from skip behind at [] = []
tokens_from (suc skip) behind at (b ∷ rest) = tokens_from skip behind (suc at) rest
tokens_from zero behind at (b ∷ rest) =
    if is_space b then tokens_from zero behind (suc at) rest else
    (let t = front behind (b ∷ rest) in token_at at t ∷ tokens_from (pred t.1) (ends_operand t.0) (suc at) rest)

-- the tokens of a text, with their places
abbrev pub tokens_of : List ℕ → List Token
tokens_of text = tokens_from zero false 0 text

-- a token begins and ends between two characters of the text
abbrev pub IsCut : List ℕ → Token → Type 0
IsCut text t = (t.start ≤ t.end) × IsCharBoundary text t.start × IsCharBoundary (drop t.start text) (t.end - t.start)
