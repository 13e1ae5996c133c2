-- How tokens are written, by the productions of XPath 1.0, section 3.7, and that the tokens of a text make it up. What is said
-- here is no reader's rule: laws tie it to the tokens of Tokens.antt.
use Rattle.std.specs.Prelude.{◌≡◌, ◌≤◌, ◌⊎◌, ℕ, ◌+◌, ◌==◌, Bool, true, false, not, IsTrue, List, [], ◌∷◌, ◌++◌, length, drop, codes}
use Rattle.std.specs.List.{AllByRecursion}
use Rattle.serna_kinds.specs.Blanks.{is_space}
use Rattle.serna_kinds.specs.Qualified.{is_digit, begins_name, continues_name}
use Rattle.xpath_tokens.specs.declared.tokens.Kind.{Kind}
use Rattle.xpath_tokens.specs.declared.tokens.Kind.TheVariants as kind
use Rattle.xpath_tokens.specs.declared.tokens.Token.{Token}
use Rattle.xpath_tokens.specs.Tokens.{ends_operand}

-- [39]
abbrev pub AreSpaces : List ℕ → Type 0
AreSpaces = AllByRecursion (λ b. IsTrue (is_space b))

-- [31]
abbrev pub AreDigits : List ℕ → Type 0
AreDigits = AllByRecursion (λ b. IsTrue (is_digit b))

-- a name without a colon (Namespaces in XML 1.0, NCName)
abbrev pub IsLocalName : List ℕ → Type 0
IsLocalName [] = ⊥
IsLocalName (b ∷ bs) = IsTrue (begins_name b) × AllByRecursion (λ c. IsTrue (continues_name c)) bs

-- a local name, or a prefix, a colon and a local name (Namespaces in XML 1.0, QName)
abbrev pub IsName : List ℕ → Type 0
IsName s = IsLocalName s ⊎ ((prefix : List ℕ) × (local : List ℕ) × IsLocalName prefix × IsLocalName local × (s ≡ prefix ++ (58 ∷ local)))

-- [29] a text without the quote that stands before it and behind it
pub record IsLiteral (s : List ℕ) : Type 0 where
  pub quote : ℕ
  pub text : List ℕ
  pub quote_is : (quote ≡ 34) ⊎ (quote ≡ 39)
  pub text_is : AllByRecursion (λ b. (b == quote) ≡ false) text
  pub written : s ≡ quote ∷ (text ++ quote ∷ [])

-- [30] digits with a point, a digit at least; this project has no more than 15
pub record IsFraction (s : List ℕ) : Type 0 where
  pub before : List ℕ
  pub after : List ℕ
  pub before_are : AreDigits before
  pub after_are : AreDigits after
  pub some : 1 ≤ length before + length after
  pub few : length before + length after ≤ 15
  pub written : s ≡ before ++ (46 ∷ after)

-- how a token of each kind is written; what is no token is not told
abbrev pub IsSpelled : Kind → List ℕ → Type 0
IsSpelled kind.Open s = s ≡ codes "("
IsSpelled kind.Close s = s ≡ codes ")"
IsSpelled kind.OpenBracket s = s ≡ codes "["
IsSpelled kind.CloseBracket s = s ≡ codes "]"
IsSpelled kind.Dot s = s ≡ codes "."
IsSpelled kind.DotDot s = s ≡ codes ".."
IsSpelled kind.At s = s ≡ codes "@"
IsSpelled kind.Comma s = s ≡ codes ","
IsSpelled kind.Colons s = s ≡ codes "::"
IsSpelled kind.Slash s = s ≡ codes "/"
IsSpelled kind.DoubleSlash s = s ≡ codes "//"
IsSpelled kind.Bar s = s ≡ codes "|"
IsSpelled kind.Plus s = s ≡ codes "+"
IsSpelled kind.Minus s = s ≡ codes "-"
IsSpelled kind.Equal s = s ≡ codes "="
IsSpelled kind.NotEqual s = s ≡ codes "!="
IsSpelled kind.Less s = s ≡ codes "<"
IsSpelled kind.LessOrEqual s = s ≡ codes "<="
IsSpelled kind.Greater s = s ≡ codes ">"
IsSpelled kind.GreaterOrEqual s = s ≡ codes ">="
IsSpelled kind.Multiply s = s ≡ codes "*"
IsSpelled kind.And s = s ≡ codes "and"
IsSpelled kind.Or s = s ≡ codes "or"
IsSpelled kind.Mod s = s ≡ codes "mod"
IsSpelled kind.Star s = s ≡ codes "*"
IsSpelled kind.Within s = (prefix : List ℕ) × IsLocalName prefix × (s ≡ prefix ++ codes ":*")
IsSpelled kind.Name s = IsName s
IsSpelled kind.Callee s = IsName s
IsSpelled kind.AxisName s = IsName s
IsSpelled kind.Literal s = IsLiteral s
IsSpelled kind.Number s = AreDigits s × (length s ≤ 15)
IsSpelled kind.Fraction s = IsFraction s
IsSpelled kind.Variable s = (name : List ℕ) × IsName name × (s ≡ 36 ∷ name)
IsSpelled kind.Wrong s = Unit {0}

-- The text from this place on is these tokens, with white space alone before each and behind the last; each is written as its
-- kind is and has its places.
abbrev pub MakeUp : ℕ → List Token → List ℕ → Type 0
MakeUp at [] text = AreSpaces text
MakeUp at (t ∷ ts) text = (gap : List ℕ) × (written : List ℕ) × (rest : List ℕ) × AreSpaces gap × (text ≡ gap ++ (written ++ rest)) × IsSpelled t.kind written × (1 ≤ length written)
    × (t.start ≡ at + length gap) × (t.end ≡ t.start + length written) × MakeUp t.end ts rest

-- The longest token, and where none can stand

-- what is spelled at the front of the text as a token is no longer than this
abbrev pub IsLongest : List ℕ → ℕ → Type 0
IsLongest text n = (k : Kind) (written rest : List ℕ) → text ≡ written ++ rest → IsSpelled k written → (k ≡ kind.Wrong) ⊎ (length written ≤ n)

-- [30] digits, with a point or without, however many: a digit at least
pub record IsNumeral (s : List ℕ) : Type 0 where
  pub before : List ℕ
  pub after : List ℕ
  pub before_are : AreDigits before
  pub after_are : AreDigits after
  pub some : 1 ≤ length before + length after
  pub written : (s ≡ before) ⊎ (s ≡ before ++ (46 ∷ after))

-- The kinds of token that may stand, where the flag says that the token before ends an operand: behind it `*` multiplies and a
-- name is an operator's, and elsewhere neither is.
abbrev pub may_stand : Bool → Kind → Bool
may_stand behind kind.Wrong = false
may_stand behind kind.Multiply = behind
may_stand behind kind.And = behind
may_stand behind kind.Or = behind
may_stand behind kind.Mod = behind
may_stand behind kind.Star = not behind
may_stand behind kind.Name = not behind
may_stand behind kind.Callee = not behind
may_stand behind kind.AxisName = not behind
may_stand behind _ = true

-- A token can stand at the front of the text: it is spelled there, may stand behind the token before, and is cut off from no
-- longer token and no longer number.
pub record CanStand (behind : Bool) (text : List ℕ) : Type 0 where
  pub is : Kind
  pub written : List ℕ
  pub rest : List ℕ
  pub whole : text ≡ written ++ rest
  pub some : 1 ≤ length written
  pub spelled : IsSpelled is written
  pub stands : IsTrue (may_stand behind is)
  pub longest : IsLongest text (length written)
  pub whole_number : (longer more : List ℕ) → text ≡ longer ++ more → IsNumeral longer → length longer ≤ length written

-- Of these tokens of the text, of which the first stands behind such a token as the flag says, each is Wrong only where no token
-- can stand.
abbrev pub AreWrongWhereNoneStands : List ℕ → Bool → List Token → Type 0
AreWrongWhereNoneStands text behind [] = Unit {0}
AreWrongWhereNoneStands text behind (t ∷ ts) = (t.kind ≡ kind.Wrong → CanStand behind (drop t.start text) → ⊥) × AreWrongWhereNoneStands text (ends_operand t.kind) ts
