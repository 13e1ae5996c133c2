-- What the leaves of an expression satisfy so that they can be written (this project's own): each name is in the table with a
-- prefix that is bound to its URI, each literal lacks one of the two quotes, and each number has at most 15 digits.
use Rattle.std.specs.Prelude.{◌≡◌, ◌<◌, ◌⊎◌, ◌==◌, ℕ, false, List, [], encode_utf8_all, slice_get, Some}
use Rattle.std.specs.List.{list_any}
use Rattle.std.specs.Str.{chars}
use Rattle.serna_kinds.specs.Names.{NameParts, Space, id_of}
use Rattle.serna_kinds.specs.Qualified.{uri_for}
use Rattle.serna_kinds.specs.declared.cells.NameId.{NameId}
use Rattle.serna_kinds.specs.declared.expressions.NodeTest.{NodeTest}
use Rattle.serna_kinds.specs.declared.expressions.NodeTest.TheVariants as test
use Rattle.xpath_trees.specs.declared.expr.Expr.{Expr}
use Rattle.xpath_trees.specs.declared.expr.Expr.TheVariants as expr
use Rattle.xpath_tokens.specs.declared.symbol.Symbol.{Symbol}
use Rattle.xpath_tokens.specs.declared.symbol.Symbol.TheVariants as symbol
use Rattle.xpath_tokens.specs.Spelling.{IsLocalName}
use Rattle.xpath_tokens.specs.Symbols.{uri_in}
use Rattle.xpath_writer.specs.Writing.{quote_for, prefix_for}

-- no prefix and no URI, or a prefix that is bound to the URI
abbrev pub HasPrefix : List Space → NameParts → Type 0
HasPrefix spaces parts = ((parts.prefix ≡ []) × (parts.uri ≡ [])) ⊎ (IsLocalName parts.prefix × (uri_for spaces parts.prefix ≡ Some parts.uri))

-- a name of the table that can be written
pub record IsWritableName (spaces : List Space) (names : List NameParts) (id : NameId) : Type 0 where
  pub parts : NameParts
  pub stored : slice_get names id.0 ≡ Some parts
  pub numbered : id_of names parts ≡ id
  pub local_is : IsLocalName parts.local
  pub prefix_is : HasPrefix spaces parts

-- [29] a literal without one of the two quotes
abbrev pub IsWritableText : List ℕ → Type 0
IsWritableText text = (chars (encode_utf8_all text) ≡ text) × (list_any (λ b. b == quote_for (encode_utf8_all text)) (encode_utf8_all text) ≡ false)

-- a URI for which a prefix is bound
abbrev pub IsWritableUri : List Space → List ℕ → Type 0
IsWritableUri spaces uri = IsLocalName (prefix_for spaces (encode_utf8_all uri)) × (chars (uri_in spaces (prefix_for spaces (encode_utf8_all uri))) ≡ uri)

-- [38]
abbrev pub IsNodeType : NodeTest → Type 0
IsNodeType test.AnyNode = Unit {0}
IsNodeType test.AnyText = Unit {0}
IsNodeType test.AnyComment = Unit {0}
IsNodeType _ = ⊥

module _ (spaces : List Space) (names : List NameParts) where
  abbrev pub IsWritableTest : NodeTest → Type 0
  IsWritableTest test.AnyName = Unit {0}
  IsWritableTest (test.Within uri) = IsWritableUri spaces uri
  IsWritableTest (test.Named id) = IsWritableName spaces names id
  IsWritableTest _ = ⊥

  abbrev pub IsWritableAtom : Expr → Type 0
  IsWritableAtom e =
      ((id : NameId) × (e ≡ expr.Variable id) × IsWritableName spaces names id) ⊎ ((text : List ℕ) × (e ≡ expr.Text text) × IsWritableText text)
      ⊎ ((n : ℕ) × (e ≡ expr.Number n) × (n < 1000000000000000))

  -- what stands for a leaf of the tree can be written
  abbrev pub IsWritable : Symbol → Type 0
  IsWritable (symbol.Atom e) = IsWritableAtom e
  IsWritable (symbol.Test t) = IsWritableTest t
  IsWritable (symbol.NodeType t) = IsNodeType t
  IsWritable _ = Unit {0}
