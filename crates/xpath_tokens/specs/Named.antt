-- The names of a text's tokens, and the table with them.
use Rattle.std.specs.Prelude.{◌≡◌, ℕ, List, [], ◌∷◌, slice_get, Some, fold}
use Rattle.std.specs.List.{AllByRecursion, flat_map}
use Rattle.serna_kinds.specs.Names.{NameParts, Space, id_of, with_name}
use Rattle.xpath_tokens.specs.declared.tokens.Kind.{Kind}
use Rattle.xpath_tokens.specs.declared.tokens.Kind.TheVariants as kind
use Rattle.xpath_tokens.specs.declared.tokens.Token.{Token}
use Rattle.serna_kinds.specs.Qualified.{attribute_name}
use Rattle.xpath_tokens.specs.Symbols.{without_dollar, written_at}

-- the name of a token of this kind that is written so, where it has one
abbrev pub names_in : List Space → Kind → List ℕ → List NameParts
names_in spaces kind.Name name = attribute_name spaces name ∷ []
names_in spaces kind.Variable variable = attribute_name spaces (without_dollar variable) ∷ []
names_in spaces _ written = []

-- the names of tokens, in the tokens' order
abbrev pub names_of : List Space → List ℕ → List Token → List NameParts
names_of spaces text = flat_map (λ (t : Token). names_in spaces t.kind (written_at text t))

-- the table with these names, in their order: one that it has adds nothing, another goes last
abbrev pub with_names : List NameParts → List NameParts → List NameParts
with_names table names = fold with_name table names

-- the table has the name
abbrev pub IsStored : List NameParts → NameParts → Type 0
IsStored names parts = slice_get names (id_of names parts).0 ≡ Some parts

-- the table has the name of a token of this kind that is written so, where it has one
abbrev pub HasName : List Space → List NameParts → Kind → List ℕ → Type 0
HasName spaces names kind.Name name = IsStored names (attribute_name spaces name)
HasName spaces names kind.Variable variable = IsStored names (attribute_name spaces (without_dollar variable))
HasName spaces names _ written = Unit {0}

-- the table has the names of these tokens
abbrev pub HasNames : List Space → List NameParts → List ℕ → List Token → Type 0
HasNames spaces names text = AllByRecursion (λ (t : Token). HasName spaces names t.kind (written_at text t))
