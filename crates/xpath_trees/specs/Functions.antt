-- How many arguments functions take.
use Rattle.std.specs.Prelude.{ℕ, ◌==◌, ◌&&◌, nat_le, Bool}
use Rattle.serna_kinds.specs.declared.expressions.TextFunction.{TextFunction}
use Rattle.serna_kinds.specs.declared.expressions.TextFunction.TheVariants as on
use Rattle.xpath_trees.specs.declared.expr.Function.{Function}
use Rattle.xpath_trees.specs.declared.expr.Function.TheVariants as function

-- whether a function on strings takes so many arguments (XPath 1.0, section 4.2)
abbrev pub takes_text : TextFunction → ℕ → Bool
takes_text on.Concat n = nat_le 2 n
takes_text on.StartsWith n = n == 2
takes_text on.Contains n = n == 2
takes_text on.SubstringBefore n = n == 2
takes_text on.SubstringAfter n = n == 2
takes_text on.Substring n = nat_le 2 n && nat_le n 3
takes_text on.StringLength n = nat_le n 1
takes_text on.NormalizeSpace n = nat_le n 1
takes_text on.Translate n = n == 3

-- whether a function takes so many arguments (XPath 1.0, section 4; XSLT 1.0, section 12.4)
abbrev pub takes : Function → ℕ → Bool
takes function.Last n = n == 0
takes function.Position n = n == 0
takes function.Count n = n == 1
takes function.LocalName n = nat_le n 1
takes function.NamespaceUri n = nat_le n 1
takes function.Name n = nat_le n 1
takes function.Text n = nat_le n 1
takes (function.On f) n = takes_text f n
takes function.Boolean n = n == 1
takes function.Not n = n == 1
takes function.True n = n == 0
takes function.False n = n == 0
takes function.Number n = nat_le n 1
takes function.Sum n = n == 1
takes function.Floor n = n == 1
takes function.Ceiling n = n == 1
takes function.Round n = n == 1
takes function.Current n = n == 0
takes function.GenerateId n = nat_le n 1
