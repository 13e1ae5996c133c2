-- The modules that a stylesheet is made of; at most one, so far.
use Rattle.std.specs.Prelude.{◌≡◌, true, List, [], ◌∷◌}
use Rattle.serna_kinds.specs.Names.{NameParts}
use Rattle.tree_lines.specs.Given.{Given, items_of}
use Rattle.tree_lines.specs.Tokens.{AreNamed, with_names}
use Rattle.style_sheet.specs.declared.reading.Module.{Module}
use Rattle.style_sheet.specs.Sheet.{StyleValue, no_style}
use Rattle.style_sheet.specs.Styles.{style_of, matched_names}
use Rattle.style_sheet.specs.Built.{is_built}

-- the names of the modules' trees are the table's
abbrev pub AreNamedModules : List NameParts → List Module → Type 0
AreNamedModules names [] = Unit {0}
AreNamedModules names (module_ ∷ modules) = AreNamed names module_.tree.items × AreNamedModules names modules

-- the tree of a module
abbrev pub IsTreeOf : Module → Given → Type 0
IsTreeOf module_ tree = module_.tree.items ≡ items_of tree

-- the modules are of the built form: none, or one that is
abbrev pub AreBuilt : List NameParts → List Module → Type 0
AreBuilt names [] = Unit {0}
AreBuilt names (module_ ∷ []) = (tree : Given) → IsTreeOf module_ tree → is_built names module_.tree.spaces tree ≡ true
AreBuilt names (module_ ∷ other ∷ modules) = ⊥

-- the stylesheet that the modules are, with the numbers that names have in this table
abbrev pub IsStyle : List NameParts → List Module → StyleValue → Type 0
IsStyle names [] style = style ≡ no_style
IsStyle names (module_ ∷ []) style = (tree : Given) → IsTreeOf module_ tree → style ≡ style_of names module_.tree.spaces tree
IsStyle names (module_ ∷ other ∷ modules) style = ⊥

-- the table with the names that the modules' rules are for
abbrev pub HasMatched : List NameParts → List Module → List NameParts → Type 0
HasMatched old [] new = new ≡ old
HasMatched old (module_ ∷ []) new = (tree : Given) → IsTreeOf module_ tree → new ≡ with_names old (matched_names module_.tree.spaces tree)
HasMatched old (module_ ∷ other ∷ modules) new = ⊥
