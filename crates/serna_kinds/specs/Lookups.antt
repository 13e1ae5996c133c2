-- How declared namespaces are looked up by their prefixes (this project's own).
use Rattle.std.specs.Prelude.{◌≡◌, ℕ, ◌&&◌, List, Option, Some, None, IsTrue}
use Rattle.std.specs.List.{AllByRecursion}
use Rattle.std.specs.Option.{option_map}
use Rattle.std.specs.Str.{is_utf8}
use Rattle.std.specs.Arc.{arc_str_bytes}
use Rattle.std.specs.declared.string.String.{String}
use Rattle.std.specs.HashMap.{HashMap, get_by_text}
use Rattle.std.specs.declared.hash.FoldHasher.{FoldHasher}
use Rattle.std.specs.declared.hash.BuildHasherDefault.{BuildHasherDefault}
use Rattle.std.specs.declared.alloc.Global.{Global}
use Rattle.std.specs.declared.sync.ArcStr.{ArcStr}
use Rattle.serna_kinds.specs.Names.{Space, uri_of}

abbrev pub or_else : {A : Type 0} → Option A → Option A → Option A
or_else (Some x) y = Some x
or_else None y = y

-- prefixes and URIs are UTF-8
abbrev pub AreTexts : List Space → Type 0
AreTexts spaces = AllByRecursion (λ (space : Space). IsTrue (is_utf8 space.prefix && is_utf8 space.uri)) spaces

abbrev pub Uris : Type 0
Uris = HashMap (String Global) (ArcStr Global) (BuildHasherDefault FoldHasher)

-- the bytes of the URI that the map has for a prefix
abbrev pub uri_in : Uris → List ℕ → Option (List ℕ)
uri_in uris prefix = option_map arc_str_bytes (get_by_text uris prefix)

-- the map has the URI of the first declaration of each prefix
pub record AreIndexed (spaces : List Space) (uris : Uris) : Type 0 where
  pub texts : AreTexts spaces
  pub first : (prefix : List ℕ) → uri_in uris prefix ≡ uri_of spaces prefix
