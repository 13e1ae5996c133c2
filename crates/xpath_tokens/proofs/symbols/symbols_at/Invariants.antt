use Rattle.std.proofs.Common.{◌≡◌, List, take}
use Rattle.serna_kinds.specs.Names.{NameParts, Grows}
use Rattle.xpath_tokens.specs.Symbols.{symbols_at}
use Rattle.xpath_tokens.specs.Named.{HasNames, names_of, with_names}
use Rattle.xpath_tokens.proofs.symbols.symbols_at.Given as goal

abbrev pub invariant-loop-token : goal.invariant-loop-token
invariant-loop-token l = record {
  symbols_are : (later : List NameParts) → Grows l.names later → l.symbols ≡ symbols_at l.spaces later l.text (take l.token-index l.tokens);
  named : (later : List NameParts) → Grows l.names later → HasNames l.spaces later l.text (take l.token-index l.tokens);
  names_are : l.names ≡ with_names l.fn.names (names_of l.spaces l.text (take l.token-index l.tokens));
  grows : Grows l.fn.names l.names;
}
