use Rattle.std.proofs.Common.{◌∙◌, Result, Ok, Err, OnOk, subst}
use Rattle.std.proofs.lemmas.List.{take_all}
use Rattle.serna_kinds.proofs.NameLemmas.{Grows-trans}
use Rattle.xpath_tokens.specs.Named.{HasNames}
use Rattle.xpath_tokens.proofs.TokenLists.{symbols_more, named_more, table_more}
use Rattle.xpath_tokens.proofs.symbols.symbols_at.Goals as goal

pub loop-token-preserved : goal.loop-token-preserved
loop-token-preserved c = record {
  symbols_are = λ later grows.
      c.in_ok-push.ensures.ok
      ∙ symbols_more c.args.spaces.now c.args.text.now c.args.tokens.now c.loop-token.token-index _ c.loop-token-test.true _ c.written_at-written.ensures later c.loop-token.symbols _
      (c.loop-token.invariant.symbols_are later (Grows-trans c.loop-token.names c.symbol_of.new.names later c.symbol_of.ensures.grows grows)) (c.in_ok-symbol_of.ensures.symbol later grows);
  named = λ later grows.
      named_more c.args.spaces.now c.args.text.now c.args.tokens.now c.loop-token.token-index _ c.loop-token-test.true _ c.written_at-written.ensures later
      (c.loop-token.invariant.named later (Grows-trans c.loop-token.names c.symbol_of.new.names later c.symbol_of.ensures.grows grows)) (c.in_ok-symbol_of.ensures.named later grows);
  names_are = table_more c.args.spaces.now c.args.text.now c.args.tokens.now c.loop-token.token-index _ c.loop-token-test.true _ c.written_at-written.ensures c.args.names.now c.loop-token.names c.symbol_of.new.names
      c.loop-token.invariant.names_are c.in_ok-symbol_of.ensures.names;
  grows = Grows-trans c.args.names.now c.loop-token.names c.symbol_of.new.names c.loop-token.invariant.grows c.symbol_of.ensures.grows;
}

held : {A E P : Type 0} (r : Result A E) → P → OnOk r P
held (Ok x) p = p
held (Err e) p = tt

pub returns-clause-named : goal.returns-clause-named
returns-clause-named c =
    held c.from_items.result
    (λ later grows. subst (HasNames c.args.spaces.now later c.args.text.now) (take_all c.loop-token.token-index c.args.tokens.now c.loop-token-test.false) (c.loop-token.invariant.named later grows))
