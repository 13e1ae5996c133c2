use Rattle.std.proofs.Common.{◌==◌, Some, None, rules, tests}
use Rattle.std.proofs.lemmas.Iterator.{YieldsList-from_slice}
use Rattle.std.proofs.lemmas.Iterator.Search.{position_from_yields_List}
use Rattle.xpath_tokens.proofs.Runs.{literal_ends, literal_open}
use Rattle.xpath_tokens.proofs.tokens.literal.Goals as goal

pub returns-in-Some-clause-value : goal.returns-in-Some-clause-value
returns-in-Some-clause-value c =
    let found = position_from_yields_List (λ b. b == c.args.quote) _ _ (Some c.in-Some.end) c.in-Some.ensures.ran (YieldsList-from_slice c.args.rest.now cc) (λ x b q k. search (rules, tests)) in
    literal_ends c.args.quote c.args.rest.now c.in-Some.end found

pub returns-in-None-clause-value : goal.returns-in-None-clause-value
returns-in-None-clause-value c =
    let found = position_from_yields_List (λ b. b == c.args.quote) _ _ None c.in-None.ensures.ran (YieldsList-from_slice c.args.rest.now cc) (λ x b q k. search (rules, tests)) in
    literal_open c.args.quote c.args.rest.now found
