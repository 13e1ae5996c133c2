-- A declaration more, or the one that is wanted.
use Rattle.std.proofs.Common.{◌∙◌}
use Rattle.xpath_writer.proofs.Writes.{prefix_found, prefix_past}
use Rattle.xpath_writer.proofs.names.declared_for.Goals as goal

pub returns-in-Some : goal.returns-in-Some
returns-in-Some c = prefix_found c.args.spaces.now c.args.uri.now c.args.spaces.now c.loop-place.place c.in-Some.prefix.now c.in-Some.ensures ∙ c.loop-place.invariant

pub loop-place-preserved : goal.loop-place-preserved
loop-place-preserved c = prefix_past c.args.spaces.now c.args.uri.now c.args.spaces.now c.loop-place.place c.in_default.ensures ∙ c.loop-place.invariant
