-- A text that is cut at a colon is no local name, and any other is one where it is a name.
use Rattle.std.proofs.Common.{sym, ◌∙◌}
use Rattle.xpath_writer.proofs.Readable.{name_uncut, cut_none}
use Rattle.xpath_writer.proofs.names.is_local_name.Goals as goal

pub returns-in-Some : goal.returns-in-Some
returns-in-Some c = sym (cut_none _ c.parted.result c.args.text.now c.parted.ensures c.in-Some.field-0 c.in-Some.is)

pub returns-in-None : goal.returns-in-None
returns-in-None c = c.is_name.ensures ∙ name_uncut _ c.parted.result c.args.text.now c.parted.ensures c.in-None.is
