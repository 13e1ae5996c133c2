use Rattle.std.proofs.Common.{length, sym}
use Rattle.std.proofs.lemmas.Bool.{eqb-false}
use Rattle.serna_main.proofs.Openings.{named_by}
use Rattle.serna_main.proofs.opening.is_style_name.Goals as goal

pub returns-then-not-is_empty : goal.returns-then-not-is_empty
returns-then-not-is_empty c = named_by c.args.name.now c.is_graphic.result (eqb-false (length c.args.name.now) 0 (sym c.if-not-is_empty.ensures)) c.is_graphic.ensures
