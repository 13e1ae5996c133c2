-- A text that breaks no rule has room.
use Rattle.std.proofs.Common.{sym, ◌∙◌}
use Rattle.tree_lines.proofs.StepLemmas.{text_few, text_short}
use Rattle.tree_lines.proofs.reader.Reader.text.Goals as goal

pub add_text-requires : goal.add_text-requires
add_text-requires c =
    let unbroken = sym c.text_rule.ensures ∙ c.in_default.is in
    record {
      few = text_few c.args.self.now c.args.text.now c.in_ok-decoded.decoded.meant c.in_ok-decoded.ensures.text unbroken;
      short = text_short c.args.self.now c.args.text.now c.in_ok-decoded.decoded.meant c.in_ok-decoded.ensures.text unbroken;
    }
