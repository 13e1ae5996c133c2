use Rattle.std.proofs.Common.{◌==◌, length, unwrap_or, ap, ◌∙◌, ℕ, Option}
use Rattle.page_print.proofs.FirstLine.{unwrap_position}
use Rattle.page_print.proofs.offers.line_len.Goals as goal

pub returns : goal.returns
returns c =
    c.unwrap_or.ensures ∙ ap (λ (o : Option ℕ). unwrap_or o (length c.args.bytes.now)) c.first_line_feed.ensures ∙ unwrap_position (λ b. b == 10) c.args.bytes.now
