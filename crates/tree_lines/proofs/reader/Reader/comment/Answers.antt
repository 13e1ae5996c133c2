use Rattle.std.proofs.Common.{sym, ◌∙◌}
use Rattle.tree_lines.proofs.StepLemmas.{comment_few}
use Rattle.tree_lines.proofs.reader.Reader.comment.Goals as goal

pub add_comment-requires : goal.add_comment-requires
add_comment-requires c = comment_few c.args.self.now c.args.text.now (sym c.comment_rule.ensures ∙ c.in_default.is)
