use Rattle.std.proofs.Common.{◌∙◌, refl, sym, true≢false}
use Rattle.source_model.specs.Cells.{spot_of, cell_of}
use Rattle.xpath_axes.proofs.StringLemmas.{may_step, string_joined, string_comment, ok_weaker}
use Rattle.xpath_axes.proofs.strings.node_string.Goals as goal

pub returns-in_err-found-clause-within : goal.returns-in_err-found-clause-within
returns-in_err-found-clause-within g c allowed source agrees may old = c.kind_of.ensures.within allowed (may_step allowed source 122 121 c.args.node refl may).0 old

pub returns-then-is_comment-clause-before : goal.returns-then-is_comment-clause-before
returns-then-is_comment-clause-before g c other agrees = c.kind_of.ensures.before other (c.comment_string.ensures.before other agrees)

pub returns-then-is_comment-clause-value : goal.returns-then-is_comment-clause-value
returns-then-is_comment-clause-value g c =
    ok_weaker c.comment_string.result
    (λ text told table source proper agrees.
    string_comment (spot_of source c.args.node.0) c.in_ok-found.found text (c.in_ok-found.ensures.value source (c.comment_string.ensures.before (cell_of source) agrees))
    (c.is_comment.ensures.0 c.if-is_comment.true) (λ spot at. told source spot agrees at))
    c.comment_string.ensures.value

pub returns-then-is_comment-clause-within : goal.returns-then-is_comment-clause-within
returns-then-is_comment-clause-within g c allowed source agrees may old =
    let own = may_step allowed source 122 121 c.args.node refl may in
    c.comment_string.ensures.within allowed own.2 (c.kind_of.ensures.within allowed own.0 old)

pub returns-else-is_comment-clause-before : goal.returns-else-is_comment-clause-before
returns-else-is_comment-clause-before g c other agrees = c.kind_of.ensures.before other (c.joined_string.ensures.before other agrees)

pub returns-else-is_comment-clause-value : goal.returns-else-is_comment-clause-value
returns-else-is_comment-clause-value g c =
    ok_weaker c.joined_string.result
    (λ text told table source proper agrees.
    told source agrees
    ∙ string_joined table source c.args.node c.in_ok-found.found proper (c.in_ok-found.ensures.value source (c.joined_string.ensures.before (cell_of source) agrees))
    (λ e. absurd (true≢false (sym (c.is_comment.ensures.1 e) ∙ c.if-is_comment.false))))
    c.joined_string.ensures.value

pub returns-else-is_comment-clause-within : goal.returns-else-is_comment-clause-within
returns-else-is_comment-clause-within g c allowed source agrees may old =
    let own = may_step allowed source 122 121 c.args.node refl may in
    c.joined_string.ensures.within allowed source agrees may (c.kind_of.ensures.within allowed own.0 old)
