use Rattle.std.proofs.Common.{subst}
use Rattle.std.specs.Option.{IfSome}
use Rattle.serna_main.specs.Sections.{IsRead}
use Rattle.serna_main.proofs.Replies.{bytes_of}
use Rattle.serna_main.proofs.Openings.{begins_by}
use Rattle.serna_main.proofs.opening.document_of.Goals as goal

pub returns-in_ok-begin-in-Some-clause-begun : goal.returns-in_ok-begin-in-Some-clause-begun
returns-in_ok-begin-in-Some-clause-begun c =
    begins_by (bytes_of c.args.lines.now) c.args.names.now c.tree_of.new.names c.in-Some.tree c.in_ok-begin-in-Some.field-0.source
    (subst (λ o. IfSome o (IsRead (bytes_of c.args.lines.now) c.args.names.now c.tree_of.new.names)) c.in-Some.is c.in_ok-tree.ensures.read)
    c.in_ok-begin-in-Some.ensures.source c.in_ok-begin-in-Some.ensures.proper
