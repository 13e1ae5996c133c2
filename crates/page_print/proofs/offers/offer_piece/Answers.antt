use Rattle.std.proofs.Common.{◌≡◌, ◌-◌, length, take, drop, arith, ap, ◌∙◌, sym, subst, List, ℕ}
use Rattle.serna_outside.specs.Outside.{Appends}
use Rattle.std.proofs.lemmas.List.{take_rest, length-drop}
use Rattle.page_print.proofs.Bytes.{written_more, front_part}
use Rattle.page_print.proofs.offers.offer_piece.Goals as goal

pub rest-preserved : goal.rest-preserved
rest-preserved g c =
    let inv = c.rest.invariant in
    let offered : List ℕ = take (length c.args.piece.now - c.rest.done) (drop c.rest.done c.args.piece.now) in
    let is : offered ≡ drop c.rest.done c.args.piece.now = take_rest c.args.piece.now c.rest.done in
    let bytes = c.in-Took.ensures.bytes in
    let long : length offered ≡ length c.args.piece.now - c.rest.done = ap length is ∙ length-drop c.rest.done c.args.piece.now in
    (omega (arith, inv.0, bytes.1, long), written_more _ _ _ c.rest.done c.in-Took.n c.args.piece.now offered is inv.1 bytes.2, c.in-Took.ensures.counted ∙ inv.2)

pub returns-in-Failed-clause-front : goal.returns-in-Failed-clause-front
returns-in-Failed-clause-front g c =
    let inv = c.rest.invariant in
    front_part (g.K.Sink.held c.args.sink.now) (g.K.Sink.held c.write.new.self) c.rest.done c.args.piece.now
    (subst (λ h. Appends (g.K.Sink.held c.args.sink.now) h (take c.rest.done c.args.piece.now)) (sym c.in-Failed.ensures.bytes) inv.1)
