use Rattle.std.proofs.Common.{◌≡◌, ◌-◌, ◌++◌, length, take, drop, arith, ap, ◌∙◌, sym, List, ℕ}
use Rattle.std.proofs.lemmas.List.{take_rest, take-append-drop, length-drop}
use Rattle.page_print.proofs.Bytes.{written_more, front_then}
use Rattle.page_print.proofs.offers.offer_lines.Goals as goal

pub lines-preserved : goal.lines-preserved
lines-preserved g c =
    let inv = c.lines.invariant in
    let rest : List ℕ = take (length c.args.text.now - c.lines.done) (drop c.lines.done c.args.text.now) in
    let is : rest ≡ drop c.lines.done c.args.text.now = take_rest c.args.text.now c.lines.done in
    let long : length rest ≡ length c.args.text.now - c.lines.done = ap length is ∙ length-drop c.lines.done c.args.text.now in
    let within = c.line_end-len.ensures.within in (
      omega (arith, inv.0, within, long),
      written_more (g.K.Sink.held c.args.sink.now) (g.K.Sink.held c.lines.sink) (g.K.Sink.held c.offer_piece.new.sink) c.lines.done c.line_end-len.result c.args.text.now rest is inv.1 (c.offer_piece.ensures.written c.if-not-offer_piece.false),
      c.offer_piece.ensures.kept c.if-not-offer_piece.false ∙ inv.2,
    )

pub returns-then-not-offer_piece-clause-front : goal.returns-then-not-offer_piece-clause-front
returns-then-not-offer_piece-clause-front g c =
    let text : List ℕ = c.args.text.now in
    let done : ℕ = c.lines.done in
    let len : ℕ = c.line_end-len.result in
    let rest : List ℕ = take (length text - done) (drop done text) in
    let is : rest ≡ drop done text = take_rest text done in
    front_then (g.K.Sink.held c.args.sink.now) (g.K.Sink.held c.lines.sink) (g.K.Sink.held c.offer_piece.new.sink) (take done text) (take len rest) (drop len rest) text
    (sym (take-append-drop done text) ∙ ap (λ r. take done text ++ r) (sym is ∙ sym (take-append-drop len rest))) c.lines.invariant.1 c.offer_piece.ensures.front
