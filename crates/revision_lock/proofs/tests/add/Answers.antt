use Rattle.std.proofs.Common.{rules, ◌≡◌, [], ◌∷◌, ◌++◌, length, ap, sym, ◌∙◌}
use Rattle.revision_lock.specs.Passes.{noted_in, own_in, own_of}
use Rattle.revision_lock.proofs.tests.add.Goals as goal

pub returns-in-Ok-clause-ok : goal.returns-in-Ok-clause-ok
returns-in-Ok-clause-ok g c =
    let turn = c.enter-turn.result in
    let place = length (noted_in turn) in
    let noted : own_in c.note.new.self ≡ own_of c.args.pass.now ++ (place, c.args.x) ∷ [] =
    c.note.ensures.own c.args.x (search rules) ∙ ap (λ l. l ++ (place, c.args.x) ∷ []) c.enter-turn.ensures.own in
    (place, search (rules, noted))
