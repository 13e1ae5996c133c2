use Rattle.std.proofs.Common.{◌≡◌, ◌++◌, length, rules, sym, ap, ◌∙◌}
use Rattle.std.proofs.lemmas.List.{append-nil}
use Rattle.template_run.proofs.TextLemmas.{value_none}
use Rattle.template_run.proofs.result.RunResult.say_value.Goals as goal

pub returns-then-is_empty : goal.returns-then-is_empty
returns-then-is_empty c =
    let empty : length c.as_text.result.now ≡ 0 = search rules in
    sym (append-nil c.args.self.now)
    ∙ ap (λ ps. c.args.self.now ++ ps) (value_none c.args.node c.args.name c.args.value.now c.as_text.result.now c.as_text.ensures.characters empty)
