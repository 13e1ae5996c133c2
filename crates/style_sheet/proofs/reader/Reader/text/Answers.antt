-- Texts that say nothing leave what was read as it is.
use Rattle.std.proofs.Common.{sym, ap, ◌∙◌}
use Rattle.std.proofs.lemmas.Result.{on_ok_weaker}
use Rattle.style_sheet.specs.declared.reader.Place.{Place}
use Rattle.style_sheet.specs.Steps.{text_at}
use Rattle.style_sheet.proofs.Behind.{unsaid, unsaid-blank}
use Rattle.style_sheet.proofs.reader.Reader.text.Goals as goal

pub returns-in-Before-clause-done : goal.returns-in-Before-clause-done
returns-in-Before-clause-done c =
    unsaid c.args.self.now c.args.text.now (ap (λ (here : Place). text_at here c.args.text.now) (sym c.here.ensures ∙ c.in-Before.is))

pub returns-in-Sheet-clause-done : goal.returns-in-Sheet-clause-done
returns-in-Sheet-clause-done c =
    let here = ap (λ (place : Place). text_at place c.args.text.now) (sym c.here.ensures ∙ c.in-Sheet.is) in
    on_ok_weaker c.only_blank.result (unsaid-blank c.args.self.now c.args.text.now here) c.only_blank.ensures.done

pub returns-in-Apply-clause-done : goal.returns-in-Apply-clause-done
returns-in-Apply-clause-done c =
    let here = ap (λ (place : Place). text_at place c.args.text.now) (sym c.here.ensures ∙ c.in-Apply.is) in
    on_ok_weaker c.only_blank-in-Apply.result (unsaid-blank c.args.self.now c.args.text.now here) c.only_blank-in-Apply.ensures.done

pub returns-in-Behind-clause-done : goal.returns-in-Behind-clause-done
returns-in-Behind-clause-done c =
    unsaid c.args.self.now c.args.text.now (ap (λ (here : Place). text_at here c.args.text.now) (sym c.here.ensures ∙ c.in-Behind.is))
