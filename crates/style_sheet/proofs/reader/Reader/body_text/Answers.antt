-- White space that is not kept says nothing.
use Rattle.std.proofs.Common.{sym, ap, ◌∙◌}
use Rattle.style_sheet.specs.Instructions.{Instructions}
use Rattle.style_sheet.specs.Instructions as instruction
use Rattle.style_sheet.specs.Steps.{saying}
use Rattle.style_sheet.proofs.Behind.{text-unsaid, saying-nothing}
use Rattle.style_sheet.proofs.reader.Reader.body_text.Goals as goal

pub returns-then-not-kept : goal.returns-then-not-kept
returns-then-not-kept c =
    let none = text-unsaid c.args.kept c.args.text.now instruction.nothing
    (sym c.is_blank.ensures ∙ c.if-is_blank.true) c.if-not-kept.true in
    sym (ap (λ (more : Instructions). saying more c.args.self.now) none ∙ saying-nothing c.args.self.now)
