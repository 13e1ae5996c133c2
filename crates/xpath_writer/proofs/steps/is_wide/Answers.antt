-- The step that `//` stands for, test by test.
use Rattle.std.proofs.Common.{◌&&◌, sym, ap, ◌∙◌}
use Rattle.xpath_writer.specs.Writing.{is_bare}
use Rattle.xpath_writer.proofs.Writes.{wide-is}
use Rattle.xpath_writer.proofs.steps.is_wide.Goals as goal

pub returns-then-is_descendant_or_self : goal.returns-then-is_descendant_or_self
returns-then-is_descendant_or_self c =
    let s = c.args.step.now in
    c.is_bare-bare.ensures
    ∙ ap (is_bare s.test) c.as_slice.ensures
    ∙ sym (ap (λ v. v && is_bare s.test s.predicates) (sym c.is_descendant_or_self.ensures ∙ c.if-is_descendant_or_self.true))
    ∙ sym (wide-is c.args.spaces.now c.args.names.now s)

pub returns-else-is_descendant_or_self : goal.returns-else-is_descendant_or_self
returns-else-is_descendant_or_self c =
    let s = c.args.step.now in
    c.if-is_descendant_or_self.false
    ∙ sym (ap (λ v. v && is_bare s.test s.predicates) (sym c.is_descendant_or_self.ensures ∙ c.if-is_descendant_or_self.false))
    ∙ sym (wide-is c.args.spaces.now c.args.names.now s)
