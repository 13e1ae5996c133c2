use Rattle.std.proofs.Common.{ap, ◌∙◌, sym, subst}
use Rattle.tree_lines.specs.Declarations.{spaces_in}
use Rattle.tree_lines.specs.Given.{numbers_of}
use Rattle.tree_lines.specs.Tokens.{names_with}
use Rattle.serna_main.specs.Sections.{ArePlain}
use Rattle.serna_main.proofs.Splitting.{plain_lines, not_plain}
use Rattle.serna_main.proofs.opening.tree_of.Goals as goal

pub returns-then-not-are_plain-clause-none : goal.returns-then-not-are_plain-clause-none
returns-then-not-are_plain-clause-none c = λ document built plain spelled.
    not_plain c.args.lines.now (sym c.if-not-are_plain.ensures) (subst ArePlain (sym spelled) plain)

pub returns-in-Ok-clause-read : goal.returns-in-Ok-clause-read
returns-in-Ok-clause-read c =
    let found = c.in-Ok.ensures.document in
    record {
      document = found.0;
      built = found.1;
      plain = subst ArePlain found.2 (plain_lines c.args.lines.now (sym c.if-not-are_plain.ensures));
      spelled = found.2;
      table = c.in-Ok.ensures.table ∙ ap (names_with c.args.names.now) found.2;
      grows = c.in-Ok.ensures.grows;
      numbers = numbers_of c.args.lines.now;
      items = c.in-Ok.ensures.given;
      spaces = λ other e. c.in-Ok.ensures.spaces ∙ ap spaces_in e;
      named = c.in-Ok.ensures.named;
    }
