use Rattle.std.proofs.Common.{rules, tests, ◌∙◌}
use Rattle.std.proofs.lemmas.Iterator.{YieldsList-from_slice}
use Rattle.std.proofs.lemmas.Iterator.Search.{any_from_yields_List}
use Rattle.simple_pages.specs.Groups.{is_seen}
use Rattle.simple_pages.specs.Shown.{shown_of}
use Rattle.simple_pages.proofs.Closing.{any_shown}
use Rattle.simple_pages.proofs.runs.is_line.Goals as goal

pub returns : goal.returns
returns c =
    any_from_yields_List (λ run. is_seen (shown_of run)) _ _ c.any.result c.any.ensures.ran (YieldsList-from_slice c.args.group.now cc) (λ x b q k. search (rules, tests))
    ∙ any_shown c.args.group.now
