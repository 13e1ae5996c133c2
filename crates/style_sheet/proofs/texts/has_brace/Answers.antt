use Rattle.std.proofs.Common.{rules, tests, ap, ◌∙◌}
use Rattle.std.specs.List.{list_any}
use Rattle.std.proofs.lemmas.Iterator.{YieldsList-from_chars}
use Rattle.std.proofs.lemmas.Iterator.Search.{any_from_yields_List}
use Rattle.style_sheet.specs.Built.{is_brace}
use Rattle.style_sheet.proofs.texts.has_brace.Goals as goal

pub returns : goal.returns
returns c =
    any_from_yields_List is_brace _ _ c.any.result c.any.ensures.ran (YieldsList-from_chars c.as_text.result.now c.as_text.utf8 cc)
    (λ x b q k. search (rules, tests))
    ∙ ap (list_any is_brace) c.as_text.ensures.characters
