-- what the pages so far show
use Rattle.std.proofs.Common.{◌≡◌, ◌++◌, codes, take}
use Rattle.std.specs.List.{flat_map}
use Rattle.std.specs.String.{string_bytes}
use Rattle.page_print.specs.Print.{page_shown}
use Rattle.page_print.proofs.print.plain_text.Given as goal

abbrev pub invariant-loop-page : goal.invariant-loop-page
invariant-loop-page l = string_bytes l.out ≡ codes "plain " ++ flat_map page_shown (take l.page-index l.pages)
