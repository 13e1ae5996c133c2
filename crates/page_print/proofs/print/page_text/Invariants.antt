use Rattle.std.proofs.Common.{◌≡◌, take}
use Rattle.std.specs.List.{flat_map}
use Rattle.std.specs.String.{string_bytes}
use Rattle.page_print.specs.Print.{page_text}
use Rattle.page_print.proofs.print.page_text.Given as goal

-- the pages so far are printed
abbrev pub invariant-loop-page : goal.invariant-loop-page
invariant-loop-page l = string_bytes l.out ≡ flat_map page_text (take l.page-index l.pages)
