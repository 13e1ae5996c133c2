-- the boundaries of the pages so far
use Rattle.std.proofs.Common.{◌≡◌, ◌++◌, take}
use Rattle.std.specs.List.{flat_map}
use Rattle.plain_editor.specs.Stops.{page_boundaries}
use Rattle.live_editor.specs.Shown.{boundaries_of}
use Rattle.live_editor.proofs.view.push_pages.Given as goal

abbrev pub invariant-loop-page : goal.invariant-loop-page
invariant-loop-page l = boundaries_of l.boundaries.items ≡ boundaries_of l.initial.boundaries.items ++ flat_map page_boundaries (take l.page-index l.pages)
